use Rattle.std.proofs.Common.{◌≡◌, ◌<◌, ℕ, List, Option, length, Some, None, sym, ap, subst, ◌∙◌}
use Rattle.std.specs.Prelude.{IfSome}
use Rattle.machine.specs.Board.{given_away}
use Rattle.guest_pages.specs.Pages.{memory_of}
use Rattle.guest_bus.specs.Buses.{board_of}
use Rattle.guest_bus.proofs.Boards.{cleared_whole}
use Rattle.guest_bus.proofs.bus.GuestBus.settle.Goals as goal

-- the page that leaves its place was zeros in the board already
pub returns-in-Some-clause-board : goal.returns-in-Some-clause-board
returns-in-Some-clause-board c =
    let pages = c.self.inside.map in
    let memory = memory_of pages in
    let there = subst (λ (waiting : Option ℕ). IfSome waiting (λ (p : ℕ). p < length pages)) c.in-Some.is c.self.invariant.1 in
    ap (λ (bytes : List ℕ). record { memory = bytes; devices = c.self.inside.devices })
    (c.give.ensures.memory ∙ cleared_whole memory c.in-Some.p (length pages) c.len-pages.ensures.memory there)
    ∙ ap (λ (waiting : Option ℕ). record { memory = given_away waiting memory; devices = c.self.inside.devices }) (sym c.in-Some.is)
    ∙ ap board_of c.self.view_is
