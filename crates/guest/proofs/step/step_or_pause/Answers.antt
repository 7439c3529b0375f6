use Rattle.std.proofs.Common.{ℕ, ◌≡◌, ◌<◌, length, Option, Some, None, sym, ap, subst, ◌∙◌}
use Rattle.machine.specs.Bus.{Lacks}
use Rattle.machine.specs.Accesses.{accesses, first_lack}
use Rattle.machine.specs.Step.{Machine, machine_with, step}
use Rattle.page_moves.specs.Faith.{Kept}
use Rattle.guest_bus.specs.Buses.{GuestBusIs, board_of, pages_settled, page_returned}
use Rattle.guest_bus.proofs.Same.{same_buses}
use Rattle.guest.specs.Views.{pages_seen, Shows}
use Rattle.guest.proofs.Reaching.{need_inside}
use Rattle.guest.proofs.Showing.{settled_already, shows_after, kept_after}
use Rattle.guest.proofs.Stepping.{same_lacks, step_happened, step_cpu}
use Rattle.guest.proofs.step.step_or_pause.Goals as goal

pub returns-in-None-clause-shows : goal.returns-in-None-clause-shows
returns-in-None-clause-shows c = λ made m zeros s.
    let cpu = c.args.cpu.now in
    let b = c.args.bus.now in
    let before = c.step.new.bus in
    let told = c.in-Done.ensures in
    let none = ap (λ (lacks : Lacks). first_lack lacks (accesses (machine_with cpu (board_of b)))) (sym (same_lacks b.pages)) ∙ sym told.need in
    let board = ap (λ (n : Machine). n.board) told.moves in
    let h = step_happened m cpu b before c.whole.ensures c.requires.settled s zeros none board told.waiting c.whole-in-None.ensures told.kept in
    let processor = step_cpu m cpu b before c.whole.ensures c.requires.settled s zeros none board told.waiting c.whole-in-None.ensures told.kept c.step.new.self (ap (λ (n : Machine). n.cpu) told.moves) in
    subst (λ (bus : GuestBusIs). Shows (step m) c.step.new.self bus) (settled_already before (sym c.waiting.ensures ∙ c.in-None.is))
    (shows_after b before m (step m) h cpu c.step.new.self processor s)

pub returns-in-None-clause-kept : goal.returns-in-None-clause-kept
returns-in-None-clause-kept c = λ made m zeros s held k.
    let cpu = c.args.cpu.now in
    let b = c.args.bus.now in
    let before = c.step.new.bus in
    let told = c.in-Done.ensures in
    let none = ap (λ (lacks : Lacks). first_lack lacks (accesses (machine_with cpu (board_of b)))) (sym (same_lacks b.pages)) ∙ sym told.need in
    let board = ap (λ (n : Machine). n.board) told.moves in
    let h = step_happened m cpu b before c.whole.ensures c.requires.settled s zeros none board told.waiting c.whole-in-None.ensures told.kept in
    subst (λ (bus : GuestBusIs). Kept held (pages_seen (step m)) bus.pages) (settled_already before (sym c.waiting.ensures ∙ c.in-None.is))
    (kept_after b before m (step m) h held k)

pub returns-in-Some-clause-shows : goal.returns-in-Some-clause-shows
returns-in-Some-clause-shows c = λ made m zeros s.
    let cpu = c.args.cpu.now in
    let b = c.args.bus.now in
    let before = c.step.new.bus in
    let told = c.in-Done.ensures in
    let none = ap (λ (lacks : Lacks). first_lack lacks (accesses (machine_with cpu (board_of b)))) (sym (same_lacks b.pages)) ∙ sym told.need in
    let board = ap (λ (n : Machine). n.board) told.moves in
    let h = step_happened m cpu b before c.whole.ensures c.requires.settled s zeros none board told.waiting c.settled.ensures.whole told.kept in
    let processor = step_cpu m cpu b before c.whole.ensures c.requires.settled s zeros none board told.waiting c.settled.ensures.whole told.kept c.step.new.self (ap (λ (n : Machine). n.cpu) told.moves) in
    subst (λ (bus : GuestBusIs). Shows (step m) c.step.new.self bus) (sym c.settled.ensures.bus) (shows_after b before m (step m) h cpu c.step.new.self processor s)

pub returns-in-Some-clause-kept : goal.returns-in-Some-clause-kept
returns-in-Some-clause-kept c = λ made m zeros s held k.
    let cpu = c.args.cpu.now in
    let b = c.args.bus.now in
    let before = c.step.new.bus in
    let told = c.in-Done.ensures in
    let none = ap (λ (lacks : Lacks). first_lack lacks (accesses (machine_with cpu (board_of b)))) (sym (same_lacks b.pages)) ∙ sym told.need in
    let board = ap (λ (n : Machine). n.board) told.moves in
    let h = step_happened m cpu b before c.whole.ensures c.requires.settled s zeros none board told.waiting c.settled.ensures.whole told.kept in
    subst (λ (bus : GuestBusIs). Kept held (pages_seen (step m)) bus.pages) (sym c.settled.ensures.bus) (kept_after b before m (step m) h held k)

pub returns-in-Need-clause-unchanged : goal.returns-in-Need-clause-unchanged
returns-in-Need-clause-unchanged c = λ needs.
    let told = c.in-Need.ensures in (
      ap (λ (n : Machine). n.cpu) told.moves,
      same_buses c.step.new.bus c.args.bus.now c.whole-in-Need.ensures c.whole.ensures told.waiting c.requires.settled told.kept (ap (λ (n : Machine). n.board) told.moves),
    )

pub returns-in-None-clause-lacking : goal.returns-in-None-clause-lacking
returns-in-None-clause-lacking c = λ made.
    ap (λ (lacks : Lacks). first_lack lacks (accesses (machine_with c.args.cpu.now (board_of c.args.bus.now)))) (sym (same_lacks c.args.bus.now.pages)) ∙ sym c.in-Done.ensures.need

pub returns-in-Some-clause-lacking : goal.returns-in-Some-clause-lacking
returns-in-Some-clause-lacking c = λ made.
    ap (λ (lacks : Lacks). first_lack lacks (accesses (machine_with c.args.cpu.now (board_of c.args.bus.now)))) (sym (same_lacks c.args.bus.now.pages)) ∙ sym c.in-Done.ensures.need

pub returns-in-Some-clause-moves : goal.returns-in-Some-clause-moves
returns-in-Some-clause-moves c = λ made. ap (machine_with c.step.new.self) c.settled.ensures.board ∙ c.in-Done.ensures.moves

pub returns-in-None-clause-paused : goal.returns-in-None-clause-paused
returns-in-None-clause-paused c = λ made. (sym c.in-Done.ensures.waiting ∙ sym c.waiting.ensures ∙ c.in-None.is, c.in-Done.ensures.kept)

pub returns-in-Some-clause-paused : goal.returns-in-Some-clause-paused
returns-in-Some-clause-paused c = λ made.
    let told = c.in-Done.ensures in
    let b = c.settled.ensures.bus in (
      λ none.
          let not : None ≡ Some c.in-Some.field-0 = sym none ∙ sym told.waiting ∙ sym c.waiting.ensures ∙ c.in-Some.is in
          absurd (cc),
      record {
        before = c.step.new.bus.pages;
        same = told.kept;
        pages = ap (λ (bus : GuestBusIs). bus.pages) b ∙ ap (λ (given : Option ℕ). pages_settled given c.step.new.bus.pages) told.waiting;
        what = c.settled.ensures.returned ∙ ap (λ (given : Option ℕ). page_returned given c.step.new.bus.pages) told.waiting;
      },
    )

pub returns-in-Need-clause-there : goal.returns-in-Need-clause-there
returns-in-Need-clause-there c = λ p why is.
    let b = c.args.bus.now in
    let inside = need_inside c.args.cpu.now b (Some (c.in-Need.lacking, c.in-Need.why)) c.whole.ensures c.requires.settled
    (c.in-Need.ensures.need ∙ ap (λ (lacks : Lacks). first_lack lacks (accesses (machine_with c.args.cpu.now (board_of b)))) (same_lacks b.pages)) in
    let e : c.in-Need.lacking ≡ p = cc in
    subst (λ (n : ℕ). n < length b.pages) e inside
