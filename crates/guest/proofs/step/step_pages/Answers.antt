use Rattle.std.proofs.Common.{sym, ap, subst, ◌∙◌}
use Rattle.machine.specs.Bus.{Lacks}
use Rattle.machine.specs.Accesses.{accesses, first_lack}
use Rattle.machine.specs.Step.{Machine, machine_with, step}
use Rattle.page_moves.specs.Faith.{Kept}
use Rattle.guest_bus.specs.Buses.{GuestBusIs, board_of}
use Rattle.guest_bus.proofs.Same.{same_buses}
use Rattle.guest.specs.Views.{pages_seen, Shows}
use Rattle.guest.proofs.Showing.{shows_after, kept_after}
use Rattle.guest.proofs.Stepping.{same_lacks, step_happened, step_cpu}
use Rattle.guest.proofs.step.step_pages.Goals as goal

pub returns-in-Done-clause-shows : goal.returns-in-Done-clause-shows
returns-in-Done-clause-shows c = λ made m zeros s.
    let cpu = c.args.cpu.now in
    let b = c.args.bus.now in
    let before = c.step.new.bus in
    let told = c.in-Done.ensures in
    let none = ap (λ (lacks : Lacks). first_lack lacks (accesses (machine_with cpu (board_of b)))) (sym (same_lacks b.pages)) ∙ sym told.need in
    let board = ap (λ (n : Machine). n.board) told.moves in
    let h = step_happened m cpu b before c.whole.ensures c.requires.settled s zeros none board told.waiting c.settled.ensures.whole told.kept in
    let processor = step_cpu m cpu b before c.whole.ensures c.requires.settled s zeros none board told.waiting c.settled.ensures.whole told.kept c.step.new.self (ap (λ (n : Machine). n.cpu) told.moves) in
    subst (λ (bus : GuestBusIs). Shows (step m) c.step.new.self bus) (sym c.settled.ensures.bus) (shows_after b before m (step m) h cpu c.step.new.self processor s)

pub returns-in-Done-clause-kept : goal.returns-in-Done-clause-kept
returns-in-Done-clause-kept c = λ made m zeros s held k.
    let cpu = c.args.cpu.now in
    let b = c.args.bus.now in
    let before = c.step.new.bus in
    let told = c.in-Done.ensures in
    let none = ap (λ (lacks : Lacks). first_lack lacks (accesses (machine_with cpu (board_of b)))) (sym (same_lacks b.pages)) ∙ sym told.need in
    let board = ap (λ (n : Machine). n.board) told.moves in
    let h = step_happened m cpu b before c.whole.ensures c.requires.settled s zeros none board told.waiting c.settled.ensures.whole told.kept in
    subst (λ (bus : GuestBusIs). Kept held (pages_seen (step m)) bus.pages) (sym c.settled.ensures.bus) (kept_after b before m (step m) h held k)

pub returns-in-Need-clause-hands_back : goal.returns-in-Need-clause-hands_back
returns-in-Need-clause-hands_back c =
    let told = c.in-Need.ensures in
    ap (λ (b : GuestBusIs). b.pages)
    (same_buses c.step.new.bus c.args.bus.now c.whole-in-Need.ensures c.whole.ensures told.waiting c.requires.settled told.kept (ap (λ (n : Machine). n.board) told.moves))

pub returns-in-Need-clause-unchanged : goal.returns-in-Need-clause-unchanged
returns-in-Need-clause-unchanged c = λ needs.
    let told = c.in-Need.ensures in (
      ap (λ (n : Machine). n.cpu) told.moves,
      same_buses c.step.new.bus c.args.bus.now c.whole-in-Need.ensures c.whole.ensures told.waiting c.requires.settled told.kept (ap (λ (n : Machine). n.board) told.moves),
    )
