use Rattle.std.proofs.Common.{ap, ◌∙◌, subst}
use Rattle.machine.specs.Bus.{Lacks}
use Rattle.machine.specs.Step.{Machine, machine_with}
use Rattle.guest_bus.specs.Buses.{board_of}
use Rattle.guest_bus.proofs.Same.{same_buses}
use Rattle.mips_fast.specs.Runs.{steps, AreQuiet}
use Rattle.guest.proofs.Quiet.{quiet_shows, quiet_kept}
use Rattle.guest.proofs.Stepping.{same_lacks}
use Rattle.guest.proofs.step.run_quietly.Goals as goal

pub returns-clause-shows : goal.returns-clause-shows
returns-clause-shows c = λ seat m zeros s.
    let told = c.run-made.ensures in
    quiet_shows c.run-made.result m c.args.cpu.now c.run-made.new.cpu c.args.bus.now c.run-made.new.bus c.whole.ensures c.whole-2.ensures c.requires.settled
    told.settled s zeros told.moves told.quiet told.kept seat

pub returns-clause-kept : goal.returns-clause-kept
returns-clause-kept c = λ seat m zeros s held k.
    let told = c.run-made.ensures in
    quiet_kept c.run-made.result m c.args.cpu.now c.run-made.new.cpu c.args.bus.now c.run-made.new.bus c.whole.ensures c.whole-2.ensures c.requires.settled
    told.settled s zeros told.moves told.quiet told.kept seat held k

pub returns-clause-unchanged : goal.returns-clause-unchanged
returns-clause-unchanged c = λ none.
    let told = c.run-made.ensures in
    let same = told.moves ∙ ap (λ n. steps n (machine_with c.args.cpu.now (board_of c.args.bus.now))) none in (
      ap (λ (m : Machine). m.cpu) same,
      same_buses c.run-made.new.bus c.args.bus.now c.whole-2.ensures c.whole.ensures told.settled c.requires.settled told.kept (ap (λ (m : Machine). m.board) same),
    )

pub returns-clause-quiet : goal.returns-clause-quiet
returns-clause-quiet c =
    subst (λ (lacks : Lacks). AreQuiet lacks c.run-made.result (machine_with c.args.cpu.now (board_of c.args.bus.now))) (same_lacks c.args.bus.now.pages) c.run-made.ensures.quiet
