use Rattle.std.proofs.Common.{ℕ, ◌≡◌, ◌+◌, ◌<◌, Some, None, sym, subst, ◌∙◌, arith}
use Rattle.items.specs.Entries.{steps_of}
use Rattle.machine.specs.Processor.{Processor}
use Rattle.machine.specs.Step.{Machine, machine_with}
use Rattle.machine.specs.Items.{run}
use Rattle.machine.proofs.GivenPages.{run_zeros}
use Rattle.page_moves.specs.Faith.{Kept}
use Rattle.guest_bus.specs.Buses.{GuestBusIs, board_of}
use Rattle.guest.specs.Guests.{last_given, HasPaused}
use Rattle.guest.specs.Views.{pages_seen, Shows}
use Rattle.guest.proofs.Pausing.{gone_lacking, gone_given, gone_paused, pause_lacking, pause_given, pause_paused}
use Rattle.guest.proofs.Running.{at_pause}
use Rattle.guest.proofs.Showing.{same_length}
use Rattle.guest.proofs.Quiet.{not_gone, gone_one, gone_further, not_made}
use Rattle.guest.proofs.step.run_pages.Goals as goal

pub loop-made-init : goal.loop-made-init
loop-made-init c = record { gone = not_gone c.args.cpu.now c.args.bus.now c.requires.settled; few = omega arith }

pub run_quietly-made-requires : goal.run_quietly-made-requires
run_quietly-made-requires c = record { settled = c.loop-made.invariant.gone.settled }

pub returns-then-made-count-clause-shows : goal.returns-then-made-count-clause-shows
returns-then-made-count-clause-shows c = λ seat m zeros s.
    let told = c.run_quietly-made.ensures in
    let gone = gone_further c.args.cpu.now c.loop-made.cpu c.run_quietly-made.new.cpu c.args.bus.now c.loop-made.bus c.run_quietly-made.new.bus c.loop-made.made c.run_quietly-made.result
    c.loop-made.invariant.gone (record { shows = told.shows; kept = told.kept; moves = told.moves; quiet = told.quiet; same = told.same; settled = told.settled; at_first = told.unchanged }) in
    subst (λ (n : ℕ). Shows (run (steps_of seat n) m) c.run_quietly-made.new.cpu c.run_quietly-made.new.bus) c.if-made-count.true (gone.shows seat m zeros s)

pub returns-then-made-count-clause-kept : goal.returns-then-made-count-clause-kept
returns-then-made-count-clause-kept c = λ seat m zeros s held k.
    let told = c.run_quietly-made.ensures in
    let gone = gone_further c.args.cpu.now c.loop-made.cpu c.run_quietly-made.new.cpu c.args.bus.now c.loop-made.bus c.run_quietly-made.new.bus c.loop-made.made c.run_quietly-made.result
    c.loop-made.invariant.gone (record { shows = told.shows; kept = told.kept; moves = told.moves; quiet = told.quiet; same = told.same; settled = told.settled; at_first = told.unchanged }) in
    subst (λ (n : ℕ). Kept held (pages_seen (run (steps_of seat n) m)) c.run_quietly-made.new.bus.pages) c.if-made-count.true (gone.kept seat m zeros s held k)

pub returns-then-made-count-clause-lacking : goal.returns-then-made-count-clause-lacking
returns-then-made-count-clause-lacking c = λ seat k below.
    let told = c.run_quietly-made.ensures in
    let gone = gone_further c.args.cpu.now c.loop-made.cpu c.run_quietly-made.new.cpu c.args.bus.now c.loop-made.bus c.run_quietly-made.new.bus c.loop-made.made c.run_quietly-made.result
    c.loop-made.invariant.gone (record { shows = told.shows; kept = told.kept; moves = told.moves; quiet = told.quiet; same = told.same; settled = told.settled; at_first = told.unchanged }) in
    gone_lacking c.args.cpu.now c.run_quietly-made.new.cpu c.args.bus.now c.run_quietly-made.new.bus (c.loop-made.made + c.run_quietly-made.result) gone seat k
    (omega (arith, below, c.if-made-count.true))

pub returns-then-made-count-clause-gives_last : goal.returns-then-made-count-clause-gives_last
returns-then-made-count-clause-gives_last c = λ seat k below.
    let told = c.run_quietly-made.ensures in
    let gone = gone_further c.args.cpu.now c.loop-made.cpu c.run_quietly-made.new.cpu c.args.bus.now c.loop-made.bus c.run_quietly-made.new.bus c.loop-made.made c.run_quietly-made.result
    c.loop-made.invariant.gone (record { shows = told.shows; kept = told.kept; moves = told.moves; quiet = told.quiet; same = told.same; settled = told.settled; at_first = told.unchanged }) in
    gone_given c.args.cpu.now c.run_quietly-made.new.cpu c.args.bus.now c.run_quietly-made.new.bus (c.loop-made.made + c.run_quietly-made.result) gone seat k
    (omega (arith, below, c.if-made-count.true))

pub returns-then-made-count-clause-paused : goal.returns-then-made-count-clause-paused
returns-then-made-count-clause-paused c = λ seat.
    let told = c.run_quietly-made.ensures in
    let gone = gone_further c.args.cpu.now c.loop-made.cpu c.run_quietly-made.new.cpu c.args.bus.now c.loop-made.bus c.run_quietly-made.new.bus c.loop-made.made c.run_quietly-made.result
    c.loop-made.invariant.gone (record { shows = told.shows; kept = told.kept; moves = told.moves; quiet = told.quiet; same = told.same; settled = told.settled; at_first = told.unchanged }) in
    subst (λ (n : ℕ). HasPaused (last_given seat n (machine_with c.args.cpu.now (board_of c.args.bus.now))) c.args.bus.now.pages None c.run_quietly-made.new.bus.pages) c.if-made-count.true
    (gone_paused c.args.cpu.now c.run_quietly-made.new.cpu c.args.bus.now c.run_quietly-made.new.bus (c.loop-made.made + c.run_quietly-made.result) gone seat)

pub returns-in-Some-clause-shows : goal.returns-in-Some-clause-shows
returns-in-Some-clause-shows c = λ seat m zeros s.
    let told = c.run_quietly-made.ensures in
    let gone = gone_further c.args.cpu.now c.loop-made.cpu c.run_quietly-made.new.cpu c.args.bus.now c.loop-made.bus c.run_quietly-made.new.bus c.loop-made.made c.run_quietly-made.result
    c.loop-made.invariant.gone (record { shows = told.shows; kept = told.kept; moves = told.moves; quiet = told.quiet; same = told.same; settled = told.settled; at_first = told.unchanged }) in
    let paused = c.in-Some.ensures in
    let now = run (steps_of seat (c.loop-made.made + c.run_quietly-made.result)) m in
    let shows = gone.shows seat m zeros s in
    let zeros_now = run_zeros (steps_of seat (c.loop-made.made + c.run_quietly-made.result)) m zeros in
    subst (λ (steps : ℕ). Shows (run (steps_of seat (c.loop-made.made + c.run_quietly-made.result + steps)) m) c.step_or_pause.new.cpu c.step_or_pause.new.bus) (sym c.steps.ensures)
    (at_pause (λ (n : Machine) (cpu : Processor) (bus : GuestBusIs). Shows n cpu bus) seat (c.loop-made.made + c.run_quietly-made.result) m c.run_quietly-made.new.cpu
    c.step_or_pause.new.cpu c.run_quietly-made.new.bus c.step_or_pause.new.bus c.in-Some.pause (λ is. paused.shows is now zeros_now shows) paused.unchanged shows)

pub returns-in-Some-clause-kept : goal.returns-in-Some-clause-kept
returns-in-Some-clause-kept c = λ seat m zeros s held k.
    let told = c.run_quietly-made.ensures in
    let gone = gone_further c.args.cpu.now c.loop-made.cpu c.run_quietly-made.new.cpu c.args.bus.now c.loop-made.bus c.run_quietly-made.new.bus c.loop-made.made c.run_quietly-made.result
    c.loop-made.invariant.gone (record { shows = told.shows; kept = told.kept; moves = told.moves; quiet = told.quiet; same = told.same; settled = told.settled; at_first = told.unchanged }) in
    let paused = c.in-Some.ensures in
    let now = run (steps_of seat (c.loop-made.made + c.run_quietly-made.result)) m in
    let shows = gone.shows seat m zeros s in
    let zeros_now = run_zeros (steps_of seat (c.loop-made.made + c.run_quietly-made.result)) m zeros in
    let kept = gone.kept seat m zeros s held k in
    subst (λ (steps : ℕ). Kept held (pages_seen (run (steps_of seat (c.loop-made.made + c.run_quietly-made.result + steps)) m)) c.step_or_pause.new.bus.pages) (sym c.steps.ensures)
    (at_pause (λ (n : Machine) (cpu : Processor) (bus : GuestBusIs). Kept held (pages_seen n) bus.pages) seat (c.loop-made.made + c.run_quietly-made.result) m
    c.run_quietly-made.new.cpu c.step_or_pause.new.cpu c.run_quietly-made.new.bus c.step_or_pause.new.bus c.in-Some.pause
    (λ is. paused.kept is now zeros_now shows held kept) paused.unchanged kept)

pub returns-in-Some-clause-there : goal.returns-in-Some-clause-there
returns-in-Some-clause-there c = λ p why is.
    let same = c.run_quietly-made.ensures.same ∙ c.loop-made.invariant.gone.same in
    subst (λ (n : ℕ). p < n) (same_length c.args.bus.now.pages c.run_quietly-made.new.bus.pages same) (c.in-Some.ensures.there p why is)

pub returns-in-Some-clause-lacking : goal.returns-in-Some-clause-lacking
returns-in-Some-clause-lacking c = λ seat k below.
    let told = c.run_quietly-made.ensures in
    let gone = gone_further c.args.cpu.now c.loop-made.cpu c.run_quietly-made.new.cpu c.args.bus.now c.loop-made.bus c.run_quietly-made.new.bus c.loop-made.made c.run_quietly-made.result
    c.loop-made.invariant.gone (record { shows = told.shows; kept = told.kept; moves = told.moves; quiet = told.quiet; same = told.same; settled = told.settled; at_first = told.unchanged }) in
    pause_lacking c.args.cpu.now c.run_quietly-made.new.cpu c.args.bus.now c.run_quietly-made.new.bus (c.loop-made.made + c.run_quietly-made.result) gone
    c.step_or_pause.new.cpu c.step_or_pause.new.bus c.in-Some.pause c.in-Some.ensures.lacking seat k (omega (arith, below, c.steps.ensures))

pub returns-in-Some-clause-gives_last : goal.returns-in-Some-clause-gives_last
returns-in-Some-clause-gives_last c = λ seat k below.
    let told = c.run_quietly-made.ensures in
    let gone = gone_further c.args.cpu.now c.loop-made.cpu c.run_quietly-made.new.cpu c.args.bus.now c.loop-made.bus c.run_quietly-made.new.bus c.loop-made.made c.run_quietly-made.result
    c.loop-made.invariant.gone (record { shows = told.shows; kept = told.kept; moves = told.moves; quiet = told.quiet; same = told.same; settled = told.settled; at_first = told.unchanged }) in
    pause_given c.args.cpu.now c.run_quietly-made.new.cpu c.args.bus.now c.run_quietly-made.new.bus (c.loop-made.made + c.run_quietly-made.result) gone
    c.step_or_pause.new.cpu c.step_or_pause.new.bus c.in-Some.pause seat k (omega (arith, below, c.steps.ensures))

pub returns-in-Some-clause-paused : goal.returns-in-Some-clause-paused
returns-in-Some-clause-paused c = λ seat.
    let told = c.run_quietly-made.ensures in
    let gone = gone_further c.args.cpu.now c.loop-made.cpu c.run_quietly-made.new.cpu c.args.bus.now c.loop-made.bus c.run_quietly-made.new.bus c.loop-made.made c.run_quietly-made.result
    c.loop-made.invariant.gone (record { shows = told.shows; kept = told.kept; moves = told.moves; quiet = told.quiet; same = told.same; settled = told.settled; at_first = told.unchanged }) in
    let made = c.loop-made.made + c.run_quietly-made.result in
    subst (λ (n : ℕ). HasPaused (last_given seat (made + n) (machine_with c.args.cpu.now (board_of c.args.bus.now))) c.args.bus.now.pages (Some c.in-Some.pause) c.step_or_pause.new.bus.pages) (sym c.steps.ensures)
    (pause_paused c.args.cpu.now c.run_quietly-made.new.cpu c.args.bus.now c.run_quietly-made.new.bus (c.loop-made.made + c.run_quietly-made.result) gone
    c.step_or_pause.new.cpu c.step_or_pause.new.bus c.in-Some.pause c.in-Some.ensures.paused c.in-Some.ensures.unchanged seat)

pub returns-in-Some-clause-unchanged : goal.returns-in-Some-clause-unchanged
returns-in-Some-clause-unchanged c = λ none.
    let told = c.run_quietly-made.ensures in
    let gone = gone_further c.args.cpu.now c.loop-made.cpu c.run_quietly-made.new.cpu c.args.bus.now c.loop-made.bus c.run_quietly-made.new.bus c.loop-made.made c.run_quietly-made.result
    c.loop-made.invariant.gone (record { shows = told.shows; kept = told.kept; moves = told.moves; quiet = told.quiet; same = told.same; settled = told.settled; at_first = told.unchanged }) in
    let before = gone.at_first (omega (arith, none)) in
    let same = c.in-Some.ensures.unchanged (not_made c.in-Some.pause (sym c.steps.ensures ∙ omega (arith, none))) in
    (same.0 ∙ before.0, same.1 ∙ before.1)

pub loop-made-preserved : goal.loop-made-preserved
loop-made-preserved c =
    let told = c.run_quietly-made.ensures in
    let gone = gone_further c.args.cpu.now c.loop-made.cpu c.run_quietly-made.new.cpu c.args.bus.now c.loop-made.bus c.run_quietly-made.new.bus c.loop-made.made c.run_quietly-made.result
    c.loop-made.invariant.gone (record { shows = told.shows; kept = told.kept; moves = told.moves; quiet = told.quiet; same = told.same; settled = told.settled; at_first = told.unchanged }) in
    let one = c.in_default.ensures in
    let paused = one.paused tt in
    record {
      gone = gone_further c.args.cpu.now c.run_quietly-made.new.cpu c.step_or_pause.new.cpu c.args.bus.now c.run_quietly-made.new.bus c.step_or_pause.new.bus
          (c.loop-made.made + c.run_quietly-made.result) 1 gone
          (gone_one c.run_quietly-made.new.cpu c.step_or_pause.new.cpu c.run_quietly-made.new.bus c.step_or_pause.new.bus (one.shows tt) (one.kept tt) (one.moves tt)
          (record { lacking = one.lacking tt; given = paused.0 }) paused.1 one.settled);
      few = omega (arith, c.loop-made.invariant.few, c.loop-made-test.true, told.few, c.if-made-count.false);
    }

pub returns-clause-shows : goal.returns-clause-shows
returns-clause-shows c = λ seat m zeros s.
    let all : c.loop-made.made ≡ c.args.count = omega (arith, c.loop-made-test.false, c.loop-made.invariant.few) in
    subst (λ (n : ℕ). Shows (run (steps_of seat n) m) c.loop-made.cpu c.loop-made.bus) all (c.loop-made.invariant.gone.shows seat m zeros s)

pub returns-clause-kept : goal.returns-clause-kept
returns-clause-kept c = λ seat m zeros s held k.
    let all : c.loop-made.made ≡ c.args.count = omega (arith, c.loop-made-test.false, c.loop-made.invariant.few) in
    subst (λ (n : ℕ). Kept held (pages_seen (run (steps_of seat n) m)) c.loop-made.bus.pages) all (c.loop-made.invariant.gone.kept seat m zeros s held k)

pub returns-clause-lacking : goal.returns-clause-lacking
returns-clause-lacking c = λ seat k below.
    gone_lacking c.args.cpu.now c.loop-made.cpu c.args.bus.now c.loop-made.bus c.loop-made.made c.loop-made.invariant.gone seat k
    (omega (arith, below, c.loop-made-test.false, c.loop-made.invariant.few))

pub returns-clause-gives_last : goal.returns-clause-gives_last
returns-clause-gives_last c = λ seat k below.
    gone_given c.args.cpu.now c.loop-made.cpu c.args.bus.now c.loop-made.bus c.loop-made.made c.loop-made.invariant.gone seat k
    (omega (arith, below, c.loop-made-test.false, c.loop-made.invariant.few))

pub returns-clause-paused : goal.returns-clause-paused
returns-clause-paused c = λ seat.
    let all : c.loop-made.made ≡ c.args.count = omega (arith, c.loop-made-test.false, c.loop-made.invariant.few) in
    subst (λ (n : ℕ). HasPaused (last_given seat n (machine_with c.args.cpu.now (board_of c.args.bus.now))) c.args.bus.now.pages None c.loop-made.bus.pages) all
    (gone_paused c.args.cpu.now c.loop-made.cpu c.args.bus.now c.loop-made.bus c.loop-made.made c.loop-made.invariant.gone seat)

pub returns-clause-unchanged : goal.returns-clause-unchanged
returns-clause-unchanged c = λ none. c.loop-made.invariant.gone.at_first (omega (arith, none, c.loop-made.invariant.few))

pub returns-clause-settled : goal.returns-clause-settled
returns-clause-settled c = c.loop-made.invariant.gone.settled
