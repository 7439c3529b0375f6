use Rattle.fuzz_command.specs.Settings.{setting_of}
use Rattle.std.proofs.Common.{ap, arith, drop, if◌then◌else◌, length, sym, ◌∙◌, ◌++◌, List, ℕ, Option, Some, None}
use Rattle.machine.specs.Step.{Machine}
use Rattle.runs.specs.Runs.{after_run}
use Rattle.fuzz_command.specs.Lines.{Trial, output_after, run_text}
use Rattle.fuzz_command.proofs.Reached.{again, known_then, known_within, words_new, words_shown}
use Rattle.fuzz_command.proofs.running.run_input.Goals as goal

pub returns-in_err-text-clause-again : goal.returns-in_err-text-clause-again
returns-in_err-text-clause-again c =
    again (setting_of c.args.setting.now) c.args.machine.now c.run-ran.new.machine c.run-ran.result.steps _ c.requires.machine c.run-ran.ensures.kept c.run-ran.ensures.covered

pub returns-in_err-reached-clause-again : goal.returns-in_err-reached-clause-again
returns-in_err-reached-clause-again c =
    again (setting_of c.args.setting.now) c.args.machine.now c.run-ran.new.machine c.run-ran.result.steps _ c.requires.machine c.run-ran.ensures.kept c.run-ran.ensures.covered

pub returns-clause-again : goal.returns-clause-again
returns-clause-again c =
    again (setting_of c.args.setting.now) c.args.machine.now c.run-ran.new.machine c.run-ran.result.steps _ c.requires.machine c.run-ran.ensures.kept c.run-ran.ensures.covered

pub words_behind-requires : goal.words_behind-requires
words_behind-requires c =
    let s = setting_of c.args.setting.now in
    let t : Trial = record { name = c.args.name.now; input = c.args.input.now; ran = c.run-ran.result } in
    omega (arith, ap length c.reached-known.ensures, known_within s t c.args.machine.now c.run-ran.new.machine.coverage c.requires.machine c.run-ran.ensures.covered)

pub returns-clause-reached : goal.returns-clause-reached
returns-clause-reached c =
    let s = setting_of c.args.setting.now in
    let t : Trial = record { name = c.args.name.now; input = c.args.input.now; ran = c.run-ran.result } in
    let now = c.run-ran.new.machine.coverage in
    c.in_ok-reached.ensures ∙ ap (λ (xs : List ℕ). drop (length xs) now.reached) c.reached-known.ensures
    ∙ words_new s t c.args.machine.now now c.requires.machine c.run-ran.ensures.covered

pub returns-clause-known : goal.returns-clause-known
returns-clause-known c =
    let s = setting_of c.args.setting.now in
    let t : Trial = record { name = c.args.name.now; input = c.args.input.now; ran = c.run-ran.result } in
    let now = c.run-ran.new.machine.coverage in
    let old = c.args.machine.now.coverage in
    known_then s t c.args.machine.now now c.requires.machine c.run-ran.ensures.covered
    ∙ ap (λ (xs : List ℕ). old.reached ++ xs) (sym (returns-clause-reached c))

pub returns-clause-text : goal.returns-clause-text
returns-clause-text c =
    let s = setting_of c.args.setting.now in
    let t : Trial = record { name = c.args.name.now; input = c.args.input.now; ran = c.run-ran.result } in
    let now = c.run-ran.new.machine in
    let words : Option (List ℕ) = if s.reached then Some now.coverage.reached else None in
    let state = c.run-ran.ensures.state ∙ ap (after_run c.run-ran.result c.args.input.now) c.requires.machine.machine in
    c.in_ok-text.ensures ∙ ap (λ (m : Machine). run_text s.shown t.name t.ran m.board.devices.console.output words) state
    ∙ ap (run_text s.shown t.name t.ran (output_after s t)) (words_shown s t c.args.machine.now now.coverage c.requires.machine c.run-ran.ensures.covered)
