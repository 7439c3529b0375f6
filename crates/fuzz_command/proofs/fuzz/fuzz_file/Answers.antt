use Rattle.std.proofs.Common.{◌≢◌, ap, Bool, Result, Err}
use Rattle.fuzz_command.specs.declared.fault.FuzzFault.{FuzzFault}
use Rattle.fuzz_command.specs.declared.fault.FuzzFault.TheVariants.{Line, Output}
use Rattle.fuzz_command.proofs.Faults.{setting_is_no_line}
use Rattle.fuzz_command.proofs.Orders.{image_begun, image_broken, image_fuzzed}
use Rattle.fuzz_command.proofs.Trials.{passed_err, passed_of}
use Rattle.fuzz_command.proofs.fuzz.fuzz_file.Goals as goal

pub returns-in_err-setting-clause-broken : goal.returns-in_err-setting-clause-broken
returns-in_err-setting-clause-broken g c = λ n of.
    let fault = c.in_err-setting.field-0.0 in
    absurd (setting_is_no_line c.args.order.now fault n c.in_err-setting.ensures.faults
    (passed_of c.from_residual-in_err-setting.result fault (Line n) c.from_residual-in_err-setting.ensures.1 of))

pub returns-in_err-stopped-clause-broken : goal.returns-in_err-stopped-clause-broken
returns-in_err-stopped-clause-broken g c = λ n of.
    let same = passed_of c.from_residual-in_err-stopped.result c.in_err-stopped.field-0.0 (Line n) c.from_residual-in_err-stopped.ensures.1 of in
    image_broken c.args.order.now _ _ _ _ n c.in_ok-image.field-0.image _ c.in_ok-image.ensures.image c.in_ok-setting.ensures.setting
    (c.in_err-stopped.ensures.broken n (ap (λ (f : FuzzFault). let r : Result Bool FuzzFault = Err f in r) same))

pub returns-in_err-stopped-clause-begun : goal.returns-in_err-stopped-clause-begun
returns-in_err-stopped-clause-begun g c =
    passed_err c.from_residual-in_err-stopped.result c.in_err-stopped.field-0.0 (λ (f : FuzzFault). f ≢ Output) _ c.from_residual-in_err-stopped.ensures.1 (λ not_output.
    image_begun c.args.order.now _ _ _ _ c.in_ok-image.field-0.image _ c.in_ok-image.ensures.image c.in_ok-setting.ensures.setting
    (c.in_err-stopped.ensures.begun not_output))

pub returns-clause-lines : goal.returns-clause-lines
returns-clause-lines g c =
    image_fuzzed c.args.order.now _ _ _ _ _ c.in_ok-image.field-0.image _ c.in_ok-image.ensures.image c.in_ok-setting.ensures.setting
    c.in_ok-stopped.ensures.lines
