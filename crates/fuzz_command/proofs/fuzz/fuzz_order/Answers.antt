use Rattle.fuzz_command.proofs.Orders.{of_broken, of_fuzzed, of_left}
use Rattle.fuzz_command.proofs.Trials.{each_error, each_ok}
use Rattle.fuzz_command.proofs.fuzz.fuzz_order.Goals as goal

pub returns-clause-lines : goal.returns-clause-lines
returns-clause-lines g c = each_ok c.fuzz_file.result _ _ c.fuzz_file.ensures.lines (λ end is. of_fuzzed _ _ _ _ _ _ is)

pub returns-clause-broken : goal.returns-clause-broken
returns-clause-broken g c = λ n is_line. of_broken _ _ _ _ _ n (c.fuzz_file.ensures.broken n is_line)

pub returns-clause-begun : goal.returns-clause-begun
returns-clause-begun g c = each_error c.fuzz_file.result _ _ _ c.fuzz_file.ensures.begun (λ is. of_left _ _ _ _ _ is)
