use Rattle.std.proofs.Common.{◌≡◌, ◌+◌, ◌<◌, length, arith, subst, sym}
use Rattle.fuzz_command.specs.declared.job.Then.{Then}
use Rattle.fuzz_command.specs.Jobs.{IsBehindFiles}
use Rattle.fuzz_command.proofs.Faults.{of_file}
use Rattle.fuzz_command.proofs.files.next_files.Goals as goal
use Rattle.fuzz_command.proofs.files.next_files.Goals.{then-last-files, else-last-files}

pub returns-in-Err : goal.returns-in-Err
returns-in-Err g c =
    let inside : c.loop-index.index < length c.args.files.now = omega (arith, c.loop-index-test.true, c.min-count.ensures, c.requires.inside) in
    record {
      next = c.loop-index.index;
      inside = omega (arith, inside);
      names = c.loop-index.invariant.names;
      behind = of_file c.args.files.now c.loop-index.index _ c.in-Err.fault inside c.in-Err.ensures.faults;
    }

pub returns : goal.returns
returns g c =
    let files = c.args.files.now in
    let index = c.loop-index.index in
    let at_end : index ≡ c.args.first + c.min-count.result = omega (arith, c.loop-index-test.false, c.loop-index.auto.index-end) in
    record {
      next = index;
      inside = omega (arith, at_end, c.min-count.ensures, c.requires.inside);
      names = c.loop-index.invariant.names;
      behind = elim c.if-last-files.branch [
        | then-last-files w ↦ subst (λ (t : Then). IsBehindFiles files c.args.first index t) (sym w.then-is) (omega (arith, at_end, w.if-last-files.true))
        | else-last-files w ↦ subst (λ (t : Then). IsBehindFiles files c.args.first index t) (sym w.then-is)
            (omega (arith, at_end), omega (arith, at_end, c.min-count.ensures, c.requires.inside, c.requires.some, w.if-last-files.false))
      ];
    }
