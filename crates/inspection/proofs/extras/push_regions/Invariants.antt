use Rattle.std.proofs.Common.{◌≡◌, ◌++◌, string_bytes, take}
use Rattle.inspection.specs.Extras.{regions_text}
use Rattle.inspection.proofs.extras.push_regions.Given as goal

abbrev pub invariant-loop-region : goal.invariant-loop-region
invariant-loop-region g l = string_bytes l.out ≡ string_bytes l.fn.out ++ regions_text (g.M.Runnable.state l.machine) (take l.region-index l.regions)
