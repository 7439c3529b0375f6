use Rattle.std.proofs.Common.{◌≡◌, take}
use Rattle.sampling.specs.Samples.{cleared}
use Rattle.sampling.proofs.marks.Marks.clear.Given as goal

-- the marks of the pages so far are taken
abbrev pub invariant-loop-page : goal.invariant-loop-page
invariant-loop-page l = l.self ≡ cleared (take l.page-index l.fn.draws) l.fn.self
