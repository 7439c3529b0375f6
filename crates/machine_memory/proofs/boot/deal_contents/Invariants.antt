use Rattle.std.proofs.Common.{map}
use Rattle.machine_memory.specs.Dealt.{slots_in}
use Rattle.machine_memory.proofs.boot.deal_contents.Given as goal

abbrev pub ghosts-deal_contents_as : goal.ghosts-deal_contents_as
ghosts-deal_contents_as g a = record { slots = map (λ x. slots_in (g.P.Pages.pages x)) a.guests.now }
