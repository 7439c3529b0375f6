use Rattle.std.proofs.Common.{◌≡◌, ◌+◌, ◌-◌, take, sum_by}
use Rattle.booting.specs.declared.asked.NewGuest.{NewGuest}
use Rattle.host.proofs.leftover.left_over.Given as goal

-- what is left beside that of the guests so far
abbrev pub invariant-loop-guest : goal.invariant-loop-guest
invariant-loop-guest l = record {
  frames : l.frames + sum_by (λ (g : NewGuest). g.minimum + 1) (take l.guest-index l.guests) ≡ l.fn.frames;
  slots : l.slots + sum_by (λ (g : NewGuest). g.pages - g.minimum) (take l.guest-index l.guests) ≡ l.fn.slots;
}
