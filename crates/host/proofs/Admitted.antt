-- What is left over where guests are admitted by their minimums.
use Rattle.std.proofs.Common.{◌≡◌, ℕ, ◌+◌, ◌-◌, ◌<◌, ◌⊎◌, inl, inr, true, Option, Some, None, IfSome, IfNone, List, sum_by, arith}
use Rattle.booting.specs.declared.asked.Config.{Config}
use Rattle.booting.specs.declared.asked.NewGuest.{NewGuest}
use Rattle.booting.specs.Boots.{AreAdmitted, HasFramesFor, HasSlotsFor}
use Rattle.host.specs.Leftover.{IsRoom}

too_few : (frames slots : ℕ) (guests : List NewGuest) → (frames < sum_by (λ (g : NewGuest). g.minimum + 1) guests) ⊎ (slots < sum_by (λ (g : NewGuest). g.pages - g.minimum) guests) → HasFramesFor guests frames → HasSlotsFor guests slots → ⊥
too_few frames slots guests (inl few) has_frames has_slots = omega (arith, few, has_frames)
too_few frames slots guests (inr few) has_frames has_slots = omega (arith, few, has_slots)

-- guests that are admitted leave something over, if it be nothing
pub room_is : (config : Config) (slots : ℕ) (guests : List NewGuest) (r : Option (ℕ × ℕ)) → config.admit ≡ true
    → IfSome r (λ left. left.0 + sum_by (λ (g : NewGuest). g.minimum + 1) guests ≡ config.frames)
    → IfSome r (λ left. left.1 + sum_by (λ (g : NewGuest). g.pages - g.minimum) guests ≡ slots)
    → IfNone r ((config.frames < sum_by (λ (g : NewGuest). g.minimum + 1) guests) ⊎ (slots < sum_by (λ (g : NewGuest). g.pages - g.minimum) guests))
    → AreAdmitted config slots guests → IsRoom config slots guests r
room_is config slots guests (Some left) admit frames_left slots_left few admitted = (admit, record { frames_left = frames_left; slots_left = slots_left })
room_is config slots guests None admit frames_left slots_left few admitted = absurd (too_few config.frames slots guests few (admitted admit).0 (admitted admit).1)
