-- What a world's guests are at its boot.
use Rattle.std.specs.Prelude.{◌≡◌, ℕ, ◌<◌, List, length, slice_index_or}
use Rattle.world.specs.Below.{GuestIs, IsBooted, TenantIs}
use Rattle.booting.specs.declared.asked.NewGuest.{NewGuest}
-- which guests are booted, where the pages of their images come, and why they are refused
pub use Rattle.booting.specs.Boots.{AreAdmitted, AreWithinLimits, HasFramesFor, HasSlotsFor, HoldsImage, IsWithinLimits, WhyNotBooted}
pub use Rattle.booting.specs.Places.{FramesComeFirst, SlotsComeInOrder}

-- each guest is at its boot, that of number g at place g
pub record AreBooted (log_runs : ℕ) (guests : List NewGuest) (tenants : List TenantIs) : Type 0 where
  pub count : length tenants ≡ length guests
  pub each : (g : ℕ) (guest : NewGuest) (t : TenantIs) → g < length guests →
      IsBooted (slice_index_or guests g guest).profile (slice_index_or guests g guest).image.value (slice_index_or guests g guest).pages (slice_index_or guests g guest).shares
      (slice_index_or guests g guest).minimum log_runs (slice_index_or tenants g t)

abbrev pub guest_in : TenantIs → GuestIs
guest_in t = t.guest

-- a guest with its four seats
abbrev pub with_seats : GuestIs → GuestIs
with_seats g = record g { seats = 4 }
