-- Which guests can be booted together, and what they are then.
use Rattle.std.specs.Prelude.{◌≡◌, ℕ, ◌+◌, ◌-◌, ◌<◌, ◌≤◌, true, List, Option, All, length, sum_by, slice_index_or}
use Rattle.elf32.specs.Images.{FitsPages}
use Rattle.mips_cp0.specs.Profiles.{profile_numbers}
use Rattle.guest_pages.specs.declared.page.Page.{Page}
use Rattle.page_moves.specs.Faith.{Kept}
use Rattle.guest.specs.Guests.{GuestIs, view_of}
use Rattle.guest.specs.Views.{pages_seen}
use Rattle.tenant.specs.Loading.{IsAtBoot}
use Rattle.booting.specs.declared.asked.Config.{Config}
use Rattle.booting.specs.declared.asked.NewGuest.{NewGuest}
use Rattle.tenant.specs.declared.loading.BootError.{BootError}
use Rattle.tenant.specs.declared.loading.BootError.TheVariants.{Limits, Segment, AdmitFrames, AdmitSlots, Room, Store, Memory}

-- the numbers of a guest are within their limits
pub record IsWithinLimits (guest : NewGuest) : Type 0 where
  pub pages : (2 ≤ guest.pages) × (guest.pages ≤ (profile_numbers guest.profile).most_pages)
  pub shares : (1 ≤ guest.shares) × (guest.shares ≤ 1000000)
  pub minimum : (2 ≤ guest.minimum) × (guest.minimum ≤ guest.pages)

-- the numbers for guests with so many slots are within their limits, and those of each guest
pub record AreWithinLimits (config : Config) (all_slots : ℕ) (guests : List NewGuest) : Type 0 where
  pub count : (1 ≤ length guests) × (length guests ≤ 16)
  pub each : All IsWithinLimits guests
  pub frames : (4 ≤ config.frames) × (config.frames ≤ 65536)
  pub slots : all_slots ≤ 131072
  pub log_runs : (16 ≤ config.log_runs) × (config.log_runs ≤ 1048576)

-- the pages of a guest hold its image
abbrev pub HoldsImage : NewGuest → Type 0
HoldsImage guest = FitsPages guest.image.value guest.pages

-- there are as many frames as the guests always keep pages, and one more for each of them
abbrev pub HasFramesFor : List NewGuest → ℕ → Type 0
HasFramesFor guests frames = sum_by (λ g. g.minimum + 1) guests ≤ frames

-- there is a slot for each page of the guests beside those that they always keep
abbrev pub HasSlotsFor : List NewGuest → ℕ → Type 0
HasSlotsFor guests slots = sum_by (λ g. g.pages - g.minimum) guests ≤ slots

-- where guests are to be admitted by their minimums, there are frames and slots for them
abbrev pub AreAdmitted : Config → ℕ → List NewGuest → Type 0
AreAdmitted config slots guests = config.admit ≡ true → HasFramesFor guests config.frames × HasSlotsFor guests slots

-- ---- guests that are booted

abbrev pub pages_in : GuestIs → List Page
pages_in g = g.bus.pages

-- each guest is at the boot of its image, that of number g at place g, and has no seat
pub record AreAtBoot (log_runs : ℕ) (asked : List NewGuest) (guests : List GuestIs) : Type 0 where
  pub count : length guests ≡ length asked
  pub each : (g : ℕ) (guest : NewGuest) (booted : GuestIs) → g < length asked →
      IsAtBoot (slice_index_or asked g guest).profile (slice_index_or asked g guest).image.value (slice_index_or asked g guest).pages log_runs (slice_index_or guests g booted)

-- each page of a guest is as its view has it, by its SHA-256 where it is in a slot, to which the view's bytes were last written
abbrev pub KeepsPages : (ℕ → Option (List ℕ)) → GuestIs → Type 0
KeepsPages held g = Kept held (pages_seen (view_of g)) (pages_in g)

-- ---- guests that are refused

-- a refusal that comes before a page is loaded
abbrev pub IsOfNumbers : BootError → Type 0
IsOfNumbers Room = ⊥
IsOfNumbers Store = ⊥
IsOfNumbers Memory = ⊥
IsOfNumbers _ = Unit {0}

-- why guests with so many slots are not booted; the first that holds, in this order
abbrev pub WhyNotBooted : Config → ℕ → List NewGuest → BootError → Type 0
WhyNotBooted config slots guests Limits = AreWithinLimits config slots guests → ⊥
WhyNotBooted config slots guests Segment = AreWithinLimits config slots guests × (All HoldsImage guests → ⊥)
WhyNotBooted config slots guests AdmitFrames =
    AreWithinLimits config slots guests × All HoldsImage guests × (config.admit ≡ true) × (HasFramesFor guests config.frames → ⊥)
WhyNotBooted config slots guests AdmitSlots =
    AreWithinLimits config slots guests × All HoldsImage guests × (config.admit ≡ true) × HasFramesFor guests config.frames × (HasSlotsFor guests slots → ⊥)
WhyNotBooted config slots guests Room =
    AreWithinLimits config slots guests × All HoldsImage guests × AreAdmitted config slots guests × (config.frames + slots < sum_by (λ g. g.pages) guests)
WhyNotBooted config slots guests Store = AreWithinLimits config slots guests × All HoldsImage guests × AreAdmitted config slots guests
WhyNotBooted config slots guests Memory = AreWithinLimits config slots guests × All HoldsImage guests × AreAdmitted config slots guests
