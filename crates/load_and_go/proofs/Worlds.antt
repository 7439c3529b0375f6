-- A world of one guest.
use Rattle.std.proofs.Common.{◌≡◌, ℕ, List, [], ◌∷◌, slice_index_or, sym, ap, subst, ◌∙◌, arith}
use Rattle.items.specs.declared.item.Item.{Item}
use Rattle.masm.specs.Listings.{Listing}
use Rattle.masm.specs.Assembly.{Means}
use Rattle.machine.specs.Step.{Machine}
use Rattle.machine.specs.Boot.{boot_machine}
use Rattle.machine.specs.Items.{run}
use Rattle.guest.specs.Guests.{view_of}
use Rattle.booting.specs.declared.asked.Config.{Config}
use Rattle.booting.specs.declared.asked.NewGuest.{NewGuest}
use Rattle.tenant.specs.declared.loading.BootError.{BootError}
use Rattle.world.specs.Boots.{AreBooted, WhyNotBooted}
use Rattle.tenant.specs.Tenants.{TenantIs}
use Rattle.load_and_go.specs.Holds.{Holds}

-- the view of a guest that is booted alone is the machine that it boots
view_booted : (runs : ℕ) (guest : NewGuest) (ts : List TenantIs) → AreBooted runs (guest ∷ []) ts → (t : TenantIs) → view_of (slice_index_or ts 0 t).guest ≡ boot_machine guest.profile guest.image.value guest.pages
view_booted runs guest ts booted t =
    let is = booted.each 0 guest t (omega arith) in
    ap (λ (items : List Item). run items (slice_index_or ts 0 t).guest.boot) is.items ∙ is.boot

-- so it holds the listing that this one holds
pub view_holds : (text : List ℕ) (runs : ℕ) (guest : NewGuest) (ts : List TenantIs) → AreBooted runs (guest ∷ []) ts
    → (listing : Listing) × Means text listing × Holds (boot_machine guest.profile guest.image.value guest.pages) listing
    → (listing : Listing) × Means text listing × ((t : TenantIs) → Holds (view_of (slice_index_or ts 0 t).guest) listing)
view_holds text runs guest ts booted h =
    (h.0, h.1, λ t. subst (λ (m : Machine). Holds m h.0) (sym (view_booted runs guest ts booted t)) h.2)

-- why a world of guests is refused is why one of a guest alone is, where that one is their list
pub refused_alone : (config : Config) (slots : ℕ) (guest : NewGuest) (guests : List NewGuest) (e : BootError) → guests ≡ guest ∷ []
    → WhyNotBooted config slots guests e → WhyNotBooted config slots (guest ∷ []) e
refused_alone config slots guest guests e alone why = subst (λ (gs : List NewGuest). WhyNotBooted config slots gs e) alone why
