-- A guest with its seats and its shares, and what becomes of it.
use Rattle.std.specs.Prelude.{◌≡◌, ℕ, Bool, false, ◌∷◌, ◌++◌, List, [], Some, None, Option, length}
use Rattle.std.proofs.Common.{lit<}
use Rattle.items.specs.declared.item.Item.{Item}
use Rattle.items.specs.Entries.{steps_of}
use Rattle.elf32.specs.declared.image.Image.{Image}
use Rattle.mips_cp0.specs.declared.profile.Profile.{Profile}
use Rattle.machine.specs.Boot.{boot_machine}
use Rattle.guest_pages.specs.declared.page.Page.{Page}
use Rattle.guest_pages.specs.declared.page.Page.TheVariants.{Zero}
use Rattle.guest_pages.specs.Pages.{page_at}
use Rattle.guest_pages.specs.Holdings.{resident_pages}
use Rattle.dev_balloon.specs.Balloon.{given_count}
use Rattle.rand_core.specs.Stream.{Stream}
use Rattle.taxpolicy.specs.Sample.{drawn}
use Rattle.taxpolicy.specs.declared.stat.Stat.{Stat}
use Rattle.sampling.specs.declared.sample.Sample.{Sample}
use Rattle.page_moves.specs.Faith.{Kept}
use Rattle.guest.specs.Guests.{GuestIs, view_of, Intact, without_pages}
use Rattle.guest.specs.Loading.{IsBeside}
use Rattle.guest.specs.Views.{pages_seen}
use Rattle.tenant.specs.declared.opened.PolicyState.{PolicyState}

-- what is seen of a guest in a world
pub record TenantIs : Type 0 where
  pub guest : GuestIs
  -- how many shares of the memory the guest has
  pub shares : ℕ
  -- how many resident pages it always keeps
  pub minimum : ℕ
  -- the pages that were drawn to see which it uses, and how many draws were touched
  pub sample : Sample
  -- whether it is to make no step for want of memory
  pub blocked : Bool

-- a guest with what the policy goes by
abbrev pub tenant_of : GuestIs → PolicyState → TenantIs
tenant_of guest state = record { guest = guest; shares = state.shares; minimum = state.minimum; sample = state.sample; blocked = state.blocked }

abbrev pub pages_in : TenantIs → List Page
pages_in t = t.guest.bus.pages

-- all of it but its pages
abbrev pub beside_pages : TenantIs → TenantIs
beside_pages t = record t { guest = without_pages t.guest }

-- The guest is its run: processor, devices and pages are those of its view, a page in a slot by its SHA-256; and each page that
-- is in a slot has the view's bytes there, of a store that holds these.
pub record IsKept (held : ℕ → Option (List ℕ)) (t : TenantIs) : Type 0 where
  pub intact : Intact t.guest
  pub pages : Kept held (pages_seen (view_of t.guest)) t.guest.bus.pages

-- what nothing that happens to a guest changes: its boot, how many runs its log may have, how many pages it has, and what the policy
-- goes by
pub record Stays (t t' : TenantIs) : Type 0 where
  pub boot : t'.guest.boot ≡ t.guest.boot
  pub limit : t'.guest.log.limit ≡ t.guest.log.limit
  pub shares : t'.shares ≡ t.shares
  pub minimum : t'.minimum ≡ t.minimum
  pub sample : t'.sample ≡ t.sample
  pub blocked : t'.blocked ≡ t.blocked
  pub count : length (pages_in t') ≡ length (pages_in t)

-- no page of it was drawn for a sample yet, so all of them count as active
pub record IsUnsampled (t : TenantIs) : Type 0 where
  pub draws : t.sample.draws ≡ None
  pub active : t.sample.active ≡ 100

-- A period of its sample has ended, and the next one has begun, whose pages are the generator's next words; until a period has ended it
-- counts as before. All else is as it was.
pub record IsSampled (words : Stream) (t t' : TenantIs) : Type 0 where
  pub rest : t' ≡ record t { sample = t'.sample }
  pub draws : t'.sample.draws ≡ Some (drawn (length (pages_in t)) 100 words)
  pub first : t.sample.draws ≡ None → t'.sample.active ≡ t.sample.active

-- its log has one more item, by which its view has moved
abbrev pub Adds : TenantIs → Item → TenantIs → Type 0
Adds t item t' = t'.guest.log.items ≡ t.guest.log.items ++ item ∷ []

-- its log has so many more steps of seat 0, by which its view has moved
abbrev pub AddsSteps : TenantIs → ℕ → TenantIs → Type 0
AddsSteps t count t' = t'.guest.log.items ≡ t.guest.log.items ++ steps_of 0 count

-- processor, devices, pages and log are as before
pub record NothingHappens (t t' : TenantIs) : Type 0 where
  pub cpu : t'.guest.cpu ≡ t.guest.cpu
  pub bus : t'.guest.bus ≡ t.guest.bus
  pub items : t'.guest.log.items ≡ t.guest.log.items

-- it is of a profile and at the boot of an image in a memory of its own of so many pages, and nothing has happened to it
pub record IsBooted (profile : Profile) (image : Image) (count shares minimum log_runs : ℕ) (t : TenantIs) : Type 0 where
  pub boot : t.guest.boot ≡ boot_machine profile image count
  pub items : t.guest.log.items ≡ []
  pub limit : t.guest.log.limit ≡ log_runs
  pub shares_are : t.shares ≡ shares
  pub minimum_is : t.minimum ≡ minimum
  pub unsampled : IsUnsampled t
  pub unblocked : t.blocked ≡ false
  pub size : length (pages_in t) ≡ count
  -- a page that the image doesn't reach was never touched
  pub beside : (p : ℕ) → IsBeside image p → page_at (pages_in t) p ≡ Zero

-- what the policy knows of a guest
abbrev pub stat_of : TenantIs → Stat
stat_of t = record {
  shares = t.shares;
  pages = length (pages_in t);
  resident = resident_pages (pages_in t);
  given = given_count t.guest.bus.devices.balloon;
  active = t.sample.active;
  sample = 100;
  minimum = t.minimum;
  sampled = lit< tt;
  touched = t.sample.few;
}
