-- A guest that has a world of its own.
use Rattle.std.specs.Prelude.{◌≡◌, ◌≢◌, ℕ, ◌*◌, ◌<◌, false, List, [], ◌∷◌, length}
use Rattle.devices.specs.Devices.{fresh_devices}
use Rattle.mips_cp0.specs.declared.profile.Profile.TheVariants.{One}
use Rattle.machine.specs.Processor.{boot_processor}
use Rattle.machine.specs.Step.{Machine, machine_with}
use Rattle.guest_log.specs.Logs.{LogIs}
use Rattle.swapstore.specs.Memories.{MemoryIs}
use Rattle.guest_pages.specs.declared.page.Page.{Page}
use Rattle.guest_pages.specs.declared.page.PageKind.TheVariants.{Private}
use Rattle.guest_pages.specs.Pages.{kind_at}
use Rattle.guest.specs.Guests.{view_of}
use Rattle.tenant.specs.Tenants.{TenantIs, pages_in}
use Rattle.world.specs.Worlds.{WorldIs}

pub record HostedIs : Type 0 where
  -- the run of its log from the boot of its image
  pub machine : Machine
  pub log : LogIs

-- what is seen of the first of a world's guests; where there is none, of a machine without memory to which nothing has happened
abbrev pub hosted_of : List TenantIs → HostedIs
hosted_of [] = record {
  machine = machine_with (boot_processor One 0) (record { memory = []; devices = fresh_devices 0 });
  log = record { items = []; room = 0; limit = 0 };
}
hosted_of (t ∷ ts) = record { machine = view_of t.guest; log = t.guest.log }

-- the pages of the first guest
abbrev pub first_pages : List TenantIs → List Page
first_pages [] = []
first_pages (t ∷ ts) = pages_in t

-- a world has one guest, whose memory is less than the frames are, and a store without slots, which none can have damaged
pub record IsAlone (w : WorldIs MemoryIs) : Type 0 where
  pub one : length w.tenants ≡ 1
  pub room : length (hosted_of w.tenants).machine.board.memory < w.frames * 4096
  pub slots : length w.store.pages ≡ 0
  pub sound : w.store.damaged ≡ false

-- a page is one of the first guest's, and has no frame of its own
pub record IsLacking (tenants : List TenantIs) (p : ℕ) : Type 0 where
  pub there : p < length (first_pages tenants)
  pub lacks : kind_at (first_pages tenants) p ≢ Private
