-- Pages of an image that are being loaded.
use Rattle.std.specs.Prelude.{◌≡◌, ℕ, ◌+◌, ◌<◌, ◌≤◌, List, [], Option, length}
use Rattle.frames.specs.FreeList.{FreeList}
use Rattle.elf32.specs.declared.image.Image.{Image}
use Rattle.machine.specs.Board.{page_bytes}
use Rattle.mips_cp0.specs.declared.profile.Profile.{Profile}
use Rattle.machine.specs.Boot.{boot_machine, boot_memory}
use Rattle.guest_pages.specs.declared.page.Page.{Page}
use Rattle.guest_pages.specs.declared.page.Page.TheVariants.{Zero}
use Rattle.guest_pages.specs.declared.page.PageKind.TheVariants.{Private, Swapped}
use Rattle.frames.specs.Counts.{count_of}
use Rattle.guest_pages.specs.Pages.{page_at, kind_of, kind_at, slot_of}
use Rattle.guest_pages.specs.Holdings.{slot_in}
use Rattle.page_moves.specs.Faith.{IsFaithful, IsHeld}
use Rattle.guest.specs.Guests.{GuestIs}
use Rattle.guest.specs.Loading.{IsBeside}
use Rattle.tenant.specs.declared.loading.BootError.{BootError}
use Rattle.tenant.specs.declared.loading.BootError.TheVariants.{Limits, Segment, AdmitFrames, AdmitSlots, Room, Store, Memory}

-- the bytes of a page as an image boots in a memory of so many pages
abbrev pub boot_page : Image → ℕ → ℕ → List ℕ
boot_page image count p = page_bytes p (boot_memory image count)

-- A guest of a profile is at the boot of an image in a memory of its own of so many pages, with a log of at most so many runs, and nothing has happened
-- to it; it has no seat, and a page that the image doesn't reach was never touched.
pub record IsAtBoot (profile : Profile) (image : Image) (count log_runs : ℕ) (g : GuestIs) : Type 0 where
  pub boot : g.boot ≡ boot_machine profile image count
  pub items : g.log.items ≡ []
  pub limit : g.log.limit ≡ log_runs
  pub seats : g.seats ≡ 0
  pub size : length g.bus.pages ≡ count
  pub beside : (p : ℕ) → IsBeside image p → page_at g.bus.pages p ≡ Zero

-- each page from a number on, and each that the image doesn't reach, was never touched
pub record AreUntouched (image : Image) (next : ℕ) (pages : List Page) : Type 0 where
  pub further : (p : ℕ) → next ≤ p → page_at pages p ≡ Zero
  pub beside : (p : ℕ) → IsBeside image p → page_at pages p ≡ Zero

-- Each page below a number has its bytes of the image in a memory of so many pages: it shows them, or they were last written to its
-- slot, and it has their SHA-256.
pub record AreLoaded (held : ℕ → Option (List ℕ)) (image : Image) (count next : ℕ) (pages : List Page) : Type 0 where
  pub faithful : (p : ℕ) → p < next → p < length pages → IsFaithful (boot_page image count p) (page_at pages p)
  pub lies : (p : ℕ) → p < next → p < length pages → IsHeld held (boot_page image count p) (page_at pages p)

-- one page has these bytes, and no other page has changed
pub record IsLoaded (held : ℕ → Option (List ℕ)) (p : ℕ) (bytes : List ℕ) (old new : List Page) : Type 0 where
  pub others : (o : ℕ) → (o ≡ p → ⊥) → page_at new o ≡ page_at old o
  pub faithful : IsFaithful bytes (page_at new p)
  pub lies : IsHeld held bytes (page_at new p)

-- a page got a frame where one was free, and else a slot
pub record IsFrameFirst (pool pool' : FreeList) (page : Page) : Type 0 where
  pub free : kind_of page ≡ Private → 0 < length pool.free
  pub full : kind_of page ≡ Swapped → pool'.free ≡ []
  pub stays : pool.free ≡ [] → pool'.free ≡ []

-- no frame is free where a page is in a slot, and the pages in frames are below those in slots
pub record FramesFirst (pool : FreeList) (pages : List Page) : Type 0 where
  pub full : (p : ℕ) → kind_at pages p ≡ Swapped → pool.free ≡ []
  pub below : (p q : ℕ) → kind_at pages p ≡ Private → kind_at pages q ≡ Swapped → p < q

-- a page that is in a slot has taken the one of the lowest number that was free, and no other page took one
pub record TakesLowest (book book' : FreeList) (page : Page) : Type 0 where
  pub taken : (k : ℕ) → count_of k book.free ≡ count_of k book'.free + slot_in k page
  pub lowest : kind_of page ≡ Swapped → (slot : ℕ) → 0 < count_of slot book.free → slot_of page ≤ slot

-- the slots that pages are in rise with the pages, and each slot that is free is above them
pub record SlotsRise (book : FreeList) (pages : List Page) : Type 0 where
  pub rise : (p q : ℕ) → p < q → kind_at pages p ≡ Swapped → kind_at pages q ≡ Swapped → slot_of (page_at pages p) < slot_of (page_at pages q)
  pub free : (p slot : ℕ) → kind_at pages p ≡ Swapped → 0 < count_of slot book.free → slot_of (page_at pages p) < slot

-- no page is in a frame of its own
abbrev pub NonePrivate : List Page → Type 0
NonePrivate pages = (p : ℕ) → kind_at pages p ≡ Private → ⊥

-- why an image has no place: neither a frame nor a slot was free for a page of it, or the store failed to write one, or a request for
-- memory was refused
abbrev pub WhyNotLoaded : Type 0 → BootError → Type 0
WhyNotLoaded failed Limits = ⊥
WhyNotLoaded failed Segment = ⊥
WhyNotLoaded failed AdmitFrames = ⊥
WhyNotLoaded failed AdmitSlots = ⊥
WhyNotLoaded failed Room = Unit {0}
WhyNotLoaded failed Store = failed
WhyNotLoaded failed Memory = Unit {0}

-- the number by which the refusal of a world is known
abbrev pub boot_number : BootError → ℕ
boot_number Limits = 1
boot_number Segment = 2
boot_number Room = 3
boot_number Store = 4
boot_number Memory = 5
boot_number AdmitFrames = 6
boot_number AdmitSlots = 7
