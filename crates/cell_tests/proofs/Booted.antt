-- A guest that boots an image of no segment is its run; and the stakes of two.
use Rattle.std.proofs.Common.{◌≡◌, ℕ, zero, suc, ◌*◌, ◌<◌, List, [], ◌∷◌, ◌++◌, length, replicate, fold, get_or, refl, sym, ap, subst, ◌∙◌, arith, false, Option, None, All}
use Rattle.word32.specs.Zeros.{zeros}
use Rattle.elf32.specs.declared.image.Segment.{Segment}
use Rattle.elf32.specs.declared.image.Image.{Image}
use Rattle.elf32.specs.Images.{IsWithin, FitsPages}
use Rattle.devices.specs.Devices.{fresh_devices}
use Rattle.machine.specs.Step.{Machine}
use Rattle.machine.proofs.Clearing.{length-zeros}
use Rattle.mips_cp0.specs.declared.profile.Profile.{Profile}
use Rattle.machine.specs.Boot.{placed, boot_memory, boot_machine}
use Rattle.guest_pages.specs.declared.page.Page.{Page}
use Rattle.guest_pages.specs.declared.page.Page.TheVariants as page
use Rattle.guest_pages.specs.Pages.{page_at}
use Rattle.page_moves.specs.Faith.{IsFaithful, Faithful, IsHeld}
use Rattle.guest_bus.specs.Buses.{GuestBusIs}
use Rattle.guest.specs.Guests.{GuestIs, view_of, Intact}
use Rattle.guest.specs.Loading.{segment_reaches, IsBeside}
use Rattle.guest.specs.Views.{pages_seen}
use Rattle.guest.proofs.BootPages.{beside_is_zeros}
use Rattle.guest.proofs.Keeping.{booted_intact}
use Rattle.machine_memory.specs.declared.stake.Stake.{Stake}
use Rattle.machine_memory.specs.Memories.{MemoryIs, IsLevel, AreLevel}
use Rattle.lent_pages.specs.Contents.{its_slots}
use Rattle.cell.specs.Sitting.{RunIsWritten}
use Rattle.cell_tests.specs.Booting.{untouched}
use Rattle.std.proofs.lemmas.List.{length-replicate}

same_at : {X : Type 0} (n k : ℕ) (x : X) → get_or (replicate n x) k x ≡ x
same_at zero k x = refl
same_at (suc n) zero x = refl
same_at (suc n) (suc k) x = same_at n k x

zeros_faithful : (bytes : List ℕ) (q : Page) → q ≡ page.Zero → zeros 4096 ≡ bytes → IsFaithful bytes q
zeros_faithful bytes q is same = subst (IsFaithful bytes) (sym is) same

-- what is so of every segment of an image that has none
of_none : (P : Segment → Type 0) (segments : List Segment) → segments ≡ [] → All P segments
of_none P segments none = subst (All P) (sym none) (λ k d inside. absurd (omega (arith, inside)))

empty_size : (image : Image) (count : ℕ) → image.segments.items ≡ [] → length (boot_memory image count) ≡ count * 4096
empty_size image count none = ap (λ (l : List Segment). length (fold placed (zeros (count * 4096)) l)) none ∙ length-zeros (count * 4096)

pub empty_intact : (profile : Profile) (image : Image) (count : ℕ) (g : GuestIs) → image.segments.items ≡ [] → g.cpu ≡ g.boot.cpu
    → g.bus ≡ record { pages = replicate count page.Zero; devices = fresh_devices count; waiting = None } → g.boot ≡ boot_machine profile image count → g.log.items ≡ [] → Intact g
empty_intact profile image count g none cpu bus boot items =
    let pages : g.bus.pages ≡ replicate count page.Zero = ap (λ (b : GuestBusIs). b.pages) bus in
    let size : length g.bus.pages ≡ count = ap length pages ∙ length-replicate count page.Zero in
    let faithful : Faithful (pages_seen (boot_machine profile image count)) g.bus.pages = λ p inside. zeros_faithful (pages_seen (boot_machine profile image count) p) (page_at g.bus.pages p)
    (ap (λ (l : List Page). page_at l p) pages ∙ same_at count p page.Zero)
    (sym (beside_is_zeros image count p (omega (arith, inside, size)) (of_none (IsWithin (count * 4096)) image.segments.items none)
    (of_none (λ (s : Segment). segment_reaches p s ≡ false) image.segments.items none))) in
    booted_intact g items cpu
    (ap (λ (b : GuestBusIs). b.devices) bus ∙ sym (ap (λ (m : Machine). m.board.devices) boot))
    (ap (λ (m : Machine). length m.board.memory) boot ∙ empty_size image count none ∙ sym (ap (λ (n : ℕ). n * 4096) size))
    (subst (λ (m : Machine). Faithful (pages_seen m) g.bus.pages) (sym boot) faithful)

pub seat_intact : (g g' : GuestIs) → g' ≡ record g { seats = suc g.seats } → Intact g → Intact g'
seat_intact g g' same i = subst Intact (sym same) (record { shows = i.shows; accepted = i.accepted })

zeros_held : (held : ℕ → Option (List ℕ)) (bytes : List ℕ) (q : Page) → q ≡ page.Zero → IsHeld held bytes q
zeros_held held bytes q is = subst (IsHeld held bytes) (sym is) tt

-- no page that was never touched is in a slot
pub none_written : (stake : Stake) (g : GuestIs) → g.bus.pages ≡ untouched → Intact g → RunIsWritten stake g
none_written stake g pages intact = record {
  faithful = intact.shows.pages;
  lies = λ p inside. zeros_held (its_slots stake.contents) (pages_seen (view_of g) p) (page_at g.bus.pages p) (ap (λ (l : List Page). page_at l p) pages ∙ same_at 16 p page.Zero);
}

-- of two level stakes, the last of which is taken first
pub two_popped : {Store : Type 0} (m : MemoryIs Store) (stakes left none : List Stake) (one two : Stake) (first second : List Page)
    → ((rest : List Stake) (all : List (List Page)) (stake : Stake) (pages : List Page) → AreLevel m (rest ++ stake ∷ []) (all ++ pages ∷ []) → IsLevel m stake pages × AreLevel m rest all)
    → AreLevel m stakes (first ∷ second ∷ []) → stakes ≡ left ++ two ∷ [] → left ≡ none ++ one ∷ [] → IsLevel m one first × IsLevel m two second
two_popped m stakes left none one two first second law are last then =
    let p = law left (first ∷ []) two second (subst (λ (l : List Stake). AreLevel m l (first ∷ second ∷ [])) last are) in
    let q = law none [] one first (subst (λ (l : List Stake). AreLevel m l (first ∷ [])) then p.1) in (
      q.0,
      p.0,
    )
