-- The pages that an image boots.
use Rattle.std.proofs.Common.{ℕ, suc, ◌≡◌, ◌+◌, ◌-◌, ◌*◌, ◌<◌, ◌≤◌, false, max, min, ltb-false, All, List, [], ◌∷◌, length, fold, take, set, refl, sym, ap, subst, ◌∙◌, arith}
use Rattle.std.proofs.lemmas.List.{take-replicate, drop-replicate}
use Rattle.word32.specs.Zeros.{zeros}
use Rattle.elf32.specs.declared.image.Segment.{Segment}
use Rattle.elf32.specs.declared.image.Image.{Image}
use Rattle.elf32.specs.Images.{IsWithin, FitsPages}
use Rattle.machine.specs.Board.{page_bytes}
use Rattle.machine.proofs.Clearing.{length-zeros}
use Rattle.machine.proofs.Pages.{patched_stored}
use Rattle.machine.specs.Boot.{placed, boot_memory}
use Rattle.word32.specs.Words.{patched}
use Rattle.frames.specs.Frames.{FrameIs}
use Rattle.machine.specs.Board.{Board}
use Rattle.guest_pages.specs.declared.page.Page.{Page}
use Rattle.guest_pages.specs.declared.page.Page.TheVariants as page
use Rattle.guest_pages.specs.declared.page.PageKind.TheVariants.{Private}
use Rattle.guest_pages.specs.Pages.{page_at, kind_at, own_frame, memory_of, AreWhole}
use Rattle.guest_pages.specs.Outline.{outlined, outline}
use Rattle.guest_pages.proofs.Outlines.{outline_same}
use Rattle.guest_pages.proofs.Replacing.{memory_patched, whole_set}
use Rattle.guest_pages.proofs.Same.{same_pages}
use Rattle.page_moves.proofs.Exchanging.{private_is}
use Rattle.guest_bus.specs.Buses.{GuestBusIs, IsSettled, board_of, with_page}
use Rattle.guest.specs.Loading.{segment_reaches, IsBeside, IsBootPage}
use Rattle.guest.proofs.PartOfPage.{beside_page}
use Rattle.guest.proofs.Showing.{settled_memory}

-- bytes are a page's in a memory from which the segments that are left lead to that which all of them lead to
pub record Loads (p : ℕ) (memory : List ℕ) (segments left : List Segment) (bytes : List ℕ) : Type 0 where
  pub so_far : List ℕ
  pub size : length so_far ≡ length memory
  pub page : bytes ≡ page_bytes p so_far
  pub rest : fold placed so_far left ≡ fold placed memory segments

pub placed_size : (memory : List ℕ) (s : Segment) → IsWithin (length memory) s → length (placed memory s) ≡ length memory
placed_size memory s within =
    (patched_stored memory s.bytes.items (s.address - 0x80000000) (length s.bytes.items) refl (omega (arith, within.start, within.file_part, within.end))).size

pub loads_none : (p : ℕ) (memory bytes : List ℕ) (segments : List Segment) → bytes ≡ page_bytes p memory → Loads p memory segments segments bytes
loads_none p memory bytes segments is = record { so_far = memory; size = refl; page = is; rest = refl }

pub loads_more : (p : ℕ) (memory bytes bytes' : List ℕ) (segments rest : List Segment) (s : Segment) → IsWithin (length memory) s
    → ((m : List ℕ) → p * 4096 + 4096 ≤ length m → IsWithin (length m) s → bytes ≡ page_bytes p m → bytes' ≡ page_bytes p (placed m s))
    → p * 4096 + 4096 ≤ length memory → Loads p memory segments (s ∷ rest) bytes → Loads p memory segments rest bytes'
loads_more p memory bytes bytes' segments rest s within part inside l =
    let within_now = subst (λ (n : ℕ). IsWithin n s) (sym l.size) within in
    record {
      so_far = placed l.so_far s;
      size = placed_size l.so_far s within_now ∙ l.size;
      page = part l.so_far (omega (arith, l.size, inside)) within_now l.page;
      rest = l.rest;
    }

pub loads_all : (p : ℕ) (memory bytes : List ℕ) (segments : List Segment) → Loads p memory segments [] bytes → bytes ≡ page_bytes p (fold placed memory segments)
loads_all p memory bytes segments l = l.page ∙ ap (page_bytes p) l.rest

-- ---- the whole image

zeros_page : (p n : ℕ) → p * 4096 + 4096 ≤ n → zeros 4096 ≡ page_bytes p (zeros n)
unfolding zeros
zeros_page p n h = sym (ap (take 4096) (drop-replicate (p * 4096) n 0) ∙ take-replicate 4096 (n - p * 4096) 0 (omega arith))

pub segments_above : (image : Image) → ((pages : ℕ) × FitsPages image pages) → All (λ s. 0x80000000 ≤ s.address) image.segments.items
segments_above image (pages, fits) k d h = (fits k d h).start

pub boot_page : (image : Image) (segments : List Segment) (p : ℕ) (cleared bytes : List ℕ) → segments ≡ image.segments.items → cleared ≡ zeros 4096
    → ((memory : List ℕ) → p * 4096 + 4096 ≤ length memory → All (IsWithin (length memory)) segments → cleared ≡ page_bytes p memory → bytes ≡ page_bytes p (fold placed memory segments))
    → IsBootPage image p bytes
boot_page image segments p cleared bytes same is parts pages inside fits =
    let size = length-zeros (pages * 4096) in
    let within = subst (λ (ss : List Segment). All (IsWithin (pages * 4096)) ss) (sym same) fits in
    parts (zeros (pages * 4096)) (omega (arith, size, inside))
    (subst (λ (n : ℕ). All (IsWithin n) segments) (sym size) within)
    (is ∙ zeros_page p (pages * 4096) (omega (arith, inside)))
    ∙ ap (λ (ss : List Segment). page_bytes p (fold placed (zeros (pages * 4096)) ss)) same

-- a page that no segment reaches

beside_segment : (p : ℕ) (memory : List ℕ) (s : Segment) → p * 4096 + 4096 ≤ length memory → IsWithin (length memory) s → segment_reaches p s ≡ false
    → page_bytes p (placed memory s) ≡ page_bytes p memory
beside_segment p memory s inside within beside =
    let at = s.address - 0x80000000 in
    let apart : min (at + s.size) (p * 4096 + 4096) ≤ max at (p * 4096) = ltb-false (max at (p * 4096)) (min (at + s.size) (p * 4096 + 4096)) beside in
    beside_page p at (length s.bytes.items) memory s.bytes.items refl (omega (arith, within.start, within.file_part, within.end)) inside
    (omega (arith, apart, within.file_part))

beside_all : (p : ℕ) (segments : List Segment) (memory : List ℕ) → p * 4096 + 4096 ≤ length memory → All (IsWithin (length memory)) segments
    → All (λ s. segment_reaches p s ≡ false) segments → page_bytes p (fold placed memory segments) ≡ page_bytes p memory
beside_all p [] memory inside within beside = refl
beside_all p (s ∷ segments) memory inside within beside =
    let size = placed_size memory s (within 0 s (omega arith)) in
    beside_all p segments (placed memory s) (omega (arith, size, inside))
    (subst (λ (n : ℕ). All (IsWithin n) segments) (sym size) (λ k d h. within (suc k) d (omega arith))) (λ k d h. beside (suc k) d (omega arith))
    ∙ beside_segment p memory s inside (within 0 s (omega arith)) (beside 0 s (omega arith))

pub beside_is_zeros : (image : Image) (pages p : ℕ) → p < pages → FitsPages image pages → IsBeside image p → page_bytes p (boot_memory image pages) ≡ zeros 4096
beside_is_zeros image pages p there fits beside =
    let size = length-zeros (pages * 4096) in
    beside_all p image.segments.items (zeros (pages * 4096)) (omega (arith, size, there)) (subst (λ (n : ℕ). All (IsWithin n) image.segments.items) (sym size) fits) beside
    ∙ sym (zeros_page p (pages * 4096) (omega (arith, there)))

-- ---- a page whose frame gets those bytes

module _ (b new : GuestBusIs) (p at : ℕ) (bytes boot : List ℕ) (whole : AreWhole b.pages) (whole_new : AreWhole new.pages) (settled : IsSettled b) (settled_new : IsSettled new) where
  pub page_loaded : p < length b.pages → kind_at b.pages p ≡ Private → outline new.pages ≡ outline b.pages → at ≡ p * 4096
      → board_of new ≡ record (board_of b) { memory = patched (board_of b).memory at bytes (length bytes) } → length bytes ≡ 4096 → bytes ≡ boot
      → new ≡ with_page p (page.Private (record { number = (own_frame (page_at b.pages p)).number; bytes = boot })) b
  page_loaded there private out place board long is =
      let frame : FrameIs = record { number = (own_frame (page_at b.pages p)).number; bytes = bytes } in
      let loaded : Page = page.Private frame in
      let same_out : outlined loaded ≡ outlined (page_at b.pages p) = sym (ap outlined (private_is (page_at b.pages p) private)) in
      let memory : memory_of new.pages ≡ memory_of (set b.pages p loaded) =
      sym (settled_memory new settled_new) ∙ ap (λ (w : Board). w.memory) board
      ∙ (λ i. patched (settled_memory b settled i) (place i) bytes (long i))
      ∙ sym (memory_patched b.pages p loaded whole there) in
      let pages : new.pages ≡ set b.pages p loaded =
      same_pages new.pages (set b.pages p loaded) whole_new (whole_set b.pages p loaded whole long) (out ∙ sym (outline_same b.pages p loaded same_out)) memory in
      let devices : new.devices ≡ b.devices = ap (λ (w : Board). w.devices) board in
      let waiting : new.waiting ≡ b.waiting = settled_new ∙ sym settled in
      (λ i. record { pages = pages i; devices = devices i; waiting = waiting i })
      ∙ ap (λ (xs : List ℕ). with_page p (page.Private (record { number = (own_frame (page_at b.pages p)).number; bytes = xs })) b) is
