-- Pages whose slots stay as they are.
use Rattle.std.proofs.Common.{ℕ, ◌≡◌, ◌<◌, List, length, set, refl, sym, ap, ◌∙◌, Option, Some, None}
use Rattle.std.specs.Option.{IsSome}
use Rattle.sha2.specs.Sha256.{sha256}
use Rattle.frames.specs.Frames.{FrameIs}
use Rattle.swapstore.specs.Holding.{AreHeld, AreHeldByDigest, AllStay}
use Rattle.guest_pages.specs.declared.page.Page.{Page}
use Rattle.guest_pages.specs.declared.page.Page.TheVariants as page
use Rattle.guest_pages.specs.declared.page.PageKind.TheVariants.{Swapped}
use Rattle.guest_pages.specs.Pages.{kind_of, page_at, kind_at, slot_of, digest_of}
use Rattle.page_moves.specs.Faith.{IsFaithful, IsHeld, Kept}
use Rattle.page_moves.proofs.Exchanging.{kept_by_page}

held_still : (held held' : ℕ → Option (List ℕ)) (b : List ℕ) (q : Page) → AllStay held held' → IsHeld held b q → IsHeld held' b q
held_still held held' b page.Zero stay lies = tt
held_still held held' b page.Given stay lies = tt
held_still held held' b (page.Private frame) stay lies = tt
held_still held held' b (page.Shared share ticket) stay lies = tt
held_still held held' b (page.Swapped slot digest) stay lies = λ last is. lies last (sym (stay slot) ∙ is)

pub all_kept : (held held' : ℕ → Option (List ℕ)) (view : ℕ → List ℕ) (ps : List Page) → AllStay held held' → Kept held view ps → Kept held' view ps
all_kept held held' view ps stay k = record {
  faithful = k.faithful;
  lies = λ p inside. held_still held held' (view p) (page_at ps p) stay (k.lies p inside);
}

-- what was last written to a slot is known, and is these bytes
last_is : (held : Option (List ℕ)) (b : List ℕ) → IsSome held → AreHeld held b → held ≡ Some b
last_is None b known lies = absurd (cc)
last_is (Some last) b known lies = ap Some (sym (lies last refl))

-- bytes that are what was last written, or have another SHA-256, are these where they have their SHA-256
pub digest_tells : (held : Option (List ℕ)) (b bytes : List ℕ) → IsSome held → AreHeld held b → AreHeldByDigest held bytes → sha256 bytes ≡ sha256 b → bytes ≡ b
digest_tells held b bytes known lies true_bytes same = true_bytes b (last_is held b known lies) same

away_is : (held : ℕ → Option (List ℕ)) (b : List ℕ) (q : Page) → kind_of q ≡ Swapped → IsFaithful b q → IsHeld held b q → (digest_of q ≡ sha256 b) × AreHeld (held (slot_of q)) b
away_is held b page.Zero e f lies = absurd (cc)
away_is held b page.Given e f lies = absurd (cc)
away_is held b (page.Private frame) e f lies = absurd (cc)
away_is held b (page.Shared share ticket) e f lies = absurd (cc)
away_is held b (page.Swapped slot digest) e f lies = (f, lies)

-- what was last written to the slot of a page that is kept has its SHA-256
pub kept_is_sound : (held : ℕ → Option (List ℕ)) (view : ℕ → List ℕ) (ps : List Page) (p : ℕ) (bytes : List ℕ) → p < length ps → kind_at ps p ≡ Swapped
    → IsSome (held (slot_of (page_at ps p))) → Kept held view ps → AreHeld (held (slot_of (page_at ps p))) bytes → sha256 bytes ≡ digest_of (page_at ps p)
kept_is_sound held view ps p bytes inside kind known k written =
    let own = away_is held (view p) (page_at ps p) kind (k.faithful p inside) (k.lies p inside) in
    ap sha256 (written (view p) (last_is (held (slot_of (page_at ps p))) (view p) known own.1)) ∙ sym own.0

-- a page that is kept comes from its slot with its bytes, where what is read is what was last written, or has another SHA-256
pub supplied_kept : (held held' : ℕ → Option (List ℕ)) (view : ℕ → List ℕ) (ps ps' : List Page) (p : ℕ) (frame : FrameIs) → p < length ps → kind_at ps p ≡ Swapped
    → ps' ≡ set ps p (page.Private frame) → sha256 frame.bytes ≡ digest_of (page_at ps p) → IsSome (held (slot_of (page_at ps p)))
    → AreHeldByDigest (held (slot_of (page_at ps p))) frame.bytes → AllStay held held' → Kept held view ps → Kept held' view ps'
supplied_kept held held' view ps ps' p frame inside kind is same known true_bytes stay k =
    let own = away_is held (view p) (page_at ps p) kind (k.faithful p inside) (k.lies p inside) in
    kept_by_page held held' view ps ps' p (page.Private frame) inside is
    (digest_tells (held (slot_of (page_at ps p))) (view p) frame.bytes known own.1 true_bytes (same ∙ own.0)) tt
    (λ o there apart lies. held_still held held' (view o) (page_at ps o) stay lies) k
