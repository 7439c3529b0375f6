-- One page is replaced: what the counts and the other pages become.
use Rattle.std.proofs.Common.{ℕ, ◌≡◌, ◌≢◌, ◌+◌, ◌<◌, ◌⊎◌, inl, inr, List, [], length, set, refl, sym, ap, subst, ◌∙◌, arith, length-set, Option}
use Rattle.std.proofs.lemmas.Bool.{cases_eq, cases_lt}
use Rattle.std.proofs.lemmas.List.{get_or-set_same, get_or-set_other, get_or_past}
use Rattle.std.proofs.lemmas.List.Sums.{sum_by-set, get_or-le-sum_by}
use Rattle.std.specs.List.{sum_by}
use Rattle.frames.specs.Counts.{one_at, count_of}
use Rattle.frames.specs.FreeList.{FreeList}
use Rattle.frames.specs.Frames.{FrameIs}
use Rattle.frames.proofs.Counting.{one_same}
use Rattle.sharetab.specs.Entries.{EntriesAre, entry_at, count_at, HasBytes, frames_shared, entry_count}
use Rattle.sharetab.specs.Books.{KeepBytes}
use Rattle.guest_pages.specs.declared.page.Page.{Page}
use Rattle.guest_pages.specs.declared.page.Page.TheVariants as page
use Rattle.guest_pages.specs.declared.page.PageKind.TheVariants.{Zero, Given, Private, Shared, Swapped}
use Rattle.guest_pages.specs.Pages.{kind_of, page_at, kind_at, shown, ticket_of, slot_of, digest_of, own_frame}
use Rattle.guest_pages.specs.Holdings.{frame_in, ticket_in, slot_in, one_private, one_swapped, tickets_held}
use Rattle.page_moves.specs.Moves.{MovesFrames, MovesSlots, MovesTickets, Reads, Covered}
use Rattle.page_moves.specs.Faith.{IsFaithful, Faithful, IsHeld, Kept}

-- ---- what a page of a kind is

pub private_is : (q : Page) → kind_of q ≡ Private → q ≡ page.Private (own_frame q)
private_is page.Zero e = absurd (cc)
private_is page.Given e = absurd (cc)
private_is (page.Private frame) e = refl
private_is (page.Shared share ticket) e = absurd (cc)
private_is (page.Swapped slot digest) e = absurd (cc)

pub swapped_is : (q : Page) → kind_of q ≡ Swapped → q ≡ page.Swapped (slot_of q) (digest_of q)
swapped_is page.Zero e = absurd (cc)
swapped_is page.Given e = absurd (cc)
swapped_is (page.Private frame) e = absurd (cc)
swapped_is (page.Shared share ticket) e = absurd (cc)
swapped_is (page.Swapped slot digest) e = refl

-- the frame that a shared page reads
abbrev pub share_of : Page → FrameIs
share_of (page.Shared share ticket) = share
share_of _ = record { number = 0; bytes = [] }

pub shared_is : (q : Page) → kind_of q ≡ Shared → q ≡ page.Shared (share_of q) (ticket_of q)
shared_is page.Zero e = absurd (cc)
shared_is page.Given e = absurd (cc)
shared_is (page.Private frame) e = absurd (cc)
shared_is (page.Shared share ticket) e = refl
shared_is (page.Swapped slot digest) e = absurd (cc)

-- a page that holds nothing
pub record HoldsNothing (q : Page) : Type 0 where
  pub frame : (k : ℕ) → frame_in k q ≡ 0
  pub slot : (k : ℕ) → slot_in k q ≡ 0
  pub ticket : (k : ℕ) → ticket_in k q ≡ 0
  pub private : one_private q ≡ 0
  pub swapped : one_swapped q ≡ 0

pub holds_nothing : (q : Page) → (kind_of q ≡ Zero) ⊎ (kind_of q ≡ Given) → HoldsNothing q
holds_nothing page.Zero e = record { frame = λ k. refl; slot = λ k. refl; ticket = λ k. refl; private = refl; swapped = refl }
holds_nothing page.Given e = record { frame = λ k. refl; slot = λ k. refl; ticket = λ k. refl; private = refl; swapped = refl }
holds_nothing (page.Private frame) (inl e) = absurd (cc)
holds_nothing (page.Private frame) (inr e) = absurd (cc)
holds_nothing (page.Shared share ticket) (inl e) = absurd (cc)
holds_nothing (page.Shared share ticket) (inr e) = absurd (cc)
holds_nothing (page.Swapped slot digest) (inl e) = absurd (cc)
holds_nothing (page.Swapped slot digest) (inr e) = absurd (cc)

-- ---- sums

-- what is counted of pages of which one is replaced
pub exchanged : (f : Page → ℕ) (ps ps' : List Page) (p : ℕ) (q : Page) → p < length ps → ps' ≡ set ps p q → sum_by f ps' + f (page_at ps p) ≡ sum_by f ps + f q
exchanged f ps ps' p q there is = ap (λ (l : List Page). sum_by f l + f (page_at ps p)) is ∙ sum_by-set f ps p q page.Zero there

pub frames_by_page : (ps : List Page) (pool : FreeList) (es : EntriesAre) (ps' : List Page) (pool' : FreeList) (es' : EntriesAre) (came : List ℕ) (p : ℕ) (q : Page)
    → p < length ps → ps' ≡ set ps p q
    → ((k : ℕ) → count_of k pool'.free + frame_in k q + frames_shared k es' + count_of k came ≡ count_of k pool.free + frame_in k (page_at ps p) + frames_shared k es)
    → pool'.out + one_private (page_at ps p) + entry_count es ≡ pool.out + one_private q + entry_count es' + length came
    → MovesFrames ps pool es ps' pool' es' came
frames_by_page ps pool es ps' pool' es' came p q there is numbers out = record {
  numbers = λ k. omega (arith, numbers k, exchanged (frame_in k) ps ps' p q there is);
  out = omega (arith, out, exchanged one_private ps ps' p q there is);
}

pub slots_by_page : (ps : List Page) (slots : FreeList) (ps' : List Page) (slots' : FreeList) (taken : List ℕ) (p : ℕ) (q : Page)
    → p < length ps → ps' ≡ set ps p q
    → ((k : ℕ) → count_of k slots'.free + slot_in k q ≡ count_of k slots.free + slot_in k (page_at ps p) + count_of k taken)
    → slots'.out + one_swapped (page_at ps p) + length taken ≡ slots.out + one_swapped q
    → MovesSlots ps slots ps' slots' taken
slots_by_page ps slots ps' slots' taken p q there is numbers out = record {
  numbers = λ k. omega (arith, numbers k, exchanged (slot_in k) ps ps' p q there is);
  out = omega (arith, out, exchanged one_swapped ps ps' p q there is);
}

pub tickets_by_page : (ps : List Page) (es : EntriesAre) (ps' : List Page) (es' : EntriesAre) (p : ℕ) (q : Page)
    → p < length ps → ps' ≡ set ps p q
    → ((k : ℕ) → count_at es' k + ticket_in k (page_at ps p) ≡ count_at es k + ticket_in k q)
    → KeepBytes es es' → length es' ≡ length es
    → MovesTickets ps es ps' es'
tickets_by_page ps es ps' es' p q there is numbers bytes places = record {
  numbers = λ k. omega (arith, numbers k, exchanged (ticket_in k) ps ps' p q there is);
  bytes = bytes;
  places = places;
}

pub same_bytes : (es : EntriesAre) → KeepBytes es es
same_bytes es = λ k bytes out has. has

-- ---- the pages that stay

pub new_at : (ps ps' : List Page) (p : ℕ) (q : Page) → p < length ps → ps' ≡ set ps p q → page_at ps' p ≡ q
new_at ps ps' p q there is = ap (λ (l : List Page). page_at l p) is ∙ get_or-set_same ps p q page.Zero there

pub other_at : (ps ps' : List Page) (p o : ℕ) (q : Page) → ps' ≡ set ps p q → o ≢ p → page_at ps' o ≡ page_at ps o
other_at ps ps' p o q is apart = ap (λ (l : List Page). page_at l o) is ∙ get_or-set_other ps p o q page.Zero apart

pub same_length : (ps ps' : List Page) (p : ℕ) (q : Page) → ps' ≡ set ps p q → length ps' ≡ length ps
same_length ps ps' p q is = ap length is ∙ length-set ps p q

-- what holds of the new page and of each other one holds of each
pub each_page : (T : ℕ → Page → Type 0) (ps ps' : List Page) (p : ℕ) (q : Page) → p < length ps → ps' ≡ set ps p q
    → T p q → ((o : ℕ) → o < length ps → o ≢ p → T o (page_at ps o)) → (o : ℕ) → o < length ps' → T o (page_at ps' o)
each_page T ps ps' p q there is new others o inside =
    elim (cases_eq o p) [
      | inl e ↦ subst (λ (n : ℕ). T n (page_at ps' n)) (sym e) (subst (T p) (sym (new_at ps ps' p q there is)) new)
      | inr apart ↦ subst (T o) (sym (other_at ps ps' p o q is apart)) (others o (omega (arith, inside, same_length ps ps' p q is)) apart)
    ]

pub faithful_by_page : (view : ℕ → List ℕ) (ps ps' : List Page) (p : ℕ) (q : Page) → p < length ps → ps' ≡ set ps p q
    → IsFaithful (view p) q → Faithful view ps → Faithful view ps'
faithful_by_page view ps ps' p q there is new all =
    each_page (λ (o : ℕ) (r : Page). IsFaithful (view o) r) ps ps' p q there is new (λ o inside apart. all o inside)

pub kept_by_page : (held held' : ℕ → Option (List ℕ)) (view : ℕ → List ℕ) (ps ps' : List Page) (p : ℕ) (q : Page) → p < length ps → ps' ≡ set ps p q
    → IsFaithful (view p) q → IsHeld held' (view p) q
    → ((o : ℕ) → o < length ps → o ≢ p → IsHeld held (view o) (page_at ps o) → IsHeld held' (view o) (page_at ps o))
    → Kept held view ps → Kept held' view ps'
kept_by_page held held' view ps ps' p q there is new lies others k = record {
  faithful = faithful_by_page view ps ps' p q there is new k.faithful;
  lies = each_page (λ (o : ℕ) (r : Page). IsHeld held' (view o) r) ps ps' p q there is lies (λ o inside apart. others o inside apart (k.lies o inside));
}

-- a ticket that a page has is among those of all
pub shared_there : (ps : List Page) (p : ℕ) → kind_at ps p ≡ Shared → p < length ps
shared_there ps p is =
    elim (cases_lt p (length ps)) [
      | inl h ↦ h
      | inr past ↦ let e = ap kind_of (get_or_past ps p page.Zero past) in absurd (cc)
    ]

pub ticket_held : (ps : List Page) (p : ℕ) → kind_at ps p ≡ Shared → 0 < tickets_held (ticket_of (page_at ps p)) ps
ticket_held ps p is =
    let t = ticket_of (page_at ps p) in
    let one : ticket_in t (page_at ps p) ≡ one_at t t = ap (ticket_in t) (shared_is (page_at ps p) is) in
    omega (arith, one, one_same t, get_or-le-sum_by (ticket_in t) ps p page.Zero (shared_there ps p is))

-- each shared page has the bytes of its entry, where the new one has
pub reads_by_page : (es es' : EntriesAre) (ps ps' : List Page) (p : ℕ) (q : Page) → p < length ps → ps' ≡ set ps p q
    → (kind_of q ≡ Shared → HasBytes (shown q) (entry_at es' (ticket_of q)))
    → MovesTickets ps es ps' es' → Covered es ps → Reads es ps → Reads es' ps'
reads_by_page es es' ps ps' p q there is new moves covered reads = λ o shared.
    elim (cases_eq o p) [
      | inl e ↦
          let at : page_at ps' o ≡ q = ap (page_at ps') e ∙ new_at ps ps' p q there is in
          subst (λ (r : Page). HasBytes (shown r) (entry_at es' (ticket_of r))) (sym at) (new (sym (ap kind_of at) ∙ shared))
      | inr apart ↦
          let at : page_at ps' o ≡ page_at ps o = other_at ps ps' p o q is apart in
          let k = ticket_of (page_at ps' o) in
          let out : 0 < count_at es' k = omega (arith, ticket_held ps' o shared, moves.numbers k, covered k) in
          moves.bytes k (shown (page_at ps' o)) out (subst (λ (r : Page). HasBytes (shown r) (entry_at es (ticket_of r))) (sym at) (reads o (sym (ap kind_of at) ∙ shared)))
    ]

-- each shared page has the bytes of its entry still, where the entries stay
pub reads_stay : (es : EntriesAre) (ps ps' : List Page) (p : ℕ) (q : Page) → p < length ps → ps' ≡ set ps p q
    → (kind_of q ≡ Shared → ⊥) → Reads es ps → Reads es ps'
reads_stay es ps ps' p q there is new reads = λ o shared.
    elim (cases_eq o p) [
      | inl e ↦
          let at : page_at ps' o ≡ q = ap (page_at ps') e ∙ new_at ps ps' p q there is in
          absurd (new (sym (ap kind_of at) ∙ shared))
      | inr apart ↦
          let at : page_at ps' o ≡ page_at ps o = other_at ps ps' p o q is apart in
          subst (λ (r : Page). HasBytes (shown r) (entry_at es (ticket_of r))) (sym at) (reads o (sym (ap kind_of at) ∙ shared))
    ]
