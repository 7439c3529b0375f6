-- Slots that rise with the pages that are in them.
use Rattle.std.proofs.Common.{ℕ, zero, suc, ◌≡◌, ◌+◌, ◌<◌, ◌≤◌, inl, inr, List, [], ◌∷◌, All, length, replicate, get_or, set, refl, sym, ap, subst, ◌∙◌, arith}
use Rattle.std.proofs.lemmas.Bool.{cases_eq}
use Rattle.frames.specs.Counts.{one_at, count_of, below}
use Rattle.frames.specs.FreeList.{FreeList}
use Rattle.frames.proofs.Counting.{count_cons, one_same, one_other}
use Rattle.elf32.specs.declared.image.Image.{Image}
use Rattle.guest_pages.specs.declared.page.Page.{Page}
use Rattle.guest_pages.specs.declared.page.Page.TheVariants as page
use Rattle.guest_pages.specs.declared.page.PageKind.TheVariants as kind
use Rattle.guest_pages.specs.Pages.{kind_of, kind_at, page_at, own_frame, slot_of}
use Rattle.guest_pages.specs.Holdings.{slot_in, slots_held}
use Rattle.page_moves.specs.Moves.{MovesSlots}
use Rattle.page_moves.specs.Supplies.{Supplies}
use Rattle.page_moves.proofs.Booking.{below_one}
use Rattle.page_moves.proofs.Exchanging.{new_at, exchanged, holds_nothing}
use Rattle.tenant.specs.Loading.{AreUntouched, TakesLowest, SlotsRise}
use Rattle.tenant.proofs.Booting.{same_at}

-- what is so of each number of a list is so of a number that stands in it
among : (P : ℕ → Type 0) (s : ℕ) (l : List ℕ) → All P l → 0 < count_of s l → P s
among P s [] all some = absurd (omega (arith, some))
among P s (n ∷ ns) all some = elim (cases_eq n s) [
  | inl e ↦ subst P e (all 0 0 (omega arith))
  | inr apart ↦ among P s ns (λ k d h. all (suc k) d (omega (arith, h))) (omega (arith, some, count_cons s n ns, one_other s n apart))
]

pub slot_counts : (q : Page) → kind_of q ≡ kind.Swapped → slot_in (slot_of q) q ≡ 1
slot_counts page.Zero e = absurd (cc)
slot_counts page.Given e = absurd (cc)
slot_counts (page.Private frame) e = absurd (cc)
slot_counts (page.Shared share ticket) e = absurd (cc)
slot_counts (page.Swapped slot digest) e = one_same slot

-- the page of an image that was never touched is in the slot of the lowest number
pub slot_is_lowest : (book book' : FreeList) (ps ps' : List Page) (p : ℕ) (digest : List ℕ) → p < length ps → kind_at ps p ≡ kind.Zero
    → ps' ≡ set ps p (page.Swapped (slot_of (page_at ps' p)) digest) → MovesSlots ps book ps' book' [] → All (λ other. slot_of (page_at ps' p) ≤ other) book.free
    → TakesLowest book book' (page_at ps' p)
slot_is_lowest book book' ps ps' p digest there untouched is moves lowest =
    let q = page.Swapped (slot_of (page_at ps' p)) digest in
    let at : page_at ps' p ≡ q = new_at ps ps' p q there is in
    let none = holds_nothing (page_at ps p) (inl untouched) in
    record {
      taken = λ k. omega (arith, moves.numbers k, exchanged (slot_in k) ps ps' p q there is, none.slot k, ap (slot_in k) at);
      lowest = λ away slot some. among (λ other. slot_of (page_at ps' p) ≤ other) slot book.free lowest some;
    }

-- a page that gets a frame takes no slot
pub frame_takes_none : (book : FreeList) (ps ps' : List Page) (p : ℕ) (bytes : List ℕ) → p < length ps → Supplies ps p bytes ps' → TakesLowest book book (page_at ps' p)
frame_takes_none book ps ps' p bytes there s =
    let q = page.Private (own_frame (page_at ps' p)) in
    let at : page_at ps' p ≡ q = new_at ps ps' p q there s.pages in
    record {
      taken = λ k. omega (arith, ap (slot_in k) at);
      lowest = λ away slot some. let both : kind.Private ≡ kind.Swapped = sym (ap kind_of at) ∙ away in absurd (cc);
    }

-- no page is in a slot
pub none_rise : (book : FreeList) (n : ℕ) (ps : List Page) → ps ≡ replicate n page.Zero → SlotsRise book ps
none_rise book n ps is = record {
  rise = λ p q before away there. absurd (zero_page p away);
  free = λ p slot away some. absurd (zero_page p away);
}
  where
    zero_page : (p : ℕ) → kind_at ps p ≡ kind.Swapped → ⊥
    zero_page p away =
        let both : kind.Zero ≡ kind.Swapped = sym (ap kind_of (ap (λ (l : List Page). page_at l p) is ∙ same_at n p page.Zero)) ∙ away in
        absurd (cc)

-- one page more
pub next_slots_rise : (image : Image) (next slots : ℕ) (book book' : FreeList) (ps ps' : List Page) → ((o : ℕ) → (o ≡ next → ⊥) → page_at ps' o ≡ page_at ps o) → AreUntouched image next ps
    → ((k : ℕ) → count_of k book.free + slots_held k ps ≤ below k slots) → TakesLowest book book' (page_at ps' next) → SlotsRise book ps → SlotsRise book' ps'
next_slots_rise image next slots book book' ps ps' others a once now r = record {
  rise = λ p q order here away. elim (cases_eq q next) [
    | inl e ↦
        let mine : kind_at ps' next ≡ kind.Swapped = sym (ap (kind_at ps') e) ∙ away in
        let apart : p ≡ next → ⊥ = λ same. absurd (omega (arith, order, e, same)) in
        subst (λ (n : ℕ). slot_of (page_at ps' p) < slot_of (page_at ps' n)) (sym e)
        (subst (λ (t : Page). slot_of t < slot_of (page_at ps' next)) (sym (others p apart)) (r.free p (slot_of (page_at ps' next)) (was p apart here) (was_free mine)))
    | inr apart ↦ elim (cases_eq p next) [
      | inl e ↦ absurd (further q (omega (arith, order, e)) away)
      | inr other ↦
          subst (λ (t : Page). slot_of t < slot_of (page_at ps' q)) (sym (others p other))
          (subst (λ (t : Page). slot_of (page_at ps p) < slot_of t) (sym (others q apart)) (r.rise p q order (was p other here) (was q apart away)))
    ]
  ];
  free = λ p slot away some. elim (cases_eq p next) [
    | inl e ↦
        let mine : kind_at ps' next ≡ kind.Swapped = sym (ap (kind_at ps') e) ∙ away in
        subst (λ (n : ℕ). slot_of (page_at ps' n) < slot) (sym e) (below_free mine slot some)
    | inr apart ↦ subst (λ (t : Page). slot_of t < slot) (sym (others p apart)) (r.free p slot (was p apart away) (omega (arith, now.taken slot, some)))
  ];
}
  where
    was : (o : ℕ) → (o ≡ next → ⊥) → kind_at ps' o ≡ kind.Swapped → kind_at ps o ≡ kind.Swapped
    was o apart away = sym (ap kind_of (others o apart)) ∙ away

    was_free : kind_at ps' next ≡ kind.Swapped → 0 < count_of (slot_of (page_at ps' next)) book.free
    was_free mine = omega (arith, now.taken (slot_of (page_at ps' next)), slot_counts (page_at ps' next) mine)

    further : (q : ℕ) → next < q → kind_at ps' q ≡ kind.Swapped → ⊥
    further q past away =
        let zero_there : page_at ps q ≡ page.Zero = a.further q (omega (arith, past)) in
        let both : kind.Zero ≡ kind.Swapped = sym (ap kind_of zero_there) ∙ was q (λ e. absurd (omega (arith, past, e))) away in
        absurd (cc)

    below_free : kind_at ps' next ≡ kind.Swapped → (slot : ℕ) → 0 < count_of slot book'.free → slot_of (page_at ps' next) < slot
    below_free mine slot some = elim (cases_eq slot (slot_of (page_at ps' next))) [
      | inl e ↦
          absurd (omega (
            arith,
            once slot,
            below_one slot slots,
            now.taken slot,
            some,
            slot_counts (page_at ps' next) mine,
            ap (λ (n : ℕ). slot_in n (page_at ps' next)) e,
          ))
      | inr apart ↦ omega (arith, apart, now.lowest mine slot (omega (arith, now.taken slot, some)))
    ]

-- a page that is in a slot is one of the pages
pub swapped_inside : (ps : List Page) (p : ℕ) → kind_at ps p ≡ kind.Swapped → p < length ps
swapped_inside [] p away = absurd (cc)
swapped_inside (q ∷ qs) zero away = omega arith
swapped_inside (q ∷ qs) (suc p) away = omega (arith, swapped_inside qs p away)
