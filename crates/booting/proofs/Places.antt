-- One list of pages more, and where the pages of images come.
use Rattle.std.proofs.Common.{ℕ, zero, suc, ◌≡◌, ◌+◌, ◌<◌, ◌⊎◌, inl, inr, List, [], ◌∷◌, ◌++◌, length, refl, sym, ap, subst, ◌∙◌, arith}
use Rattle.std.proofs.lemmas.List.Sums.{get_or-le-sum_by}
use Rattle.frames.specs.Counts.{count_of}
use Rattle.frames.specs.FreeList.{FreeList}
use Rattle.guest_pages.specs.declared.page.Page.{Page}
use Rattle.guest_pages.specs.declared.page.Page.TheVariants as page
use Rattle.guest_pages.specs.declared.page.PageKind.{PageKind}
use Rattle.guest_pages.specs.declared.page.PageKind.TheVariants as kind
use Rattle.guest_pages.specs.Pages.{page_at, kind_at, slot_of}
use Rattle.guest_pages.specs.Holdings.{slot_in, slots_held}
use Rattle.page_moves.specs.Books.{pages_of}
use Rattle.tenant.specs.Loading.{FramesFirst, NonePrivate, SlotsRise}
use Rattle.tenant.proofs.SlotOrder.{slot_counts, swapped_inside}
use Rattle.booting.specs.Places.{FramesComeFirst, SlotsComeInOrder}

-- a list is one of those that there were, or the last one
lists_at : (all : List (List Page)) (ps : List Page) (g : ℕ) → (pages_of (all ++ ps ∷ []) g ≡ pages_of all g) ⊎ ((g ≡ length all) × (pages_of (all ++ ps ∷ []) g ≡ ps))
lists_at [] ps zero = inr (refl, refl)
lists_at [] ps (suc g) = inl refl
lists_at (qs ∷ all) ps zero = inl refl
lists_at (qs ∷ all) ps (suc g) = elim (lists_at all ps g) [
  | inl e ↦ inl e
  | inr e ↦ inr (omega (arith, e.0), e.1)
]

-- a guest that has such a page is one of them
among : (k : PageKind) → (kind.Zero ≡ k → ⊥) → (all : List (List Page)) (g p : ℕ) → kind_at (pages_of all g) p ≡ k → g < length all
among k apart [] g p is = absurd (apart is)
among k apart (ps ∷ all) zero p is = omega arith
among k apart (ps ∷ all) (suc g) p is = omega (arith, among k apart all g p is)

-- ---- frames first

pub none_first : (pool : FreeList) → FramesComeFirst pool []
none_first pool = record {
  each = λ g. record { full = λ p away. absurd (cc); below = λ p q here away. absurd (cc) };
  earlier = λ g h p q order away here. absurd (cc);
}

pub one_more_first : (pool pool' : FreeList) (all : List (List Page)) (ps : List Page) → FramesFirst pool' ps → (pool.free ≡ [] → pool'.free ≡ []) → (pool.free ≡ [] → NonePrivate ps)
    → FramesComeFirst pool all → FramesComeFirst pool' (all ++ ps ∷ [])
one_more_first pool pool' all ps first stays none f = record {
  each = λ g. elim (lists_at all ps g) [
    | inl e ↦ subst (FramesFirst pool') (sym e) (record { full = λ p away. stays ((f.each g).full p away); below = (f.each g).below })
    | inr e ↦ subst (FramesFirst pool') (sym e.1) first
  ];
  earlier = λ g h p q order away here. elim (lists_at all ps h) [
    | inl e ↦
        let here' : kind_at (pages_of all h) q ≡ kind.Private = ap (λ (xs : List Page). kind_at xs q) (sym e) ∙ here in
        let inside = among kind.Private (λ d. absurd (cc)) all h q here' in
        f.earlier g h p q order (before g p (omega (arith, order, inside)) away) here'
    | inr e ↦
        none ((f.each g).full p (before g p (omega (arith, order, e.0)) away)) q (ap (λ (xs : List Page). kind_at xs q) (sym e.1) ∙ here)
  ];
}
  where
    before : (g p : ℕ) → g < length all → kind_at (pages_of (all ++ ps ∷ []) g) p ≡ kind.Swapped → kind_at (pages_of all g) p ≡ kind.Swapped
    before g p inside away = elim (lists_at all ps g) [
      | inl e ↦ ap (λ (xs : List Page). kind_at xs p) (sym e) ∙ away
      | inr e ↦ absurd (omega (arith, inside, e.0))
    ]

-- ---- slots in order

pub none_in_order : (book : FreeList) → SlotsComeInOrder book []
none_in_order book = record {
  each = λ g. record { rise = λ p q order here there. absurd (cc); free = λ p slot here some. absurd (cc) };
  earlier = λ g h p q order here there. absurd (cc);
}

pub one_more_in_order : (book book' : FreeList) (all : List (List Page)) (ps : List Page) → SlotsRise book' ps → ((k : ℕ) → count_of k book'.free + slots_held k ps ≡ count_of k book.free)
    → SlotsComeInOrder book all → SlotsComeInOrder book' (all ++ ps ∷ [])
one_more_in_order book book' all ps rise taken s = record {
  each = λ g. elim (lists_at all ps g) [
    | inl e ↦
        subst (SlotsRise book') (sym e)
        (record { rise = (s.each g).rise; free = λ p slot here some. (s.each g).free p slot here (omega (arith, some, taken slot)) })
    | inr e ↦ subst (SlotsRise book') (sym e.1) rise
  ];
  earlier = λ g h p q order here there. elim (lists_at all ps h) [
    | inl e ↦
        let there' : kind_at (pages_of all h) q ≡ kind.Swapped = ap (λ (xs : List Page). kind_at xs q) (sym e) ∙ there in
        let sooner : g < length all = omega (arith, order, among kind.Swapped (λ d. absurd (cc)) all h q there') in
        subst (λ (xs : List Page). slot_of (page_at (pages_of (all ++ ps ∷ []) g) p) < slot_of (page_at xs q)) (sym e)
        (subst (λ (xs : List Page). slot_of (page_at xs p) < slot_of (page_at (pages_of all h) q)) (sym (before g sooner))
        (s.earlier g h p q order (ap (λ (xs : List Page). kind_at xs p) (sym (before g sooner)) ∙ here) there'))
    | inr e ↦
        let sooner : g < length all = omega (arith, order, e.0) in
        let there' : kind_at ps q ≡ kind.Swapped = ap (λ (xs : List Page). kind_at xs q) (sym e.1) ∙ there in
        subst (λ (xs : List Page). slot_of (page_at (pages_of (all ++ ps ∷ []) g) p) < slot_of (page_at xs q)) (sym e.1)
        (subst (λ (xs : List Page). slot_of (page_at xs p) < slot_of (page_at ps q)) (sym (before g sooner))
        ((s.each g).free p (slot_of (page_at ps q)) (ap (λ (xs : List Page). kind_at xs p) (sym (before g sooner)) ∙ here) (its_slot q there')))
  ];
}
  where
    before : (g : ℕ) → g < length all → pages_of (all ++ ps ∷ []) g ≡ pages_of all g
    before g inside = elim (lists_at all ps g) [
      | inl e ↦ e
      | inr e ↦ absurd (omega (arith, inside, e.0))
    ]

    -- a slot that a page of the last guest has taken was free
    its_slot : (q : ℕ) → kind_at ps q ≡ kind.Swapped → 0 < count_of (slot_of (page_at ps q)) book.free
    its_slot q away =
        let slot = slot_of (page_at ps q) in
        omega (arith, taken slot, slot_counts (page_at ps q) away, get_or-le-sum_by (slot_in slot) ps q page.Zero (swapped_inside ps q away))
