-- A page that was in a slot and has got a frame.
use Rattle.std.proofs.Common.{◌≡◌, ◌↔◌, ◌<◌, ◌+◌, ℕ, Bool, true, List, Option, None, Result, Ok, Err, OnOk, length, set, refl, ap, sym, subst, ◌∙◌, inl, inr, arith}
use Rattle.std.proofs.lemmas.Bool.{cases_lt, cases_eq}
use Rattle.std.proofs.lemmas.List.{get_or_past, get_or-set_same, get_or-set_other, ext_get_or, length-set}
use Rattle.std.proofs.lemmas.List.Sums.{sum_by-set}
use Rattle.items.specs.declared.item.Item.{Item}
use Rattle.guest_pages.specs.declared.page.Page.{Page}
use Rattle.guest_pages.specs.declared.page.Page.TheVariants as p
use Rattle.guest_pages.specs.declared.page.PageKind.TheVariants as kind
use Rattle.guest_pages.specs.Holdings.{one_swapped, swapped_pages}
use Rattle.guest_pages.specs.Pages.{kind_of, kind_at, page_at}

-- a page that is in a slot is one of the guest's
pub away_is_there : (pages : List Page) (page : ℕ) → kind_at pages page ≡ kind.Swapped → page < length pages
away_is_there pages page away =
    elim (cases_lt page (length pages)) [
      | inl inside ↦ inside
      | inr past ↦ let e = ap kind_of (get_or_past pages page p.Zero past) in absurd (cc)
    ]

one_of_swapped : (q : Page) → kind_of q ≡ kind.Swapped → one_swapped q ≡ 1
one_of_swapped p.Zero e = absurd (cc)
one_of_swapped p.Given e = absurd (cc)
one_of_swapped (p.Private frame) e = absurd (cc)
one_of_swapped (p.Shared share ticket) e = absurd (cc)
one_of_swapped (p.Swapped slot digest) e = refl

none_of_private : (q : Page) → kind_of q ≡ kind.Private → one_swapped q ≡ 0
none_of_private p.Zero e = refl
none_of_private p.Given e = refl
none_of_private (p.Private frame) e = refl
none_of_private (p.Shared share ticket) e = refl
none_of_private (p.Swapped slot digest) e = absurd (cc)

-- where all pages but one are as they were, the list is the one with that page replaced
replaced : (ps qs : List Page) (page : ℕ) → page < length ps → length qs ≡ length ps → ((other : ℕ) → (other ≡ page → ⊥) → page_at qs other ≡ page_at ps other) → qs ≡ set ps page (page_at qs page)
replaced ps qs page there count others =
    ext_get_or p.Zero qs (set ps page (page_at qs page)) (count ∙ sym (length-set ps page (page_at qs page)))
    (λ k inside. elim (cases_eq k page) [
      | inl same ↦ subst (λ (n : ℕ). page_at qs n ≡ page_at (set ps page (page_at qs page)) n) (sym same) (sym (get_or-set_same ps page (page_at qs page) p.Zero there))
      | inr apart ↦ others k apart ∙ sym (get_or-set_other ps page k (page_at qs page) p.Zero apart)
    ])

fewer_now : (ps qs : List Page) (page : ℕ) → kind_at ps page ≡ kind.Swapped → kind_at qs page ≡ kind.Private → length qs ≡ length ps
    → ((other : ℕ) → (other ≡ page → ⊥) → page_at qs other ≡ page_at ps other) → swapped_pages qs + 1 ≡ swapped_pages ps
fewer_now ps qs page away came count others =
    let there : page < length ps = away_is_there ps page away in
    omega (arith, ap swapped_pages (replaced ps qs page there count others), sum_by-set one_swapped ps page (page_at qs page) p.Zero there, one_of_swapped (page_at ps page) away, none_of_private (page_at qs page) came)

-- once a page that was in a slot has got a frame, and each other is as it was, one page fewer is in a slot
pub one_fewer : {T E : Type 0} (r : Result T E) (ps qs : List Page) (page : ℕ) → OnOk r (kind_at qs page ≡ kind.Private) → length qs ≡ length ps
    → ((other : ℕ) → (other ≡ page → ⊥) → page_at qs other ≡ page_at ps other) → kind_at ps page ≡ kind.Swapped → OnOk r (swapped_pages qs + 1 ≡ swapped_pages ps)
one_fewer (Ok t) ps qs page came count others away = fewer_now ps qs page away came count others
one_fewer (Err e) ps qs page came count others away = tt

-- ---- what is so of a log, where a truth holds, is so of what a seat has seen, where it knows the truth

pub seen_ok : {T E : Type 0} (r : Result T E) (f : List Item → Option (List ℕ)) (answer : Option (List ℕ)) (log saw : List Item) (holds held : Bool) → saw ≡ log → (held ≡ true → holds ≡ true)
    → OnOk r (holds ≡ true → f log ≡ answer) → OnOk r (held ≡ true → f saw ≡ answer)
seen_ok (Ok t) f answer log saw holds held same looked ok = λ h. ap f same ∙ ok (looked h)
seen_ok (Err e) f answer log saw holds held same looked ok = tt

pub seen_none : {P : Type 0} (f : List Item → Option (List ℕ)) (log saw : List Item) (holds held : Bool) → saw ≡ log → (held ≡ true → holds ≡ true) → (holds ≡ true → (P ↔ (f log ≡ None)))
    → held ≡ true → (P ↔ (f saw ≡ None))
seen_none {P = P} f log saw holds held same looked none h = subst (λ (items : List Item). P ↔ (f items ≡ None)) (sym same) (none (looked h))
