-- Keys of maps: digests and pages are equal or not, and so say the tests of the maps.
use Rattle.std.proofs.Common.{ℕ, Bool, true, false, ◌&&◌, ◌≡◌, ◌⊎◌, inl, inr, List, refl, sym, ap, ◌∙◌}
use Rattle.std.specs.Prelude.{nat_eq, Option, Some, None}
use Rattle.std.specs.Cmp.Lexicographic.{pointwise}
use Rattle.std.proofs.lemmas.Bool.{cases_Bool, cases_eq}
use Rattle.std.proofs.lemmas.Bool.Decides.{Decides-eqb}
use Rattle.std.proofs.lemmas.Slice.Eq.{slice_eq-Decides}
use Rattle.sharetab.specs.declared.guest_page.GuestPage.{GuestPage}

pub some_same : {X : Type 0} (x y : X) → Some x ≡ Some y → x ≡ y
some_same x y e = cc

pub none_is_not_some : {X : Type 0} (o : Option X) (x : X) → o ≡ None → o ≡ Some x → ⊥
none_is_not_some o x none some = let e : None ≡ Some x = sym none ∙ some in absurd (cc)

true_is_not_false : (b : Bool) → b ≡ true → b ≡ false → ⊥
true_is_not_false b holds fails = let e : true ≡ false = sym holds ∙ fails in absurd (cc)

-- ---- digests

test_of : (d e : List ℕ) → (pointwise nat_eq d e ≡ true → d ≡ e) × (d ≡ e → pointwise nat_eq d e ≡ true)
test_of d e = slice_eq-Decides Decides-eqb d e (pointwise nat_eq d e) refl

pub digest_cases : (d e : List ℕ) → (d ≡ e) ⊎ (d ≡ e → ⊥)
digest_cases d e =
    elim (cases_Bool (pointwise nat_eq d e)) [
      | inl holds ↦ inl ((test_of d e).0 holds)
      | inr fails ↦ inr (λ same. true_is_not_false (pointwise nat_eq d e) ((test_of d e).1 same) fails)
    ]

pub digest_apart : (key other : List ℕ) → (other ≡ key → ⊥) → pointwise nat_eq key other ≡ false
digest_apart key other apart =
    elim (cases_Bool (pointwise nat_eq key other)) [
      | inl holds ↦ absurd (apart (sym ((test_of key other).0 holds)))
      | inr fails ↦ fails
    ]

-- ---- pages

pub same_page : (p q : GuestPage) → p.guest ≡ q.guest → p.page ≡ q.page → p ≡ q
same_page p q guest page =
    let of : ℕ → ℕ → GuestPage = λ a b. record { guest = a; page = b } in
    ap (λ (a : ℕ). of a p.page) guest ∙ ap (of q.guest) page

pub page_cases : (p q : GuestPage) → (p ≡ q) ⊎ (p ≡ q → ⊥)
page_cases p q =
    elim (cases_eq p.guest q.guest) [
      | inl guest ↦ elim (cases_eq p.page q.page) [
        | inl page ↦ inl (same_page p q guest page)
        | inr apart ↦ inr (λ same. apart (ap (λ (x : GuestPage). x.page) same))
      ]
      | inr apart ↦ inr (λ same. apart (ap (λ (x : GuestPage). x.guest) same))
    ]

same_key : (a b c d : ℕ) → (nat_eq a c && nat_eq b d) ≡ true → (a ≡ c) × (b ≡ d)
same_key a b c d e =
    elim (cases_Bool (nat_eq a c)) [
      | inl guest ↦ elim (cases_Bool (nat_eq b d)) [
        | inl page ↦ ((Decides-eqb a c).0 guest, (Decides-eqb b d).0 page)
        | inr fails ↦ absurd (true_is_not_false (nat_eq a c && nat_eq b d) e (ap (λ t. nat_eq a c && t) fails ∙ ap (λ t. t && false) guest))
      ]
      | inr fails ↦ absurd (true_is_not_false (nat_eq a c && nat_eq b d) e (ap (λ t. t && nat_eq b d) fails))
    ]

pub page_apart : (page other : GuestPage) → (other ≡ page → ⊥) → (nat_eq page.guest other.guest && nat_eq page.page other.page) ≡ false
page_apart page other apart =
    elim (cases_Bool (nat_eq page.guest other.guest && nat_eq page.page other.page)) [
      | inl holds ↦
          let same = same_key page.guest page.page other.guest other.page holds in
          absurd (apart (same_page other page (sym same.0) (sym same.1)))
      | inr fails ↦ fails
    ]
