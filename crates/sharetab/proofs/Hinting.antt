-- Hints by page, and the pages by digest.
use Rattle.std.proofs.Common.{ℕ, ◌≡◌, ◌⊎◌, inl, inr, List, Option, Some, None, refl, sym, ap, ◌∙◌}
use Rattle.sharetab.specs.Maps.{at_digest, at_page}
use Rattle.sharetab.specs.Hints.{HintsAre, OnePageEach, Inverts}
use Rattle.sharetab.specs.declared.guest_page.GuestPage.{GuestPage}
use Rattle.sharetab.proofs.Keys.{some_same, none_is_not_some, digest_cases, page_cases}

pub inverts_none : (f : HintsAre) (g : List (List ℕ × GuestPage)) → ((p : GuestPage) → at_page f p ≡ None) → ((d : List ℕ) → at_digest g d ≡ None) → Inverts f g
inverts_none f g no_page no_digest = record {
  there = λ p d at. absurd (none_is_not_some (at_page f p) d (no_page p) at);
  back = λ p d at. absurd (none_is_not_some (at_digest g d) p (no_digest d) at);
}

pub one_page_each : (f : HintsAre) (g : List (List ℕ × GuestPage)) → Inverts f g → OnePageEach f
one_page_each f g i d p q of_p of_q = some_same p q (sym (i.there p d of_p) ∙ i.there q d of_q)

-- what a new hint asks of the pages by digest: the digest has the page, and the page's earlier digest has none
pub record Renewed (f : HintsAre) (g : List (List ℕ × GuestPage)) (p : GuestPage) (d : List ℕ) (g' : List (List ℕ × GuestPage)) : Type 0 where
  pub here : at_digest g' d ≡ Some p
  pub earlier : (e : List ℕ) → (e ≡ d → ⊥) → at_page f p ≡ Some e → at_digest g' e ≡ None
  pub others : (e : List ℕ) → (e ≡ d → ⊥) → (at_page f p ≡ Some e → ⊥) → at_digest g' e ≡ at_digest g e

hint_cases : (f : HintsAre) (p : GuestPage) (e : List ℕ) → (at_page f p ≡ Some e) ⊎ (at_page f p ≡ Some e → ⊥)
hint_cases f p e = by (at_page f p) refl
  where
    by : (o : Option (List ℕ)) → at_page f p ≡ o → (at_page f p ≡ Some e) ⊎ (at_page f p ≡ Some e → ⊥)
    by None is = inr (none_is_not_some (at_page f p) e is)
    by (Some x) is =
        elim (digest_cases x e) [
          | inl same ↦ inl (is ∙ ap Some same)
          | inr apart ↦ inr (λ own. apart (some_same x e (sym is ∙ own)))
        ]

-- a page is noted with a digest that no page had
pub inverts_noted : (f f' : HintsAre) (g g' : List (List ℕ × GuestPage)) (p : GuestPage) (d : List ℕ) → Inverts f g → ((q : GuestPage) → at_page f q ≡ Some d → ⊥)
    → at_page f' p ≡ Some d → ((q : GuestPage) → (q ≡ p → ⊥) → at_page f' q ≡ at_page f q) → Renewed f g p d g' → Inverts f' g'
inverts_noted f f' g g' p d i fresh here others r = record { there = λ q e at. there_by q e at (page_cases q p); back = λ q e at. back_by q e at (digest_cases e d) }
  where
    there_by : (q : GuestPage) (e : List ℕ) → at_page f' q ≡ Some e → (q ≡ p) ⊎ (q ≡ p → ⊥) → at_digest g' e ≡ Some q
    there_by q e at (inl same) =
        let of_p : e ≡ d = some_same e d (sym at ∙ ap (at_page f') same ∙ here) in
        ap (at_digest g') of_p ∙ r.here ∙ ap Some (sym same)
    there_by q e at (inr apart) =
        let was : at_page f q ≡ Some e = sym (others q apart) ∙ at in
        let not_d : e ≡ d → ⊥ = λ same. fresh q (was ∙ ap Some same) in
        let not_mine : at_page f p ≡ Some e → ⊥ = λ mine. apart (one_page_each f g i e q p was mine) in
        r.others e not_d not_mine ∙ i.there q e was

    back_by : (q : GuestPage) (e : List ℕ) → at_digest g' e ≡ Some q → (e ≡ d) ⊎ (e ≡ d → ⊥) → at_page f' q ≡ Some e
    back_by q e at (inl same) =
        let is : q ≡ p = some_same q p (sym at ∙ ap (at_digest g') same ∙ r.here) in
        ap (at_page f') is ∙ here ∙ ap Some (sym same)
    back_by q e at (inr apart) =
        elim (hint_cases f p e) [
          | inl mine ↦ absurd (none_is_not_some (at_digest g' e) q (r.earlier e apart mine) at)
          | inr not_mine ↦
              let was : at_page f q ≡ Some e = i.back q e (sym (r.others e apart not_mine) ∙ at) in
              others q (λ same. not_mine (ap (at_page f) (sym same) ∙ was)) ∙ was
        ]
