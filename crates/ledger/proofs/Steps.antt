-- Each step of a ledger's table keeps its rule.
use Rattle.std.proofs.Common.{◌≡◌, ◌≢◌, ℕ, zero, suc, List, [], ◌∷◌, ◌++◌, set, take, drop, refl, sym, ap, ◌∙◌, subst, append_assoc, append-nil}
use Rattle.std.proofs.lemmas.Grind.{flat_map-append}
use Rattle.std.specs.List.{flat_map}
use mathlib.Core.Option.{some, some-ne-none, some-injective}
use lib.ListN.{get_elem?}
use Rattle.atomic_table.specs.Table.{Me, opening, Allows, Splits, Joins}
use Rattle.atomic_table.specs.Table.Act.{keeps}
use Rattle.atomic_table.proofs.Lists.{set_else, set_again}
use Rattle.ledger.specs.declared.hand.Hand.{Hand}
use Rattle.ledger.specs.Shares.{AreOf, Become}
use Rattle.ledger.specs.Hands.{hand, parts_in, IsKept}

module _ {H : Type 0} where
  abbrev flat : List (Hand H) → List H
  flat hs = flat_map parts_in hs

  -- the parts of one hand stand between those before and after it
  pub record Around (hs : List (Hand H)) (i : ℕ) (v : Hand H) : Type 0 where
    pub before : List H
    pub after : List H
    pub now : flat hs ≡ before ++ (v.parts ++ after)
    pub then : (w : Hand H) → flat (set hs i w) ≡ before ++ (w.parts ++ after)

  around : (hs : List (Hand H)) (i : ℕ) (v : Hand H) → get_elem? hs i ≡ some v → Around hs i v
  around [] i v e = absurd (some-ne-none v (sym e))
  around (h ∷ hs) zero v e = record {
    before = [];
    after = flat hs;
    now = ap (λ (x : Hand H). x.parts ++ flat hs) (some-injective h v e);
    then = λ w. refl;
  }
  around (h ∷ hs) (suc i) v e =
      let a = around hs i v e in
      record {
        before = h.parts ++ a.before;
        after = a.after;
        now = ap (λ (xs : List H). h.parts ++ xs) a.now ∙ sym (append_assoc h.parts a.before (v.parts ++ a.after));
        then = λ w. ap (λ (xs : List H). h.parts ++ xs) (a.then w) ∙ sym (append_assoc h.parts a.before (w.parts ++ a.after));
      }

set_apart : {A : Type 0} (xs : List A) (i j : ℕ) (a b : A) → j ≢ i → set (set xs i a) j b ≡ set (set xs j b) i a
set_apart [] i j a b n = refl
set_apart (x ∷ xs) zero zero a b n = absurd (n refl)
set_apart (x ∷ xs) zero (suc j) a b n = refl
set_apart (x ∷ xs) (suc i) zero a b n = refl
set_apart (x ∷ xs) (suc i) (suc j) a b n = ap (λ (l : List _). x ∷ l) (set_apart xs i j a b (λ e. n (ap suc e)))

-- the first part, and then the others
pub first_others : {H : Type 0} (xs : List H) → xs ≡ take 1 xs ++ drop 1 xs
first_others [] = refl
first_others (x ∷ xs) = refl

module _ {H S : Type 0} (exact : List H → Type 0) (in_any_order : (xs ys zs : List H) → exact (xs ++ (ys ++ zs)) → exact (ys ++ (xs ++ zs))) where
  -- parts leave a hand for a new one
  pub splits : (by : ℕ) (v l r : Hand H) → v.parts ≡ r.parts ++ l.parts → Splits {S = S} (IsKept exact) by v l r
  splits by v l r e s kept at =
      let a = around s.views by v at in
      let x : exact (a.before ++ (v.parts ++ a.after)) = subst exact a.now kept.right in
      let y : exact (a.before ++ ((r.parts ++ l.parts) ++ a.after)) = subst (λ (p : List H). exact (a.before ++ (p ++ a.after))) e x in
      let z : exact (a.before ++ (r.parts ++ (l.parts ++ a.after))) = subst (λ (p : List H). exact (a.before ++ p)) (append_assoc r.parts l.parts a.after) y in
      let u : exact (r.parts ++ (a.before ++ (l.parts ++ a.after))) = in_any_order a.before r.parts (l.parts ++ a.after) z in
      let t : exact (r.parts ++ ((a.before ++ (l.parts ++ a.after)) ++ [])) = subst (λ (p : List H). exact (r.parts ++ p)) (sym (append-nil (a.before ++ (l.parts ++ a.after)))) u in
      let q : exact ((a.before ++ (l.parts ++ a.after)) ++ (r.parts ++ [])) = in_any_order r.parts (a.before ++ (l.parts ++ a.after)) [] t in
      record {
        right = subst exact (ap (λ (p : List H). p ++ (r.parts ++ [])) (sym (a.then l)) ∙ sym (flat_map-append parts_in (set s.views by l) (r ∷ []))) q;
      }

  -- parts come to a hand
  pub joins : (by : ℕ) (v : Hand H) (other : ℕ) (w : Hand H) → Joins {S = S} (IsKept exact) by v other w (hand (w.parts ++ v.parts)) (hand [])
  joins by v other w s kept at apart there =
      let both = hand (w.parts ++ v.parts) in
      let there' : get_elem? s.views other ≡ some w = sym (set_else s.views by other both apart) ∙ there in
      let a = around s.views other w there' in
      let views' = set s.views other (hand []) in
      let x : exact (w.parts ++ (a.before ++ a.after)) = in_any_order a.before w.parts a.after (subst exact a.now kept.right) in
      let x' : exact (w.parts ++ flat views') = subst (λ (p : List H). exact (w.parts ++ p)) (sym (a.then (hand []))) x in
      let b = around views' by v (set_else s.views other by (hand []) (λ e. apart (sym e)) ∙ at) in
      let y : exact (w.parts ++ (b.before ++ (v.parts ++ b.after))) = subst (λ (p : List H). exact (w.parts ++ p)) b.now x' in
      let z : exact (b.before ++ (w.parts ++ (v.parts ++ b.after))) = in_any_order w.parts b.before (v.parts ++ b.after) y in
      let z' : exact (b.before ++ ((w.parts ++ v.parts) ++ b.after)) = subst (λ (p : List H). exact (b.before ++ p)) (sym (append_assoc w.parts v.parts b.after)) z in
      record { right = subst exact (sym (b.then both) ∙ ap flat (sym (set_apart s.views by other both (hand []) apart))) z' }

  -- a hand's parts become others
  pub settles : (slots by : ℕ) (me : Me S (Hand H)) (new : List H) → Become exact me.0.parts new → Allows (IsKept exact) slots by me 0 (λ n. n) (λ _ after. after.0 ≡ hand new)
  settles slots by me new become s kept homes at room =
      let a = around s.views by me.0 at in
      let x : exact (me.0.parts ++ (a.before ++ a.after)) = in_any_order a.before me.0.parts a.after (subst exact a.now kept.right) in
      let y : exact (a.before ++ (new ++ a.after)) = in_any_order new a.before a.after (become (a.before ++ a.after) x) in
      (hand new, keeps, tt, record { right = subst exact (sym (a.then (hand new))) y }, refl)

  -- what follows of a hand's parts with the others
  pub learns : (says : List H → Type 0) (slots by : ℕ) (me : Me S (Hand H)) → ((parts : List H) → exact parts → says parts) → Allows (IsKept exact) slots by me 0 (λ n. n) (λ _ after. (after ≡ me) × AreOf says me.0.parts)
  learns says slots by me so s kept homes at room =
      let a = around s.views by me.0 at in
      let x : exact (me.0.parts ++ (a.before ++ a.after)) = in_any_order a.before me.0.parts a.after (subst exact a.now kept.right) in
      (me.0, keeps, tt, record { right = subst exact (ap flat (sym (set_again s.views by me.0 at))) kept.right }, (refl, (a.before ++ a.after, so (me.0.parts ++ (a.before ++ a.after)) x)))

-- the parts are in one hand at first
pub begins : {H S : Type 0} (exact : List H → Type 0) (parts : List H) (words : List ℕ) → exact parts → IsKept exact (opening {S = S} words [] (hand parts))
begins exact parts words right = record { right = subst exact (sym (append-nil parts)) right }
