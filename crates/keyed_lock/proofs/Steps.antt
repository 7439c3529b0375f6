-- Each step of a lock's table keeps its rule.
use Rattle.std.proofs.Common.{◌≡◌, ◌≢◌, ℕ, ◌<◌, List, [], ◌∷◌, get_or, eqb, sym, ap, refl, ◌∙◌, subst, arith, Option, Some, length-set, get_or-set_same}
use mathlib.Core.Logic.{dite}
use mathlib.Core.Option.{some, some-injective}
use lib.ListN.{get_elem?}
use native.Mathlib.Decide.{ℕ_discrete}
use prog.Atomic.{either}
use Rattle.atomic_table.specs.Table.{State, Me, keeps, takes, gives, Allows, Arrives, Enters, Final, opening}
use Rattle.atomic_table.proofs.Lists.{set_here, exchanged}
use Rattle.keyed_lock.specs.Rule.{IsKept, HasTaken}

word_is : (words : List ℕ) → get_elem? words 0 ≡ some 0 → get_or words 0 0 ≡ 0
word_is [] e = refl
word_is (word ∷ words) e = some-injective word 0 e

module _ {T V : Type 0} (fits : T → Type 0) where
  -- the value is in the slot at first
  pub begins : (v : V) (slots : List (Option T)) (value : T) → slots ≡ Some value ∷ [] → fits value → IsKept fits (opening (0 ∷ []) slots v)
  begins v slots value all ok =
      subst (λ s. IsKept fits (opening (0 ∷ []) s v)) (sym all) (record { one_word = refl; at_home = λ _. (value, refl, ok) })

  -- while the word isn't 0, nothing is asked of the slot
  busy : (s : State (Option T) V) (word : ℕ) (homes : List _) (views : List V) → IsKept fits s → word ≢ 0
      → IsKept fits (record { words = Rattle.std.proofs.Common.set s.words 0 word; homes = homes; views = views })
  busy s word homes views kept held = record {
    one_word = length-set s.words 0 word ∙ kept.one_word;
    at_home = λ e. absurd (held (sym (get_or-set_same s.words 0 word 0 (let one = kept.one_word in omega arith)) ∙ e));
  }

  -- a seat that has the slot, with a value in it that fits, gives it back
  pub releases : (slots id : ℕ) (me : Me (Option T) V) (value : T) (more : List (ℕ × Option T)) → 0 < slots → me.1 ≡ (0, Some value) ∷ more → fits value
      → Allows (IsKept fits) slots id me 0 (λ _. 0) (λ _ _. Unit {0})
  releases slots id me value more full e ok =
      subst (λ (c : List (ℕ × Option T)). Allows (IsKept fits) slots id (me.0, c) 0 (λ _. 0) (λ _ _. Unit {0})) (sym e)
      (λ s kept wide at _. (
        me.0,
        gives,
        tt,
        record { one_word = length-set s.words 0 0 ∙ kept.one_word; at_home = λ _. (value, set_here s.homes 0 (some (Some value)) (omega (arith, wide, full)), ok) },
        tt,
      ))

  -- a new seat takes the slot where the word is 0; the word becomes `mark`
  pub arrives : (slots mark : ℕ) (v : V) → mark ≢ 0 → Arrives (IsKept fits) slots 0 (λ _. mark) (λ found me. found ≡ 0 → HasTaken {V = V} fits me)
  arrives slots mark v held s kept wide _ = dite (ℕ_discrete (get_or s.words 0 0) 0)
      (λ free. let t = kept.at_home free in (v, takes 0 (Some t.0), t.1, busy s mark _ _ kept held, λ _. (t.0, refl, t.2)))
      (λ taken. (v, keeps, tt, busy s mark _ _ kept held, λ e. absurd (taken e)))

  -- a load lets a new seat in
  pub enters : (slots : ℕ) (v : V) → Enters (IsKept fits) slots 0 (λ _ w. w ≡ v)
  enters slots v s kept wide _ = (v, record { one_word = kept.one_word; at_home = kept.at_home }, refl)

  -- at the end: where the word is 0, the slot holds a value that fits
  pub ends : (words : List ℕ) (slots : List (Option T)) (slot : Option T) → Final {V = V} (IsKept fits) words slots → get_elem? words 0 ≡ some 0 → get_elem? slots 0 ≡ some slot
      → (value : T) × (slot ≡ Some value) × fits value
  ends words slots slot final free is =
      let s = final.0 in
      let kept = final.1 in
      let first : get_or s.words 0 0 ≡ 0 = word_is s.words (ap (λ (l : List ℕ). get_elem? l 0) final.2 ∙ free) in
      let t = kept.at_home first in
      (t.0, some-injective slot (Some t.0) (sym is ∙ final.4 0 (Some t.0) t.1), t.2)

module _ {T K : Type 0} (fits : K → T → Type 0) where
  -- a seat with no slot that knows the key takes the slot where the word is 0; the word becomes `mark` then, and else stays
  pub asks : (slots id mark : ℕ) (key : K) (me : Me (Option T) K) → me.1 ≡ [] → me.0 ≡ key → mark ≢ 0
      → Allows (IsKept (fits key)) slots id me 0 (λ n. either (eqb n 0) mark n) (λ found after. found ≡ 0 → HasTaken {V = K} (fits me.0) after)
  asks slots id mark key me none knows held =
      subst (λ (m : Me (Option T) K). Allows (IsKept (fits key)) slots id m 0 (λ n. either (eqb n 0) mark n) (λ found after. found ≡ 0 → HasTaken {V = K} (fits m.0) after)) (λ i. (sym knows i, sym none i))
      (λ s kept wide at _. dite (ℕ_discrete (get_or s.words 0 0) 0)
      (λ free.
      let t = kept.at_home free in
      let word = exchanged (get_or s.words 0 0) 0 mark (λ n. n ≢ 0) (λ _. held) (λ n. n) in
      (key, takes 0 (Some t.0), t.1, busy (fits key) s _ _ _ kept word, λ _. (t.0, refl, t.2)))
      (λ taken.
      let word = exchanged (get_or s.words 0 0) 0 mark (λ n. n ≢ 0) (λ _. held) (λ n. n) in
      (key, keeps, tt, busy (fits key) s _ _ _ kept word, λ e. absurd (taken e))))

  -- what fits what the seat knows fits the key
  pub taken_fits : (key seen : K) (me : Me (Option T) K) → seen ≡ key → HasTaken {V = K} (fits seen) me → HasTaken {V = K} (fits key) me
  taken_fits key seen me knows taken = subst (λ (k : K). HasTaken {V = K} (fits k) me) knows taken
