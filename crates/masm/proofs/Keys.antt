-- A map whose keys are lists of bytes, as a list of names with their addresses.
use Rattle.std.proofs.Common.{◌≡◌, ℕ, Bool, true, false, cond, List, [], ◌∷◌, ◌++◌, Option, Some, None, Vec, Global, BTreeMap, refl, sym, ap, subst, ◌∙◌, bytes_eq, inl, inr}
use Rattle.std.specs.Ordering.{nat_cmp, is_eq}
use Rattle.std.specs.Cmp.Lexicographic.{slice_cmp}
use Rattle.std.specs.BTreeMap.{get_by, UpdatesBy}
use Rattle.std.specs.Map.{lookup, IsKeyTest, AreApart, KeepsOthers}
use Rattle.std.proofs.lemmas.Cmp.{eq_by_cmp_equiv, nat_list_cmp_total}
use Rattle.std.proofs.lemmas.Map.Text.{is_eq-slice_cmp}
use Rattle.std.proofs.lemmas.Slice.Eq.{bytes_eq-Decides}
use Rattle.std.proofs.lemmas.Bool.{cases_Bool, cond-true, cond-false, false≢true}
use Rattle.masm.specs.Names.{Names, address_of}

abbrev pub Map : Type 0
Map = BTreeMap (Vec ℕ Global) ℕ

-- what the map has for a name
abbrev pub at_name : Map → List ℕ → Option ℕ
at_name map name = get_by (λ key. slice_cmp nat_cmp name key.items) map

-- equal names are one, and different ones are two
same : (xs ys : List ℕ) → bytes_eq xs ys ≡ true → xs ≡ ys
same xs ys h = (bytes_eq-Decides xs ys).0 h

both_ways : (xs ys : List ℕ) → bytes_eq xs ys ≡ false → xs ≡ ys → ⊥
both_ways xs ys f e = false≢true (sym f ∙ (bytes_eq-Decides xs ys).1 e)

-- one that isn't the other
apart : (bs cs ks : List ℕ) → bytes_eq bs cs ≡ false → is_eq (slice_cmp nat_cmp bs ks) ≡ true → is_eq (slice_cmp nat_cmp cs ks) ≡ false
apart bs cs ks n y = elim (cases_Bool (bytes_eq cs ks)) [
  | inl t ↦ absurd (both_ways bs cs n (same bs ks (sym (is_eq-slice_cmp bs ks) ∙ y) ∙ sym (same cs ks t)))
  | inr f ↦ is_eq-slice_cmp cs ks ∙ f
]

other_entries : (old new : List (Vec ℕ Global × ℕ)) (eq : Vec ℕ Global → Vec ℕ Global → Bool) (test : Vec ℕ Global → Bool) → KeepsOthers eq test old new → (other : Vec ℕ Global → Bool) → IsKeyTest eq other → AreApart test other → lookup other new ≡ lookup other old
unfolding KeepsOthers
other_entries old new eq test h = h

-- after a change at one name the map has it there, and what it had at the others
pub map_update : (bs : List ℕ) (w : ℕ) (old new : Map) → UpdatesBy (λ x y. slice_cmp nat_cmp x.items y.items) (λ y. slice_cmp nat_cmp bs y.items) old new (Some w) → (cs : List ℕ) → at_name new cs ≡ cond (bytes_eq bs cs) (Some w) (at_name old cs)
map_update bs w old new h cs = elim (cases_Bool (bytes_eq bs cs)) [
  | inl y ↦ subst (λ l. at_name new l ≡ Some w) (same bs cs y) h.1 ∙ sym (cond-true (bytes_eq bs cs) (Some w) (at_name old cs) y)
  | inr n ↦ other_entries _ _ _ _ h.3 _ (λ x y. (eq_by_cmp_equiv nat_list_cmp_total).congr cs x.items y.items) (λ k. apart bs cs k.items n) ∙ sym (cond-false (bytes_eq bs cs) (Some w) (at_name old cs) n)
]

-- two tests that don't both pass
in_turn : (a b : Bool) (x y z : Option ℕ) → (a ≡ true → b ≡ true → ⊥) → cond a x (cond b y z) ≡ cond b y (cond a x z)
in_turn true true x y z never = absurd (never refl refl)
in_turn true false x y z never = refl
in_turn false true x y z never = refl
in_turn false false x y z never = refl

none_of : (a : Bool) (x : ℕ) (rest : Option ℕ) → cond a (Some x) rest ≡ None → (a ≡ false) × (rest ≡ None)
none_of true x rest h = cc
none_of false x rest h = (refl, h)

-- the address of a name once another name, which wasn't there, stands behind the names
pub last_address : (known : Names) (bs : List ℕ) (w : ℕ) (cs : List ℕ) → address_of known bs ≡ None → address_of (known ++ (bs, w) ∷ []) cs ≡ cond (bytes_eq bs cs) (Some w) (address_of known cs)
last_address [] bs w cs h = refl
last_address (e ∷ es) bs w cs h =
    let absent = none_of (bytes_eq e.0 bs) e.1 (address_of es bs) h in
    ap (cond (bytes_eq e.0 cs) (Some e.1)) (last_address es bs w cs absent.1)
    ∙ in_turn (bytes_eq e.0 cs) (bytes_eq bs cs) (Some e.1) (Some w) (address_of es cs)
    (λ a b. both_ways e.0 bs absent.0 (same e.0 cs a ∙ sym (same bs cs b)))
