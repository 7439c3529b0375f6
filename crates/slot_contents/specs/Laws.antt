-- The parts are right when the ledger is made, and in any order.
use Rattle.std.proofs.Common.{◌≡◌, ℕ, ◌+◌, ◌≤◌, List, [], ◌∷◌, ◌++◌, Option, None, length, refl, sym, ap, ◌∙◌, subst, arith, length-append, append-nil}
use Rattle.std.specs.List.{flat_map, range_with_len, All}
use Rattle.std.proofs.lemmas.Grind.{flat_map-append}
use Rattle.std.proofs.lemmas.List.Elements.{All-nil, All-cons, All-head, All-tail, All-append}
use Rattle.frames.specs.Counts.{count_of}
use Rattle.frames.proofs.Counting.{count_append, count_range}
use Rattle.slot_contents.specs.Held.{at_slot}
use Rattle.slot_contents.specs.declared.content.Content.{Content}
use Rattle.slot_contents.specs.Contents.{HoldsIt, held_in, written_in, slots_in, IsRight, opening}

pub three : {A B : Type 0} (f : A → List B) (xs ys zs : List A) → flat_map f (xs ++ (ys ++ zs)) ≡ flat_map f xs ++ (flat_map f ys ++ flat_map f zs)
three f xs ys zs = flat_map-append f xs (ys ++ zs) ∙ ap (λ (l : List _). flat_map f xs ++ l) (flat_map-append f ys zs)

-- a list of one element is that in any order of its parts
one_moves : {A : Type 0} (xs ys zs : List A) (e : A) → xs ++ (ys ++ zs) ≡ e ∷ [] → ys ++ (xs ++ zs) ≡ e ∷ []
one_moves [] ys zs e h = h
one_moves (x ∷ xs) [] zs e h = h
one_moves (x ∷ xs) (y ∷ ys) zs e h = absurd (omega (arith, ap length h, length-append xs (y ∷ (ys ++ zs))))

pub all_of_both : {X : Type 0} (P : X → Type 0) (xs ys : List X) → All P (xs ++ ys) → All P xs × All P ys
all_of_both P [] ys h = (All-nil P, h)
all_of_both P (x ∷ xs) ys h =
    let t = all_of_both P xs ys (All-tail P x (xs ++ ys) h) in
    (All-cons P x xs (All-head P x (xs ++ ys) h) t.0, t.1)

all_moves : {X : Type 0} (P : X → Type 0) (xs ys zs : List X) → All P (xs ++ (ys ++ zs)) → All P (ys ++ (xs ++ zs))
all_moves P xs ys zs h =
    let a = all_of_both P xs (ys ++ zs) h in
    let b = all_of_both P ys zs a.1 in
    All-append P ys (xs ++ zs) b.0 (All-append P xs zs a.0 b.1)

count_moves : (k : ℕ) (xs ys zs : List ℕ) → count_of k (ys ++ (xs ++ zs)) ≡ count_of k (xs ++ (ys ++ zs))
count_moves k xs ys zs = omega (arith, count_append k ys (xs ++ zs), count_append k xs zs, count_append k xs (ys ++ zs), count_append k ys zs)

pub right_in_any_order : (slots : ℕ) (xs ys zs : List Content) → IsRight slots (xs ++ (ys ++ zs)) → IsRight slots (ys ++ (xs ++ zs))
right_in_any_order slots xs ys zs r = record {
  held = r.held;
  one_store = three held_in ys xs zs ∙ one_moves (flat_map held_in xs) (flat_map held_in ys) (flat_map held_in zs) r.held (sym (three held_in xs ys zs) ∙ r.one_store);
  each_slot = λ k. omega (arith, r.each_slot k, ap (count_of k) (three slots_in ys xs zs), ap (count_of k) (three slots_in xs ys zs), count_moves k (flat_map slots_in xs) (flat_map slots_in ys) (flat_map slots_in zs));
  holds = subst (All (HoldsIt r.held)) (sym (three written_in ys xs zs))
      (all_moves (HoldsIt r.held) (flat_map written_in xs) (flat_map written_in ys) (flat_map written_in zs) (subst (All (HoldsIt r.held)) (three written_in xs ys zs) r.holds));
}

pub opening_is_right : (slots : ℕ) → IsRight slots (opening slots)
opening_is_right slots = record {
  held = at_slot [];
  one_store = refl;
  each_slot = λ k. omega (arith, count_append k (range_with_len 0 slots) [], count_range k slots);
  holds = All-nil (HoldsIt (at_slot []));
}
