-- What is read as an entry are the bytes of that entry.
use Rattle.std.proofs.Common.{◌≡◌, ℕ, zero, suc, ◌<◌, ◌≤◌, ◌^◌, ◌==◌, Bool, true, false, cond, nat_lt, List, [], ◌∷◌, ◌++◌, length, Some, None, refl, sym, ap, ◌∙◌, subst, ◌⊎◌, inl, inr, append_assoc, lit<, arith}
use Rattle.std.proofs.lemmas.Bool.{ltb-true, eqb-true, eqb-false, ne_eqb}
use Rattle.std.proofs.lemmas.Grind.{get_or_default_zero}
use Rattle.items.specs.declared.item.What.{What}
use Rattle.items.specs.declared.item.What.TheVariants as what
use Rattle.items.specs.declared.entry.Entry.{Entry}
use Rattle.items.specs.declared.entry.Entry.TheVariants as entry
use Rattle.logfile.specs.FileItems.{half, word, tag_of, fields_of, entry_bytes, FitsFields, IsFileEntry}
use Rattle.logfile.specs.Reading.{Read, ◌>>=◌, byte_at, word_at, half_at, bytes_at, input_at, target_at, poke_at, write_at, what_at, steps_at, fields_at, entry_at}
use Rattle.logfile.proofs.Numbers.{IsBytes, Splits, bind_some, guard_some, byte_taken, word_taken, half_taken, bytes_taken}

-- what is split again
split_again : (bytes a b r s : List ℕ) → Splits bytes a r → Splits r b s → Splits bytes (a ++ b) s
split_again bytes a b r s h k = record {
  split = h.split ∙ ap (λ (l : List ℕ). a ++ l) k.split ∙ sym (append_assoc a b s);
  more = k.more;
}

-- what holds of what was read holds of what it is
carried : {A : Type 0} (P : A × List ℕ → Type 0) (x y : A × List ℕ) (e : ◌≡◌ {A = Read A} (Some x) (Some y)) → P x → P y
carried P x y e p = let same : x ≡ y = cc in subst P same p

kept : {A : Type 0} (b : Bool) (r : Read A) (y : A × List ℕ) → cond b r None ≡ Some y → (b ≡ true) × (r ≡ Some y)
kept true r y h = (refl, h)
kept false r y h = cc

-- the bytes begin with the fields of an item of this tag
record TakesWhat (tag : ℕ) (bytes : List ℕ) (x : What × List ℕ) : Type 0 where
  tag_is : tag ≡ tag_of x.0
  split : Splits bytes (fields_of x.0) x.1
  fits : FitsFields x.0

input_taken : (bytes : List ℕ) (x : What × List ℕ) → IsBytes bytes → input_at bytes ≡ Some x → TakesWhat 2 bytes x
unfolding input_at
input_taken bytes x f h =
    let b = bind_some (byte_at bytes) _ x h in
    let byte = byte_taken bytes b.0.0 b.0.1 f b.1 in
    carried (TakesWhat 2 bytes) (what.In b.0.0, b.0.1) x b.2 (record { tag_is = refl; split = byte.0; fits = byte.1 })

target_taken : (bytes : List ℕ) (x : What × List ℕ) → IsBytes bytes → target_at bytes ≡ Some x → TakesWhat 4 bytes x
unfolding target_at
target_taken bytes x f h =
    let b = bind_some (word_at bytes) _ x h in
    let pages = word_taken bytes b.0.0 b.0.1 f b.1 in
    carried (TakesWhat 4 bytes) (what.Target b.0.0, b.0.1) x b.2 (record { tag_is = refl; split = pages.0; fits = pages.1 })

poke_taken : (bytes : List ℕ) (x : What × List ℕ) → IsBytes bytes → poke_at bytes ≡ Some x → TakesWhat 5 bytes x
unfolding poke_at
poke_taken bytes x f h =
    let b = bind_some (byte_at bytes) _ x h in
    let register = byte_taken bytes b.0.0 b.0.1 f b.1 in
    let known = kept (nat_lt b.0.0 38) _ x b.2 in
    let d = bind_some (word_at b.0.1) _ x known.1 in
    let value = word_taken b.0.1 d.0.0 d.0.1 register.0.more d.1 in
    carried (TakesWhat 5 bytes) (what.Poke b.0.0 d.0.0, d.0.1) x d.2 (record {
      tag_is = refl;
      split = split_again bytes (b.0.0 ∷ []) (word d.0.0) b.0.1 d.0.1 register.0 value.0;
      fits = (ltb-true b.0.0 38 known.0, value.1);
    })

-- the parts of a write
write_made : (address count : ℕ) (bytes r s front rest : List ℕ) → Splits bytes (word address) r × (address < 2 ^ 32) → Splits r (half count) s × (count < 2 ^ 16) → Splits s front rest × (length front ≡ count) × IsBytes front → TakesWhat 6 bytes (what.Write address front, rest)
write_made address count bytes r s front rest a n w =
    let counted : Splits r (half (length front)) s = subst (λ (c : ℕ). Splits r (half c) s) (sym w.1) n.0 in
    let behind = split_again r (half (length front)) front s rest counted w.0 in
    record {
      tag_is = refl;
      split = split_again bytes (word address) (half (length front) ++ front) r rest a.0 behind;
      fits = (a.1, omega (arith, n.1, w.1), λ k d h. rw (get_or_default_zero front k d h) (w.2 k));
    }

write_taken : (bytes : List ℕ) (x : What × List ℕ) → IsBytes bytes → write_at bytes ≡ Some x → TakesWhat 6 bytes x
unfolding write_at
write_taken bytes x f h =
    let a = bind_some (word_at bytes) _ x h in
    let address = word_taken bytes a.0.0 a.0.1 f a.1 in
    let n = bind_some (half_at a.0.1) _ x a.2 in
    let count = half_taken a.0.1 n.0.0 n.0.1 address.0.more n.1 in
    let w = bind_some (bytes_at n.0.0 n.0.1) _ x n.2 in
    let written = bytes_taken n.0.0 n.0.1 w.0.0 w.0.1 count.0.more w.1 in
    carried (TakesWhat 6 bytes) (what.Write a.0.0 w.0.0, w.0.1) x w.2 (write_made a.0.0 n.0.0 bytes a.0.1 n.0.1 w.0.0 w.0.1 address count written)

positive : (n : ℕ) → (n ≡ 0 → ⊥) → 1 ≤ n
positive n h = omega arith

-- there is no tag above 6
no_tag : (tag : ℕ) (bytes : List ℕ) (x : What × List ℕ) → 7 ≤ tag → what_at tag bytes ≡ Some x → ⊥
unfolding what_at
no_tag tag bytes x far h =
    let other = λ (k : ℕ) (below : k < 7). ne_eqb tag k (λ e. omega arith) in
    let none = rw (other 2 (lit< tt), other 3 (lit< tt), other 4 (lit< tt), other 5 (lit< tt), other 6 (lit< tt)) at h in
    cc

what_taken : (tag : ℕ) (bytes : List ℕ) (x : What × List ℕ) → IsBytes bytes → what_at tag bytes ≡ Some x → TakesWhat tag bytes x
unfolding what_at
what_taken zero bytes x f h = cc
what_taken (suc zero) bytes x f h = cc
what_taken (suc (suc zero)) bytes x f h = input_taken bytes x f h
what_taken (suc (suc (suc zero))) bytes x f h =
    carried (TakesWhat 3 bytes) (what.Drain, bytes) x h (record { tag_is = refl; split = record { split = refl; more = f }; fits = tt })
what_taken (suc (suc (suc (suc zero)))) bytes x f h = target_taken bytes x f h
what_taken (suc (suc (suc (suc (suc zero))))) bytes x f h = poke_taken bytes x f h
what_taken (suc (suc (suc (suc (suc (suc zero)))))) bytes x f h = write_taken bytes x f h
what_taken (suc (suc (suc (suc (suc (suc (suc n))))))) bytes x f h = absurd (no_tag (suc (suc (suc (suc (suc (suc (suc n))))))) bytes x (omega arith) h)

-- the bytes begin with an entry of one item
pub record TakesEntry (bytes : List ℕ) (x : Entry × List ℕ) : Type 0 where
  pub split : Splits bytes (entry_bytes x.0) x.1
  pub fits : IsFileEntry x.0

-- behind a tag and a seat
tagged : (tag seat : ℕ) (bytes front rest : List ℕ) → Splits bytes front rest → Splits (tag ∷ seat ∷ bytes) (tag ∷ seat ∷ front) rest
tagged tag seat bytes front rest h = record { split = ap (λ (l : List ℕ). tag ∷ seat ∷ l) h.split; more = h.more }

steps_taken : (seat : ℕ) (bytes : List ℕ) (x : Entry × List ℕ) → seat < 4 → IsBytes bytes → steps_at seat bytes ≡ Some x → TakesEntry (1 ∷ seat ∷ bytes) x
unfolding steps_at entry_bytes
steps_taken seat bytes x small f h =
    let b = bind_some (word_at bytes) _ x h in
    let count = word_taken bytes b.0.0 b.0.1 f b.1 in
    let some = guard_some (b.0.0 == 0) (entry.Steps seat b.0.0, b.0.1) x b.2 in
    let one = positive b.0.0 (eqb-false b.0.0 0 some.0) in
    subst (TakesEntry (1 ∷ seat ∷ bytes)) some.1 (record {
      split = tagged 1 seat bytes (word b.0.0) b.0.1 count.0;
      fits = (small, one, count.1);
    })

item_taken : (tag seat : ℕ) (bytes : List ℕ) (x : What × List ℕ) → seat < 4 → TakesWhat tag bytes x → TakesEntry (tag ∷ seat ∷ bytes) (entry.One (record { seat = seat; what = x.0 }), x.1)
unfolding entry_bytes
item_taken tag seat bytes x small h = record {
  split = subst (λ (t : ℕ). Splits (tag ∷ seat ∷ bytes) (t ∷ seat ∷ fields_of x.0) x.1) h.tag_is (tagged tag seat bytes (fields_of x.0) x.1 h.split);
  fits = (small, h.fits);
}

chosen_taken : (tag seat : ℕ) (bytes : List ℕ) (x : Entry × List ℕ) → seat < 4 → IsBytes bytes → ((tag == 1) ≡ true) × (steps_at seat bytes ≡ Some x) ⊎ ((tag == 1) ≡ false) × ((what_at tag bytes >>= λ read. Some (entry.One (record { seat = seat; what = read.0 }), read.1)) ≡ Some x) → TakesEntry (tag ∷ seat ∷ bytes) x
chosen_taken tag seat bytes x small f (inl h) =
    subst (λ (t : ℕ). TakesEntry (t ∷ seat ∷ bytes) x) (sym (eqb-true tag 1 h.0)) (steps_taken seat bytes x small f h.1)
chosen_taken tag seat bytes x small f (inr h) =
    let b = bind_some (what_at tag bytes) _ x h.1 in
    carried (TakesEntry (tag ∷ seat ∷ bytes)) (entry.One (record { seat = seat; what = b.0.0 }), b.0.1) x b.2 (item_taken tag seat bytes b.0 small (what_taken tag bytes b.0 f b.1))

chosen : {A : Type 0} (b : Bool) (r s y : Read A) → cond b r s ≡ y → (b ≡ true) × (r ≡ y) ⊎ (b ≡ false) × (s ≡ y)
chosen true r s y h = inl (refl, h)
chosen false r s y h = inr (refl, h)

fields_taken : (tag seat : ℕ) (bytes : List ℕ) (x : Entry × List ℕ) → seat < 4 → IsBytes bytes → fields_at tag seat bytes ≡ Some x → TakesEntry (tag ∷ seat ∷ bytes) x
unfolding fields_at
fields_taken tag seat bytes x small f h = chosen_taken tag seat bytes x small f (chosen (tag == 1) (steps_at seat bytes) _ (Some x) h)

pub entry_taken : (bytes : List ℕ) (x : Entry × List ℕ) → IsBytes bytes → entry_at bytes ≡ Some x → TakesEntry bytes x
unfolding entry_at
entry_taken [] x f h = cc
entry_taken (tag ∷ []) x f h = cc
entry_taken (tag ∷ seat ∷ rest) x f h =
    let fields = kept (nat_lt seat 4) (fields_at tag seat rest) x h in
    fields_taken tag seat rest x (ltb-true seat 4 fields.0) (λ i. f (suc (suc i))) fields.1
