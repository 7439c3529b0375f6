-- What was last written to slots, as a list by their numbers.
use Rattle.std.proofs.Common.{◌≡◌, ℕ, zero, suc, ◌+◌, ◌<◌, ◌≤◌, List, [], ◌∷◌, Option, Some, None, map, inl, inr, refl, sym, ap, ◌∙◌, subst, arith}
use Rattle.std.specs.List.{range_with_len, All}
use Rattle.std.proofs.lemmas.Bool.{cases_lt}
use Rattle.std.proofs.lemmas.List.Elements.{All-nil, All-cons, All-head, All-tail}
use Rattle.frames.specs.Counts.{count_of}
use Rattle.frames.proofs.Counting.{count_cons, one_same}
use Rattle.swapstore.specs.Holding.{AreHeld, OthersStay}
use Rattle.slot_contents.specs.declared.content.Written.{Written}
use Rattle.slot_contents.specs.Held.{at_slot, listed}
use Rattle.slot_contents.specs.Contents.{slots_of, HoldsIt}

from : (held : ℕ → Option (List ℕ)) (a n k : ℕ) → k < n → at_slot (map held (range_with_len a n)) k ≡ held (a + k)
from held a zero k inside = absurd (omega (arith, inside))
from held a (suc n) zero inside = ap held (omega arith)
from held a (suc n) (suc k) inside = from held (a + 1) n k (omega (arith, inside)) ∙ ap held (omega arith)

past : (held : ℕ → Option (List ℕ)) (a n k : ℕ) → n ≤ k → at_slot (map held (range_with_len a n)) k ≡ None
past held a zero k beyond = refl
past held a (suc n) zero beyond = absurd (omega (arith, beyond))
past held a (suc n) (suc k) beyond = past held (a + 1) n k (omega (arith, beyond))

at_listed : (n : ℕ) (held : ℕ → Option (List ℕ)) (k : ℕ) → k < n → at_slot (listed n held) k ≡ held k
at_listed n held k inside = from held 0 n k inside ∙ ap held (omega arith)

past_listed : (n : ℕ) (held : ℕ → Option (List ℕ)) (k : ℕ) → n ≤ k → at_slot (listed n held) k ≡ None
past_listed n held k beyond = past held 0 n k beyond

pub same_listed : (n : ℕ) (held held' : ℕ → Option (List ℕ)) (k : ℕ) → held' k ≡ held k → at_slot (listed n held') k ≡ at_slot (listed n held) k
same_listed n held held' k same = elim (cases_lt k n) [
  | inl inside ↦ at_listed n held' k inside ∙ same ∙ sym (at_listed n held k inside)
  | inr beyond ↦ past_listed n held' k beyond ∙ sym (past_listed n held k beyond)
]

pub others_listed : (n slot : ℕ) (held held' : ℕ → Option (List ℕ)) → OthersStay slot held held' → OthersStay slot (at_slot (listed n held)) (at_slot (listed n held'))
others_listed n slot held held' others other apart = same_listed n held held' other (others other apart)

pub held_is_listed : (n : ℕ) (held : ℕ → Option (List ℕ)) (k : ℕ) (bytes : List ℕ) → AreHeld (held k) bytes → AreHeld (at_slot (listed n held) k) bytes
held_is_listed n held k bytes are last is = elim (cases_lt k n) [
  | inl inside ↦ are last (sym (at_listed n held k inside) ∙ is)
  | inr beyond ↦ (let none = past_listed n held k beyond in absurd (cc))
]

pub listed_is_held : (n : ℕ) (held : ℕ → Option (List ℕ)) (ws : List Written) → ((k : ℕ) → 0 < count_of k (slots_of ws) → k < n) → All (HoldsIt (at_slot (listed n held))) ws
    → All (HoldsIt held) ws
listed_is_held n held [] inside all = All-nil (HoldsIt held)
listed_is_held n held (w ∷ ws) inside all =
    let here : w.slot < n = inside w.slot (omega (arith, count_cons w.slot w.slot (slots_of ws), one_same w.slot)) in
    All-cons (HoldsIt held) w ws (λ last is. All-head (HoldsIt (at_slot (listed n held))) w ws all last (at_listed n held w.slot here ∙ is))
    (listed_is_held n held ws (λ k some. inside k (omega (arith, some, count_cons k w.slot (slots_of ws)))) (All-tail (HoldsIt (at_slot (listed n held))) w ws all))
