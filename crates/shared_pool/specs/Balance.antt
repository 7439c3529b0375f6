-- The free frames that wait, and what passes took and put.
use Rattle.std.specs.Prelude.{◌≡◌, ℕ, ◌+◌, ◌<◌, List, [], ◌∷◌, ◌++◌, length}
use Rattle.std.specs.List.{sum_by}
use Rattle.frames.specs.Counts.{one_at, count_of}
use Rattle.ledger.specs.Shares.{LedgerId}
use Rattle.shared_pool.specs.Resting.{RestingIs}
use Rattle.shared_pool.specs.declared.hand.Hand.{Hand}

abbrev pub hand : ℕ → List ℕ → List ℕ → List ℕ → LedgerId → Hand
hand parts whole put taken of = record { parts = parts; whole = whole; put = put; taken = taken; of = of }

-- the parts of all passes together, more than there can be guests
abbrev pub all_parts : ℕ
all_parts = 4294967296

-- before it is told which frames there are, and of which ledger
abbrev pub no_ledger : LedgerId
no_ledger = record { words = 0; slots = 0; views_name = 0; atom = 0; block = 0; offset = 0; slot_names = [] }

abbrev pub first_hand : Hand
first_hand = hand all_parts [] [] [] no_ledger

-- of a pass that was taken in by another
abbrev pub spent_hand : Hand
spent_hand = hand 0 [] [] [] no_ledger

-- after this number was put
abbrev pub hand_put : Hand → ℕ → Hand
hand_put v number = record v { put = v.put ++ number ∷ [] }

-- after this number was taken
abbrev pub hand_taken : Hand → ℕ → Hand
hand_taken v number = record v { taken = v.taken ++ number ∷ [] }

-- after another pass was taken in
abbrev pub with_other : Hand → Hand → Hand
with_other v w = record v { parts = v.parts + w.parts; put = v.put ++ w.put; taken = v.taken ++ w.taken }

-- how often a number waits
abbrev pub waits : ℕ → List RestingIs → ℕ
waits k items = sum_by (λ (x : RestingIs). one_at k x.number) items

-- the account of each frame that waits is of the ledger
abbrev pub AllAreOf : LedgerId → List RestingIs → Type 0
AllAreOf of [] = Unit {0}
AllAreOf of (x ∷ xs) = (x.ledger ≡ of) × AllAreOf of xs

-- a pass with no part has put and taken nothing, and one with a part knows which frames there are, and of which ledger
pub record IsFair (whole : List ℕ) (of : LedgerId) (v : Hand) : Type 0 where
  pub idle : v.parts ≡ 0 → (v.put ≡ []) × (v.taken ≡ [])
  pub knows : 0 < v.parts → (v.whole ≡ whole) × (v.of ≡ of)

abbrev pub AllFair : List ℕ → LedgerId → List Hand → Type 0
AllFair whole of [] = Unit {0}
AllFair whole of (v ∷ vs) = IsFair whole of v × AllFair whole of vs

abbrev pub parts_of : Hand → ℕ
parts_of v = v.parts

abbrev pub put_of : ℕ → Hand → ℕ
put_of k v = count_of k v.put

abbrev pub taken_of : ℕ → Hand → ℕ
taken_of k v = count_of k v.taken

abbrev pub puts_of : Hand → ℕ
puts_of v = length v.put

abbrev pub takes_of : Hand → ℕ
takes_of v = length v.taken

-- The numbers that wait, with all that passes took, less all that they put, are those of all frames, each as often.
pub record Balanced (items : List RestingIs) (views : List Hand) : Type 0 where
  pub whole : List ℕ
  pub of : LedgerId
  pub one_ledger : AllAreOf of items
  pub parts : sum_by parts_of views ≡ all_parts
  pub numbers : (k : ℕ) → waits k items + sum_by (taken_of k) views ≡ sum_by (put_of k) views + count_of k whole
  pub count : length items + sum_by takes_of views ≡ sum_by puts_of views + length whole
  pub fair : AllFair whole of views

-- The same as one pass sees it, with what others took and put; there are no others where it has all parts.
pub record Stands (v : Hand) (items : List RestingIs) : Type 0 where
  pub taken : ℕ → ℕ
  pub put : ℕ → ℕ
  pub taken_count : ℕ
  pub put_count : ℕ
  pub numbers : (k : ℕ) → waits k items + count_of k v.taken + taken k ≡ count_of k v.put + put k + count_of k v.whole
  pub count : length items + length v.taken + taken_count ≡ length v.put + put_count + length v.whole
  pub alone : v.parts ≡ all_parts → ((k : ℕ) → (taken k ≡ 0) × (put k ≡ 0)) × (taken_count ≡ 0) × (put_count ≡ 0)
