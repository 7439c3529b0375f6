-- The rule of a console queue: what was put is what was taken, and then what waits.
use Rattle.std.specs.Prelude.{◌≡◌, ℕ, Bool, true, List, [], ◌∷◌, ◌++◌}
use mathlib.Core.Option.{some}
use lib.ListN.{get_elem?}
use Rattle.console_queue.specs.declared.log.Log.{Log}

abbrev pub log : Bool → Bool → List ℕ → List ℕ → Log
log puts takes put taken = record { puts = puts; takes = takes; put = put; taken = taken }

-- once a byte was put, or taken
abbrev pub log_put : Log → ℕ → Log
log_put v byte = log v.puts v.takes (v.put ++ byte ∷ []) v.taken

abbrev pub log_taken : Log → ℕ → Log
log_taken v byte = log v.puts v.takes v.put (v.taken ++ byte ∷ [])

-- what was put and taken, and the numbers of the passes that may put and take
pub record Whole : Type 0 where
  pub putter : ℕ
  pub taker : ℕ
  pub put : List ℕ
  pub taken : List ℕ

-- a pass that may put is the one that may, and knows what was put; a pass that may take likewise
pub record Knows (x : Whole) (pass : ℕ) (v : Log) : Type 0 where
  pub puts : v.puts ≡ true → (pass ≡ x.putter) × (v.put ≡ x.put)
  pub takes : v.takes ≡ true → (pass ≡ x.taker) × (v.taken ≡ x.taken)

pub record IsKept (waiting : List ℕ) (views : List Log) : Type 0 where
  pub whole : Whole
  pub in_order : whole.put ≡ whole.taken ++ waiting
  pub knows : (pass : ℕ) (v : Log) → get_elem? views pass ≡ some v → Knows whole pass v

-- a byte was taken by the pass that also puts
pub record TakesRest (v : Log) (byte : ℕ) (w : Log) : Type 0 where
  pub log_is : w ≡ log_taken v byte
  pub more : List ℕ
  pub put_is : v.put ≡ v.taken ++ byte ∷ more
