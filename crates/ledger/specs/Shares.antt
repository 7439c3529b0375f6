-- What is seen of ledgers and shares, and what is said of their parts.
use Rattle.std.specs.Prelude.{List, ◌++◌}
use Rattle.atomic_table.specs.Seated.{TableId}

-- which ledger it is
abbrev pub LedgerId : Type 0
LedgerId = TableId

pub record LedgerIs (K : Type 0) : Type 0 where
  -- what the rule is about
  pub key : K
  pub id : LedgerId

pub record ShareIs (H : Type 0) : Type 0 where
  -- the ledger that it is a share of
  pub ledger : LedgerId
  pub parts : List H

-- with the parts that others have, these are right
abbrev pub AreOf : {H : Type 0} → (List H → Type 0) → List H → Type 0
AreOf {H} exact parts = (others : List H) × exact (parts ++ others)

-- whatever the parts that others have, with these they are right where they were with those
abbrev pub Become : {H : Type 0} → (List H → Type 0) → List H → List H → Type 0
Become {H} exact those these = (others : List H) → exact (those ++ others) → exact (these ++ others)
