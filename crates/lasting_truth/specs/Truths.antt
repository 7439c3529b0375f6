-- What is seen of a truth, of its keeper and of its witnesses.
use Rattle.std.specs.Prelude.{Bool}
use Rattle.ledger.specs.Shares.{LedgerId}

-- which truth it is
abbrev pub TruthId : Type 0
TruthId = LedgerId

pub record TruthIs : Type 0 where
  pub id : TruthId

pub record KeeperIs : Type 0 where
  pub truth : TruthId
  -- whether it holds
  pub holds : Bool

pub record WitnessIs : Type 0 where
  pub truth : TruthId
  -- whether it held when the witness looked last
  pub held : Bool
