-- What is seen of frames.
use Rattle.std.specs.Prelude.{ℕ, List}

-- a frame: its number, and the bytes of the page that it holds
pub record FrameIs : Type 0 where
  pub number : ℕ
  pub bytes : List ℕ

-- a frame that several pages read, with the number of tickets that are out
pub record SharedIs : Type 0 where
  pub number : ℕ
  pub bytes : List ℕ
  pub tickets : ℕ
