-- Bytes that are all zero.
use Rattle.std.specs.Prelude.{ℕ, List, replicate}

unfoldable pub zeros : ℕ → List ℕ
zeros count = replicate count 0
