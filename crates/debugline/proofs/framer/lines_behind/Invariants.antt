use Rattle.std.proofs.Common.{ℕ, List, ◌++◌, take, map}
use Rattle.debugline.specs.Lines.{Line, IsLines}
use Rattle.debugline.specs.Views.{line_view}
use Rattle.debugline.proofs.framer.lines_behind.Given as goal

-- the lines so far and the rest are those of the stream as far as the piece has been read
abbrev pub invariant-loop-byte : goal.invariant-loop-byte
invariant-loop-byte l = (stream : List ℕ) (before : List Line) → IsLines stream before (line_view l.fn.rest)
    → IsLines (stream ++ take l.byte-index l.piece) (before ++ map line_view l.lines.items) (line_view l.rest)
