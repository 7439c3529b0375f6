use Rattle.std.proofs.Common.{◌≡◌, take}
use Rattle.word32.specs.Words.{patched}
use Rattle.guest_pages.specs.Pages.{memory_of}
use Rattle.guest_pages.specs.Outline.{outline}
use Rattle.guest_bus.proofs.accesses.fill.Given as goal

-- the bytes so far are written
abbrev pub invariant-loop-k : goal.invariant-loop-k
invariant-loop-k l = record {
  memory : memory_of l.map ≡ patched (memory_of l.fn.map) l.fn.at (take l.k l.bytes) l.k;
  outline : outline l.map ≡ outline l.fn.map;
}
