use Rattle.std.proofs.Common.{◌≡◌, ℕ, ◌+◌, ◌*◌, ◌≤◌, All, List, length, drop}
use Rattle.elf32.specs.Images.{IsWithin}
use Rattle.machine.specs.Board.{page_bytes}
use Rattle.guest.proofs.BootPages.{Loads}
use Rattle.guest.proofs.loading.load_segments.Given as goal

-- the bytes are the page's in a memory from which what is left to load leads to the one that is wanted
abbrev pub invariant-loop-segment : goal.invariant-loop-segment
invariant-loop-segment l = record {
  long : length l.bytes ≡ 4096;
  parts : (memory : List ℕ) → l.p * 4096 + 4096 ≤ length memory → All (IsWithin (length memory)) l.segments → l.fn.bytes ≡ page_bytes l.p memory
      → Loads l.p memory l.segments (drop l.segment-index l.segments) l.bytes;
}
