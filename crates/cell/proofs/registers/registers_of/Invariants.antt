use Rattle.std.proofs.Common.{◌≡◌, ℕ, ◌<◌, length, slice_index}
use Rattle.cell.specs.Registers.{register_of}
use Rattle.cell.proofs.registers.registers_of.Given as goal

abbrev pub invariant-loop-number : goal.invariant-loop-number
invariant-loop-number l = (length l.words ≡ 38) × ((k : ℕ) → k < l.number → slice_index l.words k ≡ register_of k l.lines l.cpu)
