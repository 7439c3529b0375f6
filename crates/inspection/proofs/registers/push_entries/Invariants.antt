use Rattle.std.proofs.Common.{◌≡◌, ◌++◌, string_bytes}
use Rattle.inspection.specs.Registers.{entries_text}
use Rattle.inspection.proofs.registers.push_entries.Given as goal

abbrev pub invariant-loop-number : goal.invariant-loop-number
invariant-loop-number l = (string_bytes l.out ≡ string_bytes l.fn.out ++ entries_text l.number l.fn.tlb) × (l.tlb ≡ l.fn.tlb)
