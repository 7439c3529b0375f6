use Rattle.mips_tlb.proofs.Shown.{entry_shown}
use Rattle.mips_tlb.proofs.laws.registers_show_the_entry.Goals as goal

pub returns : goal.returns
returns c = entry_shown
