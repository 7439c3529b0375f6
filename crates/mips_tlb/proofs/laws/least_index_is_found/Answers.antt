use Rattle.mips_tlb.specs.Entries.{zero_entry, matches}
use Rattle.mips_tlb.proofs.Searches.{fails_before_position}
use Rattle.mips_tlb.proofs.laws.least_index_is_found.Goals as goal

pub returns-clause-least : goal.returns-clause-least
returns-clause-least c = λ entries address asid index before found below. fails_before_position (matches address asid) entries index before zero_entry found below
