-- Why a page gets no frame of its own.
use Rattle.page_moves.specs.declared.supply.SupplyError.{SupplyError}
use Rattle.page_moves.specs.declared.supply.SupplyError.TheVariants.{NoFrame, Memory, SwapRead, SwapDamaged}

-- No frame was free; a request for memory was refused; the slot of the page was not read; or what was read is not what was kept.
abbrev pub WhyLeft : Type 0 → Type 0 → Type 0 → SupplyError → Type 0
WhyLeft none_free failed damaged NoFrame = none_free
WhyLeft none_free failed damaged Memory = Unit {0}
WhyLeft none_free failed damaged SwapRead = failed
WhyLeft none_free failed damaged SwapDamaged = damaged
