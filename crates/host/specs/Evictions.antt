-- Evictions for a page that is needed.
use Rattle.std.specs.Prelude.{◌⊎◌, Option, Some, None, List}
use Rattle.cell.specs.declared.cell.Cell.{Cell}
use Rattle.host_policy.specs.declared.evicting.Evicted.{Evicted}
use Rattle.host_policy.specs.declared.evicting.Evicted.TheVariants.{Page, Nobody, NoSwap, SwapWrite}
use Rattle.host_policy.specs.Evictions.{WereVictims, IsAnswer}
use Rattle.host.specs.declared.stops.Stop.{Stop}
use Rattle.host.specs.declared.stops.Stop.TheVariants as stop

-- why a guest stops that needed a frame, if no page has left its own
abbrev pub stop_of_eviction : Evicted → Option Stop
stop_of_eviction (Page g p) = None
stop_of_eviction Nobody = Some stop.NoFrame
stop_of_eviction NoSwap = Some stop.NoSwap
stop_of_eviction SwapWrite = Some stop.NoFrame

-- Why there is no room for a page that is needed: 64 pages have left their frames for it, each one of a victim of the policy; or an eviction
-- was tried, by which none left.
abbrev pub WhyNoRoom : {S : Type 0} → List (Cell S) → Stop → Type 0
WhyNoRoom cells stop.NoFrame = WereVictims cells 64 ⊎ (IsAnswer cells Nobody ⊎ IsAnswer cells SwapWrite)
WhyNoRoom cells stop.NoSwap = IsAnswer cells NoSwap
WhyNoRoom cells why = ⊥

-- Why a page that a debugger's bytes lie in is not there: no room, no memory, or its slot.
abbrev pub WhyLacking : {S : Type 0} → List (Cell S) → Stop → Type 0
WhyLacking cells stop.NoFrame = WhyNoRoom cells stop.NoFrame
WhyLacking cells stop.NoSwap = WhyNoRoom cells stop.NoSwap
WhyLacking cells stop.LogFull = ⊥
WhyLacking cells why = Unit {0}
