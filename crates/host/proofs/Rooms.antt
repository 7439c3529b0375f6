-- Evictions that follow one another, and stops.
use Rattle.std.proofs.Common.{◌≡◌, ◌≢◌, ℕ, ◌+◌, List, [], ◌∷◌, Some, None, refl, inl, inr, subst, arith}
use Rattle.std.proofs.lemmas.List.Elements.{All-nil, All-cons}
use Rattle.cell.specs.declared.cell.Cell.{Cell}
use Rattle.host_policy.specs.declared.evicting.Evicted.{Evicted}
use Rattle.host_policy.specs.declared.evicting.Evicted.TheVariants.{Page, Nobody, NoSwap, SwapWrite}
use Rattle.host_policy.specs.Evictions.{IsVictim, WereVictims, IsAnswer}
use Rattle.host.specs.declared.stops.Stop.{Stop}
use Rattle.host.specs.declared.stops.Stop.TheVariants as stop
use Rattle.host.specs.Evictions.{stop_of_eviction, WhyNoRoom, WhyLacking}

pub no_victims : {S : Type 0} (cells : List (Cell S)) → WereVictims cells 0
no_victims cells = record { victims = []; count_is = refl; each = All-nil (IsVictim cells) }

pub one_more : {S : Type 0} (cells : List (Cell S)) (n g : ℕ) → WereVictims cells n → IsVictim cells g → WereVictims cells (n + 1)
one_more cells n g were is = record { victims = g ∷ were.victims; count_is = omega (arith, were.count_is); each = All-cons (IsVictim cells) g were.victims is were.each }

-- a victim's page has left where nothing stops
pub left : {S : Type 0} (cells : List (Cell S)) (e : Evicted) → stop_of_eviction e ≡ None → IsAnswer cells e → (g : ℕ) × IsVictim cells g
left cells (Page g p) none is = (g, is)
left cells Nobody none is = absurd (cc)
left cells NoSwap none is = absurd (cc)
left cells SwapWrite none is = absurd (cc)

some_stop : (a b : Stop) → Some a ≡ Some b → a ≡ b
some_stop a b e = cc

pub no_room : {S : Type 0} (cells : List (Cell S)) (e : Evicted) (why : Stop) → stop_of_eviction e ≡ Some why → IsAnswer cells e → WhyNoRoom cells why
no_room cells (Page g p) why some is = absurd (cc)
no_room cells Nobody why some is = subst (WhyNoRoom cells) (some_stop stop.NoFrame why some) (inr (inl is))
no_room cells NoSwap why some is = subst (WhyNoRoom cells) (some_stop stop.NoSwap why some) is
no_room cells SwapWrite why some is = subst (WhyNoRoom cells) (some_stop stop.NoFrame why some) (inr (inr is))

-- such a stop is none for want of room in the log
pub not_full : {S : Type 0} (cells : List (Cell S)) (why : Stop) → WhyNoRoom cells why → why ≢ stop.LogFull
not_full cells stop.NoFrame is e = cc
not_full cells stop.NoSwap is e = cc
not_full cells stop.SwapRead is e = cc
not_full cells stop.SwapDamaged is e = cc
not_full cells stop.Memory is e = cc
not_full cells stop.LogFull is e = is

pub lacking : {S : Type 0} (cells : List (Cell S)) (why : Stop) → WhyNoRoom cells why → WhyLacking cells why
lacking cells stop.NoFrame is = is
lacking cells stop.NoSwap is = is
lacking cells stop.SwapRead is = tt
lacking cells stop.SwapDamaged is = tt
lacking cells stop.Memory is = tt
lacking cells stop.LogFull is = is

-- want of a frame, or of a slot, is no want of room in the log
pub frame_lacks : stop.NoFrame ≢ stop.LogFull
frame_lacks e = cc

pub swap_lacks : stop.NoSwap ≢ stop.LogFull
swap_lacks e = cc
