-- Which words of memory were reached, where a machine keeps that.
use Rattle.std.specs.Prelude.{ℕ, zero, suc, nat_lt, Bool, not, ◌==◌, ◌&&◌, ◌/◌, if◌then◌else◌, List, [], ◌∷◌, ◌++◌, Result, Ok, Err}
use Rattle.std.specs.List.{list_any}
use Rattle.mips_cp0.specs.declared.exception.Exc.{Exc}
use Rattle.mips_tlb.specs.declared.kind.Kind.TheVariants.{Fetch}
use Rattle.machine.specs.declared.access.Size.TheVariants.{Word}
use Rattle.machine.specs.Places.{place}
use Rattle.machine.specs.Step.{Machine}
use Rattle.runs.specs.Runs.{after_steps}

-- the coverage of a machine: of how many words of memory, from the first on, it is told whether PC led to them; and those that PC led to, by
-- their numbers, each once, in the order in which it did so first
pub record CoverageIs : Type 0 where
  pub words : ℕ
  pub reached : List ℕ

-- a machine that keeps none is told of no word
abbrev pub no_coverage : CoverageIs
no_coverage = record { words = 0; reached = [] }

-- whether a word is reached
abbrev pub is_reached : ℕ → List ℕ → Bool
is_reached word reached = list_any (λ (other : ℕ). other == word) reached

-- whether a word is one that is told of and is not reached
abbrev pub is_more : ℕ → CoverageIs → Bool
is_more word c = nat_lt word c.words && not (is_reached word c.reached)

-- a word is reached: if it was not, it stands behind the others
abbrev pub with_word : ℕ → CoverageIs → CoverageIs
with_word word c = if is_more word c then record c { reached = c.reached ++ word ∷ [] } else c

-- an address leads to a word, or nowhere
abbrev pub with_place : Result ℕ Exc → CoverageIs → CoverageIs
with_place (Ok at) c = with_word (at / 4) c
with_place (Err e) c = c

-- PC stands where it does in a machine
abbrev pub with_pc : Machine → CoverageIs → CoverageIs
with_pc m c = with_place (place Fetch Word m.cpu m.cpu.pc) c

-- the coverage after so many steps from a machine: PC was where it stood before each of them
abbrev pub covered : ℕ → Machine → CoverageIs → CoverageIs
covered zero m c = c
covered (suc k) m c = with_pc (after_steps k m) (covered k m c)
