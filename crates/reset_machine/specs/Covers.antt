-- Words that are marked as reached, and the one that PC leads to.
use Rattle.std.specs.Prelude.{ℕ, ◌≡◌, ◌≤◌, ◌^◌, ◌/◌, Bool, false, List, length, Result, Ok, Err}
use Rattle.mips_cp0.specs.declared.exception.Exc.{Exc}
use Rattle.mips_tlb.specs.declared.kind.Kind.TheVariants.{Fetch}
use Rattle.machine.specs.declared.access.Size.TheVariants.{Word}
use Rattle.machine.specs.Places.{place}
use Rattle.machine.specs.Step.{Machine}
use Rattle.runs.specs.Coverage.{CoverageIs, is_more, is_reached}
use Rattle.reset_machine.specs.Marks.{is_marked, marks}

-- The words that are marked are those of the list, which has no more than are marked: so where a word is not marked, there is room for it in a
-- list with room for all.
pub record IsCover (marked : List Bool) (list : List ℕ) : Type 0 where
  pub small : length marked ≤ 2 ^ 30
  pub same : (word : ℕ) → is_marked word marked ≡ is_reached word list
  pub few : length list ≤ marks marked

-- no word is marked
abbrev pub NoneMarked : List Bool → Type 0
NoneMarked marked = (word : ℕ) → is_marked word marked ≡ false

-- whether an address is in a word that is told of and is not reached
abbrev pub is_more_at : Result ℕ Exc → CoverageIs → Bool
is_more_at (Ok at) c = is_more (at / 4) c
is_more_at (Err e) c = false

-- whether PC leads to such a word from where it stands in a machine
abbrev pub leads_to_more : Machine → CoverageIs → Bool
leads_to_more m c = is_more_at (place Fetch Word m.cpu m.cpu.pc) c
