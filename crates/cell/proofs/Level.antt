-- A machine memory that is the one at first.
use Rattle.std.proofs.Common.{◌≡◌, List, [], ap, sym, subst}
use Rattle.guest_pages.specs.declared.page.Page.{Page}
use Rattle.guest_pages.specs.Outline.{outline}
use Rattle.machine_memory.specs.declared.stake.Stake.{Stake}
use Rattle.machine_memory.specs.Memories.{MemoryIs, IsLevel}
use Rattle.machine_memory.proofs.Stakes.{level_by_outline}
use Rattle.cell.specs.Level.{IsMemoryOf}

-- a stake that stays, of pages in the same places
pub level_on : {Store : Type 0} (first : MemoryIs Store) (stake stake' : Stake) (pages pages' : List Page) → outline pages' ≡ outline pages → stake' ≡ stake → IsLevel first stake pages → IsLevel first stake' pages'
level_on first stake stake' pages pages' e same l = subst (λ (s : Stake). IsLevel first s pages') (sym same) (level_by_outline first stake pages pages' [] e l)

-- and of the same pages
pub level_at : {Store : Type 0} (first : MemoryIs Store) (stake stake' : Stake) (pages pages' : List Page) → pages' ≡ pages → stake' ≡ stake → IsLevel first stake pages → IsLevel first stake' pages'
level_at first stake stake' pages pages' e same l = level_on first stake stake' pages pages' (ap outline e) same l

pub to_memory : {Store : Type 0} (first memory : MemoryIs Store) (stake : Stake) (pages : List Page) → IsMemoryOf first memory → IsLevel first stake pages → IsLevel memory stake pages
to_memory first memory stake pages of l = subst (λ (m : MemoryIs _). IsLevel m stake pages) (sym of) l

pub of_memory : {Store : Type 0} (first memory : MemoryIs Store) (stake : Stake) (pages : List Page) → IsMemoryOf first memory → IsLevel memory stake pages → IsLevel first stake pages
of_memory first memory stake pages of l = subst (λ (m : MemoryIs _). IsLevel m stake pages) of l

-- a store that was to be trusted at first is so in the memory
pub trusted_in : {Store : Type 0} (is_true : Store → Type 0) (first memory : MemoryIs Store) → IsMemoryOf first memory → is_true first.first → is_true memory.first
trusted_in is_true first memory of trust = subst (λ (m : MemoryIs _). is_true m.first) (sym of) trust
