-- A stake that was level before a run of steps paused.
use Rattle.std.specs.Prelude.{ℕ, List, Option}
use Rattle.guest_pages.specs.declared.page.Page.{Page}
use Rattle.guest.specs.declared.progress.Pause.{Pause}
use Rattle.guest.specs.Guests.{HasPaused}
use Rattle.machine_memory.specs.declared.stake.Stake.{Stake}
use Rattle.machine_memory.specs.Memories.{MemoryIs, IsLevel}

-- a stake was level for the pages before a run of steps, which paused so and left these pages
pub record LevelBefore {Store : Type 0} (memory : MemoryIs Store) (stake : Stake) (why : Option Pause) (new : List Page) : Type 0 where
  pub old : List Page
  pub given : Option ℕ
  pub level : IsLevel memory stake old
  pub paused : HasPaused given old why new
