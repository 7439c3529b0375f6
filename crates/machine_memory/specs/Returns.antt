-- A stake that lags behind its guest's pages.
use Rattle.std.specs.Prelude.{List}
use Rattle.guest_pages.specs.declared.page.Page.{Page}
use Rattle.guest_pages.specs.declared.page.Returned.{Returned}
use Rattle.lent_pages.specs.Contents.{IsWrittenBack}
use Rattle.lent_pages.specs.Returns.{IsBehind}
use Rattle.machine_memory.specs.declared.stake.Stake.{Stake}
use Rattle.machine_memory.specs.Memories.{MemoryIs, IsPassOf}

-- The stake says what the pages were before one of them was given to the balloon, and handed this back.
pub record Lags {Store : Type 0} (memory : MemoryIs Store) (stake : Stake) (returned : Returned) (new : List Page) : Type 0 where
  pub share : IsBehind memory.books.id stake.share returned new
  pub pass : IsPassOf memory stake.pass
  pub contents : IsWrittenBack memory.contents.id stake.contents returned new
