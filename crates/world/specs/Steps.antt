-- Steps of a guest for which no page is supplied.
use Rattle.std.specs.Prelude.{◌≡◌, ℕ, zero, suc, ◌<◌, None, List}
use Rattle.world.specs.Below.{Machine, Page, accesses, first_lack, lacks_in, outline, pages_settled, run, step_given, steps_of}

-- the pages after so many steps of a machine by seat 0, where each page that a step gave is given
abbrev pub pages_after : ℕ → Machine → List Page → List Page
pages_after zero m pages = pages
pages_after (suc k) m pages = pages_settled (step_given (run (steps_of 0 k) m)) (pages_after k m pages)

-- None of so many steps of a machine needs a page that is lacking where the pages are by then; and after them the pages are where those
-- that the steps gave leave them.
pub record NoneNeeds (count : ℕ) (m : Machine) (pages pages' : List Page) : Type 0 where
  pub needs_none : (k : ℕ) → k < count → first_lack (lacks_in (pages_after k m pages)) (accesses (run (steps_of 0 k) m)) ≡ None
  pub places : outline pages' ≡ outline (pages_after count m pages)
