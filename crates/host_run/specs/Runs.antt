-- What is left of a run.
use Rattle.std.specs.Prelude.{List}
use Rattle.cell.specs.declared.cell.Cell.{Cell}
use Rattle.cell.specs.declared.ends.Ended.{Ended}
use Rattle.guest_cells.specs.declared.handles.Handles.{Handles}
use Rattle.guest_cells.specs.Ends.{HaveEnded}
use Rattle.host_run.specs.Seats.{AreHandedOut}

-- The guests behind these cells have ended with the seats that the threads have used: each seat was legal for its guest's log, and each guest is
-- the run of its log while its truth holds, as it does where the swap store was true to digests at first.
pub record HaveRun {Store : Type 0} (is_true : Store → Type 0) (cells : List (Cell Store)) (ended : List Ended) : Type 0 where
  pub handles : List Handles
  pub handed_out : AreHandedOut cells handles
  pub have_ended : HaveEnded is_true cells handles ended
