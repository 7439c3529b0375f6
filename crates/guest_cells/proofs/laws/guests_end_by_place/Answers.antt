use Rattle.guest_cells.proofs.ByPlace.{ended_at}
use Rattle.guest_cells.proofs.laws.guests_end_by_place.Goals as goal

pub returns-clause-place : goal.returns-clause-place
returns-clause-place g c cells all ended at cell handles one have this that other = ended_at g.S.SwapStore.true_to_digests cells all ended at cell handles one have this that other
