use Rattle.accounts.proofs.FreeFrames.{freed_settles}
use Rattle.accounts.proofs.free.free_frame_as.Goals as goal

pub settle-requires-clause-right : goal.settle-requires-clause-right
settle-requires-clause-right g c = freed_settles c.args.books.now.key _ _ _ _ _ c.requires.taken c.requires.new
