use Rattle.commands.proofs.Limits.{header_pages}
use Rattle.commands.proofs.replay.replay_bytes.Goals as goal

pub replay_on-requires-clause-pages : goal.replay_on-requires-clause-pages
replay_on-requires-clause-pages c = header_pages c.args.log.now c.image_digest-digest.result _ _ c.in-Ok.ensures.ok
