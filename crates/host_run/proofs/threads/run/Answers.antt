use Rattle.host_run.proofs.Dealing.{all_hands}
use Rattle.host_run.proofs.threads.run.Goals as goal

pub at_once-hands-requires-clause-hands : goal.at_once-hands-requires-clause-hands
at_once-hands-requires-clause-hands g c κs within = all_hands c.args.host.guests.cells.items c.args.handles.items c.in-Ok.hands c.requires.handles c.in-Ok.ensures.dealt
