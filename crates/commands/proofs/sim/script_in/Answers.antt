use Rattle.std.proofs.Common.{map}
use Rattle.script.specs.Views.{block_view}
use Rattle.commands.proofs.Simulating.{all_for}
use Rattle.commands.proofs.sim.script_in.Goals as goal

pub returns-in-Ok-clause-can : goal.returns-in-Ok-clause-can
returns-in-Ok-clause-can c =
    let script = c.in-Ok.script in
    all_for script.header.guests.items script.header.slots (map block_view script.blocks.items) c.in-Ok.ensures.allowed
