use Rattle.std.proofs.Common.{List, sym, ap}
use Rattle.items.specs.declared.item.Item.{Item}
use Rattle.items.proofs.Runs.{steps_of-none}
use Rattle.machine.specs.Items.{run}
use Rattle.commands.proofs.Replaying.{steps_run, steps_accepted}
use Rattle.commands.proofs.replay.replay_steps.Goals as goal

pub loop-made-init : goal.loop-made-init
loop-made-init c = sym (ap (λ (items : List Item). run items c.args.flat.now) (steps_of-none c.args.seat))

pub loop-made-preserved : goal.loop-made-preserved
loop-made-preserved c = steps_run c.args.seat c.loop-made.made c.args.flat.now c.loop-made.flat c.step.new.self c.loop-made.invariant c.step.ensures

pub returns-clause-accepted : goal.returns-clause-accepted
returns-clause-accepted c = steps_accepted c.args.seat c.args.count c.args.flat.now
