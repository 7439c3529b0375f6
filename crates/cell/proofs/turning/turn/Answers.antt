use Rattle.cell.proofs.Slicing.{joined, joined_none}
use Rattle.cell.proofs.turning.turn.Goals as goal

pub returns-in-Err-steps_in-clause-slice : goal.returns-in-Err-steps_in-clause-slice
returns-in-Err-steps_in-clause-slice g c = joined c.args.seat.now 0 c.input_in.new.seat 0 c.steps_in.new.seat c.in-Ok.ensures.slice c.in-Err-steps_in.ensures.refused

pub returns-in_default-clause-slice : goal.returns-in_default-clause-slice
returns-in_default-clause-slice g c =
    joined_none c.args.seat.now c.input_in.new.seat c.in-Ok-steps_in.stepped.steps c.steps_in.new.seat c.in-Ok.ensures.slice c.in-Ok-steps_in.ensures.slice

pub returns-in-Ok-supply_in-clause-slice : goal.returns-in-Ok-supply_in-clause-slice
returns-in-Ok-supply_in-clause-slice g c =
    joined_none c.args.seat.now c.input_in.new.seat c.in-Ok-steps_in.stepped.steps c.steps_in.new.seat c.in-Ok.ensures.slice c.in-Ok-steps_in.ensures.slice

pub returns-in-Err-supply_in-clause-slice : goal.returns-in-Err-supply_in-clause-slice
returns-in-Err-supply_in-clause-slice g c =
    joined_none c.args.seat.now c.input_in.new.seat c.in-Ok-steps_in.stepped.steps c.steps_in.new.seat c.in-Ok.ensures.slice c.in-Ok-steps_in.ensures.slice
