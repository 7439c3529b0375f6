use Rattle.std.proofs.Common.{Some, ap, ◌∙◌}
use Rattle.cell.proofs.Lent.{level_calm, level_needs, lags_as}
use Rattle.cell.proofs.lending.settle_pause.Goals as goal

pub give_back-requires : goal.give_back-requires
give_back-requires g c = lags_as c.args.memory.now c.args.stake.now c.args.guest.now.bus.pages c.args.pause c.in-Gave.returned (c.in-Some.is ∙ ap Some c.in-Gave.is) c.requires

pub returns-in-None-clause-level : goal.returns-in-None-clause-level
returns-in-None-clause-level g c = level_calm c.args.memory.now c.args.stake.now c.args.guest.now.bus.pages c.args.pause c.in-None.is c.requires

pub returns-in-Need-clause-level : goal.returns-in-Need-clause-level
returns-in-Need-clause-level g c =
    level_needs c.args.memory.now c.args.stake.now c.args.guest.now.bus.pages c.args.pause c.in-Need.page c.in-Need.field-1 (c.in-Some.is ∙ ap Some c.in-Need.is) c.requires
