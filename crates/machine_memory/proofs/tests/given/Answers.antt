use Rattle.std.proofs.Common.{refl}
use Rattle.machine_memory.proofs.Stakes.{level_lags}
use Rattle.machine_memory.proofs.tests.given.Goals as goal

pub give_back-requires : goal.give_back-requires
give_back-requires g c =
    level_lags c.args.memory.now c.args.side.now.stake c.args.side.now.pages c.args.side.now.pages c.give-returned.new.self _ c.give-returned.result c.requires refl c.give-returned.ensures.pages c.give-returned.ensures.returned
