use Rattle.std.proofs.lemmas.Result.{on_ok_weaker}
use Rattle.swapstore.proofs.Media.{written_held, others_stay}
use Rattle.swapstore.proofs.file.write_slot.Goals as goal

pub returns-clause-written : goal.returns-clause-written
returns-clause-written g c = on_ok_weaker c.write_from.result (written_held _ _ _ _ c.requires c.first_place.ensures) c.write_from.ensures.written

pub returns-clause-others : goal.returns-clause-others
returns-clause-others g c =
    others_stay _ _ _ _ _ c.requires c.first_place.ensures c.write_from.ensures.known c.write_from.ensures.before c.write_from.ensures.after
