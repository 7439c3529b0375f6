use Rattle.std.proofs.Common.{◌∙◌}
use Rattle.std.proofs.lemmas.Result.{on_ok_weaker}
use Rattle.swapstore.proofs.Media.{page_read, read_held, all_stay}
use Rattle.swapstore.proofs.file.read_slot.Goals as goal

pub returns-clause-gives : goal.returns-clause-gives
returns-clause-gives g c =
    on_ok_weaker c.read_from.result (page_read _ _ _ _ (c.read_from.auto.bytes ∙ c.requires) c.first_place.ensures) c.read_from.ensures.gives

pub returns-clause-read : goal.returns-clause-read
returns-clause-read g c =
    on_ok_weaker c.read_from.result (λ read. read_held _ _ _ (page_read _ _ _ _ (c.read_from.auto.bytes ∙ c.requires) c.first_place.ensures read)) c.read_from.ensures.gives

pub returns-clause-held : goal.returns-clause-held
returns-clause-held g c = all_stay _ _ c.read_from.ensures.known c.read_from.ensures.bytes
