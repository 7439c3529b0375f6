use Rattle.load_and_go.proofs.Told.{held_by}
use Rattle.load_and_go.proofs.boot.flat_text.Goals as goal

pub returns-clause-machine : goal.returns-clause-machine
returns-clause-machine c =
    let h = c.in_ok-image.ensures.holds in
    held_by c.args.text.now c.in_ok-boot.field-0 _ c.in_ok-boot.ensures (h.0, h.1, h.2 c.args.profile)
