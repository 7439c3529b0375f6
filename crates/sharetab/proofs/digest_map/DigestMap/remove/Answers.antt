use Rattle.sharetab.proofs.Keys.{digest_apart}
use Rattle.sharetab.proofs.digest_map.DigestMap.remove.Goals as goal

pub returns-clause-others : goal.returns-clause-others
returns-clause-others g c = λ other apart.
    let stays = c.remove.ensures.updates.2 other (digest_apart c.args.digest.now other apart) in
    let view = c.self.view_is in
    cc
