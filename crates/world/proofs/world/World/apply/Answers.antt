use Rattle.world.proofs.All.{room_of, still_admitted}
use Rattle.world.proofs.world.World.apply.Goals as goal

pub returns : goal.returns
returns g c =
    let answer = c.apply_event-answer in
    let e = answer.ensures in
    record {
      answered = e.answered;
      by_words = e.by_words;
      logs = e.logs;
      boots = e.boots;
      limits = e.limits;
      blocked = e.blocked;
      frames = e.frames;
      store = e.store;
      room = λ admitted. room_of g.S.SwapStore c.args.tax.percent c.args.self.now answer.new.self c.args.event answer.result e.answered c.is_sound.ensures c.shared_frames_are_named.ensures
          (still_admitted e.frames e.store.slots e.limits admitted);
      sound = c.is_sound.ensures;
    }
