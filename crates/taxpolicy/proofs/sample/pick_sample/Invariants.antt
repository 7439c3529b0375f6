use Rattle.std.proofs.Common.{◌≡◌, length, take}
use Rattle.taxpolicy.specs.Sample.{drawn, after_words}
use Rattle.taxpolicy.proofs.sample.pick_sample.Given as goal

-- the draws so far are those of the words so far
abbrev pub invariant-loop-draw : goal.invariant-loop-draw
invariant-loop-draw g l =
    let stream = g.R.Rng.stream in
    record {
      size : length l.draw-items ≡ 100;
      draws : take l.draw-index l.draw-items ≡ drawn l.pages l.draw-index (stream l.fn.rng);
      rest : stream l.rng ≡ after_words l.draw-index (stream l.fn.rng);
    }
