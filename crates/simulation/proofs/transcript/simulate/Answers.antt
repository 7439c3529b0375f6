use Rattle.std.proofs.Common.{ℕ, ◌≡◌, ◌∙◌, Result, Err, ap, arith, map}
use Rattle.rand_core.specs.Pcg32Seed.{pcg32_seed}
use Rattle.rand_core.specs.Steps.{stream_of, steps_u32}
use Rattle.rand_pcg.specs.Lcg.{Lcg}
use Rattle.rand_pcg.specs.Pcg.{pcg32, pcg32_of_seed}
use Rattle.script.specs.Views.{block_view}
use Rattle.simulation.specs.declared.blocks.Interruption.{Interruption}
use Rattle.simulation.specs.Transcripts.{IsFirst, words_of}
use Rattle.simulation.proofs.Showing.{broken_of, same_error, whole_of}
use Rattle.simulation.proofs.transcript.simulate.Goals as goal

pub returns-in-Ok-played-clause-transcript : goal.returns-in-Ok-played-clause-transcript
returns-in-Ok-played-clause-transcript g c =
    let s = g.S.SwapStore in
    let ok = c.in-Ok.ensures in
    let first = c.in-Ok.world in
    let words = stream_of (steps_u32 pcg32) c.seed_from_u64-rng.result in
    let is_first : IsFirst s c.args.config c.args.guests.items c.args.store first =
    record { booted = ok.booted; frames = ok.frames; level = ok.level; hints = ok.hints; store_stays = ok.store; admitted = ok.admitted; sound = c.is_sound.ensures } in
    let same_words : words ≡ words_of c.args.seed = ap (λ (x : Lcg). stream_of (steps_u32 pcg32) x) (c.seed_from_u64-rng.ensures ∙ ap (λ (n : ℕ). pcg32_of_seed (pcg32_seed 16 n)) c.from.ensures) in
    whole_of s c.args.numbered c.args.config c.args.seed c.args.guests.items c.args.store first is_first _ words (stream_of (steps_u32 pcg32) c.play-played.new.rng) c.play-played.new.world
    (map block_view c.args.blocks.now) _ _ c.play-played.result (omega (arith, c.count-count.ensures, ok.booted.count, ok.within.0.count)) same_words c.play-played.ensures _ c.in-Ok-played.is

pub returns-in-Err-played-clause-broken_off : goal.returns-in-Err-played-clause-broken_off
returns-in-Err-played-clause-broken_off g c = λ want.
    let s = g.S.SwapStore in
    let ok = c.in-Ok.ensures in
    let first = c.in-Ok.world in
    let words = stream_of (steps_u32 pcg32) c.seed_from_u64-rng.result in
    let is_first : IsFirst s c.args.config c.args.guests.items c.args.store first =
    record { booted = ok.booted; frames = ok.frames; level = ok.level; hints = ok.hints; store_stays = ok.store; admitted = ok.admitted; sound = c.is_sound.ensures } in
    let same_words : words ≡ words_of c.args.seed = ap (λ (x : Lcg). stream_of (steps_u32 pcg32) x) (c.seed_from_u64-rng.ensures ∙ ap (λ (n : ℕ). pcg32_of_seed (pcg32_seed 16 n)) c.from.ensures) in
    broken_of s c.args.numbered c.args.config c.args.seed c.args.guests.items c.args.store first is_first _ words (stream_of (steps_u32 pcg32) c.play-played.new.rng) c.play-played.new.world
    (map block_view c.args.blocks.now) _ _ c.play-played.result (omega (arith, c.count-count.ensures, ok.booted.count, ok.within.0.count)) same_words c.play-played.ensures
    (c.in-Err-played.is ∙ ap (λ (e : Interruption). let q : Result (Unit {0}) Interruption = Err e in q) (c.from-in-Err-played.ensures.memory (same_error _ _ want)))
