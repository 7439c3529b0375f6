use Rattle.std.proofs.Common.{◌≡◌, ◌∙◌, Err, true, false, Option, rules, sym, subst, ap, length, map}
use Rattle.std.proofs.lemmas.List.{length-replicate}
use Rattle.script.specs.Courses.{course_of}
use Rattle.script.specs.Views.{block_view}
use Rattle.script.specs.declared.header.Fail.{Fail}
use Rattle.swapstore.specs.Memories.{MemoryIs}
use Rattle.simulation.specs.Transcripts.{BreaksOff, WritesTranscript}
use Rattle.simulation.specs.declared.transcript.SimError.TheVariants.{Memory}
use Rattle.commands.specs.Sims.{IsWhole, IsOver, config_of, in_failing, in_memory}
use Rattle.commands.proofs.Simulating.{told_whole}
use Rattle.commands.proofs.sim.replies_to.Goals.{in-None, in-Some}
use Rattle.commands.proofs.sim.replies_to.Goals as goal

pub returns-in-Ok-told-clause-replies : goal.returns-in-Ok-told-clause-replies
returns-in-Ok-told-clause-replies g c =
    let h = c.args.header.now in
    let guests = c.args.guests.items in
    let course = course_of (length guests) (map block_view c.args.blocks.now) in
    let known = g.O.Write.contents c.args.out.now in
    let count : length c.in-Ok.store.pages ≡ h.slots = ap length c.in-Ok.ensures.pages ∙ length-replicate h.slots _ in
    elim c.match-header.branch [
      | in-None w ↦ subst (λ (f : Option Fail). IsOver f true c.args.numbered (config_of h) h.seed h.slots guests course known (g.O.Write.contents c.match-header.out)) (sym w.in-None.is) (record {
        store = c.in-Ok.store;
        sound = c.in-Ok.ensures.sound;
        count = count;
        told = subst (λ (o : _). WritesTranscript in_memory c.args.numbered (config_of h) h.seed guests c.in-Ok.store course known (g.O.Write.contents o)) (sym w.out-is)
            (told_whole w.simulate-told.result _ _ (sym w.told-is ∙ c.in-Ok-told.is) w.simulate-told.ensures.transcript);
      })
      | in-Some w ↦ subst (λ (f : Option Fail). IsOver f true c.args.numbered (config_of h) h.seed h.slots guests course known (g.O.Write.contents c.match-header.out)) (sym w.in-Some.is) (record {
        store = w.new-store.result;
        sound = subst IsWhole (sym w.new-store.ensures.store) c.in-Ok.ensures.sound;
        count = ap (λ (s : MemoryIs). length s.pages) w.new-store.ensures.store ∙ count;
        told = subst (λ (o : _). WritesTranscript in_failing c.args.numbered (config_of h) h.seed guests w.new-store.result course known (g.O.Write.contents o)) (sym w.out-is)
            (told_whole w.simulate-told-in-Some.result _ _ (sym w.told-is ∙ c.in-Ok-told.is) w.simulate-told-in-Some.ensures.transcript);
      })
    ]

pub returns-in-Err-Memory-clause-broken_off : goal.returns-in-Err-Memory-clause-broken_off
returns-in-Err-Memory-clause-broken_off g c = λ want.
    let h = c.args.header.now in
    let guests = c.args.guests.items in
    let course = course_of (length guests) (map block_view c.args.blocks.now) in
    let known = g.O.Write.contents c.args.out.now in
    let count : length c.in-Ok.store.pages ≡ h.slots = ap length c.in-Ok.ensures.pages ∙ length-replicate h.slots _ in
    let off = c.in-Err-Memory in
    elim c.match-header.branch [
      | in-None w ↦ subst (λ (f : Option Fail). IsOver f false c.args.numbered (config_of h) h.seed h.slots guests course known (g.O.Write.contents c.match-header.out)) (sym w.in-None.is) (record {
        store = c.in-Ok.store;
        sound = c.in-Ok.ensures.sound;
        count = count;
        told = subst (λ (o : _). BreaksOff in_memory c.args.numbered (config_of h) h.seed guests c.in-Ok.store course known (g.O.Write.contents o)) (sym w.out-is)
            (let is : w.simulate-told.result ≡ Err Memory = search rules in w.simulate-told.ensures.broken_off is);
      })
      | in-Some w ↦ subst (λ (f : Option Fail). IsOver f false c.args.numbered (config_of h) h.seed h.slots guests course known (g.O.Write.contents c.match-header.out)) (sym w.in-Some.is) (record {
        store = w.new-store.result;
        sound = subst IsWhole (sym w.new-store.ensures.store) c.in-Ok.ensures.sound;
        count = ap (λ (s : MemoryIs). length s.pages) w.new-store.ensures.store ∙ count;
        told = subst (λ (o : _). BreaksOff in_failing c.args.numbered (config_of h) h.seed guests w.new-store.result course known (g.O.Write.contents o)) (sym w.out-is)
            (let is : w.simulate-told-in-Some.result ≡ Err Memory = search rules in w.simulate-told-in-Some.ensures.broken_off is);
      })
    ]
