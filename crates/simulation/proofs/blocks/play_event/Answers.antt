use Rattle.std.proofs.Common.{◌≡◌, ◌∙◌, ◌++◌, Result, Err, ap, arith, length, refl, subst, sym}
use Rattle.std.proofs.lemmas.List.{length-map}
use Rattle.world.specs.All.{boot_of}
use Rattle.simulation.specs.declared.acts.Act.{Act}
use Rattle.simulation.specs.declared.blocks.Interruption.{Interruption}
use Rattle.simulation.specs.declared.text.Heading.{Heading}
use Rattle.simulation.specs.Acts.{IsDoable, act_of}
use Rattle.simulation.specs.Lines.{NumberedEvent, heading_of, number_text, reply_text, said_text}
use Rattle.simulation.specs.Transcripts.{IsDone}
use Rattle.simulation.proofs.Playing.{for_act, kept_appends, on_ok, outcome_kept, outcome_lost, outcome_none, outcome_one}
use Rattle.simulation.proofs.blocks.play_event.Goals as goal

pub act_of-act-requires : goal.act_of-act-requires
act_of-act-requires g c = (for_act (length c.args.world.now.tenants) (g.S.SwapStore.slots c.args.world.now.store) c.args.event c.requires).register

pub returns-in_err-hand_on_before : goal.returns-in_err-hand_on_before
returns-in_err-hand_on_before g c =
    let w = c.args.world.now in
    let words = g.R.Rng.stream c.args.rng.now in
    outcome_lost g.S.SwapStore c.args.numbered (length w.tenants) (g.S.SwapStore.slots w.store) words w _ words w (g.W.Write.contents c.args.out.now) _ _ c.from_residual.result c.from_residual.ensures.1
    (λ is. c.in_err-hand_on_before.ensures.no_want (ap (λ (x : Interruption). let q : Result (Unit {0}) Interruption = Err x in q) is)) refl refl

pub perform-said-requires : goal.perform-said-requires
perform-said-requires g c =
    let n = length c.args.world.now.tenants in
    let slots = g.S.SwapStore.slots c.args.world.now.store in
    subst (IsDoable n slots) (sym c.act_of-act.ensures) (for_act n slots c.args.event c.requires).act

pub returns-in_err-text : goal.returns-in_err-text
returns-in_err-text g c =
    let w = c.args.world.now in
    let after = c.perform-said.new.world in
    let d = c.perform-said.ensures in
    outcome_kept g.S.SwapStore c.args.numbered (length w.tenants) (g.S.SwapStore.slots w.store) (g.R.Rng.stream c.args.rng.now) w _ (g.R.Rng.stream c.perform-said.new.rng) after _ _ _ c.from_residual-in_err-text.result
    (outcome_none g.S.SwapStore c.args.numbered (length w.tenants) (g.S.SwapStore.slots w.store) (g.R.Rng.stream c.args.rng.now) (g.R.Rng.stream c.perform-said.new.rng) w after _
    (g.W.Write.contents c.args.out.now) c.from_residual-in_err-text.result _ c.from_residual-in_err-text.ensures.1 (omega (arith, ap length d.boots, length-map w.tenants boot_of, length-map after.tenants boot_of)) d.slots)
    c.hand_on_before.ensures.kept

pub returns : goal.returns
returns g c =
    let s = g.S.SwapStore in
    let w = c.args.world.now in
    let after = c.perform-said.new.world in
    let said = c.perform-said.result in
    let d = c.perform-said.ensures in
    let words = g.R.Rng.stream c.args.rng.now in
    let rest = g.R.Rng.stream c.perform-said.new.rng in
    let e : NumberedEvent = record { line = c.args.line; event = c.args.event } in
    let one : IsDone s words w (act_of c.args.event) said rest after =
    subst (λ (a : Act). IsDone s words w a said rest after) c.act_of-act.ensures
    (record { told = d.told; logs = d.logs; boots = d.boots; slots_stay = d.slots; trusted_before = d.trusted_before; trust = d.trust; sound = d.sound }) in
    let line : c.deref.result.now ≡ reply_text c.args.numbered e said =
    c.deref.ensures ∙ c.in_ok-text.ensures ∙ ap (λ (h : Heading). number_text c.args.numbered c.args.line ++ said_text h said) (c.heading_of-heading.ensures ∙ ap heading_of c.act_of-act.ensures) in
    outcome_one s c.args.numbered words rest w after e said c.deref.result.now (g.W.Write.contents c.args.out.now) (g.W.Write.contents c.write_reply.new.out) c.write_reply.result c.requires one line
    (on_ok c.write_reply.result (kept_appends _ _ _ c.deref.result.now c.hand_on_before.ensures.kept) c.write_reply.ensures.written) c.write_reply.ensures.no_want (omega (arith, ap length d.boots, length-map w.tenants boot_of, length-map after.tenants boot_of))
