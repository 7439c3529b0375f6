use Rattle.std.proofs.Common.{ℕ, ◌≡◌, None, IfOk, refl, string_bytes, sym, subst}
use Rattle.simulation.specs.declared.acts.Act.{Act}
use Rattle.simulation.specs.declared.said.Said.TheVariants as said
use Rattle.simulation.specs.Transcripts.{IsTold}
use Rattle.dump.specs.Dumps.{dump_text}
use Rattle.dump.specs.Steps.{step_count}
use Rattle.world.specs.All.{TenantIs, guest_at, items_of, view_at}
use Rattle.simulation.proofs.Playing.{beside_store, damaged, told_dump}
use Rattle.simulation.proofs.doing.perform.Goals as goal

pub returns-in-World-clause-told : goal.returns-in-World-clause-told
returns-in-World-clause-told g c =
    subst (λ (a : Act). IsTold g.S.SwapStore (g.R.Rng.stream c.args.rng.now) c.args.world.now a (said.Answered c.apply.result) (g.R.Rng.stream c.apply.new.rng) c.apply.new.self) (sym c.in-World.is) c.apply.ensures

pub returns-in-Damage-clause-told : goal.returns-in-Damage-clause-told
returns-in-Damage-clause-told g c =
    let s = g.S.SwapStore in
    let d = c.damage-done.ensures in
    let words = g.R.Rng.stream c.args.rng.now in
    subst (λ (a : Act). IsTold s words c.args.world.now a (said.Damaged c.damage-done.result) words c.damage-done.new.self) (sym c.in-Damage.is) (
      damaged c.damage-done.result _ _ _
          (λ inverted dishonest told. record {
            inverted = inverted;
            others = d.others;
            written_stay = d.held;
            failures_stay = d.failed;
            dishonest = dishonest;
            told = told;
            beside = beside_store c.args.world.now c.damage-done.new.self d.tenants d.pool d.slots d.shares d.frames d.level;
          })
          d.inverted d.dishonest d.told,
      d.unchanged,
      refl,
    )

pub returns-in-Dump-clause-told : goal.returns-in-Dump-clause-told
returns-in-Dump-clause-told g c =
    let s = g.S.SwapStore in
    let w = c.args.world.now in
    let words = g.R.Rng.stream c.args.rng.now in
    subst (λ (a : Act). IsTold s words w a (said.Dumped c.dump_of.result) words w) (sym c.in-Dump.is) (
      told_dump c.dump_of.result (s.true_to_digests w.store)
          (λ t text. string_bytes text ≡ dump_text (view_at w c.in-Dump.guest t) (step_count (items_of (guest_at w c.in-Dump.guest t))) None)
          (subst (λ (k : ℕ). s.true_to_digests w.store → (t : TenantIs) → IfOk c.dump_of.result (λ text. string_bytes text ≡
          dump_text (view_at w k t) (step_count (items_of (guest_at w k t))) None)) c.index-in-Dump.ensures c.dump_of.ensures),
      refl,
      refl,
    )
