use Rattle.std.proofs.Common.{◌∙◌, Err, get_or, ap, sym, subst, arith}
use Rattle.world.proofs.All.{IsAccessed, IsNeeded, RunStop, StopsBy, WhyHalted, around_books, around_then, guests_move, guests_stay, guests_then, moment_of, same_logs}
use Rattle.world.specs.declared.running.End.TheVariants.{Need, Stop}
use Rattle.world.proofs.Damaged.{halted_later}
use Rattle.world.proofs.Choices.{steps_where, met_where, fault_where, one_more_supplied, then_made, then_none, last_made, last_none, stop_not_done, stops_unmade, stops_faulted}
use Rattle.world.proofs.Runs.{still_accessed, still_there, stays_there, fault_stays, need_not_full, moved_room, fault_ready, ready_stays, ready_supplied, not_made_on, on_err}
use Rattle.world.proofs.world.World.steps_supplied.Goals as goal

pub returns-in-Err-Stop-clause-not_made : goal.returns-in-Err-Stop-clause-not_made
returns-in-Err-Stop-clause-not_made g c = λ h.
    same_logs c.args.g c.loop.self.tenants c.some_steps.new.self.tenants c.loop.invariant.inside c.in-Err-Stop.ensures.nothing.0 h ∙ c.loop.invariant.logs h

pub returns-in-Err-clause-not_made : goal.returns-in-Err-clause-not_made
returns-in-Err-clause-not_made g c = λ h.
    fault_stays c.fault.ensures.moves h ∙ same_logs c.args.g c.loop.self.tenants c.some_steps.new.self.tenants c.loop.invariant.inside c.in-Err-Need.ensures.nothing.0 h ∙ c.loop.invariant.logs h

pub fault-requires : goal.fault-requires
fault-requires g c = stays_there c.some_steps.ensures.stays c.loop.invariant.inside

pub loop-preserved : goal.loop-preserved
loop-preserved g c =
    let at = c.loop in
    let so = at.invariant in
    let half = c.some_steps.new.self in
    let new = c.fault.new.self in
    let stepped = c.some_steps.ensures in
    let e = c.fault.ensures in
    let guests = guests_then (guests_stay stepped.stays so.inside) (guests_move e.moves) in
    let around = around_then so.around (around_books stepped.around) in
    record {
      inside = still_there c.args.g at.self.tenants new.tenants so.inside guests.boots;
      logs = λ h. fault_stays e.moves h ∙ same_logs c.args.g at.self.tenants half.tenants so.inside c.in-Err-Need.ensures.nothing.0 h ∙ so.logs h;
      supplied = one_more_supplied so.supplied (record {
        between = moment_of (g.R.Rng.stream at.rng) half;
        none = steps_where so.around (c.in-Err-Need.ensures.none (g.R.Rng.stream at.rng));
        met = met_where around c.args.tax.percent c.args.g (moment_of (g.R.Rng.stream at.rng) half) (moment_of (g.R.Rng.stream c.fault.new.rng) new) c.in_default.ensures.met;
      });
      guests = guests_then so.guests guests;
      failed = c.in_default.ensures.no_failure ∙ ap g.S.SwapStore.failed stepped.around.store ∙ so.failed;
      around = around_then around e.around;
      ready = λ trust some t.
          let before = so.around.store.true_to_digests.1 trust in
          let need = stepped.need before c.in-Err-Need.field-0-0 c.in-Err-Need.field-0-1 (c.in-Err-Need.is ∙ ap Err c.in-Err-Need.field-0-is) t in
          fault_ready half.tenants new.tenants c.args.g c.in-Err-Need.field-0-0 c.in-Err-Need.field-0-1 t (stays_there stepped.stays so.inside) e.moves need
          (c.in_default.ensures.supplied (around.store.true_to_digests.1 trust) t c.in-Err-Need.field-0-0 c.in-Err-Need.field-0-1 need);
    }

pub returns-in-Err-clause-stop : goal.returns-in-Err-clause-stop
returns-in-Err-clause-stop g c =
    let s = g.S.SwapStore in
    let w = c.args.self.now in
    let half = c.some_steps.new.self in
    let new = c.fault.new.self in
    let so = c.loop.invariant in
    let stepped = c.some_steps.ensures in
    subst (λ (why : RunStop). WhyHalted s c.args.g (IsAccessed s new c.args.g) w new why) (sym c.stop_of.ensures)
    (halted_later {facts = s} c.args.g (IsNeeded s half c.args.g) (IsAccessed s new c.args.g) w half new
    (around_then so.around (around_books stepped.around)) (ap s.failed stepped.around.store ∙ so.failed)
    (λ q needed trust t.
    let need = needed (c.fault.ensures.around.store.true_to_digests.0 trust) t in
    still_accessed half.tenants new.tenants c.args.g q need.0 t (stays_there stepped.stays so.inside) c.fault.ensures.moves need.1)
    c.in-Err.error c.in-Err.ensures.err)

pub returns-in-Err-clause-room : goal.returns-in-Err-clause-room
returns-in-Err-clause-room g c = λ apart t full.
    c.in-Err-Need.ensures.room (need_not_full c.in-Err-Need.field-0 c.in-Err-Need.field-0-0 c.in-Err-Need.field-0-1 c.in-Err-Need.field-0-is) t
    (moved_room c.some_steps.new.self.tenants c.fault.new.self.tenants c.args.g t
    (stays_there c.some_steps.ensures.stays c.loop.invariant.inside) c.fault.ensures.moves full)

pub returns-clause-not_made : goal.returns-clause-not_made
returns-clause-not_made g c =
    not_made_on c.some_steps-2.result c.args.g c.args.self.now.tenants c.loop.self.tenants c.some_steps-2.new.self.tenants _ c.loop.invariant.inside c.loop.invariant.logs c.some_steps-2.ensures.nothing

pub returns-clause-supplied : goal.returns-clause-supplied
returns-clause-supplied g c = λ trust p why is t.
    let ts = c.loop.self.tenants in
    let ts' = c.some_steps-2.new.self.tenants in
    let need = c.some_steps-2.ensures.need (c.loop.invariant.around.store.true_to_digests.1 trust) p why is t in
    let nothing = on_err c.some_steps-2.result (Need p why) _ is c.some_steps-2.ensures.nothing in
    ready_supplied (get_or ts' c.args.g t) p why need
    (ready_stays c.args.g ts ts' t nothing.0 c.some_steps-2.ensures.stays (c.loop.invariant.ready trust (omega (arith, c.loop-test.false)) t))

pub returns-in-Ok-clause-guests : goal.returns-in-Ok-clause-guests
returns-in-Ok-clause-guests g c = guests_then c.loop.invariant.guests (guests_stay c.some_steps.ensures.stays c.loop.invariant.inside)

pub returns-in-Err-Stop-clause-guests : goal.returns-in-Err-Stop-clause-guests
returns-in-Err-Stop-clause-guests g c = guests_then c.loop.invariant.guests (guests_stay c.some_steps.ensures.stays c.loop.invariant.inside)

pub returns-in-Err-clause-guests : goal.returns-in-Err-clause-guests
returns-in-Err-clause-guests g c = guests_then c.loop.invariant.guests (guests_then (guests_stay c.some_steps.ensures.stays c.loop.invariant.inside) (guests_move c.fault.ensures.moves))

pub returns-clause-guests : goal.returns-clause-guests
returns-clause-guests g c = guests_then c.loop.invariant.guests (guests_stay c.some_steps-2.ensures.stays c.loop.invariant.inside)

pub returns-in-Ok-clause-around : goal.returns-in-Ok-clause-around
returns-in-Ok-clause-around g c = around_then c.loop.invariant.around (around_books c.some_steps.ensures.around)

pub returns-in-Err-Stop-clause-around : goal.returns-in-Err-Stop-clause-around
returns-in-Err-Stop-clause-around g c = around_then c.loop.invariant.around (around_books c.some_steps.ensures.around)

pub returns-in-Err-clause-around : goal.returns-in-Err-clause-around
returns-in-Err-clause-around g c = around_then (around_then c.loop.invariant.around (around_books c.some_steps.ensures.around)) c.fault.ensures.around

pub returns-clause-around : goal.returns-clause-around
returns-clause-around g c = around_then c.loop.invariant.around (around_books c.some_steps-2.ensures.around)

pub returns-in-Ok-clause-made : goal.returns-in-Ok-clause-made
returns-in-Ok-clause-made g c = then_made c.loop.invariant.supplied (omega arith) c.in-Ok.ensures.some (steps_where c.loop.invariant.around (c.in-Ok.ensures.made (g.R.Rng.stream c.loop.rng)))

pub returns-in-Err-Stop-clause-none : goal.returns-in-Err-Stop-clause-none
returns-in-Err-Stop-clause-none g c =
    then_none c.loop.invariant.supplied (omega arith)
    (stops_unmade _ _ _ c.args.tax.percent c.args.g _ _ _ (stop_not_done _) (steps_where c.loop.invariant.around (c.in-Err-Stop.ensures.none (g.R.Rng.stream c.loop.rng))))

pub returns-in-Err-clause-none : goal.returns-in-Err-clause-none
returns-in-Err-clause-none g c =
    let s = g.S.SwapStore in
    let w = c.args.self.now in
    let at = c.loop.invariant in
    let mid = moment_of (g.R.Rng.stream c.loop.rng) c.loop.self in
    let between = moment_of (g.R.Rng.stream c.loop.rng) c.some_steps.new.self in
    let m' = moment_of (g.R.Rng.stream c.fault.new.rng) c.fault.new.self in
    then_none at.supplied (omega arith)
    (subst (λ (why : RunStop). StopsBy w.frames (s.slots w.store) (s.true_to_digests w.store) c.args.tax.percent c.args.g (Stop why) mid m') (sym c.stop_of.ensures)
    (stops_faulted w.frames (s.slots w.store) (s.true_to_digests w.store) c.args.tax.percent c.args.g c.in-Err.error mid m' (record {
      between = between;
      none = steps_where at.around (c.in-Err-Need.ensures.none (g.R.Rng.stream c.loop.rng));
      fault = fault_where (around_then at.around (around_books c.some_steps.ensures.around)) c.args.tax.percent c.args.g between m' c.fault.ensures.chosen;
    })))

pub returns-clause-made : goal.returns-clause-made
returns-clause-made g c =
    last_made c.some_steps-2.result _ (moment_of (g.R.Rng.stream c.loop.rng) c.some_steps-2.new.self) c.loop.invariant.supplied (omega arith)
    (λ count steps. steps_where c.loop.invariant.around (steps (g.R.Rng.stream c.loop.rng))) c.some_steps-2.ensures.some c.some_steps-2.ensures.made

pub returns-clause-none : goal.returns-clause-none
returns-clause-none g c =
    last_none c.some_steps-2.result _ (moment_of (g.R.Rng.stream c.loop.rng) c.some_steps-2.new.self) c.loop.invariant.supplied (omega arith)
    (λ none. steps_where c.loop.invariant.around (none (g.R.Rng.stream c.loop.rng))) c.some_steps-2.ensures.early c.some_steps-2.ensures.none
