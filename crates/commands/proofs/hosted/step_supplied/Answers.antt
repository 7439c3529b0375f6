use Rattle.std.proofs.Common.{List, ◌∙◌, ap, length, arith}
use Rattle.std.proofs.lemmas.Result.{err_from_is_err_and}
use Rattle.machine.proofs.OtherPages.{step_stays}
use Rattle.machine.specs.Step.{Machine, step}
use Rattle.swapstore.specs.Memories.{MemoryIs, sound_are_told}
use Rattle.guest_pages.specs.Holdings.{private_pages}
use Rattle.guest_pages.specs.declared.page.Page.{Page}
use Rattle.tenant.specs.Tenants.{Stays}
use Rattle.commands.specs.Hosted.{HostedIs, first_pages, hosted_of}
use Rattle.commands.proofs.Hosting.{alone_after, done_then, few_kinds, its_need, lacking, lacking_still, need_then, not_full, one_left, pages_unmoved, refused_full, same_error, step_added, unmoved}
use Rattle.commands.proofs.hosted.step_supplied.Goals as goal

pub loop-world-preserved : goal.loop-world-preserved
loop-world-preserved c =
    let ts = c.supply.new.world.tenants in
    let ts' = c.step.new.self.tenants in
    let alone = c.supply.ensures.alone in
    let nothing = (need_then _ _ _ c.in-Need.is c.in_ok-step.ensures.needs).0 in
    let same = unmoved ts ts' alone.one nothing c.step.ensures.stays in
    record {
      alone = alone_after c.supply.new.world c.step.new.self alone (one_left Stays ts ts' alone.one c.step.ensures.stays)
          (ap (λ (m : Machine). length m.board.memory) same) c.step.ensures.around.frames (ap (λ (s : MemoryIs). length s.pages) c.step.ensures.around.store)
          (ap (λ (s : MemoryIs). s.damaged) c.step.ensures.around.store ∙ alone.sound);
      lacking = lacking_still ts ts' c.in-Need.next alone.one nothing
          (lacking _ _ _ _ _ _ _ ts c.in-Need.next _ alone.one (sound_are_told c.supply.new.world.store alone.sound) c.is_sound.ensures
          (λ t. its_need _ _ _ _ c.in-Need.is (c.in_ok-step.ensures.need (sound_are_told c.supply.new.world.store alone.sound) t)));
      room = not_full ts ts' c.step.result _ _ alone.one c.in_ok-step.was nothing c.step.ensures.stays c.step.ensures.full;
      same = same ∙ ap (λ (h : HostedIs). h.machine) c.supply.ensures.same ∙ c.loop-world.invariant.same;
    }

pub loop-world-smaller : goal.loop-world-smaller
loop-world-smaller c =
    let ts = c.supply.new.world.tenants in
    let ts' = c.step.new.self.tenants in
    let nothing = (need_then _ _ _ c.in-Need.is c.in_ok-step.ensures.needs).0 in
    let pages = pages_unmoved ts ts' c.supply.ensures.alone.one nothing in
    omega (
      arith,
      ap (λ (ps : List Page). length ps) pages,
      ap private_pages pages,
      c.supply.ensures.count,
      c.in-Ok.ensures.one_more,
      few_kinds (first_pages ts),
    )

pub returns-in-Done-clause-alone : goal.returns-in-Done-clause-alone
returns-in-Done-clause-alone c =
    let ts = c.supply.new.world.tenants in
    let ts' = c.step.new.self.tenants in
    let alone = c.supply.ensures.alone in
    let made = step_added ts ts' alone.one (done_then _ c.in-Done.is c.in_ok-step.ensures.adds) c.step.ensures.stays in
    alone_after c.supply.new.world c.step.new.self alone (one_left Stays ts ts' alone.one c.step.ensures.stays)
    (ap (λ (m : Machine). length m.board.memory) made ∙ (step_stays (hosted_of ts).machine 0).size) c.step.ensures.around.frames (ap (λ (s : MemoryIs). length s.pages) c.step.ensures.around.store)
    (ap (λ (s : MemoryIs). s.damaged) c.step.ensures.around.store ∙ alone.sound)

pub returns-in-Done-clause-made : goal.returns-in-Done-clause-made
returns-in-Done-clause-made c =
    let ts = c.supply.new.world.tenants in
    let ts' = c.step.new.self.tenants in
    step_added ts ts' c.supply.ensures.alone.one (done_then _ c.in-Done.is c.in_ok-step.ensures.adds) c.step.ensures.stays
    ∙ ap step (ap (λ (h : HostedIs). h.machine) c.supply.ensures.same ∙ c.loop-world.invariant.same)

pub returns-in_err-step-clause-alone : goal.returns-in_err-step-clause-alone
returns-in_err-step-clause-alone c =
    let ts = c.supply.new.world.tenants in
    let ts' = c.step.new.self.tenants in
    let alone = c.supply.ensures.alone in
    let same = unmoved ts ts' alone.one c.in_err-step.ensures.unchanged.0 c.step.ensures.stays in
    alone_after c.supply.new.world c.step.new.self alone (one_left Stays ts ts' alone.one c.step.ensures.stays)
    (ap (λ (m : Machine). length m.board.memory) same) c.step.ensures.around.frames (ap (λ (s : MemoryIs). length s.pages) c.step.ensures.around.store)
    (ap (λ (s : MemoryIs). s.damaged) c.step.ensures.around.store ∙ alone.sound)

pub returns-in_err-step-clause-stopped : goal.returns-in_err-step-clause-stopped
returns-in_err-step-clause-stopped c =
    let same = unmoved c.supply.new.world.tenants c.step.new.self.tenants c.supply.ensures.alone.one c.in_err-step.ensures.unchanged.0 c.step.ensures.stays in
    let p = err_from_is_err_and c.from_residual.result c.from_residual.ensures.1 in
    rw p.1 (same ∙ ap (λ (h : HostedIs). h.machine) c.supply.ensures.same ∙ c.loop-world.invariant.same)

pub returns-in_err-step-clause-full : goal.returns-in_err-step-clause-full
returns-in_err-step-clause-full c =
    let p = err_from_is_err_and c.from_residual.result c.from_residual.ensures.1 in
    rw (p.1, p.2) (refused_full (λ stop. stop) c.supply.new.world.tenants c.step.new.self.tenants c.step.result c.in_err-step.field-0.0 same_error c.supply.ensures.alone.one
    c.in_err-step.was c.in_err-step.ensures.unchanged.0 c.step.ensures.stays c.step.ensures.full)
