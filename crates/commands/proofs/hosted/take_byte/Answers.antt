use Rattle.std.proofs.Common.{Err, refl, length, ap, ◌∙◌}
use Rattle.machine.specs.Step.{Machine}
use Rattle.swapstore.specs.Memories.{MemoryIs, sound_are_told}
use Rattle.guest.specs.declared.refused.Refused.TheVariants as refused
use Rattle.tenant.specs.Tenants.{Stays}
use Rattle.commands.specs.Hosted.{hosted_of}
use Rattle.commands.proofs.Hosting.{accepted, added, alone_after, first_tenant, full_error, had_room, may_stop_one, one_left, refused_full, refused_full_before, same_stop, unmoved}
use Rattle.commands.proofs.hosted.take_byte.Goals as goal

pub unreachable-requires : goal.unreachable-requires
unreachable-requires c =
    let alone = c.requires.alone in
    accepted c.args.world.now.tenants c.args.byte alone.one c.requires.room
    (c.input.ensures.refused (c.in-Err-Machine.is ∙ ap Err c.in-Err-Machine.field-0-is) (sound_are_told c.args.world.now.store alone.sound))

pub unreachable-requires-in-Err-Away : goal.unreachable-requires-in-Err-Away
unreachable-requires-in-Err-Away c =
    c.input.ensures.its_page c.in-Err-Away.field-0-0 (c.in-Err-Away.is ∙ ap Err c.in-Err-Away.field-0-is)
    (first_tenant c.args.world.now.tenants c.requires.alone.one)

pub returns-in-Ok-clause-alone : goal.returns-in-Ok-clause-alone
returns-in-Ok-clause-alone c =
    let ts = c.args.world.now.tenants in
    let ts' = c.input.new.self.tenants in
    let alone = c.requires.alone in
    alone_after c.args.world.now c.input.new.self alone (one_left Stays ts ts' alone.one c.input.ensures.stays)
    (ap (λ (m : Machine). length m.board.memory) (added ts ts' _ alone.one c.in-Ok.ensures.adds c.input.ensures.stays))
    c.input.ensures.around.frames (ap (λ (s : MemoryIs). length s.pages) c.input.ensures.around.store)
    (ap (λ (s : MemoryIs). s.damaged) c.input.ensures.around.store ∙ alone.sound)

pub returns-in-Ok-clause-fed : goal.returns-in-Ok-clause-fed
returns-in-Ok-clause-fed c = added c.args.world.now.tenants c.input.new.self.tenants _ c.requires.alone.one c.in-Ok.ensures.adds c.input.ensures.stays

pub returns-in-Ok-clause-full : goal.returns-in-Ok-clause-full
returns-in-Ok-clause-full c = (
  λ e. absurd (cc),
  λ full. absurd (had_room c.args.world.now.tenants c.input.result _ _ c.requires.alone.one c.in-Ok.is c.input.ensures.full full),
)

pub returns-in-Err-Stop-clause-alone : goal.returns-in-Err-Stop-clause-alone
returns-in-Err-Stop-clause-alone c =
    let ts = c.args.world.now.tenants in
    let ts' = c.input.new.self.tenants in
    let alone = c.requires.alone in
    alone_after c.args.world.now c.input.new.self alone (one_left Stays ts ts' alone.one c.input.ensures.stays)
    (ap (λ (m : Machine). length m.board.memory) (unmoved ts ts' alone.one c.in-Err-Stop.ensures.unchanged c.input.ensures.stays))
    c.input.ensures.around.frames (ap (λ (s : MemoryIs). length s.pages) c.input.ensures.around.store)
    (ap (λ (s : MemoryIs). s.damaged) c.input.ensures.around.store ∙ alone.sound)

pub returns-in-Err-Stop-clause-stopped : goal.returns-in-Err-Stop-clause-stopped
returns-in-Err-Stop-clause-stopped c =
    unmoved c.args.world.now.tenants c.input.new.self.tenants c.requires.alone.one c.in-Err-Stop.ensures.unchanged c.input.ensures.stays

pub returns-in-Err-Stop-clause-reason : goal.returns-in-Err-Stop-clause-reason
returns-in-Err-Stop-clause-reason c =
    may_stop_one (hosted_of c.input.new.self.tenants).log c.in-Err-Stop.stop
    (refused_full refused.Stop c.args.world.now.tenants c.input.new.self.tenants c.input.result c.in-Err-Stop.stop same_stop c.requires.alone.one
    (c.in-Err-Stop.is ∙ ap Err c.in-Err-Stop.field-0-is) c.in-Err-Stop.ensures.unchanged c.input.ensures.stays c.input.ensures.full)

pub returns-in-Err-Stop-clause-full : goal.returns-in-Err-Stop-clause-full
returns-in-Err-Stop-clause-full c =
    full_error (Err c.in-Err-Stop.stop) (hosted_of c.args.world.now.tenants).log c.in-Err-Stop.stop refl
    (refused_full_before refused.Stop c.args.world.now.tenants c.input.result c.in-Err-Stop.stop same_stop c.requires.alone.one
    (c.in-Err-Stop.is ∙ ap Err c.in-Err-Stop.field-0-is) c.input.ensures.full)
