use Rattle.std.proofs.Common.{subst, ◌∙◌}
use Rattle.machine.specs.Items.{after}
use Rattle.page_moves.specs.Faith.{Kept}
use Rattle.guest_bus.specs.Buses.{GuestBusIs}
use Rattle.guest.specs.Views.{pages_seen, Shows}
use Rattle.guest.proofs.Happening.{accepts_same, input_happened, input_cpu}
use Rattle.guest.proofs.Showing.{settled_already, shows_after, kept_after}
use Rattle.guest.proofs.step.input_pages.Goals as goal

pub returns-in-Ok-clause-accepted : goal.returns-in-Ok-clause-accepted
returns-in-Ok-clause-accepted c = λ m s.
    accepts_same m c.args.cpu.now c.args.bus.now c.whole.ensures c.requires.settled s c.args.what.now ∙ c.in-Ok.ensures.accepted

pub returns-in-Ok-clause-shows : goal.returns-in-Ok-clause-shows
returns-in-Ok-clause-shows c = λ m s.
    let cpu = c.args.cpu.now in
    let b = c.args.bus.now in
    let what = c.args.what.now in
    let told = c.in-Ok.ensures in
    let h = input_happened m cpu b c.whole.ensures c.requires.settled s what c.requires.no_step told.there c.input.new.cpu c.input.new.self told.after c.whole-in-Ok.ensures told.settled told.outline in
    let processor = input_cpu m cpu b c.whole.ensures c.requires.settled s what c.requires.no_step told.there c.input.new.cpu c.input.new.self told.after c.whole-in-Ok.ensures told.settled told.outline in
    subst (λ (bus : GuestBusIs). Shows (after what m) c.input.new.cpu bus) (settled_already c.input.new.self told.settled)
    (shows_after b c.input.new.self m (after what m) h cpu c.input.new.cpu processor s)

pub returns-in-Ok-clause-kept : goal.returns-in-Ok-clause-kept
returns-in-Ok-clause-kept c = λ m s held k.
    let cpu = c.args.cpu.now in
    let b = c.args.bus.now in
    let what = c.args.what.now in
    let told = c.in-Ok.ensures in
    let h = input_happened m cpu b c.whole.ensures c.requires.settled s what c.requires.no_step told.there c.input.new.cpu c.input.new.self told.after c.whole-in-Ok.ensures told.settled told.outline in
    subst (λ (bus : GuestBusIs). Kept held (pages_seen (after what m)) bus.pages) (settled_already c.input.new.self told.settled)
    (kept_after b c.input.new.self m (after what m) h held k)

pub returns-in-Err-clause-refused : goal.returns-in-Err-clause-refused
returns-in-Err-clause-refused c = λ refused m s.
    accepts_same m c.args.cpu.now c.args.bus.now c.whole.ensures c.requires.settled s c.args.what.now ∙ c.in-Err.ensures.refused.0 refused
