use Rattle.std.proofs.Common.{◌∙◌, Option, Some, ap, subst}
use Rattle.guest.specs.declared.progress.Pause.{Pause}
use Rattle.guest.specs.Guests.{view_of, standing, last_given, HasPaused}
use Rattle.tenant.specs.Tenants.{pages_in}
use Rattle.tenant.proofs.Giving.{outline_conserves, outline_reads, returned_out, given_moves, given_reads, paused_outline}
use Rattle.tenant.proofs.stepping.run_in.Goals as goal

pub returns-in-None-clause-conserves : goal.returns-in-None-clause-conserves
returns-in-None-clause-conserves c =
    let old = pages_in c.args.tenant.now in
    let new = pages_in c.run.new.self in
    let given = last_given 0 c.in_ok-steps.field-0.steps (standing c.args.tenant.now.guest) in
    let paused = subst (λ (o : Option Pause). HasPaused given old o new) c.in-None.is c.in_ok-steps.ensures.paused in
    outline_conserves old new paused.1 c.args.pool.now c.args.slots.now c.args.shares.now.entries

pub returns-in-None-clause-reads : goal.returns-in-None-clause-reads
returns-in-None-clause-reads c =
    let old = pages_in c.args.tenant.now in
    let new = pages_in c.run.new.self in
    let given = last_given 0 c.in_ok-steps.field-0.steps (standing c.args.tenant.now.guest) in
    let paused = subst (λ (o : Option Pause). HasPaused given old o new) c.in-None.is c.in_ok-steps.ensures.paused in
    outline_reads old new paused.1 c.args.shares.now.entries

pub give_back-requires : goal.give_back-requires
give_back-requires c =
    let old = pages_in c.args.tenant.now in
    let new = pages_in c.run.new.self in
    let given = last_given 0 c.in_ok-steps.field-0.steps (standing c.args.tenant.now.guest) in
    let gave = subst (λ (o : Option Pause). HasPaused given old o new) (c.in-Some.is ∙ ap Some c.in-Gave.is) c.in_ok-steps.ensures.paused in
    returned_out given old new c.args.pool.now c.args.slots.now c.args.shares.now.entries c.requires.lent.0 c.requires.lent.1 c.in-Gave.came_back gave.1

pub returns-in-Gave-clause-conserves : goal.returns-in-Gave-clause-conserves
returns-in-Gave-clause-conserves c =
    let old = pages_in c.args.tenant.now in
    let new = pages_in c.run.new.self in
    let given = last_given 0 c.in_ok-steps.field-0.steps (standing c.args.tenant.now.guest) in
    let gave = subst (λ (o : Option Pause). HasPaused given old o new) (c.in-Some.is ∙ ap Some c.in-Gave.is) c.in_ok-steps.ensures.paused in
    given_moves given old new c.args.pool.now c.args.slots.now c.args.shares.now.entries c.requires.lent.0 c.requires.lent.1 c.in-Gave.came_back
    c.give_back.new.pool c.give_back.new.slots c.give_back.new.shares.entries gave.1 c.give_back.ensures.goes_back

pub returns-in-Gave-clause-reads : goal.returns-in-Gave-clause-reads
returns-in-Gave-clause-reads c =
    let old = pages_in c.args.tenant.now in
    let new = pages_in c.run.new.self in
    let given = last_given 0 c.in_ok-steps.field-0.steps (standing c.args.tenant.now.guest) in
    let gave = subst (λ (o : Option Pause). HasPaused given old o new) (c.in-Some.is ∙ ap Some c.in-Gave.is) c.in_ok-steps.ensures.paused in
    given_reads given old new c.args.pool.now c.args.slots.now c.args.shares.now.entries c.requires.lent.0 c.requires.lent.1 c.in-Gave.came_back
    c.give_back.new.pool c.give_back.new.slots c.give_back.new.shares.entries gave.1 c.give_back.ensures.goes_back

pub returns-in-Need-clause-conserves : goal.returns-in-Need-clause-conserves
returns-in-Need-clause-conserves c =
    let old = pages_in c.args.tenant.now in
    let new = pages_in c.run.new.self in
    let given = last_given 0 c.in_ok-steps.field-0.steps (standing c.args.tenant.now.guest) in
    let paused = subst (λ (o : Option Pause). HasPaused given old o new) (c.in-Some.is ∙ ap Some c.in-Need.is) c.in_ok-steps.ensures.paused in
    outline_conserves old new paused.1 c.args.pool.now c.args.slots.now c.args.shares.now.entries

pub returns-in-Need-clause-reads : goal.returns-in-Need-clause-reads
returns-in-Need-clause-reads c =
    let old = pages_in c.args.tenant.now in
    let new = pages_in c.run.new.self in
    let given = last_given 0 c.in_ok-steps.field-0.steps (standing c.args.tenant.now.guest) in
    let paused = subst (λ (o : Option Pause). HasPaused given old o new) (c.in-Some.is ∙ ap Some c.in-Need.is) c.in_ok-steps.ensures.paused in
    outline_reads old new paused.1 c.args.shares.now.entries

pub returns-in-Need-clause-need : goal.returns-in-Need-clause-need
returns-in-Need-clause-need c = λ held k page why is.
    c.in_ok-steps.ensures.need held k c.in-Need.page c.in-Need.why (c.in-Some.is ∙ ap Some c.in-Need.is) ∙ is

pub returns-in-None-clause-given : goal.returns-in-None-clause-given
returns-in-None-clause-given c = λ held k.
    let old = c.args.tenant.now in
    paused_outline (last_given 0 c.in_ok-steps.field-0.steps (standing old.guest)) (last_given 0 c.in_ok-steps.field-0.steps (view_of old.guest)) (pages_in old) (pages_in c.run.new.self)
    c.in_ok-steps.field-0.pause (c.in_ok-steps.ensures.given held k) c.in_ok-steps.ensures.paused

pub returns-in-Gave-clause-given : goal.returns-in-Gave-clause-given
returns-in-Gave-clause-given c = λ held k.
    let old = c.args.tenant.now in
    paused_outline (last_given 0 c.in_ok-steps.field-0.steps (standing old.guest)) (last_given 0 c.in_ok-steps.field-0.steps (view_of old.guest)) (pages_in old) (pages_in c.run.new.self)
    c.in_ok-steps.field-0.pause (c.in_ok-steps.ensures.given held k) c.in_ok-steps.ensures.paused

pub returns-in-Need-clause-given : goal.returns-in-Need-clause-given
returns-in-Need-clause-given c = λ held k.
    let old = c.args.tenant.now in
    paused_outline (last_given 0 c.in_ok-steps.field-0.steps (standing old.guest)) (last_given 0 c.in_ok-steps.field-0.steps (view_of old.guest)) (pages_in old) (pages_in c.run.new.self)
    c.in_ok-steps.field-0.pause (c.in_ok-steps.ensures.given held k) c.in_ok-steps.ensures.paused
