use Rattle.std.proofs.Common.{◌≡◌, subst}
use Rattle.machine.specs.Accesses.{accesses, first_lack}
use Rattle.machine.specs.Given.{step_given}
use Rattle.guest_bus.specs.Lacking.{lacks_in}
use Rattle.guest.specs.declared.stepped.Stepped.{Stepped}
use Rattle.guest.specs.Guests.{need_of, standing, view_of, HandsBack}
use Rattle.tenant.specs.Tenants.{pages_in}
use Rattle.tenant.proofs.Giving.{returned_out, given_moves, given_reads}
use Rattle.tenant.proofs.stepping.step_in.Goals as goal

pub give_back-requires : goal.give_back-requires
give_back-requires c =
    let old = c.args.tenant.now in
    let given = step_given (standing old.guest) in
    returned_out given (pages_in old) (pages_in c.step.new.self) c.args.pool.now c.args.slots.now c.args.shares.now.entries c.requires.0 c.requires.1 c.in-Done.returned
    (subst (λ (s : Stepped). HandsBack given (pages_in old) s (pages_in c.step.new.self)) c.in-Done.is c.in_ok-returned.ensures.hands_back)

pub returns-in-Done-clause-conserves : goal.returns-in-Done-clause-conserves
returns-in-Done-clause-conserves c =
    let old = c.args.tenant.now in
    let given = step_given (standing old.guest) in
    given_moves given (pages_in old) (pages_in c.step.new.self) c.args.pool.now c.args.slots.now c.args.shares.now.entries c.requires.0 c.requires.1 c.in-Done.returned
    c.give_back.new.pool c.give_back.new.slots c.give_back.new.shares.entries
    (subst (λ (s : Stepped). HandsBack given (pages_in old) s (pages_in c.step.new.self)) c.in-Done.is c.in_ok-returned.ensures.hands_back) c.give_back.ensures.goes_back

pub returns-in-Done-clause-reads : goal.returns-in-Done-clause-reads
returns-in-Done-clause-reads c =
    let old = c.args.tenant.now in
    let given = step_given (standing old.guest) in
    given_reads given (pages_in old) (pages_in c.step.new.self) c.args.pool.now c.args.slots.now c.args.shares.now.entries c.requires.0 c.requires.1 c.in-Done.returned
    c.give_back.new.pool c.give_back.new.slots c.give_back.new.shares.entries
    (subst (λ (s : Stepped). HandsBack given (pages_in old) s (pages_in c.step.new.self)) c.in-Done.is c.in_ok-returned.ensures.hands_back) c.give_back.ensures.goes_back

pub returns-in-Done-clause-need : goal.returns-in-Done-clause-need
returns-in-Done-clause-need c = λ held k.
    let old = c.args.tenant.now in
    subst (λ (s : Stepped). need_of s ≡ first_lack (lacks_in (pages_in old)) (accesses (view_of old.guest))) c.in-Done.is (c.in_ok-returned.ensures.need held k)

pub returns-in-Need-clause-need : goal.returns-in-Need-clause-need
returns-in-Need-clause-need c = λ held k.
    let old = c.args.tenant.now in
    subst (λ (s : Stepped). need_of s ≡ first_lack (lacks_in (pages_in old)) (accesses (view_of old.guest))) c.in-Need.is (c.in_ok-returned.ensures.need held k)
