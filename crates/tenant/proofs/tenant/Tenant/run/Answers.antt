use Rattle.std.proofs.Common.{◌≡◌, ◌++◌, ℕ, ◌+◌, ◌<◌, ◌∙◌, List, None, inl, inr, sym, ap, subst, arith, append-nil}
use Rattle.std.proofs.lemmas.Bool.{cases_lt}
use Rattle.items.specs.declared.item.Item.{Item}
use Rattle.items.specs.Entries.{steps_of}
use Rattle.machine.specs.Processor.{Processor}
use Rattle.machine.specs.Step.{Machine, machine_with}
use Rattle.machine.specs.Accesses.{accesses, first_lack}
use Rattle.machine.specs.Given.{step_given}
use Rattle.machine.specs.Items.{run}
use Rattle.guest_bus.specs.Buses.{GuestBusIs, board_of}
use Rattle.guest_bus.specs.Lacking.{lacks_in}
use Rattle.items.proofs.Runs.{steps_of-none}
use Rattle.guest.specs.Guests.{GuestIs, view_of, standing, last_given, HasPaused}
use Rattle.tenant.specs.Tenants.{TenantIs, pages_in, IsKept}
use Rattle.tenant.proofs.Keeping.{still_kept, seat_was_so}
use Rattle.tenant.proofs.tenant.Tenant.run.Goals as goal

pub returns-clause-adds : goal.returns-clause-adds
returns-clause-adds c =
    let items = ap (λ (t : TenantIs). t.guest.log.items) c.self.view_is in
    let seat : c.self.inside.seats.runner.number ≡ 0 = c.self.invariant.0.runner.its_number in
    elim (cases_lt 0 c.run.result.steps) [
      | inl some ↦
          (c.run.ensures.logs some).adds.items
          ∙ ap (λ (xs : List Item). xs ++ steps_of c.self.inside.seats.runner.number c.run.result.steps) (c.log_room.ensures.taken.items ∙ items)
          ∙ ap (λ (n : ℕ). c.args.self.now.guest.log.items ++ steps_of n c.run.result.steps) seat
      | inr none ↦
          let zero : c.run.result.steps ≡ 0 = omega (arith, none) in
          ap (λ (g : GuestIs). g.log.items) (c.run.ensures.unchanged zero).0 ∙ c.log_room.ensures.taken.items ∙ items
          ∙ sym (ap (λ (n : ℕ). c.args.self.now.guest.log.items ++ steps_of 0 n) zero ∙ ap (λ (xs : List Item). c.args.self.now.guest.log.items ++ xs) (steps_of-none 0) ∙ append-nil c.args.self.now.guest.log.items)
    ]

pub returns-clause-kept : goal.returns-clause-kept
returns-clause-kept c = λ held k.
    let old : TenantIs = record { guest = c.self.inside.guest; shares = c.self.inside.state.shares; minimum = c.self.inside.state.minimum; sample = c.self.inside.state.sample; blocked = c.self.inside.state.blocked } in
    let roomy : TenantIs = record { guest = c.log_room.new.self; shares = c.self.inside.state.shares; minimum = c.self.inside.state.minimum; sample = c.self.inside.state.sample; blocked = c.self.inside.state.blocked } in
    let before : IsKept held roomy = still_kept held old roomy c.log_room.ensures.unchanged c.log_room.ensures.taken.items (subst (IsKept held) (sym c.self.view_is) k) in
    record { intact = c.run.ensures.intact before.intact; pages = c.run.ensures.kept before.intact held before.pages }

pub returns-clause-quiet : goal.returns-clause-quiet
returns-clause-quiet c = λ held.
    let old : TenantIs = record { guest = c.self.inside.guest; shares = c.self.inside.state.shares; minimum = c.self.inside.state.minimum; sample = c.self.inside.state.sample; blocked = c.self.inside.state.blocked } in
    let roomy : TenantIs = record { guest = c.log_room.new.self; shares = c.self.inside.state.shares; minimum = c.self.inside.state.minimum; sample = c.self.inside.state.sample; blocked = c.self.inside.state.blocked } in
    let steps = c.run.result.steps in
    subst (λ (t : TenantIs). IsKept held t → (k : ℕ) → k < steps → first_lack (lacks_in (pages_in t)) (accesses (run (steps_of 0 k) (view_of t.guest))) ≡ None) c.self.view_is
    (λ (k : IsKept held old).
    let before : IsKept held roomy = still_kept held old roomy c.log_room.ensures.unchanged c.log_room.ensures.taken.items k in
    seat_was_so (λ (seat : ℕ) (cpu : Processor) (b : GuestBusIs) (m : Machine) (xs : List Item). (k : ℕ) → k < steps → first_lack (lacks_in b.pages) (accesses (run (steps_of seat k) (run xs m))) ≡ None) c.self.inside.guest c.log_room.new.self c.self.inside.seats.runner.number c.log_room.ensures.unchanged c.log_room.ensures.taken.items c.self.invariant.0.runner.its_number
    (c.run.ensures.quiet before.intact))

pub returns-clause-gives_last : goal.returns-clause-gives_last
returns-clause-gives_last c = λ held.
    let old : TenantIs = record { guest = c.self.inside.guest; shares = c.self.inside.state.shares; minimum = c.self.inside.state.minimum; sample = c.self.inside.state.sample; blocked = c.self.inside.state.blocked } in
    let roomy : TenantIs = record { guest = c.log_room.new.self; shares = c.self.inside.state.shares; minimum = c.self.inside.state.minimum; sample = c.self.inside.state.sample; blocked = c.self.inside.state.blocked } in
    let steps = c.run.result.steps in
    subst (λ (t : TenantIs). IsKept held t → (k : ℕ) → k + 1 < steps → step_given (run (steps_of 0 k) (view_of t.guest)) ≡ None) c.self.view_is
    (λ (k : IsKept held old).
    let before : IsKept held roomy = still_kept held old roomy c.log_room.ensures.unchanged c.log_room.ensures.taken.items k in
    seat_was_so (λ (seat : ℕ) (cpu : Processor) (b : GuestBusIs) (m : Machine) (xs : List Item). (k : ℕ) → k + 1 < steps → step_given (run (steps_of seat k) (run xs m)) ≡ None) c.self.inside.guest c.log_room.new.self c.self.inside.seats.runner.number c.log_room.ensures.unchanged c.log_room.ensures.taken.items c.self.invariant.0.runner.its_number
    (c.run.ensures.gives_last before.intact))

pub returns-clause-given : goal.returns-clause-given
returns-clause-given c = λ held.
    let old : TenantIs = record { guest = c.self.inside.guest; shares = c.self.inside.state.shares; minimum = c.self.inside.state.minimum; sample = c.self.inside.state.sample; blocked = c.self.inside.state.blocked } in
    let roomy : TenantIs = record { guest = c.log_room.new.self; shares = c.self.inside.state.shares; minimum = c.self.inside.state.minimum; sample = c.self.inside.state.sample; blocked = c.self.inside.state.blocked } in
    let steps = c.run.result.steps in
    subst (λ (t : TenantIs). IsKept held t → last_given 0 steps (standing t.guest) ≡ last_given 0 steps (view_of t.guest)) c.self.view_is
    (λ (k : IsKept held old).
    let before : IsKept held roomy = still_kept held old roomy c.log_room.ensures.unchanged c.log_room.ensures.taken.items k in
    seat_was_so (λ (seat : ℕ) (cpu : Processor) (b : GuestBusIs) (m : Machine) (xs : List Item). last_given seat steps (machine_with cpu (board_of b)) ≡ last_given seat steps (run xs m)) c.self.inside.guest c.log_room.new.self c.self.inside.seats.runner.number c.log_room.ensures.unchanged c.log_room.ensures.taken.items c.self.invariant.0.runner.its_number
    (c.run.ensures.given before.intact))

pub returns-clause-paused : goal.returns-clause-paused
returns-clause-paused c =
    let steps = c.run.result.steps in
    subst (λ (t : TenantIs). HasPaused (last_given 0 steps (standing t.guest)) (pages_in t) c.run.result.pause c.run.new.self.bus.pages) c.self.view_is
    (seat_was_so (λ (seat : ℕ) (cpu : Processor) (b : GuestBusIs) (m : Machine) (xs : List Item). HasPaused (last_given seat steps (machine_with cpu (board_of b))) b.pages c.run.result.pause c.run.new.self.bus.pages)
    c.self.inside.guest c.log_room.new.self c.self.inside.seats.runner.number c.log_room.ensures.unchanged c.log_room.ensures.taken.items c.self.invariant.0.runner.its_number c.run.ensures.paused)
