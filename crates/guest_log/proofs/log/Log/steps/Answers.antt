use Rattle.std.proofs.Common.{ℕ, ◌≡◌, ◌<◌, ◌≤◌, ◌+◌, ◌^◌, ◌∙◌, ap, sym, arith, length, ◌++◌}
use Rattle.items.specs.Entries.{steps_of, items_of}
use Rattle.guest_log.specs.Logs.{LogIs}
use Rattle.guest_log.specs.Runs.{run_count}
use Rattle.guest_log.specs.Stored.{entries_of}
use Rattle.guest_log.proofs.Keeping.{keeps_same_many, keeps_next_many, items-many, items-entries}
use Rattle.guest_log.proofs.log.Log.steps.Goals as goal

pub invariant_of-self : goal.invariant_of-self
invariant_of-self c =
    let g = c.self.inside in
    let runs = ap (λ (v : LogIs). run_count v.items) c.self.view_is in
    let limit = ap (λ (v : LogIs). v.limit) c.self.view_is in
    let items = ap (λ (v : LogIs). length v.items) c.self.view_is in
    let room : run_count (items_of (entries_of g.earlier.items g.last)) < g.limit = omega (arith, runs, limit, c.requires.room.runs) in
    let fits : length (items_of (entries_of g.earlier.items g.last)) + c.args.count ≤ 2 ^ 62 = omega (arith, items, c.requires.room.items) in
    rw c.from.ensures (keeps_same_many g.earlier.items g.before g.last.seat g.last.steps g.limit c.args.count c.requires.some room fits c.self.invariant)

pub invariant_of-self-else-number : goal.invariant_of-self-else-number
invariant_of-self-else-number c =
    let g = c.self.inside in
    let runs = ap (λ (v : LogIs). run_count v.items) c.self.view_is in
    let limit = ap (λ (v : LogIs). v.limit) c.self.view_is in
    let items = ap (λ (v : LogIs). length v.items) c.self.view_is in
    let room : run_count (items_of (entries_of g.earlier.items g.last)) < g.limit = omega (arith, runs, limit, c.requires.room.runs) in
    let fits : length (items_of (entries_of g.earlier.items g.last)) + c.args.count ≤ 2 ^ 62 = omega (arith, items, c.requires.room.items) in
    let differ : g.last.seat ≡ c.args.seat → ⊥ = λ same. c.if-number.false (c.number.ensures.value ∙ sym same ∙ sym c.number-2.ensures.value) in
    rw (c.store.ensures.items, c.from-else-number.ensures)
    (keeps_next_many g.earlier.items g.before g.last.seat g.last.steps c.args.seat g.limit c.args.count c.requires.some differ room fits c.self.invariant)

pub returns-then-number-clause-items : goal.returns-then-number-clause-items
returns-then-number-clause-items c =
    let g = c.self.inside in
    let seats : g.last.seat ≡ c.args.seat = sym c.number-2.ensures.value ∙ sym c.if-number.true ∙ c.number.ensures.value in
    rw c.from.ensures
    (items-many g.earlier.items g.last.seat g.last.steps c.args.count
    ∙ ap (λ (v : LogIs). v.items ++ steps_of g.last.seat c.args.count) c.self.view_is
    ∙ ap (λ (seat : ℕ). c.args.self.now.items ++ steps_of seat c.args.count) seats)

pub returns-else-number-clause-items : goal.returns-else-number-clause-items
returns-else-number-clause-items c =
    let g = c.self.inside in
    rw (c.store.ensures.items, c.from-else-number.ensures)
    (items-entries (entries_of g.earlier.items g.last) c.args.seat c.args.count ∙ ap (λ (v : LogIs). v.items ++ steps_of c.args.seat c.args.count) c.self.view_is)
