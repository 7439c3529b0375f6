use Rattle.std.proofs.Common.{rules, ◌≡◌, ◌<◌, length, None, subst, arith}
use Rattle.sharetab.specs.Entries.{EntriesAre, entry_at}
use Rattle.sharetab.proofs.Tables.{vacant_room}
use Rattle.sharetab.proofs.entries.Entries.put.Goals as goal

pub overflow_add-self : goal.overflow_add-self
overflow_add-self c =
    let es = c.self.inside.places.items in
    let k = c.args.entry.number in
    let same : c.args.self.now ≡ es = search rules in
    let inside : k < length es = subst (λ (l : EntriesAre). k < length l) same c.requires.there in
    let vacant : entry_at es k ≡ None = subst (λ (l : EntriesAre). entry_at l k ≡ None) same c.requires.vacant in
    let room = vacant_room es k c.args.entry inside vacant in
    omega (arith, room, c.self.invariant.in_all, c.self.invariant.few)
