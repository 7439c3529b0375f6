use Rattle.std.proofs.Common.{rules, ℕ, ◌≡◌, ◌<◌, get_or, Some, subst, arith}
use Rattle.sharetab.specs.Entries.{EntriesAre, entry_at, count_at}
use Rattle.sharetab.proofs.Books.{last_left, count_inside}
use Rattle.sharetab.proofs.Tables.{read_at}
use Rattle.sharetab.proofs.entries.Entries.leave.Goals as goal

pub returns-clause-left : goal.returns-clause-left
returns-clause-left c =
    let es = c.self.inside.places.items in
    let k = c.number-place.result in
    let x = c.in-Some.entry in
    let same : c.args.self.now ≡ es = search rules in
    let ticket : c.args.ticket ≡ k = search rules in
    let out : 0 < count_at es k = subst (λ (n : ℕ). 0 < count_at es n) ticket (subst (λ (l : EntriesAre). 0 < count_at l c.args.ticket) same c.requires) in
    let read : get_or es k c.index_mut.result.now ≡ Some x = search rules in
    let at : entry_at es k ≡ Some x = read_at es k c.index_mut.result.now (Some x) (count_inside es k out) read in
    let less = c.leave.ensures.tickets in
    let none : c.leave.new.self.tickets ≡ 0 = omega arith in
    last_left c.args.self.now es c.args.ticket k x c.leave.new.self c.take.new.self same ticket c.requires at less none c.take.ensures.after
