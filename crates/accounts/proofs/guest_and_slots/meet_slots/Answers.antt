use Rattle.std.proofs.Common.{ap}
use Rattle.guest_pages.specs.Pages.{page_at}
use Rattle.accounts.proofs.Telling.{slots_tells, slots_inside, with_used, with_inside, with_apart, slot_kind}
use Rattle.accounts.proofs.guest_and_slots.meet_slots.Goals as goal

pub returns-clause-exact : goal.returns-clause-exact
returns-clause-exact c ps ns is =
    slots_tells c.args.books.now.key c.args.books.now.id _ _ c.args.book.now _ c.requires.slots (ap (λ v. v.parts) c.lend.ensures.to) c.learn.ensures.exact ps ns is

pub returns-clause-used : goal.returns-clause-used
returns-clause-used c ps ns is =
    let t = returns-clause-exact c ps ns is in
    with_used c.args.books.now.key ps ns t.0 t.1 c.args.book.now t.2

pub returns-clause-inside : goal.returns-clause-inside
returns-clause-inside c ps ns is =
    let t = returns-clause-exact c ps ns is in
    with_inside c.args.books.now.key ps ns t.0 t.1 c.args.book.now t.2

pub returns-clause-returned : goal.returns-clause-returned
returns-clause-returned c ps ns is p slot what =
    let t = returns-clause-exact c ps ns is in
    with_used c.args.books.now.key ps ns t.0 t.1 c.args.book.now t.2 p (slot_kind (page_at ps p) slot what)

pub returns-clause-free_inside : goal.returns-clause-free_inside
returns-clause-free_inside c =
    slots_inside c.args.books.now.key c.args.books.now.id _ c.args.book.now _ _ c.requires.slots (ap (λ v. v.parts) c.lend.ensures.to) c.learn.ensures.exact

pub returns-clause-free_apart : goal.returns-clause-free_apart
returns-clause-free_apart c ps ns is =
    let t = returns-clause-exact c ps ns is in
    with_apart c.args.books.now.key ps ns t.0 t.1 c.args.book.now t.2
