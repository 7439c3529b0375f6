use Rattle.std.proofs.Common.{ap, ◌∙◌, ◌++◌}
use Rattle.accounts.proofs.Telling.{both_tells, slots_inside, with_covered, with_own_once, with_reads, with_used, with_inside, with_apart}
use Rattle.accounts.proofs.guest_and_both.meet_both.Goals as goal

pub returns-clause-exact : goal.returns-clause-exact
returns-clause-exact c ps ns is =
    both_tells c.args.books.now.key c.args.books.now.id _ _ _ c.args.shares.now.entries c.args.book.now _ c.requires.table c.requires.slots
    (ap (λ v. v.parts) c.lend-2.ensures.to ∙ ap (λ v. c.args.slots.now.parts ++ v.parts) c.lend.ensures.to) c.learn.ensures.exact ps ns is

pub returns-clause-covered : goal.returns-clause-covered
returns-clause-covered c ps ns is =
    let t = returns-clause-exact c ps ns is in
    with_covered c.args.books.now.key ps ns c.args.shares.now.entries t.0 c.args.book.now t.1

pub returns-clause-own_once : goal.returns-clause-own_once
returns-clause-own_once c ps ns is =
    let t = returns-clause-exact c ps ns is in
    with_own_once c.args.books.now.key ps ns c.args.shares.now.entries t.0 c.args.book.now t.1

pub returns-clause-reads : goal.returns-clause-reads
returns-clause-reads c ps ns is =
    let t = returns-clause-exact c ps ns is in
    with_reads c.args.books.now.key ps ns c.args.shares.now.entries t.0 c.args.book.now t.1

pub returns-clause-used : goal.returns-clause-used
returns-clause-used c ps ns is =
    let t = returns-clause-exact c ps ns is in
    with_used c.args.books.now.key ps ns c.args.shares.now.entries t.0 c.args.book.now t.1

pub returns-clause-inside : goal.returns-clause-inside
returns-clause-inside c ps ns is =
    let t = returns-clause-exact c ps ns is in
    with_inside c.args.books.now.key ps ns c.args.shares.now.entries t.0 c.args.book.now t.1

pub returns-clause-free_inside : goal.returns-clause-free_inside
returns-clause-free_inside c =
    slots_inside c.args.books.now.key c.args.books.now.id _ c.args.book.now _ _ c.requires.slots (ap (λ v. v.parts) c.lend-2.ensures.to) c.learn.ensures.exact

pub returns-clause-free_apart : goal.returns-clause-free_apart
returns-clause-free_apart c ps ns is =
    let t = returns-clause-exact c ps ns is in
    with_apart c.args.books.now.key ps ns c.args.shares.now.entries t.0 c.args.book.now t.1
