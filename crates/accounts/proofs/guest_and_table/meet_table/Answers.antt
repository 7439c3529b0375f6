use Rattle.std.proofs.Common.{ap}
use Rattle.accounts.proofs.Telling.{table_tells, with_covered, with_own_once, with_reads, ticket_out}
use Rattle.accounts.proofs.guest_and_table.meet_table.Goals as goal

pub returns-clause-exact : goal.returns-clause-exact
returns-clause-exact c ps ns is =
    table_tells c.args.books.now.key c.args.books.now.id _ _ c.args.shares.now.entries _ c.requires.table (ap (λ v. v.parts) c.lend.ensures.to) c.learn.ensures.exact ps ns is

pub returns-clause-covered : goal.returns-clause-covered
returns-clause-covered c ps ns is =
    let t = returns-clause-exact c ps ns is in
    with_covered c.args.books.now.key ps ns c.args.shares.now.entries t.0 t.1 t.2

pub returns-clause-own_once : goal.returns-clause-own_once
returns-clause-own_once c ps ns is =
    let t = returns-clause-exact c ps ns is in
    with_own_once c.args.books.now.key ps ns c.args.shares.now.entries t.0 t.1 t.2

pub returns-clause-reads : goal.returns-clause-reads
returns-clause-reads c ps ns is =
    let t = returns-clause-exact c ps ns is in
    with_reads c.args.books.now.key ps ns c.args.shares.now.entries t.0 t.1 t.2

pub returns-clause-returned : goal.returns-clause-returned
returns-clause-returned c ps ns is p ticket what =
    let t = returns-clause-exact c ps ns is in
    ticket_out c.args.shares.now.entries ps (with_covered c.args.books.now.key ps ns c.args.shares.now.entries t.0 t.1 t.2) p ticket what
