use Rattle.std.proofs.Common.{List, ◌∷◌, ◌++◌, map, ap, ◌∙◌, arith}
use Rattle.accounts.specs.declared.account.Account.{Account}
use Rattle.accounts.specs.declared.account.Account.TheVariants.{Slots, Table, Frame}
use Rattle.machine_memory.proofs.Dealing.{owners_counted, plain_accounts}
use Rattle.machine_memory.proofs.boot.make_room.Goals as goal

pub deal_contents-requires : goal.deal_contents-requires
deal_contents-requires g c = record { apart = λ k. omega (arith, c.requires.exact.each_slot k, owners_counted g.P.Pages.pages k c.args.guests.now) }

pub returns-clause-accounts : goal.returns-clause-accounts
returns-clause-accounts g c =
    let a = c.args.around.now in
    c.in_ok-books.ensures.share
    ∙ ap (λ (l : List Account). record { ledger = c.in_ok-books.books.id; parts = Slots a.slots ∷ Table a.shares.entries ∷ (l ++ map (λ x. Frame x) a.pool.free) }) (plain_accounts g.P.Pages.pages c.args.guests.now)
