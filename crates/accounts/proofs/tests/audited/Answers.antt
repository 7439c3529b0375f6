use Rattle.std.proofs.Common.{◌≡◌, List, [], ◌∷◌, ◌++◌, ap, sym, subst, ◌∙◌}
use Rattle.frames.specs.FreeList.{FreeList}
use Rattle.sharetab.specs.Entries.{EntriesAre}
use Rattle.guest_pages.specs.declared.page.Page.{Page}
use Rattle.ledger.specs.Shares.{LedgerId, ShareIs, AreOf}
use Rattle.accounts.specs.declared.account.Account.{Account}
use Rattle.accounts.specs.declared.account.Account.TheVariants.{Table, Slots}
use Rattle.accounts.specs.Exact.{Exact}
use Rattle.accounts.specs.OwnerShares.{share_of, guest_account, guest_share}
use Rattle.accounts.proofs.All.{all_owners}
use Rattle.accounts.proofs.tests.audited.Goals as goal

gathered : (l : LedgerId) (one two t s : ShareIs Account) (xs ys zs : List Account) (p q : List Page) (es : EntriesAre) (book : FreeList)
    → one ≡ guest_share l p [] → two ≡ guest_share l q [] → t ≡ share_of l (Table es) → s ≡ share_of l (Slots book)
    → xs ≡ one.parts ++ two.parts → ys ≡ t.parts ++ xs → zs ≡ s.parts ++ ys
    → zs ≡ Slots book ∷ Table es ∷ guest_account p [] ∷ guest_account q [] ∷ []
gathered l one two t s xs ys zs p q es book o w ts ss a b c =
    c ∙ ap (λ (v : ShareIs Account). v.parts ++ ys) ss ∙ ap (λ (x : List Account). Slots book ∷ x) b ∙ ap (λ (v : ShareIs Account). Slots book ∷ (v.parts ++ xs)) ts
    ∙ ap (λ (x : List Account). Slots book ∷ Table es ∷ x) a ∙ ap (λ (v : ShareIs Account). Slots book ∷ Table es ∷ (v.parts ++ two.parts)) o
    ∙ ap (λ (v : ShareIs Account). Slots book ∷ Table es ∷ guest_account p [] ∷ v.parts) w

pub returns-clause-exact : goal.returns-clause-exact
returns-clause-exact g c =
    let p = g.P.Pages.pages c.args.one.now.pages in
    let q = g.P.Pages.pages c.args.two.now.pages in
    let es = c.args.table.now.shares.entries in
    let book = c.args.swap.now.book in
    all_owners c.args.books.now.key (p ∷ q ∷ []) es book [] (sym c.requires.all)
    (subst (AreOf (Exact c.args.books.now.key))
    (gathered c.args.books.now.id c.args.one.now.share c.args.two.now.share c.args.table.now.share c.args.swap.now.share c.lend.new.to.parts c.lend-2.new.to.parts c.lend-3.new.to.parts p q es book
    c.requires.one c.requires.two c.requires.table c.requires.slots (ap (λ v. v.parts) c.lend.ensures.to) (ap (λ v. v.parts) c.lend-2.ensures.to) (ap (λ v. v.parts) c.lend-3.ensures.to))
    c.learn.ensures.exact)
