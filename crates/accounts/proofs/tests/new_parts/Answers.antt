use Rattle.std.proofs.Common.{List, [], ◌∷◌, None, replicate, sym, subst}
use Rattle.sharetab.specs.Entries.{EntriesAre}
use Rattle.guest_pages.specs.declared.page.Page.{Page}
use Rattle.guest_pages.specs.declared.page.Page.TheVariants.{Zero}
use Rattle.page_moves.specs.Books.{Books}
use Rattle.page_moves.proofs.Starting.{books_of_nothing, books_with_owner}
use Rattle.accounts.proofs.tests.new_parts.Goals as goal

pub returns-clause-exact : goal.returns-clause-exact
returns-clause-exact g c =
    let none : List Page = replicate 2 Zero in
    let es : EntriesAre = replicate 6 None in
    let pool = c.new_pool.result in
    let book = c.new_book.result in
    let first : List Page = c.new_map.result in
    let second : List Page = c.new_map-2.result in
    let made : EntriesAre = c.new_shares.result.entries in
    let b : Books 6 2 (none ∷ none ∷ []) es pool book =
    books_with_owner 6 2 (none ∷ []) es pool book 2 (books_with_owner 6 2 [] es pool book 2
    (books_of_nothing 6 2 pool book c.new_pool.ensures.each_once c.new_pool.ensures.none_out c.new_book.ensures.each_once c.new_book.ensures.none_used)) in
    subst (λ (x : List Page). Books 6 2 (first ∷ x ∷ []) made pool book) (sym c.new_map-2.ensures)
    (subst (λ (x : List Page). Books 6 2 (x ∷ none ∷ []) made pool book) (sym c.new_map.ensures)
    (subst (λ (x : EntriesAre). Books 6 2 (none ∷ none ∷ []) x pool book) (sym c.new_shares.ensures) b))
