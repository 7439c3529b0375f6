-- Pages that are given, one more at a time; and all pages by where they are.
use Rattle.std.proofs.Common.{◌≡◌, ◌∙◌, ◌+◌, ◌<◌, ◌≤◌, ℕ, List, [], ◌∷◌, ap, arith, length, sum_by, sym, take}
use Rattle.std.proofs.lemmas.List.{take_more}
use Rattle.std.proofs.lemmas.List.Sums.{sum_by-cons, sum_by_push}
use Rattle.guest_pages.specs.Holdings.{one_private, one_shared, one_swapped, private_pages, shared_pages, swapped_pages}
use Rattle.guest_pages.specs.Pages.{kind_at, kind_of, page_at}
use Rattle.guest_pages.specs.declared.page.Page.{Page}
use Rattle.guest_pages.specs.declared.page.Page.TheVariants.{Zero}
use Rattle.guest_pages.specs.declared.page.Page.TheVariants as page
use Rattle.simulation.specs.Pages.{given_pages, one_given}

pub given_more : (pages : List Page) (p given more : ℕ) → p < length pages → given ≡ given_pages (take p pages) → more ≡ one_given (kind_at pages p)
    → given + more ≡ given_pages (take (p + 1) pages)
given_more pages p given more below so_far is =
    let one : Page → ℕ = λ page. one_given (kind_of page) in
    ap (λ (n : ℕ). n + more) so_far ∙ ap (λ (n : ℕ). given_pages (take p pages) + n) is
    ∙ sym (ap (sum_by one) (take_more pages p Zero below) ∙ sum_by_push one (take p pages) (page_at pages p))

-- a page is in one place
one_place : (it : Page) → one_private it + one_shared it + one_swapped it + one_given (kind_of it) ≤ 1
one_place page.Zero = omega arith
one_place page.Given = omega arith
one_place (page.Private frame) = omega arith
one_place (page.Shared share ticket) = omega arith
one_place (page.Swapped slot digest) = omega arith

-- so all of them are no more than there are
pub few_places : (pages : List Page) → private_pages pages + shared_pages pages + swapped_pages pages + given_pages pages ≤ length pages
few_places [] = omega arith
few_places (it ∷ pages) =
    omega (
      arith,
      few_places pages,
      one_place it,
      sum_by-cons one_private it pages,
      sum_by-cons one_shared it pages,
      sum_by-cons one_swapped it pages,
      sum_by-cons (λ (p : Page). one_given (kind_of p)) it pages,
    )
