-- How many pages of a guest are given.
use Rattle.std.specs.Prelude.{ℕ, List, sum_by}
use Rattle.guest_pages.specs.Pages.{kind_of}
use Rattle.guest_pages.specs.declared.page.Page.{Page}
use Rattle.guest_pages.specs.declared.page.PageKind.{PageKind}
use Rattle.guest_pages.specs.declared.page.PageKind.TheVariants.{Given}

-- 1 for a page that is given to the balloon, 0 for each other
abbrev pub one_given : PageKind → ℕ
one_given Given = 1
one_given _ = 0

abbrev pub given_pages : List Page → ℕ
given_pages pages = sum_by (λ page. one_given (kind_of page)) pages
