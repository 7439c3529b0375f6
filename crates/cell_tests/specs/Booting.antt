-- Guests to which nothing has happened.
use Rattle.std.specs.Prelude.{List, replicate}
use Rattle.guest_pages.specs.declared.page.Page.{Page}
use Rattle.guest_pages.specs.declared.page.Page.TheVariants as page

-- 16 pages that were never touched
abbrev pub untouched : List Page
untouched = replicate 16 page.Zero
