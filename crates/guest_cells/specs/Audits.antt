-- Accounts that are gathered of guests whose locks are held.
use Rattle.std.specs.Prelude.{◌≡◌, List, map}
use Rattle.guest_pages.specs.declared.page.Page.{Page}
use Rattle.guest_pages.specs.Outline.{outline}

-- these are outlines of pages
abbrev pub AreOutlines : List (List Page) → Type 0
AreOutlines gathered = (all : List (List Page)) × (gathered ≡ map outline all)
