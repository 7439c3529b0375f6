-- What no access of memory changes.
use Rattle.std.specs.Prelude.{List, [], map}
use Rattle.guest_pages.specs.declared.page.Page.{Page}
use Rattle.guest_pages.specs.declared.page.Page.TheVariants.{Zero, Given, Private, Shared, Swapped}

-- a page without the bytes of its own frame
abbrev pub outlined : Page → Page
outlined Zero = Zero
outlined Given = Given
outlined (Private frame) = Private (record frame { bytes = [] })
outlined (Shared share ticket) = Shared share ticket
outlined (Swapped slot digest) = Swapped slot digest

abbrev pub outline : List Page → List Page
outline pages = map outlined pages
