-- Which pages a debugger's accesses want.
use Rattle.std.specs.Prelude.{Bool, true, false}
use Rattle.guest_pages.specs.declared.page.PageKind.{PageKind}
use Rattle.guest_pages.specs.declared.page.PageKind.TheVariants.{Private, Swapped}
use Rattle.victims.specs.declared.wanted.Access.{Access}
use Rattle.victims.specs.declared.wanted.Access.TheVariants as access

-- whether a page is to be supplied first: one that is read where it is in a slot, one that is written to where it has no frame of
-- its own
abbrev pub is_wanted : Access → PageKind → Bool
is_wanted access.Read Swapped = true
is_wanted access.Read _ = false
is_wanted access.Write Private = false
is_wanted access.Write _ = true
