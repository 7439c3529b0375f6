-- Why a page is lacking for an access.
use Rattle.std.specs.Prelude.{ℕ, List, Option, Some, None}
use Rattle.mips_tlb.specs.declared.kind.Kind.{Kind}
use Rattle.mips_tlb.specs.declared.kind.Kind.TheVariants.{Fetch, Load, Store}
use Rattle.machine.specs.declared.access.Why.{Why}
use Rattle.machine.specs.declared.access.Why.TheVariants as why
use Rattle.guest_pages.specs.declared.page.Page.{Page}
use Rattle.guest_pages.specs.declared.page.PageKind.{PageKind}
use Rattle.guest_pages.specs.declared.page.PageKind.TheVariants.{Zero, Given, Private, Shared, Swapped}
use Rattle.guest_pages.specs.Pages.{kind_at}

-- a page that others read too can be fetched and loaded from, but not stored to
abbrev pub lack_of_shared : Kind → Option Why
lack_of_shared Fetch = None
lack_of_shared Load = None
lack_of_shared Store = Some why.Copy

-- why a page of a kind is lacking for an access: a page with a frame of its own never is
abbrev pub lack_of : PageKind → Kind → Option Why
lack_of Zero kind = Some why.First
lack_of Given kind = Some why.First
lack_of Private kind = None
lack_of Shared kind = lack_of_shared kind
lack_of Swapped kind = Some why.Swapped

-- why the page of a number is lacking
abbrev pub lacks_in : List Page → ℕ → Kind → Option Why
lacks_in pages page kind = lack_of (kind_at pages page) kind
