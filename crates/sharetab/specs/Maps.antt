-- What lists of keys and values have for a key.
use Rattle.std.specs.Prelude.{ℕ, ◌&&◌, List, Option, nat_eq}
use Rattle.std.specs.Map.{lookup}
use Rattle.std.specs.Cmp.Lexicographic.{pointwise}
use Rattle.sharetab.specs.declared.guest_page.GuestPage.{GuestPage}

-- the value that a digest has
abbrev pub at_digest : {X : Type 0} → List (List ℕ × X) → List ℕ → Option X
at_digest values digest = lookup (pointwise nat_eq digest) values

-- the value that a page of a guest has; its key is the guest's number and the page's
abbrev pub at_page : {X : Type 0} → List ((ℕ × ℕ) × X) → GuestPage → Option X
at_page values page = lookup (λ (key : ℕ × ℕ). nat_eq page.guest key.0 && nat_eq page.page key.1) values
