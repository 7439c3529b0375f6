-- Boards that have the same bytes in some pages.
use Rattle.std.specs.Prelude.{ℕ, Bool, true, IsTrue, All, List, ◌≡◌, length}
use Rattle.word32.specs.Zeros.{zeros}
use Rattle.mips_tlb.specs.declared.kind.Kind.TheVariants.{Store}
use Rattle.machine.specs.Board.{Board, page_bytes, is_given_page}
use Rattle.machine.specs.Accesses.{Access}

-- boards that differ at most in the bytes of the pages that are not among these
pub record Agree (these : ℕ → Bool) (a b : Board) : Type 0 where
  pub size : length b.memory ≡ length a.memory
  pub bytes : (page : ℕ) → IsTrue (these page) → page_bytes page b.memory ≡ page_bytes page a.memory
  pub devices : b.devices ≡ a.devices

-- each of these accesses is to one of these pages
abbrev pub Within : (ℕ → Bool) → List Access → Type 0
Within these xs = All (λ (x : Access). IsTrue (these x.page)) xs

-- an access that stores to a page
pub record StoresTo (page : ℕ) (x : Access) : Type 0 where
  pub its_page : x.page ≡ page
  pub its_kind : x.kind ≡ Store

-- the bytes of a page are zeros
abbrev pub IsCleared : ℕ → Board → Type 0
IsCleared page board = page_bytes page board.memory ≡ zeros (length (page_bytes page board.memory))

-- each page that is given is zeros
abbrev pub GivenAreZeros : Board → Type 0
GivenAreZeros board = (page : ℕ) → is_given_page page board ≡ true → IsCleared page board
