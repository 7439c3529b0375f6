-- The answers of an offer exclude each other.
use Rattle.std.proofs.Common.{ℕ, ◌≡◌, List, refl, ap}
use Rattle.sharetab.specs.Hints.{OnePageEach}
use Rattle.sharetab.specs.Shares.{SharesAre, Answers, OneAnswer}
use Rattle.sharetab.specs.declared.guest_page.GuestPage.{GuestPage}
use Rattle.sharetab.specs.declared.shares.Offer.{Offer}
use Rattle.sharetab.specs.declared.shares.Offer.TheVariants.{Noted, Match, Taken}

exclude : (shares : SharesAre) (digest : List ℕ) (page : GuestPage) (one other : Offer) → OnePageEach shares.hints → Answers shares digest page one → Answers shares digest page other → one ≡ other
exclude shares digest page Taken Taken each a b = refl
exclude shares digest page Taken (Match p) each a b = absurd (b.0 a)
exclude shares digest page Taken Noted each a b = absurd (b.0 a)
exclude shares digest page (Match p) Taken each a b = absurd (a.0 b)
exclude shares digest page (Match p) (Match q) each a b = ap Match (each digest p q a.2 b.2)
exclude shares digest page (Match p) Noted each a b = absurd (a.1 (b.1 p a.2))
exclude shares digest page Noted Taken each a b = absurd (a.0 b)
exclude shares digest page Noted (Match p) each a b = absurd (b.1 (a.1 p b.2))
exclude shares digest page Noted Noted each a b = refl

pub one_answer : (shares : SharesAre) (digest : List ℕ) (page : GuestPage) → OnePageEach shares.hints → OneAnswer shares digest page
one_answer shares digest page each = λ one other a b. exclude shares digest page one other each a b
