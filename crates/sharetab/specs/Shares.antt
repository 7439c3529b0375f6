-- A table of shared frames, and what it answers.
use Rattle.std.specs.Prelude.{◌≡◌, ℕ, List, Some}
use Rattle.sharetab.specs.Maps.{at_digest, at_page}
use Rattle.sharetab.specs.Hints.{HintsAre, NoOtherHas, Notes}
use Rattle.sharetab.specs.Entries.{EntriesAre, entry_at, IsOfDigest, HasDigest}
use Rattle.sharetab.specs.declared.guest_page.GuestPage.{GuestPage}
use Rattle.sharetab.specs.declared.shares.Offer.{Offer}
use Rattle.sharetab.specs.declared.shares.Offer.TheVariants.{Noted, Match, Taken}

-- what is seen of a table of shared frames
pub record SharesAre : Type 0 where
  -- the entry of each frame that is shared, at the place of the frame's number
  pub entries : EntriesAre
  -- the pages that were noted, each with the digest that it was last noted with
  pub hints : HintsAre

-- an index has the place of the entry of each digest, and of no other digest
pub record Indexes (entries : EntriesAre) (index : List (List ℕ × ℕ)) : Type 0 where
  pub there : (k : ℕ) (digest : List ℕ) → IsOfDigest digest (entry_at entries k) → at_digest index digest ≡ Some k
  pub back : (k : ℕ) (digest : List ℕ) → at_digest index digest ≡ Some k → IsOfDigest digest (entry_at entries k)

-- what an offer of a page of a digest is answered
abbrev pub Answers : SharesAre → List ℕ → GuestPage → Offer → Type 0
Answers shares digest page Taken = HasDigest shares.entries digest
Answers shares digest page (Match other) = (HasDigest shares.entries digest → ⊥) × (other ≡ page → ⊥) × (at_page shares.hints other ≡ Some digest)
Answers shares digest page Noted = (HasDigest shares.entries digest → ⊥) × NoOtherHas shares.hints digest page

-- no two answers fit an offer
abbrev pub OneAnswer : SharesAre → List ℕ → GuestPage → Type 0
OneAnswer shares digest page = (one other : Offer) → Answers shares digest page one → Answers shares digest page other → one ≡ other

-- the hints after an offer: only a page that is noted changes them, and only its own
abbrev pub HintsFollow : HintsAre → List ℕ → GuestPage → Offer → HintsAre → Type 0
HintsFollow old digest page Taken new = new ≡ old
HintsFollow old digest page (Match other) new = new ≡ old
HintsFollow old digest page Noted new = Notes old digest page new
