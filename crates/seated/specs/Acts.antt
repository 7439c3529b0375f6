-- What a call with a seat leaves.
use Rattle.std.specs.Prelude.{◌≡◌, ℕ, List, ◌++◌}
use mathlib.Core.List.{IsPrefix}
use Rattle.items.specs.declared.item.Item.{Item}
use Rattle.items.specs.Entries.{steps_of}
use Rattle.log_seats.specs.Heads.{HeadId, SeatIs}
use Rattle.log_seats.specs.Legal.{Legal}
use Rattle.machine.specs.Step.{Machine}
use Rattle.guest.specs.Guests.{GuestIs, Intact}

-- The call found this log, for which the seat was legal, and added these items, which are the seat's own. The seat has seen the log as it
-- then is, and is legal for it.
pub record Acts (s : SeatIs) (before mine : List Item) (s' : SeatIs) : Type 0 where
  pub found : Legal before s.number s.saw s.made
  pub its_seat : s' ≡ record s { saw = before ++ mine; made = s.made ++ mine }
  pub legal : Legal s'.saw s'.number s'.saw s'.made

-- The seat has added nothing, has seen a log that begins with what it had seen, and is legal for it.
pub record Sees (s s' : SeatIs) : Type 0 where
  pub its_seat : s' ≡ record s { saw = s'.saw }
  pub begins : IsPrefix s.saw s'.saw
  pub legal : Legal s'.saw s'.number s'.saw s'.made

-- The seat has made so many steps, between which items of other seats may stand. It has seen a log that begins with what it had seen, and is
-- legal for it.
pub record Slice (s : SeatIs) (count : ℕ) (s' : SeatIs) : Type 0 where
  pub its_seat : s' ≡ record s { saw = s'.saw; made = s.made ++ steps_of s.number count }
  pub begins : IsPrefix s.saw s'.saw
  pub legal : Legal s'.saw s'.number s'.saw s'.made

-- what no call of a guest with a seat changes
pub record Stays (g g' : GuestIs) : Type 0 where
  pub boot : g'.boot ≡ g.boot
  pub head : g'.head ≡ g.head
  pub seats : g'.seats ≡ g.seats
  pub limit : g'.log.limit ≡ g.log.limit

-- a guest of this boot and this head, whose processor, devices and pages are its view's
pub record Sits (boot : Machine) (head : HeadId) (g : GuestIs) : Type 0 where
  pub boots : g.boot ≡ boot
  pub its_head : g.head ≡ head
  pub intact : Intact g
