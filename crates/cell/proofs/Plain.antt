-- Items that every machine accepts.
use Rattle.std.proofs.Common.{◌≡◌, false, [], refl, List, ℕ, Option}
use Rattle.items.specs.declared.item.Item.{Item}
use Rattle.items.specs.declared.item.What.{What}
use Rattle.items.specs.declared.item.What.TheVariants as what
use Rattle.items.specs.Items.{is_step}
use Rattle.cell.specs.declared.cell.Front.{Front}
use Rattle.cell.specs.declared.seat.Seat.{Seat}
use Rattle.cell.specs.Inputs.{byte_in}
use Rattle.cell.specs.Sitting.{IsPlain, Answers, Happens}

pub no_step : (w : What) → IsPlain w → is_step w ≡ false
no_step what.Step h = absurd h
no_step (what.In byte) h = refl
no_step what.Drain h = refl
no_step (what.Target pages) h = refl
no_step (what.Poke register value) h = refl
no_step (what.Write address bytes) h = refl

pub no_byte : (w : What) → IsPlain w → byte_in w ≡ []
no_byte what.Step h = refl
no_byte (what.In byte) h = absurd h
no_byte what.Drain h = refl
no_byte (what.Target pages) h = refl
no_byte (what.Poke register value) h = refl
no_byte (what.Write address bytes) h = refl

pub happens : {S : Type 0} (front : Front S) (s : Seat) (i : Item) (s' : Seat) (a : Option (List ℕ)) → Answers front s i s' a → Happens front s i s'
happens front s i s' a h = record { before = h.before; acts = h.acts; accepted = h.accepted }
