-- No event has four words behind its first.
use Rattle.std.proofs.Common.{◌≡◌, ℕ, List, refl, Option, None}
use Rattle.script.specs.Events.{event_of_numbers}
use Rattle.script.specs.Words.{Four}
use Rattle.script.specs.declared.name.EventName.{EventName}
use Rattle.script.specs.declared.name.EventName.TheVariants as name

pub none_of_four : (event : EventName) (a b c d : List ℕ) → event_of_numbers event (Four a b c d) ≡ None
unfolding event_of_numbers
none_of_four name.Step a b c d = refl
none_of_four name.Run a b c d = refl
none_of_four name.In a b c d = refl
none_of_four name.Drain a b c d = refl
none_of_four name.Target a b c d = refl
none_of_four name.Poke a b c d = refl
none_of_four name.Write a b c d = refl
none_of_four name.Probe a b c d = refl
none_of_four name.Fault a b c d = refl
none_of_four name.Scan a b c d = refl
none_of_four name.Evict a b c d = refl
none_of_four name.Sample a b c d = refl
none_of_four name.Level a b c d = refl
none_of_four name.Audit a b c d = refl
none_of_four name.Dump a b c d = refl
none_of_four name.Stats a b c d = refl
none_of_four name.Damage a b c d = refl
none_of_four name.Repeat a b c d = refl
none_of_four name.End a b c d = refl
