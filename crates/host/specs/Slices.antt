-- What a slice has made.
use Rattle.std.specs.Prelude.{ℕ}
use Rattle.host.specs.declared.stops.Ran.{Ran}
use Rattle.host.specs.declared.stops.Ran.TheVariants as ran

-- how many steps
abbrev pub steps_made : Ran → ℕ
steps_made (ran.Ran k) = k
steps_made (ran.Break k) = k
steps_made (ran.Held k) = k
steps_made (ran.Stopped k stop) = k
