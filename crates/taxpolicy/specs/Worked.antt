-- Guests of the worked examples.
use Rattle.std.specs.Prelude.{ℕ, ◌≤◌}
use Rattle.std.proofs.Common.{lit<, lit≤}
use Rattle.taxpolicy.specs.declared.stat.Stat.{Stat}

abbrev pub worked_guest : (shares resident active : ℕ) → active ≤ 100 → Stat
worked_guest shares resident active within =
    record { shares = shares; pages = 1000; resident = resident; given = 0; active = active; sample = 100; minimum = 2; sampled = lit< tt; touched = within }

-- an active guest, one that is mostly idle, and an idle one of three times the shares
abbrev pub active_guest : Stat
active_guest = worked_guest 1000 300 100 (lit≤ tt)

abbrev pub idle_guest : Stat
idle_guest = worked_guest 1000 300 20 (lit≤ tt)

abbrev pub rich_guest : Stat
rich_guest = worked_guest 3000 300 0 (lit≤ tt)
