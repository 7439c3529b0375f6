use Rattle.std.proofs.Common.{List, map, subst}
use Rattle.guest.specs.Guests.{GuestIs}
use Rattle.machine_memory.specs.Dealt.{Each, IsKeptBy}
use Rattle.guest_cells.proofs.Housing.{runs_written}
use Rattle.guest_cells.proofs.boot.take_over.Goals as goal

pub behind_locks-requires-clause-written : goal.behind_locks-requires-clause-written
behind_locks-requires-clause-written g c trust =
    let held = g.S.SwapStore.held c.args.booted.store in
    let stakes = c.in-Ok-new.made.stakes.items in
    runs_written held stakes c.args.booted.guests.items c.requires.kept
    (subst (λ (guests : List GuestIs). Each (IsKeptBy held) stakes (map (λ (x : GuestIs). x.bus.pages) guests)) c.as_slice.ensures.value
    (c.in-Ok-new.ensures.kept (subst g.S.SwapStore.true_to_digests c.in-Ok-new.ensures.first trust)))
