use Rattle.std.proofs.Common.{rules, ◌≡◌}
use denote.Param.{param}
use denote.Param.Send.{IsSync, sendable}
use Rattle.std.proofs.Crossing.{crosses}
use Rattle.std.proofs.alloc.Global.TheSendSync as heap
use Rattle.host.proofs.Crossing.{host_sync}
use Rattle.host.specs.contracts.host.Host as Host
use Rattle.host_run.proofs.Crossing.{switches_sync}
use Rattle.host_run.specs.contracts.switches.Switches as Switches
use Rattle.host_run.proofs.Seats.{all_accept}
use Rattle.host_run.proofs.threads.run_guests.Goals as goal

pub for_each_mut-requires-sync-F : goal.for_each_mut-requires-sync-F
for_each_mut-requires-sync-F g c κs within =
    let shared : IsSync (Host.the_row (param 0 g.row.S) (param 1 g.row.G) g.S.SwapStore) = host_sync (param 0 g.row.S) (param 1 g.row.G) g.S.SwapStore c.type_bounds.send-S c.type_bounds.sync-G in
    let told : IsSync Switches.the_row = switches_sync in
    search (sendable, crosses, heap.the_field_sync) depth 60

pub for_each_mut-requires-clause-accepts : goal.for_each_mut-requires-clause-accepts
for_each_mut-requires-clause-accepts g c κs within i p inside is =
    all_accept 0 _ c.args.host.now.guests.cells.items c.args.seats.items _ c.requires.seats (search rules) c.requires.switches i p.now inside is
