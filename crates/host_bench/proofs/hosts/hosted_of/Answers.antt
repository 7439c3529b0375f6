use Rattle.std.proofs.Common.{rules, ◌≡◌, ◌∙◌, sym, length}
use Rattle.guest_cells.proofs.ByPlace.{handles_count}
use Rattle.host_bench.proofs.Places.{only_one}
use Rattle.host_bench.proofs.hosts.hosted_of.Goals as goal

pub unreachable-requires : goal.unreachable-requires
unreachable-requires c =
    let count : length c.args.booted.handles.items ≡ 1 = sym (handles_count c.args.booted.host.guests.cells.items c.args.booted.handles.items c.requires.handles) ∙ c.requires.one in
    search rules

pub invariant_of-result-clause-its : goal.invariant_of-result-clause-its
invariant_of-result-clause-its c =
    only_one c.args.booted.host.guests.cells.items c.args.booted.handles.items c.pop.new.self.items c.in-Some.handles c.requires.handles c.requires.one c.in-Some.ensures.items
