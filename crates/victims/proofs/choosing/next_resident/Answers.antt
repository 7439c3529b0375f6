use Rattle.std.proofs.Common.{subst}
use Rattle.victims.specs.Victims.{NoneResident}
use Rattle.victims.proofs.Searching.{none_at_all}
use Rattle.victims.proofs.choosing.next_resident.Goals as goal

pub unreachable-requires : goal.unreachable-requires
unreachable-requires c =
    let pages = c.args.guest.now.bus.pages in
    none_at_all c.args.spared.now pages c.args.start (subst (NoneResident c.args.spared.now pages c.args.start) c.page_count.ensures.value c.in_default.ensures.none) c.in-None.ensures.none c.requires.some
