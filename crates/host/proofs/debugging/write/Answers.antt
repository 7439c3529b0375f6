use Rattle.items.specs.declared.item.What.TheVariants as what
use Rattle.host.proofs.Seeing.{happens_later}
use Rattle.host.proofs.debugging.write.Goals as goal

pub returns-in-None-more-clause-ok : goal.returns-in-None-more-clause-ok
returns-in-None-more-clause-ok g c = happens_later c.args.cell.now.front c.args.seat.now c.loop.seat (what.Write c.args.address c.args.bytes.now) c.write_once.new.seat c.loop.invariant.sees (c.in-Ok.ensures.written c.in-None-more.is)
