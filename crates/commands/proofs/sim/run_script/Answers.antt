use Rattle.script.specs.declared.header.Script.{Script}
use Rattle.std.proofs.Common.{◌∙◌, Result, Err, ap, true, false}
use Rattle.commands.specs.declared.sim.SimFault.{SimFault}
use Rattle.commands.proofs.Simulating.{same_error, simulated, told_whole}
use Rattle.commands.proofs.sim.run_script.Goals as goal

pub returns-in-Ok-replies_to-clause-replies : goal.returns-in-Ok-replies_to-clause-replies
returns-in-Ok-replies_to-clause-replies g c =
    let parts = c.in-Ok.parts in
    let script : Script = record { header = parts.0; blocks = parts.1 } in
    let done = c.replies_to.ensures in
    let is = c.in-Ok-replies_to.is in
    simulated true c.args.order.numbered c.args.text.now script parts.2.profile parts.2.guests.items c.deref.result.now (g.O.Write.contents c.args.out.now) (g.O.Write.contents c.replies_to.new.out)
    c.in-Ok.ensures.script c.in-Ok.ensures.profile c.in-Ok.ensures.profiles c.in-Ok.ensures.guests c.deref.ensures.value
    (told_whole c.replies_to.result _ _ is done.replies) (told_whole c.replies_to.result _ _ is done.within) (told_whole c.replies_to.result _ _ is done.admitted)

pub returns-clause-broken_off : goal.returns-clause-broken_off
returns-clause-broken_off g c = λ want.
    let parts = c.in-Ok.parts in
    let script : Script = record { header = parts.0; blocks = parts.1 } in
    let done = c.replies_to.ensures in
    let memory = c.in-Err-replies_to.is ∙ ap (λ (e : SimFault). let q : Result (Unit {0}) SimFault = Err e in q) (same_error _ _ want) in
    simulated false c.args.order.numbered c.args.text.now script parts.2.profile parts.2.guests.items c.deref.result.now (g.O.Write.contents c.args.out.now) (g.O.Write.contents c.replies_to.new.out)
    c.in-Ok.ensures.script c.in-Ok.ensures.profile c.in-Ok.ensures.profiles c.in-Ok.ensures.guests c.deref.ensures.value (done.broken_off memory) (done.begun_within memory) (done.begun_admitted memory)
