use Rattle.std.proofs.Common.{List, ap, length, ◌∙◌, arith}
use Rattle.swapstore.specs.Memories.{sound_are_told, StoredIs}
use Rattle.commands.proofs.Hosting.{booted, booted_alone, booted_one}
use Rattle.commands.proofs.hosted.boot_world.Goals as goal

pub returns-in-Ok-clause-alone : goal.returns-in-Ok-clause-alone
returns-in-Ok-clause-alone c =
    let w = c.in-Ok.world in
    let items = c.in_ok-guests.ensures.items in
    let at = booted 1048576 c.in_ok-guests.guests.items _ w.tenants items c.in-Ok.ensures.booted in
    let sound = c.in-Ok.ensures.store.honest.1 c.in_ok-store.ensures.sound in
    booted_alone _ _ _ c.args.pages w (booted_one 1048576 c.in_ok-guests.guests.items _ w.tenants items c.in-Ok.ensures.booted) (sound_are_told w.store sound) c.is_sound.ensures at.count
    (omega (arith, c.in-Ok.ensures.frames)) (c.in-Ok.ensures.store.slots ∙ ap (λ (ps : List StoredIs). length ps) c.in_ok-store.ensures.pages) sound

pub returns-in-Ok-clause-machine : goal.returns-in-Ok-clause-machine
returns-in-Ok-clause-machine c =
    (booted 1048576 c.in_ok-guests.guests.items _ c.in-Ok.world.tenants c.in_ok-guests.ensures.items c.in-Ok.ensures.booted).machine

pub returns-in-Ok-clause-log : goal.returns-in-Ok-clause-log
returns-in-Ok-clause-log c = (booted 1048576 c.in_ok-guests.guests.items _ c.in-Ok.world.tenants c.in_ok-guests.ensures.items c.in-Ok.ensures.booted).items

pub returns-in-Ok-clause-limit : goal.returns-in-Ok-clause-limit
returns-in-Ok-clause-limit c = (booted 1048576 c.in_ok-guests.guests.items _ c.in-Ok.world.tenants c.in_ok-guests.ensures.items c.in-Ok.ensures.booted).limit
