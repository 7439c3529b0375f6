use Rattle.std.proofs.Common.{ap}
use Rattle.elf32.specs.declared.image.Image.{Image}
use Rattle.machine.specs.Boot.{boot_machine}
use Rattle.load_and_go.proofs.Told.{held_by}
use Rattle.load_and_go.proofs.boot.guest_of_text.Goals as goal

pub returns-clause-holds : goal.returns-clause-holds
returns-clause-holds c =
    let h = c.in_ok-image.ensures.holds in
    let booted = ap (λ (image : Image). boot_machine c.args.profile image c.args.pages) c.in_ok-shared.ensures in
    held_by c.args.text.now _ _ booted (h.0, h.1, h.2 c.args.profile)
