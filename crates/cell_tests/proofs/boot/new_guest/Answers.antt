use Rattle.std.proofs.Common.{ap, ◌∙◌}
use Rattle.elf32.specs.declared.image.Image.{Image}
use Rattle.mips_cp0.specs.declared.profile.Profile.TheVariants.{One}
use Rattle.cell_tests.proofs.Booted.{empty_intact}
use Rattle.cell_tests.proofs.boot.new_guest.Goals as goal

pub returns-clause-intact : goal.returns-clause-intact
returns-clause-intact g c =
    empty_intact One c.owner.result.value 16 c.in-Ok.guest (ap (λ (image : Image). image.segments.items) c.owner.ensures ∙ c.requires) c.in-Ok.ensures.cpu c.in-Ok.ensures.bus
    c.in-Ok.ensures.boot c.in-Ok.ensures.log
