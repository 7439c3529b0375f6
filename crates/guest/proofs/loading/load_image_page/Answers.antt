use Rattle.std.proofs.Common.{ap, ◌∙◌}
use Rattle.word32.specs.Zeros.{zeros}
use Rattle.guest.proofs.BootPages.{boot_page}
use Rattle.guest.proofs.loading.load_image_page.Goals as goal

pub returns-clause-bytes : goal.returns-clause-bytes
returns-clause-bytes c =
    boot_page c.args.image.now c.deref.result.now c.args.p c.clear.new.bytes c.load_segments.new.bytes
    c.deref.ensures.value (c.clear.ensures.bytes ∙ ap zeros c.requires.page) c.load_segments.ensures.parts
