use Rattle.std.proofs.Common.{sym, subst}
use Rattle.elf32.specs.Files.{StandsFor}
use Rattle.masm.proofs.Loadable.{loadable}
use Rattle.masm.proofs.assembly.assemble.Goals as goal

pub returns-clause-file : goal.returns-clause-file
returns-clause-file c =
    let image = c.in_ok-image.image in
    let found = c.in_ok-image.ensures.image in
    let stands = c.written_file_stands_for_its_image.ensures.stands image 131072 (loadable c.args.text.now found.0 image found.1 found.2) in
    record { listing = found.0; image = image; means = found.1; assembled = found.2; written = subst (λ file. StandsFor file 131072 image) (sym c.in_ok-write.ensures) stands }
