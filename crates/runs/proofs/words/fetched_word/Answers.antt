use Rattle.std.proofs.Common.{◌≡◌, ◌%◌, ◌∙◌, sym, Ok, false, arith}
use Rattle.mips_tlb.specs.Translation.{translation}
use Rattle.mips_tlb.specs.declared.kind.Kind.TheVariants.{Fetch}
use Rattle.machine.specs.Board.{is_given_page}
use Rattle.word32.specs.Pages.{page_number}
use Rattle.runs.proofs.Fetches.{read_fetch}
use Rattle.runs.proofs.words.fetched_word.Goals as goal

pub returns : goal.returns
returns g c =
    let m = g.M.Runnable.state c.args.machine.now in
    let aligned : c.args.address % 4 ≡ 0 = omega arith in
    let found : translation m.cpu.tlb m.cpu.cp0 Fetch c.args.address ≡ Ok c.in-Ok.at = cc in
    let apart : is_given_page (page_number c.in-Ok.at) m.board ≡ false = cc in
    c.word_read.ensures ∙ sym (read_fetch m c.args.address c.in-Ok.at c.ranges.address.fits aligned found apart)
