use Rattle.std.proofs.Common.{◌∙◌, sym, rules}
use Rattle.word32.specs.Zeros.{zeros}
use Rattle.swapstore.proofs.Untouched.{untouched_bytes}
use Rattle.swapstore.proofs.stored_pages.StoredPages.read.Goals as goal

pub returns-else-slot-len : goal.returns-else-slot-len
unfolding zeros
returns-else-slot-len c =
    let here = c.self.inside in
    c.copy_from_slice-else-slot-len.ensures.after
    ∙ untouched_bytes here.reached.items c.args.self.now here.slots c.args.slot (sym c.self.view_is) (search rules) c.requires.slot (search rules)
