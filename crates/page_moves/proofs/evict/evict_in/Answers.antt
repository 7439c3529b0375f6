use Rattle.std.proofs.Common.{ℕ, subst}
use Rattle.std.specs.Option.{option_to_list}
use Rattle.swapstore.specs.Holding.{AreHeld, OthersStay}
use Rattle.guest_pages.specs.declared.page.Returned.{Returned}
use Rattle.guest_pages.specs.Pages.{page_at, shown}
use Rattle.page_moves.specs.Returns.{Frees}
use Rattle.page_moves.proofs.Evicting.{evicted_frames, evicted_reads, evicted_kept}
use Rattle.page_moves.proofs.evict.evict_in.Goals as goal

pub returns-in-Ok-clause-frames : goal.returns-in-Ok-clause-frames
returns-in-Ok-clause-frames g c = λ pool.
    let came = option_to_list c.freed.result in
    evicted_frames (g.P.Pages.pages c.args.pages.now) (g.P.Pages.pages c.swap_out.new.self) pool c.args.shares.now.entries c.freed.new.shares.entries came c.args.p c.args.slot c.in-Ok.digest
    c.requires.there c.swap_out.ensures.pages
    (subst (λ (r : Returned). Frees r c.args.shares.now.entries c.freed.new.shares.entries came) c.swap_out.ensures.returned c.freed.ensures.frees)

pub returns-in-Ok-clause-kept : goal.returns-in-Ok-clause-kept
returns-in-Ok-clause-kept g c = λ view none k.
    let ps = g.P.Pages.pages c.args.pages.now in
    let held = g.S.SwapStore.held c.args.store.now in
    let held' = g.S.SwapStore.held c.write_page.new.store in
    evicted_kept held held' view ps (g.P.Pages.pages c.swap_out.new.self) c.args.p c.args.slot c.in-Ok.digest
    c.requires.there c.requires.resident c.swap_out.ensures.pages c.in-Ok.ensures.digest
    (subst (λ (n : ℕ). AreHeld (held' n) (shown (page_at ps c.args.p))) c.number.ensures c.in-Ok.ensures.written)
    (subst (λ (n : ℕ). OthersStay n held held') c.number.ensures c.write_page.ensures.others)
    none k

pub returns-in-Ok-clause-reads : goal.returns-in-Ok-clause-reads
returns-in-Ok-clause-reads g c =
    let came = option_to_list c.freed.result in
    evicted_reads (g.P.Pages.pages c.args.pages.now) (g.P.Pages.pages c.swap_out.new.self) c.args.shares.now.entries c.freed.new.shares.entries came c.args.p c.args.slot c.in-Ok.digest
    c.requires.there c.swap_out.ensures.pages
    (subst (λ (r : Returned). Frees r c.args.shares.now.entries c.freed.new.shares.entries came) c.swap_out.ensures.returned c.freed.ensures.frees)
    c.requires.covered
