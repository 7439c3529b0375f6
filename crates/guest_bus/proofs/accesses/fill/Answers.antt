use Rattle.std.proofs.Common.{◌≡◌, ◌+◌, ℕ, List, length, get_or, set, sym, ap, ◌∙◌, arith}
use Rattle.word32.specs.Pages.{page_number}
use Rattle.guest_pages.specs.declared.page.Page.{Page}
use Rattle.guest_pages.specs.Pages.{kind_at, memory_of}
use Rattle.guest_pages.proofs.Outlines.{outline_kind}
use Rattle.guest_bus.proofs.Filling.{fill_more}
use Rattle.guest_bus.proofs.accesses.fill.Goals as goal

-- the outline stays, so each page is still where it was
pub write_byte-requires-clause-private : goal.write_byte-requires-clause-private
write_byte-requires-clause-private c =
    let p = page_number (c.args.at + c.loop-k.k) in
    rw c.number-first.ensures
    (sym (outline_kind c.loop-k.map p)
    ∙ ap (λ (pages : List Page). kind_at pages p) c.loop-k.invariant.outline
    ∙ outline_kind c.args.map.now p
    ∙ c.requires.private c.loop-k.k c.loop-k-test.true)

pub loop-k-preserved : goal.loop-k-preserved
loop-k-preserved c =
    let k = c.loop-k.k in
    let memory = memory_of c.args.map.now in
    record {
      memory = c.write_byte.ensures.memory
          ∙ ap (λ (first : ℕ). set (memory_of c.loop-k.map) (first + k) (get_or c.args.bytes.now k 0)) c.number-first.ensures
          ∙ ap (λ (bytes : List ℕ). set bytes (c.args.at + k) (get_or c.args.bytes.now k 0)) c.loop-k.invariant.memory
          ∙ fill_more memory c.args.bytes.now c.args.at k (omega (arith, c.len-pages.ensures.memory, c.requires.inside, c.loop-k-test.true)) c.loop-k-test.true;
      outline = c.write_byte.ensures.outline ∙ c.loop-k.invariant.outline;
    }
