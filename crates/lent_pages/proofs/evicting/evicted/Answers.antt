use Rattle.std.proofs.Common.{◌∙◌, [], arith, ℕ, ◌+◌, ap}
use Rattle.frames.specs.Counts.{one_at, count_of}
use Rattle.accounts.proofs.Settled.{evict_moved, stays_moved, taken_was_free}
use Rattle.lent_pages.proofs.Slots.{slot_gone_inside}
use Rattle.lent_pages.proofs.Frames.{frames_from_none}
use Rattle.lent_pages.proofs.Holding.{kept_more, noted_by}
use Rattle.lent_pages.proofs.evicting.evicted.Goals as goal

pub evict_in-requires-clause-slot : goal.evict_in-requires-clause-slot
evict_in-requires-clause-slot g c =
    let free = taken_was_free c.args.swap.now.slots.free c.take.new.self.free c.in-Some.slot c.in-Some.ensures.taken in
    omega (arith, c.meet_both.ensures.free_inside c.in-Some.slot free, c.requires.swap.size)

pub evict_in-requires-clause-covered : goal.evict_in-requires-clause-covered
evict_in-requires-clause-covered g c = c.meet_both.ensures.covered (g.P.Pages.pages c.args.pages.now) [] c.requires.share

pub settle_both-requires : goal.settle_both-requires
settle_both-requires g c = record {
  moved = evict_moved _ _ _ _ _ _ c.args.table.now.shares.entries _ c.in-Some.slot c.args.swap.now.slots _ _ (c.meet_both.ensures.guest ∙ c.requires.share) (c.meet_both.ensures.table ∙ c.requires.table)
      (c.meet_both.ensures.slots ∙ c.requires.swap.account) c.in-Ok.ensures.frames (record { numbers = c.in-Some.ensures.taken; out = c.in-Some.ensures.out }) c.in-Ok.ensures.used c.evict_in.ensures.tickets
      c.evict_in.ensures.reads;
}

pub settle_slots-requires : goal.settle_slots-requires
settle_slots-requires g c = record {
  moved = stays_moved _ _ _ _ _ [] c.in-Some.slot c.args.swap.now.slots c.take.new.self _ (c.meet_both.ensures.guest ∙ c.requires.share) (c.meet_both.ensures.slots ∙ c.requires.swap.account) c.in-Err.ensures.unchanged
      (record { numbers = c.in-Some.ensures.taken; out = c.in-Some.ensures.out })
      (record { numbers = λ k. c.give.ensures.given k ∙ ap (λ (n : ℕ). count_of k c.take.new.self.free + one_at k n) c.in-Err.ensures.back; out = c.give.ensures.out });
}

pub returns-in-Ok-clause-slot : goal.returns-in-Ok-clause-slot
returns-in-Ok-clause-slot g c =
    let free = taken_was_free c.args.swap.now.slots.free c.take.new.self.free c.in-Some.slot c.in-Some.ensures.taken in
    slot_gone_inside (g.P.Pages.pages c.args.pages.now) (g.P.Pages.pages c.evict_in.new.pages) c.args.p c.in-Some.slot c.args.books.now.key.slots _ c.requires.there c.in-Ok.ensures.page
    (c.meet_both.ensures.free_inside c.in-Some.slot free)

pub returns-in_default-clause-err : goal.returns-in_default-clause-err
returns-in_default-clause-err g c =
    let e = c.meet_both.ensures.exact (g.P.Pages.pages c.args.pages.now) [] c.requires.share in
    record { entries = c.args.table.now.shares.entries; pool = e.0; book = c.args.swap.now.slots; exact = e.1; none = c.in_default.ensures.none }

pub returns-in-Ok-clause-frames : goal.returns-in-Ok-clause-frames
returns-in-Ok-clause-frames g c = frames_from_none _ _ _ _ _ c.in-Ok.ensures.frames

pub returns-in-Ok-clause-kept : goal.returns-in-Ok-clause-kept
returns-in-Ok-clause-kept g c view =
    let ps = g.P.Pages.pages c.args.pages.now in
    let free = taken_was_free c.args.swap.now.slots.free c.take.new.self.free c.in-Some.slot c.in-Some.ensures.taken in
    kept_more c.args.contents.now.id c.args.written.now c.note_written.new.written view ps (g.P.Pages.pages c.evict_in.new.pages) c.args.p c.in-Some.slot c.requires.there c.requires.resident c.in-Ok.ensures.page
    (noted_by c.args.contents.now.id c.note_written.new.written _ ps (g.P.Pages.pages c.of-before.result.value) c.args.p c.in-Some.slot c.number-number.result (ap g.P.Pages.pages c.of-before.ensures) c.number-number.ensures c.note_written.ensures.written)
    (c.meet_both.ensures.free_apart ps [] c.requires.share c.in-Some.slot free)
