use Rattle.std.proofs.Common.{ℕ, ◌<◌, [], sym, subst, ◌∙◌}
use Rattle.accounts.proofs.Settled.{evict_moved, stays_moved, taken_was_free}
use Rattle.accounts.proofs.tests.evicted.Goals as goal

pub evict_in-requires-clause-slot : goal.evict_in-requires-clause-slot
evict_in-requires-clause-slot g c =
    subst (λ (n : ℕ). c.in-Some.slot < n) (sym c.requires.store)
    (c.meet_both.ensures.free_inside c.in-Some.slot (taken_was_free c.args.swap.now.book.free c.take.new.self.free c.in-Some.slot c.in-Some.ensures.taken))

pub evict_in-requires-clause-covered : goal.evict_in-requires-clause-covered
evict_in-requires-clause-covered g c = c.meet_both.ensures.covered _ [] c.requires.guest

pub settle_both-requires : goal.settle_both-requires
settle_both-requires g c = record {
  moved = evict_moved _ _ _ _ _ _ _ _ c.in-Some.slot _ _ _ (c.meet_both.ensures.guest ∙ c.requires.guest) (c.meet_both.ensures.table ∙ c.requires.table)
      (c.meet_both.ensures.slots ∙ c.requires.slots) c.in-Ok.ensures.frames (record { numbers = c.in-Some.ensures.taken; out = c.in-Some.ensures.out }) c.in-Ok.ensures.used
      c.evict_in.ensures.tickets c.evict_in.ensures.reads;
}

pub settle_slots-requires : goal.settle_slots-requires
settle_slots-requires g c = record {
  moved = stays_moved _ _ _ _ _ [] c.in-Some.slot _ c.take.new.self _ (c.meet_both.ensures.guest ∙ c.requires.guest) (c.meet_both.ensures.slots ∙ c.requires.slots)
      c.in-Err.ensures.unchanged (record { numbers = c.in-Some.ensures.taken; out = c.in-Some.ensures.out })
      (record { numbers = λ k. let a = c.give.ensures.given k in let e = c.in-Err.ensures.back in cc; out = c.give.ensures.out });
}
