use Rattle.std.proofs.Common.{ℕ, ◌≡◌, ◌≤◌, ◌+◌, ◌-◌, ◌++◌, List, length, ◌∙◌, ap, sym, subst, arith, inl, inr, length-append}
use Rattle.items.specs.declared.item.Item.{Item}
use Rattle.items.specs.Entries.{steps_of}
use Rattle.items.proofs.Runs.{steps_of-one, length-steps_of}
use Rattle.guest_log.specs.Runs.{run_count}
use Rattle.guest_log.proofs.log.Log.steps_with_room.Goals as goal

pub returns-then-is_full_after-clause-fewer : goal.returns-then-is_full_after-clause-fewer
returns-then-is_full_after-clause-fewer c fewer =
    let one : c.min.result ≡ 1 = omega (arith, fewer, c.min.ensures) in
    inl (subst (λ (n : ℕ). c.args.self.now.limit ≤ run_count (c.args.self.now.items ++ steps_of c.args.seat n)) (sym one)
    (subst (λ (l : List Item). c.args.self.now.limit ≤ run_count (c.args.self.now.items ++ l)) (sym (steps_of-one c.args.seat)) (c.is_full_after.ensures.0 c.if-is_full_after.true)))

pub returns-else-from-left-clause-fewer : goal.returns-else-from-left-clause-fewer
returns-else-from-left-clause-fewer c fewer =
    let left = 4611686018427387904 - c.len.result in
    let added : length (c.args.self.now.items ++ steps_of c.args.seat left) ≡ length c.args.self.now.items + left =
    length-append c.args.self.now.items (steps_of c.args.seat left) ∙ ap (λ (k : ℕ). length c.args.self.now.items + k) (length-steps_of c.args.seat left) in
    inr (omega (arith, added, c.len.ensures, c.requires.items))
