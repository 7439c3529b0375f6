use Rattle.std.proofs.Common.{ℕ, ◌≡◌, Some, ◌++◌, get_or, take, drop, length, sym, ap, subst, ◌∙◌, arith}
use Rattle.world.proofs.All.{bytes_at, fault_logs, guests_move, take_at, view_of}
use Rattle.world.proofs.world.World.apply_probe.Goals as goal

pub returns-in-Ok-debug_read-clause-logs : goal.returns-in-Ok-debug_read-clause-logs
returns-in-Ok-debug_read-clause-logs g c = fault_logs c.debug_read.ensures.moves

pub returns-in-Err-clause-logs : goal.returns-in-Err-clause-logs
returns-in-Err-clause-logs g c = fault_logs c.debug_read.ensures.moves

pub returns-in-Ok-debug_read-clause-guests : goal.returns-in-Ok-debug_read-clause-guests
returns-in-Ok-debug_read-clause-guests g c = guests_move c.debug_read.ensures.moves

pub returns-in-Err-clause-guests : goal.returns-in-Err-clause-guests
returns-in-Err-clause-guests g c = guests_move c.debug_read.ensures.moves

pub returns-in-Ok-debug_read-clause-answered : goal.returns-in-Ok-debug_read-clause-answered
returns-in-Ok-debug_read-clause-answered g c =
    let bytes = c.debug_read.new.bytes in
    let rest = drop (length bytes) c.in-Ok.bytes.items in
    let count : length c.as_mut_slice.result.now ≡ c.args.count = c.as_mut_slice.ensures.len ∙ c.in-Ok.ensures.len in
    let long : length bytes ≡ c.in-Ok.bytes.len = omega (arith, c.as_mut_slice.ensures.len) in
    let taken : take c.in-Ok.bytes.len (bytes ++ rest) ≡ bytes = take_at bytes rest c.in-Ok.bytes.len long in (
      ap length taken ∙ long ∙ c.in-Ok.ensures.len,
      λ t trust.
          let m = view_of (get_or c.args.self.now.tenants c.args.g t).guest in
          subst (λ (n : ℕ). bytes_at m c.args.address n ≡ Some bytes) count (c.in-Ok-debug_read.ensures.read trust t) ∙ ap Some (sym taken),
    )
