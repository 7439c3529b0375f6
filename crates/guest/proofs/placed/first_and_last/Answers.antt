use Rattle.std.proofs.Common.{ℕ, ◌≡◌, ◌+◌, ◌%◌, ◌^◌, refl, sym, ap, subst, ◌∙◌, arith}
use Rattle.machine.specs.Step.{Machine, machine_with}
use Rattle.machine.specs.Replies.{probe}
use Rattle.guest_bus.specs.Buses.{board_of}
use Rattle.guest.specs.Guests.{LiesIn}
use Rattle.guest.proofs.Placing.{none_at, more_placed}
use Rattle.guest.proofs.placed.first_and_last.Goals as goal

pub returns-in_default-clause-none : goal.returns-in_default-clause-none
returns-in_default-clause-none c = λ e.
    let m : Machine = machine_with c.args.cpu.now (board_of c.args.bus.now) in
    let at : (c.args.address + 0) % 2 ^ 32 ≡ c.args.address = omega (arith, c.ranges.address.fits) in
    none_at m c.args.address 0 c.args.count c.requires.some (ap (probe m) at ∙ c.in_default.ensures.none refl)

pub returns-in-None-clause-none : goal.returns-in-None-clause-none
returns-in-None-clause-none c = λ e.
    let m : Machine = machine_with c.args.cpu.now (board_of c.args.bus.now) in
    none_at m c.args.address c.loop-k.k c.args.count c.loop-k-test.true (c.in-None.ensures.none refl)

pub loop-k-preserved : goal.loop-k-preserved
loop-k-preserved c =
    let m : Machine = machine_with c.args.cpu.now (board_of c.args.bus.now) in
    let page = c.in-Some-page_reached.page in
    record {
      placed = more_placed m c.args.address c.loop-k.k page c.loop-k.invariant.placed c.in-Some-page_reached.ensures.page;
      last = λ j is.
          let same : j ≡ c.loop-k.k = omega (arith, is) in
          subst (λ (k : ℕ). LiesIn m ((c.args.address + k) % 2 ^ 32) page) (sym same) c.in-Some-page_reached.ensures.page;
    }
