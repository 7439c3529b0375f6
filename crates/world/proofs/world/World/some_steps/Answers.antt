use Rattle.std.proofs.Common.{ℕ, ◌≡◌, ◌++◌, get_or, refl, ap, subst, ◌∙◌, arith}
use Rattle.world.proofs.All.{NoneNeeds, GuestBusIs, around_books, log_at, moment_of, pages_at, same_logs, steps_for, steps_logs, view_at}
use Rattle.world.proofs.Choices.{booked_where}
use Rattle.world.proofs.Runs.{steps_none}
use Rattle.world.proofs.Unsupplied.{view_moves, no_steps}
use Rattle.world.proofs.world.World.some_steps.Goals as goal

pub returns-then-steps-gt0-clause-logs : goal.returns-then-steps-gt0-clause-logs
returns-then-steps-gt0-clause-logs g c = λ h.
    steps_logs c.args.g c.args.self.now.tenants c.run_once-ran.new.self.tenants c.in-Ok.ran.0 c.requires.guest c.in-Ok.ensures.adds h

pub returns-then-steps-gt0-clause-view : goal.returns-then-steps-gt0-clause-view
returns-then-steps-gt0-clause-view g c = λ t.
    view_moves (get_or c.args.self.now.tenants c.args.g t) (get_or c.run_once-ran.new.self.tenants c.args.g t) c.in-Ok.ran.0 (c.in-Ok.ensures.adds.so t) (c.run_once-ran.ensures.stays.so t)

pub returns-in-Err-clause-none : goal.returns-in-Err-clause-none
returns-in-Err-clause-none g c = λ words.
    let s = g.S.SwapStore in
    let w = c.args.self.now in
    let w' = c.run_once-ran.new.self in
    let e = c.run_once-ran.ensures in
    record {
      words = refl;
      logs = λ h. same_logs c.args.g w.tenants w'.tenants c.requires.guest c.in-Err.ensures.unchanged.0 h ∙ steps_none h c.args.g (log_at w.tenants h);
      stays = e.stays;
      needs_none = λ trust t. no_steps (view_at w c.args.g t) (pages_at w c.args.g t) (pages_at w' c.args.g t) (ap (λ (b : GuestBusIs). b.pages) (c.in-Err.ensures.unchanged.0.so t).bus);
      booked = booked_where {facts = s} (around_books e.around) (moment_of words w') c.is_sound.ensures.books;
    }

pub returns-then-steps-gt0-clause-made : goal.returns-then-steps-gt0-clause-made
returns-then-steps-gt0-clause-made g c = λ words.
    let s = g.S.SwapStore in
    let w = c.args.self.now in
    let w' = c.run_once-ran.new.self in
    let e = c.run_once-ran.ensures in
    record {
      words = refl;
      logs = λ h. steps_logs c.args.g w.tenants w'.tenants c.in-Ok.ran.0 c.requires.guest c.in-Ok.ensures.adds h;
      stays = e.stays;
      needs_none = λ trust t. c.in-Ok.ensures.needs_none trust t;
      booked = booked_where {facts = s} (around_books e.around) (moment_of words w') c.is_sound.ensures.books;
    }

pub returns-clause-none : goal.returns-clause-none
returns-clause-none g c = λ words.
    let s = g.S.SwapStore in
    let w = c.args.self.now in
    let w' = c.run_once-ran.new.self in
    let e = c.run_once-ran.ensures in
    let zero : c.in-Ok.ran.0 ≡ 0 = omega (arith, c.if-steps-gt0.false) in
    record {
      words = refl;
      logs = λ h.
          subst (λ (n : ℕ). log_at w'.tenants h ≡ log_at w.tenants h ++ steps_for h c.args.g n) zero (steps_logs c.args.g w.tenants w'.tenants c.in-Ok.ran.0 c.requires.guest c.in-Ok.ensures.adds h);
      stays = e.stays;
      needs_none = λ trust t.
          subst (λ (n : ℕ). NoneNeeds n (view_at w c.args.g t) (pages_at w c.args.g t) (pages_at w' c.args.g t)) zero (c.in-Ok.ensures.needs_none trust t);
      booked = booked_where {facts = s} (around_books e.around) (moment_of words w') c.is_sound.ensures.books;
    }
