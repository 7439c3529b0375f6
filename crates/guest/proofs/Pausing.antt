-- What is said of each step of a run to its pause.
use Rattle.std.proofs.Common.{ℕ, zero, suc, ◌≡◌, ◌+◌, ◌<◌, inl, inr, Option, Some, None, refl, sym, ap, subst, ◌∙◌, arith}
use Rattle.std.proofs.lemmas.Bool.{cases_lt}
use Rattle.items.specs.Entries.{steps_of}
use Rattle.machine.specs.Items.{run}
use Rattle.machine.specs.Bus.{Lacks}
use Rattle.machine.specs.Processor.{Processor}
use Rattle.machine.specs.Step.{Machine, machine_with}
use Rattle.machine.specs.Accesses.{accesses, first_lack}
use Rattle.machine.specs.Agreeing.{GivenAreZeros}
use Rattle.machine.specs.Given.{step_given}
use Rattle.mips_fast.specs.Runs.{steps}
use Rattle.guest_pages.specs.Pages.{AreWhole}
use Rattle.guest_pages.specs.Outline.{outline}
use Rattle.guest_bus.specs.Buses.{GuestBusIs, IsSettled, board_of}
use Rattle.guest_bus.specs.Lacking.{lacks_in}
use Rattle.guest.specs.declared.progress.Pause.{Pause}
use Rattle.guest.specs.declared.progress.Pause.TheVariants as pause
use Rattle.guest.specs.Guests.{last_given, HasPaused, IsMade, steps_by}
use Rattle.guest.specs.Views.{Shows}
use Rattle.guest.proofs.Showing.{shows_agree}
use Rattle.guest.proofs.Running.{paused_later, last_of_more}
use Rattle.guest.proofs.Quiet.{Together, together_after, same_accesses, same_given, steps_are_run, lacks_alike, GoneOn}

-- ---- of a processor over pages

module _ (cpu cpu' : Processor) (b b' : GuestBusIs) (count : ℕ) (gone : GoneOn cpu cpu' b b' count) where
  abbrev start : Machine
  start = machine_with cpu (board_of b)

  pub gone_lacking : (seat k : ℕ) → k < count → first_lack (lacks_in b.pages) (accesses (run (steps_of seat k) start)) ≡ None
  gone_lacking seat k below =
      ap (λ (m : Machine). first_lack (lacks_in b.pages) (accesses m)) (sym (steps_are_run seat k start)) ∙ (gone.quiet k below).lacking

  pub gone_given : (seat k : ℕ) → k < count → step_given (run (steps_of seat k) start) ≡ None
  gone_given seat k below = ap step_given (sym (steps_are_run seat k start)) ∙ (gone.quiet k below).given

  none_last : (seat n : ℕ) → n ≡ count → last_given seat n start ≡ None
  none_last seat zero e = refl
  none_last seat (suc before) e = gone_given seat before (omega (arith, e))

  pub gone_paused : (seat : ℕ) → HasPaused (last_given seat count start) b.pages None b'.pages
  gone_paused seat = (none_last seat count refl, gone.same)

  -- the machine at which the run pauses
  at_last : (seat : ℕ) → machine_with cpu' (board_of b') ≡ run (steps_of seat count) start
  at_last seat = gone.moves ∙ steps_are_run seat count start

  module _ (cpu'' : Processor) (b'' : GuestBusIs) where
    pub pause_lacking : (p : Pause) → (IsMade (Some p) → first_lack (lacks_in b'.pages) (accesses (machine_with cpu' (board_of b'))) ≡ None)
        → (seat k : ℕ) → k < count + steps_by p → first_lack (lacks_in b.pages) (accesses (run (steps_of seat k) start)) ≡ None
    pause_lacking (pause.Need page why) none seat k below = gone_lacking seat k (omega (arith, below))
    pause_lacking (pause.Gave returned) none seat k below = elim (cases_lt k count) [
      | inl before ↦ gone_lacking seat k before
      | inr last ↦
          let e : count ≡ k = omega (arith, below, last) in
          subst (λ (n : ℕ). first_lack (lacks_in b.pages) (accesses (run (steps_of seat n) start)) ≡ None) e
          (ap (λ (m : Machine). first_lack (lacks_in b.pages) (accesses m)) (sym (at_last seat))
          ∙ ap (λ (lacks : Lacks). first_lack lacks (accesses (machine_with cpu' (board_of b')))) (sym (lacks_alike b.pages b'.pages gone.same)) ∙ none tt)
    ]

    pub pause_given : (p : Pause) (seat k : ℕ) → k + 1 < count + steps_by p → step_given (run (steps_of seat k) start) ≡ None
    pause_given (pause.Need page why) seat k below = gone_given seat k (omega (arith, below))
    pause_given (pause.Gave returned) seat k below = gone_given seat k (omega (arith, below))

    pub pause_paused : (p : Pause) → (IsMade (Some p) → HasPaused (step_given (machine_with cpu' (board_of b'))) b'.pages (Some p) b''.pages)
        → ((IsMade (Some p) → ⊥) → (cpu'' ≡ cpu') × (b'' ≡ b')) → (seat : ℕ) → HasPaused (last_given seat (count + steps_by p) start) b.pages (Some p) b''.pages
    pause_paused (pause.Need page why) paused unchanged seat =
        (none_last seat (count + 0) (omega arith), ap (λ (bus : GuestBusIs). outline bus.pages) (unchanged (λ never. never)).1 ∙ gone.same)
    pause_paused (pause.Gave returned) paused unchanged seat =
        subst (λ (given : Option ℕ). HasPaused given b.pages (Some (pause.Gave returned)) b''.pages) (ap step_given (at_last seat) ∙ sym (last_of_more seat count start))
        (paused_later (step_given (machine_with cpu' (board_of b'))) b.pages b'.pages b''.pages (Some (pause.Gave returned)) gone.same (paused tt))

-- ---- of the machine whose processor and pages they are

module _ (seat count : ℕ) (m : Machine) (cpu : Processor) (b : GuestBusIs) (whole : AreWhole b.pages) (settled : IsSettled b) (s : Shows m cpu b) (zeros_given : GivenAreZeros m.board)
    (lacking : (seat k : ℕ) → k < count → first_lack (lacks_in b.pages) (accesses (run (steps_of seat k) (machine_with cpu (board_of b)))) ≡ None)
    (given : (seat k : ℕ) → k + 1 < count → step_given (run (steps_of seat k) (machine_with cpu (board_of b))) ≡ None) where
  abbrev standing_at : ℕ → Machine
  standing_at k = steps k (machine_with cpu (board_of b))

  none_lacking : (k : ℕ) → k < count → first_lack (lacks_in b.pages) (accesses (standing_at k)) ≡ None
  none_lacking k below =
      ap (λ (n : Machine). first_lack (lacks_in b.pages) (accesses n)) (steps_are_run seat k (machine_with cpu (board_of b))) ∙ lacking seat k below

  none_given : (k : ℕ) → k + 1 < count → step_given (standing_at k) ≡ None
  none_given k below = ap step_given (steps_are_run seat k (machine_with cpu (board_of b))) ∙ given seat k below

  at_first : Together b.pages m (machine_with cpu (board_of b)) m
  at_first = record {
    cpu = s.cpu;
    agree = shows_agree m cpu b whole settled s;
    zeros_given = zeros_given;
    size = refl;
    away = λ p swapped. refl;
  }

  together_at : (k : ℕ) → k < count → Together b.pages m (standing_at k) (steps k m)
  together_at k below = together_after b.pages k (machine_with cpu (board_of b)) m at_first (λ j before. record {
    lacking = none_lacking j (omega (arith, before, below));
    given = none_given j (omega (arith, before, below));
  })

  pub view_lacking : (k : ℕ) → k < count → first_lack (lacks_in b.pages) (accesses (run (steps_of seat k) m)) ≡ None
  view_lacking k below =
      ap (λ (n : Machine). first_lack (lacks_in b.pages) (accesses n)) (sym (steps_are_run seat k m))
      ∙ ap (first_lack (lacks_in b.pages)) (same_accesses b.pages m (standing_at k) (steps k m) (together_at k below) (none_lacking k below))
      ∙ none_lacking k below

  -- each step gives what the machine's gives
  alike_given : (k : ℕ) → k < count → step_given (run (steps_of seat k) m) ≡ step_given (run (steps_of seat k) (machine_with cpu (board_of b)))
  alike_given k below =
      ap step_given (sym (steps_are_run seat k m))
      ∙ same_given b.pages m (standing_at k) (steps k m) (together_at k below) (none_lacking k below)
      ∙ ap step_given (steps_are_run seat k (machine_with cpu (board_of b)))

  pub view_given : (k : ℕ) → k + 1 < count → step_given (run (steps_of seat k) m) ≡ None
  view_given k below = alike_given k (omega (arith, below)) ∙ given seat k below

  last_by_count : (n : ℕ) → n ≡ count → last_given seat n (machine_with cpu (board_of b)) ≡ last_given seat n m
  last_by_count zero e = refl
  last_by_count (suc before) e = sym (alike_given before (omega (arith, e)))

  pub view_last : last_given seat count (machine_with cpu (board_of b)) ≡ last_given seat count m
  view_last = last_by_count count refl
