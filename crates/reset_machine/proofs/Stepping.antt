-- Steps after steps.
use Rattle.std.proofs.Common.{ℕ, zero, suc, ◌≡◌, ◌+◌, ◌<◌, ◌≤◌, ◌&&◌, not, Bool, true, false, refl, sym, ap, subst, ◌∙◌, arith, add-one}
use Rattle.mips_cp0.specs.Bits.{has_bits}
use Rattle.mips_cp0.specs.Status.{status_exl}
use Rattle.machine.specs.Step.{Machine, step}
use Rattle.mips_fast.specs.Runs.{steps, AreAdmitted, IsAdmitted, KeepsStatus}
use Rattle.runs.specs.declared.ending.Until.{Until}
use Rattle.runs.specs.Coverage.{CoverageIs, covered, with_pc}
use Rattle.runs.specs.Endings.{IsPassed}
use Rattle.runs.specs.Entries.{has_entered, is_vector}
use Rattle.runs.specs.Runs.{after_steps}
use Rattle.runs.proofs.Covered.{covered_then}
use Rattle.reset_machine.specs.Past.{goes_past}
use Rattle.reset_machine.proofs.Past.{not_ended}

-- the steps of a run are those that a machine makes
pub same_steps : (count : ℕ) (m : Machine) → steps count m ≡ after_steps count m
same_steps zero m = refl
same_steps (suc n) m = ap step (same_steps n m)

steps_more : (more made : ℕ) (m : Machine) → after_steps more (after_steps made m) ≡ after_steps (made + more) m
steps_more zero made m = let same : made ≡ made + 0 = omega arith in ap (λ (n : ℕ). after_steps n m) same
steps_more (suc k) made m =
    let next : suc (made + k) ≡ made + suc k = omega arith in
    ap step (steps_more k made m) ∙ ap (λ (n : ℕ). after_steps n m) next

-- steps after those that were made, and one more
pub more_steps : (made more : ℕ) (m old new : Machine) → old ≡ after_steps made m → new ≡ after_steps more old → new ≡ after_steps (made + more) m
more_steps made more m old new before now = now ∙ ap (after_steps more) before ∙ steps_more more made m

pub one_step_more : (made : ℕ) (m old new : Machine) → old ≡ after_steps made m → new ≡ step old → new ≡ after_steps (made + 1) m
one_step_more made m old new before now = now ∙ ap step before ∙ ap (λ (n : ℕ). after_steps n m) (sym (add-one made))

-- ---- steps that go past states

-- where Status stays, no exception is entered
no_entry : (before now : Machine) → now.cpu.cp0.status ≡ before.cpu.cp0.status → has_entered before now ≡ false
no_entry before now same =
    ap (λ (status : ℕ). not (has_bits status_exl before.cpu.cp0.status) && has_bits status_exl status && is_vector before.cpu.cp0.status now.cpu.pc) same
    ∙ never (has_bits status_exl before.cpu.cp0.status) (is_vector before.cpu.cp0.status now.cpu.pc)
  where
    never : (b vector : Bool) → (not b && b && vector) ≡ false
    never true vector = refl
    never false vector = refl

pub past_steps : (until : Until) (count : ℕ) (m : Machine) → AreAdmitted (goes_past until) count m → KeepsStatus count m
    → (k : ℕ) → k < count → IsPassed until (after_steps k m)
past_steps until count m admitted kept k below =
    let here : k ≤ count = omega (arith, below) in
    let next : suc k ≤ count = omega (arith, below) in
    record {
      nowhere = not_ended until (after_steps k m) (subst (λ (x : Machine). IsAdmitted (goes_past until) x) (same_steps k m) (admitted k below));
      no_entry = no_entry (after_steps k m) (step (after_steps k m))
          (ap (λ (x : Machine). (step x).cpu.cp0.status) (sym (same_steps k m)) ∙ kept (suc k) next ∙ sym (kept k here) ∙ ap (λ (x : Machine). x.cpu.cp0.status) (same_steps k m));
    }

-- the coverage after one step more
pub one_more_covered : (made : ℕ) (m old : Machine) (a b d : CoverageIs) → b ≡ covered made m a → old ≡ after_steps made m → d ≡ with_pc old b → d ≡ covered (made + 1) m a
one_more_covered made m old a b d before at now = covered_then a b d made 1 m old before at now
