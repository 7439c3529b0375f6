-- Coverage after steps, and after more.
use Rattle.std.proofs.Common.{ℕ, zero, suc, ◌≡◌, ◌+◌, ◌/◌, ◌&&◌, not, nat_lt, if◌then◌else◌, Bool, true, false, [], ◌∷◌, ◌++◌, Result, Ok, Err, refl, sym, ap, ◌∙◌, arith, le-ltb}
use Rattle.mips_cp0.specs.declared.exception.Exc.{Exc}
use Rattle.mips_tlb.specs.declared.kind.Kind.TheVariants.{Fetch}
use Rattle.machine.specs.declared.access.Size.TheVariants.{Word}
use Rattle.machine.specs.Places.{place}
use Rattle.machine.specs.Step.{Machine}
use Rattle.runs.specs.Coverage.{CoverageIs, covered, is_reached, no_coverage, with_pc, with_place, with_word}
use Rattle.runs.specs.Runs.{after_steps}
use Rattle.runs.proofs.Ends.{steps_then}

-- after some steps and those that followed
steps_covered : (j k : ℕ) (m : Machine) (c : CoverageIs) → covered k (after_steps j m) (covered j m c) ≡ covered (j + k) m c
steps_covered j zero m c = let none : j ≡ j + 0 = omega arith in ap (λ (n : ℕ). covered n m c) none
steps_covered j (suc k) m c =
    let more : suc (j + k) ≡ j + suc k = omega arith in
    ap (with_pc (after_steps k (after_steps j m))) (steps_covered j k m c)
    ∙ ap (λ (x : Machine). with_pc x (covered (j + k) m c)) (steps_then j k m)
    ∙ ap (λ (n : ℕ). covered n m c) more

pub covered_then : (a b d : CoverageIs) (j k : ℕ) (m n : Machine) → b ≡ covered j m a → n ≡ after_steps j m → d ≡ covered k n b → d ≡ covered (j + k) m a
covered_then a b d j k m n first at second =
    second ∙ ap (λ (x : Machine). covered k x b) at ∙ ap (covered k (after_steps j m)) first ∙ steps_covered j k m a

-- ---- where no word is told of

untold : (word : ℕ) (c : CoverageIs) → c.words ≡ 0 → with_word word c ≡ c
untold word c none = by (nat_lt word c.words) (le-ltb word c.words (omega (arith, none)))
  where
    by : (b : Bool) → b ≡ false → (if b && not (is_reached word c.reached) then record c { reached = c.reached ++ word ∷ [] } else c) ≡ c
    by true is = absurd (cc)
    by false is = refl

place_untold : (led : Result ℕ Exc) (c : CoverageIs) → c.words ≡ 0 → with_place led c ≡ c
place_untold (Ok at) c none = untold (at / 4) c none
place_untold (Err e) c none = refl

pub pc_untold : (m : Machine) (c : CoverageIs) → c.words ≡ 0 → c ≡ with_pc m c
pc_untold m c none = sym (place_untold (place Fetch Word m.cpu m.cpu.pc) c none)

pub steps_untold : (count : ℕ) (m : Machine) (c : CoverageIs) → c.words ≡ 0 → c ≡ covered count m c
steps_untold zero m c none = refl
steps_untold (suc k) m c none = pc_untold (after_steps k m) c none ∙ ap (with_pc (after_steps k m)) (steps_untold k m c none)

-- a machine that keeps none
pub uncovered : (count : ℕ) (m : Machine) → no_coverage ≡ covered count m no_coverage
uncovered count m = steps_untold count m no_coverage refl
