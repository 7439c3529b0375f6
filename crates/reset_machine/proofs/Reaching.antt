-- Which words of memory PC led to, while a machine makes steps.
use Rattle.std.proofs.Common.{ℕ, zero, suc, ◌≡◌, ◌*◌, ◌<◌, ◌/◌, ◌&&◌, not, nat_lt, if◌then◌else◌, length, List, Bool, true, false, [], ◌∷◌, ◌++◌, Result, Ok, Err, refl, sym, ap, subst, ◌∙◌, arith, le-ltb}
use Rattle.mips_cp0.specs.declared.exception.Exc.{Exc}
use Rattle.mips_tlb.specs.declared.kind.Kind.TheVariants.{Fetch}
use Rattle.machine.specs.declared.access.Size.TheVariants.{Word}
use Rattle.machine.specs.Places.{place}
use Rattle.machine.specs.Step.{Machine}
use Rattle.mips_fast.specs.Runs.{steps, Admits, AreAdmitted, IsAdmitted}
use Rattle.runs.specs.Coverage.{CoverageIs, covered, is_more, is_reached, with_pc, with_place, with_word}
use Rattle.runs.specs.Runs.{after_steps}
use Rattle.reset_machine.specs.Covers.{is_more_at, leads_to_more}
use Rattle.reset_machine.specs.Watched.{HasPages}
use Rattle.reset_machine.proofs.Stepping.{same_steps}

-- ---- how many words there are

pub all_words : (pages : ℕ) (memory : List ℕ) → HasPages pages memory → pages * 1024 ≡ length memory / 4
all_words pages memory has = omega (arith, has.size)

-- ---- PC stands somewhere

pub led_to : (m : Machine) (c : CoverageIs) (at : ℕ) → place Fetch Word m.cpu m.cpu.pc ≡ Ok at → with_word (at / 4) c ≡ with_pc m c
led_to m c at placed = ap (λ (r : Result ℕ Exc). with_place r c) (sym placed)

pub led_nowhere : (m : Machine) (c : CoverageIs) (e : Exc) → place Fetch Word m.cpu m.cpu.pc ≡ Err e → c ≡ with_pc m c
led_nowhere m c e placed = ap (λ (r : Result ℕ Exc). with_place r c) (sym placed)

pub told_to : (m : Machine) (c : CoverageIs) (at : ℕ) → place Fetch Word m.cpu m.cpu.pc ≡ Ok at → is_more (at / 4) c ≡ leads_to_more m c
told_to m c at placed = ap (λ (r : Result ℕ Exc). is_more_at r c) (sym placed)

pub told_nowhere : (m : Machine) (c : CoverageIs) (e : Exc) → place Fetch Word m.cpu m.cpu.pc ≡ Err e → false ≡ leads_to_more m c
told_nowhere m c e placed = ap (λ (r : Result ℕ Exc). is_more_at r c) (sym placed)

-- where no word is told of, none is more
none_more : (word : ℕ) (c : CoverageIs) → c.words ≡ 0 → false ≡ is_more word c
none_more word c none = by (nat_lt word c.words) (le-ltb word c.words (omega (arith, none)))
  where
    by : (b : Bool) → b ≡ false → false ≡ (b && not (is_reached word c.reached))
    by true is = absurd (cc)
    by false is = refl

no_more_at : (led : Result ℕ Exc) (c : CoverageIs) → c.words ≡ 0 → false ≡ is_more_at led c
no_more_at (Ok at) c none = none_more (at / 4) c none
no_more_at (Err e) c none = refl

pub none_told : (m : Machine) (c : CoverageIs) → c.words ≡ 0 → false ≡ leads_to_more m c
none_told m c none = no_more_at (place Fetch Word m.cpu m.cpu.pc) c none

-- ---- where all words are reached

again : (word : ℕ) (c : CoverageIs) → is_reached word c.reached ≡ true → with_word word c ≡ c
again word c is = by (nat_lt word c.words) (is_reached word c.reached) is
  where
    by : (a b : Bool) → b ≡ true → (if a && not b then record c { reached = c.reached ++ word ∷ [] } else c) ≡ c
    by true true is = refl
    by false true is = refl
    by a false is = absurd (cc)

both : (a b : Bool) → (a && b) ≡ true → (a ≡ true) × (b ≡ true)
both true true is = (refl, refl)
both true false is = absurd (cc)
both false b is = absurd (cc)

-- what a filter admits, of words that are reached
abbrev pub among : CoverageIs → Admits → Admits
among c admits pc at i = is_reached (at / 4) c.reached && admits pc at i

pc_reached : (m : Machine) (c : CoverageIs) (admits : Admits) → IsAdmitted (among c admits) m → with_pc m c ≡ c
pc_reached m c admits is =
    ap (λ (r : Result ℕ Exc). with_place r c) is.placed
    ∙ again (is.at / 4) c (both (is_reached (is.at / 4) c.reached) (admits m.cpu.pc is.at is.instr) is.admitted).0

pub steps_reached : (count : ℕ) (m : Machine) (c : CoverageIs) (admits : Admits) → AreAdmitted (among c admits) count m → c ≡ covered count m c
steps_reached zero m c admits are = refl
steps_reached (suc k) m c admits are =
    let here : k < suc k = omega arith in
    sym (pc_reached (after_steps k m) c admits (subst (λ (x : Machine). IsAdmitted (among c admits) x) (same_steps k m) (are k here)))
    ∙ ap (with_pc (after_steps k m)) (steps_reached k m c admits (λ j below. are j (omega (arith, below))))

pub admitted_alone : (count : ℕ) (m : Machine) (c : CoverageIs) (admits : Admits) → AreAdmitted (among c admits) count m → AreAdmitted admits count m
admitted_alone count m c admits are k below =
    let is = are k below in
    record {
      at = is.at;
      instr = is.instr;
      placed = is.placed;
      read = is.read;
      admitted = (both (is_reached (is.at / 4) c.reached) (admits (steps k m).cpu.pc is.at is.instr) is.admitted).1;
      away = is.away;
    }
