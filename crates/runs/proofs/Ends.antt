-- States that a run ends at, one after another.
use Rattle.std.proofs.Common.{ℕ, zero, suc, true, false, ◌≡◌, ◌+◌, ◌-◌, ◌<◌, ◌≤◌, ◌⊎◌, inl, inr, ◌/◌, ◌%◌, ◌&&◌, ◌==◌, Bool, if◌then◌else◌, List, Option, Some, None, refl, sym, ap, subst, ◌∙◌, arith, add-one}
use Rattle.std.specs.List.{list_any}
use Rattle.std.proofs.lemmas.Bool.{cases_lt}
use Rattle.machine.specs.Step.{Machine, step}
use Rattle.runs.specs.declared.ending.Ending.{Ending}
use Rattle.runs.specs.declared.ending.Ending.TheVariants.{Loop, Exception, Address}
use Rattle.runs.specs.declared.ending.Until.{Until}
use Rattle.runs.specs.Endings.{ending_after, state_ending, step_ending, IsNever, IsPassed}
use Rattle.runs.specs.Entries.{has_entered}
use Rattle.runs.specs.Loops.{is_loop}
use Rattle.runs.specs.Runs.{after_steps}

never_here : (until : Until) (m : Machine) → IsNever until → state_ending until m ≡ None
never_here until m never =
    ap (λ (b : Bool). if b && is_loop m then Some (Loop m.cpu.pc) else if list_any (λ address. address == m.cpu.pc) until.addresses.items then Some (Address m.cpu.pc) else None) never.loops
    ∙ ap (λ (xs : List ℕ). if list_any (λ address. address == m.cpu.pc) xs then Some (Address m.cpu.pc) else None) never.addresses

never_then : (until : Until) (before now : Machine) → IsNever until → step_ending until before now ≡ None
never_then until before now never =
    ap (λ (b : Bool). if b && has_entered before now then Some (Exception (now.cpu.cp0.cause / 4 % 32) now.cpu.cp0.epc) else state_ending until now) never.exceptions
    ∙ never_here until now never

-- where no state is one that a run ends at
pub never_ends : (until : Until) (m : Machine) (k : ℕ) → IsNever until → ending_after until m k ≡ None
never_ends until m zero never = never_here until m never
never_ends until m (suc k) never = never_then until (after_steps k m) (after_steps (suc k) m) never

below_or_at : (k made : ℕ) → k < made + 1 → (k < made) ⊎ (k ≡ made)
below_or_at k made h =
    elim (cases_lt k made) [
      | inl below ↦ inl below
      | inr past ↦ inr (omega (arith, past, h))
    ]

-- one state more that is none
pub none_more : (until : Until) (m : Machine) (made : ℕ) → ((k : ℕ) → k < made → ending_after until m k ≡ None) → ending_after until m made ≡ None
    → (k : ℕ) → k < made + 1 → ending_after until m k ≡ None
none_more until m made before here k h =
    elim (below_or_at k made h) [
      | inl below ↦ before k below
      | inr at ↦ subst (λ (n : ℕ). ending_after until m n ≡ None) (sym at) here
    ]

-- some steps, and then others
pub steps_then : (k l : ℕ) (m : Machine) → after_steps l (after_steps k m) ≡ after_steps (k + l) m
steps_then k zero m = let none : k ≡ k + 0 = omega arith in ap (λ (n : ℕ). after_steps n m) none
steps_then k (suc l) m = let more : suc (k + l) ≡ k + suc l = omega arith in ap step (steps_then k l m) ∙ ap (λ (n : ℕ). after_steps n m) more

pub steps_so_far : (made more : ℕ) (first now after : Machine) → now ≡ after_steps made first → after ≡ after_steps more now → after ≡ after_steps (made + more) first
steps_so_far made more first now after so_far is = is ∙ ap (after_steps more) so_far ∙ steps_then made more first

-- one step more
pub one_more : (made : ℕ) (m now next : Machine) → now ≡ after_steps made m → next ≡ step now → next ≡ after_steps (made + 1) m
one_more made m now next so_far is = is ∙ ap step so_far ∙ ap (λ (n : ℕ). after_steps n m) (sym (add-one made))

-- and what it ends at
pub ends_next : (until : Until) (made : ℕ) (m : Machine) (ending : Option Ending) → ending ≡ step_ending until (after_steps made m) (after_steps (made + 1) m) → ending ≡ ending_after until m (made + 1)
ends_next until made m ending is =
    is ∙ ap (λ (n : ℕ). step_ending until (after_steps made m) (after_steps n m)) (add-one made) ∙ ap (ending_after until m) (sym (add-one made))

-- ---- states that a run goes past

-- where no exception was entered, a run ends at a state whatever was before it
not_entered : (until : Until) (before now : Machine) → has_entered before now ≡ false → step_ending until before now ≡ state_ending until now
not_entered until before now none =
    ap (λ (b : Bool). if until.exceptions && b then Some (Exception (now.cpu.cp0.cause / 4 % 32) now.cpu.cp0.epc) else state_ending until now) none
    ∙ its until.exceptions
  where
    its : (b : Bool) → (if b && false then Some (Exception (now.cpu.cp0.cause / 4 % 32) now.cpu.cp0.epc) else state_ending until now) ≡ state_ending until now
    its true = refl
    its false = refl

-- it is asked of the state behind those that were passed alone
pub ends_behind : (until : Until) (m : Machine) (k : ℕ) → ((j : ℕ) → j < k → IsPassed until (after_steps j m)) → 0 < k → ending_after until m k ≡ state_ending until (after_steps k m)
ends_behind until m zero passed some = absurd (omega (arith, some))
ends_behind until m (suc k) passed some =
    let below : k < suc k = omega arith in
    not_entered until (after_steps k m) (after_steps (suc k) m) (passed k below).no_entry

-- and it ends at none of them
pub none_passed : (until : Until) (m : Machine) (count : ℕ) → ((j : ℕ) → j < count → IsPassed until (after_steps j m)) → (k : ℕ) → 0 < k → k < count → ending_after until m k ≡ None
none_passed until m count passed k some below =
    ends_behind until m k (λ j h. passed j (omega (arith, h, below))) some ∙ (passed k below).nowhere

-- a state is as many steps behind another as that is behind the first, and so many more
pub ends_from : (until : Until) (m : Machine) (k l : ℕ) → 0 < l → ending_after until (after_steps k m) l ≡ ending_after until m (k + l)
ends_from until m k zero some = absurd (omega (arith, some))
ends_from until m k (suc l) some =
    let more : suc (k + l) ≡ k + suc l = omega arith in
    ap (λ (before : Machine). step_ending until before (step before)) (steps_then k l m) ∙ ap (ending_after until m) more

-- ---- pieces of a run

-- no state up to the end of the next piece
pub none_in_pieces : (until : Until) (first now : Machine) (made more : ℕ) → now ≡ after_steps made first
    → ((k : ℕ) → k < made → ending_after until first k ≡ None) → ending_after until first made ≡ None
    → ((k : ℕ) → 0 < k → k < more → ending_after until now k ≡ None)
    → (k : ℕ) → k < made + more → ending_after until first k ≡ None
none_in_pieces until first now made more so_far before here behind k below =
    elim (cases_lt k (made + 1)) [
      | inl within ↦ none_more until first made before here k within
      | inr past ↦
          let some : 0 < k - made = omega (arith, past) in
          let few : k - made < more = omega (arith, past, below) in
          let same : made + (k - made) ≡ k = omega (arith, past) in
          ap (ending_after until first) (sym same)
          ∙ sym (ends_from until first made (k - made) some)
          ∙ ap (λ (m : Machine). ending_after until m (k - made)) (sym so_far)
          ∙ behind (k - made) some few
    ]

-- whether it ends behind that
pub ends_in_pieces : (until : Until) (first now : Machine) (made more : ℕ) → now ≡ after_steps made first → 0 < more
    → ending_after until now more ≡ ending_after until first (made + more)
ends_in_pieces until first now made more so_far some =
    ap (λ (m : Machine). ending_after until m more) so_far ∙ ends_from until first made more some

-- no state between, where one step follows those that go past states
pub none_between : (until : Until) (m : Machine) (past next : ℕ) → next ≤ 1
    → ((j : ℕ) → j < past → IsPassed until (after_steps j m)) → (0 < past → state_ending until (after_steps past m) ≡ None)
    → (k : ℕ) → 0 < k → k < past + next → ending_after until m k ≡ None
none_between until m past next one passed there k some below =
    elim (cases_lt k past) [
      | inl within ↦ none_passed until m past passed k some within
      | inr behind ↦
          let at : k ≡ past = omega (arith, behind, below, one) in
          let any : 0 < past = omega (arith, at, some) in
          ap (ending_after until m) at ∙ ends_behind until m past passed any ∙ there any
    ]
