-- Steps of a guest for which no page is supplied, and more of them.
use Rattle.std.proofs.Common.{IfOk, Result, Ok, Err, ℕ, zero, suc, ◌≡◌, ◌+◌, ◌-◌, ◌<◌, inl, inr, List, ◌++◌, set, Option, Some, None, refl, sym, ap, ◌∙◌, arith}
use Rattle.std.proofs.lemmas.Bool.{cases_lt}
use Rattle.std.proofs.lemmas.List.{map-set}
use Rattle.world.specs.All.{AddsSteps, Given, Item, Machine, NoneNeeds, Page, Stays, TenantIs, Why, accesses, first_lack, lacks_in, last_given, outline, outlined, pages_after, pages_settled, run, step_given, steps_of, view_of}
use Rattle.machine.specs.Bus.{Lacks}
use Rattle.machine.proofs.Runs.{run_append}
use Rattle.guest_log.specs.declared.stop.Stop.{Stop}
use Rattle.guest.proofs.Quiet.{run_join, lacks_alike}

-- ---- the steps of one run, of which the last alone may have given a page

-- up to the last step no page has moved
stay_before : (n k : ℕ) (m : Machine) (pages : List Page) → ((j : ℕ) → j + 1 < n → step_given (run (steps_of 0 j) m) ≡ None) → k < n → pages_after k m pages ≡ pages
stay_before n zero m pages last before = refl
stay_before n (suc k) m pages last before =
    ap (λ (given : Option ℕ). pages_settled given (pages_after k m pages)) (last k (omega (arith, before))) ∙ stay_before n k m pages last (omega (arith, before))

settled_last : (n : ℕ) (m : Machine) (pages : List Page) → ((j : ℕ) → j + 1 < n → step_given (run (steps_of 0 j) m) ≡ None) → pages_settled (last_given 0 n m) pages ≡ pages_after n m pages
settled_last zero m pages last = refl
settled_last (suc before) m pages last =
    ap (pages_settled (step_given (run (steps_of 0 before) m))) (sym (stay_before (suc before) before m pages last (omega arith)))

pub in_one_run : (n : ℕ) (m : Machine) (pages pages' : List Page) → ((k : ℕ) → k < n → first_lack (lacks_in pages) (accesses (run (steps_of 0 k) m)) ≡ None)
    → ((k : ℕ) → k + 1 < n → step_given (run (steps_of 0 k) m) ≡ None) → outline pages' ≡ outline (pages_settled (last_given 0 n m) pages) → NoneNeeds n m pages pages'
in_one_run n m pages pages' quiet last places = record {
  needs_none = λ k before.
      ap (λ (ps : List Page). first_lack (lacks_in ps) (accesses (run (steps_of 0 k) m))) (stay_before n k m pages last before) ∙ quiet k before;
  places = places ∙ ap outline (settled_last n m pages last);
}

-- ---- more steps

pub no_steps : (m : Machine) (pages pages' : List Page) → pages' ≡ pages → NoneNeeds 0 m pages pages'
no_steps m pages pages' same = record { needs_none = λ k before. absurd (omega (arith, before)); places = ap outline same }

settled_alike : (given : Option ℕ) (ps ps' : List Page) → outline ps' ≡ outline ps → outline (pages_settled given ps') ≡ outline (pages_settled given ps)
settled_alike None ps ps' same = same
settled_alike (Some p) ps ps' same = map-set outlined ps' p Given ∙ ap (λ (l : List Page). set l p Given) same ∙ sym (map-set outlined ps p Given)

-- the pages after more steps of a machine that has made some, from where those left them
after_more : (a k : ℕ) (m : Machine) (pages mid : List Page) → outline mid ≡ outline (pages_after a m pages)
    → outline (pages_after k (run (steps_of 0 a) m) mid) ≡ outline (pages_after (a + k) m pages)
after_more a zero m pages mid same =
    let none : a ≡ a + 0 = omega arith in
    same ∙ ap (λ (n : ℕ). outline (pages_after n m pages)) none
after_more a (suc k) m pages mid same =
    let one : suc (a + k) ≡ a + suc k = omega arith in
    settled_alike (step_given (run (steps_of 0 k) (run (steps_of 0 a) m))) (pages_after (a + k) m pages) (pages_after k (run (steps_of 0 a) m) mid) (after_more a k m pages mid same)
    ∙ ap (λ (n : Machine). outline (pages_settled (step_given n) (pages_after (a + k) m pages))) (sym (run_join 0 a k m))
    ∙ ap (λ (n : ℕ). outline (pages_after n m pages)) one

pub then_more : (a b : ℕ) (m : Machine) (pages mid pages' : List Page) → NoneNeeds a m pages mid → NoneNeeds b (run (steps_of 0 a) m) mid pages' → NoneNeeds (a + b) m pages pages'
then_more a b m pages mid pages' first more = record {
  needs_none = λ k before. elim (cases_lt k a) [
    | inl early ↦ first.needs_none k early
    | inr late ↦ later k (k - a) before (omega (arith, late))
  ];
  places = more.places ∙ after_more a b m pages mid first.places;
}
  where
    later : (k j : ℕ) → k < a + b → k ≡ a + j → first_lack (lacks_in (pages_after k m pages)) (accesses (run (steps_of 0 k) m)) ≡ None
    later k j before is =
        ap (λ (n : ℕ). first_lack (lacks_in (pages_after n m pages)) (accesses (run (steps_of 0 n) m))) is
        ∙ ap (λ (n : Machine). first_lack (lacks_in (pages_after (a + j) m pages)) (accesses n)) (run_join 0 a j m)
        ∙ ap (λ (l : Lacks). first_lack l (accesses (run (steps_of 0 j) (run (steps_of 0 a) m))))
        (sym (lacks_alike (pages_after (a + j) m pages) (pages_after j (run (steps_of 0 a) m) mid) (after_more a j m pages mid first.places)))
        ∙ more.needs_none j (omega (arith, before, is))

-- ---- the view

pub view_moves : (t t' : TenantIs) (count : ℕ) → AddsSteps t count t' → Stays t t' → view_of t'.guest ≡ run (steps_of 0 count) (view_of t.guest)
view_moves t t' count adds stays =
    ap (λ (items : List Item). run items t'.guest.boot) adds ∙ ap (run (t.guest.log.items ++ steps_of 0 count)) stays.boot ∙ run_append t.guest.log.items (steps_of 0 count) t.guest.boot

pub view_on : (a b : ℕ) (m mid last : Machine) → mid ≡ run (steps_of 0 a) m → last ≡ run (steps_of 0 b) mid → last ≡ run (steps_of 0 (a + b)) m
view_on a b m mid last first more = more ∙ ap (run (steps_of 0 b)) first ∙ sym (run_join 0 a b m)

-- ---- as the calls answer

pub one_run_ok : (r : Result (ℕ × Option (ℕ × Why)) Stop) (m : Machine) (pages pages' : List Page)
    → IfOk r (λ made. (k : ℕ) → k < made.0 → first_lack (lacks_in pages) (accesses (run (steps_of 0 k) m)) ≡ None)
    → IfOk r (λ made. (k : ℕ) → k + 1 < made.0 → step_given (run (steps_of 0 k) m) ≡ None)
    → IfOk r (λ made. outline pages' ≡ outline (pages_settled (last_given 0 made.0 m) pages))
    → IfOk r (λ made. NoneNeeds made.0 m pages pages')
one_run_ok (Ok made) m pages pages' quiet last places = in_one_run made.0 m pages pages' quiet last places
one_run_ok (Err stop) m pages pages' quiet last places = tt

pub same_places : (n : ℕ) (m : Machine) (pages mid pages' : List Page) → NoneNeeds n m pages mid → pages' ≡ mid → NoneNeeds n m pages pages'
same_places n m pages mid pages' so same = record { needs_none = so.needs_none; places = ap outline same ∙ so.places }
