-- The items of entries that are replayed one after another.
use Rattle.std.proofs.Common.{ℕ, zero, suc, ◌≡◌, ◌+◌, ◌<◌, ◌↔◌, List, [], ◌∷◌, ◌++◌, length, get_or, drop, refl, sym, ap, subst, ◌∙◌}
use Rattle.items.specs.declared.item.Item.{Item}
use Rattle.items.specs.declared.entry.Entry.{Entry}
use Rattle.items.specs.Entries.{step_by, steps_of, items_in, items_of}
use Rattle.items.proofs.Runs.{steps_of-one, steps_of-join}
use Rattle.machine.specs.Step.{Machine, step}
use Rattle.machine.specs.Items.{run, AllAccepted}
use Rattle.machine.proofs.Runs.{run_append, accepted_append}
use Rattle.dump.proofs.Counting.{items_from}

-- one step more
pub steps_run : (seat made : ℕ) (m now after : Machine) → now ≡ run (steps_of seat made) m → after ≡ step now → after ≡ run (steps_of seat (made + 1)) m
steps_run seat made m now after e s =
    let more = steps_of-join seat made 1 ∙ ap (λ (xs : List Item). steps_of seat made ++ xs) (steps_of-one seat) in
    s ∙ ap step e ∙ sym (ap (λ (items : List Item). run items m) more ∙ run_append (steps_of seat made) (step_by seat ∷ []) m)

-- steps are always accepted
pub steps_accepted : (seat n : ℕ) (m : Machine) → AllAccepted (steps_of seat n) m
unfolding steps_of
steps_accepted seat zero m = tt
steps_accepted seat (suc n) m = (refl, steps_accepted seat n (step m))

-- what is left to replay
pub record Left (entries rest : List Entry) (m now : Machine) : Type 0 where
  pub machine : run (items_of rest) now ≡ run (items_of entries) m
  pub accepted : AllAccepted (items_of rest) now ↔ AllAccepted (items_of entries) m

pub left_after : (entries : List Entry) (k : ℕ) (e : Entry) (m now after : Machine) → k < length entries → e ≡ get_or entries k e → Left entries (drop k entries) m now
    → after ≡ run (items_in e) now → AllAccepted (items_in e) now → Left entries (drop (k + 1) entries) m after
left_after entries k e m now after below is left moved accepted =
    let from = items_from entries k e below is in
    let rest = items_of (drop (k + 1) entries) in
    let joined = accepted_append (items_in e) rest now in
    record {
      machine = ap (run rest) moved ∙ sym (run_append (items_in e) rest now) ∙ ap (λ (items : List Item). run items now) (sym from) ∙ left.machine;
      accepted = (
        λ all. left.accepted.0 (subst (λ (items : List Item). AllAccepted items now) (sym from) (joined.1 (accepted, subst (AllAccepted rest) moved all))),
        λ all. subst (AllAccepted rest) (sym moved) (joined.0 (subst (λ (items : List Item). AllAccepted items now) from (left.accepted.1 all))).1,
      );
    }

-- an entry that is refused where it stands
pub refused_here : (entries : List Entry) (k : ℕ) (e : Entry) (m now : Machine) → k < length entries → e ≡ get_or entries k e → Left entries (drop k entries) m now
    → (AllAccepted (items_in e) now → ⊥) → AllAccepted (items_of entries) m → ⊥
refused_here entries k e m now below is left never all =
    let from = items_from entries k e below is in
    let rest = items_of (drop (k + 1) entries) in
    never ((accepted_append (items_in e) rest now).0 (subst (λ (items : List Item). AllAccepted items now) from (left.accepted.1 all))).0
