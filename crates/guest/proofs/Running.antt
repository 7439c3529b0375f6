-- Steps of a guest, one after another.
use Rattle.std.proofs.Common.{◌<◌, ◌⊎◌, append-nil, length-append, ℕ, zero, suc, ◌≡◌, ◌≤◌, ◌+◌, inl, inr, length, replicate, List, [], ◌∷◌, ◌++◌, Option, Some, None, refl, sym, ap, subst, ◌∙◌, arith}
use Rattle.items.specs.declared.item.Item.{Item}
use Rattle.items.specs.Entries.{step_by, steps_of}
use Rattle.items.proofs.Runs.{steps_of-none, steps_of-one, steps_of-join, length-steps_of}
use Rattle.std.proofs.lemmas.Bool.{cases_eq}
use Rattle.machine.specs.Processor.{Processor}
use Rattle.machine.specs.Step.{Machine, step}
use Rattle.machine.specs.Given.{step_given}
use Rattle.machine.specs.Items.{run, AllAccepted}
use Rattle.machine.proofs.Runs.{run_append, accepted_append}
use Rattle.guest_log.specs.Logs.{LogIs, HasRoomFor, IsFull}
use Rattle.guest_log.specs.Runs.{run_count}
use Rattle.guest_log.proofs.Counting.{run_count-run}
use Rattle.guest_pages.specs.declared.page.Page.{Page}
use Rattle.guest_pages.specs.Outline.{outline}
use Rattle.guest.specs.declared.progress.Pause.{Pause}
use Rattle.guest.specs.declared.progress.Pause.TheVariants as pause
use Rattle.guest_bus.specs.Buses.{GuestBusIs}
use Rattle.guest.specs.Guests.{last_given, HasPaused, IsMade, steps_by}

-- a machine after no step, and after one more
pub no_step : (seat : ℕ) (m : Machine) → run (steps_of seat 0) m ≡ m
no_step seat m = ap (λ (xs : List Item). run xs m) (steps_of-none seat)

pub one_more : (seat count : ℕ) (m : Machine) → run (steps_of seat (count + 1)) m ≡ step (run (steps_of seat count) m)
one_more seat count m =
    ap (λ (xs : List Item). run xs m) (steps_of-join seat count 1 ∙ ap (λ (xs : List Item). steps_of seat count ++ xs) (steps_of-one seat))
    ∙ run_append (steps_of seat count) (step_by seat ∷ []) m

-- a machine accepts every step
accepts_each : (seat count : ℕ) (m : Machine) → AllAccepted (replicate count (step_by seat)) m
accepts_each seat zero m = tt
accepts_each seat (suc count) m = (refl, accepts_each seat count (step m))

accepts_steps : (seat count : ℕ) (m : Machine) → AllAccepted (steps_of seat count) m
unfolding steps_of
accepts_steps = accepts_each

pub accepted_on : (items now : List Item) (seat count : ℕ) (boot : Machine) → now ≡ items ++ steps_of seat count → AllAccepted items boot → AllAccepted now boot
accepted_on items now seat count boot e all =
    subst (λ (xs : List Item). AllAccepted xs boot) (sym e)
    ((accepted_append items (steps_of seat count) boot).1 (all, accepts_steps seat count (run items boot)))

-- where so many steps have room, so have fewer
pub fewer_fit : (log : LogIs) (seat most count : ℕ) → HasRoomFor log seat most → count ≤ most → HasRoomFor log seat count
fewer_fit log seat most count room few = record {
  items = omega (arith, room.items, few);
  runs = room.runs;
  memory = room.memory;
  more = elim room.more [ inl one ↦ inl (omega (arith, one, few)) | inr more ↦ inr more ];
}

-- a log is full that has the items and the limit of one that is
pub is_full_too : (full log : LogIs) → log.items ≡ full.items → log.limit ≡ full.limit → IsFull full → IsFull log
is_full_too full log items limit is = elim is [
  | inl runs ↦ inl (omega (arith, runs, ap run_count items, limit))
  | inr many ↦ inr (omega (arith, many, ap length items))
]

-- where so many steps have room, the log is not full before the last of them
pub not_full_before : (log log' : LogIs) (seat most count : ℕ) → HasRoomFor log seat most → count < most → log'.items ≡ log.items ++ steps_of seat count → log'.limit ≡ log.limit → IsFull log' → ⊥
not_full_before log log' seat most count room fewer items limit full = elim full [
  | inl runs ↦ by_runs (cases_eq count 0) runs
  | inr many ↦ omega (arith, many, ap length items, length-append log.items (steps_of seat count), length-steps_of seat count, room.items, fewer)
]
  where
    fit : (most ≤ 1) ⊎ (run_count (log.items ++ step_by seat ∷ []) < log.limit) → (count ≡ 0 → ⊥) → run_count (log.items ++ step_by seat ∷ []) < log.limit
    fit (inl one) some = absurd (some (omega (arith, one, fewer)))
    fit (inr more) some = more

    by_runs : (count ≡ 0) ⊎ (count ≡ 0 → ⊥) → log'.limit ≤ run_count log'.items → ⊥
    by_runs (inl none) runs =
        let same : log'.items ≡ log.items = items ∙ ap (λ (n : ℕ). log.items ++ steps_of seat n) none ∙ ap (λ (xs : List Item). log.items ++ xs) (steps_of-none seat) ∙ append-nil log.items in
        omega (arith, runs, ap run_count same, limit, room.runs)
    by_runs (inr some) runs = omega (arith, runs, ap run_count items, run_count-run log.items seat count (omega (arith, some)), limit, fit room.more some)

-- pages that are where they were have paused as pages before them
pub paused_later : (given : Option ℕ) (old now new : List Page) (o : Option Pause) → outline now ≡ outline old → HasPaused given now o new → HasPaused given old o new
paused_later given old now new None same paused = (paused.0, paused.1 ∙ same)
paused_later given old now new (Some (pause.Need page why)) same paused = (paused.0, paused.1 ∙ same)
paused_later given old now new (Some (pause.Gave returned)) same paused =
    (paused.0, record { before = paused.1.before; same = paused.1.same ∙ same; pages = paused.1.pages; what = paused.1.what })

-- the page that the last of some steps gives, and one more
pub last_of_more : (seat count : ℕ) (m : Machine) → last_given seat (count + 1) m ≡ step_given (run (steps_of seat count) m)
last_of_more seat count m =
    let e : count + 1 ≡ suc count = omega arith in
    ap (λ (n : ℕ). last_given seat n m) e

-- What is so of a machine after some steps, with a processor and a bus, is so after the step at which a run pauses: that step is made, or
-- nothing has changed.
module _ (So : Machine → Processor → GuestBusIs → Type 0) (seat count : ℕ) (m : Machine) (cpu cpu' : Processor) (b b' : GuestBusIs) where
  abbrev now : Machine
  now = run (steps_of seat count) m

  pub at_pause : (p : Pause) → (IsMade (Some p) → So (step now) cpu' b') → ((IsMade (Some p) → ⊥) → (cpu' ≡ cpu) × (b' ≡ b)) → So now cpu b
      → So (run (steps_of seat (count + steps_by p)) m) cpu' b'
  at_pause (pause.Gave returned) made unchanged so = subst (λ (n : Machine). So n cpu' b') (sym (one_more seat count m)) (made tt)
  at_pause (pause.Need page why) made unchanged so =
      let same = unchanged (λ never. never) in
      let none : count + 0 ≡ count = omega arith in
      subst (λ (n : ℕ). So (run (steps_of seat n) m) cpu' b') (sym none)
      (subst (λ (c : Processor). So now c b') (sym same.0) (subst (λ (bus : GuestBusIs). So now cpu bus) (sym same.1) so))
