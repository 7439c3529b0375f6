-- Many steps of a guest, none of which needs a page that is lacking or gives one.
use Rattle.std.proofs.Common.{ℕ, zero, suc, ◌≡◌, ◌+◌, ◌*◌, ◌-◌, inl, inr, Bool, true, false, IsTrue, All, List, length, min, Option, Some, None, refl, sym, ap, subst, ◌∙◌, arith}
use Rattle.std.proofs.lemmas.Bool.{cases_lt}
use Rattle.word32.specs.Zeros.{zeros}
use Rattle.items.specs.declared.item.Item.{Item}
use Rattle.items.specs.Entries.{steps_of}
use Rattle.items.proofs.Runs.{steps_of-join}
use Rattle.devices.specs.Devices.{DevicesAre}
use Rattle.dev_balloon.specs.Balloon.{is_given}
use Rattle.machine.specs.Bus.{Lacks}
use Rattle.machine.specs.Processor.{Processor}
use Rattle.machine.specs.Board.{Board, is_given_page}
use Rattle.machine.specs.Step.{Machine, machine_with, step}
use Rattle.machine.specs.Accesses.{Access, accesses, first_lack}
use Rattle.machine.specs.Agreeing.{Agree, Within, StoresTo, GivenAreZeros}
use Rattle.machine.specs.Given.{step_given}
use Rattle.machine.proofs.Agreeing.{step_alike}
use Rattle.machine.proofs.Alike.{Alike}
use Rattle.machine.proofs.OtherPages.{step_stays, zeros_stay}
use Rattle.machine.proofs.Pages.{length-page}
use Rattle.machine.proofs.StepGiven.{newly_given}
use Rattle.mips_fast.specs.Runs.{steps, IsQuiet, AreQuiet}
use Rattle.machine.specs.Items.{run}
use Rattle.machine.proofs.Runs.{run_append}
use Rattle.machine.proofs.GivenPages.{run_zeros}
use Rattle.guest_pages.specs.declared.page.Page.{Page}
use Rattle.guest_pages.specs.declared.page.PageKind.TheVariants.{Swapped}
use Rattle.guest_pages.specs.Pages.{kind_at, AreWhole}
use Rattle.guest_pages.specs.Outline.{outline}
use Rattle.page_moves.specs.Faith.{Kept}
use Rattle.guest_bus.specs.Buses.{GuestBusIs, IsSettled, board_of}
use Rattle.guest_bus.specs.Lacking.{lacks_in}
use Rattle.guest.specs.declared.progress.Pause.{Pause}
use Rattle.guest.specs.declared.progress.Pause.TheVariants as pause
use Rattle.guest.specs.Guests.{IsMade, steps_by}
use Rattle.guest.specs.Views.{pages_seen, Shows, here}
use Rattle.guest.proofs.Showing.{here_not_swapped, settled_already, shows_agree, shows_after, kept_after, Happened}
use Rattle.guest.proofs.SameGiven.{given_alike}
use Rattle.guest.proofs.Stepping.{within_here, same_lacks}
use Rattle.guest.proofs.Running.{no_step, one_more}

-- What is so of a processor over pages and of the machine whose they are, after as many steps of both: `first` is the machine before them.
pub record Together (pages : List Page) (first a m : Machine) : Type 0 where
  pub cpu : a.cpu ≡ m.cpu
  pub agree : Agree (here pages) a.board m.board
  pub zeros_given : GivenAreZeros m.board
  pub size : length m.board.memory ≡ length first.board.memory
  pub away : (p : ℕ) → kind_at pages p ≡ Swapped → pages_seen m p ≡ pages_seen first p

-- one step more
module _ (pages : List Page) (first a m : Machine) (before : Together pages first a m) (quiet : IsQuiet (lacks_in pages) a) where
  within : Within (here pages) (accesses a)
  within = within_here pages (accesses a) quiet.lacking

  same_machine : machine_with a.cpu m.board ≡ m
  same_machine = ap (λ (c : Processor). machine_with c m.board) before.cpu

  alike : Alike (here pages) (accesses a) (accesses m) (step a) (step m)
  alike = subst (λ (n : Machine). Alike (here pages) (accesses a) (accesses n) (step a) (step n)) same_machine (step_alike (here pages) a.cpu a.board m.board before.agree within)

  given_before : (p : ℕ) → is_given_page p a.board ≡ is_given_page p m.board
  given_before p = ap (λ (d : DevicesAre). is_given p d.balloon) (sym before.agree.devices)

  given_after : (p : ℕ) → is_given_page p (step a).board ≡ is_given_page p (step m).board
  given_after p = ap (λ (d : DevicesAre). is_given p d.balloon) (sym alike.board.devices)

  avoided : (p : ℕ) → kind_at pages p ≡ Swapped → All (λ (x : Access). StoresTo p x → ⊥) (accesses m)
  avoided p swapped = subst (λ (xs : List Access). All (λ (x : Access). StoresTo p x → ⊥) xs) (sym alike.accesses) not_there
    where
      not_there : All (λ (x : Access). StoresTo p x → ⊥) (accesses a)
      not_there k d h stores =
          here_not_swapped pages p (subst (λ (q : ℕ). IsTrue (here pages q)) stores.its_page (within k d h)) swapped

  memory_size : length (step m).board.memory ≡ length m.board.memory
  memory_size = (step_stays m 0).size

  page_size : (p : ℕ) → length (pages_seen (step m) p) ≡ length (pages_seen m p)
  page_size p =
      length-page p (step m).board.memory ∙ ap (λ (n : ℕ). min 4096 (n - p * 4096)) memory_size ∙ sym (length-page p m.board.memory)

  none_is_some : (p : ℕ) → step_given a ≡ Some p → ⊥
  none_is_some p e =
      let not : None ≡ Some p = sym quiet.given ∙ e in
      absurd (cc)

  stays_by : (p : ℕ) → kind_at pages p ≡ Swapped → (was is : Bool) → is_given_page p m.board ≡ was → is_given_page p (step m).board ≡ is
      → pages_seen (step m) p ≡ pages_seen m p
  stays_by p swapped was false e f = (step_stays m p).bytes (avoided p swapped) f
  stays_by p swapped false true e f = absurd (none_is_some p (newly_given a p (given_before p ∙ e, given_after p ∙ f)))
  stays_by p swapped true true e f =
      zeros_stay m before.zeros_given p f ∙ ap zeros (page_size p) ∙ sym (before.zeros_given p e)

  together_on : Together pages first (step a) (step m)
  together_on = record {
    cpu = sym alike.cpu;
    agree = alike.board;
    zeros_given = zeros_stay m before.zeros_given;
    size = memory_size ∙ before.size;
    away = λ p swapped. stays_by p swapped (is_given_page p m.board) (is_given_page p (step m).board) refl refl ∙ before.away p swapped;
  }

-- after so many
pub together_after : (pages : List Page) (k : ℕ) (a m : Machine) → Together pages m a m → AreQuiet (lacks_in pages) k a → Together pages m (steps k a) (steps k m)
together_after pages zero a m begun quiet = begun
together_after pages (suc k) a m begun quiet =
    together_on pages m (steps k a) (steps k m)
    (together_after pages k a m begun (λ j below. quiet j (omega (arith, below))))
    (quiet k (omega arith))

-- a step accesses the same pages, and gives the same
module _ (pages : List Page) (first a m : Machine) (together : Together pages first a m) (none : first_lack (lacks_in pages) (accesses a) ≡ None) where
  within_these : Within (here pages) (accesses a)
  within_these = within_here pages (accesses a) none

  with_memory : machine_with a.cpu m.board ≡ m
  with_memory = ap (λ (c : Processor). machine_with c m.board) together.cpu

  pub same_accesses : accesses m ≡ accesses a
  same_accesses =
      ap accesses (sym with_memory) ∙ (step_alike (here pages) a.cpu a.board m.board together.agree within_these).accesses

  pub same_given : step_given m ≡ step_given a
  same_given = ap step_given (sym with_memory) ∙ given_alike (here pages) a.cpu a.board m.board together.agree within_these

-- the steps of a seat's items are steps
pub steps_are_run : (seat k : ℕ) (m : Machine) → steps k m ≡ run (steps_of seat k) m
steps_are_run seat zero m = sym (no_step seat m)
steps_are_run seat (suc k) m =
    let e : k + 1 ≡ suc k = omega arith in
    ap step (steps_are_run seat k m) ∙ sym (one_more seat k m) ∙ ap (λ (n : ℕ). run (steps_of seat n) m) e

-- some steps, and then more
pub run_join : (seat j k : ℕ) (m : Machine) → run (steps_of seat (j + k)) m ≡ run (steps_of seat k) (run (steps_of seat j) m)
run_join seat j k m =
    ap (λ (xs : List Item). run xs m) (steps_of-join seat j k) ∙ run_append (steps_of seat j) (steps_of seat k) m

module _ (k : ℕ) (m : Machine) (cpu cpu' : Processor) (b after : GuestBusIs) (whole : AreWhole b.pages) (whole_after : AreWhole after.pages)
    (settled : IsSettled b) (settled_after : IsSettled after) (s : Shows m cpu b) (zeros_given : GivenAreZeros m.board)
    (moves : machine_with cpu' (board_of after) ≡ steps k (machine_with cpu (board_of b)))
    (quiet : AreQuiet (lacks_in (outline b.pages)) k (machine_with cpu (board_of b))) (same : outline after.pages ≡ outline b.pages) where
  at_first : Together b.pages m (machine_with cpu (board_of b)) m
  at_first = record {
    cpu = s.cpu;
    agree = shows_agree m cpu b whole settled s;
    zeros_given = zeros_given;
    size = refl;
    away = λ p swapped. refl;
  }

  at_last : Together b.pages m (steps k (machine_with cpu (board_of b))) (steps k m)
  at_last = together_after b.pages k (machine_with cpu (board_of b)) m at_first
      (subst (λ (lacks : Lacks). AreQuiet lacks k (machine_with cpu (board_of b))) (same_lacks b.pages) quiet)

  happened : Happened b after m (steps k m)
  happened = record {
    whole = whole_after;
    same = same;
    agree = subst (λ (w : Board). Agree (here b.pages) w (steps k m).board) (sym (ap (λ (n : Machine). n.board) moves)) at_last.agree;
    away = λ p inside swapped. inr (at_last.away p swapped);
    given = λ p is inside. absurd (not_waiting p is);
  }
    where
      not_waiting : (p : ℕ) → after.waiting ≡ Some p → ⊥
      not_waiting p is =
          let not : None ≡ Some p = sym settled_after ∙ is in
          absurd (cc)

  pub quiet_shows : (seat : ℕ) → Shows (run (steps_of seat k) m) cpu' after
  quiet_shows seat =
      subst (λ (n : Machine). Shows n cpu' after) (steps_are_run seat k m)
      (subst (λ (bus : GuestBusIs). Shows (steps k m) cpu' bus) (settled_already after settled_after)
      (shows_after b after m (steps k m) happened cpu cpu' (ap (λ (n : Machine). n.cpu) moves ∙ at_last.cpu) s))

  pub quiet_kept : (seat : ℕ) (held : ℕ → Option (List ℕ)) → Kept held (pages_seen m) b.pages → Kept held (pages_seen (run (steps_of seat k) m)) after.pages
  quiet_kept seat held k' =
      subst (λ (n : Machine). Kept held (pages_seen n) after.pages) (steps_are_run seat k m)
      (subst (λ (bus : GuestBusIs). Kept held (pages_seen (steps k m)) bus.pages) (settled_already after settled_after)
      (kept_after b after m (steps k m) happened held k'))

-- ---- steps that gave no page

-- So many steps lead from a processor over pages to another, and no page was given.
pub record GoneOn (cpu cpu' : Processor) (b b' : GuestBusIs) (k : ℕ) : Type 0 where
  pub shows : (seat : ℕ) (m : Machine) → GivenAreZeros m.board → Shows m cpu b → Shows (run (steps_of seat k) m) cpu' b'
  pub kept : (seat : ℕ) (m : Machine) → GivenAreZeros m.board → Shows m cpu b → (held : ℕ → Option (List ℕ)) → Kept held (pages_seen m) b.pages
      → Kept held (pages_seen (run (steps_of seat k) m)) b'.pages
  pub moves : machine_with cpu' (board_of b') ≡ steps k (machine_with cpu (board_of b))
  pub quiet : AreQuiet (lacks_in b.pages) k (machine_with cpu (board_of b))
  pub same : outline b'.pages ≡ outline b.pages
  pub settled : IsSettled b'
  pub at_first : k ≡ 0 → (cpu' ≡ cpu) × (b' ≡ b)

pub not_gone : (cpu : Processor) (b : GuestBusIs) → IsSettled b → GoneOn cpu cpu b b 0
not_gone cpu b settled = record {
  shows = λ seat m zeros s. subst (λ (n : Machine). Shows n cpu b) (sym (no_step seat m)) s;
  kept = λ seat m zeros s held k. subst (λ (n : Machine). Kept held (pages_seen n) b.pages) (sym (no_step seat m)) k;
  moves = refl;
  quiet = λ j below. absurd (omega (arith, below));
  same = refl;
  settled = settled;
  at_first = λ first. (refl, refl);
}

one_step : (seat : ℕ) (m : Machine) → run (steps_of seat 1) m ≡ step m
one_step seat m = one_more seat 0 m ∙ ap step (no_step seat m)

pub gone_one : (cpu cpu' : Processor) (b b' : GuestBusIs) → ((m : Machine) → GivenAreZeros m.board → Shows m cpu b → Shows (step m) cpu' b')
    → ((m : Machine) → GivenAreZeros m.board → Shows m cpu b → (held : ℕ → Option (List ℕ)) → Kept held (pages_seen m) b.pages → Kept held (pages_seen (step m)) b'.pages)
    → machine_with cpu' (board_of b') ≡ step (machine_with cpu (board_of b)) → IsQuiet (lacks_in b.pages) (machine_with cpu (board_of b))
    → outline b'.pages ≡ outline b.pages → IsSettled b' → GoneOn cpu cpu' b b' 1
gone_one cpu cpu' b b' shows kept moves quiet same settled = record {
  shows = λ seat m zeros s. subst (λ (n : Machine). Shows n cpu' b') (sym (one_step seat m)) (shows m zeros s);
  kept = λ seat m zeros s held k. subst (λ (n : Machine). Kept held (pages_seen n) b'.pages) (sym (one_step seat m)) (kept m zeros s held k);
  moves = moves;
  quiet = λ j below.
      let first : 0 ≡ j = omega (arith, below) in
      subst (λ (n : ℕ). IsQuiet (lacks_in b.pages) (steps n (machine_with cpu (board_of b)))) first quiet;
  same = same;
  settled = settled;
  at_first = λ first. absurd (omega (arith, first));
}

-- some steps, and then more
steps_join : (j k : ℕ) (m : Machine) → steps k (steps j m) ≡ steps (j + k) m
steps_join j zero m =
    let e : j ≡ j + 0 = omega arith in
    ap (λ (n : ℕ). steps n m) e
steps_join j (suc k) m =
    let e : suc (j + k) ≡ j + suc k = omega arith in
    ap step (steps_join j k m) ∙ ap (λ (n : ℕ). steps n m) e

-- pages lack what pages that are where they are lack
pub lacks_alike : (pages pages' : List Page) → outline pages' ≡ outline pages → lacks_in pages' ≡ lacks_in pages
lacks_alike pages pages' same = sym (same_lacks pages') ∙ ap lacks_in same ∙ same_lacks pages

quiet_further : (lacks lacks' : Lacks) (j k : ℕ) (m m' : Machine) → lacks' ≡ lacks → m' ≡ steps j m → AreQuiet lacks j m → AreQuiet lacks' k m' → AreQuiet lacks (j + k) m
quiet_further lacks lacks' j k m m' same moves one two i below = elim (cases_lt i j) [
  | inl before ↦ one i before
  | inr after ↦
      let e : j + (i - j) ≡ i = omega (arith, after) in
      subst (λ (n : Machine). IsQuiet lacks n) (ap (steps (i - j)) moves ∙ steps_join j (i - j) m ∙ ap (λ (n : ℕ). steps n m) e)
      (subst (λ (l : Lacks). IsQuiet l (steps (i - j) m')) same (two (i - j) (omega (arith, below, after))))
]

pub gone_further : (cpu cpu' cpu'' : Processor) (b b' b'' : GuestBusIs) (j k : ℕ) → GoneOn cpu cpu' b b' j → GoneOn cpu' cpu'' b' b'' k → GoneOn cpu cpu'' b b'' (j + k)
gone_further cpu cpu' cpu'' b b' b'' j k one two = record {
  shows = λ seat m zeros s. subst (λ (n : Machine). Shows n cpu'' b'') (sym (run_join seat j k m))
      (two.shows seat (run (steps_of seat j) m) (run_zeros (steps_of seat j) m zeros) (one.shows seat m zeros s));
  kept = λ seat m zeros s held h. subst (λ (n : Machine). Kept held (pages_seen n) b''.pages) (sym (run_join seat j k m))
      (two.kept seat (run (steps_of seat j) m) (run_zeros (steps_of seat j) m zeros) (one.shows seat m zeros s) held (one.kept seat m zeros s held h));
  moves = two.moves ∙ ap (steps k) one.moves ∙ steps_join j k (machine_with cpu (board_of b));
  quiet = quiet_further (lacks_in b.pages) (lacks_in b'.pages) j k (machine_with cpu (board_of b)) (machine_with cpu' (board_of b'))
      (lacks_alike b.pages b'.pages one.same) one.moves one.quiet two.quiet;
  same = two.same ∙ one.same;
  settled = two.settled;
  at_first = λ first.
      let none = one.at_first (omega (arith, first)) in
      let more = two.at_first (omega (arith, first)) in
      (more.0 ∙ none.0, more.1 ∙ none.1);
}

-- a step at which a run pauses without it was not made
pub not_made : (p : Pause) → steps_by p ≡ 0 → IsMade (Some p) → ⊥
not_made (pause.Gave returned) e made = omega (arith, e)
not_made (pause.Need page why) e made = made
