-- A step of a guest whose pages are those of its view.
use Rattle.std.proofs.Common.{ℕ, zero, suc, ◌≡◌, ◌*◌, ◌-◌, ◌<◌, ◌⊎◌, inl, inr, Bool, true, false, IsTrue, All, List, [], ◌∷◌, length, min, get_or, Option, Some, None, refl, sym, ap, subst, ◌∙◌, arith}
use Rattle.word32.specs.Zeros.{zeros}
use Rattle.machine.specs.Bus.{Lacks}
use Rattle.machine.specs.Processor.{Processor}
use Rattle.machine.specs.Board.{Board, is_given_page}
use Rattle.machine.specs.Step.{Machine, machine_with, step}
use Rattle.machine.specs.Accesses.{Access, accesses, first_lack}
use Rattle.machine.specs.Agreeing.{Agree, Within, StoresTo, GivenAreZeros}
use Rattle.machine.specs.Given.{step_given}
use Rattle.machine.specs.declared.access.Why.{Why}
use Rattle.machine.proofs.Agreeing.{step_alike}
use Rattle.machine.proofs.Alike.{Alike}
use Rattle.machine.proofs.Lacking.{lack_alike}
use Rattle.machine.proofs.OtherPages.{step_stays, zeros_stay}
use Rattle.machine.proofs.Pages.{length-page}
use Rattle.machine.proofs.StepGiven.{newly_given, given_after}
use Rattle.dev_balloon.specs.Balloon.{is_given}
use Rattle.devices.specs.Devices.{DevicesAre}
use Rattle.guest_pages.specs.declared.page.Page.{Page}
use Rattle.guest_pages.specs.declared.page.PageKind.TheVariants.{Swapped}
use Rattle.guest_pages.specs.Pages.{kind_at, AreWhole}
use Rattle.guest_pages.specs.Outline.{outline}
use Rattle.guest_bus.specs.Buses.{GuestBusIs, IsSettled, board_of}
use Rattle.guest_bus.specs.Lacking.{lacks_in}
use Rattle.guest_bus.proofs.Refusing.{lacks_kept}
use Rattle.guest.specs.Views.{pages_seen, Shows, here}
use Rattle.guest.proofs.Showing.{covered, here_not_swapped, shows_agree, Happened}

-- ---- no access is lacking

module _ (lacks : Lacks) where
  lack_or_rest : (lack : Option Why) (page : ℕ) (rest : Option (ℕ × Why)) → (elim lack as (λ _. Option (ℕ × Why)) [ None ↦ rest | Some why ↦ Some (page, why) ]) ≡ None → (lack ≡ None) × (rest ≡ None)
  lack_or_rest None page rest e = (refl, e)
  lack_or_rest (Some why) page rest e = absurd (cc)

  none_lacks : (xs : List Access) → first_lack lacks xs ≡ None → All (λ (x : Access). lacks x.page x.kind ≡ None) xs
  none_lacks [] e k d h = absurd (omega arith)
  none_lacks (x ∷ xs) e k d h =
      let parts = lack_or_rest (lacks x.page x.kind) x.page (first_lack lacks xs) e in
      each x xs parts.0 (none_lacks xs parts.1) k d h
    where
      each : (x : Access) (xs : List Access) → lacks x.page x.kind ≡ None → All (λ (x : Access). lacks x.page x.kind ≡ None) xs → All (λ (x : Access). lacks x.page x.kind ≡ None) (x ∷ xs)
      each x xs now later zero d h = now
      each x xs now later (suc k) d h = later k d (omega arith)

-- where a step lacks nothing, each page that it accesses is there and in no slot
pub within_here : (pages : List Page) (xs : List Access) → first_lack (lacks_in pages) xs ≡ None → Within (here pages) xs
within_here pages xs none k d h = covered pages (get_or xs k d).page (get_or xs k d).kind (none_lacks (lacks_in pages) xs none k d h)

-- a guest needs what its view lacks by where the pages are
pub need_alike : (m : Machine) (cpu : Processor) (b : GuestBusIs) → AreWhole b.pages → IsSettled b → Shows m cpu b
    → first_lack (lacks_in b.pages) (accesses m) ≡ first_lack (lacks_in b.pages) (accesses (machine_with cpu (board_of b)))
need_alike m cpu b whole settled s =
    ap (λ (c : Processor). first_lack (lacks_in b.pages) (accesses (machine_with c m.board))) (sym s.cpu)
    ∙ lack_alike (here b.pages) (lacks_in b.pages) cpu (board_of b) m.board (shows_agree m cpu b whole settled s) (λ page kind none. covered b.pages page kind none)

-- ---- a step that is made

module _ (m : Machine) (cpu : Processor) (b before : GuestBusIs) (whole : AreWhole b.pages) (settled : IsSettled b) (s : Shows m cpu b) (zeros_given : GivenAreZeros m.board) where
  abbrev now : Machine
  now = machine_with cpu (board_of b)

  same_machine : machine_with cpu m.board ≡ m
  same_machine = ap (λ (c : Processor). machine_with c m.board) s.cpu

  agree : Agree (here b.pages) (board_of b) m.board
  agree = shows_agree m cpu b whole settled s

  module _ (none : first_lack (lacks_in b.pages) (accesses now) ≡ None) where
    within : Within (here b.pages) (accesses now)
    within = within_here b.pages (accesses now) none

    alike : Alike (here b.pages) (accesses now) (accesses m) (step now) (step m)
    alike = subst (λ (n : Machine). Alike (here b.pages) (accesses now) (accesses n) (step now) (step n)) same_machine (step_alike (here b.pages) cpu (board_of b) m.board agree within)

    same_given_before : (p : ℕ) → is_given_page p (board_of b) ≡ is_given_page p m.board
    same_given_before p = ap (λ (d : DevicesAre). is_given p d.balloon) s.devices

    same_given_after : (p : ℕ) → is_given_page p (step now).board ≡ is_given_page p (step m).board
    same_given_after p = ap (λ (d : DevicesAre). is_given p d.balloon) (sym alike.board.devices)

    module _ (made : board_of before ≡ (step now).board) (waits : before.waiting ≡ step_given now) (whole_before : AreWhole before.pages)
        (same : outline before.pages ≡ outline b.pages) where
      -- a page that lies in a slot is not stored to
      avoided : (p : ℕ) → kind_at b.pages p ≡ Swapped → All (λ (x : Access). StoresTo p x → ⊥) (accesses m)
      avoided p swapped = subst (λ (xs : List Access). All (λ (x : Access). StoresTo p x → ⊥) xs) (sym alike.accesses) not_there
        where
          not_there : All (λ (x : Access). StoresTo p x → ⊥) (accesses now)
          not_there k d h stores =
              here_not_swapped b.pages p (subst (λ (q : ℕ). IsTrue (here b.pages q)) stores.its_page (within k d h)) swapped

      memory_size : length (step m).board.memory ≡ length m.board.memory
      memory_size = (step_stays m 0).size

      page_size : (p : ℕ) → length (pages_seen (step m) p) ≡ length (pages_seen m p)
      page_size p =
          length-page p (step m).board.memory ∙ ap (λ (n : ℕ). min 4096 (n - p * 4096)) memory_size ∙ sym (length-page p m.board.memory)

      away_by : (p : ℕ) → kind_at b.pages p ≡ Swapped → (was is : Bool) → is_given_page p m.board ≡ was → is_given_page p (step m).board ≡ is
          → (before.waiting ≡ Some p) ⊎ (pages_seen (step m) p ≡ pages_seen m p)
      away_by p swapped was false e f = inr ((step_stays m p).bytes (avoided p swapped) f)
      away_by p swapped false true e f = inl (waits ∙ newly_given now p (same_given_before p ∙ e, same_given_after p ∙ f))
      away_by p swapped true true e f = inr (
          zeros_stay m zeros_given p f ∙ ap zeros (page_size p) ∙ sym (zeros_given p e)
          )

      whole_page : (p : ℕ) → p < length b.pages → length (pages_seen (step m) p) ≡ 4096
      whole_page p inside = length-page p (step m).board.memory ∙ omega (arith, memory_size, s.size)

      given_zeros : (p : ℕ) → before.waiting ≡ Some p → p < length b.pages → pages_seen (step m) p ≡ zeros 4096
      given_zeros p is inside =
          zeros_stay m zeros_given p (sym (same_given_after p) ∙ given_after now p (sym waits ∙ is)) ∙ ap zeros (whole_page p inside)

      pub step_happened : Happened b before m (step m)
      step_happened = record {
        whole = whole_before;
        same = same;
        agree = subst (λ (w : Board). Agree (here b.pages) w (step m).board) (sym made) alike.board;
        away = λ p inside swapped. away_by p swapped (is_given_page p m.board) (is_given_page p (step m).board) refl refl;
        given = given_zeros;
      }

      pub step_cpu : (cpu' : Processor) → cpu' ≡ (step now).cpu → cpu' ≡ (step m).cpu
      step_cpu cpu' e = e ∙ sym alike.cpu

-- ---- what is lacking is told by what is kept

pub same_lacks : (pages : List Page) → lacks_in (outline pages) ≡ lacks_in pages
same_lacks pages = λ i. λ page kind. lacks_kept pages page kind i
