use Rattle.std.proofs.Common.{◌≡◌, ◌∙◌, ℕ, ◌+◌, ◌<◌, List, length, Option, Some, None, sym, ap, subst, arith}
use Rattle.items.specs.Entries.{steps_of}
use Rattle.machine.specs.Accesses.{accesses, first_lack}
use Rattle.machine.specs.Given.{step_given}
use Rattle.machine.specs.Step.{Machine}
use Rattle.machine.specs.Boot.{boot_machine}
use Rattle.machine.specs.Items.{run}
use Rattle.page_moves.specs.Faith.{Kept}
use Rattle.machine.specs.declared.access.Why.{Why}
use Rattle.guest_bus.specs.Lacking.{lacks_in}
use Rattle.guest.specs.declared.progress.Pause.TheVariants as pause
use Rattle.guest.specs.Guests.{GuestIs, guest_of, view_of, standing, Intact, last_given, HasPaused}
use Rattle.guest.specs.Views.{pages_seen, Shows}
use Rattle.guest.proofs.Logging.{run_on, view_zeros}
use Rattle.guest.proofs.Pausing.{view_lacking, view_given, view_last}
use Rattle.guest.proofs.Running.{accepted_on, no_step, not_full_before}
use Rattle.guest.proofs.Stepping.{need_alike}
use Rattle.guest.proofs.guest.Guest.run.Goals as goal

pub returns-then-progress-gt0-clause-need : goal.returns-then-progress-gt0-clause-need
returns-then-progress-gt0-clause-need c =
    let g = c.self.inside in
    let boot = boot_machine g.profile g.image.value g.pages in
    let now = guest_of g.cpu g.bus boot g.owned_log in
    let after = guest_of c.run_pages-progress.new.cpu c.run_pages-progress.new.bus boot c.steps.new.self in
    let moves = run_on g.owned_log.log.items c.steps.new.self.log.items (steps_of c.args.seat.now.number c.run_pages-progress.result.steps) boot c.steps.ensures.adds.items in
    let shows : Intact now → Shows (view_of after) c.run_pages-progress.new.cpu c.run_pages-progress.new.bus = λ intact.
    subst (λ (m : Machine). Shows m c.run_pages-progress.new.cpu c.run_pages-progress.new.bus) (sym moves)
    (c.run_pages-progress.ensures.shows c.args.seat.now.number (view_of now) (view_zeros g.owned_log.log.items g.profile g.image.value g.pages) intact.shows) in
    subst (λ (g : GuestIs). Intact g → (p : ℕ) (why : Why) → c.run_pages-progress.result.pause ≡ Some (pause.Need p why) → first_lack (lacks_in after.bus.pages) (accesses (view_of after)) ≡ Some (p, why)) c.self.view_is
    (λ (intact : Intact now) p why is.
    need_alike (view_of after) c.run_pages-progress.new.cpu c.run_pages-progress.new.bus c.whole.ensures c.run_pages-progress.ensures.settled (shows intact) ∙ c.run_pages-progress.ensures.need p why is)

pub returns-then-progress-gt0-clause-moves : goal.returns-then-progress-gt0-clause-moves
returns-then-progress-gt0-clause-moves c =
    let g = c.self.inside in
    let boot = boot_machine g.profile g.image.value g.pages in
    let now = guest_of g.cpu g.bus boot g.owned_log in
    let after = guest_of c.run_pages-progress.new.cpu c.run_pages-progress.new.bus boot c.steps.new.self in
    let moves = run_on g.owned_log.log.items c.steps.new.self.log.items (steps_of c.args.seat.now.number c.run_pages-progress.result.steps) boot c.steps.ensures.adds.items in
    subst (λ (g : GuestIs). view_of after ≡ run (steps_of c.args.seat.now.number c.run_pages-progress.result.steps) (view_of g)) c.self.view_is moves

pub returns-then-progress-gt0-clause-intact : goal.returns-then-progress-gt0-clause-intact
returns-then-progress-gt0-clause-intact c =
    let g = c.self.inside in
    let boot = boot_machine g.profile g.image.value g.pages in
    let now = guest_of g.cpu g.bus boot g.owned_log in
    let after = guest_of c.run_pages-progress.new.cpu c.run_pages-progress.new.bus boot c.steps.new.self in
    let moves = run_on g.owned_log.log.items c.steps.new.self.log.items (steps_of c.args.seat.now.number c.run_pages-progress.result.steps) boot c.steps.ensures.adds.items in
    let shows : Intact now → Shows (view_of after) c.run_pages-progress.new.cpu c.run_pages-progress.new.bus = λ intact.
    subst (λ (m : Machine). Shows m c.run_pages-progress.new.cpu c.run_pages-progress.new.bus) (sym moves)
    (c.run_pages-progress.ensures.shows c.args.seat.now.number (view_of now) (view_zeros g.owned_log.log.items g.profile g.image.value g.pages) intact.shows) in
    subst (λ (g : GuestIs). Intact g → Intact after) c.self.view_is
    (λ (intact : Intact now). record {
      shows = shows intact;
      accepted = accepted_on g.owned_log.log.items c.steps.new.self.log.items c.args.seat.now.number c.run_pages-progress.result.steps boot c.steps.ensures.adds.items intact.accepted;
    })

pub returns-then-progress-gt0-clause-kept : goal.returns-then-progress-gt0-clause-kept
returns-then-progress-gt0-clause-kept c =
    let g = c.self.inside in
    let boot = boot_machine g.profile g.image.value g.pages in
    let now = guest_of g.cpu g.bus boot g.owned_log in
    let after = guest_of c.run_pages-progress.new.cpu c.run_pages-progress.new.bus boot c.steps.new.self in
    let moves = run_on g.owned_log.log.items c.steps.new.self.log.items (steps_of c.args.seat.now.number c.run_pages-progress.result.steps) boot c.steps.ensures.adds.items in
    subst (λ (g : GuestIs). Intact g → (held : ℕ → Option (List ℕ)) → Kept held (pages_seen (view_of g)) g.bus.pages → Kept held (pages_seen (view_of after)) after.bus.pages) c.self.view_is
    (λ (intact : Intact now) held k.
    subst (λ (m : Machine). Kept held (pages_seen m) c.run_pages-progress.new.bus.pages) (sym moves)
    (c.run_pages-progress.ensures.kept c.args.seat.now.number (view_of now) (view_zeros g.owned_log.log.items g.profile g.image.value g.pages) intact.shows held k))

pub returns-else-progress-gt0-clause-need : goal.returns-else-progress-gt0-clause-need
returns-else-progress-gt0-clause-need c =
    let g = c.self.inside in
    let boot = boot_machine g.profile g.image.value g.pages in
    let now = guest_of g.cpu g.bus boot g.owned_log in
    let after = guest_of c.run_pages-progress.new.cpu c.run_pages-progress.new.bus boot g.owned_log in
    let none : c.run_pages-progress.result.steps ≡ 0 = omega (arith, c.if-progress-gt0.false) in
    let moves : view_of now ≡ run (steps_of c.args.seat.now.number c.run_pages-progress.result.steps) (view_of now) =
    sym (ap (λ (n : ℕ). run (steps_of c.args.seat.now.number n) (view_of now)) none ∙ no_step c.args.seat.now.number (view_of now)) in
    let shows : Intact now → Shows (view_of after) c.run_pages-progress.new.cpu c.run_pages-progress.new.bus = λ intact.
    subst (λ (m : Machine). Shows m c.run_pages-progress.new.cpu c.run_pages-progress.new.bus) (sym moves)
    (c.run_pages-progress.ensures.shows c.args.seat.now.number (view_of now) (view_zeros g.owned_log.log.items g.profile g.image.value g.pages) intact.shows) in
    subst (λ (g : GuestIs). Intact g → (p : ℕ) (why : Why) → c.run_pages-progress.result.pause ≡ Some (pause.Need p why) → first_lack (lacks_in after.bus.pages) (accesses (view_of after)) ≡ Some (p, why)) c.self.view_is
    (λ (intact : Intact now) p why is.
    need_alike (view_of after) c.run_pages-progress.new.cpu c.run_pages-progress.new.bus c.whole.ensures c.run_pages-progress.ensures.settled (shows intact) ∙ c.run_pages-progress.ensures.need p why is)

pub returns-else-progress-gt0-clause-moves : goal.returns-else-progress-gt0-clause-moves
returns-else-progress-gt0-clause-moves c =
    let g = c.self.inside in
    let boot = boot_machine g.profile g.image.value g.pages in
    let now = guest_of g.cpu g.bus boot g.owned_log in
    let after = guest_of c.run_pages-progress.new.cpu c.run_pages-progress.new.bus boot g.owned_log in
    let none : c.run_pages-progress.result.steps ≡ 0 = omega (arith, c.if-progress-gt0.false) in
    let moves : view_of now ≡ run (steps_of c.args.seat.now.number c.run_pages-progress.result.steps) (view_of now) =
    sym (ap (λ (n : ℕ). run (steps_of c.args.seat.now.number n) (view_of now)) none ∙ no_step c.args.seat.now.number (view_of now)) in
    subst (λ (g : GuestIs). view_of after ≡ run (steps_of c.args.seat.now.number c.run_pages-progress.result.steps) (view_of g)) c.self.view_is moves

pub returns-then-progress-gt0-clause-room : goal.returns-then-progress-gt0-clause-room
returns-then-progress-gt0-clause-room c = λ p why is full.
    let g = c.self.inside in
    not_full_before g.owned_log.log c.steps.new.self.log c.args.seat.now.number c.steps_with_room-most.result c.run_pages-progress.result.steps c.steps_with_room-most.ensures.room
    (c.run_pages-progress.ensures.short p why is) c.steps.ensures.adds.items c.steps.ensures.adds.limit full

pub returns-then-progress-gt0-clause-quiet : goal.returns-then-progress-gt0-clause-quiet
returns-then-progress-gt0-clause-quiet c =
    let g = c.self.inside in
    let boot = boot_machine g.profile g.image.value g.pages in
    let now = guest_of g.cpu g.bus boot g.owned_log in
    let progress = c.run_pages-progress in
    let told = progress.ensures in
    subst (λ (g : GuestIs). Intact g → (k : ℕ) → k < progress.result.steps → first_lack (lacks_in g.bus.pages) (accesses (run (steps_of c.args.seat.now.number k) (view_of g))) ≡ None) c.self.view_is
    (λ (intact : Intact now). view_lacking c.args.seat.now.number progress.result.steps (view_of now) g.cpu g.bus told.whole c.self.invariant intact.shows
    (view_zeros g.owned_log.log.items g.profile g.image.value g.pages) told.lacking told.gives_last)

pub returns-then-progress-gt0-clause-gives_last : goal.returns-then-progress-gt0-clause-gives_last
returns-then-progress-gt0-clause-gives_last c =
    let g = c.self.inside in
    let boot = boot_machine g.profile g.image.value g.pages in
    let now = guest_of g.cpu g.bus boot g.owned_log in
    let progress = c.run_pages-progress in
    let told = progress.ensures in
    subst (λ (g : GuestIs). Intact g → (k : ℕ) → k + 1 < progress.result.steps → step_given (run (steps_of c.args.seat.now.number k) (view_of g)) ≡ None) c.self.view_is
    (λ (intact : Intact now). view_given c.args.seat.now.number progress.result.steps (view_of now) g.cpu g.bus told.whole c.self.invariant intact.shows
    (view_zeros g.owned_log.log.items g.profile g.image.value g.pages) told.lacking told.gives_last)

pub returns-then-progress-gt0-clause-given : goal.returns-then-progress-gt0-clause-given
returns-then-progress-gt0-clause-given c =
    let g = c.self.inside in
    let boot = boot_machine g.profile g.image.value g.pages in
    let now = guest_of g.cpu g.bus boot g.owned_log in
    let progress = c.run_pages-progress in
    let told = progress.ensures in
    subst (λ (g : GuestIs). Intact g → last_given c.args.seat.now.number progress.result.steps (standing g) ≡ last_given c.args.seat.now.number progress.result.steps (view_of g)) c.self.view_is
    (λ (intact : Intact now). view_last c.args.seat.now.number progress.result.steps (view_of now) g.cpu g.bus told.whole c.self.invariant intact.shows
    (view_zeros g.owned_log.log.items g.profile g.image.value g.pages) told.lacking told.gives_last)

pub returns-then-progress-gt0-clause-paused : goal.returns-then-progress-gt0-clause-paused
returns-then-progress-gt0-clause-paused c =
    let g = c.self.inside in
    let boot = boot_machine g.profile g.image.value g.pages in
    let now = guest_of g.cpu g.bus boot g.owned_log in
    let progress = c.run_pages-progress in
    let told = progress.ensures in
    subst (λ (g : GuestIs). HasPaused (last_given c.args.seat.now.number progress.result.steps (standing g)) g.bus.pages progress.result.pause progress.new.bus.pages) c.self.view_is
    (told.paused c.args.seat.now.number)

pub returns-else-progress-gt0-clause-quiet : goal.returns-else-progress-gt0-clause-quiet
returns-else-progress-gt0-clause-quiet c =
    let g = c.self.inside in
    let boot = boot_machine g.profile g.image.value g.pages in
    let now = guest_of g.cpu g.bus boot g.owned_log in
    let progress = c.run_pages-progress in
    let told = progress.ensures in
    subst (λ (g : GuestIs). Intact g → (k : ℕ) → k < progress.result.steps → first_lack (lacks_in g.bus.pages) (accesses (run (steps_of c.args.seat.now.number k) (view_of g))) ≡ None) c.self.view_is
    (λ (intact : Intact now). view_lacking c.args.seat.now.number progress.result.steps (view_of now) g.cpu g.bus told.whole c.self.invariant intact.shows
    (view_zeros g.owned_log.log.items g.profile g.image.value g.pages) told.lacking told.gives_last)

pub returns-else-progress-gt0-clause-gives_last : goal.returns-else-progress-gt0-clause-gives_last
returns-else-progress-gt0-clause-gives_last c =
    let g = c.self.inside in
    let boot = boot_machine g.profile g.image.value g.pages in
    let now = guest_of g.cpu g.bus boot g.owned_log in
    let progress = c.run_pages-progress in
    let told = progress.ensures in
    subst (λ (g : GuestIs). Intact g → (k : ℕ) → k + 1 < progress.result.steps → step_given (run (steps_of c.args.seat.now.number k) (view_of g)) ≡ None) c.self.view_is
    (λ (intact : Intact now). view_given c.args.seat.now.number progress.result.steps (view_of now) g.cpu g.bus told.whole c.self.invariant intact.shows
    (view_zeros g.owned_log.log.items g.profile g.image.value g.pages) told.lacking told.gives_last)

pub returns-else-progress-gt0-clause-given : goal.returns-else-progress-gt0-clause-given
returns-else-progress-gt0-clause-given c =
    let g = c.self.inside in
    let boot = boot_machine g.profile g.image.value g.pages in
    let now = guest_of g.cpu g.bus boot g.owned_log in
    let progress = c.run_pages-progress in
    let told = progress.ensures in
    subst (λ (g : GuestIs). Intact g → last_given c.args.seat.now.number progress.result.steps (standing g) ≡ last_given c.args.seat.now.number progress.result.steps (view_of g)) c.self.view_is
    (λ (intact : Intact now). view_last c.args.seat.now.number progress.result.steps (view_of now) g.cpu g.bus told.whole c.self.invariant intact.shows
    (view_zeros g.owned_log.log.items g.profile g.image.value g.pages) told.lacking told.gives_last)

pub returns-else-progress-gt0-clause-paused : goal.returns-else-progress-gt0-clause-paused
returns-else-progress-gt0-clause-paused c =
    let g = c.self.inside in
    let boot = boot_machine g.profile g.image.value g.pages in
    let now = guest_of g.cpu g.bus boot g.owned_log in
    let progress = c.run_pages-progress in
    let told = progress.ensures in
    subst (λ (g : GuestIs). HasPaused (last_given c.args.seat.now.number progress.result.steps (standing g)) g.bus.pages progress.result.pause progress.new.bus.pages) c.self.view_is
    (told.paused c.args.seat.now.number)

pub returns-then-progress-gt0-clause-there : goal.returns-then-progress-gt0-clause-there
returns-then-progress-gt0-clause-there c =
    subst (λ (g : GuestIs). (p : ℕ) (why : Why) → c.run_pages-progress.result.pause ≡ Some (pause.Need p why) → p < length g.bus.pages) c.self.view_is
    c.run_pages-progress.ensures.there

pub returns-else-progress-gt0-clause-there : goal.returns-else-progress-gt0-clause-there
returns-else-progress-gt0-clause-there c =
    subst (λ (g : GuestIs). (p : ℕ) (why : Why) → c.run_pages-progress.result.pause ≡ Some (pause.Need p why) → p < length g.bus.pages) c.self.view_is
    c.run_pages-progress.ensures.there
