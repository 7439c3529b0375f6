-- A guest whose pages have left their places.
use Rattle.std.proofs.Common.{ℕ, ◌≡◌, ◌*◌, List, [], Option, length, sym, ap, subst, ◌∙◌}
use Rattle.items.specs.declared.item.Item.{Item}
use Rattle.machine.specs.Processor.{Processor}
use Rattle.machine.specs.Step.{Machine}
use Rattle.machine.specs.Items.{run, AllAccepted}
use Rattle.page_moves.specs.Faith.{Faithful, Kept}
use Rattle.guest_bus.specs.Buses.{GuestBusIs}
use Rattle.guest.specs.Guests.{GuestIs, view_of, without_pages, LogsOnly, Intact}
use Rattle.guest.specs.Views.{pages_seen, Shows}

pub same_view : (g g' : GuestIs) → without_pages g' ≡ without_pages g → view_of g' ≡ view_of g
same_view g g' rest = ap view_of rest

pub still_intact : (g g' : GuestIs) → without_pages g' ≡ without_pages g → length g'.bus.pages ≡ length g.bus.pages
    → Intact g → Faithful (pages_seen (view_of g)) g'.bus.pages → Intact g'
still_intact g g' rest count intact pages =
    let view : view_of g' ≡ view_of g = same_view g g' rest in
    record {
      shows = record {
        cpu = ap (λ (h : GuestIs). h.cpu) rest ∙ intact.shows.cpu ∙ sym (ap (λ (m : Machine). m.cpu) view);
        devices = ap (λ (h : GuestIs). h.bus.devices) rest ∙ intact.shows.devices ∙ sym (ap (λ (m : Machine). m.board.devices) view);
        size = ap (λ (m : Machine). length m.board.memory) view ∙ intact.shows.size ∙ sym (ap (λ (n : ℕ). n * 4096) count);
        pages = subst (λ (m : Machine). Faithful (pages_seen m) g'.bus.pages) (sym view) pages;
      };
      accepted = subst (λ (h : GuestIs). AllAccepted h.log.items h.boot) (sym rest) intact.accepted;
    }

pub booted_intact : (g : GuestIs) → g.log.items ≡ [] → g.cpu ≡ g.boot.cpu → g.bus.devices ≡ g.boot.board.devices
    → length g.boot.board.memory ≡ length g.bus.pages * 4096 → Faithful (pages_seen g.boot) g.bus.pages → Intact g
booted_intact g none cpu devices size pages =
    let view : view_of g ≡ g.boot = ap (λ (items : List Item). run items g.boot) none in
    record {
      shows = subst (λ (m : Machine). Shows m g.cpu g.bus) (sym view) (record { cpu = cpu; devices = devices; size = size; pages = pages });
      accepted = subst (λ (items : List Item). AllAccepted items g.boot) (sym none) tt;
    }

-- what is so of a guest, is so where only the room in its log has changed
module _ (g g' : GuestIs) (only : LogsOnly g g') (items : g'.log.items ≡ g.log.items) where
  still_so : (So : Processor → GuestBusIs → Machine → List Item → Type 0) → So g.cpu g.bus g.boot g.log.items → So g'.cpu g'.bus g'.boot g'.log.items
  still_so So so =
      subst (λ (c : Processor). So c g'.bus g'.boot g'.log.items) (sym only.cpu)
      (subst (λ (b : GuestBusIs). So g.cpu b g'.boot g'.log.items) (sym only.bus)
      (subst (λ (m : Machine). So g.cpu g.bus m g'.log.items) (sym only.boot)
      (subst (So g.cpu g.bus g.boot) (sym items) so)))

  pub was_so : (So : Processor → GuestBusIs → Machine → List Item → Type 0) → So g'.cpu g'.bus g'.boot g'.log.items → So g.cpu g.bus g.boot g.log.items
  was_so So so =
      subst (λ (c : Processor). So c g.bus g.boot g.log.items) only.cpu
      (subst (λ (b : GuestBusIs). So g'.cpu b g.boot g.log.items) only.bus
      (subst (λ (m : Machine). So g'.cpu g'.bus m g.log.items) only.boot
      (subst (So g'.cpu g'.bus g'.boot) items so)))

  pub roomy_intact : Intact g → Intact g'
  roomy_intact intact = record {
    shows = still_so (λ (c : Processor) (b : GuestBusIs) (m : Machine) (xs : List Item). Shows (run xs m) c b) intact.shows;
    accepted = still_so (λ (c : Processor) (b : GuestBusIs) (m : Machine) (xs : List Item). AllAccepted xs m) intact.accepted;
  }

  pub roomy_kept : (held : ℕ → Option (List ℕ)) → Kept held (pages_seen (view_of g)) g.bus.pages → Kept held (pages_seen (view_of g')) g'.bus.pages
  roomy_kept held = still_so (λ (c : Processor) (b : GuestBusIs) (m : Machine) (xs : List Item). Kept held (pages_seen (run xs m)) b.pages)
