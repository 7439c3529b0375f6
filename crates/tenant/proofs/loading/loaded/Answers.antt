use Rattle.std.proofs.Common.{◌≡◌, List, [], length, replicate, sym, ap, subst, ◌∙◌, arith}
use Rattle.std.proofs.lemmas.List.{length-replicate}
use Rattle.elf32.specs.declared.image.Image.{Image}
use Rattle.elf32.specs.Images.{FitsPages}
use Rattle.machine.specs.Boot.{boot_machine}
use Rattle.guest_pages.specs.declared.page.Page.{Page}
use Rattle.guest_pages.specs.declared.page.Page.TheVariants.{Zero}
use Rattle.page_moves.specs.Moves.{Conserves, Reads}
use Rattle.guest_bus.specs.Buses.{GuestBusIs}
use Rattle.guest.specs.Guests.{GuestIs}
use Rattle.guest.specs.Loading.{IsBeside}
use Rattle.tenant.proofs.Booting.{untouched_reads, loaded_run, none_held}
use Rattle.tenant.proofs.loading.loaded.Goals as goal

pub load-requires-clause-fits : goal.load-requires-clause-fits
load-requires-clause-fits g c =
    let none : c.in-Ok-boot.guest.bus.pages ≡ replicate c.args.pages Zero = ap (λ (b : GuestBusIs). b.pages) c.in-Ok-boot.ensures.bus in
    subst (FitsPages c.deref.result.now) (sym (ap length none ∙ length-replicate c.args.pages Zero)) (subst (λ (i : Image). FitsPages i c.args.pages) (sym c.deref.ensures) c.requires.fits)

pub returns-in-Ok-load-clause-conserves : goal.returns-in-Ok-load-clause-conserves
returns-in-Ok-load-clause-conserves g c = λ es.
    let none : c.in-Ok-boot.guest.bus.pages ≡ replicate c.args.pages Zero = ap (λ (b : GuestBusIs). b.pages) c.in-Ok-boot.ensures.bus in
    subst (λ (ps : List Page). Conserves ps c.args.pool.now c.args.slots.now es c.load.new.guest.bus.pages c.load.new.pool c.load.new.slots es) none (c.load.ensures.conserves es)

pub returns-in-Ok-load-clause-reads : goal.returns-in-Ok-load-clause-reads
returns-in-Ok-load-clause-reads g c = λ es.
    let none : c.in-Ok-boot.guest.bus.pages ≡ replicate c.args.pages Zero = ap (λ (b : GuestBusIs). b.pages) c.in-Ok-boot.ensures.bus in
    c.load.ensures.reads es (subst (Reads es) (sym none) (untouched_reads es c.args.pages))

pub returns-in-Ok-load-clause-intact : goal.returns-in-Ok-load-clause-intact
returns-in-Ok-load-clause-intact g c =
    (loaded_run (g.S.SwapStore.held c.load.new.store) c.args.profile c.args.image.value c.in-Ok.its_image.value c.deref.result.now c.args.pages c.in-Ok-boot.guest c.load.new.guest c.requires.fits c.in-Ok.ensures c.deref.ensures
    c.in-Ok-boot.ensures.cpu c.in-Ok-boot.ensures.bus c.in-Ok-boot.ensures.boot c.in-Ok-boot.ensures.log c.load.ensures.rest c.load.ensures.count c.in-Ok-load.ensures.loaded).0

pub returns-in-Ok-load-clause-kept : goal.returns-in-Ok-load-clause-kept
returns-in-Ok-load-clause-kept g c =
    (loaded_run (g.S.SwapStore.held c.load.new.store) c.args.profile c.args.image.value c.in-Ok.its_image.value c.deref.result.now c.args.pages c.in-Ok-boot.guest c.load.new.guest c.requires.fits c.in-Ok.ensures c.deref.ensures
    c.in-Ok-boot.ensures.cpu c.in-Ok-boot.ensures.bus c.in-Ok-boot.ensures.boot c.in-Ok-boot.ensures.log c.load.ensures.rest c.load.ensures.count c.in-Ok-load.ensures.loaded).1

pub returns-in-Ok-load-clause-booted : goal.returns-in-Ok-load-clause-booted
returns-in-Ok-load-clause-booted g c =
    let rest = c.load.ensures.rest in
    let b = c.in-Ok-boot.ensures in
    record {
      boot = ap (λ (h : GuestIs). h.boot) rest ∙ b.boot ∙ ap (λ (i : Image). boot_machine c.args.profile i c.args.pages) c.in-Ok.ensures;
      items = ap (λ (h : GuestIs). h.log.items) rest ∙ b.log;
      limit = ap (λ (h : GuestIs). h.log.limit) rest ∙ b.limit;
      seats = ap (λ (h : GuestIs). h.seats) rest ∙ b.seats;
      size = c.load.ensures.count ∙ ap (λ (u : GuestBusIs). length u.pages) b.bus ∙ length-replicate c.args.pages Zero;
      beside = λ p away. c.in-Ok-load.ensures.untouched.beside p (subst (λ (i : Image). IsBeside i p) (sym c.deref.ensures) away);
    }

pub returns-in-Ok-load-clause-slots_taken : goal.returns-in-Ok-load-clause-slots_taken
returns-in-Ok-load-clause-slots_taken g c = λ k.
    let none : c.in-Ok-boot.guest.bus.pages ≡ replicate c.args.pages Zero = ap (λ (b : GuestBusIs). b.pages) c.in-Ok-boot.ensures.bus in
    omega (arith, (c.load.ensures.conserves []).slots.numbers k, none_held c.args.pages c.in-Ok-boot.guest.bus.pages k none)
