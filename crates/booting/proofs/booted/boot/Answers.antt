use Rattle.std.proofs.Common.{ℕ, ◌≡◌, Err, List, [], map, sum_by, sym, ap, subst, ◌∙◌, arith}
use Rattle.page_moves.specs.Books.{Books}
use Rattle.booting.specs.Boots.{pages_in}
use Rattle.booting.specs.declared.asked.NewGuest.{NewGuest}
use Rattle.booting.proofs.Refusing.{ArePassed, admitted_find_room}
use Rattle.booting.proofs.booted.boot.Goals as goal

pub returns-in-Ok-boot_each-clause-exact : goal.returns-in-Ok-boot_each-clause-exact
returns-in-Ok-boot_each-clause-exact g c =
    let slots = g.S.SwapStore.slots in
    let frames = c.args.config.frames in
    let b = c.in-Ok.booted in
    let new = c.boot_each.new in
    subst (λ (n : ℕ). Books frames n (map pages_in new.guests.items) b.shares.entries new.pool new.slots) (sym c.boot_each.ensures.stays.slots)
    (c.in-Ok-boot_each.ensures.exact frames b.shares.entries
    (subst (λ (n : ℕ). Books frames n [] b.shares.entries b.pool b.slots) (ap slots (sym c.in-Ok.ensures.store)) c.in-Ok.ensures.exact))

pub returns-in-Err-boot_each-clause-admitted_find_room : goal.returns-in-Err-boot_each-clause-admitted_find_room
returns-in-Err-boot_each-clause-admitted_find_room g c = λ room admit.
    let config = c.args.config in
    let slots = g.S.SwapStore.slots c.args.store in
    let passed : ArePassed config slots c.args.guests.items =
    subst (λ (l : List NewGuest). ArePassed config slots l) c.deref.ensures.value
    (subst (λ (n : ℕ). ArePassed config n c.deref.result.now) c.slot_count.ensures c.in_default.ensures.why) in
    let all : c.deref-2.result.now ≡ c.args.guests.items = c.deref-2.ensures.value ∙ ap (λ v. v.items) c.in-Ok.ensures.asked in
    admitted_find_room config slots c.args.guests.items (passed.2 admit)
    (omega (arith, c.in-Err-boot_each.ensures.room (ap (λ e. Err e) room), c.in-Ok.ensures.frames, c.in-Ok.ensures.slots, ap (sum_by (λ (n : NewGuest). n.pages)) all))
