use Rattle.std.proofs.Common.{◌≡◌, ◌⊎◌, ◌↔◌, inr, None, get_or, refl, sym, subst}
use Rattle.world.proofs.All.{GuestIs, IsSized, LieIn, RunStop, SomePlaceIn, WhyHalted, around_same, bytes_at, guest_of, kept_at, no_true, page_at, pages_in, same_pages, standing, without_pages}
use Rattle.guest.proofs.Placing.{view_none, moved_none, moved_places}
use Rattle.world.proofs.Damaged.{halted_later}
use Rattle.world.proofs.Reached.{ready_unwanted}
use Rattle.world.proofs.Runs.{moved_same}
use Rattle.world.proofs.world.World.reach.Goals as goal

pub returns-in_default-clause-no_place : goal.returns-in_default-clause-no_place
returns-in_default-clause-no_place g c = λ trust t.
    let u = get_or c.args.self.now.tenants c.args.g t in
    let seen = view_none u.guest c.args.address c.args.count (kept_at c.is_sound.ensures c.requires.guest c.guest.ensures trust t).intact
    (subst IsSized (guest_of c.args.self.now.tenants c.args.g c.guest-2.ensures c.guest.ensures t) c.is_sized.ensures) in
    (λ e. seen.0 (subst (λ (x : GuestIs). bytes_at (standing x) c.args.address c.args.count ≡ None) (guest_of c.args.self.now.tenants c.args.g c.guest-4.ensures c.guest-3.ensures t) (c.in_default.ensures.none.0 refl)), λ e. refl)

pub returns-in-Ok-clause-no_place : goal.returns-in-Ok-clause-no_place
returns-in-Ok-clause-no_place g c = λ trust t.
    let u = get_or c.args.self.now.tenants c.args.g t in
    let seen = view_none u.guest c.args.address c.args.count (kept_at c.is_sound.ensures c.requires.guest c.guest.ensures trust t).intact
    (subst IsSized (guest_of c.args.self.now.tenants c.args.g c.guest-2.ensures c.guest.ensures t) c.is_sized.ensures) in (
      λ e. absurd (cc),
      λ none. absurd
          (no_true
          (c.in-Some.ensures.none.1 (subst (λ (x : GuestIs). bytes_at (standing x) c.args.address c.args.count ≡ None) (sym (guest_of c.args.self.now.tenants c.args.g c.guest-4.ensures c.guest-3.ensures t)) (seen.1 none)))),
    )

pub returns-in-Err-clause-no_place : goal.returns-in-Err-clause-no_place
returns-in-Err-clause-no_place g c = λ trust t.
    let u = get_or c.args.self.now.tenants c.args.g t in
    let seen = view_none u.guest c.args.address c.args.count (kept_at c.is_sound.ensures c.requires.guest c.guest.ensures trust t).intact
    (subst IsSized (guest_of c.args.self.now.tenants c.args.g c.guest-2.ensures c.guest.ensures t) c.is_sized.ensures) in (
      λ e. absurd (cc),
      λ none. absurd
          (no_true
          (c.in-Some.ensures.none.1 (subst (λ (x : GuestIs). bytes_at (standing x) c.args.address c.args.count ≡ None) (sym (guest_of c.args.self.now.tenants c.args.g c.guest-4.ensures c.guest-3.ensures t)) (seen.1 none)))),
    )

pub returns-in-Err-clause-stop : goal.returns-in-Err-clause-stop
returns-in-Err-clause-stop g c =
    let s = g.S.SwapStore in
    let w = c.args.self.now in
    let new = c.supply_reached.new.self in
    let pages = c.in-Some.pages in
    let lies = LieIn w c.args.g c.args.address c.args.count in
    subst (λ (why : RunStop). WhyHalted s c.args.g lies w new why) (sym c.stop_of.ensures)
    (halted_later {facts = s} c.args.g (λ q. (q ≡ pages.0) ⊎ (q ≡ pages.1)) lies w w new around_same refl
    (λ q which t. subst (λ (x : GuestIs). SomePlaceIn (standing x) c.args.address c.args.count q) (guest_of w.tenants c.args.g c.guest-4.ensures c.guest-3.ensures t) ((c.in-Some.ensures.reached q).1 which))
    c.in-Err.error c.in-Err.ensures.err)

pub returns-in-Ok-clause-placed : goal.returns-in-Ok-clause-placed
returns-in-Ok-clause-placed g c = λ t none.
    let ts = c.args.self.now.tenants in
    let new = c.supply_reached.new.self.tenants in
    let sized = subst IsSized (guest_of c.args.self.now.tenants c.args.g c.guest-2.ensures c.guest.ensures t) c.is_sized.ensures in
    let sized' = subst IsSized (guest_of c.supply_reached.new.self.tenants c.args.g c.guest-in-Ok-2.ensures c.guest-in-Ok.ensures t) c.is_sized-in-Ok.ensures in
    let rest = moved_same (λ u. without_pages u.guest) (λ u. refl) ts new c.args.g t c.requires.guest c.supply_reached.ensures.moves in
    let stands = moved_none (get_or ts c.args.g t).guest (get_or new c.args.g t).guest c.args.address c.args.count rest (same_pages ts new c.args.g t c.requires.guest c.supply_reached.ensures.moves) sized sized' none in
    no_true (c.in-Some.ensures.none.1 (subst (λ (x : GuestIs). bytes_at (standing x) c.args.address c.args.count ≡ None) (sym (guest_of c.args.self.now.tenants c.args.g c.guest-4.ensures c.guest-3.ensures t)) stands))

pub returns-in-Ok-clause-there : goal.returns-in-Ok-clause-there
returns-in-Ok-clause-there g c = λ t q some.
    let ts = c.args.self.now.tenants in
    let new = c.supply_reached.new.self.tenants in
    let sized = subst IsSized (guest_of c.args.self.now.tenants c.args.g c.guest-2.ensures c.guest.ensures t) c.is_sized.ensures in
    let sized' = subst IsSized (guest_of c.supply_reached.new.self.tenants c.args.g c.guest-in-Ok-2.ensures c.guest-in-Ok.ensures t) c.is_sized-in-Ok.ensures in
    let rest = moved_same (λ u. without_pages u.guest) (λ u. refl) ts new c.args.g t c.requires.guest c.supply_reached.ensures.moves in
    let before = moved_places (get_or ts c.args.g t).guest (get_or new c.args.g t).guest c.args.address c.args.count q rest (same_pages ts new c.args.g t c.requires.guest c.supply_reached.ensures.moves) sized sized' some in
    let which = (c.in-Some.ensures.reached q).0 (subst (λ (x : GuestIs). SomePlaceIn (standing x) c.args.address c.args.count q) (sym (guest_of c.args.self.now.tenants c.args.g c.guest-4.ensures c.guest-3.ensures t)) before) in
    ready_unwanted c.args.access (page_at (pages_in (get_or ts c.args.g t)) q) (page_at (pages_in (get_or new c.args.g t)) q) (c.in-Ok.ensures.ready t q which)

pub returns-in-Ok-clause-ready : goal.returns-in-Ok-clause-ready
returns-in-Ok-clause-ready g c = λ t q some.
    c.in-Ok.ensures.ready t q ((c.in-Some.ensures.reached q).0 (subst (λ (x : GuestIs). SomePlaceIn (standing x) c.args.address c.args.count q) (sym (guest_of c.args.self.now.tenants c.args.g c.guest-4.ensures c.guest-3.ensures t)) some))

pub returns-in-Ok-clause-stays : goal.returns-in-Ok-clause-stays
returns-in-Ok-clause-stays g c = λ t q some.
    c.supply_reached.ensures.stays t q ((c.in-Some.ensures.reached q).0 (subst (λ (x : GuestIs). SomePlaceIn (standing x) c.args.address c.args.count q) (sym (guest_of c.args.self.now.tenants c.args.g c.guest-4.ensures c.guest-3.ensures t)) some))

pub returns-in-Err-clause-stays : goal.returns-in-Err-clause-stays
returns-in-Err-clause-stays g c = λ t q some.
    c.supply_reached.ensures.stays t q ((c.in-Some.ensures.reached q).0 (subst (λ (x : GuestIs). SomePlaceIn (standing x) c.args.address c.args.count q) (sym (guest_of c.args.self.now.tenants c.args.g c.guest-4.ensures c.guest-3.ensures t)) some))

pub returns-in-Ok-clause-chosen : goal.returns-in-Ok-clause-chosen
returns-in-Ok-clause-chosen g c =
    let pages = c.in-Some.pages in
    inr (record {
      pages = pages;
      these = λ t q.
          subst (λ (x : GuestIs). SomePlaceIn (standing x) c.args.address c.args.count q ↔ ((q ≡ pages.0) ⊎ (q ≡ pages.1))) (guest_of c.args.self.now.tenants c.args.g c.guest-4.ensures c.guest-3.ensures t) (c.in-Some.ensures.reached q);
      reached = c.supply_reached.ensures.chosen;
    })

pub returns-in-Err-clause-chosen : goal.returns-in-Err-clause-chosen
returns-in-Err-clause-chosen g c =
    let pages = c.in-Some.pages in
    inr (record {
      pages = pages;
      these = λ t q.
          subst (λ (x : GuestIs). SomePlaceIn (standing x) c.args.address c.args.count q ↔ ((q ≡ pages.0) ⊎ (q ≡ pages.1))) (guest_of c.args.self.now.tenants c.args.g c.guest-4.ensures c.guest-3.ensures t) (c.in-Some.ensures.reached q);
      reached = c.supply_reached.ensures.chosen;
    })
