use Rattle.std.proofs.Common.{ℕ, ◌≡◌, ◌<◌, inr, refl, Option, List, get_or, length, sym, subst, ◌∙◌}
use Rattle.world.proofs.All.{EntriesAre, FreeList, IsKept, IsNeeded, Private, Sound, TenantIs, Why, around_same, fault_room, first_of, guests_move, kept_of, kind_at, needed_by, on_ok_weaker, pages_in, some_none, still_admitted}
use Rattle.world.proofs.Damaged.{unsupplied_if}
use Rattle.world.proofs.world.World.fault.Goals as goal

-- what a guest of a world needs, where the store is trusted
its_need : {frames slots : ℕ} {trusted : Type 0} {held : ℕ → Option (List ℕ)} {ts : List TenantIs} {pool book : FreeList} {es : EntriesAre} {g : ℕ} {t : TenantIs} (needed : Option (ℕ × Why))
    → Sound frames slots trusted held ts pool book es → g < length ts → ((d : TenantIs) → t ≡ get_or ts g d) → ((held : ℕ → Option (List ℕ)) → IsKept held t → needed ≡ needed_by t)
    → trusted → (d : TenantIs) → needed ≡ needed_by (get_or ts g d)
its_need {held = held} {t = t} needed s inside at need trust d = subst (λ (u : TenantIs). needed ≡ needed_by u) (at d) (need held (kept_of s inside (at t) trust))

pub returns-in_default-clause-supplied : goal.returns-in_default-clause-supplied
returns-in_default-clause-supplied g c = λ trust t p why some.
    absurd (some_none (p, why) (sym some ∙ sym (its_need c.need.result c.is_sound.ensures c.requires c.guest.ensures c.need.ensures.need trust t) ∙ c.in_default.is))

pub supply_sparing-answer-requires-clause-page : goal.supply_sparing-answer-requires-clause-page
supply_sparing-answer-requires-clause-page g c = λ t. subst (λ (u : TenantIs). c.in-Some.needed.0 < length (pages_in u)) (c.guest.ensures t) c.in-Some.ensures.there

pub returns-clause-supplied : goal.returns-clause-supplied
returns-clause-supplied g c =
    on_ok_weaker c.supply_sparing-answer.result (λ private trust t p why some.
    subst (λ (q : ℕ). kind_at (pages_in (get_or c.supply_sparing-answer.new.self.tenants c.args.g t)) q ≡ Private)
    (first_of c.in-Some.needed p why (sym c.in-Some.is ∙ its_need c.need.result c.is_sound.ensures c.requires c.guest.ensures c.need.ensures.need trust t ∙ some)) (private t))
    c.supply_sparing-answer.ensures.private

pub returns-clause-chosen : goal.returns-clause-chosen
returns-clause-chosen g c =
    inr (record {
      p = c.in-Some.needed.0;
      needed = λ trust t. (c.in-Some.needed.1, sym (its_need c.need.result c.is_sound.ensures c.requires c.guest.ensures c.need.ensures.need trust t) ∙ c.in-Some.is);
      supplied = c.supply_sparing-answer.ensures.chosen;
    })

pub returns-clause-met : goal.returns-clause-met
returns-clause-met g c =
    on_ok_weaker c.supply_sparing-answer.result (λ private. inr (record {
      its = record {
        p = c.in-Some.needed.0;
        needed = λ trust t. (c.in-Some.needed.1, sym (its_need c.need.result c.is_sound.ensures c.requires c.guest.ensures c.need.ensures.need trust t) ∙ c.in-Some.is);
        supplied = c.supply_sparing-answer.ensures.chosen;
      };
      private = private;
    })) c.supply_sparing-answer.ensures.private

pub returns-clause-err : goal.returns-clause-err
returns-clause-err g c =
    let s = g.S.SwapStore in
    let w = c.args.self.now in
    unsupplied_if {facts = s} c.args.g (λ q. q ≡ c.in-Some.needed.0) (IsNeeded s w c.args.g) w w c.supply_sparing-answer.new.self around_same refl
    (λ q is. subst (IsNeeded s w c.args.g) (sym is) (λ trust t. (c.in-Some.needed.1, sym (its_need c.need.result c.is_sound.ensures c.requires c.guest.ensures c.need.ensures.need trust t) ∙ c.in-Some.is)))
    c.supply_sparing-answer.result c.supply_sparing-answer.ensures.err

pub returns-clause-nothing : goal.returns-clause-nothing
returns-clause-nothing g c = λ trust t none.
    absurd (some_none c.in-Some.needed (sym c.in-Some.is ∙ its_need c.need.result c.is_sound.ensures c.requires c.guest.ensures c.need.ensures.need trust t ∙ none))

pub returns-clause-room : goal.returns-clause-room
returns-clause-room g c = λ admitted.
    let s = g.S.SwapStore in
    let e = c.supply_sparing-answer.ensures in
    fault_room s c.args.g (λ q. q ≡ c.in-Some.needed.0) c.args.self.now c.supply_sparing-answer.new.self c.supply_sparing-answer.result e.err c.is_sound-2.ensures c.shared_frames_are_named.ensures
    (still_admitted e.around.frames e.around.store.slots (guests_move e.moves).limits admitted)
