use Rattle.std.proofs.Common.{◌≡◌, ◌<◌, ◌++◌, ◌∷◌, [], List, get_or, length, map, take, sym, ap, subst, ◌∙◌, arith}
use Rattle.std.proofs.lemmas.List.{map-append, take_all}
use Rattle.booting.proofs.Guests.{one_more_asked}
use Rattle.world.proofs.All.{AreBooted, GuestIs, NewGuest, TenantIs, guest_in, with_seats}
use Rattle.world.proofs.Booting.{its_boot, minimum_fits, next_of, one_booted, rest_of, seated_boot}
use Rattle.world.proofs.boot.seat_each.Goals as goal

pub new-requires-clause-seats : goal.new-requires-clause-seats
new-requires-clause-seats c =
    let i = c.loop-new.new-index in
    let asked = c.args.asked.now in
    let gs = c.args.guests.items in
    let guest = c.in-Some.guest in
    let inside : i < length asked = omega (arith, c.loop-new-test.true, c.loop-new.auto.new-index-end) in
    (its_boot asked gs i c.new-item.result guest c.requires.at_boot.1 inside c.new-item.is (next_of gs i guest c.loop-new.invariant.left c.in-Some.ensures.items)).seats

pub new-requires-clause-most : goal.new-requires-clause-most
new-requires-clause-most c =
    let i = c.loop-new.new-index in
    let asked = c.args.asked.now in
    let gs = c.args.guests.items in
    let guest = c.in-Some.guest in
    let n = c.new-item.result in
    let inside : i < length asked = omega (arith, c.loop-new-test.true, c.loop-new.auto.new-index-end) in
    minimum_fits asked i n guest c.requires.within inside c.new-item.is
    (its_boot asked gs i n guest c.requires.at_boot.1 inside c.new-item.is (next_of gs i guest c.loop-new.invariant.left c.in-Some.ensures.items))

pub loop-new-preserved : goal.loop-new-preserved
loop-new-preserved c =
    let i = c.loop-new.new-index in
    let at = c.loop-new.invariant in
    let asked = c.args.asked.now in
    let n = c.new-item.result in
    let gs = c.args.guests.items in
    let guest = c.in-Some.guest in
    let ts = c.loop-new.tenants.items in
    let t = c.new.result in
    let inside : i < length asked = omega (arith, c.loop-new-test.true, c.loop-new.auto.new-index-end) in
    let next : guest ≡ get_or gs i guest = next_of gs i guest at.left c.in-Some.ensures.items in
    let there : i < length gs = omega (arith, inside, c.requires.at_boot.1.count) in
    let all : c.push_reserved.new.self.items ≡ ts ++ t ∷ [] = c.push_reserved.ensures.items in
    record {
      left = rest_of gs i at.left c.in-Some.ensures.items;
      size = omega (arith, at.size, c.in-Some.ensures.len);
      guests =
          ap (map guest_in) all ∙ map-append guest_in ts (t ∷ []) ∙ ap (λ (h : GuestIs). map guest_in ts ++ h ∷ []) c.new.ensures.guest
          ∙ ap (λ (l : List GuestIs). l ++ with_seats guest ∷ []) at.guests ∙ sym (map-append with_seats (take i gs) (guest ∷ []))
          ∙ ap (map with_seats) (sym (one_more_asked gs i guest there next));
      booted = λ runs a.
          subst (λ (l : List NewGuest). AreBooted runs l c.push_reserved.new.self.items) (sym (one_more_asked asked i n inside c.new-item.is))
          (subst (λ (us : List TenantIs). AreBooted runs (take i asked ++ n ∷ []) us) (sym all)
          (one_booted runs (take i asked) n ts t
          (seated_boot n guest t (its_boot asked gs i n guest a inside c.new-item.is next) c.new.ensures.guest c.new.ensures.shares c.new.ensures.minimum c.new.ensures.unsampled c.new.ensures.unblocked)
          (at.booted runs a)));
      len = omega (arith, c.push_reserved.ensures.len, at.len);
      room = c.push_reserved.ensures.capacity ∙ at.room;
    }

pub returns-clause-booted : goal.returns-clause-booted
returns-clause-booted c = λ runs a.
    subst (λ (l : List NewGuest). AreBooted runs l c.loop-new.tenants.items) (take_all c.loop-new.new-index c.args.asked.now (omega (arith, c.loop-new-test.false, c.loop-new.auto.new-index-end)))
    (c.loop-new.invariant.booted runs a)
