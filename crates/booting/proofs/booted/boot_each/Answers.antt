use Rattle.std.proofs.Common.{◌≡◌, ◌+◌, ◌<◌, ◌++◌, ◌∷◌, [], All, List, length, map, sum_by, take, sym, ap, subst, ◌∙◌, arith}
use Rattle.std.proofs.lemmas.List.Elements.{All-push}
use Rattle.std.proofs.lemmas.List.Sums.{sum_by_push}
use Rattle.elf32.specs.declared.image.Image.{Image}
use Rattle.guest_pages.specs.Holdings.{slots_held}
use Rattle.page_moves.specs.Books.{Books}
use Rattle.guest.specs.Guests.{GuestIs, Intact}
use Rattle.tenant.specs.Loading.{IsAtBoot}
use Rattle.booting.specs.Boots.{AreAtBoot, KeepsPages, pages_in}
use Rattle.booting.specs.Places.{FramesComeFirst, SlotsComeInOrder}
use Rattle.booting.specs.declared.asked.NewGuest.{NewGuest}
use Rattle.booting.proofs.Guests.{last_pages, one_at_boot, one_more_asked, one_more_exact, one_more_keeps, slots_of}
use Rattle.booting.proofs.Places.{one_more_first, one_more_in_order}
use Rattle.booting.proofs.Stores.{store_then}
use Rattle.booting.proofs.booted.boot_each.Goals as goal

pub loop-guest-preserved : goal.loop-guest-preserved
loop-guest-preserved g c =
    let runs = c.args.log_runs in
    let slots = g.S.SwapStore.slots c.args.store.now in
    let held = g.S.SwapStore.held c.loop-guest.store in
    let held' = g.S.SwapStore.held c.loaded.new.store in
    let at = c.loop-guest.invariant in
    let i = c.loop-guest.guest-index in
    let pool = c.loop-guest.pool in
    let book = c.loop-guest.slots in
    let pool' = c.loaded.new.pool in
    let book' = c.loaded.new.slots in
    let asked = take i c.args.asked.now in
    let guest = c.guest-item.result in
    let gs = c.loop-guest.guests.items in
    let new = c.in-Ok-loaded.guest in
    let e = c.in-Ok-loaded.ensures in
    let inside : i < length c.args.asked.now = omega (arith, c.loop-guest-test.true, c.loop-guest.auto.guest-index-end) in
    let so_far : take (i + 1) c.args.asked.now ≡ asked ++ guest ∷ [] = one_more_asked c.args.asked.now i guest inside c.guest-item.is in
    let all : c.push_reserved.new.self.items ≡ gs ++ new ∷ [] = c.push_reserved.ensures.items in
    let pages : map pages_in (gs ++ new ∷ []) ≡ map pages_in gs ++ pages_in new ∷ [] = last_pages gs new in
    let boots : IsAtBoot guest.profile guest.image.value guest.pages runs new = subst (λ (im : Image). IsAtBoot guest.profile im guest.pages runs new) c.in-Ok.ensures e.booted in
    record {
      at_boot =
          subst (λ (l : List NewGuest). AreAtBoot runs l c.push_reserved.new.self.items) (sym so_far)
          (subst (λ (l : List GuestIs). AreAtBoot runs (asked ++ guest ∷ []) l) (sym all) (one_at_boot runs asked guest gs new boots at.at_boot));
      intact = subst (λ (l : List GuestIs). All Intact l) (sym all) (All-push Intact gs new at.intact e.intact);
      kept = subst (λ (l : List GuestIs). All (KeepsPages held') l) (sym all) (one_more_keeps slots held held' book gs new at.each_slot e.used at.kept e.kept);
      exact = λ frames es b.
          subst (λ (l : List GuestIs). Books frames slots (map pages_in l) es pool' book') (sym all)
          (one_more_exact frames slots guest.pages gs new pool pool' book book' es (e.conserves es) (e.reads es) (at.exact frames es b));
      first =
          subst (λ (l : List GuestIs). FramesComeFirst pool' (map pages_in l)) (sym all)
          (subst (FramesComeFirst pool') (sym pages) (one_more_first pool pool' (map pages_in gs) (pages_in new) e.frames_first e.no_frames e.none_private at.first));
      in_order =
          subst (λ (l : List GuestIs). SlotsComeInOrder book' (map pages_in l)) (sym all)
          (subst (SlotsComeInOrder book') (sym pages) (one_more_in_order book book' (map pages_in gs) (pages_in new) e.slots_rise e.slots_taken at.in_order));
      each_slot = λ k. omega (arith, at.each_slot k, e.slots_taken k, ap (slots_of k) all, sum_by_push (λ (h : GuestIs). slots_held k (pages_in h)) gs new);
      taken = omega (arith, at.taken, e.taken, ap (sum_by (λ (n : NewGuest). n.pages)) so_far, sum_by_push (λ (n : NewGuest). n.pages) asked guest);
      no_failure = e.no_failure ∙ at.no_failure;
      stays = store_then at.stays (record { slots = e.slots; honest = e.honest; true_to_digests = e.true_to_digests });
      len = omega (arith, c.push_reserved.ensures.len, at.len);
      room = c.push_reserved.ensures.capacity ∙ at.room;
    }
