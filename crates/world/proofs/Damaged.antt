-- Damage to the store of a world, and pages that are damaged.
use Rattle.std.proofs.Common.{ℕ, ◌≡◌, ◌∙◌, inl, inr, All, List, Option, Result, Ok, Err, IfErr, refl, ap, subst, sym, map}
use Rattle.std.proofs.lemmas.List.Elements.{All-weaker}
use Rattle.world.specs.All.{AllStay, AroundStays, Books, End, EntriesAre, FaultError, FindsDamage, FreeList, HasDamage, IfStop, IsKept, IsSoundWorld, Sound, StoreFacts, TenantIs, WhyHalted, WhyUnsupplied, WorldIs, one_more, pages_in, pages_seen, stop_of, view_of}
use Rattle.page_moves.proofs.Keeping.{all_kept}
use Rattle.world.specs.declared.faulting.FaultError.TheVariants as lacking
use Rattle.world.specs.declared.running.End.TheVariants as end
use Rattle.world.specs.declared.running.RunStop.TheVariants as stop
use Rattle.booting.proofs.Stores.{store_then}

pub sound_damaged : (frames slots slots' : ℕ) (trusted trusted' : Type 0) (held held' : ℕ → Option (List ℕ)) (ts : List TenantIs) (pool book : FreeList) (es : EntriesAre)
    → slots' ≡ slots → (trusted' → trusted) → AllStay held held' → Sound frames slots trusted held ts pool book es → Sound frames slots' trusted' held' ts pool book es
sound_damaged frames slots slots' trusted trusted' held held' ts pool book es same trust stay s =
    subst (λ (n : ℕ). Sound frames n trusted' held' ts pool book es) (sym same) (record {
      books = s.books;
      kept = λ now. All-weaker (IsKept held) (IsKept held')
          (λ t k. record { intact = k.intact; pages = all_kept held held' (pages_seen (view_of t.guest)) (pages_in t) stay k.pages })
          ts (s.kept (trust now));
    })

-- ---- a damaged page that was to get a frame

-- it was found where room had been made for it
pub found_damage : {Kept : Type 0} {facts : StoreFacts Kept} {g p : ℕ} {w mid w' : WorldIs Kept} → AroundStays facts w mid → facts.failed mid.store ≡ facts.failed w.store → IsSoundWorld facts mid
    → AroundStays facts mid w' → w'.tenants ≡ mid.tenants → IsSoundWorld facts w' → HasDamage facts mid.store mid.tenants g p → FindsDamage facts g (λ q. q ≡ p) w w'
found_damage {facts = facts} {g = g} {p = p} {mid = mid} {w' = w'} before failed sound after same sound' damage = record {
  p = p;
  needed = refl;
  store = mid.store;
  stays = before.store;
  no_failure = failed;
  sound = record {
    books = subst (λ (n : ℕ). Books w'.frames n (map pages_in w'.tenants) w'.shares.entries w'.pool w'.slots) after.store.slots sound'.books;
    kept = λ trust. subst (All (IsKept (facts.held mid.store))) (sym same) (sound.kept trust);
  };
  damage = subst (λ (ts : List TenantIs). HasDamage facts mid.store ts g p) (sym same) damage;
}

-- why a page has no frame in a later world, of which no call of the store had failed before
module _ {Kept : Type 0} {facts : StoreFacts Kept} (g : ℕ) (A B : ℕ → Type 0) (w mid w' : WorldIs Kept) (before : AroundStays facts w mid) (failed : facts.failed mid.store ≡ facts.failed w.store)
    (more : (q : ℕ) → A q → B q) where
  pub unsupplied_later : (e : FaultError) → WhyUnsupplied facts g A mid w' e → WhyUnsupplied facts g B w w' e
  unsupplied_later lacking.NoFrame why = (why.0, elim why.1 [ inl broke ↦ inl (broke ∙ ap one_more failed) | inr nobody ↦ inr nobody ])
  unsupplied_later lacking.NoSwap why = why
  unsupplied_later lacking.SwapRead why = why ∙ ap one_more failed
  unsupplied_later lacking.SwapDamaged why = record {
    p = why.p;
    needed = more why.p why.needed;
    store = why.store;
    stays = store_then before.store why.stays;
    no_failure = why.no_failure ∙ failed;
    sound = why.sound;
    damage = why.damage;
  }
  unsupplied_later lacking.Memory why = tt

  pub unsupplied_if : {T : Type 0} (r : Result T FaultError) → IfErr r (WhyUnsupplied facts g A mid w') → IfErr r (WhyUnsupplied facts g B w w')
  unsupplied_if (Ok done) why = tt
  unsupplied_if (Err e) why = unsupplied_later e why

  pub halted_later : (e : FaultError) → WhyUnsupplied facts g A mid w' e → WhyHalted facts g B w w' (stop_of e)
  halted_later lacking.NoFrame why = unsupplied_later lacking.NoFrame why
  halted_later lacking.NoSwap why = unsupplied_later lacking.NoSwap why
  halted_later lacking.SwapRead why = unsupplied_later lacking.SwapRead why
  halted_later lacking.SwapDamaged why = unsupplied_later lacking.SwapDamaged why
  halted_later lacking.Memory why = tt

  pub end_later : (e : End) → IfStop e (WhyHalted facts g A mid w') → IfStop e (WhyHalted facts g B w w')
  end_later (end.Stop stop.NoFrame) why = unsupplied_later lacking.NoFrame why
  end_later (end.Stop stop.NoSwap) why = unsupplied_later lacking.NoSwap why
  end_later (end.Stop stop.SwapRead) why = unsupplied_later lacking.SwapRead why
  end_later (end.Stop stop.SwapDamaged) why = unsupplied_later lacking.SwapDamaged why
  end_later e why = tt
