-- What shares become.
use Rattle.std.proofs.Common.{◌≡◌, ℕ, ◌+◌, ◌<◌, ◌≤◌, List, [], ◌∷◌, ◌++◌, Option, Some, None, map, inl, inr, refl, sym, ap, ◌∙◌, subst, arith, append-nil, unwrap_or}
use Rattle.std.specs.List.{sum_by, range_with_len}
use Rattle.std.proofs.lemmas.Bool.Decides.{nat_tests}
use Rattle.std.proofs.lemmas.Bool.{cases_lt}
use Rattle.std.proofs.lemmas.List.Sums.{sum_by-cons}
use Rattle.std.specs.List.{flat_map, All}
use Rattle.std.proofs.lemmas.Grind.{flat_map-append}
use Rattle.std.proofs.lemmas.List.{map-append}
use Rattle.std.proofs.lemmas.List.Elements.{All-nil, All-cons, All-append}
use Rattle.frames.specs.Counts.{one_at, count_of, below}
use Rattle.frames.proofs.Counting.{count_append, count_cons, count_range, below_no, one_same, one_other}
use Rattle.swapstore.specs.Holding.{AreHeld, AllStay, OthersStay}
use Rattle.ledger.specs.Shares.{LedgerIs, ShareIs, Become, AreOf}
use Rattle.slot_contents.specs.Held.{at_slot, listed}
use Rattle.slot_contents.proofs.Listing.{same_listed, others_listed, held_is_listed, listed_is_held}
use Rattle.slot_contents.specs.declared.content.Written.{Written}
use Rattle.slot_contents.specs.declared.content.Content.{Content}
use Rattle.slot_contents.specs.declared.content.Content.TheVariants.{Store, Free, Owner}
use Rattle.slot_contents.specs.Contents.{slots_of, without, HoldsIt, held_in, written_in, slots_in, IsRight, opening}
use Rattle.slot_contents.specs.Shares.{owner_share, store_share, its_written, its_free, IsOwners, IsStores, found, all_shares}
use Rattle.slot_contents.specs.Laws.{all_of_both}
use Rattle.slot_contents.proofs.Writings.{moved_over, left_holds, once_less}

abbrev first_or : {A : Type 0} → A → List A → A
first_or d [] = d
first_or d (x ∷ xs) = x

abbrev rest_of : {A : Type 0} → List A → List A
rest_of [] = []
rest_of (x ∷ xs) = xs

-- of two lists the first has the one element
one_there : {A : Type 0} (xs ys : List A) (a b : A) → xs ≡ a ∷ [] → xs ++ ys ≡ b ∷ [] → (a ≡ b) × (ys ≡ [])
one_there xs ys a b is both =
    let e : a ∷ ys ≡ b ∷ [] = sym (ap (λ (l : List _). l ++ ys) is) ∙ both in
    (ap (first_or a) e, ap rest_of e)

-- what owners wrote is in their slots
owned : (k : ℕ) (parts : List Content) → count_of k (slots_of (flat_map written_in parts)) ≤ count_of k (flat_map slots_in parts)
owned k [] = omega arith
owned k (Store list ∷ parts) = owned k parts
owned k (Free slots ∷ parts) = omega (arith, owned k parts, count_append k slots (flat_map slots_in parts))
owned k (Owner ws ∷ parts) =
    omega (arith, owned k parts, ap (count_of k) (map-append (λ (w : Written). w.slot) ws (flat_map written_in parts)), count_append k (slots_of ws) (slots_of (flat_map written_in parts)), count_append k (slots_of ws) (flat_map slots_in parts))

at_most : (k slots : ℕ) → below k slots ≤ 1
at_most k slots = grind (arith, nat_tests)

-- Where the slots of old parts are those of the new, and what they hold is open, the others' slots hold what they held.
pub becomes : (slots : ℕ) (old new : List Content) (held held' : ℕ → Option (List ℕ)) → flat_map held_in old ≡ held ∷ [] → flat_map held_in new ≡ held' ∷ []
    → (((k : ℕ) → count_of k (flat_map slots_in old) ≤ below k slots) → (k : ℕ) → count_of k (flat_map slots_in new) ≤ count_of k (flat_map slots_in old))
    → ((k : ℕ) → count_of k (flat_map slots_in old) ≡ 0 → below k slots ≡ 1 → held' k ≡ held k)
    → (((k : ℕ) → count_of k (flat_map slots_in old) ≤ below k slots) → All (HoldsIt held) (flat_map written_in old) → All (HoldsIt held') (flat_map written_in new))
    → Become (IsRight slots) old new
becomes slots old new held held' store store' fewer stay keep others r =
    let s = one_there (flat_map held_in old) (flat_map held_in others) held r.held store (sym (flat_map-append held_in old others) ∙ r.one_store) in
    let each : (k : ℕ) → count_of k (flat_map slots_in old) + count_of k (flat_map slots_in others) ≤ below k slots =
    λ k. omega (arith, r.each_slot k, ap (count_of k) (flat_map-append slots_in old others), count_append k (flat_map slots_in old) (flat_map slots_in others)) in
    let own : (k : ℕ) → count_of k (flat_map slots_in old) ≤ below k slots = λ k. omega (arith, each k) in
    let all : All (HoldsIt held) (flat_map written_in old ++ flat_map written_in others) =
    subst (All (HoldsIt held)) (flat_map-append written_in old others) (subst (λ (h : ℕ → Option (List ℕ)). All (HoldsIt h) (flat_map written_in (old ++ others))) (sym s.0) r.holds) in
    let both = all_of_both (HoldsIt held) (flat_map written_in old) (flat_map written_in others) all in
    let mine : All (HoldsIt held') (flat_map written_in new) = keep own both.0 in
    let theirs : All (HoldsIt held') (flat_map written_in others) =
    moved_over held held' (flat_map written_in others)
    (λ k some. stay k (omega (arith, some, owned k others, each k, at_most k slots)) (omega (arith, some, owned k others, each k, at_most k slots))) both.1 in
    record {
      held = held';
      one_store = flat_map-append held_in new others ∙ ap (λ (l : List (ℕ → Option (List ℕ))). l ++ flat_map held_in others) store' ∙ ap (λ (l : List (ℕ → Option (List ℕ))). held' ∷ l) s.1;
      each_slot = λ k. omega (arith, each k, fewer own k, ap (count_of k) (flat_map-append slots_in new others), count_append k (flat_map slots_in new) (flat_map slots_in others));
      holds = subst (All (HoldsIt held')) (sym (flat_map-append written_in new others)) (All-append (HoldsIt held') (flat_map written_in new) (flat_map written_in others) mine theirs);
    }

-- ---- the slots and the written of shares

module _ (k : ℕ) (list : List (Option (List ℕ))) (free : List ℕ) where
  both_slots : (ws : List Written) → count_of k (flat_map slots_in (Owner ws ∷ Store list ∷ Free free ∷ [])) ≡ count_of k (slots_of ws) + count_of k free
  both_slots ws = omega (arith, count_append k (slots_of ws) (free ++ []), count_append k free [])

  store_slots : count_of k (flat_map slots_in (Store list ∷ Free free ∷ [])) ≡ count_of k free
  store_slots = omega (arith, count_append k free [])

one_here : (k slot : ℕ) → k ≡ slot → one_at k slot ≡ 1
one_here k slot same = ap (λ (n : ℕ). one_at n slot) same ∙ one_same slot

own_written : (ws : List Written) → ws ++ [] ≡ ws
own_written ws = append-nil ws

-- the parts of an owner, and of a store with its free slots
abbrev pub both_parts : List Written → List (Option (List ℕ)) → List ℕ → List Content
both_parts ws list free = Owner ws ∷ Store list ∷ Free free ∷ []

-- ---- an owner and the store

wrote_both : (slots slot : ℕ) (bytes : List ℕ) (ws : List Written) (held held' : ℕ → Option (List ℕ)) (free free' : List ℕ) → ((k : ℕ) → count_of k free ≡ count_of k free' + one_at k slot)
    → OthersStay slot held held' → AreHeld (held' slot) bytes
    → Become (IsRight slots) (both_parts ws (listed slots held) free) (both_parts (record { slot = slot; bytes = bytes } ∷ ws) (listed slots held') free')
wrote_both slots slot bytes ws held held' free free' taken others written =
    let w : Written = record { slot = slot; bytes = bytes } in
    let told : ℕ → Option (List ℕ) = at_slot (listed slots held) in
    let told' : ℕ → Option (List ℕ) = at_slot (listed slots held') in
    let stay : OthersStay slot told told' = others_listed slots slot held held' others in
    becomes slots (both_parts ws (listed slots held) free) (both_parts (w ∷ ws) (listed slots held') free') told told' refl refl
    (λ own k. omega (arith, both_slots k (listed slots held) free ws, both_slots k (listed slots held') free' (w ∷ ws), taken k, count_cons k slot (slots_of ws)))
    (λ k none inside. stay k (λ same. absurd (omega (arith, none, both_slots k (listed slots held) free ws, taken k, one_here k slot same))))
    (λ own all.
    let mine : All (HoldsIt told) ws = subst (All (HoldsIt told)) (own_written ws) all in
    let kept : All (HoldsIt told') ws = moved_over told told' ws
    (λ k some. stay k (λ same. absurd (omega (arith, some, own k, both_slots k (listed slots held) free ws, taken k, one_here k slot same, at_most k slots)))) mine in
    subst (All (HoldsIt told')) (sym (own_written (w ∷ ws))) (All-cons (HoldsIt told') w ws (held_is_listed slots held' slot bytes written) kept))

freed_both : (slots slot : ℕ) (ws : List Written) (list : List (Option (List ℕ))) (free free' : List ℕ) → 0 < count_of slot (slots_of ws)
    → ((k : ℕ) → count_of k free' ≡ count_of k free + one_at k slot) → Become (IsRight slots) (both_parts ws list free) (both_parts (without slot ws) list free')
freed_both slots slot ws list free free' own_one given =
    let told : ℕ → Option (List ℕ) = at_slot list in
    becomes slots (both_parts ws list free) (both_parts (without slot ws) list free') told told refl refl
    (λ own k.
    let once : count_of slot (slots_of ws) ≡ 1 = omega (arith, own_one, own slot, both_slots slot list free ws, at_most slot slots) in
    omega (arith, both_slots k list free ws, both_slots k list free' (without slot ws), given k, once_less slot ws once k))
    (λ k none inside. refl)
    (λ own all. subst (All (HoldsIt told)) (sym (own_written (without slot ws))) (left_holds told slot ws (subst (All (HoldsIt told)) (own_written ws) all)))

both_met : (slots : ℕ) (ws : List Written) (list : List (Option (List ℕ))) (free : List ℕ) → AreOf (IsRight slots) (both_parts ws list free)
    → All (HoldsIt (at_slot list)) ws × ((k : ℕ) → count_of k (slots_of ws) + count_of k free ≤ below k slots)
both_met slots ws list free are =
    let parts : List Content = both_parts ws list free in
    let r = are.1 in
    let s = one_there (at_slot list ∷ []) (flat_map held_in are.0) (at_slot list) r.held refl (sym (flat_map-append held_in parts are.0) ∙ r.one_store) in
    let all = all_of_both (HoldsIt r.held) (flat_map written_in parts) (flat_map written_in are.0) (subst (All (HoldsIt r.held)) (flat_map-append written_in parts are.0) r.holds) in
    let mine : All (HoldsIt r.held) ws = subst (All (HoldsIt r.held)) (own_written ws) all.0 in (
      subst (λ (h : ℕ → Option (List ℕ)). All (HoldsIt h) ws) (sym s.0) mine,
      λ k. omega (arith, r.each_slot k, ap (count_of k) (flat_map-append slots_in parts are.0), count_append k (flat_map slots_in parts) (flat_map slots_in are.0), both_slots k list free ws),
    )

-- the parts of an owner's share before those of the store's
together : (contents : LedgerIs ℕ) (owner swap : ShareIs Content) (held : ℕ → Option (List ℕ)) → IsOwners contents.id owner → IsStores contents held swap
    → owner.parts ++ swap.parts ≡ both_parts (its_written owner) (listed contents.key held) (its_free swap)
together contents owner swap held is are =
    ap (λ (s : ShareIs Content). s.parts ++ swap.parts) is ∙ ap (λ (s : ShareIs Content). Owner (its_written owner) ∷ s.parts) are

pub wrote_settles : (contents : LedgerIs ℕ) (owner swap : ShareIs Content) (both new : List Content) (slot : ℕ) (bytes : List ℕ) (held held' : ℕ → Option (List ℕ)) (free' : List ℕ)
    → IsOwners contents.id owner → IsStores contents held swap → both ≡ owner.parts ++ swap.parts → ((k : ℕ) → count_of k (its_free swap) ≡ count_of k free' + one_at k slot)
    → OthersStay slot held held' → AreHeld (held' slot) bytes → new ≡ both_parts (record { slot = slot; bytes = bytes } ∷ its_written owner) (listed contents.key held') free'
    → Become (IsRight contents.key) both new
wrote_settles contents owner swap both new slot bytes held held' free' is are of taken others written now =
    subst (λ (l : List Content). Become (IsRight contents.key) both l) (sym now)
    (subst (λ (l : List Content). Become (IsRight contents.key) l (both_parts (record { slot = slot; bytes = bytes } ∷ its_written owner) (listed contents.key held') free')) (sym (of ∙ together contents owner swap held is are))
    (wrote_both contents.key slot bytes (its_written owner) held held' (its_free swap) free' taken others written))

pub freed_settles : (contents : LedgerIs ℕ) (owner swap : ShareIs Content) (both new : List Content) (slot : ℕ) (held : ℕ → Option (List ℕ)) (free' : List ℕ) → IsOwners contents.id owner
    → IsStores contents held swap → both ≡ owner.parts ++ swap.parts → 0 < count_of slot (slots_of (its_written owner)) → ((k : ℕ) → count_of k free' ≡ count_of k (its_free swap) + one_at k slot)
    → new ≡ both_parts (without slot (its_written owner)) (listed contents.key held) free' → Become (IsRight contents.key) both new
freed_settles contents owner swap both new slot held free' is are of own given now =
    subst (λ (l : List Content). Become (IsRight contents.key) both l) (sym now)
    (subst (λ (l : List Content). Become (IsRight contents.key) l (both_parts (without slot (its_written owner)) (listed contents.key held) free')) (sym (of ∙ together contents owner swap held is are))
    (freed_both contents.key slot (its_written owner) (listed contents.key held) (its_free swap) free' own given))

pub met : (contents : LedgerIs ℕ) (owner swap : ShareIs Content) (both : List Content) (held : ℕ → Option (List ℕ)) → IsOwners contents.id owner → IsStores contents held swap
    → both ≡ owner.parts ++ swap.parts → AreOf (IsRight contents.key) both
    → All (HoldsIt held) (its_written owner) × ((k : ℕ) → count_of k (slots_of (its_written owner)) + count_of k (its_free swap) ≤ below k contents.key)
met contents owner swap both held is are of exact =
    let m = both_met contents.key (its_written owner) (listed contents.key held) (its_free swap) (subst (AreOf (IsRight contents.key)) (of ∙ together contents owner swap held is are) exact) in
    (listed_is_held contents.key held (its_written owner) (λ k some. inside_by k (omega (arith, some, m.1 k))) m.0, m.1)
  where
    inside_by : (k : ℕ) → 0 < below k contents.key → k < contents.key
    inside_by k some = elim (cases_lt k contents.key) [
      | inl inside ↦ inside
      | inr past ↦ absurd (omega (arith, some, below_no k contents.key past))
    ]

-- the slots that are left of an owner's
pub met_less : (contents : LedgerIs ℕ) (owner swap : ShareIs Content) (both : List Content) (slot : ℕ) (held : ℕ → Option (List ℕ)) → IsOwners contents.id owner → IsStores contents held swap
    → both ≡ owner.parts ++ swap.parts → AreOf (IsRight contents.key) both → 0 < count_of slot (slots_of (its_written owner))
    → (k : ℕ) → count_of k (slots_of (without slot (its_written owner))) + one_at k slot ≡ count_of k (slots_of (its_written owner))
met_less contents owner swap both slot held is are of exact own k =
    let m = met contents owner swap both held is are of exact in
    once_less slot (its_written owner) (omega (arith, own, m.1 slot, at_most slot contents.key)) k

-- ---- the store alone

store_settles : (slots slot : ℕ) (held held' : ℕ → Option (List ℕ)) (free free' : List ℕ) → ((k : ℕ) → count_of k free' ≡ count_of k free)
    → ((k : ℕ) → count_of k free ≡ 0 → held' k ≡ held k) → Become (IsRight slots) (Store (listed slots held) ∷ Free free ∷ []) (Store (listed slots held') ∷ Free free' ∷ [])
store_settles slots slot held held' free free' same stay =
    becomes slots (Store (listed slots held) ∷ Free free ∷ []) (Store (listed slots held') ∷ Free free' ∷ []) (at_slot (listed slots held)) (at_slot (listed slots held')) refl refl
    (λ own k. omega (arith, store_slots k (listed slots held) free, store_slots k (listed slots held') free', same k))
    (λ k none inside. same_listed slots held held' k (stay k (omega (arith, none, store_slots k (listed slots held) free))))
    (λ own all. All-nil (HoldsIt (at_slot (listed slots held'))))

pub failed_settles : (contents : LedgerIs ℕ) (swap : ShareIs Content) (new : List Content) (slot : ℕ) (held held' : ℕ → Option (List ℕ)) (free' : List ℕ) → IsStores contents held swap
    → 0 < count_of slot (its_free swap) → ((k : ℕ) → count_of k free' ≡ count_of k (its_free swap)) → OthersStay slot held held' → new ≡ Store (listed contents.key held') ∷ Free free' ∷ []
    → Become (IsRight contents.key) swap.parts new
failed_settles contents swap new slot held held' free' are there same others now =
    subst (λ (l : List Content). Become (IsRight contents.key) swap.parts l) (sym now)
    (subst (λ (l : List Content). Become (IsRight contents.key) l (Store (listed contents.key held') ∷ Free free' ∷ [])) (sym (ap (λ (s : ShareIs Content). s.parts) are))
    (store_settles contents.key slot held held' (its_free swap) free' same (λ k none. others k (λ e. absurd (omega (arith, none, there, ap (λ (n : ℕ). count_of n (its_free swap)) e))))))

pub read_settles : (contents : LedgerIs ℕ) (swap : ShareIs Content) (new : List Content) (held held' : ℕ → Option (List ℕ)) → IsStores contents held swap → AllStay held held'
    → new ≡ Store (listed contents.key held') ∷ Free (its_free swap) ∷ [] → Become (IsRight contents.key) swap.parts new
read_settles contents swap new held held' are all now =
    subst (λ (l : List Content). Become (IsRight contents.key) swap.parts l) (sym now)
    (subst (λ (l : List Content). Become (IsRight contents.key) l (Store (listed contents.key held') ∷ Free (its_free swap) ∷ [])) (sym (ap (λ (s : ShareIs Content). s.parts) are))
    (store_settles contents.key 0 held held' (its_free swap) (its_free swap) (λ k. refl) (λ k none. all k)))

-- ---- at first

pub found_slots : (held : ℕ → Option (List ℕ)) (slots : List ℕ) → slots_of (found held slots) ≡ slots
found_slots held [] = refl
found_slots held (s ∷ slots) = ap (λ (l : List ℕ). s ∷ l) (found_slots held slots)

found_held : (n : ℕ) (held : ℕ → Option (List ℕ)) (slots : List ℕ) → All (HoldsIt (at_slot (listed n held))) (found held slots)
found_held n held [] = All-nil (HoldsIt (at_slot (listed n held)))
found_held n held (s ∷ slots) =
    All-cons (HoldsIt (at_slot (listed n held))) (record { slot = s; bytes = unwrap_or (held s) [] }) (found held slots)
    (held_is_listed n held s (unwrap_or (held s) []) (λ last is. ap (λ (o : Option (List ℕ)). unwrap_or o []) is)) (found_held n held slots)

abbrev owners_of : (ℕ → Option (List ℕ)) → List (List ℕ) → List Content
owners_of held owners = map (λ slots. Owner (found held slots)) owners

no_store : (held : ℕ → Option (List ℕ)) (owners : List (List ℕ)) → flat_map held_in (owners_of held owners) ≡ []
no_store held [] = refl
no_store held (o ∷ owners) = no_store held owners

owners_slots : (k : ℕ) (held : ℕ → Option (List ℕ)) (owners : List (List ℕ)) → count_of k (flat_map slots_in (owners_of held owners)) ≡ sum_by (count_of k) owners
owners_slots k held [] = refl
owners_slots k held (o ∷ owners) =
    omega (arith, owners_slots k held owners, sum_by-cons (count_of k) o owners, ap (count_of k) (found_slots held o), count_append k (slots_of (found held o)) (flat_map slots_in (owners_of held owners)))

owners_hold : (n : ℕ) (held : ℕ → Option (List ℕ)) (owners : List (List ℕ)) → All (HoldsIt (at_slot (listed n held))) (flat_map written_in (owners_of held owners))
owners_hold n held [] = All-nil (HoldsIt (at_slot (listed n held)))
owners_hold n held (o ∷ owners) =
    All-append (HoldsIt (at_slot (listed n held))) (found held o) (flat_map written_in (owners_of held owners)) (found_held n held o) (owners_hold n held owners)

pub first_settles : (contents : LedgerIs ℕ) (share : ShareIs Content) (new : List Content) (held : ℕ → Option (List ℕ)) (free : List ℕ) (owners : List (List ℕ))
    → share ≡ record { ledger = contents.id; parts = opening contents.key } → ((k : ℕ) → count_of k free + sum_by (count_of k) owners ≤ below k contents.key)
    → new ≡ (all_shares contents held free owners).parts → Become (IsRight contents.key) share.parts new
first_settles contents share new held free owners is apart now =
    let n : ℕ = contents.key in
    let all : List Content = Store (listed n held) ∷ Free free ∷ owners_of held owners in
    let before : (k : ℕ) → count_of k (flat_map slots_in (opening n)) ≡ below k n = λ k. omega (arith, count_append k (range_with_len 0 n) [], count_range k n) in
    let after : (k : ℕ) → count_of k (flat_map slots_in all) ≡ count_of k free + sum_by (count_of k) owners = λ k. omega (arith, count_append k free (flat_map slots_in (owners_of held owners)), owners_slots k held owners) in
    subst (λ (l : List Content). Become (IsRight n) share.parts l) (sym now)
    (subst (λ (l : List Content). Become (IsRight n) l all) (sym (ap (λ (s : ShareIs Content). s.parts) is))
    (becomes n (opening n) all (at_slot []) (at_slot (listed n held)) refl (ap (λ (l : List (ℕ → Option (List ℕ))). at_slot (listed n held) ∷ l) (no_store held owners))
    (λ own k. omega (arith, before k, after k, apart k))
    (λ k none inside. absurd (omega (arith, none, inside, before k)))
    (λ own nothing. owners_hold n held owners)))
