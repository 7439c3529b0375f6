-- What slots are known to hold, after a move of pages.
use Rattle.std.proofs.Common.{◌≡◌, ℕ, ◌+◌, ◌<◌, ◌≤◌, List, [], ◌∷◌, Option, Some, None, length, set, refl, sym, ap, ◌∙◌, subst, arith}
use Rattle.std.specs.List.{All}
use Rattle.std.specs.Option.{IsSome}
use Rattle.std.proofs.lemmas.List.Sums.{get_or-le-sum_by}
use Rattle.sha2.specs.Sha256.{sha256}
use Rattle.frames.specs.Counts.{one_at, count_of, below}
use Rattle.frames.specs.FreeList.{FreeList}
use Rattle.frames.proofs.Counting.{count_one, count_cons, one_same}
use Rattle.sharetab.specs.Entries.{EntriesAre}
use Rattle.swapstore.specs.Holding.{AreHeld, OthersStay}
use Rattle.guest_pages.specs.declared.page.Page.{Page}
use Rattle.guest_pages.specs.declared.page.Page.TheVariants as page
use Rattle.guest_pages.specs.declared.page.PageKind.TheVariants.{Swapped}
use Rattle.guest_pages.specs.declared.page.Returned.TheVariants as returned
use Rattle.guest_pages.specs.Pages.{page_at, kind_at, kind_of, shown, slot_of, is_resident, own_frame}
use Rattle.guest_pages.specs.Holdings.{slot_in, slots_held}
use Rattle.page_moves.specs.Moves.{Takes, Gives, MovesSlots, Conserves}
use Rattle.page_moves.specs.Faith.{IsHeld, Kept}
use Rattle.page_moves.specs.Supplies.{Supplies}
use Rattle.page_moves.proofs.Exchanging.{each_page, swapped_is}
use Rattle.page_moves.proofs.Evicting.{evicted_kept}
use Rattle.ledger.specs.Shares.{LedgerId, ShareIs}
use Rattle.slot_contents.specs.declared.content.Written.{Written}
use Rattle.slot_contents.specs.declared.content.Content.{Content}
use Rattle.slot_contents.specs.Contents.{slots_of, written_to, without, HoldsIt}
use Rattle.slot_contents.specs.Shares.{IsOwners, owner_share, its_written}
use Rattle.slot_contents.proofs.Writings.{at_its_slot, elsewhere, left_was_there, is_written, holds_written}
use Rattle.lent_pages.specs.Contents.{IsWritten, IsWrittenBack, its_slots}
use Rattle.lent_pages.proofs.Frames.{pool_of, one_taken}

-- ---- which slots pages are in

pub slots_stay : (ps ps' : List Page) → ((book : FreeList) → MovesSlots ps book ps' book []) → (k : ℕ) → slots_held k ps' ≡ slots_held k ps
slots_stay ps ps' moves k = omega (arith, (moves (pool_of [] 0)).numbers k)

pub slots_supplied : (ps ps' : List Page) (number : ℕ) → ((pool rest book : FreeList) (es : EntriesAre) → Takes pool number rest → Conserves ps pool book es ps' rest book es)
    → (k : ℕ) → slots_held k ps' ≡ slots_held k ps
slots_supplied ps ps' number conserves k = omega (arith, (conserves (pool_of (number ∷ []) 0) (pool_of [] 1) (pool_of [] 0) [] (one_taken number)).slots.numbers k)

slot_used : (ps ps' : List Page) (slot : ℕ) → ((book : FreeList) → MovesSlots ps book ps' book (slot ∷ [])) → (k : ℕ) → slots_held k ps' ≡ slots_held k ps + one_at k slot
slot_used ps ps' slot used k = omega (arith, (used (pool_of [] 0)).numbers k, count_one k slot)

slot_left : (ps ps' : List Page) (number slot : ℕ) (book book' : FreeList)
    → ((pool rest book book' : FreeList) (es : EntriesAre) → Takes pool number rest → Gives book slot book' → Conserves ps pool book es ps' rest book' es)
    → Gives book slot book' → (k : ℕ) → slots_held k ps' + one_at k slot ≡ slots_held k ps
slot_left ps ps' number slot book book' conserves gives k =
    omega (arith, (conserves (pool_of (number ∷ []) 0) (pool_of [] 1) book book' [] (one_taken number) gives).slots.numbers k, gives.numbers k)

-- the slot that a page is in is one of the pages'
pub slot_there : (ps : List Page) (p : ℕ) → p < length ps → kind_at ps p ≡ Swapped → 0 < slots_held (slot_of (page_at ps p)) ps
slot_there ps p there swapped =
    let slot = slot_of (page_at ps p) in
    let one : slot_in slot (page_at ps p) ≡ one_at slot slot = ap (slot_in slot) (swapped_is (page_at ps p) swapped) in
    omega (arith, one, one_same slot, get_or-le-sum_by (slot_in slot) ps p page.Zero there)

-- ---- whose they are

its_written_is : (contents : LedgerId) (share : ShareIs Content) (ws : List Written) → share ≡ owner_share contents ws → its_written share ≡ ws
its_written_is contents share ws is = ap its_written is

owners_is : (contents : LedgerId) (share : ShareIs Content) (ws : List Written) → share ≡ owner_share contents ws → IsOwners contents share
owners_is contents share ws is = is ∙ ap (owner_share contents) (sym (its_written_is contents share ws is))

pub written_more : (contents : LedgerId) (share share' : ShareIs Content) (ps ps' : List Page) (slot : ℕ) (bytes : List ℕ) → IsWritten contents share ps
    → share' ≡ owner_share contents (record { slot = slot; bytes = bytes } ∷ its_written share) → ((book : FreeList) → MovesSlots ps book ps' book (slot ∷ [])) → IsWritten contents share' ps'
written_more contents share share' ps ps' slot bytes w is used =
    let ws : List Written = record { slot = slot; bytes = bytes } ∷ its_written share in
    record {
      owner = owners_is contents share' ws is;
      slots = λ k. omega (arith, ap (λ (l : List Written). count_of k (slots_of l)) (its_written_is contents share' ws is), count_cons k slot (slots_of (its_written share)), w.slots k, slot_used ps ps' slot used k);
    }

less_by : (contents : LedgerId) (share share' : ShareIs Content) (ps' : List Page) (slot : ℕ) → share' ≡ owner_share contents (without slot (its_written share))
    → ((k : ℕ) → count_of k (slots_of (without slot (its_written share))) ≡ slots_held k ps') → IsWritten contents share' ps'
less_by contents share share' ps' slot is left = record {
  owner = owners_is contents share' (without slot (its_written share)) is;
  slots = λ k. ap (λ (l : List Written). count_of k (slots_of l)) (its_written_is contents share' (without slot (its_written share)) is) ∙ left k;
}

pub written_less : (contents : LedgerId) (share share' : ShareIs Content) (ps ps' : List Page) (number slot slot' : ℕ) (book book' : FreeList) → IsWritten contents share ps
    → share' ≡ owner_share contents (without slot' (its_written share)) → slot' ≡ slot
    → ((k : ℕ) → count_of k (slots_of (without slot' (its_written share))) + one_at k slot' ≡ count_of k (slots_of (its_written share)))
    → ((pool rest book book' : FreeList) (es : EntriesAre) → Takes pool number rest → Gives book slot book' → Conserves ps pool book es ps' rest book' es)
    → Gives book slot book' → IsWritten contents share' ps'
written_less contents share share' ps ps' number slot slot' book book' w is same left conserves gives =
    less_by contents share share' ps' slot' is (λ k. omega (arith, left k, w.slots k, slot_left ps ps' number slot book book' conserves gives k, ap (one_at k) same))

pub written_back : (contents : LedgerId) (share share' : ShareIs Content) (ps : List Page) (slot slot' : ℕ) → IsWrittenBack contents share (returned.Slot slot) ps
    → share' ≡ owner_share contents (without slot' (its_written share)) → slot' ≡ slot
    → ((k : ℕ) → count_of k (slots_of (without slot' (its_written share))) + one_at k slot' ≡ count_of k (slots_of (its_written share))) → IsWritten contents share' ps
written_back contents share share' ps slot slot' w is same left =
    less_by contents share share' ps slot' is (λ k. omega (arith, left k, w.slots k, ap (one_at k) same))

pub back_there : (contents : LedgerId) (share : ShareIs Content) (ps : List Page) (slot slot' : ℕ) → IsWrittenBack contents share (returned.Slot slot) ps → slot' ≡ slot
    → 0 < count_of slot' (slots_of (its_written share))
back_there contents share ps slot slot' w same = omega (arith, w.slots slot', ap (one_at slot') same, one_same slot')

pub same_written : (contents : LedgerId) (share share' : ShareIs Content) (ps ps' : List Page) → IsWritten contents share ps → share' ≡ share → ps' ≡ ps → IsWritten contents share' ps'
same_written contents share share' ps ps' w is same =
    subst (λ (s : ShareIs Content). IsWritten contents s ps') (sym is) (subst (IsWritten contents share) (sym same) w)

-- ---- what they hold

pub same_kept : (share share' : ShareIs Content) (view : ℕ → List ℕ) (ps ps' : List Page) → share' ≡ share → ps' ≡ ps → Kept (its_slots share) view ps → Kept (its_slots share') view ps'
same_kept share share' view ps ps' is same k =
    subst (λ (s : ShareIs Content). Kept (its_slots s) view ps') (sym is) (subst (Kept (its_slots share) view) (sym same) k)

some_inside : {A : Type 0} (a b : A) → Some a ≡ Some b → a ≡ b
some_inside a b e = cc

pub kept_more : (contents : LedgerId) (share share' : ShareIs Content) (view : ℕ → List ℕ) (ps ps' : List Page) (p slot : ℕ) → p < length ps → is_resident (kind_at ps p) ≡ Rattle.std.proofs.Common.true
    → ps' ≡ set ps p (page.Swapped slot (sha256 (shown (page_at ps p)))) → share' ≡ owner_share contents (record { slot = slot; bytes = shown (page_at ps p) } ∷ its_written share)
    → slots_held slot ps ≡ 0 → Kept (its_slots share) view ps → Kept (its_slots share') view ps'
kept_more contents share share' view ps ps' p slot there resident pages is none k =
    let w : Written = record { slot = slot; bytes = shown (page_at ps p) } in
    let ws : List Written = w ∷ its_written share in
    let kept : Kept (written_to ws) view ps' =
    evicted_kept (its_slots share) (written_to ws) view ps ps' p slot (sha256 (shown (page_at ps p))) there resident pages refl
    (λ last e. some_inside (shown (page_at ps p)) last (sym (at_its_slot w (its_written share)) ∙ e)) (elsewhere w (its_written share)) none k in
    subst (λ (l : List Written). Kept (written_to l) view ps') (sym (its_written_is contents share' ws is)) kept

some_of : {A : Type 0} (o : Option A) → IsSome o → (a : A) × (o ≡ Some a)
some_of None h = absurd (cc)
some_of (Some a) h = (a, refl)

held_by : (held : ℕ → Option (List ℕ)) (ws : List Written) (b : List ℕ) (q : Page) → All (HoldsIt held) ws → ((k : ℕ) → slot_in k q ≤ count_of k (slots_of ws)) → IsHeld (written_to ws) b q → IsHeld held b q
held_by held ws b page.Zero all there lies = tt
held_by held ws b page.Given all there lies = tt
held_by held ws b (page.Private frame) all there lies = tt
held_by held ws b (page.Shared share ticket) all there lies = tt
held_by held ws b (page.Swapped slot digest) all there lies = λ last is.
    let known = some_of (written_to ws slot) (is_written slot ws (omega (arith, there slot, one_same slot))) in
    lies known.0 known.1 ∙ holds_written held ws slot known.0 all known.1 last is

-- pages whose slots hold what was written to them are kept by what the store holds
kept_written : (held : ℕ → Option (List ℕ)) (ws : List Written) (view : ℕ → List ℕ) (ps : List Page) → All (HoldsIt held) ws → ((k : ℕ) → count_of k (slots_of ws) ≡ slots_held k ps)
    → Kept (written_to ws) view ps → Kept held view ps
kept_written held ws view ps all slots k = record {
  faithful = k.faithful;
  lies = λ p inside. held_by held ws (view p) (page_at ps p) all (λ n. omega (arith, slots n, get_or-le-sum_by (slot_in n) ps p page.Zero inside)) (k.lies p inside);
}

held_less : (ws : List Written) (slot : ℕ) (b : List ℕ) (q : Page) → IsHeld (written_to ws) b q → IsHeld (written_to (without slot ws)) b q
held_less ws slot b page.Zero lies = tt
held_less ws slot b page.Given lies = tt
held_less ws slot b (page.Private frame) lies = tt
held_less ws slot b (page.Shared share ticket) lies = tt
held_less ws slot b (page.Swapped own digest) lies = λ last is. lies last (left_was_there slot ws own last is)

pub kept_back : (contents : LedgerId) (share share' : ShareIs Content) (view : ℕ → List ℕ) (ps : List Page) (slot : ℕ) → share' ≡ owner_share contents (without slot (its_written share))
    → Kept (its_slots share) view ps → Kept (its_slots share') view ps
kept_back contents share share' view ps slot is k =
    subst (λ (l : List Written). Kept (written_to l) view ps) (sym (its_written_is contents share' (without slot (its_written share)) is))
    (record { faithful = k.faithful; lies = λ p inside. held_less (its_written share) slot (view p) (page_at ps p) (k.lies p inside) })

-- a page that came from its slot, where the store is true to digests
pub kept_less : (contents : LedgerId) (share share' : ShareIs Content) (held held' : ℕ → Option (List ℕ)) (view : ℕ → List ℕ) (ps ps' : List Page) (p slot : ℕ) (bytes : List ℕ)
    → IsWritten contents share ps → All (HoldsIt held) (its_written share) → p < length ps → Supplies ps p bytes ps' → share' ≡ owner_share contents (without slot (its_written share))
    → (Kept held view ps → Kept held' view ps') → Kept (its_slots share) view ps → Kept (its_slots share') view ps'
kept_less contents share share' held held' view ps ps' p slot bytes w all there supplied is comes k =
    let ws : List Written = its_written share in
    let after : Kept held' view ps' = comes (kept_written held ws view ps all w.slots k) in
    subst (λ (l : List Written). Kept (written_to l) view ps') (sym (its_written_is contents share' (without slot ws) is))
    (record {
      faithful = after.faithful;
      lies = each_page (λ (o : ℕ) (r : Page). IsHeld (written_to (without slot ws)) (view o) r) ps ps' p (page.Private (own_frame (page_at ps' p))) there supplied.pages tt
          (λ o inside apart. held_less ws slot (view o) (page_at ps o) (k.lies o inside));
    })

-- what was noted of a page, as it was before
pub noted_by : (contents : LedgerId) (share' : ShareIs Content) (ws : List Written) (ps before : List Page) (p slot slot' : ℕ) → before ≡ ps → slot' ≡ slot
    → share' ≡ owner_share contents (record { slot = slot'; bytes = shown (page_at before p) } ∷ ws) → share' ≡ owner_share contents (record { slot = slot; bytes = shown (page_at ps p) } ∷ ws)
noted_by contents share' ws ps before p slot slot' same number is =
    is ∙ ap (λ (l : List Page). owner_share contents (record { slot = slot'; bytes = shown (page_at l p) } ∷ ws)) same
    ∙ ap (λ (n : ℕ). owner_share contents (record { slot = n; bytes = shown (page_at ps p) } ∷ ws)) number
