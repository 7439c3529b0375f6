-- Gathered accounts, and what the books of them count.
use Rattle.std.proofs.Common.{◌≡◌, ℕ, ◌+◌, ◌-◌, ◌≤◌, ◌*◌, List, [], ◌∷◌, ◌++◌, All, length, map, drop, take, refl, sym, ap, ◌∙◌, subst, arith, append-nil}
use Rattle.std.proofs.lemmas.List.Sums.{sum_by-cons}
use Rattle.std.specs.List.{sum_by, flat_map}
use Rattle.frames.specs.FreeList.{FreeList}
use Rattle.sharetab.specs.Entries.{EntriesAre, entry_count}
use Rattle.guest_pages.specs.declared.page.Page.{Page}
use Rattle.guest_pages.specs.declared.page.Page.TheVariants as page
use Rattle.guest_pages.specs.Outline.{outlined, outline}
use Rattle.guest_pages.specs.Holdings.{one_private, one_shared, one_swapped, private_pages, shared_pages, swapped_pages}
use Rattle.guest_pages.proofs.Outlines.{outline_length, outline_private, outline_shared, outline_swapped}
use Rattle.page_moves.specs.Books.{Books}
use Rattle.page_moves.proofs.Totals as totals
use Rattle.ledger.specs.Shares.{LedgerId, ShareIs, AreOf}
use Rattle.accounts.specs.declared.account.Account.{Account}
use Rattle.accounts.specs.declared.account.Account.TheVariants.{Guest, Table, Slots}
use Rattle.accounts.specs.declared.account.Extent.{Extent}
use Rattle.accounts.specs.Exact.{Exact, free_list}
use Rattle.accounts.proofs.All.{all_owners}
use Rattle.accounts.proofs.Outlines.{books_of_outlines}
use Rattle.machine_memory.specs.declared.audit.BookCounts.{BookCounts}
use Rattle.std.proofs.lemmas.List.Elements.{All-cons, All-head, All-tail}
use Rattle.accounts.specs.OwnerShares.{guest_account, guest_share}
use Rattle.machine_memory.specs.Gathered.{guest_of, pages_in, AreFew, IsGathered}
use Rattle.machine_memory.specs.Audits.{IsCountOf}

outlined_again : (q : Page) → outlined (outlined q) ≡ outlined q
outlined_again page.Zero = refl
outlined_again page.Given = refl
outlined_again (page.Private frame) = refl
outlined_again (page.Shared share ticket) = refl
outlined_again (page.Swapped slot digest) = refl

pub outline_again : (ps : List Page) → outline (outline ps) ≡ outline ps
outline_again [] = refl
outline_again (q ∷ qs) = ap (λ (x : Page). x ∷ outline (outline qs)) (outlined_again q) ∙ ap (λ (l : List Page). outlined q ∷ l) (outline_again qs)

pub pages_of_guests : (all : List (List Page)) → flat_map pages_in (map guest_of all) ≡ map outline all
pages_of_guests [] = refl
pages_of_guests (ps ∷ all) = ap (λ (l : List (List Page)). outline ps ∷ l) (pages_of_guests all)

-- ---- accounts that come and go

-- no more pages of a kind than pages
at_most_all : (one : Page → ℕ) → ((q : Page) → one q ≤ 1) → (ps : List Page) → sum_by one ps ≤ length ps
at_most_all one most [] = omega arith
at_most_all one most (q ∷ qs) = omega (arith, most q, at_most_all one most qs, sum_by-cons one q qs)

one_private_most : (q : Page) → one_private q ≤ 1
one_private_most page.Zero = omega arith
one_private_most page.Given = omega arith
one_private_most (page.Private frame) = omega arith
one_private_most (page.Shared share ticket) = omega arith
one_private_most (page.Swapped slot digest) = omega arith

one_shared_most : (q : Page) → one_shared q ≤ 1
one_shared_most page.Zero = omega arith
one_shared_most page.Given = omega arith
one_shared_most (page.Private frame) = omega arith
one_shared_most (page.Shared share ticket) = omega arith
one_shared_most (page.Swapped slot digest) = omega arith

one_swapped_most : (q : Page) → one_swapped q ≤ 1
one_swapped_most page.Zero = omega arith
one_swapped_most page.Given = omega arith
one_swapped_most (page.Private frame) = omega arith
one_swapped_most (page.Shared share ticket) = omega arith
one_swapped_most (page.Swapped slot digest) = omega arith

are_few : (ps : List Page) → length ps ≤ 4294967295 → AreFew ps
are_few ps most = record {
  in_own_frames = omega (arith, most, at_most_all one_private one_private_most ps);
  in_shared_frames = omega (arith, most, at_most_all one_shared one_shared_most ps);
  in_slots = omega (arith, most, at_most_all one_swapped one_swapped_most ps);
}

module _ (ps : List Page) (parts : List Account) (guests private shared swapped p s w : ℕ) where
  abbrev all : List (List Page)
  all = flat_map pages_in parts

  abbrev longer : List Account
  longer = Guest (outline ps ++ []) ∷ parts

  head_is : outline ps ++ [] ≡ outline ps
  head_is = append-nil (outline ps)

  pub gathered_pages : flat_map pages_in longer ≡ outline ps ∷ all
  gathered_pages = ap (λ (l : List Page). l ∷ all) head_is

  pub gathered_more : IsGathered all parts guests private shared swapped → p ≡ private_pages ps → s ≡ shared_pages ps → w ≡ swapped_pages ps → length ps ≤ 4294967295
      → IsGathered (flat_map pages_in longer) longer (guests + 1) (private + p) (shared + s) (swapped + w)
  gathered_more h ps_p ps_s ps_w most =
      let few : AreFew (outline ps) = are_few (outline ps) (omega (arith, outline_length ps, most)) in
      subst (λ (l : List (List Page)). IsGathered l longer (guests + 1) (private + p) (shared + s) (swapped + w)) (sym gathered_pages) (record {
        accounts = ap (λ (l : List Page). Guest l ∷ parts) (head_is ∙ sym (outline_again ps)) ∙ ap (λ (l : List Account). guest_of (outline ps) ∷ l) h.accounts;
        count = omega (arith, h.count);
        in_own_frames = omega (arith, h.in_own_frames, ps_p, outline_private ps, sum_by-cons private_pages (outline ps) all);
        in_shared_frames = omega (arith, h.in_shared_frames, ps_s, outline_shared ps, sum_by-cons shared_pages (outline ps) all);
        in_slots = omega (arith, h.in_slots, ps_w, outline_swapped ps, sum_by-cons swapped_pages (outline ps) all);
        few = All-cons AreFew (outline ps) all few h.few;
        few_private = omega (arith, h.few_private, few.in_own_frames, ps_p, outline_private ps);
        few_shared = omega (arith, h.few_shared, few.in_shared_frames, ps_s, outline_shared ps);
        few_swapped = omega (arith, h.few_swapped, few.in_slots, ps_w, outline_swapped ps);
      })

-- so many at most in all
few_in_all : (f : List Page → ℕ) → ((ps : List Page) → AreFew ps → f ps ≤ 4294967295) → (all : List (List Page)) → All AreFew all → sum_by f all ≤ length all * 4294967295
few_in_all f few [] are = omega arith
few_in_all f few (ps ∷ all) are = omega (arith, few ps (All-head AreFew ps all are), few_in_all f few all (All-tail AreFew ps all are), sum_by-cons f ps all)

-- ---- what is counted

sums_of_outlines : (f : List Page → ℕ) → ((ps : List Page) → f (outline ps) ≡ f ps) → (all : List (List Page)) → sum_by f (map outline all) ≡ sum_by f all
sums_of_outlines f same [] = refl
sums_of_outlines f same (ps ∷ all) = omega (arith, same ps, sums_of_outlines f same all, sum_by-cons f (outline ps) (map outline all), sum_by-cons f ps all)

pub count_of_outlines : (k : Extent) (all : List (List Page)) (counts : BookCounts) → IsCountOf k (map outline all) counts → IsCountOf k all counts
count_of_outlines k all counts c = record {
  entries = c.entries;
  pool = c.pool;
  book = c.book;
  exact = books_of_outlines k.frames k.slots all c.entries c.pool c.book c.exact;
  frames = c.frames;
  free = c.free;
  private = c.private ∙ sums_of_outlines private_pages outline_private all;
  shared = c.shared;
  references = c.references ∙ sums_of_outlines shared_pages outline_shared all;
  swapped = c.swapped ∙ sums_of_outlines swapped_pages outline_swapped all;
  slots = c.slots;
  all_frames = c.all_frames;
  all_tickets = c.all_tickets;
  all_slots = c.all_slots;
}

-- the account of a guest that has no frame in its hand
abbrev pub with_no_hand : List Page → Account
with_no_hand ps = guest_account ps []

pub no_hands : (all : List (List Page)) → map guest_of all ≡ map with_no_hand all
no_hands [] = refl
no_hands (ps ∷ all) = ap (λ (l : List Page). Guest l ∷ map guest_of all) (sym (append-nil (outline ps))) ∙ ap (λ (l : List Account). with_no_hand ps ∷ l) (no_hands all)

module _ (k : Extent) (all : List (List Page)) (es : EntriesAre) (book : FreeList) (every : length all ≡ k.guests) (h : AreOf (Exact k) (Slots book ∷ Table es ∷ map guest_of all)) where
  abbrev found : (others : List ℕ) × (out : ℕ) × Books k.frames k.slots all es (free_list ([] ++ others) out) book
  found = all_owners k all es book [] every (subst (λ (l : List Account). AreOf (Exact k) (Slots book ∷ Table es ∷ l)) (no_hands all ∙ sym (append-nil (map with_no_hand all))) h)

  abbrev pool : FreeList
  pool = free_list ([] ++ found.0) found.1

  pub frames_in_all : length found.0 + sum_by private_pages all + entry_count es ≡ k.frames
  frames_in_all = totals.frames_add_up k.frames k.slots all es pool book found.2

  pub few_frames : sum_by private_pages all + entry_count es ≤ k.frames
  few_frames = omega (arith, frames_in_all)

  pub is_count : (counts : BookCounts) → counts.frames ≡ k.frames → counts.free ≡ k.frames - sum_by private_pages all - entry_count es → counts.private ≡ sum_by private_pages all → counts.shared ≡ entry_count es
      → counts.references ≡ sum_by shared_pages all → counts.swapped ≡ sum_by swapped_pages all → counts.slots ≡ length book.free + book.out → IsCountOf k all counts
  is_count counts frames free private shared references swapped slots = record {
    entries = es;
    pool = pool;
    book = book;
    exact = found.2;
    frames = frames;
    free = omega (arith, free, frames_in_all);
    private = private;
    shared = shared;
    references = references;
    swapped = swapped;
    slots = omega (arith, slots, totals.slots_out_add_up k.frames k.slots all es pool book found.2);
    all_frames = omega (arith, frames, free, private, shared, few_frames);
    all_tickets = omega (arith, references, totals.tickets_add_up k.frames k.slots all es pool book found.2);
    all_slots = omega (arith, swapped, slots, totals.slots_add_up k.frames k.slots all es pool book found.2, totals.slots_out_add_up k.frames k.slots all es pool book found.2);
  }

-- ---- a share that comes and goes

module _ (l : LedgerId) (ps : List Page) (to to' share : ShareIs Account) (lent : to' ≡ record to { parts = share.parts ++ to.parts }) (is : share ≡ guest_share l ps []) where
  lent_parts : to'.parts ≡ Guest (outline ps ++ []) ∷ to.parts
  lent_parts = ap (λ (v : ShareIs Account). v.parts) lent ∙ ap (λ (v : ShareIs Account). v.parts ++ to.parts) is

  pub gathered_by : (guests private shared swapped p s w p' s' w' : ℕ) → IsGathered (flat_map pages_in to.parts) to.parts guests private shared swapped
      → p ≡ private_pages ps → s ≡ shared_pages ps → w ≡ swapped_pages ps → p' ≡ p → s' ≡ s → w' ≡ w → length ps ≤ 4294967295
      → IsGathered (flat_map pages_in to'.parts) to'.parts (guests + 1) (private + p') (shared + s') (swapped + w')
  gathered_by guests private shared swapped p s w p' s' w' h ps_p ps_s ps_w same_p same_s same_w most =
      subst (λ (x : List Account). IsGathered (flat_map pages_in x) x (guests + 1) (private + p') (shared + s') (swapped + w')) (sym lent_parts)
      (gathered_more ps to.parts guests private shared swapped p' s' w' h (same_p ∙ ps_p) (same_s ∙ ps_s) (same_w ∙ ps_w) most)

  pub pages_gathered : flat_map pages_in to'.parts ≡ outline ps ∷ flat_map pages_in to.parts
  pages_gathered = ap (flat_map pages_in) lent_parts ∙ gathered_pages ps to.parts 0 0 0 0 0 0 0

pub first_of : {X : Type 0} (xs : List X) (x : X) → take 1 xs ≡ x ∷ [] → xs ≡ x ∷ drop 1 xs
first_of [] x is = absurd (omega (arith, ap length is))
first_of (y ∷ ys) x is = ap (λ (l : List _). l ++ ys) is

-- the guest that came last leaves
module _ (ps : List Page) (more : List (List Page)) (parts : List Account) (guests private shared swapped : ℕ) (h : IsGathered (flat_map pages_in parts) parts guests private shared swapped)
    (last : flat_map pages_in parts ≡ outline ps ∷ more) where
  parts_are : parts ≡ guest_of (outline ps) ∷ map guest_of more
  parts_are = h.accounts ∙ ap (map guest_of) last

  pub left_parts : drop 1 parts ≡ map guest_of more
  left_parts = ap (drop 1) parts_are

  pub first_part : take 1 parts ≡ Guest (outline ps ++ []) ∷ []
  first_part = ap (take 1) parts_are ∙ ap (λ (x : List Page). Guest x ∷ []) (outline_again ps ∙ sym (append-nil (outline ps)))

  all_outlines : map outline more ≡ more
  all_outlines =
      let again : flat_map pages_in parts ≡ outline (outline ps) ∷ map outline more = ap (flat_map pages_in) parts_are ∙ ap (λ (x : List (List Page)). outline (outline ps) ∷ x) (pages_of_guests more) in
      ap (drop 1) (sym again ∙ last)

  pub left_pages : flat_map pages_in (drop 1 parts) ≡ more
  left_pages = ap (flat_map pages_in) left_parts ∙ (pages_of_guests more ∙ all_outlines)

  module _ (p s w : ℕ) (ps_p : p ≡ private_pages ps) (ps_s : s ≡ shared_pages ps) (ps_w : w ≡ swapped_pages ps) where
    privates : private ≡ p + sum_by private_pages more
    privates = omega (arith, h.in_own_frames, ap (sum_by private_pages) last, sum_by-cons private_pages (outline ps) more, outline_private ps, ps_p)

    shareds : shared ≡ s + sum_by shared_pages more
    shareds = omega (arith, h.in_shared_frames, ap (sum_by shared_pages) last, sum_by-cons shared_pages (outline ps) more, outline_shared ps, ps_s)

    swappeds : swapped ≡ w + sum_by swapped_pages more
    swappeds = omega (arith, h.in_slots, ap (sum_by swapped_pages) last, sum_by-cons swapped_pages (outline ps) more, outline_swapped ps, ps_w)

    pub private_within : p ≤ private
    private_within = omega (arith, privates)

    pub shared_within : s ≤ shared
    shared_within = omega (arith, shareds)

    pub swapped_within : w ≤ swapped
    swapped_within = omega (arith, swappeds)

    pub still_gathered : IsGathered (flat_map pages_in (drop 1 parts)) (drop 1 parts) (guests - 1) (private - p) (shared - s) (swapped - w)
    still_gathered =
        let few : All AreFew more = All-tail AreFew (outline ps) more (subst (All AreFew) last h.few) in
        subst (λ (x : List (List Page)). IsGathered x (drop 1 parts) (guests - 1) (private - p) (shared - s) (swapped - w)) (sym left_pages) (record {
          accounts = left_parts;
          count = omega (arith, h.count, ap length last);
          in_own_frames = omega (arith, privates);
          in_shared_frames = omega (arith, shareds);
          in_slots = omega (arith, swappeds);
          few = few;
          few_private = omega (arith, privates, h.count, ap length last, few_in_all private_pages (λ qs most. most.in_own_frames) more few);
          few_shared = omega (arith, shareds, h.count, ap length last, few_in_all shared_pages (λ qs most. most.in_shared_frames) more few);
          few_swapped = omega (arith, swappeds, h.count, ap length last, few_in_all swapped_pages (λ qs most. most.in_slots) more few);
        })

pub gathered_still : (ps : List Page) (more : List (List Page)) (from from' : ShareIs Account) (guests private shared swapped p s w : ℕ) → from' ≡ record from { parts = drop 1 from.parts }
    → IsGathered (flat_map pages_in from.parts) from.parts guests private shared swapped → flat_map pages_in from.parts ≡ outline ps ∷ more → p ≡ private_pages ps → s ≡ shared_pages ps → w ≡ swapped_pages ps
    → IsGathered (flat_map pages_in from'.parts) from'.parts (guests - 1) (private - p) (shared - s) (swapped - w)
gathered_still ps more from from' guests private shared swapped p s w left h last ps_p ps_s ps_w =
    subst (λ (v : ShareIs Account). IsGathered (flat_map pages_in v.parts) v.parts (guests - 1) (private - p) (shared - s) (swapped - w)) (sym left)
    (still_gathered ps more from.parts guests private shared swapped h last p s w ps_p ps_s ps_w)

pub count_by : (k k' : Extent) (found all : List (List Page)) (counts : BookCounts) → k ≡ k' → found ≡ map outline all → IsCountOf k found counts → IsCountOf k' all counts
count_by k k' found all counts same is c =
    count_of_outlines k' all counts (subst (λ (x : Extent). IsCountOf x (map outline all) counts) same (subst (λ (x : List (List Page)). IsCountOf k x counts) is c))
