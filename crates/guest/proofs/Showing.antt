-- Pages that are those of a machine, and the board that they show.
use Rattle.std.proofs.Common.{ℕ, ◌≡◌, ◌≢◌, ◌*◌, ◌<◌, ◌≤◌, ◌⊎◌, inl, inr, Bool, true, false, ◌&&◌, IsTrue, nat_lt, List, length, set, Option, Some, None, refl, sym, ap, subst, ◌∙◌, arith, ltb-true, length-set}
use Rattle.std.proofs.lemmas.Bool.{cases_eq, cases_lt}
use Rattle.std.proofs.Math.ListN.{get_or-eq_default}
use Rattle.word32.specs.Zeros.{zeros}
use Rattle.mips_tlb.specs.declared.kind.Kind.{Kind}
use Rattle.machine.specs.Processor.{Processor}
use Rattle.machine.specs.Board.{page_bytes, given_away}
use Rattle.machine.specs.Step.{Machine}
use Rattle.machine.specs.Agreeing.{Agree}
use Rattle.machine.proofs.Clearing.{other_page_cleared}
use Rattle.machine.proofs.Boards.{given_away_size}
use Rattle.guest_pages.specs.declared.page.Page.{Page}
use Rattle.guest_pages.specs.declared.page.Page.TheVariants as page
use Rattle.guest_pages.specs.declared.page.PageKind.{PageKind}
use Rattle.guest_pages.specs.declared.page.PageKind.TheVariants.{Zero, Given, Private, Shared, Swapped}
use Rattle.guest_pages.specs.Pages.{page_at, kind_of, kind_at, shown, memory_of, AreWhole}
use Rattle.guest_pages.specs.Outline.{outlined, outline}
use Rattle.guest_pages.proofs.Memory.{length_of_memory}
use Rattle.guest_pages.proofs.Outlines.{outline_at, outline_length, outline_kind}
use Rattle.guest_pages.proofs.Replacing.{page_of_memory, new_page, other_page}
use Rattle.page_moves.specs.Faith.{IsFaithful, Faithful, IsHeld, Kept}
use Rattle.page_moves.proofs.Supplying.{faithful_shown}
use Rattle.guest_bus.specs.Buses.{GuestBusIs, IsSettled, board_of, pages_settled, after_settling}
use Rattle.guest_bus.specs.Lacking.{lack_of, lacks_in}
use Rattle.guest.specs.Views.{pages_seen, Shows, is_here, here}

-- ---- pages that are in no slot

is_true : (b : Bool) → b ≡ true → IsTrue b
is_true b e = e

both : (a b : Bool) → a ≡ true → b ≡ true → (a && b) ≡ true
both true b e f = f
both false b e f = absurd (cc)

first : (a b : Bool) → (a && b) ≡ true → a ≡ true
first true b e = refl
first false b e = absurd (cc)

second : (a b : Bool) → (a && b) ≡ true → b ≡ true
second true b e = e
second false b e = absurd (cc)

-- what is no page is as one that was never touched
past_is_zero : (pages : List Page) (p : ℕ) → length pages ≤ p → kind_at pages p ≡ Zero
past_is_zero pages p h = ap kind_of (get_or-eq_default pages page.Zero h)

not_lacking : (k : PageKind) (kind : Kind) → lack_of k kind ≡ None → (is_here k ≡ true) × (k ≢ Zero)
not_lacking Zero kind e = absurd (cc)
not_lacking Given kind e = absurd (cc)
not_lacking Private kind e = (refl, λ same. absurd (cc))
not_lacking Shared kind e = (refl, λ same. absurd (cc))
not_lacking Swapped kind e = absurd (cc)

-- a page that lacks nothing is there and in no slot
pub covered : (pages : List Page) (p : ℕ) (kind : Kind) → lacks_in pages p kind ≡ None → IsTrue (here pages p)
covered pages p kind none = by_place (cases_lt p (length pages))
  where
    by_place : (p < length pages) ⊎ (length pages ≤ p) → IsTrue (here pages p)
    by_place (inl inside) = both (nat_lt p (length pages)) (is_here (kind_at pages p)) (grind arith) (not_lacking (kind_at pages p) kind none).0
    by_place (inr past) = absurd ((not_lacking (kind_at pages p) kind none).1 (past_is_zero pages p past))

here_inside : (pages : List Page) (p : ℕ) → IsTrue (here pages p) → p < length pages
here_inside pages p h = ltb-true p (length pages) (first (nat_lt p (length pages)) (is_here (kind_at pages p)) h)

here_apart : (k : PageKind) → is_here k ≡ true → k ≢ Swapped
here_apart Zero e = λ same. absurd (cc)
here_apart Given e = λ same. absurd (cc)
here_apart Private e = λ same. absurd (cc)
here_apart Shared e = λ same. absurd (cc)
here_apart Swapped e = absurd (cc)

pub here_not_swapped : (pages : List Page) (p : ℕ) → IsTrue (here pages p) → kind_at pages p ≢ Swapped
here_not_swapped pages p h = here_apart (kind_at pages p) (second (nat_lt p (length pages)) (is_here (kind_at pages p)) h)

apart_here : (k : PageKind) → k ≢ Swapped → is_here k ≡ true
apart_here Zero apart = refl
apart_here Given apart = refl
apart_here Private apart = refl
apart_here Shared apart = refl
apart_here Swapped apart = absurd (apart refl)

pub is_page_here : (pages : List Page) (p : ℕ) → p < length pages → kind_at pages p ≢ Swapped → IsTrue (here pages p)
is_page_here pages p inside apart = both (nat_lt p (length pages)) (is_here (kind_at pages p)) (grind arith) (apart_here (kind_at pages p) apart)

-- ---- the board that pages show

pub settled_memory : (b : GuestBusIs) → IsSettled b → (board_of b).memory ≡ memory_of b.pages
settled_memory b settled = ap (λ (waiting : Option ℕ). given_away waiting (memory_of b.pages)) settled

-- a bus on which no page waits is settled already
pub settled_already : (b : GuestBusIs) → IsSettled b → after_settling b ≡ b
settled_already b settled =
    ap (λ (waiting : Option ℕ). record { pages = pages_settled waiting b.pages; devices = b.devices; waiting = None }) settled
    ∙ ap (λ (waiting : Option ℕ). record b { waiting = waiting }) (sym settled)

-- pages that are those of a machine show its board, but for those in slots
pub shows_agree : (m : Machine) (cpu : Processor) (b : GuestBusIs) → AreWhole b.pages → IsSettled b → Shows m cpu b → Agree (here b.pages) (board_of b) m.board
shows_agree m cpu b whole settled s = record {
  size = s.size ∙ sym (length_of_memory b.pages whole) ∙ sym (ap length (settled_memory b settled));
  bytes = λ p h.
      let inside = here_inside b.pages p h in
      sym (faithful_shown (page_at b.pages p) (pages_seen m p) (here_not_swapped b.pages p h) (s.pages p inside))
      ∙ sym (page_of_memory b.pages p whole inside)
      ∙ ap (page_bytes p) (sym (settled_memory b settled));
  devices = sym s.devices;
}

-- ---- pages before and after something happened

outlined_away : (q r : Page) → outlined q ≡ outlined r → kind_of q ≡ Swapped → q ≡ r
outlined_away page.Zero r same e = absurd (cc)
outlined_away page.Given r same e = absurd (cc)
outlined_away (page.Private frame) r same e = absurd (cc)
outlined_away (page.Shared share ticket) r same e = absurd (cc)
outlined_away (page.Swapped slot digest) page.Zero same e = absurd (cc)
outlined_away (page.Swapped slot digest) page.Given same e = absurd (cc)
outlined_away (page.Swapped slot digest) (page.Private frame) same e = absurd (cc)
outlined_away (page.Swapped slot digest) (page.Shared share ticket) same e = absurd (cc)
outlined_away (page.Swapped slot digest) (page.Swapped other sum) same e = same

pub same_kind : (pages before : List Page) (p : ℕ) → outline before ≡ outline pages → kind_at before p ≡ kind_at pages p
same_kind pages before p same = sym (outline_kind before p) ∙ ap (λ (ps : List Page). kind_at ps p) same ∙ outline_kind pages p

same_away : (pages before : List Page) (p : ℕ) → outline before ≡ outline pages → kind_at before p ≡ Swapped → page_at before p ≡ page_at pages p
same_away pages before p same swapped =
    outlined_away (page_at before p) (page_at pages p) (sym (outline_at before p) ∙ ap (λ (ps : List Page). page_at ps p) same ∙ outline_at pages p) swapped

pub same_length : (pages before : List Page) → outline before ≡ outline pages → length before ≡ length pages
same_length pages before same = sym (outline_length before) ∙ ap length same ∙ outline_length pages

-- What happened to a machine and to pages that were its: the pages that are in no slot show what became of the machine, and those in
-- a slot are as they were, but for the page that was given, which is zeros.
pub record Happened (b before : GuestBusIs) (m m' : Machine) : Type 0 where
  pub whole : AreWhole before.pages
  pub same : outline before.pages ≡ outline b.pages
  pub agree : Agree (here b.pages) (board_of before) m'.board
  pub away : (p : ℕ) → p < length b.pages → kind_at b.pages p ≡ Swapped → (before.waiting ≡ Some p) ⊎ (pages_seen m' p ≡ pages_seen m p)
  pub given : (p : ℕ) → before.waiting ≡ Some p → p < length b.pages → pages_seen m' p ≡ zeros 4096

module _ (b before : GuestBusIs) (m m' : Machine) (h : Happened b before m m') where
  -- the bytes of a page that was not given
  not_given : (waiting : Option ℕ) (p : ℕ) → (waiting ≡ Some p → ⊥) → page_bytes p (given_away waiting (memory_of before.pages)) ≡ page_bytes p (memory_of before.pages)
  not_given None p apart = refl
  not_given (Some q) p apart = other_page_cleared q (memory_of before.pages) p (λ same. apart (ap Some (sym same)))

  shows_still : (p : ℕ) → p < length b.pages → kind_at b.pages p ≢ Swapped → (before.waiting ≡ Some p → ⊥) → shown (page_at before.pages p) ≡ pages_seen m' p
  shows_still p inside apart other =
      let there : p < length before.pages = subst (λ (n : ℕ). p < n) (sym (same_length b.pages before.pages h.same)) inside in
      sym (page_of_memory before.pages p h.whole there)
      ∙ sym (not_given before.waiting p other)
      ∙ sym (h.agree.bytes p (is_page_here b.pages p inside apart))

  module _ (T : List ℕ → Page → Type 0) (shows : (bytes : List ℕ) (q : Page) → kind_of q ≢ Swapped → shown q ≡ bytes → T bytes q)
      (was : (p : ℕ) → p < length b.pages → T (pages_seen m p) (page_at b.pages p)) where
    -- a page that was not given
    stays_in_slot : (p : ℕ) → p < length b.pages → kind_at before.pages p ≡ Swapped → (before.waiting ≡ Some p → ⊥) → T (pages_seen m' p) (page_at before.pages p)
    stays_in_slot p inside swapped other = by_cases (h.away p inside (sym (same_kind b.pages before.pages p h.same) ∙ swapped))
      where
        by_cases : (before.waiting ≡ Some p) ⊎ (pages_seen m' p ≡ pages_seen m p) → T (pages_seen m' p) (page_at before.pages p)
        by_cases (inl is) = absurd (other is)
        by_cases (inr seen) =
            subst (λ (q : Page). T (pages_seen m' p) q) (sym (same_away b.pages before.pages p h.same swapped))
            (subst (λ (bytes : List ℕ). T bytes (page_at b.pages p)) (sym seen) (was p inside))

    not_given_still : (p : ℕ) → p < length b.pages → (before.waiting ≡ Some p → ⊥) → (kind_at before.pages p ≡ Swapped) ⊎ (kind_at before.pages p ≢ Swapped)
        → T (pages_seen m' p) (page_at before.pages p)
    not_given_still p inside other (inl swapped) = stays_in_slot p inside swapped other
    not_given_still p inside other (inr apart) =
        shows (pages_seen m' p) (page_at before.pages p) apart (shows_still p inside (λ swapped. apart (same_kind b.pages before.pages p h.same ∙ swapped)) other)

    swapped_or_not : (k : PageKind) → (k ≡ Swapped) ⊎ (k ≢ Swapped)
    swapped_or_not Zero = inr (λ e. absurd (cc))
    swapped_or_not Given = inr (λ e. absurd (cc))
    swapped_or_not Private = inr (λ e. absurd (cc))
    swapped_or_not Shared = inr (λ e. absurd (cc))
    swapped_or_not Swapped = inl refl

    by_waiting : (waiting : Option ℕ) → before.waiting ≡ waiting → (p : ℕ) → p < length b.pages → T (pages_seen m' p) (page_at (pages_settled waiting before.pages) p)
    by_waiting None is p inside = not_given_still p inside (λ e. absurd (cc)) (swapped_or_not (kind_at before.pages p))
    by_waiting (Some q) is p inside = by_page (cases_eq p q)
      where
        by_page : (p ≡ q) ⊎ (p ≡ q → ⊥) → T (pages_seen m' p) (page_at (set before.pages q page.Given) p)
        by_page (inl same) =
            let there : q < length before.pages = subst (λ (n : ℕ). q < n) (sym (same_length b.pages before.pages h.same)) (subst (λ (n : ℕ). n < length b.pages) same inside) in
            let at : page_at (set before.pages q page.Given) p ≡ page.Given = ap (page_at (set before.pages q page.Given)) same ∙ new_page before.pages q page.Given there in
            subst (λ (page : Page). T (pages_seen m' p) page) (sym at)
            (shows (pages_seen m' p) page.Given (λ e. absurd (cc)) (sym (h.given p (is ∙ ap Some (sym same)) inside)))
        by_page (inr other) =
            subst (λ (page : Page). T (pages_seen m' p) page) (sym (other_page before.pages q p page.Given other))
            (not_given_still p inside (λ e. other (cc)) (swapped_or_not (kind_at before.pages p)))

    pub each_still : (p : ℕ) → p < length b.pages → T (pages_seen m' p) (page_at (pages_settled before.waiting before.pages) p)
    each_still p inside = by_waiting before.waiting refl p inside

  settled_length : (waiting : Option ℕ) → length (pages_settled waiting before.pages) ≡ length before.pages
  settled_length None = refl
  settled_length (Some p) = length-set before.pages p page.Given

  length_after : length (pages_settled before.waiting before.pages) ≡ length b.pages
  length_after = settled_length before.waiting ∙ same_length b.pages before.pages h.same

  inside_before : (p : ℕ) → p < length (pages_settled before.waiting before.pages) → p < length b.pages
  inside_before p inside = subst (λ (n : ℕ). p < n) length_after inside

  faithful_after : Faithful (pages_seen m) b.pages → Faithful (pages_seen m') (pages_settled before.waiting before.pages)
  faithful_after was p inside = each_still IsFaithful shown_faithful was p (inside_before p inside)
    where
      shown_faithful : (bytes : List ℕ) (q : Page) → kind_of q ≢ Swapped → shown q ≡ bytes → IsFaithful bytes q
      shown_faithful bytes page.Zero apart e = e
      shown_faithful bytes page.Given apart e = e
      shown_faithful bytes (page.Private frame) apart e = e
      shown_faithful bytes (page.Shared share ticket) apart e = e
      shown_faithful bytes (page.Swapped slot digest) apart e = absurd (apart refl)

  pub shows_after : (cpu cpu' : Processor) → cpu' ≡ m'.cpu → Shows m cpu b → Shows m' cpu' (after_settling before)
  shows_after cpu cpu' processor s = record {
    cpu = processor;
    devices = sym h.agree.devices;
    size = h.agree.size ∙ before_size ∙ ap (λ (n : ℕ). n * 4096) (sym (settled_length before.waiting));
    pages = faithful_after s.pages;
  }
    where
      before_size : length (board_of before).memory ≡ length before.pages * 4096
      before_size = given_away_size before.waiting (memory_of before.pages) ∙ length_of_memory before.pages h.whole

  pub kept_after : (held : ℕ → Option (List ℕ)) → Kept held (pages_seen m) b.pages → Kept held (pages_seen m') (pages_settled before.waiting before.pages)
  kept_after held k = record {
    faithful = faithful_after k.faithful;
    lies = λ p inside. each_still (IsHeld held) shown_held k.lies p (inside_before p inside);
  }
    where
      shown_held : (bytes : List ℕ) (q : Page) → kind_of q ≢ Swapped → shown q ≡ bytes → IsHeld held bytes q
      shown_held bytes page.Zero apart e = tt
      shown_held bytes page.Given apart e = tt
      shown_held bytes (page.Private frame) apart e = tt
      shown_held bytes (page.Shared share ticket) apart e = tt
      shown_held bytes (page.Swapped slot digest) apart e = absurd (apart refl)
