-- Frames in a guest's hand, as pages after its own.
use Rattle.std.proofs.Common.{◌≡◌, ℕ, zero, suc, ◌+◌, ◌<◌, ◌≤◌, List, [], ◌∷◌, ◌++◌, length, refl, sym, ap, ◌∙◌, subst, arith, inl, inr}
use Rattle.std.proofs.lemmas.Bool.{cases_lt}
use Rattle.std.proofs.lemmas.List.Sums.{sum_by-append, sum_by-cons}
use Rattle.std.specs.List.{sum_by}
use Rattle.frames.specs.Counts.{one_at, count_of}
use Rattle.sharetab.specs.Entries.{EntriesAre, entry_at, HasBytes}
use Rattle.guest_pages.specs.declared.page.Page.{Page}
use Rattle.guest_pages.specs.declared.page.Page.TheVariants as page
use Rattle.guest_pages.specs.declared.page.PageKind.TheVariants as kind
use Rattle.guest_pages.specs.Pages.{page_at, kind_of, shown, ticket_of}
use Rattle.guest_pages.specs.Holdings.{frames_held, slots_held, tickets_held, private_pages, swapped_pages, frame_in, slot_in, ticket_in, one_private, one_swapped}
use Rattle.page_moves.specs.Moves.{Reads}
use Rattle.accounts.specs.OwnerShares.{on_its_way}

way_sum : (f : Page → ℕ) (g : ℕ → ℕ) (ns : List ℕ) → ((n : ℕ) → f (page.Private (record { number = n; bytes = [] })) ≡ g n) → sum_by f (on_its_way ns) ≡ sum_by g ns
way_sum f g [] same = refl
way_sum f g (n ∷ ns) same =
    omega (arith, same n, way_sum f g ns same, sum_by-cons f (page.Private (record { number = n; bytes = [] })) (on_its_way ns), sum_by-cons g n ns)

no_sum : (ns : List ℕ) → sum_by (λ (n : ℕ). 0) ns ≡ 0
no_sum [] = refl
no_sum (n ∷ ns) = omega (arith, no_sum ns, sum_by-cons (λ (m : ℕ). 0) n ns)

one_sum : (ns : List ℕ) → sum_by (λ (n : ℕ). 1) ns ≡ length ns
one_sum [] = refl
one_sum (n ∷ ns) = omega (arith, one_sum ns, sum_by-cons (λ (m : ℕ). 1) n ns)

module _ (ps : List Page) (ns : List ℕ) where
  pub way_frames : (k : ℕ) → frames_held k (ps ++ on_its_way ns) ≡ frames_held k ps + count_of k ns
  way_frames k = omega (arith, sum_by-append (frame_in k) ps (on_its_way ns), way_sum (frame_in k) (one_at k) ns (λ n. refl))

  pub way_private : private_pages (ps ++ on_its_way ns) ≡ private_pages ps + length ns
  way_private = omega (arith, sum_by-append one_private ps (on_its_way ns), way_sum one_private (λ n. 1) ns (λ n. refl), one_sum ns)

  pub way_slots : (k : ℕ) → slots_held k (ps ++ on_its_way ns) ≡ slots_held k ps
  way_slots k = omega (arith, sum_by-append (slot_in k) ps (on_its_way ns), way_sum (slot_in k) (λ n. 0) ns (λ n. refl), no_sum ns)

  pub way_swapped : swapped_pages (ps ++ on_its_way ns) ≡ swapped_pages ps
  way_swapped = omega (arith, sum_by-append one_swapped ps (on_its_way ns), way_sum one_swapped (λ n. 0) ns (λ n. refl), no_sum ns)

  pub way_tickets : (k : ℕ) → tickets_held k (ps ++ on_its_way ns) ≡ tickets_held k ps
  way_tickets k = omega (arith, sum_by-append (ticket_in k) ps (on_its_way ns), way_sum (ticket_in k) (λ n. 0) ns (λ n. refl), no_sum ns)

pub at_longer : (ps qs : List Page) (p : ℕ) → p < length ps → page_at (ps ++ qs) p ≡ page_at ps p
at_longer [] qs p h = absurd (omega (arith, h))
at_longer (x ∷ ps) qs zero h = refl
at_longer (x ∷ ps) qs (suc p) h = at_longer ps qs p (omega (arith, h))

pub past_is_zero : (ps : List Page) (p : ℕ) → length ps ≤ p → page_at ps p ≡ page.Zero
past_is_zero [] p h = refl
past_is_zero (x ∷ ps) zero h = absurd (omega (arith, h))
past_is_zero (x ∷ ps) (suc p) h = past_is_zero ps p (omega (arith, h))

zero_not_shared : kind.Zero ≡ kind.Shared → ⊥
zero_not_shared e = absurd (cc)

private_not_shared : kind.Private ≡ kind.Shared → ⊥
private_not_shared e = absurd (cc)

abbrev ReadsPage : EntriesAre → Page → Type 0
ReadsPage es x = kind_of x ≡ kind.Shared → HasBytes (shown x) (entry_at es (ticket_of x))

pub reads_shorter : (es : EntriesAre) (ps qs : List Page) → Reads es (ps ++ qs) → Reads es ps
reads_shorter es ps qs r p shared =
    elim (cases_lt p (length ps)) [
      | inl inside ↦ subst (ReadsPage es) (at_longer ps qs p inside) (r p) shared
      | inr past ↦ absurd (zero_not_shared (sym (ap kind_of (past_is_zero ps p past)) ∙ shared))
    ]

way_reads : (es : EntriesAre) (ns : List ℕ) → Reads es (on_its_way ns)
way_reads es [] p shared = absurd (zero_not_shared shared)
way_reads es (n ∷ ns) zero shared = absurd (private_not_shared shared)
way_reads es (n ∷ ns) (suc p) shared = way_reads es ns p shared

pub reads_longer : (es : EntriesAre) (ps : List Page) (ns : List ℕ) → Reads es ps → Reads es (ps ++ on_its_way ns)
reads_longer es [] ns r p shared = way_reads es ns p shared
reads_longer es (x ∷ ps) ns r zero shared = r zero shared
reads_longer es (x ∷ ps) ns r (suc p) shared = reads_longer es ps ns (λ q. r (suc q)) p shared
