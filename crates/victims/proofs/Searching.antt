-- The search for a page that leaves its frame.
use Rattle.std.proofs.Common.{ℕ, zero, suc, ◌≡◌, ◌≢◌, ◌+◌, ◌<◌, ◌≤◌, ◌==◌, ◌&&◌, ◌||◌, not, ne_eqb, length-set, inl, inr, Bool, true, false, Option, List, [], ◌∷◌, length, set, refl, sym, ap, subst, ◌∙◌, arith, Some, None}
use Rattle.std.proofs.lemmas.Bool.{cases_lt, cases_eq}
use Rattle.std.proofs.lemmas.List.{get_or-set_other}
use Rattle.std.proofs.lemmas.List.Sums.{sum_by-cons}
use Rattle.std.specs.List.{sum_by}
use Rattle.guest_pages.specs.declared.page.Page.{Page}
use Rattle.guest_pages.specs.declared.page.Page.TheVariants as page
use Rattle.guest_pages.specs.Pages.{kind_of, page_at, kind_at, is_resident, NoneInFrame}
use Rattle.guest_pages.specs.Holdings.{one_private, one_shared, resident_pages}
use Rattle.victims.specs.Victims.{is_one_of, may_leave, NoneResident}

-- ---- resident pages

not_counted : (q : Page) → is_resident (kind_of q) ≡ false → (one_private q ≡ 0) × (one_shared q ≡ 0)
not_counted page.Zero e = (refl, refl)
not_counted page.Given e = (refl, refl)
not_counted (page.Private frame) e = absurd (cc)
not_counted (page.Shared share ticket) e = absurd (cc)
not_counted (page.Swapped slot digest) e = (refl, refl)

pub counted_once : (q : Page) → is_resident (kind_of q) ≡ true → one_private q + one_shared q ≡ 1
counted_once page.Zero e = absurd (cc)
counted_once page.Given e = absurd (cc)
counted_once (page.Private frame) e = refl
counted_once (page.Shared share ticket) e = refl
counted_once (page.Swapped slot digest) e = absurd (cc)

sum_zero : (f : Page → ℕ) (ps : List Page) → ((p : ℕ) → p < length ps → f (page_at ps p) ≡ 0) → sum_by f ps ≡ 0
sum_zero f [] none = refl
sum_zero f (q ∷ ps) none = omega (arith, sum_by-cons f q ps, none 0 (omega arith), sum_zero f ps (λ p h. none (suc p) (omega (arith, h))))

abbrev in_frame : Page → ℕ
in_frame q = one_private q + one_shared q

sum_of_both : (ps : List Page) → sum_by one_private ps + sum_by one_shared ps ≡ sum_by in_frame ps
sum_of_both [] = refl
sum_of_both (q ∷ ps) = omega (arith, sum_by-cons one_private q ps, sum_by-cons one_shared q ps, sum_by-cons in_frame q ps, sum_of_both ps)

all_in_frames : (ps : List Page) → resident_pages ps ≡ sum_by in_frame ps
all_in_frames ps = sum_of_both ps

at_most_one : (q : Page) → in_frame q ≤ 1
at_most_one page.Zero = omega arith
at_most_one page.Given = omega arith
at_most_one (page.Private frame) = omega arith
at_most_one (page.Shared share ticket) = omega arith
at_most_one (page.Swapped slot digest) = omega arith

-- one page fewer is in a frame where one is taken away
one_away : (ps : List Page) (a : ℕ) → sum_by in_frame ps ≤ sum_by in_frame (set ps a page.Zero) + 1
one_away [] a = omega arith
one_away (q ∷ ps) zero = omega (arith, sum_by-cons in_frame q ps, sum_by-cons in_frame page.Zero ps, at_most_one q)
one_away (q ∷ ps) (suc a) = omega (arith, sum_by-cons in_frame q ps, sum_by-cons in_frame q (set ps a page.Zero), one_away ps a)

taken : (ps : List Page) (a : ℕ) → page_at (set ps a page.Zero) a ≡ page.Zero
taken [] a = refl
taken (q ∷ ps) zero = refl
taken (q ∷ ps) (suc a) = taken ps a

none_but : (ps : List Page) (a : ℕ) (Rest : ℕ → Type 0) → ((p : ℕ) → Rest p → p ≢ a → in_frame (page_at ps p) ≡ 0) → (p : ℕ) → Rest p → in_frame (page_at (set ps a page.Zero) p) ≡ 0
none_but ps a Rest none p rest =
    elim (cases_eq p a) [
      | inl e ↦ ap in_frame (ap (page_at (set ps a page.Zero)) e ∙ taken ps a)
      | inr apart ↦ ap in_frame (get_or-set_other ps a p page.Zero page.Zero apart) ∙ none p rest apart
    ]

-- at most two pages are in frames where none is but two
two_at_most : (ps : List Page) (a b : ℕ) → ((p : ℕ) → p < length ps → p ≢ a → p ≢ b → in_frame (page_at ps p) ≡ 0) → resident_pages ps ≤ 2
two_at_most ps a b none =
    let first = set ps a page.Zero in
    let both = set first b page.Zero in
    let long : length both ≡ length ps = length-set first b page.Zero ∙ length-set ps a page.Zero in
    let left : sum_by in_frame both ≡ 0 =
    sum_zero in_frame both (λ p h.
    none_but first b (λ q. q < length ps) (λ q inside other.
    none_but ps a (λ r. (r < length ps) × (r ≢ b)) (λ r rest apart. none r rest.0 apart rest.1) q (inside, other)) p (omega (arith, h, long))) in
    omega (arith, all_in_frames ps, one_away ps a, one_away first b, left)

stays_unless : (r x y : Bool) → (r && not (x || y)) ≡ false → x ≡ false → y ≡ false → r ≡ false
stays_unless true x y e f g = absurd (cc)
stays_unless false x y e f g = refl

stays_alone : (r : Bool) → (r && not false) ≡ false → r ≡ false
stays_alone true e = absurd (cc)
stays_alone false e = refl

not_in_frame : (q : Page) → is_resident (kind_of q) ≡ false → in_frame q ≡ 0
not_in_frame q e = omega (arith, (not_counted q e).0, (not_counted q e).1)

-- where more than two pages are in frames, one of them is not spared
pub none_at_all : (spared : Option (ℕ × ℕ)) (ps : List Page) (start : ℕ) → NoneResident spared ps start (length ps) → NoneResident spared ps 0 start → 2 < resident_pages ps → ⊥
none_at_all spared ps start later before some = by spared refl
  where
    none : (p : ℕ) → p < length ps → may_leave spared ps p ≡ false
    none p h =
        elim (cases_lt p start) [
          | inl low ↦ before p (omega arith) low
          | inr high ↦ later p high h
        ]

    by : (s : Option (ℕ × ℕ)) → spared ≡ s → ⊥
    by None is =
        omega (
          arith,
          some,
          two_at_most ps 0 0 (λ p h a b. not_in_frame (page_at ps p) (stays_alone (is_resident (kind_at ps p)) (subst (λ (s : Option (ℕ × ℕ)). may_leave s ps p ≡ false) is (none p h)))),
        )
    by (Some pages) is =
        omega (
          arith,
          some,
          two_at_most ps pages.0 pages.1 (λ p h a b.
              not_in_frame (page_at ps p)
              (stays_unless (is_resident (kind_at ps p)) (pages.0 == p) (pages.1 == p) (subst (λ (s : Option (ℕ × ℕ)). may_leave s ps p ≡ false) is (none p h))
              (ne_eqb pages.0 p (λ e. a (sym e))) (ne_eqb pages.1 p (λ e. b (sym e))))),
        )

-- ---- a search for a page that may leave

-- a page that is in no frame may not
out_of_frame : (spared : Option (ℕ × ℕ)) (ps : List Page) (p : ℕ) → is_resident (kind_at ps p) ≡ false → may_leave spared ps p ≡ false
out_of_frame spared ps p e = ap (λ (r : Bool). r && not (is_one_of spared p)) e

and_false : (r : Bool) → (r && false) ≡ false
and_false true = refl
and_false false = refl

-- a page that is spared may not
is_spared : (spared : Option (ℕ × ℕ)) (ps : List Page) (p : ℕ) → is_one_of spared p ≡ true → may_leave spared ps p ≡ false
is_spared spared ps p e = ap (λ (s : Bool). is_resident (kind_at ps p) && not s) e ∙ and_false (is_resident (kind_at ps p))

-- each other may
pub leaves : (spared : Option (ℕ × ℕ)) (ps : List Page) (p : ℕ) → is_resident (kind_at ps p) ≡ true → is_one_of spared p ≡ false → may_leave spared ps p ≡ true
leaves spared ps p e f = ap (λ (r : Bool). r && not (is_one_of spared p)) e ∙ ap not f

-- pages are passed over that are in no frame
pub passed_over : (spared : Option (ℕ × ℕ)) (ps : List Page) (from start to : ℕ) → NoneResident spared ps from start → NoneInFrame ps start to → NoneResident spared ps from to
passed_over spared ps from start to so none = λ p low high. elim (cases_lt p start) [
  | inl before ↦ so p low before
  | inr later ↦ out_of_frame spared ps p (none p later high)
]

-- and one that is spared
pub spared_over : (spared : Option (ℕ × ℕ)) (ps : List Page) (from start page : ℕ) → NoneResident spared ps from start → NoneInFrame ps start page → is_one_of spared page ≡ true
    → NoneResident spared ps from (page + 1)
spared_over spared ps from start page so none one = λ p low high. elim (cases_lt p page) [
  | inl before ↦ passed_over spared ps from start page so none p low before
  | inr later ↦ let same : p ≡ page = omega arith in is_spared spared ps p (ap (is_one_of spared) same ∙ one)
]

both_true : (r s : Bool) → (r && not s) ≡ true → (r ≡ true) × (s ≡ false)
both_true true true e = absurd (cc)
both_true true false e = (refl, refl)
both_true false s e = absurd (cc)

pub leaves_resident : (spared : Option (ℕ × ℕ)) (ps : List Page) (p : ℕ) → may_leave spared ps p ≡ true → is_resident (kind_at ps p) ≡ true
leaves_resident spared ps p e = (both_true (is_resident (kind_at ps p)) (is_one_of spared p) e).0

pub leaves_apart : (spared : Option (ℕ × ℕ)) (ps : List Page) (p : ℕ) → may_leave spared ps p ≡ true → is_one_of spared p ≡ false
leaves_apart spared ps p e = (both_true (is_resident (kind_at ps p)) (is_one_of spared p) e).1
