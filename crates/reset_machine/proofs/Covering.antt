-- Words that are reached, and their marks.
use Rattle.std.proofs.Common.{ℕ, ◌≡◌, ◌+◌, ◌<◌, ◌≤◌, ◌^◌, ◌==◌, ◌||◌, ◌⊎◌, inl, inr, Bool, true, false, List, [], ◌∷◌, ◌++◌, length, set, get_or, drop, replicate, refl, sym, ap, subst, ◌∙◌, arith, length-append, length-set, ne_eqb, eq-eqb}
use Rattle.std.proofs.lemmas.Bool.{cases_lt, cases_eq, true≢false}
use Rattle.std.proofs.lemmas.List.{get_or-set_same, get_or_past, length-replicate, drop_all, drop_more}
use Rattle.std.proofs.lemmas.List.Folds.{list_any-append, list_any_at}
use Rattle.std.proofs.lemmas.List.Sums.{count_by-le-length}
use Rattle.runs.specs.Coverage.{is_reached}
use Rattle.reset_machine.specs.Covers.{IsCover, NoneMarked}
use Rattle.reset_machine.specs.Marks.{is_marked}
use Rattle.reset_machine.proofs.Marking.{marked_now, marked_within, marks_set, none_marked, not_marked, other_mark}

-- a word that isn't marked is not reached
pub marked_as_reached : (marked : List Bool) (list : List ℕ) (word : ℕ) → IsCover marked list → is_marked word marked ≡ is_reached word list
marked_as_reached marked list word is = is.same word

pub past_not_reached : (marked : List Bool) (list : List ℕ) (word : ℕ) → IsCover marked list → length marked ≤ word → is_reached word list ≡ false
past_not_reached marked list word is past = sym (is.same word) ∙ get_or_past marked word false past

-- ---- none is reached

none_is_cover : (n : ℕ) → n ≤ 2 ^ 30 → IsCover (replicate n false) []
none_is_cover n small = record {
  small = omega (arith, small, length-replicate n false);
  same = λ word. none_marked n word;
  few = omega arith;
}

pub no_word_marked : (n : ℕ) (marked : List Bool) (list : List ℕ) → n ≤ 2 ^ 30 → marked ≡ replicate n false → list ≡ [] → IsCover marked list
no_word_marked n marked list small is none = subst (λ (xs : List ℕ). IsCover marked xs) (sym none) (subst (λ (m : List Bool). IsCover m []) (sym is) (none_is_cover n small))

pub nothing_marked : (marked : List Bool) (list : List ℕ) → marked ≡ [] → list ≡ [] → IsCover marked list
nothing_marked marked list is none = no_word_marked 0 marked list (omega arith) is none

pub forgotten : (marked old : List Bool) (list : List ℕ) → length marked ≡ length old → length old ≤ 2 ^ 30 → list ≡ [] → NoneMarked marked → IsCover marked list
forgotten marked old list size small none unmarked = subst (λ (xs : List ℕ). IsCover marked xs) (sym none) (record {
  small = omega (arith, small, size);
  same = unmarked;
  few = omega arith;
})

-- ---- a word is reached

reached_now : (list : List ℕ) (word : ℕ) → is_reached word (list ++ word ∷ []) ≡ true
reached_now list word = list_any-append (λ (other : ℕ). other == word) list (word ∷ []) ∙ so (is_reached word list) (word == word) (eq-eqb word word refl)
  where
    so : (a b : Bool) → b ≡ true → (a || (b || false)) ≡ true
    so true b is = refl
    so false true is = refl
    so false false is = is

still_reached : (list : List ℕ) (word other : ℕ) → (other ≡ word → ⊥) → is_reached other (list ++ word ∷ []) ≡ is_reached other list
still_reached list word other apart =
    list_any-append (λ (w : ℕ). w == other) list (word ∷ []) ∙ so (is_reached other list) (word == other) (ne_eqb word other (λ same. apart (sym same)))
  where
    so : (a b : Bool) → b ≡ false → (a || (b || false)) ≡ a
    so true b is = refl
    so false true is = absurd (true≢false is)
    so false false is = refl

pub word_reached : (marked : List Bool) (list : List ℕ) (word : ℕ) → word < length marked → is_marked word marked ≡ false → IsCover marked list
    → IsCover (set marked word true) (list ++ word ∷ [])
word_reached marked list word there clear is = record {
  small = omega (arith, is.small, length-set marked word true);
  same = λ other. same_by other (cases_eq other word);
  few = omega (arith, is.few, marks_set marked word false true there clear, length-append list (word ∷ []));
}
  where
    same_by : (other : ℕ) → (other ≡ word) ⊎ (other ≡ word → ⊥) → is_marked other (set marked word true) ≡ is_reached other (list ++ word ∷ [])
    same_by other (inl same) =
        ap (λ (w : ℕ). is_marked w (set marked word true)) same ∙ marked_now marked word there ∙ sym (reached_now list word)
        ∙ ap (λ (w : ℕ). is_reached w (list ++ word ∷ [])) (sym same)
    same_by other (inr apart) = other_mark marked word other true apart ∙ is.same other ∙ sym (still_reached list word other apart)

pub not_marked_yet : (marked : List Bool) (list : List ℕ) (word : ℕ) → IsCover marked list → is_reached word list ≡ false → is_marked word marked ≡ false
not_marked_yet marked list word is apart = is.same word ∙ apart

pub room_to_reach : (marked : List Bool) (list : List ℕ) (word : ℕ) → word < length marked → is_marked word marked ≡ false → IsCover marked list → length list < length marked
room_to_reach marked list word there clear is =
    let more = marks_set marked word false true there clear in
    omega (arith, is.few, more, count_by-le-length (λ m. m) (set marked word true), length-set marked word true)

-- ---- the marks of words are taken away

-- each word that is marked is one of those
abbrev pub AreAmong : List Bool → List ℕ → Type 0
AreAmong marked list = (word : ℕ) → is_marked word marked ≡ true → is_reached word list ≡ true

pub all_among : (marked : List Bool) (list : List ℕ) → IsCover marked list → AreAmong marked list
all_among marked list is word marked_is = sym (is.same word) ∙ marked_is

cleared_now : (marked : List Bool) (word : ℕ) → is_marked word (set marked word false) ≡ false
cleared_now marked word = by (cases_lt word (length marked))
  where
    by : (word < length marked) ⊎ (length marked ≤ word) → is_marked word (set marked word false) ≡ false
    by (inl there) = get_or-set_same marked word false false there
    by (inr past) = get_or_past (set marked word false) word false (omega (arith, past, length-set marked word false))

pub listed_there : (marked : List Bool) (list : List ℕ) (index d : ℕ) → IsCover marked list → index < length list → get_or list index d < length marked
listed_there marked list index d is below =
    marked_within marked (get_or list index d)
    (is.same (get_or list index d) ∙ list_any_at (λ (w : ℕ). w == get_or list index d) list index d below (eq-eqb (get_or list index d) (get_or list index d) refl))

pub first_unmarked : (marked : List Bool) (list : List ℕ) (index d : ℕ) → index < length list → AreAmong marked (drop index list)
    → AreAmong (set marked (get_or list index d) false) (drop (index + 1) list)
first_unmarked marked list index d below among word is = by (cases_eq word (get_or list index d))
  where
    first : ℕ
    first = get_or list index d

    rest : (b : Bool) → ((first == word) || b) ≡ true → (word ≡ first → ⊥) → b ≡ true
    rest b one apart = subst (λ (x : Bool). (x || b) ≡ true) (ne_eqb first word (λ same. apart (sym same))) one

    by : (word ≡ first) ⊎ (word ≡ first → ⊥) → is_reached word (drop (index + 1) list) ≡ true
    by (inl same) = absurd (true≢false (sym is ∙ ap (λ (w : ℕ). is_marked w (set marked first false)) same ∙ cleared_now marked first))
    by (inr apart) =
        rest (is_reached word (drop (index + 1) list))
        (ap (is_reached word) (sym (drop_more list index d below)) ∙ among word (sym (other_mark marked first word false apart) ∙ is)) apart

pub none_among : (marked : List Bool) (list : List ℕ) (index : ℕ) → length list ≤ index → AreAmong marked (drop index list) → NoneMarked marked
none_among marked list index past among word =
    not_marked (is_marked word marked) (λ is. true≢false (sym (among word is) ∙ ap (is_reached word) (drop_all index list past)))
