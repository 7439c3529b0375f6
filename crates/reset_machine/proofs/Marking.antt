-- Marks and the list of the pages that are marked.
use Rattle.std.proofs.Common.{ℕ, ◌≡◌, ◌+◌, ◌<◌, ◌≤◌, ◌⊎◌, inl, inr, Bool, true, false, All, List, [], ◌∷◌, ◌++◌, length, set, get_or, replicate, cond, refl, sym, ap, subst, ◌∙◌, arith, length-append, length-set}
use Rattle.std.specs.List.{Contains}
use Rattle.std.proofs.lemmas.Bool.{cases_lt, cases_eq, true≢false}
use Rattle.std.proofs.lemmas.List.{get_or-set_same, get_or-set_other, get_or-replicate, get_or_past, set-get_or, length-replicate}
use Rattle.std.proofs.lemmas.List.Elements.{All-push, All-contains, Contains-get_or, Contains-push, Contains-append_left, Contains-push_cases}
use Rattle.std.proofs.lemmas.List.Sums.{sum_by-set, count_by-le-length}
use Rattle.reset_machine.specs.Marks.{is_marked, marks, AreListed, Grows}

-- a mark is there or not
marked_or_not : (b : Bool) → (b ≡ true) ⊎ (b ≡ false)
marked_or_not true = inl refl
marked_or_not false = inr refl

pub not_marked : (b : Bool) → (b ≡ true → ⊥) → b ≡ false
not_marked true h = absurd (h refl)
not_marked false h = refl

-- a page that is marked is there
pub marked_within : (marked : List Bool) (page : ℕ) → is_marked page marked ≡ true → page < length marked
marked_within marked page is = elim (cases_lt page (length marked)) [
  | inl h ↦ h
  | inr h ↦ absurd (true≢false (sym is ∙ get_or_past marked page false h))
]

none_marked_by : (n page : ℕ) → (page < n) ⊎ (n ≤ page) → is_marked page (replicate n false) ≡ false
none_marked_by n page (inl h) = get_or-replicate n page false false h
none_marked_by n page (inr h) = get_or_past (replicate n false) page false (omega (arith, length-replicate n false))

pub none_marked : (n page : ℕ) → is_marked page (replicate n false) ≡ false
none_marked n page = none_marked_by n page (cases_lt page n)

none_are_listed : (n : ℕ) → AreListed (replicate n false) []
none_are_listed n = record {
  listed = λ page is. absurd (true≢false (sym is ∙ none_marked n page));
  within = λ k d h. absurd (omega arith);
  few = omega arith;
}

pub none_listed : (n : ℕ) (marked : List Bool) (list : List ℕ) → marked ≡ replicate n false → list ≡ [] → AreListed marked list
none_listed n marked list is none = subst (λ (xs : List ℕ). AreListed marked xs) (sym none) (subst (λ (m : List Bool). AreListed m []) (sym is) (none_are_listed n))

-- ---- a page is marked

-- the page alone has changed
pub other_mark : (marked : List Bool) (page other : ℕ) (m : Bool) → (other ≡ page → ⊥) → is_marked other (set marked page m) ≡ is_marked other marked
other_mark marked page other m apart = get_or-set_other marked page other m false apart

pub marked_now : (marked : List Bool) (page : ℕ) → page < length marked → is_marked page (set marked page true) ≡ true
marked_now marked page h = get_or-set_same marked page true false h

pub set_again : (marked : List Bool) (page : ℕ) → is_marked page marked ≡ true → set marked page true ≡ marked
set_again marked page is = ap (λ (m : Bool). set marked page m) (sym is) ∙ set-get_or marked page false

pub marks_set : (marked : List Bool) (page : ℕ) (old new : Bool) → page < length marked → is_marked page marked ≡ old → marks (set marked page new) + cond old 1 0 ≡ marks marked + cond new 1 0
marks_set marked page old new h is =
    ap (λ (m : Bool). marks (set marked page new) + cond m 1 0) (sym is) ∙ sum_by-set (λ m. cond m 1 0) marked page new false h

pub room_to_add : (marked : List Bool) (list : List ℕ) (page : ℕ) → page < length marked → is_marked page marked ≡ false → AreListed marked list → length list < length marked
room_to_add marked list page h clear l =
    let more = marks_set marked page false true h clear in
    let most : marks (set marked page true) ≤ length (set marked page true) = count_by-le-length (λ m. m) (set marked page true) in
    omega (arith, l.few, more, most, length-set marked page true)

page_is_listed : (marked : List Bool) (list : List ℕ) (page : ℕ) → page < length marked → is_marked page marked ≡ false → AreListed marked list
    → AreListed (set marked page true) (list ++ page ∷ [])
page_is_listed marked list page h clear l = record {
  listed = λ other is. listed_by other is (cases_eq other page);
  within = subst (λ (n : ℕ). All (λ (p : ℕ). p < n) (list ++ page ∷ [])) (sym (length-set marked page true)) (All-push (λ (p : ℕ). p < length marked) list page l.within h);
  few = omega (arith, l.few, marks_set marked page false true h clear, length-append list (page ∷ []));
}
  where
    listed_by : (other : ℕ) → is_marked other (set marked page true) ≡ true → (other ≡ page) ⊎ (other ≡ page → ⊥) → Contains (list ++ page ∷ []) other
    listed_by other is (inl same) = subst (λ (p : ℕ). Contains (list ++ page ∷ []) p) (sym same) (Contains-push list page)
    listed_by other is (inr apart) = Contains-append_left list (page ∷ []) other (l.listed other (sym (other_mark marked page other true apart) ∙ is))

pub page_listed : (marked after : List Bool) (list longer : List ℕ) (page : ℕ) → page < length marked → is_marked page marked ≡ false → AreListed marked list
    → after ≡ set marked page true → longer ≡ list ++ page ∷ [] → AreListed after longer
page_listed marked after list longer page h clear l is more =
    subst (λ (xs : List ℕ). AreListed after xs) (sym more) (subst (λ (m : List Bool). AreListed m (list ++ page ∷ [])) (sym is) (page_is_listed marked list page h clear l))

pub mark_grows : (marked : List Bool) (page : ℕ) → Grows marked (set marked page true)
mark_grows marked page = record {
  size = length-set marked page true;
  kept = λ other is. kept_by other is (cases_eq other page) (cases_lt page (length marked));
}
  where
    kept_by : (other : ℕ) → is_marked other (set marked page true) ≡ false → (other ≡ page) ⊎ (other ≡ page → ⊥) → (page < length marked) ⊎ (length marked ≤ page) → is_marked other marked ≡ false
    kept_by other is (inr apart) which = sym (other_mark marked page other true apart) ∙ is
    kept_by other is (inl same) (inr past) = get_or_past marked other false (omega (arith, same, past))
    kept_by other is (inl same) (inl h) = absurd (true≢false (sym (marked_now marked page h) ∙ ap (λ (p : ℕ). is_marked p (set marked page true)) (sym same) ∙ is))

pub none_more : (marked : List Bool) → Grows marked marked
none_more marked = record { size = refl; kept = λ page is. is }

-- ---- the last page is taken off

pub last_within : (marked : List Bool) (list rest : List ℕ) (page : ℕ) → list ≡ rest ++ page ∷ [] → AreListed marked list → page < length marked
last_within marked list rest page is l =
    All-contains (λ (p : ℕ). p < length marked) (rest ++ page ∷ []) page (subst (λ (xs : List ℕ). All (λ (p : ℕ). p < length marked) xs) is l.within) (Contains-push rest page)

last_is_taken : (marked : List Bool) (list rest : List ℕ) (page : ℕ) → list ≡ rest ++ page ∷ [] → AreListed marked list → AreListed (set marked page false) rest
last_is_taken marked list rest page is l = record {
  listed = λ other now. listed_by other now (cases_eq other page);
  within = subst (λ (n : ℕ). All (λ (p : ℕ). p < n) rest) (sym (length-set marked page false)) (front_within rest (subst (λ (xs : List ℕ). All (λ (p : ℕ). p < length marked) xs) is l.within));
  few = few_by (marked_or_not (is_marked page marked));
}
  where
    there : page < length marked
    there = last_within marked list rest page is l

    front_within : (xs : List ℕ) → All (λ (p : ℕ). p < length marked) (xs ++ page ∷ []) → All (λ (p : ℕ). p < length marked) xs
    front_within xs all = λ k d h. All-contains (λ (p : ℕ). p < length marked) (xs ++ page ∷ []) (get_or xs k d) all (Contains-append_left xs (page ∷ []) (get_or xs k d) (Contains-get_or xs k d h))

    still : (other : ℕ) → is_marked other (set marked page false) ≡ true → (other ≡ page → ⊥) → Contains rest other ⊎ (page ≡ other) → Contains rest other
    still other now apart (inl found) = found
    still other now apart (inr same) = absurd (apart (sym same))

    listed_by : (other : ℕ) → is_marked other (set marked page false) ≡ true → (other ≡ page) ⊎ (other ≡ page → ⊥) → Contains rest other
    listed_by other now (inl same) =
        absurd (true≢false (sym now ∙ ap (λ (p : ℕ). is_marked p (set marked page false)) same ∙ get_or-set_same marked page false false there))
    listed_by other now (inr apart) =
        still other now apart
        (Contains-push_cases rest page other (subst (λ (xs : List ℕ). Contains xs other) is (l.listed other (sym (other_mark marked page other false apart) ∙ now))))

    few_by : (is_marked page marked ≡ true) ⊎ (is_marked page marked ≡ false) → length rest ≤ marks (set marked page false)
    few_by (inl was) = omega (arith, l.few, marks_set marked page true false there was, ap length is, length-append rest (page ∷ []))
    few_by (inr was) = omega (arith, l.few, marks_set marked page false false there was, ap length is, length-append rest (page ∷ []))

pub last_taken : (marked after : List Bool) (list rest : List ℕ) (page : ℕ) → list ≡ rest ++ page ∷ [] → AreListed marked list → after ≡ set marked page false → AreListed after rest
last_taken marked after list rest page is l now = subst (λ (m : List Bool). AreListed m rest) (sym now) (last_is_taken marked list rest page is l)

-- ---- the list

pub few_pages : (marked : List Bool) (list : List ℕ) → AreListed marked list → length list ≤ length marked
few_pages marked list l = omega (arith, l.few, count_by-le-length (λ m. m) marked)

pub empty_none : (marked : List Bool) (list : List ℕ) → AreListed marked list → length list ≡ 0 → (page : ℕ) → is_marked page marked ≡ false
empty_none marked list l none page =
    not_marked (is_marked page marked) (λ is. let found = l.listed page is in omega (arith, found.1, none))
