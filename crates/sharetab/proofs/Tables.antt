-- The places of a table and what is counted in them.
use Rattle.std.proofs.Common.{ℕ, zero, suc, ◌≡◌, ◌+◌, ◌-◌, ◌^◌, ◌<◌, ◌≤◌, inl, inr, List, [], ◌∷◌, length, set, get_or, replicate, Option, Some, None, refl, sym, ap, subst, ◌∙◌, arith}
use Rattle.std.proofs.lemmas.Bool.{cases_eq, cases_lt}
use Rattle.std.proofs.lemmas.List.{get_or-set_same, get_or-set_other, get_or_past, get_or_default, length-set, length-replicate}
use Rattle.std.proofs.lemmas.List.Sums.{sum_by-set, sum_by-cons, get_or-le-sum_by}
use Rattle.std.proofs.lemmas.List.Folds.{sum_by-replicate}
use Rattle.frames.specs.Frames.{SharedIs}
use Rattle.sharetab.specs.Entries.{entry_at, tickets_of, count_at, one_entry, entry_count, ticket_count, Fits, AllFit, AreCounted}
use Rattle.sharetab.proofs.Keys.{none_is_not_some}

-- ---- vacant places

pub none_at : (n k : ℕ) → entry_at (replicate n None) k ≡ None
none_at zero k = refl
none_at (suc n) zero = refl
none_at (suc n) (suc k) = none_at n k

pub none_counted : (n : ℕ) → n < 2 ^ 32 → AreCounted (replicate n None) 0 0
none_counted n small =
    let none : Option SharedIs = None in
    record {
      fit = λ k. subst (Fits k) (sym (none_at n k)) tt;
      in_all = omega (arith, sum_by-replicate one_entry n none);
      out = omega (arith, sum_by-replicate tickets_of n none);
      few = omega (arith, length-replicate n none);
    }

-- ---- a place and the others

-- an entry lies inside the table
pub there : (es : List (Option SharedIs)) (k : ℕ) (e : SharedIs) → entry_at es k ≡ Some e → k < length es
there es k e at =
    elim (cases_lt k (length es)) [
      | inl inside ↦ inside
      | inr past ↦ absurd (none_is_not_some (entry_at es k) e (get_or_past es k None past) at)
    ]

-- what is read of an entry, whatever would be read outside the table
pub read_at : (es : List (Option SharedIs)) (k : ℕ) (d x : Option SharedIs) → k < length es → get_or es k d ≡ x → entry_at es k ≡ x
read_at es k d x inside read = get_or_default es k None d inside ∙ read

-- a fact of each place, one of which is changed
pub each_set : (P : ℕ → Option SharedIs → Type 0) (es : List (Option SharedIs)) (k : ℕ) (x : Option SharedIs) → k < length es → ((i : ℕ) → P i (entry_at es i)) → P k x → (i : ℕ) → P i (entry_at (set es k x) i)
each_set P es k x inside all here i =
    elim (cases_eq i k) [
      | inl same ↦ subst (λ (n : ℕ). P n (entry_at (set es k x) n)) (sym same) (subst (P k) (sym (get_or-set_same es k x None inside)) here)
      | inr apart ↦ subst (P i) (sym (get_or-set_other es k i x None apart)) (all i)
    ]

pub fits_at : (es : List (Option SharedIs)) (k : ℕ) (e : SharedIs) → AllFit es → entry_at es k ≡ Some e → (e.number ≡ k) × (0 < e.tickets)
fits_at es k e all at = let here : Fits k (Some e) = subst (Fits k) at (all k) in here

-- ---- sums

pub one_set : (es : List (Option SharedIs)) (k : ℕ) (x : Option SharedIs) → k < length es → entry_count (set es k x) + one_entry (entry_at es k) ≡ entry_count es + one_entry x
one_set es k x inside = sum_by-set one_entry es k x None inside

pub tickets_set : (es : List (Option SharedIs)) (k : ℕ) (x : Option SharedIs) → k < length es → ticket_count (set es k x) + count_at es k ≡ ticket_count es + tickets_of x
tickets_set es k x inside = sum_by-set tickets_of es k x None inside

one_at_most : (o : Option SharedIs) → one_entry o ≤ 1
one_at_most None = omega arith
one_at_most (Some e) = omega arith

pub entries_at_most : (es : List (Option SharedIs)) → entry_count es ≤ length es
entries_at_most [] = omega arith
entries_at_most (o ∷ es) = omega (arith, entries_at_most es, one_at_most o, sum_by-cons one_entry o es)

-- where a place is vacant, there are fewer entries than places
pub vacant_room : (es : List (Option SharedIs)) (k : ℕ) (e : SharedIs) → k < length es → entry_at es k ≡ None → entry_count es < length es
vacant_room es k e inside vacant =
    let none : one_entry (entry_at es k) ≡ 0 = ap one_entry vacant in
    omega (arith, none, one_set es k (Some e) inside, entries_at_most (set es k (Some e)), length-set es k (Some e))

-- an entry is one of all, and its tickets are some of all
pub counted_among : (es : List (Option SharedIs)) (k : ℕ) (e : SharedIs) → entry_at es k ≡ Some e → (0 < entry_count es) × (e.tickets ≤ ticket_count es)
counted_among es k e at =
    let inside = there es k e at in
    let one : one_entry (entry_at es k) ≡ 1 = ap one_entry at in
    let its : count_at es k ≡ e.tickets = ap tickets_of at in
    (omega (arith, one, get_or-le-sum_by one_entry es k None inside), omega (arith, its, get_or-le-sum_by tickets_of es k None inside))

-- ---- changes

-- an entry comes to a vacant place
pub put_keeps : (es : List (Option SharedIs)) (k : ℕ) (e : SharedIs) (n t : ℕ) → AreCounted es n t → k < length es → entry_at es k ≡ None → e.number ≡ k → e.tickets ≡ 1 → AreCounted (set es k (Some e)) (n + 1) (t + 1)
put_keeps es k e n t c inside vacant number first =
    let here : Fits k (Some e) = (number, omega (arith, first)) in
    let no_entry : one_entry (entry_at es k) ≡ 0 = ap one_entry vacant in
    let no_ticket : count_at es k ≡ 0 = ap tickets_of vacant in
    record {
      fit = each_set Fits es k (Some e) inside c.fit here;
      in_all = omega (arith, c.in_all, no_entry, one_set es k (Some e) inside);
      out = omega (arith, c.out, no_ticket, first, tickets_set es k (Some e) inside);
      few = omega (arith, c.few, length-set es k (Some e));
    }

-- an entry has other tickets
pub recounted : (es : List (Option SharedIs)) (k : ℕ) (x y : SharedIs) (n t u : ℕ) → AreCounted es n t → entry_at es k ≡ Some x → y.number ≡ x.number → 0 < y.tickets → u + x.tickets ≡ t + y.tickets → AreCounted (set es k (Some y)) n u
recounted es k x y n t u c at number some sum =
    let inside = there es k x at in
    let was = fits_at es k x c.fit at in
    let here : Fits k (Some y) = (number ∙ was.0, some) in
    let one : one_entry (entry_at es k) ≡ 1 = ap one_entry at in
    let its : count_at es k ≡ x.tickets = ap tickets_of at in
    record {
      fit = each_set Fits es k (Some y) inside c.fit here;
      in_all = omega (arith, c.in_all, one, one_set es k (Some y) inside);
      out = omega (arith, c.out, its, sum, tickets_set es k (Some y) inside);
      few = omega (arith, c.few, length-set es k (Some y));
    }

-- an entry goes
pub gone : (es : List (Option SharedIs)) (k : ℕ) (x : SharedIs) (n t : ℕ) → AreCounted es n t → entry_at es k ≡ Some x → AreCounted (set es k None) (n - 1) (t - x.tickets)
gone es k x n t c at =
    let inside = there es k x at in
    let none : Option SharedIs = None in
    let here : Fits k None = tt in
    let one : one_entry (entry_at es k) ≡ 1 = ap one_entry at in
    let its : count_at es k ≡ x.tickets = ap tickets_of at in
    record {
      fit = each_set Fits es k None inside c.fit here;
      in_all = omega (arith, c.in_all, one, one_set es k None inside);
      out = omega (arith, c.out, its, tickets_set es k None inside);
      few = omega (arith, c.few, length-set es k none);
    }
