-- A log that is stored in the fewest entries stays so when an item is added.
use Rattle.std.proofs.Common.{ℕ, zero, suc, ◌≡◌, ◌<◌, ◌≤◌, ◌+◌, ◌^◌, Bool, false, if◌then◌else◌, Option, Some, None, List, [], ◌∷◌, ◌++◌, length, All, option_to_list, refl, sym, ap, subst, ◌∙◌, arith, append_assoc, append-nil, length-append, ◌⊎◌, inl, inr, eq-eqb, ne_eqb}
use Rattle.std.proofs.lemmas.List.Concat.{flat_map-append}
use Rattle.std.proofs.lemmas.List.Elements.{All-nil, All-push, All-pop}
use Rattle.std.proofs.lemmas.Bool.{cases_eq}
use Rattle.items.specs.declared.item.Item.{Item}
use Rattle.items.specs.declared.entry.Entry.{Entry}
use Rattle.items.specs.declared.entry.Entry.TheVariants as entry
use Rattle.items.specs.Items.{is_step}
use Rattle.items.specs.Entries.{step_by, steps_of, items_in, items_of}
use Rattle.items.proofs.Runs.{steps_of-none, steps_of-one, steps_of-join, length-steps_of}
use Rattle.guest_log.specs.declared.run.Run.{Run}
use Rattle.guest_log.specs.Runs.{run_count, last_run, IsStored}
use Rattle.guest_log.specs.Stored.{run_entry, entries_of, Keeps}
use Rattle.guest_log.proofs.Counting.{run_count-one_more}
use Rattle.guest_log.proofs.Endings.{run_begins, count-begins, run_grows, count-grows, run_follows, count-follows, run_stops, count-stops}

abbrev pub steps_by : ℕ → ℕ → Run
steps_by seat steps = record { seat = seat; steps = steps }

run_entry-none : (seat n : ℕ) → n ≡ 0 → run_entry (steps_by seat n) ≡ None
run_entry-none seat n e = ap (λ (b : Bool). if b then None else Some (entry.Steps seat n)) (eq-eqb n 0 e)

run_entry-some : (seat n : ℕ) → (n ≡ 0 → ⊥) → run_entry (steps_by seat n) ≡ Some (entry.Steps seat n)
run_entry-some seat n e = ap (λ (b : Bool). if b then None else Some (entry.Steps seat n)) (ne_eqb n 0 e)

-- the items of a last run
run_items : (seat n : ℕ) → items_of (option_to_list (run_entry (steps_by seat n))) ≡ steps_of seat n
run_items seat n = elim (cases_eq n 0) [
  | inl none ↦ ap (λ (o : Option Entry). items_of (option_to_list o)) (run_entry-none seat n none) ∙ sym (ap (steps_of seat) none ∙ steps_of-none seat)
  | inr some ↦ ap (λ (o : Option Entry). items_of (option_to_list o)) (run_entry-some seat n some) ∙ append-nil (steps_of seat n)
]

pub items-entries : (earlier : List Entry) (seat n : ℕ) → items_of (entries_of earlier (steps_by seat n)) ≡ items_of earlier ++ steps_of seat n
items-entries earlier seat n =
    flat_map-append items_in earlier (option_to_list (run_entry (steps_by seat n))) ∙ ap (λ (l : List Item). items_of earlier ++ l) (run_items seat n)

pub length-items : (earlier : List Entry) (seat n : ℕ) → length (items_of (entries_of earlier (steps_by seat n))) ≡ length (items_of earlier) + n
length-items earlier seat n =
    ap length (items-entries earlier seat n) ∙ length-append (items_of earlier) (steps_of seat n) ∙ ap (λ (k : ℕ). length (items_of earlier) + k) (length-steps_of seat n)

-- the items after one more step in the last run, in a new run, or after one more item by itself
pub items-more : (earlier : List Entry) (seat n : ℕ) → items_of (entries_of earlier (steps_by seat (n + 1))) ≡ items_of (entries_of earlier (steps_by seat n)) ++ step_by seat ∷ []
items-more earlier seat n =
    items-entries earlier seat (n + 1)
    ∙ ap (λ (l : List Item). items_of earlier ++ l) (steps_of-join seat n 1 ∙ ap (λ (l : List Item). steps_of seat n ++ l) (steps_of-one seat))
    ∙ sym (append_assoc (items_of earlier) (steps_of seat n) (step_by seat ∷ []))
    ∙ ap (λ (l : List Item). l ++ step_by seat ∷ []) (sym (items-entries earlier seat n))

pub items-many : (earlier : List Entry) (seat n count : ℕ)
    → items_of (entries_of earlier (steps_by seat (n + count))) ≡ items_of (entries_of earlier (steps_by seat n)) ++ steps_of seat count
items-many earlier seat n count =
    items-entries earlier seat (n + count)
    ∙ ap (λ (l : List Item). items_of earlier ++ l) (steps_of-join seat n count)
    ∙ sym (append_assoc (items_of earlier) (steps_of seat n) (steps_of seat count))
    ∙ ap (λ (l : List Item). l ++ steps_of seat count) (sym (items-entries earlier seat n))

pub items-next : (entries : List Entry) (seat : ℕ) → items_of (entries_of entries (steps_by seat 1)) ≡ items_of entries ++ step_by seat ∷ []
items-next entries seat = items-entries entries seat 1 ∙ ap (λ (l : List Item). items_of entries ++ l) (steps_of-one seat)

pub items-other : (entries : List Entry) (seat : ℕ) (i : Item) → items_of (entries_of (entries ++ entry.One i ∷ []) (steps_by seat 0)) ≡ items_of entries ++ i ∷ []
items-other entries seat i =
    items-entries (entries ++ entry.One i ∷ []) seat 0
    ∙ ap (λ (l : List Item). items_of (entries ++ entry.One i ∷ []) ++ l) (steps_of-none seat)
    ∙ append-nil (items_of (entries ++ entry.One i ∷ []))
    ∙ flat_map-append items_in entries (entry.One i ∷ [])

length-more : (items : List Item) (i : Item) → length (items ++ i ∷ []) ≡ length items + 1
length-more items i = length-append items (i ∷ [])

-- how many entries there are
entries-none : (earlier : List Entry) (seat n : ℕ) → n ≡ 0 → length (entries_of earlier (steps_by seat n)) ≡ length earlier
entries-none earlier seat n e =
    ap (λ (o : Option Entry). length (earlier ++ option_to_list o)) (run_entry-none seat n e) ∙ ap length (append-nil earlier)

entries-some : (earlier : List Entry) (seat n : ℕ) → (n ≡ 0 → ⊥) → length (entries_of earlier (steps_by seat n)) ≡ length earlier + 1
entries-some earlier seat n e =
    ap (λ (o : Option Entry). length (earlier ++ option_to_list o)) (run_entry-some seat n e) ∙ length-append earlier (entry.Steps seat n ∷ [])

-- a log of nothing
pub keeps_nothing : (seat limit : ℕ) → Keeps [] 0 (steps_by seat 0) limit
unfolding last_run
keeps_nothing seat limit = record {
  fewest = refl;
  last_is = refl;
  before_is = refl;
  stored = All-nil IsStored;
  within = omega arith;
  items_fit = omega arith;
}

-- how many runs there are with one more step: as many where it joins the last run, else one more
pub runs_with : (earlier : List Entry) (before seat n other limit : ℕ) → Keeps earlier before (steps_by seat n) limit
    → let items = items_of (entries_of earlier (steps_by seat n)) in
    ((0 < n → seat ≡ other → run_count (items ++ step_by other ∷ []) ≡ run_count items)
    × ((n ≡ 0) ⊎ (seat ≡ other → ⊥) → run_count (items ++ step_by other ∷ []) ≡ run_count items + 1))
runs_with earlier before seat n other limit k =
    let items = items_of (entries_of earlier (steps_by seat n)) in (
      (λ some same. subst (λ (s : ℕ). run_count (items ++ step_by s ∷ []) ≡ run_count items) same
          (count-grows items seat n (sym k.last_is ∙ run_entry-some seat n (λ e. omega (arith, e, some))))),
      (λ why. elim why [
        | inl none ↦ count-begins items (step_by other) (sym k.last_is ∙ run_entry-none seat n none)
        | inr differ ↦ elim (cases_eq n 0) [
          | inl none ↦ count-begins items (step_by other) (sym k.last_is ∙ run_entry-none seat n none)
          | inr some ↦ count-follows items seat n other differ (sym k.last_is ∙ run_entry-some seat n some)
        ]
      ]),
    )

-- one more step by the seat of the last run
same_counts : (earlier : List Entry) (before seat n limit : ℕ) → Keeps earlier before (steps_by seat n) limit
    → length (entries_of earlier (steps_by seat (n + 1))) ≡ run_count (items_of (entries_of earlier (steps_by seat n)) ++ step_by seat ∷ [])
same_counts earlier before seat n limit k =
    let items = items_of (entries_of earlier (steps_by seat n)) in
    let more = entries-some earlier seat (n + 1) (λ e. omega (arith, e)) in
    elim (cases_eq n 0) [
      | inl none ↦ omega (arith, more, entries-none earlier seat n none, k.fewest, count-begins items (step_by seat) (sym k.last_is ∙ run_entry-none seat n none))
      | inr some ↦ omega (arith, more, entries-some earlier seat n some, k.fewest, count-grows items seat n (sym k.last_is ∙ run_entry-some seat n some))
    ]

same_ends : (earlier : List Entry) (before seat n limit : ℕ) → Keeps earlier before (steps_by seat n) limit
    → Some (entry.Steps seat (n + 1)) ≡ last_run (items_of (entries_of earlier (steps_by seat n)) ++ step_by seat ∷ [])
same_ends earlier before seat n limit k =
    let items = items_of (entries_of earlier (steps_by seat n)) in
    elim (cases_eq n 0) [
      | inl none ↦ ap (λ (j : ℕ). Some (entry.Steps seat (j + 1))) none ∙ sym (run_begins items seat (sym k.last_is ∙ run_entry-none seat n none))
      | inr some ↦ sym (run_grows items seat n (sym k.last_is ∙ run_entry-some seat n some))
    ]

-- the entries before the last run are stored entries
stored_before : (earlier : List Entry) (seat n : ℕ) → All IsStored (entries_of earlier (steps_by seat n)) → All IsStored earlier
stored_before earlier seat n stored = (All-pop IsStored (entries_of earlier (steps_by seat n)) earlier (run_entry (steps_by seat n)) refl stored).0

pub keeps_same : (earlier : List Entry) (before seat n limit : ℕ) → run_count (items_of (entries_of earlier (steps_by seat n))) < limit
    → length (items_of (entries_of earlier (steps_by seat n))) < 2 ^ 62
    → Keeps earlier before (steps_by seat n) limit → Keeps earlier before (steps_by seat (n + 1)) limit
keeps_same earlier before seat n limit room fits k =
    let items = items_of (entries_of earlier (steps_by seat n)) in
    let more = items-more earlier seat n in
    let some = run_entry-some seat (n + 1) (λ e. omega (arith, e)) in
    let counts = same_counts earlier before seat n limit k in
    let few : n + 1 ≤ 2 ^ 62 = omega (arith, length-items earlier seat n) in
    record {
      fewest = counts ∙ ap run_count (sym more);
      last_is = some ∙ same_ends earlier before seat n limit k ∙ ap last_run (sym more);
      before_is = k.before_is;
      stored = subst (λ (o : Option Entry). All IsStored (earlier ++ option_to_list o)) (sym some) (All-push IsStored earlier (entry.Steps seat (n + 1)) (stored_before earlier seat n k.stored) (omega arith, few));
      within = omega (arith, counts, run_count-one_more items (step_by seat));
      items_fit = rw (more, length-more) (omega arith);
    }

-- a step more in a run that has some takes no room for a run
keeps_longer : (earlier : List Entry) (before seat n limit : ℕ) → (n ≡ 0 → ⊥) → length (items_of (entries_of earlier (steps_by seat n))) < 2 ^ 62
    → Keeps earlier before (steps_by seat n) limit → Keeps earlier before (steps_by seat (n + 1)) limit
keeps_longer earlier before seat n limit begun fits k =
    let items = items_of (entries_of earlier (steps_by seat n)) in
    let more = items-more earlier seat n in
    let some = run_entry-some seat (n + 1) (λ e. omega (arith, e)) in
    let counts = same_counts earlier before seat n limit k in
    let few : n + 1 ≤ 2 ^ 62 = omega (arith, length-items earlier seat n) in
    record {
      fewest = counts ∙ ap run_count (sym more);
      last_is = some ∙ same_ends earlier before seat n limit k ∙ ap last_run (sym more);
      before_is = k.before_is;
      stored = subst (λ (o : Option Entry). All IsStored (earlier ++ option_to_list o)) (sym some) (All-push IsStored earlier (entry.Steps seat (n + 1)) (stored_before earlier seat n k.stored) (omega arith, few));
      within = omega (arith, k.within, entries-some earlier seat n begun, entries-some earlier seat (n + 1) (λ e. omega (arith, e)));
      items_fit = rw (more, length-more) (omega arith);
    }

-- and so many more
keeps_run : (earlier : List Entry) (before seat n limit more : ℕ) → (n ≡ 0 → ⊥) → length (items_of (entries_of earlier (steps_by seat n))) + more ≤ 2 ^ 62
    → Keeps earlier before (steps_by seat n) limit → Keeps earlier before (steps_by seat (n + more)) limit
keeps_run earlier before seat n limit zero begun fits k = subst (λ (j : ℕ). Keeps earlier before (steps_by seat j) limit) (omega arith) k
keeps_run earlier before seat n limit (suc more) begun fits k =
    let fewer : length (items_of (entries_of earlier (steps_by seat n))) + more ≤ 2 ^ 62 = omega (arith, fits) in
    let so_far = keeps_run earlier before seat n limit more begun fewer k in
    let some : n + more ≡ 0 → ⊥ = λ e. begun (omega (arith, e)) in
    let fit : length (items_of (entries_of earlier (steps_by seat (n + more)))) < 2 ^ 62 =
    omega (arith, fits, length-items earlier seat n, length-items earlier seat (n + more)) in
    let same : n + more + 1 ≡ n + suc more = omega arith in
    subst (λ (j : ℕ). Keeps earlier before (steps_by seat j) limit) same (keeps_longer earlier before seat (n + more) limit some fit so_far)

-- some steps by the seat of the last run
pub keeps_same_many : (earlier : List Entry) (before seat n limit count : ℕ) → 0 < count → run_count (items_of (entries_of earlier (steps_by seat n))) < limit
    → length (items_of (entries_of earlier (steps_by seat n))) + count ≤ 2 ^ 62
    → Keeps earlier before (steps_by seat n) limit → Keeps earlier before (steps_by seat (n + count)) limit
keeps_same_many earlier before seat n limit zero some room fits k = absurd (omega (arith, some))
keeps_same_many earlier before seat n limit (suc more) some room fits k =
    let fit : length (items_of (entries_of earlier (steps_by seat n))) < 2 ^ 62 = omega (arith, fits) in
    let one = keeps_same earlier before seat n limit room fit k in
    let begun : n + 1 ≡ 0 → ⊥ = λ e. omega (arith, e) in
    let fewer : length (items_of (entries_of earlier (steps_by seat (n + 1)))) + more ≤ 2 ^ 62 =
    omega (arith, fits, length-items earlier seat n, length-items earlier seat (n + 1)) in
    let same : n + 1 + more ≡ n + suc more = omega arith in
    subst (λ (j : ℕ). Keeps earlier before (steps_by seat j) limit) same (keeps_run earlier before seat (n + 1) limit more begun fewer one)

-- a step that begins a run: the last run so far has no steps, or is of another seat
next_counts : (entries : List Entry) (seat n other : ℕ) → (seat ≡ other → ⊥) → run_entry (steps_by seat n) ≡ last_run (items_of entries)
    → (run_count (items_of entries ++ step_by other ∷ []) ≡ run_count (items_of entries) + 1) × (last_run (items_of entries ++ step_by other ∷ []) ≡ Some (entry.Steps other 1))
next_counts entries seat n other differ last = elim (cases_eq n 0) [
  | inl none ↦
      let ends = sym last ∙ run_entry-none seat n none in
      (count-begins (items_of entries) (step_by other) ends, run_begins (items_of entries) other ends)
  | inr some ↦
      let ends = sym last ∙ run_entry-some seat n some in
      (count-follows (items_of entries) seat n other differ ends, run_follows (items_of entries) seat n other differ ends)
]

pub keeps_next : (earlier : List Entry) (before seat n other limit : ℕ) → (seat ≡ other → ⊥) → run_count (items_of (entries_of earlier (steps_by seat n))) < limit
    → length (items_of (entries_of earlier (steps_by seat n))) < 2 ^ 62
    → Keeps earlier before (steps_by seat n) limit → Keeps (entries_of earlier (steps_by seat n)) (before + n) (steps_by other 1) limit
keeps_next earlier before seat n other limit differ room fits k =
    let entries = entries_of earlier (steps_by seat n) in
    let more = items-next entries other in
    let next = next_counts entries seat n other differ k.last_is in
    let one = length-append entries (entry.Steps other 1 ∷ []) in
    record {
      fewest = omega (arith, one, k.fewest, next.0, ap run_count more);
      last_is = sym next.1 ∙ ap last_run (sym more);
      before_is = omega (arith, k.before_is, length-items earlier seat n);
      stored = All-push IsStored entries (entry.Steps other 1) k.stored (omega arith, omega arith);
      within = omega (arith, one, k.fewest);
      items_fit = rw (more, length-more) (omega arith);
    }

-- some steps that begin a run
pub keeps_next_many : (earlier : List Entry) (before seat n other limit count : ℕ) → 0 < count → (seat ≡ other → ⊥) → run_count (items_of (entries_of earlier (steps_by seat n))) < limit
    → length (items_of (entries_of earlier (steps_by seat n))) + count ≤ 2 ^ 62
    → Keeps earlier before (steps_by seat n) limit → Keeps (entries_of earlier (steps_by seat n)) (before + n) (steps_by other count) limit
keeps_next_many earlier before seat n other limit zero some differ room fits k = absurd (omega (arith, some))
keeps_next_many earlier before seat n other limit (suc more) some differ room fits k =
    let entries = entries_of earlier (steps_by seat n) in
    let fit : length (items_of entries) < 2 ^ 62 = omega (arith, fits) in
    let one = keeps_next earlier before seat n other limit differ room fit k in
    let fewer : length (items_of (entries_of entries (steps_by other 1))) + more ≤ 2 ^ 62 = omega (arith, fits, length-items entries other 1) in
    let same : 1 + more ≡ suc more = omega arith in
    subst (λ (j : ℕ). Keeps entries (before + n) (steps_by other j) limit) same (keeps_run entries (before + n) other 1 limit more (λ e. omega (arith, e)) fewer one)

-- an item that is no step
pub keeps_other : (earlier : List Entry) (before seat n limit : ℕ) (i : Item) → is_step i.what ≡ false → run_count (items_of (entries_of earlier (steps_by seat n))) < limit
    → length (items_of (entries_of earlier (steps_by seat n))) < 2 ^ 62
    → Keeps earlier before (steps_by seat n) limit → Keeps (entries_of earlier (steps_by seat n) ++ entry.One i ∷ []) (before + (n + 1)) (steps_by seat 0) limit
keeps_other earlier before seat n limit i other room fits k =
    let entries = entries_of earlier (steps_by seat n) in
    let more = items-other entries seat i in
    let one = length-append entries (entry.One i ∷ []) in
    let none = append-nil (entries ++ entry.One i ∷ []) in
    let same = flat_map-append items_in entries (entry.One i ∷ []) in
    record {
      fewest = omega (arith, ap length none, one, k.fewest, count-stops (items_of entries) i other, ap run_count more);
      last_is = sym (run_stops (items_of entries) i other) ∙ ap last_run (sym more);
      before_is = omega (arith, k.before_is, length-items earlier seat n, ap length same, length-more (items_of entries) i);
      stored = subst (All IsStored) (sym none) (All-push IsStored entries (entry.One i) k.stored other);
      within = omega (arith, ap length none, one, k.fewest);
      items_fit = rw (more, length-more) (omega arith);
    }
