-- The steps of entries that are counted one after another.
use Rattle.std.proofs.Common.{ℕ, suc, ◌≡◌, ◌≤◌, ◌+◌, ◌%◌, ◌^◌, ◌<◌, arith, List, [], ◌∷◌, ◌++◌, length, get_or, drop, sym, ap, subst, ◌∙◌, Option, option_to_list, Bool, true, false, if◌then◌else◌, add-one, drop-cons}
use Rattle.std.proofs.lemmas.List.Folds.{sum_by-replicate}
use Rattle.std.proofs.lemmas.List.Sums.{sum_by-append, sum_by-cons}
use Rattle.std.proofs.Math.ListN.{drop_of_length-le}
use Rattle.std.proofs.lemmas.Grind.{flat_map-append}
use Rattle.items.specs.Items.{is_step}
use Rattle.items.specs.declared.item.Item.{Item}
use Rattle.items.specs.declared.entry.Entry.{Entry}
use Rattle.items.specs.Entries.{step_by, steps_of, items_in, items_of}
use Rattle.dump.specs.Steps.{one_step, step_count}

-- the items of the entries from one on, and those behind it
pub items_from : (entries : List Entry) (k : ℕ) (e : Entry) → k < length entries → e ≡ get_or entries k e → items_of (drop k entries) ≡ items_in e ++ items_of (drop (k + 1) entries)
items_from entries k e below is =
    ap items_of (drop-cons entries k e below ∙ ap (λ (x : Entry). x ∷ drop (suc k) entries) (sym is))
    ∙ ap (λ (n : ℕ). items_in e ++ items_of (drop n entries)) (sym (add-one k))

-- a run of steps has as many
pub steps_counted : (seat n : ℕ) → step_count (steps_of seat n) ≡ n
unfolding steps_of
steps_counted seat n = omega (arith, sum_by-replicate one_step n (step_by seat))

-- the steps of the entries up to one, and those behind it, modulo 2^64
pub counted_after : (entries : List Entry) (k : ℕ) (e : Entry) (steps here new : ℕ) → k < length entries → e ≡ get_or entries k e
    → (steps + step_count (items_of (drop k entries))) % 2 ^ 64 ≡ step_count (items_of entries) % 2 ^ 64
    → here ≡ step_count (items_in e) % 2 ^ 64 → new ≡ (steps + here) % 2 ^ 64
    → (new + step_count (items_of (drop (k + 1) entries))) % 2 ^ 64 ≡ step_count (items_of entries) % 2 ^ 64
counted_after entries k e steps here new below is before h n =
    let from = ap step_count (items_from entries k e below is) ∙ sum_by-append one_step (items_in e) (items_of (drop (k + 1) entries)) in
    omega (arith, from, before, h, n)

-- at most all items are steps
pub few_steps : (items : List Item) → step_count items ≤ length items
few_steps [] = omega arith
few_steps (i ∷ items) =
    subst (λ n. n ≤ suc (length items)) (sym (sum_by-cons one_step i items)) (omega (arith, one_at_most (is_step i.what), few_steps items))
  where
    one_at_most : (b : Bool) → (if b then 1 else 0) ≤ 1
    one_at_most true = omega arith
    one_at_most false = omega arith

-- entries and the run behind them
pub all_counted : (entries : List Entry) (last : Option Entry) (items : List Item) (k steps here : ℕ) → length entries ≤ k → items_of (entries ++ option_to_list last) ≡ items → length items ≤ 2 ^ 62
    → (steps + step_count (items_of (drop k entries))) % 2 ^ 64 ≡ step_count (items_of entries) % 2 ^ 64 → here ≡ step_count (items_of (option_to_list last)) % 2 ^ 64
    → (steps + here) % 2 ^ 64 ≡ step_count items
all_counted entries last items k steps here past all few counted h =
    let joined = ap step_count (sym all ∙ flat_map-append items_in entries (option_to_list last)) ∙ sum_by-append one_step (items_of entries) (items_of (option_to_list last)) in
    let none = ap (λ (es : List Entry). step_count (items_of es)) (drop_of_length-le entries past) in
    omega (arith, joined, none, few_steps items, few, counted, h)
