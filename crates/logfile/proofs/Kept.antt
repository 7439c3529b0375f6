-- The entries of a file have the items of the log's.
use Rattle.std.proofs.Common.{◌≡◌, ℕ, zero, suc, ◌+◌, ◌-◌, ◌*◌, List, [], ◌∷◌, ◌++◌, replicate, refl, sym, ap, ◌∙◌, append-nil, arith}
use Rattle.std.proofs.lemmas.Grind.{flat_map-append}
use Rattle.items.specs.declared.item.Item.{Item}
use Rattle.items.specs.declared.item.What.{What}
use Rattle.items.specs.declared.item.What.TheVariants as what
use Rattle.items.specs.declared.entry.Entry.{Entry}
use Rattle.items.specs.declared.entry.Entry.TheVariants as entry
use Rattle.items.specs.Entries.{steps_of, items_in, items_of}
use Rattle.items.proofs.Runs.{steps_of-none, steps_of-one, steps_of-join}
use Rattle.logfile.specs.Runs.{max_run, full_runs, run_entries, what_entries, written_entries, file_entries}

-- runs of the same length, one after the other
items_of-replicate : (seat n most : ℕ) → items_of (replicate n (entry.Steps seat most)) ≡ steps_of seat (n * most)
items_of-replicate seat zero most = sym (steps_of-none seat) ∙ ap (steps_of seat) (omega arith)
items_of-replicate seat (suc n) most =
    ap (λ (l : List Item). steps_of seat most ++ l) (items_of-replicate seat n most)
    ∙ sym (steps_of-join seat most (n * most))
    ∙ ap (steps_of seat) (omega arith)

items_of-run : (seat count : ℕ) → items_of (run_entries seat count) ≡ steps_of seat count
unfolding run_entries
items_of-run seat count =
    let n = full_runs count in
    let last = count - max_run * n in
    let whole : n * max_run + last ≡ count = omega arith in
    flat_map-append items_in (replicate n (entry.Steps seat max_run)) (entry.Steps seat last ∷ [])
    ∙ ap (λ (l : List Item). items_of (replicate n (entry.Steps seat max_run)) ++ l) (append-nil (steps_of seat last))
    ∙ ap (λ (l : List Item). l ++ steps_of seat last) (items_of-replicate seat n max_run)
    ∙ sym (steps_of-join seat (n * max_run) last)
    ∙ ap (steps_of seat) whole

what_kept : (seat : ℕ) (w : What) → items_of (what_entries seat w) ≡ record { seat = seat; what = w } ∷ []
what_kept seat what.Step = items_of-run seat 1 ∙ steps_of-one seat
what_kept seat (what.In byte) = refl
what_kept seat what.Drain = refl
what_kept seat (what.Target pages) = refl
what_kept seat (what.Poke register value) = refl
what_kept seat (what.Write address bytes) = refl

pub items_kept : (e : Entry) → items_of (written_entries e) ≡ items_in e
items_kept (entry.Steps seat count) = items_of-run seat count
items_kept (entry.One item) = what_kept item.seat item.what

pub all_kept : (entries : List Entry) → items_of (file_entries entries) ≡ items_of entries
all_kept [] = refl
all_kept (e ∷ es) = flat_map-append items_in (written_entries e) (file_entries es) ∙ cc (items_kept e, all_kept es)
