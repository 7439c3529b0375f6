-- Runs of steps as entries that one item of the file can hold.
use Rattle.std.proofs.Common.{◌≡◌, ℕ, suc, ◌-◌, ◌*◌, ◌<◌, ◌≤◌, List, [], ◌∷◌, ◌++◌, replicate, All, sym, ap, ◌∙◌, append_assoc, append-nil, lit<, lit≤, arith}
use Rattle.std.proofs.lemmas.List.Elements.{All-append, All-replicate, All-cons, All-nil}
use Rattle.items.specs.declared.entry.Entry.{Entry}
use Rattle.items.specs.declared.entry.Entry.TheVariants as entry
use Rattle.logfile.specs.FileItems.{entry_bytes, body_bytes, IsFileEntry}
use Rattle.logfile.specs.Runs.{max_run, full_runs, run_entries}

-- an item of the most steps, and the run that is left
more_runs : (count : ℕ) → max_run < count → full_runs count ≡ suc (full_runs (count - max_run))
more_runs count h = omega arith

run_entries-more : (seat count : ℕ) → max_run < count → run_entries seat count ≡ entry.Steps seat max_run ∷ run_entries seat (count - max_run)
unfolding run_entries
run_entries-more seat count h =
    let n = full_runs (count - max_run) in
    let last : count - max_run * suc n ≡ count - max_run - max_run * n = omega arith in
    ap (λ (k : ℕ). replicate k (entry.Steps seat max_run) ++ entry.Steps seat (count - max_run * k) ∷ []) (more_runs count h)
    ∙ ap (λ (k : ℕ). entry.Steps seat max_run ∷ replicate n (entry.Steps seat max_run) ++ entry.Steps seat k ∷ []) last

-- a run that one item can hold
run_entries-last : (seat count : ℕ) → 1 ≤ count → count ≤ max_run → run_entries seat count ≡ entry.Steps seat count ∷ []
unfolding run_entries
run_entries-last seat count some h =
    let none : full_runs count ≡ 0 = omega arith in
    let whole : count - 0 ≡ count = omega arith in
    ap (λ (k : ℕ). replicate k (entry.Steps seat max_run) ++ entry.Steps seat (count - max_run * k) ∷ []) none
    ∙ ap (λ (k : ℕ). entry.Steps seat k ∷ []) whole

pub run_entries-each : (seat count : ℕ) → seat < 4 → 1 ≤ count → All IsFileEntry (run_entries seat count)
unfolding run_entries
run_entries-each seat count small some =
    let full : IsFileEntry (entry.Steps seat max_run) = (small, lit≤ tt, lit< tt) in
    let last : IsFileEntry (entry.Steps seat (count - max_run * full_runs count)) = (small, omega arith, omega arith) in
    All-append IsFileEntry _ _ (All-replicate IsFileEntry (full_runs count) _ full) (All-cons IsFileEntry _ [] last (All-nil IsFileEntry))

-- the bytes of the run, when an item of the most steps is written
pub run_more : (seat left : ℕ) (file new all : List ℕ) → max_run < left → new ≡ file ++ entry_bytes (entry.Steps seat max_run) → file ++ body_bytes (run_entries seat left) ≡ all → new ++ body_bytes (run_entries seat (left - max_run)) ≡ all
run_more seat left file new all h is before =
    ap (λ (l : List ℕ). l ++ body_bytes (run_entries seat (left - max_run))) is
    ∙ append_assoc file (entry_bytes (entry.Steps seat max_run)) (body_bytes (run_entries seat (left - max_run)))
    ∙ ap (λ (l : List Entry). file ++ body_bytes l) (sym (run_entries-more seat left h))
    ∙ before

-- and when the last is
pub run_last : (seat left : ℕ) (file new all : List ℕ) → 1 ≤ left → left ≤ max_run → new ≡ file ++ entry_bytes (entry.Steps seat left) → file ++ body_bytes (run_entries seat left) ≡ all → new ≡ all
run_last seat left file new all some h is before =
    is ∙ ap (λ (l : List ℕ). file ++ l) (sym (append-nil (entry_bytes (entry.Steps seat left))) ∙ ap body_bytes (sym (run_entries-last seat left some h))) ∙ before
