-- Where the log of a run leads to.
use Rattle.std.proofs.Common.{◌≡◌, ◌∙◌, refl, sym, ap, ℕ, zero, suc, ◌+◌, ◌<◌, List, [], ◌∷◌, ◌++◌, get_or, length, take, append_assoc, append-nil}
use Rattle.std.proofs.lemmas.List.{map-append, take_more}
use Rattle.items.specs.declared.item.What.TheVariants.{In}
use Rattle.items.specs.declared.item.Item.{Item}
use Rattle.items.specs.Entries.{steps_of}
use Rattle.machine.specs.Step.{Machine, step}
use Rattle.machine.specs.Items.{after, run}
use Rattle.runs.specs.Runs.{after_run, after_steps, fed}
use Rattle.runs.specs.declared.running.Ran.{Ran}
use Rattle.fuzz_command.specs.Jobs.{input_items}

run_more : (xs ys : List Item) (m : Machine) → run (xs ++ ys) m ≡ run ys (run xs m)
run_more [] ys m = refl
run_more (x ∷ xs) ys m = run_more xs ys (after x.what m)

input_run : (bytes : List ℕ) (m : Machine) → run (input_items bytes) m ≡ fed bytes m
input_run [] m = refl
input_run (byte ∷ bytes) m = input_run bytes (run (input_items (byte ∷ [])) m)

step_first : (n : ℕ) (m : Machine) → after_steps n (step m) ≡ after_steps (suc n) m
step_first zero m = refl
step_first (suc n) m = ap step (step_first n m)

steps_run : (n : ℕ) (m : Machine) → run (steps_of 0 n) m ≡ after_steps n m
unfolding steps_of
steps_run zero m = refl
steps_run (suc n) m = steps_run n (step m) ∙ step_first n m

-- no step more
pub no_steps : (items : List Item) (count : ℕ) → count ≡ 0 → items ≡ items ++ steps_of 0 count
unfolding steps_of
no_steps items count none = sym (append-nil items) ∙ ap (λ (n : ℕ). items ++ steps_of 0 n) (sym none)

-- the steps that make the machine ready, the input, and the steps
pub leads : (made : ℕ) (first second items : List Item) (ran : Ran) (input : List ℕ) → first ≡ [] ++ steps_of 0 made → second ≡ first ++ input_items (take ran.taken input)
    → items ≡ second ++ steps_of 0 ran.steps → (m : Machine) → run items m ≡ after_run ran input (after_steps made m)
leads made first second items ran input ready taken is m =
    ap (λ (l : List Item). run l m) is ∙ run_more second (steps_of 0 ran.steps) m
    ∙ ap (run (steps_of 0 ran.steps)) (ap (λ (l : List Item). run l m) taken ∙ run_more first (input_items (take ran.taken input)) m
    ∙ ap (run (input_items (take ran.taken input))) (ap (λ (l : List Item). run l m) ready ∙ steps_run made m)
    ∙ input_run (take ran.taken input) (after_steps made m))
    ∙ steps_run ran.steps (fed (take ran.taken input) (after_steps made m))

-- the item of a byte of input
abbrev pub item_of : ℕ → Item
item_of byte = record { seat = 0; what = In byte }

-- one byte more
pub logged_more : (index : ℕ) (bytes : List ℕ) (first items mid items' : List Item) (seat : ℕ) → index < length bytes → items ≡ first ++ input_items (take index bytes) → mid ≡ items → seat ≡ 0
    → items' ≡ mid ++ (let i : Item = record { seat = seat; what = In (get_or bytes index 0) } in i) ∷ [] → items' ≡ first ++ input_items (take (index + 1) bytes)
logged_more index bytes first items mid items' seat inside before same by one =
    one ∙ ap (λ (n : ℕ). mid ++ (let i : Item = record { seat = n; what = In (get_or bytes index 0) } in i) ∷ []) by
    ∙ ap (λ (l : List Item). l ++ item_of (get_or bytes index 0) ∷ []) (same ∙ before)
    ∙ append_assoc first (input_items (take index bytes)) (item_of (get_or bytes index 0) ∷ [])
    ∙ ap (λ (l : List Item). first ++ l) (sym (map-append item_of (take index bytes) (get_or bytes index 0 ∷ [])) ∙ ap input_items (sym (take_more bytes index 0 inside)))
