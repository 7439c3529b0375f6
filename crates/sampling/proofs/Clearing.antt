-- Marks that are cleared.
use Rattle.std.proofs.Common.{◌≡◌, ◌≢◌, ℕ, ◌+◌, ◌<◌, zero, suc, Bool, true, false, List, [], ◌∷◌, length, take, set, get_or, count_by, All, Contains, refl, ap, sym, ◌∙◌, add-one, length-set, arith}
use Rattle.std.proofs.lemmas.Grind.{common_steps}
use Rattle.std.proofs.lemmas.List.{get_or-set_same, get_or-set_other}
use Rattle.std.proofs.lemmas.List.Elements.{All-head, All-tail, All-cons, All-contains}
use Rattle.sampling.specs.Samples.{is_marked, marked_draws, cleared}

pub length_cleared : (pages : List ℕ) (marks : List Bool) → length (cleared pages marks) ≡ length marks
length_cleared [] marks = refl
length_cleared (page ∷ pages) marks = length_cleared pages (set marks page false) ∙ simp length-set

more : (pages : List ℕ) (k : ℕ) (marks : List Bool) → k < length pages → cleared (take (suc k) pages) marks ≡ set (cleared (take k pages) marks) (get_or pages k 0) false
more [] k marks within = absurd (omega arith)
more (page ∷ pages) zero marks within = refl
more (page ∷ pages) (suc k) marks within = more pages k (set marks page false) (omega arith)

-- one page more is cleared
pub cleared_more : (pages : List ℕ) (k : ℕ) (marks : List Bool) → k < length pages → cleared (take (k + 1) pages) marks ≡ set (cleared (take k pages) marks) (get_or pages k 0) false
cleared_more pages k marks within = rw add-one (more pages k marks within)

set_clears : (marks : List Bool) (page : ℕ) → is_marked (set marks page false) page ≡ false
set_clears [] page = refl
set_clears (mark ∷ marks) zero = refl
set_clears (mark ∷ marks) (suc page) = set_clears marks page

set_keeps_clear : (marks : List Bool) (other page : ℕ) → is_marked marks page ≡ false → is_marked (set marks other false) page ≡ false
set_keeps_clear [] other page clear = clear
set_keeps_clear (mark ∷ marks) zero zero clear = refl
set_keeps_clear (mark ∷ marks) zero (suc page) clear = clear
set_keeps_clear (mark ∷ marks) (suc other) zero clear = clear
set_keeps_clear (mark ∷ marks) (suc other) (suc page) clear = set_keeps_clear marks other page clear

stays_clear : (pages : List ℕ) (marks : List Bool) (page : ℕ) → is_marked marks page ≡ false → is_marked (cleared pages marks) page ≡ false
stays_clear [] marks page clear = clear
stays_clear (other ∷ pages) marks page clear = stays_clear pages (set marks other false) page (set_keeps_clear marks other page clear)

all_clear : (pages : List ℕ) (marks : List Bool) → All (λ page. is_marked (cleared pages marks) page ≡ false) pages
all_clear [] marks = λ k d within. absurd (omega arith)
all_clear (page ∷ pages) marks =
    All-cons (λ p. is_marked (cleared (page ∷ pages) marks) p ≡ false) page pages
    (stays_clear pages (set marks page false) page (set_clears marks page)) (all_clear pages (set marks page false))

-- a page that is cleared is not marked
pub drawn_is_clear : (marks : List Bool) (pages : List ℕ) (page : ℕ) → Contains pages page → is_marked (cleared pages marks) page ≡ false
drawn_is_clear marks pages page drawn = All-contains (λ p. is_marked (cleared pages marks) p ≡ false) pages page (all_clear pages marks) drawn

-- all other pages are as before
pub other_stays : (marks : List Bool) (pages : List ℕ) (page : ℕ) → All (λ p. p ≢ page) pages → is_marked (cleared pages marks) page ≡ is_marked marks page
other_stays marks [] page others = refl
other_stays marks (other ∷ pages) page others =
    other_stays (set marks other false) pages page (All-tail (λ p. p ≢ page) other pages others)
    ∙ get_or-set_other marks other page false false (λ same. All-head (λ p. p ≢ page) other pages others (sym same))

none_counted : (f : ℕ → Bool) (pages : List ℕ) → All (λ page. f page ≡ false) pages → count_by f pages ≡ 0
none_counted f [] none = refl
none_counted f (page ∷ pages) none =
    rw (All-head (λ p. f p ≡ false) page pages none) (none_counted f pages (All-tail (λ p. f p ≡ false) page pages none))

-- no draw of a page that is cleared counts
pub no_draw_counts : (marks : List Bool) (draws : List ℕ) → marked_draws (cleared draws marks) draws ≡ 0
no_draw_counts marks draws = none_counted (is_marked (cleared draws marks)) draws (all_clear draws marks)
