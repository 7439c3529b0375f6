-- The given pages, counted.
use Rattle.std.proofs.Common.{ℕ, ◌≡◌, Bool, true, false, List, count_by, slice_index_or, slice_set, ap, sym, ◌∙◌, arith}
use Rattle.std.proofs.lemmas.Grind.{common_steps}
use Rattle.std.proofs.lemmas.List.{set-set, set-get_or}
use Rattle.std.proofs.lemmas.List.Sums.{sum_by-set}
use Rattle.dev_balloon.specs.Balloon.{BalloonIs, is_given, given_count, page_given, page_taken}

-- where no page is given, none of them is
pub none_is_given : (given : List Bool) (page : ℕ) → count_by (λ given. given) given ≡ 0 → slice_index_or given page false ≡ false
none_is_given given page none = grind (arith, common_steps, sum_by-set)

set_same : (given : List Bool) (page : ℕ) → slice_index_or given page false ≡ false → slice_set given page false ≡ given
set_same given page is = ap (λ (now : Bool). slice_set given page now) (sym is) ∙ set-get_or given page false

-- where no page is given, there is none to take
pub none_to_take : (page : ℕ) (b : BalloonIs) → given_count b ≡ 0 → page_taken page b ≡ b
none_to_take page b none =
    ap (λ (given : List Bool). record b { given = given }) (set_same b.given page (none_is_given b.given page none))

-- a page that was given just now is taken back
pub taken_back : (page : ℕ) (b : BalloonIs) → is_given page b ≡ false → page_taken page (page_given page b) ≡ b
taken_back page b is =
    ap (λ (given : List Bool). record b { given = given }) (set-set b.given page true false ∙ set_same b.given page is)
