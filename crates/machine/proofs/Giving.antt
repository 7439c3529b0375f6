-- Pages that are given, before and after they are given or taken.
use Rattle.std.proofs.Common.{ℕ, zero, suc, ◌≡◌, ◌⊎◌, inl, inr, ◌<◌, ◌≤◌, Bool, true, false, not, ◌&&◌, nat_lt, List, [], ◌∷◌, length, get_or, slice_set, refl, sym, ◌∙◌, arith, ltb-true, length-set, get_or-set_same, get_or-set_other}
use Rattle.std.proofs.lemmas.Bool.{cases_lt}
use Rattle.std.proofs.Math.ListN.{get_or-eq_default}
use Rattle.dev_balloon.specs.Balloon.{BalloonIs, is_given, can_be_given, page_given, page_taken}

set_false : (xs : List Bool) (p k : ℕ) → get_or (slice_set xs p false) k false ≡ true → get_or xs k false ≡ true
set_false [] p k e = e
set_false (x ∷ xs) zero zero e = cc
set_false (x ∷ xs) zero (suc k) e = e
set_false (x ∷ xs) (suc p) zero e = e
set_false (x ∷ xs) (suc p) (suc k) e = set_false xs p k e

-- a page that is given once another was taken out was given before
pub given_before_take : (page taken : ℕ) (b : BalloonIs) → is_given page (page_taken taken b) ≡ true → is_given page b ≡ true
given_before_take page taken b e = set_false b.given taken page e

-- a page that was taken out is not given
taken_false : (xs : List Bool) (p : ℕ) → get_or (slice_set xs p false) p false ≡ false
taken_false [] p = refl
taken_false (x ∷ xs) zero = refl
taken_false (x ∷ xs) (suc p) = taken_false xs p

pub taken_page_is_not_given : (page : ℕ) (b : BalloonIs) → is_given page (page_taken page b) ≡ false
taken_page_is_not_given page b = taken_false b.given page

-- a page that is given once another was given was given before
pub given_before_give : (page given : ℕ) (b : BalloonIs) → (page ≡ given → ⊥) → is_given page (page_given given b) ≡ true → is_given page b ≡ true
given_before_give page given b other e = sym (get_or-set_other b.given given page true false other) ∙ e

-- where a page can't be given, it is no page or it is given already
refused : (test given : Bool) → (test && not given) ≡ false → test ≡ true → given ≡ true
refused true true h e = refl
refused true false h e = cc
refused false given h e = cc

pub given_before_refused : (page : ℕ) (b : BalloonIs) → can_be_given page b ≡ false → is_given page (page_given page b) ≡ true → is_given page b ≡ true
given_before_refused page b cant e = by_place (cases_lt page (length b.given))
  where
    by_place : (page < length b.given) ⊎ (length b.given ≤ page) → is_given page b ≡ true
    by_place (inl h) = refused (nat_lt page (length b.given)) (is_given page b) cant (grind arith)
    by_place (inr h) = sym (get_or-eq_default (slice_set b.given page true) false (omega (arith, length-set b.given page true)) ∙ sym (get_or-eq_default b.given false h)) ∙ e

-- a page that can be given is given afterwards
is_first : (test other : Bool) → (test && other) ≡ true → test ≡ true
is_first true other e = refl
is_first false other e = cc

pub given_page_is_given : (page : ℕ) (b : BalloonIs) → can_be_given page b ≡ true → is_given page (page_given page b) ≡ true
given_page_is_given page b can =
    get_or-set_same b.given page true false (ltb-true page (length b.given) (is_first (nat_lt page (length b.given)) (not (is_given page b)) can))
