-- The balloon (Waldspurger, OSDI 2002, section 3.1): how many pages a guest is asked to give up, and which it gave.
use Rattle.std.specs.Prelude.{ℕ, Bool, true, false, not, ◌&&◌, nat_lt, List, length, replicate, count_by, slice_index_or, slice_set}

pub record BalloonIs : Type 0 where
  -- how many pages it is asked to hold
  pub target : ℕ
  -- of each page, by its number, whether it is given
  pub given : List Bool

-- of a memory of so many pages
abbrev pub fresh_balloon : ℕ → BalloonIs
fresh_balloon pages = record { target = 0; given = replicate pages false }

-- whether a page is given; a page that there isn't is not
abbrev pub is_given : ℕ → BalloonIs → Bool
is_given page b = slice_index_or b.given page false

-- how many pages are given
abbrev pub given_count : BalloonIs → ℕ
given_count b = count_by (λ given. given) b.given

-- whether there is such a page, and it is not given
abbrev pub can_be_given : ℕ → BalloonIs → Bool
can_be_given page b = nat_lt page (length b.given) && not (is_given page b)

-- with a page given; as it was where there is no such page
abbrev pub page_given : ℕ → BalloonIs → BalloonIs
page_given page b = record b { given = slice_set b.given page true }

-- with a page taken out of the given ones, which is also what an access to the page does; as it was where there is no
-- such page
abbrev pub page_taken : ℕ → BalloonIs → BalloonIs
page_taken page b = record b { given = slice_set b.given page false }

abbrev pub with_target : ℕ → BalloonIs → BalloonIs
with_target target b = record b { target = target }
