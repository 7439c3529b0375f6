-- Each step keeps the rule of the free frames.
use Rattle.std.proofs.Common.{◌≡◌, ℕ, zero, suc, ◌+◌, ◌-◌, ◌<◌, ◌≤◌, List, [], ◌∷◌, ◌++◌, length, set, refl, sym, ap, ◌∙◌, subst, arith, length-append}
use Rattle.std.specs.List.{sum_by}
use Rattle.std.proofs.lemmas.List.Sums.{sum_by-append, sum_by-cons}
use mathlib.Core.Option.{some, some-ne-none, some-injective}
use lib.ListN.{get_elem?}
use Rattle.crossbeam_queue.specs.Fifo.{Pushes, Pops, Forks, Merges, Learns}
use Rattle.frames.specs.Counts.{one_at, count_of}
use Rattle.frames.proofs.Counting.{count_append, count_one}
use Rattle.ledger.specs.Shares.{LedgerId}
use Rattle.shared_pool.specs.declared.hand.Hand.{Hand}
use Rattle.shared_pool.specs.Resting.{RestingIs}
use Rattle.shared_pool.specs.Balance.{hand, all_parts, no_ledger, first_hand, spent_hand, hand_put, hand_taken, with_other, AllAreOf, IsFair, AllFair, parts_of, put_of, taken_of, puts_of, takes_of, Balanced, Stands}

abbrev number_at : ℕ → RestingIs → ℕ
number_at k x = one_at k x.number

-- the sum after a change of one view
sum_set : (f : Hand → ℕ) (views : List Hand) (pass : ℕ) (v w : Hand) → get_elem? views pass ≡ some v → sum_by f (set views pass w) + f v ≡ sum_by f views + f w
sum_set f [] pass v w at = absurd (some-ne-none v (sym at))
sum_set f (u ∷ us) zero v w at = let same : f u ≡ f v = ap f (some-injective u v at) in omega (arith, sum_by-cons f u us, sum_by-cons f w us)
sum_set f (u ∷ us) (suc pass) v w at = omega (arith, sum_by-cons f u us, sum_by-cons f u (set us pass w), sum_set f us pass v w at)

sum_end : (f : Hand → ℕ) (views : List Hand) (v : Hand) → sum_by f (views ++ v ∷ []) ≡ sum_by f views + f v
sum_end f views v = omega (arith, sum_by-append f views (v ∷ []), sum_by-cons f v [])

fair_at : (whole : List ℕ) (of : LedgerId) (views : List Hand) (pass : ℕ) (v : Hand) → AllFair whole of views → get_elem? views pass ≡ some v → IsFair whole of v
fair_at whole of [] pass v fair at = absurd (some-ne-none v (sym at))
fair_at whole of (u ∷ us) zero v fair at = subst (IsFair whole of) (some-injective u v at) fair.0
fair_at whole of (u ∷ us) (suc pass) v fair at = fair_at whole of us pass v fair.1 at

fair_set : (whole : List ℕ) (of : LedgerId) (views : List Hand) (pass : ℕ) (w : Hand) → AllFair whole of views → IsFair whole of w → AllFair whole of (set views pass w)
fair_set whole of [] pass w fair mine = tt
fair_set whole of (u ∷ us) zero w fair mine = (mine, fair.1)
fair_set whole of (u ∷ us) (suc pass) w fair mine = (fair.0, fair_set whole of us pass w fair.1 mine)

fair_end : (whole : List ℕ) (of : LedgerId) (views : List Hand) (w : Hand) → AllFair whole of views → IsFair whole of w → AllFair whole of (views ++ w ∷ [])
fair_end whole of [] w fair mine = (mine, tt)
fair_end whole of (u ∷ us) w fair mine = (fair.0, fair_end whole of us w fair.1 mine)

-- a pass that has nothing
spent_is_fair : (whole : List ℕ) (of : LedgerId) → IsFair whole of spent_hand
spent_is_fair whole of = record { idle = λ _. (refl, refl); knows = λ some. absurd (omega (arith, some)) }

-- of passes with no part, none knows which frames there are
fair_else : (whole other : List ℕ) (of of' : LedgerId) (views : List Hand) → AllFair whole of views → sum_by parts_of views ≡ 0 → AllFair other of' views
fair_else whole other of of' [] fair none = tt
fair_else whole other of of' (u ∷ us) fair none =
    let n : u.parts ≡ 0 = omega (arith, none, sum_by-cons parts_of u us) in
    (record { idle = fair.0.idle; knows = λ some. absurd (omega (arith, n, some)) }, fair_else whole other of of' us fair.1 (omega (arith, none, sum_by-cons parts_of u us)))

part_of_sum : (views : List Hand) (pass : ℕ) (v : Hand) → get_elem? views pass ≡ some v → v.parts ≤ sum_by parts_of views
part_of_sum [] pass v at = absurd (some-ne-none v (sym at))
part_of_sum (u ∷ us) zero v at = omega (arith, ap parts_of (some-injective u v at), sum_by-cons parts_of u us)
part_of_sum (u ∷ us) (suc pass) v at = omega (arith, part_of_sum us pass v at, sum_by-cons parts_of u us)

-- where one pass has all parts, the others may know of any frames
fair_alone : (whole other : List ℕ) (of of' : LedgerId) (views : List Hand) (pass : ℕ) (v w : Hand) → AllFair whole of views → get_elem? views pass ≡ some v → sum_by parts_of views ≡ v.parts → IsFair other of' w
    → AllFair other of' (set views pass w)
fair_alone whole other of of' [] pass v w fair at all mine = tt
fair_alone whole other of of' (u ∷ us) zero v w fair at all mine =
    (mine, fair_else whole other of of' us fair.1 (omega (arith, all, sum_by-cons parts_of u us, ap parts_of (some-injective u v at))))
fair_alone whole other of of' (u ∷ us) (suc pass) v w fair at all mine =
    let n : u.parts ≡ 0 = omega (arith, all, part_of_sum us pass v at, sum_by-cons parts_of u us) in
    (record { idle = fair.0.idle; knows = λ some. absurd (omega (arith, n, some)) }, fair_alone whole other of of' us pass v w fair.1 at (omega (arith, all, n, sum_by-cons parts_of u us)) mine)

-- f is 0 of each pass that has no part
none_here : (whole : List ℕ) (of : LedgerId) (f : Hand → ℕ) (views : List Hand) → AllFair whole of views → ((v : Hand) → IsFair whole of v → v.parts ≡ 0 → f v ≡ 0) → sum_by parts_of views ≡ 0 → sum_by f views ≡ 0
none_here whole of f [] fair zero_of none = refl
none_here whole of f (u ∷ us) fair zero_of none =
    omega (arith, zero_of u fair.0 (omega (arith, none, sum_by-cons parts_of u us)), none_here whole of f us fair.1 zero_of (omega (arith, none, sum_by-cons parts_of u us)), sum_by-cons f u us)

-- where one pass has all parts, the others have put and taken nothing
rest_none : (whole : List ℕ) (of : LedgerId) (f : Hand → ℕ) (views : List Hand) (pass : ℕ) (v : Hand) → AllFair whole of views → ((u : Hand) → IsFair whole of u → u.parts ≡ 0 → f u ≡ 0) → get_elem? views pass ≡ some v
    → sum_by parts_of views ≡ v.parts → sum_by f views ≡ f v
rest_none whole of f views pass v fair zero_of at all =
    let vs = set views pass spent_hand in
    let spent = spent_is_fair whole of in
    let none = none_here whole of f vs (fair_set whole of views pass spent_hand fair spent) zero_of (omega (arith, all, sum_set parts_of views pass v spent_hand at)) in
    omega (arith, none, sum_set f views pass v spent_hand at, zero_of spent_hand spent refl)

put_none : (k : ℕ) (whole : List ℕ) (of : LedgerId) (v : Hand) → IsFair whole of v → v.parts ≡ 0 → put_of k v ≡ 0
put_none k whole of v fair none = ap (count_of k) (fair.idle none).0

taken_none : (k : ℕ) (whole : List ℕ) (of : LedgerId) (v : Hand) → IsFair whole of v → v.parts ≡ 0 → taken_of k v ≡ 0
taken_none k whole of v fair none = ap (count_of k) (fair.idle none).1

puts_none : (whole : List ℕ) (of : LedgerId) (v : Hand) → IsFair whole of v → v.parts ≡ 0 → puts_of v ≡ 0
puts_none whole of v fair none = ap length (fair.idle none).0

takes_none : (whole : List ℕ) (of : LedgerId) (v : Hand) → IsFair whole of v → v.parts ≡ 0 → takes_of v ≡ 0
takes_none whole of v fair none = ap length (fair.idle none).1

-- a pass with a part knows the same after it put or took
stays_fair : (whole : List ℕ) (of : LedgerId) (v w : Hand) → 0 < v.parts → IsFair whole of v → w.parts ≡ v.parts → w.whole ≡ v.whole → w.of ≡ v.of → IsFair whole of w
stays_fair whole of v w part fair parts is of_is =
    let mine = fair.knows part in
    record { idle = λ none. absurd (omega (arith, none, parts, part)); knows = λ _. (is ∙ mine.0, of_is ∙ mine.1) }

pub begins : Balanced [] (first_hand ∷ [])
begins = record {
  whole = [];
  of = no_ledger;
  one_ledger = tt;
  parts = refl;
  numbers = λ k. refl;
  count = refl;
  fair = (record { idle = λ none. (refl, refl); knows = λ some. (refl, refl) }, tt);
}

all_end : (of : LedgerId) (items : List RestingIs) (x : RestingIs) → AllAreOf of items → x.ledger ≡ of → AllAreOf of (items ++ x ∷ [])
all_end of [] x all mine = (mine, tt)
all_end of (y ∷ ys) x all mine = (all.0, all_end of ys x all.1 mine)

all_of_none : (of : LedgerId) (items : List RestingIs) → length items ≡ 0 → AllAreOf of items
all_of_none of [] none = tt
all_of_none of (y ∷ ys) none = absurd (omega (arith, none))

pub puts : (room pass : ℕ) (v : Hand) (x : RestingIs) → 0 < v.parts → x.ledger ≡ v.of → Pushes Balanced room pass v x (λ w. w ≡ hand_put v x.number)
puts room pass v x part known items views _ b at =
    let w = hand_put v x.number in
    let mine = fair_at b.whole b.of views pass v b.fair at in (
      w,
      record {
        whole = b.whole;
        of = b.of;
        one_ledger = all_end b.of items x b.one_ledger (known ∙ (mine.knows part).1);
        parts = omega (arith, b.parts, sum_set parts_of views pass v w at);
        numbers = λ k. omega (arith, b.numbers k, sum_set (put_of k) views pass v w at, sum_set (taken_of k) views pass v w at, sum_by-append (number_at k) items (x ∷ []), sum_by-cons (number_at k) x [], count_append k v.put (x.number ∷ []), count_one k x.number);
        count = omega (arith, b.count, sum_set puts_of views pass v w at, sum_set takes_of views pass v w at, length-append items (x ∷ []), length-append v.put (x.number ∷ []));
        fair = fair_set b.whole b.of views pass w b.fair (stays_fair b.whole b.of v w part mine refl refl refl);
      },
      refl,
    )

pub takes : (pass : ℕ) (v : Hand) → 0 < v.parts → Pops Balanced pass v (λ x w. (w ≡ hand_taken v x.number) × (x.ledger ≡ v.of))
takes pass v part x items views b at =
    let w = hand_taken v x.number in
    let mine = fair_at b.whole b.of views pass v b.fair at in (
      w,
      record {
        whole = b.whole;
        of = b.of;
        one_ledger = b.one_ledger.1;
        parts = omega (arith, b.parts, sum_set parts_of views pass v w at);
        numbers = λ k. omega (arith, b.numbers k, sum_set (put_of k) views pass v w at, sum_set (taken_of k) views pass v w at, sum_by-cons (number_at k) x items, count_append k v.taken (x.number ∷ []), count_one k x.number);
        count = omega (arith, b.count, sum_set puts_of views pass v w at, sum_set takes_of views pass v w at, length-append v.taken (x.number ∷ []));
        fair = fair_set b.whole b.of views pass w b.fair (stays_fair b.whole b.of v w part mine refl refl refl);
      },
      (refl, b.one_ledger.0 ∙ sym (mine.knows part).1),
    )

-- the first pass is told which frames there are, while none waits
pub founds : (pass : ℕ) (v : Hand) (numbers : List ℕ) (ledger : LedgerId) → v ≡ first_hand → Forks Balanced pass v (hand all_parts numbers [] numbers ledger) spent_hand
founds pass v numbers ledger first items views b at =
    let l = hand all_parts numbers [] numbers ledger in
    let mine = fair_at b.whole b.of views pass v b.fair at in
    let all : v.parts ≡ all_parts = ap parts_of first in
    let is : b.whole ≡ [] = sym (mine.knows (omega (arith, all))).0 ∙ ap (λ (u : Hand). u.whole) first in
    let vs = set views pass l in
    let sum = b.parts ∙ sym all in
    let none_taken : sum_by takes_of views ≡ 0 = rest_none b.whole b.of takes_of views pass v b.fair (takes_none b.whole b.of) at sum ∙ ap takes_of first in
    let none_put : sum_by puts_of views ≡ 0 = rest_none b.whole b.of puts_of views pass v b.fair (puts_none b.whole b.of) at sum ∙ ap puts_of first in
    let empty : length items ≡ 0 = omega (arith, b.count, none_taken, none_put, ap length is) in
    record {
      whole = numbers;
      of = ledger;
      one_ledger = all_of_none ledger items empty;
      parts = omega (arith, b.parts, all, sum_set parts_of views pass v l at, sum_end parts_of vs spent_hand);
      numbers = λ k. omega (arith, b.numbers k, ap (count_of k) is, ap (put_of k) first, ap (taken_of k) first, sum_set (put_of k) views pass v l at, sum_set (taken_of k) views pass v l at, sum_end (put_of k) vs spent_hand, sum_end (taken_of k) vs spent_hand);
      count = omega (arith, b.count, ap length is, ap puts_of first, ap takes_of first, sum_set puts_of views pass v l at, sum_set takes_of views pass v l at, sum_end puts_of vs spent_hand, sum_end takes_of vs spent_hand);
      fair = fair_end numbers ledger vs spent_hand
          (fair_alone b.whole numbers b.of ledger views pass v l b.fair at sum (record { idle = λ none. absurd (omega (arith, none)); knows = λ _. (refl, refl) }))
          (spent_is_fair numbers ledger);
    }

pub forks : (pass : ℕ) (v : Hand) → 1 < v.parts → Forks Balanced pass v (hand (v.parts - 1) v.whole v.put v.taken v.of) (hand 1 v.whole [] [] v.of)
forks pass v parts items views b at =
    let l = hand (v.parts - 1) v.whole v.put v.taken v.of in
    let r = hand 1 v.whole [] [] v.of in
    let mine = fair_at b.whole b.of views pass v b.fair at in
    let vs = set views pass l in
    record {
      whole = b.whole;
      of = b.of;
      one_ledger = b.one_ledger;
      parts = omega (arith, b.parts, parts, sum_set parts_of views pass v l at, sum_end parts_of vs r);
      numbers = λ k. omega (arith, b.numbers k, sum_set (put_of k) views pass v l at, sum_set (taken_of k) views pass v l at, sum_end (put_of k) vs r, sum_end (taken_of k) vs r);
      count = omega (arith, b.count, sum_set puts_of views pass v l at, sum_set takes_of views pass v l at, sum_end puts_of vs r, sum_end takes_of vs r);
      fair = fair_end b.whole b.of vs r (fair_set b.whole b.of views pass l b.fair (record { idle = λ none. absurd (omega (arith, none, parts)); knows = λ some. mine.knows (omega (arith, parts)) }))
          (record { idle = λ none. absurd (omega (arith, none)); knows = λ some. mine.knows (omega (arith, parts)) });
    }

pub merges : (pass : ℕ) (v : Hand) (other : ℕ) (u : Hand) → 0 < v.parts → Merges Balanced pass v other u (with_other v u) spent_hand
merges pass v other u part items views b at apart there =
    let both = with_other v u in
    let mine = fair_at b.whole b.of views pass v b.fair at in
    let vs = set views pass both in
    record {
      whole = b.whole;
      of = b.of;
      one_ledger = b.one_ledger;
      parts = omega (arith, b.parts, sum_set parts_of views pass v both at, sum_set parts_of vs other u spent_hand there);
      numbers = λ k. omega (arith, b.numbers k, sum_set (put_of k) views pass v both at, sum_set (taken_of k) views pass v both at, sum_set (put_of k) vs other u spent_hand there, sum_set (taken_of k) vs other u spent_hand there, count_append k v.put u.put, count_append k v.taken u.taken);
      count = omega (arith, b.count, sum_set puts_of views pass v both at, sum_set takes_of views pass v both at, sum_set puts_of vs other u spent_hand there, sum_set takes_of vs other u spent_hand there, length-append v.put u.put, length-append v.taken u.taken);
      fair = fair_set b.whole b.of vs other spent_hand (fair_set b.whole b.of views pass both b.fair (record { idle = λ none. absurd (omega (arith, none, part)); knows = λ some. mine.knows part })) (spent_is_fair b.whole b.of);
    }

pub stands : (pass : ℕ) (v : Hand) → 0 < v.parts → Learns Balanced pass v (Stands v)
stands pass v part items views b at =
    let mine = fair_at b.whole b.of views pass v b.fair at in
    let is : v.whole ≡ b.whole = (mine.knows part).0 in
    let vs = set views pass spent_hand in
    record {
      taken = λ k. sum_by (taken_of k) vs;
      put = λ k. sum_by (put_of k) vs;
      taken_count = sum_by takes_of vs;
      put_count = sum_by puts_of vs;
      numbers = λ k. omega (arith, b.numbers k, ap (count_of k) is, sum_set (put_of k) views pass v spent_hand at, sum_set (taken_of k) views pass v spent_hand at);
      count = omega (arith, b.count, ap length is, sum_set puts_of views pass v spent_hand at, sum_set takes_of views pass v spent_hand at);
      alone = λ all.
          let sum = b.parts ∙ sym all in (
            (λ k. (
              omega (arith, sum_set (taken_of k) views pass v spent_hand at, rest_none b.whole b.of (taken_of k) views pass v b.fair (taken_none k b.whole b.of) at sum),
              omega (arith, sum_set (put_of k) views pass v spent_hand at, rest_none b.whole b.of (put_of k) views pass v b.fair (put_none k b.whole b.of) at sum),
            )),
            omega (arith, sum_set takes_of views pass v spent_hand at, rest_none b.whole b.of takes_of views pass v b.fair (takes_none b.whole b.of) at sum),
            omega (arith, sum_set puts_of views pass v spent_hand at, rest_none b.whole b.of puts_of views pass v b.fair (puts_none b.whole b.of) at sum),
          );
    }
