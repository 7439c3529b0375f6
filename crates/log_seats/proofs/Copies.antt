-- Copies of one item.
use Rattle.std.proofs.Common.{◌≡◌, ◌≢◌, ℕ, zero, suc, true, List, [], ◌∷◌, replicate, refl, ap, subst}
use Rattle.std.proofs.lemmas.Bool.{eq-eqb, ne_eqb, false≢true}
use Rattle.items.specs.declared.item.Item.{Item}
use Rattle.items.specs.declared.item.What.{What}
use Rattle.items.specs.declared.item.What.TheVariants as what
use Rattle.items.specs.Items.{own, is_step}
use Rattle.items.specs.Entries.{steps_of}

-- copies of an item are all of the item's seat
pub own_copies : (item : Item) (times : ℕ) → own item.seat (replicate times item) ≡ replicate times item
own_copies item zero = refl
own_copies item (suc times) =
    let rest = own_copies item times in
    rw (eq-eqb item.seat item.seat refl) (ap (λ (l : List Item). item ∷ l) rest)

pub own_copies_of : (item : Item) (seat times : ℕ) → item.seat ≡ seat → own seat (replicate times item) ≡ replicate times item
own_copies_of item seat times is = subst (λ (k : ℕ). own k (replicate times item) ≡ replicate times item) is (own_copies item times)

-- and of no other
pub own_copies_other : (item : Item) (other times : ℕ) → item.seat ≢ other → own other (replicate times item) ≡ []
own_copies_other item other zero apart = refl
own_copies_other item other (suc times) apart =
    let rest = own_copies_other item other times apart in rw (ne_eqb item.seat other apart) rest

-- what is a step has nothing else to it
step_is : (w : What) → is_step w ≡ true → w ≡ what.Step
step_is what.Step h = refl
step_is (what.In byte) h = absurd (false≢true h)
step_is what.Drain h = absurd (false≢true h)
step_is (what.Target pages) h = absurd (false≢true h)
step_is (what.Poke register value) h = absurd (false≢true h)
step_is (what.Write address bytes) h = absurd (false≢true h)

-- copies of a step are a run of steps
pub copies_of_step : (item : Item) (times : ℕ) → is_step item.what ≡ true → replicate times item ≡ steps_of item.seat times
unfolding steps_of
copies_of_step item times h =
    let e = step_is item.what h in ap (λ (w : What). replicate times (record { seat = item.seat; what = w })) e
