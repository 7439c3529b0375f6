-- What all shares of a truth say together.
use Rattle.std.specs.Prelude.{◌≡◌, ℕ, ◌+◌, Bool, true, false, List, [], ◌∷◌, ◌++◌, refl}
use Rattle.std.specs.List.{sum_by}
use Rattle.std.proofs.Common.{sym, ap, ◌∙◌}
use Rattle.std.proofs.Math.Nat.{add_left_comm}
use Rattle.std.proofs.lemmas.List.Sums.{sum_by-append}
use Rattle.lasting_truth.specs.declared.part.Part.{Part}
use Rattle.lasting_truth.specs.declared.part.Part.TheVariants.{Keeper, Witness}

-- what a share of one part says
abbrev pub told : List Part → Bool
told [] = false
told (Keeper holds ∷ _) = holds
told (Witness held ∷ _) = held

abbrev pub keepers_in : Part → ℕ
keepers_in (Keeper _) = 1
keepers_in (Witness _) = 0

-- how many keepers there are
abbrev pub keepers : List Part → ℕ
keepers parts = sum_by keepers_in parts

-- the keeper says whether it holds; a witness knew it to hold if it does
abbrev pub Agrees : Bool → Part → Type 0
Agrees holds (Keeper now) = now ≡ holds
Agrees holds (Witness held) = holds ≡ true → held ≡ true

abbrev pub AllAgree : Bool → List Part → Type 0
AllAgree holds [] = Unit {0}
AllAgree holds (part ∷ parts) = Agrees holds part × AllAgree holds parts

-- there is one keeper, and what it says to hold every witness knew to hold
pub record IsKept (parts : List Part) : Type 0 where
  pub holds : Bool
  pub one_keeper : keepers parts ≡ 1
  pub agree : AllAgree holds parts

-- it holds, and nobody has looked yet
abbrev pub first_parts : List Part
first_parts = Keeper true ∷ []

pub first_is_kept : IsKept first_parts
first_is_kept = record { holds = true; one_keeper = refl; agree = (refl, tt) }

pub agree_of_both : (holds : Bool) (xs ys : List Part) → AllAgree holds (xs ++ ys) → AllAgree holds xs × AllAgree holds ys
agree_of_both holds [] ys all = (tt, all)
agree_of_both holds (x ∷ xs) ys all = let both = agree_of_both holds xs ys all.1 in ((all.0, both.0), both.1)

pub agree_together : (holds : Bool) (xs ys : List Part) → AllAgree holds xs → AllAgree holds ys → AllAgree holds (xs ++ ys)
agree_together holds [] ys one other = other
agree_together holds (x ∷ xs) ys one other = (one.0, agree_together holds xs ys one.1 other)

keepers_in_any_order : (xs ys zs : List Part) → keepers (ys ++ (xs ++ zs)) ≡ keepers (xs ++ (ys ++ zs))
keepers_in_any_order xs ys zs =
    sum_by-append keepers_in ys (xs ++ zs) ∙ ap (λ (n : ℕ). keepers ys + n) (sum_by-append keepers_in xs zs) ∙ add_left_comm (keepers ys) (keepers xs) (keepers zs)
    ∙ ap (λ (n : ℕ). keepers xs + n) (sym (sum_by-append keepers_in ys zs)) ∙ sym (sum_by-append keepers_in xs (ys ++ zs))

pub kept_in_any_order : (xs ys zs : List Part) → IsKept (xs ++ (ys ++ zs)) → IsKept (ys ++ (xs ++ zs))
kept_in_any_order xs ys zs kept =
    let one = agree_of_both kept.holds xs (ys ++ zs) kept.agree in
    let others = agree_of_both kept.holds ys zs one.1 in
    record {
      holds = kept.holds;
      one_keeper = keepers_in_any_order xs ys zs ∙ kept.one_keeper;
      agree = agree_together kept.holds ys (xs ++ zs) others.0 (agree_together kept.holds xs zs one.0 others.1);
    }
