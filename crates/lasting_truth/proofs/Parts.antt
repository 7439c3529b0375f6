-- Each step of a truth's ledger keeps its rule.
use Rattle.std.proofs.Common.{◌≡◌, Bool, true, false, ◌&&◌, List, [], ◌∷◌, ◌++◌, drop, refl, sym, ap, ◌∙◌, subst, arith}
use Rattle.std.proofs.lemmas.List.Sums.{sum_by-cons}
use Rattle.ledger.specs.Shares.{AreOf, Become}
use Rattle.lasting_truth.specs.declared.part.Part.{Part}
use Rattle.lasting_truth.specs.declared.part.Part.TheVariants.{Keeper, Witness}
use Rattle.lasting_truth.specs.Rule.{told, keepers_in, keepers, AllAgree, IsKept}

-- of witnesses alone
weaker : (holds less : Bool) (parts : List Part) → keepers parts ≡ 0 → (less ≡ true → holds ≡ true) → AllAgree holds parts → AllAgree less parts
weaker holds less [] none only all = tt
weaker holds less (Keeper now ∷ parts) none only all = absurd (omega (arith, none, sum_by-cons keepers_in (Keeper now) parts))
weaker holds less (Witness held ∷ parts) none only all =
    ((λ e. all.0 (only e)), weaker holds less parts (omega (arith, none, sum_by-cons keepers_in (Witness held) parts)) only all.1)

first_of_both : (a b : Bool) → (a && b) ≡ true → a ≡ true
first_of_both true b e = refl
first_of_both false b e = e

narrows : (b still : Bool) → Become IsKept (Keeper b ∷ []) (Keeper (b && still) ∷ [])
narrows b still others kept = record {
  holds = b && still;
  one_keeper = omega (arith, kept.one_keeper, sum_by-cons keepers_in (Keeper b) others, sum_by-cons keepers_in (Keeper (b && still)) others);
  agree = (refl, weaker kept.holds (b && still) others (omega (arith, kept.one_keeper, sum_by-cons keepers_in (Keeper b) others)) (λ e. sym kept.agree.0 ∙ first_of_both b still e) kept.agree.1);
}

adds_witness : (b : Bool) → Become IsKept (Keeper b ∷ []) (Witness b ∷ Keeper b ∷ [])
adds_witness b others kept = record {
  holds = kept.holds;
  one_keeper = omega (arith, kept.one_keeper, sum_by-cons keepers_in (Witness b) (Keeper b ∷ others));
  agree = ((λ e. kept.agree.0 ∙ e), (kept.agree.0, kept.agree.1));
}

looks : (h b : Bool) → Become IsKept (Witness h ∷ Keeper b ∷ []) (Witness b ∷ Keeper b ∷ [])
looks h b others kept = record {
  holds = kept.holds;
  one_keeper = omega (arith, kept.one_keeper, sum_by-cons keepers_in (Witness h) (Keeper b ∷ others), sum_by-cons keepers_in (Witness b) (Keeper b ∷ others));
  agree = ((λ e. kept.agree.1.0 ∙ e), (kept.agree.1.0, kept.agree.1.1));
}

-- the keeper's share is narrowed
pub narrowed : (old : List Part) (still : Bool) → old ≡ Keeper (told old) ∷ [] → Become IsKept old (Keeper (told old && still) ∷ [])
narrowed old still is = subst (λ (l : List Part). Become IsKept l (Keeper (told old && still) ∷ [])) (sym is) (narrows (told old) still)

-- a witness comes to the keeper's share
pub witnessed : (old : List Part) → old ≡ Keeper (told old) ∷ [] → Become IsKept old (Witness (told old) ∷ old)
witnessed old is = subst (λ (l : List Part). Become IsKept l (Witness (told old) ∷ l)) (sym is) (adds_witness (told old))

-- a witness's parts before the keeper's
together : (w k : List Part) → w ≡ Witness (told w) ∷ [] → k ≡ Keeper (told k) ∷ [] → w ++ k ≡ Witness (told w) ∷ Keeper (told k) ∷ []
together w k is are = ap (λ (l : List Part). l ++ k) is ∙ ap (λ (l : List Part). Witness (told w) ∷ l) are

-- a witness and the keeper together
pub looked : (w k both : List Part) → w ≡ Witness (told w) ∷ [] → k ≡ Keeper (told k) ∷ [] → both ≡ w ++ k → Become IsKept both (Witness (told (drop 1 both)) ∷ drop 1 both)
looked w k both is are of_both =
    subst (λ (l : List Part). Become IsKept l (Witness (told (drop 1 l)) ∷ drop 1 l)) (sym (of_both ∙ together w k is are)) (looks (told w) (told k))

-- what a witness knew to hold, where it still holds
pub lasted : (w k : List Part) → w ≡ Witness (told w) ∷ [] → k ≡ Keeper (told k) ∷ [] → AreOf IsKept (w ++ k) → told k ≡ true → told w ≡ true
lasted w k is are known holds =
    let both : AreOf IsKept (Witness (told w) ∷ Keeper (told k) ∷ []) = subst (AreOf IsKept) (together w k is are) known in
    both.1.agree.0 (sym both.1.agree.1.0 ∙ holds)
