-- Words that are reached first, and the lines that tell them.
use Rattle.std.proofs.Common.{ℕ, ◌≡◌, ◌+◌, ◌<◌, Bool, true, false, List, [], ◌∷◌, ◌++◌, length, get_or, take, refl, sym, ap, ◌∙◌, if◌then◌else◌}
use Rattle.std.proofs.lemmas.List.{take_more}
use Rattle.runs.specs.Coverage.{CoverageIs, is_more, with_word}
use Rattle.fuzz_command.specs.Firsts.{FirstsAre, first_text, with_first, with_firsts}

chosen_true : {X : Type 0} (b : Bool) (x y : X) → b ≡ true → (if b then x else y) ≡ x
chosen_true true x y is = refl
chosen_true false x y is = absurd (cc)

chosen_false : {X : Type 0} (b : Bool) (x y : X) → b ≡ false → (if b then x else y) ≡ y
chosen_false true x y is = absurd (cc)
chosen_false false x y is = refl

pub first_added : (name : List ℕ) (word : ℕ) (f : FirstsAre) → is_more word f.coverage ≡ true
    → with_first name word f ≡ record { coverage = with_word word f.coverage; text = f.text ++ first_text name word }
first_added name word f is = chosen_true (is_more word f.coverage) (record { coverage = with_word word f.coverage; text = f.text ++ first_text name word }) f is

-- a word that is reached already changes nothing
pub none_reached : (word : ℕ) (c : CoverageIs) → is_more word c ≡ false → with_word word c ≡ c
none_reached word c is = chosen_false (is_more word c) (record c { reached = c.reached ++ word ∷ [] }) c is

pub none_added : (name : List ℕ) (word : ℕ) (f : FirstsAre) → is_more word f.coverage ≡ false → with_first name word f ≡ f
none_added name word f is = chosen_false (is_more word f.coverage) (record { coverage = with_word word f.coverage; text = f.text ++ first_text name word }) f is

-- words up to one, and it
firsts_more : (name : List ℕ) (xs : List ℕ) (word : ℕ) (f : FirstsAre) → with_firsts name (xs ++ word ∷ []) f ≡ with_first name word (with_firsts name xs f)
firsts_more name [] word f = refl
firsts_more name (x ∷ xs) word f = firsts_more name xs word (with_first name x f)

pub first_more : (name words : List ℕ) (index : ℕ) (f before after : FirstsAre) → index < length words → before ≡ with_firsts name (take index words) f
    → after ≡ with_first name (get_or words index 0) before → after ≡ with_firsts name (take (index + 1) words) f
first_more name words index f before after below so now =
    now ∙ ap (with_first name (get_or words index 0)) so ∙ sym (firsts_more name (take index words) (get_or words index 0) f)
    ∙ ap (λ (l : List ℕ). with_firsts name l f) (sym (take_more words index 0 below))
