-- The parts of a word.
use Rattle.std.proofs.Common.{◌≡◌, ◌≢◌, ℕ, ◌<◌, List, [], ◌∷◌, Option, Some, None, Err, length, get_or, refl, ap, ◌∙◌, false, arith, ne_eqb, All, IfSome, Bor}
use Rattle.std.proofs.lemmas.List.Elements.{All-from_get_or}
use Rattle.std.proofs.lemmas.List.Splits.{slice_split_none, slice_split_at, length-slice_split}
use Rattle.std.proofs.lemmas.Str.Pattern.{IsSplitOnceResult, split_parts}
use Rattle.run_command.specs.declared.word.WordFault.TheVariants.{Parts}
use Rattle.run_command.specs.Words.{is_colon, parts_of, of_all_parts, guest_of}

no_colon : (bs : List ℕ) → ((i : ℕ) → i < length bs → get_or bs i 0 ≢ 58) → All (λ x. is_colon x ≡ false) bs
no_colon bs free = All-from_get_or (λ x. is_colon x ≡ false) bs 0 (λ i inside. ne_eqb (get_or bs i 0) 58 (free i inside))

pub cut_some : (bs : List ℕ) (r : Option (Bor (List ℕ) × Bor (List ℕ))) → IsSplitOnceResult 58 bs r → IfSome r (λ p. parts_of bs ≡ p.0.now ∷ parts_of p.1.now)
cut_some bs None is = search
cut_some bs (Some p) is =
    let cut = split_parts 58 bs (Some p) is (omega arith) in
    ap parts_of cut.0 ∙ slice_split_at is_colon p.0.now 58 p.1.now (no_colon p.0.now cut.1) refl

pub cut_none : (bs : List ℕ) (r : Option (Bor (List ℕ) × Bor (List ℕ))) → IsSplitOnceResult 58 bs r → r ≡ None → parts_of bs ≡ bs ∷ []
cut_none bs None is none = slice_split_none is_colon bs (no_colon bs (split_parts 58 bs None is (omega arith)))
cut_none bs (Some p) is none = absurd (cc)

too_many : (a b c d : List ℕ) (rest : List (List ℕ)) → 0 < length rest → of_all_parts (a ∷ b ∷ c ∷ d ∷ rest) ≡ Err Parts
too_many a b c d [] some = absurd (omega arith)
too_many a b c d (e ∷ rest) some = refl

-- a word of five parts or more
pub five_parts : (word r1 r2 r3 r4 a b c d : List ℕ) → parts_of word ≡ a ∷ parts_of r1 → parts_of r1 ≡ b ∷ parts_of r2 → parts_of r2 ≡ c ∷ parts_of r3 → parts_of r3 ≡ d ∷ parts_of r4
    → guest_of word ≡ Err Parts
five_parts word r1 r2 r3 r4 a b c d e1 e2 e3 e4 =
    ap of_all_parts (e1 ∙ ap (λ l. a ∷ l) (e2 ∙ ap (λ l. b ∷ l) (e3 ∙ ap (λ l. c ∷ l) e4))) ∙ too_many a b c d (parts_of r4) (omega (arith, length-slice_split is_colon r4))
