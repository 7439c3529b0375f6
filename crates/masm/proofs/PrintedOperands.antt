-- Operands as they are printed, and as the grammar reads them.
use Rattle.std.proofs.Common.{◌≡◌, ℕ, ◌-◌, ◌<◌, ℤ, true, not, List, [], ◌∷◌, ◌++◌, length, refl, sym, ◌∙◌, arith, append_assoc, subst, Some, codes, decimal}
use Rattle.std.specs.List.{list_all, list_any}
use Rattle.std.specs.Fmt.{digits}
use Rattle.std.proofs.Math.Seq.{take-append_seam, get_or-append_seam}
use Rattle.std.proofs.lemmas.List.{length-append}
use Rattle.std.proofs.lemmas.List.Folds.{list_any-append}
use Rattle.std.proofs.lemmas.Bool.{ltb-true}
use Rattle.masm_lines.specs.Characters.{is_open}
use Rattle.masm_lines.specs.Tokens.{register_of}
use Rattle.masm_lines.specs.Operands.{Register, Plain, Number, Based, written_of, based_of}
use Rattle.masm.proofs.TakenApart.{is_solid, IsOperand, all_of_two, none_pass, before_it, behind_it}
use Rattle.masm.proofs.PrintedNumbers.{AllBelow, below, IsNumber}

-- a number is read as an operand
plain : (text : List ℕ) (z : ℤ) → IsNumber text z → written_of text ≡ Some (Plain (Number z))
unfolding written_of
plain text z is = rw (is.no_name, is.no_register, none_pass is_open text is.closed, is.reads) refl

-- a number is an operand
pub number_operand : (text : List ℕ) (z : ℤ) → IsNumber text z → IsOperand text (Plain (Number z))
number_operand text z is = record {
  some = is.some;
  solid = is.solid;
  reads = plain text z is;
}

-- a register is printed as an operand that is read as the register
pub record PrintsRegister (r : ℕ) : Type 0 where
  pub operand : IsOperand (codes "$" ++ decimal r) (Register r)
  pub ends : list_all (λ c. not (is_open c)) (decimal r) ≡ true
  pub solid : list_all is_solid (decimal r) ≡ true
  pub reads : register_of (codes "$" ++ decimal r) ≡ Some r

-- so is each register
registers : AllBelow PrintsRegister 32
unfolding written_of register_of digits
registers =
    let is0 : PrintsRegister 0 = record { operand = record { some = ltb-true 0 2 refl; solid = refl; reads = refl }; ends = refl; solid = refl; reads = refl } in
    let is1 : PrintsRegister 1 = record { operand = record { some = ltb-true 0 2 refl; solid = refl; reads = refl }; ends = refl; solid = refl; reads = refl } in
    let is2 : PrintsRegister 2 = record { operand = record { some = ltb-true 0 2 refl; solid = refl; reads = refl }; ends = refl; solid = refl; reads = refl } in
    let is3 : PrintsRegister 3 = record { operand = record { some = ltb-true 0 2 refl; solid = refl; reads = refl }; ends = refl; solid = refl; reads = refl } in
    let is4 : PrintsRegister 4 = record { operand = record { some = ltb-true 0 2 refl; solid = refl; reads = refl }; ends = refl; solid = refl; reads = refl } in
    let is5 : PrintsRegister 5 = record { operand = record { some = ltb-true 0 2 refl; solid = refl; reads = refl }; ends = refl; solid = refl; reads = refl } in
    let is6 : PrintsRegister 6 = record { operand = record { some = ltb-true 0 2 refl; solid = refl; reads = refl }; ends = refl; solid = refl; reads = refl } in
    let is7 : PrintsRegister 7 = record { operand = record { some = ltb-true 0 2 refl; solid = refl; reads = refl }; ends = refl; solid = refl; reads = refl } in
    let is8 : PrintsRegister 8 = record { operand = record { some = ltb-true 0 2 refl; solid = refl; reads = refl }; ends = refl; solid = refl; reads = refl } in
    let is9 : PrintsRegister 9 = record { operand = record { some = ltb-true 0 2 refl; solid = refl; reads = refl }; ends = refl; solid = refl; reads = refl } in
    let is10 : PrintsRegister 10 = record { operand = record { some = ltb-true 0 3 refl; solid = refl; reads = refl }; ends = refl; solid = refl; reads = refl } in
    let is11 : PrintsRegister 11 = record { operand = record { some = ltb-true 0 3 refl; solid = refl; reads = refl }; ends = refl; solid = refl; reads = refl } in
    let is12 : PrintsRegister 12 = record { operand = record { some = ltb-true 0 3 refl; solid = refl; reads = refl }; ends = refl; solid = refl; reads = refl } in
    let is13 : PrintsRegister 13 = record { operand = record { some = ltb-true 0 3 refl; solid = refl; reads = refl }; ends = refl; solid = refl; reads = refl } in
    let is14 : PrintsRegister 14 = record { operand = record { some = ltb-true 0 3 refl; solid = refl; reads = refl }; ends = refl; solid = refl; reads = refl } in
    let is15 : PrintsRegister 15 = record { operand = record { some = ltb-true 0 3 refl; solid = refl; reads = refl }; ends = refl; solid = refl; reads = refl } in
    let is16 : PrintsRegister 16 = record { operand = record { some = ltb-true 0 3 refl; solid = refl; reads = refl }; ends = refl; solid = refl; reads = refl } in
    let is17 : PrintsRegister 17 = record { operand = record { some = ltb-true 0 3 refl; solid = refl; reads = refl }; ends = refl; solid = refl; reads = refl } in
    let is18 : PrintsRegister 18 = record { operand = record { some = ltb-true 0 3 refl; solid = refl; reads = refl }; ends = refl; solid = refl; reads = refl } in
    let is19 : PrintsRegister 19 = record { operand = record { some = ltb-true 0 3 refl; solid = refl; reads = refl }; ends = refl; solid = refl; reads = refl } in
    let is20 : PrintsRegister 20 = record { operand = record { some = ltb-true 0 3 refl; solid = refl; reads = refl }; ends = refl; solid = refl; reads = refl } in
    let is21 : PrintsRegister 21 = record { operand = record { some = ltb-true 0 3 refl; solid = refl; reads = refl }; ends = refl; solid = refl; reads = refl } in
    let is22 : PrintsRegister 22 = record { operand = record { some = ltb-true 0 3 refl; solid = refl; reads = refl }; ends = refl; solid = refl; reads = refl } in
    let is23 : PrintsRegister 23 = record { operand = record { some = ltb-true 0 3 refl; solid = refl; reads = refl }; ends = refl; solid = refl; reads = refl } in
    let is24 : PrintsRegister 24 = record { operand = record { some = ltb-true 0 3 refl; solid = refl; reads = refl }; ends = refl; solid = refl; reads = refl } in
    let is25 : PrintsRegister 25 = record { operand = record { some = ltb-true 0 3 refl; solid = refl; reads = refl }; ends = refl; solid = refl; reads = refl } in
    let is26 : PrintsRegister 26 = record { operand = record { some = ltb-true 0 3 refl; solid = refl; reads = refl }; ends = refl; solid = refl; reads = refl } in
    let is27 : PrintsRegister 27 = record { operand = record { some = ltb-true 0 3 refl; solid = refl; reads = refl }; ends = refl; solid = refl; reads = refl } in
    let is28 : PrintsRegister 28 = record { operand = record { some = ltb-true 0 3 refl; solid = refl; reads = refl }; ends = refl; solid = refl; reads = refl } in
    let is29 : PrintsRegister 29 = record { operand = record { some = ltb-true 0 3 refl; solid = refl; reads = refl }; ends = refl; solid = refl; reads = refl } in
    let is30 : PrintsRegister 30 = record { operand = record { some = ltb-true 0 3 refl; solid = refl; reads = refl }; ends = refl; solid = refl; reads = refl } in
    let is31 : PrintsRegister 31 = record { operand = record { some = ltb-true 0 3 refl; solid = refl; reads = refl }; ends = refl; solid = refl; reads = refl } in
    ((((((((((((((((((((((((((((((((tt, is0), is1), is2), is3), is4), is5), is6), is7), is8), is9), is10), is11), is12), is13), is14), is15), is16), is17), is18), is19), is20), is21), is22), is23), is24), is25), is26), is27), is28), is29), is30), is31)

-- a printed register is an operand
pub register_operand : (r : ℕ) → r < 32 → IsOperand (codes "$" ++ decimal r) (Register r)
register_operand r h = (below PrintsRegister 32 registers r h).operand

-- an offset with its base
based : (text : List ℕ) (z : ℤ) (r : ℕ) → IsNumber text z → PrintsRegister r → written_of (text ++ 40 ∷ ((36 ∷ decimal r) ++ 41 ∷ [])) ≡ Some (Based z r)
unfolding written_of based_of
based text z r is base =
    let opens : list_any is_open (text ++ 40 ∷ ((36 ∷ decimal r) ++ 41 ∷ [])) ≡ true = list_any-append is_open text (40 ∷ ((36 ∷ decimal r) ++ 41 ∷ [])) ∙ rw (none_pass is_open text is.closed) refl in
    let size : length ((36 ∷ decimal r) ++ 41 ∷ []) - 1 ≡ length (36 ∷ decimal r) = omega (arith, length-append (36 ∷ decimal r) (41 ∷ [])) in
    rw (is.no_name_before (40 ∷ ((36 ∷ decimal r) ++ 41 ∷ [])), is.no_register_before (40 ∷ ((36 ∷ decimal r) ++ 41 ∷ [])), opens, behind_it is_open text 40 ((36 ∷ decimal r) ++ 41 ∷ []) is.closed refl, before_it is_open text 40 ((36 ∷ decimal r) ++ 41 ∷ []) is.closed refl, size, get_or-append_seam (36 ∷ decimal r) 41 [] 0, take-append_seam (36 ∷ decimal r) (41 ∷ []), is.reads, base.reads) refl

-- an offset with its base is an operand
behind_number : (text : List ℕ) (z : ℤ) (r : ℕ) → IsNumber text z → r < 32 → IsOperand (text ++ 40 ∷ ((36 ∷ decimal r) ++ 41 ∷ [])) (Based z r)
behind_number text z r is h =
    let base = below PrintsRegister 32 registers r h in
    record {
      some = omega (arith, is.some, length-append text (40 ∷ ((36 ∷ decimal r) ++ 41 ∷ [])));
      solid = all_of_two is_solid text (40 ∷ ((36 ∷ decimal r) ++ 41 ∷ [])) is.solid (all_of_two is_solid (36 ∷ decimal r) (41 ∷ []) base.solid refl);
      reads = based text z r is base;
    }

-- the same in the words of the printer
pub based_operand : (text : List ℕ) (z : ℤ) (r : ℕ) → IsNumber text z → r < 32 → IsOperand (text ++ codes "($" ++ decimal r ++ codes ")") (Based z r)
based_operand text z r is h =
    let same : ((text ++ codes "($") ++ decimal r) ++ codes ")" ≡ text ++ 40 ∷ ((36 ∷ decimal r) ++ 41 ∷ []) = append_assoc (text ++ codes "($") (decimal r) (codes ")") ∙ append_assoc text (codes "($") (decimal r ++ codes ")") in
    subst (λ (t : List ℕ). IsOperand t (Based z r)) (sym same) (behind_number text z r is h)
