-- What a word encodes has the operands that its fields hold.
use Rattle.std.proofs.Common.{◌≡◌, ℕ, ◌^◌, ◌<◌, Bool, true, false, ◌&&◌, nat_lt, List, [], ◌∷◌, ◌++◌, refl, subst, arith, if◌then◌else◌}
use Rattle.std.specs.List.{flat_map}
use Rattle.std.proofs.lemmas.Bool.{ltb-true}
use Rattle.mips_isa.specs.Fields.{Fields, fields, immediate, index, trap_code, call_code, wait_code}
use Rattle.mips_isa.specs.Table.{Row, fits, reading, readings, readings_of, special_rows, regimm_rows, special2_rows, cop0_rows, opcode_rows, memory_rows, special_readings, regimm_readings, special2_readings, cop0_readings, opcode_readings, memory_readings}
use Rattle.mips_instr.specs.declared.instr.Instr.{Instr}
use Rattle.masm.specs.Laws.{HasFields}
use Rattle.masm.proofs.TakenApart.{both}

-- the fields are as wide as they are in a word
pub record AreFields (f : Fields) : Type 0 where
  pub rs : f.rs < 32
  pub rt : f.rt < 32
  pub rd : f.rd < 32
  pub sa : f.sa < 32
  pub fn : f.fn < 64

-- the fields of a word are so wide
fields_are : (w : ℕ) → AreFields (fields w)
fields_are w = record { rs = omega arith; rt = omega arith; rd = omega arith; sa = omega arith; fn = omega arith }

-- an immediate has 16 bits
immediate_fits : (f : Fields) → AreFields f → immediate f < 2 ^ 16
immediate_fits f is = omega (arith, is.rd, is.sa, is.fn)

-- the index of a jump has 26 bits
index_fits : (f : Fields) → AreFields f → index f < 2 ^ 26
index_fits f is = omega (arith, is.rs, is.rt, is.rd, is.sa, is.fn)

-- the code of a trap has 10 bits
trap_code_fits : (f : Fields) → AreFields f → trap_code f < 2 ^ 10
trap_code_fits f is = omega (arith, is.rd, is.sa)

-- the code of a call has 20 bits
call_code_fits : (f : Fields) → AreFields f → call_code f < 2 ^ 20
call_code_fits f is = omega (arith, is.rs, is.rt, is.rd, is.sa)

-- the code of a wait has 19 bits
wait_code_fits : (f : Fields) → AreFields f → wait_code f < 2 ^ 19
wait_code_fits f is = omega (arith, is.rs, is.rt, is.rd, is.sa)

-- the row of a move to or from a system register takes eight selects
select_fits : (others : Bool) (f : Fields) → (others && nat_lt f.fn 8) ≡ true → f.fn < 8
select_fits others f fit = ltb-true f.fn 8 (both others (nat_lt f.fn 8) fit).1

-- each instruction of a list has the operands that fields hold
abbrev AllHave : List Instr → Type 0
AllHave [] = Unit {0}
AllHave (i ∷ more) = HasFields i × AllHave more

-- a row means such an instruction where it fits
abbrev RowHas : Fields → Row → Type 0
RowHas f r = fits r f ≡ true → HasFields (r.means f)

-- each of the rows does
abbrev RowsHave : Fields → List Row → Type 0
RowsHave f [] = Unit {0}
RowsHave f (r ∷ rows) = RowHas f r × RowsHave f rows

-- two lists of such instructions are one
of_two : (is js : List Instr) → AllHave is → AllHave js → AllHave (is ++ js)
of_two [] js h k = k
of_two (i ∷ is) js h k = (h.0, of_two is js h.1 k)

-- what a row reads
of_row : (f : Fields) (r : Row) (b : Bool) → (b ≡ true → HasFields (r.means f)) → AllHave (if b then r.means f ∷ [] else [])
of_row f r true h = (h refl, tt)
of_row f r false h = tt

-- what rows read
of_rows : (f : Fields) (rows : List Row) → RowsHave f rows → AllHave (flat_map (reading f) rows)
of_rows f [] h = tt
of_rows f (r ∷ rows) h = of_two (reading f r) (flat_map (reading f) rows) (of_row f r (fits r f) h.0) (of_rows f rows h.1)

-- each row of opcode 00, in the order of the table
special_have : (f : Fields) → AreFields f → RowsHave f special_rows
special_have f is = ((λ _. (is.rd, is.rs, is.rt)), ((λ _. (is.rd, is.rs, is.rt)), ((λ _. (is.rd, is.rs, is.rt)), ((λ _. (is.rd, is.rs, is.rt)), ((λ _. (is.rd, is.rs, is.rt)), ((λ _. (is.rd, is.rs, is.rt)), ((λ _. (is.rd, is.rs, is.rt)), ((λ _. (is.rd, is.rs, is.rt)), ((λ _. (is.rd, is.rs, is.rt)), ((λ _. (is.rd, is.rs, is.rt)), ((λ _. (is.rd, is.rs, is.rt)), ((λ _. (is.rd, is.rs, is.rt)), ((λ _. (is.rd, is.rt, is.rs)), ((λ _. (is.rd, is.rt, is.rs)), ((λ _. (is.rd, is.rt, is.rs)), ((λ _. (is.rd, is.rt, is.sa)), ((λ _. (is.rd, is.rt, is.sa)), ((λ _. (is.rd, is.rt, is.sa)), ((λ _. is.rs), ((λ _. is.rs), ((λ _. is.rs), ((λ _. (is.rd, is.rs)), ((λ _. is.rd), ((λ _. is.rd), ((λ _. (is.rs, is.rt)), ((λ _. (is.rs, is.rt)), ((λ _. (is.rs, is.rt)), ((λ _. (is.rs, is.rt)), ((λ fit. (is.rs, is.rt, trap_code_fits f is)), ((λ fit. (is.rs, is.rt, trap_code_fits f is)), ((λ fit. (is.rs, is.rt, trap_code_fits f is)), ((λ fit. (is.rs, is.rt, trap_code_fits f is)), ((λ fit. (is.rs, is.rt, trap_code_fits f is)), ((λ fit. (is.rs, is.rt, trap_code_fits f is)), ((λ fit. call_code_fits f is), ((λ fit. call_code_fits f is), ((λ _. is.sa), tt)))))))))))))))))))))))))))))))))))))

-- each row of opcode 01
regimm_have : (f : Fields) → AreFields f → RowsHave f regimm_rows
regimm_have f is = ((λ fit. (is.rs, immediate_fits f is)), ((λ fit. (is.rs, immediate_fits f is)), ((λ fit. (is.rs, immediate_fits f is)), ((λ fit. (is.rs, immediate_fits f is)), ((λ fit. (is.rs, immediate_fits f is)), ((λ fit. (is.rs, immediate_fits f is)), ((λ fit. (is.rs, immediate_fits f is)), ((λ fit. (is.rs, immediate_fits f is)), ((λ fit. (is.rs, immediate_fits f is)), ((λ fit. (is.rs, immediate_fits f is)), ((λ fit. (is.rs, immediate_fits f is)), ((λ fit. (is.rs, immediate_fits f is)), ((λ fit. (is.rs, immediate_fits f is)), ((λ fit. (is.rs, immediate_fits f is)), tt))))))))))))))

-- each row of opcode 1C
special2_have : (f : Fields) → AreFields f → RowsHave f special2_rows
special2_have f is = ((λ _. (is.rs, is.rt)), ((λ _. (is.rs, is.rt)), ((λ _. (is.rs, is.rt)), ((λ _. (is.rs, is.rt)), ((λ _. (is.rd, is.rs, is.rt)), ((λ _. (is.rd, is.rs)), ((λ _. (is.rd, is.rs)), tt)))))))

-- each row of opcode 10
cop0_have : (f : Fields) → AreFields f → RowsHave f cop0_rows
cop0_have f is = ((λ fit. (is.rt, is.rd, select_fits _ f fit)), ((λ fit. (is.rt, is.rd, select_fits _ f fit)), ((λ _. tt), ((λ _. tt), ((λ _. tt), ((λ _. tt), ((λ _. tt), ((λ fit. wait_code_fits f is), tt))))))))

-- each row that its opcode tells apart
opcode_have : (f : Fields) → AreFields f → RowsHave f opcode_rows
opcode_have f is = ((λ fit. index_fits f is), ((λ fit. index_fits f is), ((λ fit. (is.rs, is.rt, immediate_fits f is)), ((λ fit. (is.rs, is.rt, immediate_fits f is)), ((λ fit. (is.rs, is.rt, immediate_fits f is)), ((λ fit. (is.rs, is.rt, immediate_fits f is)), ((λ fit. (is.rs, immediate_fits f is)), ((λ fit. (is.rs, immediate_fits f is)), ((λ fit. (is.rs, immediate_fits f is)), ((λ fit. (is.rs, immediate_fits f is)), ((λ fit. (is.rt, is.rs, immediate_fits f is)), ((λ fit. (is.rt, is.rs, immediate_fits f is)), ((λ fit. (is.rt, is.rs, immediate_fits f is)), ((λ fit. (is.rt, is.rs, immediate_fits f is)), ((λ fit. (is.rt, is.rs, immediate_fits f is)), ((λ fit. (is.rt, is.rs, immediate_fits f is)), ((λ fit. (is.rt, is.rs, immediate_fits f is)), ((λ fit. (is.rt, immediate_fits f is)), ((λ fit. index_fits f is), ((λ fit. index_fits f is), tt))))))))))))))))))))

-- each row from opcode 20 on
memory_have : (f : Fields) → AreFields f → RowsHave f memory_rows
memory_have f is = ((λ fit. (is.rt, is.rs, immediate_fits f is)), ((λ fit. (is.rt, is.rs, immediate_fits f is)), ((λ fit. (is.rt, is.rs, immediate_fits f is)), ((λ fit. (is.rt, is.rs, immediate_fits f is)), ((λ fit. (is.rt, is.rs, immediate_fits f is)), ((λ fit. (is.rt, is.rs, immediate_fits f is)), ((λ fit. (is.rt, is.rs, immediate_fits f is)), ((λ fit. (is.rt, is.rs, immediate_fits f is)), ((λ fit. (is.rt, is.rs, immediate_fits f is)), ((λ fit. (is.rt, is.rs, immediate_fits f is)), ((λ fit. (is.rt, is.rs, immediate_fits f is)), ((λ fit. (is.rt, is.rs, immediate_fits f is)), ((λ fit. (is.rt, is.rs, immediate_fits f is)), ((λ fit. (is.rt, is.rs, immediate_fits f is)), ((λ fit. (is.rt, is.rs, immediate_fits f is)), ((λ fit. (is.rt, is.rs, immediate_fits f is)), ((λ fit. index_fits f is), ((λ fit. index_fits f is), ((λ fit. index_fits f is), ((λ fit. index_fits f is), ((λ fit. index_fits f is), ((λ fit. index_fits f is), ((λ fit. index_fits f is), ((λ fit. index_fits f is), tt))))))))))))))))))))))))

-- all that fields are read as
all_have : (f : Fields) → AreFields f → AllHave (readings_of f)
unfolding readings_of special_readings regimm_readings special2_readings cop0_readings opcode_readings memory_readings
all_have f is =
    let special = of_rows f special_rows (special_have f is) in
    let regimm = of_rows f regimm_rows (regimm_have f is) in
    let special2 = of_rows f special2_rows (special2_have f is) in
    let cop0 = of_rows f cop0_rows (cop0_have f is) in
    let opcode = of_rows f opcode_rows (opcode_have f is) in
    let memory = of_rows f memory_rows (memory_have f is) in
    of_two _ _ (of_two _ _ (of_two _ _ (of_two _ _ (of_two _ _ special regimm) special2) cop0) opcode) memory

-- what a word decodes to has the operands that its fields hold
pub decoded_have : (w : ℕ) (i : Instr) → readings w ≡ i ∷ [] → HasFields i
decoded_have w i e = (subst AllHave e (all_have (fields w) (fields_are w))).0
