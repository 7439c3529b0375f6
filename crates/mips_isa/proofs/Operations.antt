-- A word of an opcode below 0x20 encodes no instruction that touches memory.
use Rattle.std.proofs.Common.{ℕ, ◌≡◌, ◌<◌, ◌&&◌, ◌^◌, Bool, true, false, not, List, [], ◌∷◌, ◌++◌, Option, Some, None, IfSome, if◌then◌else◌, refl, subst, arith}
use Rattle.std.specs.List.{list_all, flat_map}
use Rattle.std.specs.Prelude.{option_to_list}
use Rattle.std.proofs.lemmas.Bool.{false≢true}
use Rattle.std.proofs.lemmas.List.Folds.{list_all-append}
use Rattle.mips_instr.specs.declared.instr.Instr.{Instr}
use Rattle.mips_isa.specs.Fields.{Fields, fields}
use Rattle.mips_isa.specs.Memory.{touches_memory}
use Rattle.mips_isa.specs.Table.{Row, fits, reading, readings, readings_of, special_rows, regimm_rows, special2_rows, cop0_rows, opcode_rows, special_readings, regimm_readings, special2_readings, cop0_readings, opcode_readings}
use Rattle.mips_isa.proofs.Groups.{memory_none}

abbrev is_operation : Instr → Bool
is_operation i = not (touches_memory i)

abbrev all_operations : List Instr → Bool
all_operations = list_all is_operation

-- a row of such instructions reads no other
one_row : (b : Bool) (i : Instr) → is_operation i ≡ true → all_operations (if b then i ∷ [] else []) ≡ true
one_row true i e = rw e refl
one_row false i e = refl

both : (xs ys : List Instr) → all_operations xs ≡ true → all_operations ys ≡ true → all_operations (xs ++ ys) ≡ true
both xs ys a b = rw (list_all-append, a, b) refl

and_left : (a b : Bool) → (a && b) ≡ true → a ≡ true
and_left true b e = refl
and_left false b e = absurd (false≢true e)

and_right : (a b : Bool) → (a && b) ≡ true → b ≡ true
and_right true b e = e
and_right false b e = absurd (false≢true e)

rows : (f : Fields) (rs : List Row) → list_all (λ r. is_operation (r.means f)) rs ≡ true → all_operations (flat_map (reading f) rs) ≡ true
rows f [] e = refl
rows f (r ∷ rs) e =
    both (reading f r) (flat_map (reading f) rs)
    (one_row (fits r f) (r.means f) (and_left (is_operation (r.means f)) (list_all (λ q. is_operation (q.means f)) rs) e))
    (rows f rs (and_right (is_operation (r.means f)) (list_all (λ q. is_operation (q.means f)) rs) e))

special : (f : Fields) → all_operations (special_readings f) ≡ true
unfolding special_readings
special f = rows f special_rows refl

regimm : (f : Fields) → all_operations (regimm_readings f) ≡ true
unfolding regimm_readings
regimm f = rows f regimm_rows refl

special2 : (f : Fields) → all_operations (special2_readings f) ≡ true
unfolding special2_readings
special2 f = rows f special2_rows refl

cop0 : (f : Fields) → all_operations (cop0_readings f) ≡ true
unfolding cop0_readings
cop0 f = rows f cop0_rows refl

opcode : (f : Fields) → all_operations (opcode_readings f) ≡ true
unfolding opcode_readings
opcode f = rows f opcode_rows refl

joined : (a b c d e : List Instr) → all_operations a ≡ true → all_operations b ≡ true → all_operations c ≡ true → all_operations d ≡ true → all_operations e ≡ true → all_operations (a ++ b ++ c ++ d ++ e ++ []) ≡ true
joined a b c d e ha hb hc hd he = both (a ++ b ++ c ++ d ++ e) [] (both (a ++ b ++ c ++ d) e (both (a ++ b ++ c) d (both (a ++ b) c (both a b ha hb) hc) hd) he) refl

of_fields : (f : Fields) → f.op < 32 → all_operations (readings_of f) ≡ true
unfolding readings_of
of_fields f h = rw (memory_none f h) (joined (special_readings f) (regimm_readings f) (special2_readings f) (cop0_readings f) (opcode_readings f) (special f) (regimm f) (special2 f) (cop0 f) (opcode f))

operation : (b : Bool) → (not b && true) ≡ true → b ≡ false
operation false e = refl
operation true e = absurd (false≢true e)

one : (o : Option Instr) → all_operations (option_to_list o) ≡ true → IfSome o (λ i. touches_memory i ≡ false)
one None e = tt
one (Some i) e = operation (touches_memory i) e

pub reads_operation : (w : ℕ) (o : Option Instr) → w < 2 ^ 31 → readings w ≡ option_to_list o → IfSome o (λ i. touches_memory i ≡ false)
reads_operation w o h e = one o (subst (λ (xs : List Instr). all_operations xs ≡ true) e (of_fields (fields w) (omega arith)))
