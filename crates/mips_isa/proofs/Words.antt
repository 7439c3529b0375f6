-- The word of an instruction from its operands: the fields of each word that encodes the instruction make up this one.
use Rattle.std.proofs.Common.{ℕ, ◌≡◌, ◌+◌, ◌-◌, ◌*◌, ◌^◌, ◌==◌, ◌&&◌, Bool, true, false, if◌then◌else◌, List, [], ◌∷◌, ◌++◌, refl, ◌∙◌, sym, ap, subst, arith}
use Rattle.std.specs.List.{flat_map}
use Rattle.std.proofs.lemmas.Bool.{false≢true}
use Rattle.mips_instr.specs.Coprocessor.{coprocessor_opcode}
use Rattle.mips_instr.specs.declared.instr.Instr.{Instr}
use Rattle.mips_instr.specs.declared.instr.Instr.TheVariants as instr
use Rattle.mips_instr.specs.declared.instr.ThreeRegisterOp.{ThreeRegisterOp}
use Rattle.mips_instr.specs.declared.instr.ThreeRegisterOp.TheVariants.{Add, Addu, Sub, Subu, And, Or, Xor, Nor, Slt, Sltu, Mul}
use Rattle.mips_instr.specs.declared.instr.ConditionalMoveOp.{ConditionalMoveOp}
use Rattle.mips_instr.specs.declared.instr.ConditionalMoveOp.TheVariants.{Movz, Movn}
use Rattle.mips_instr.specs.declared.instr.ShiftOp.{ShiftOp}
use Rattle.mips_instr.specs.declared.instr.ShiftOp.TheVariants.{Sll, Srl, Sra}
use Rattle.mips_instr.specs.declared.instr.ShiftVariableOp.{ShiftVariableOp}
use Rattle.mips_instr.specs.declared.instr.ShiftVariableOp.TheVariants.{Sllv, Srlv, Srav}
use Rattle.mips_instr.specs.declared.instr.MoveFromOp.{MoveFromOp}
use Rattle.mips_instr.specs.declared.instr.MoveFromOp.TheVariants.{Mfhi, Mflo}
use Rattle.mips_instr.specs.declared.instr.MoveToOp.{MoveToOp}
use Rattle.mips_instr.specs.declared.instr.MoveToOp.TheVariants.{Mthi, Mtlo}
use Rattle.mips_instr.specs.declared.instr.MultiplyOp.{MultiplyOp}
use Rattle.mips_instr.specs.declared.instr.MultiplyOp.TheVariants.{Mult, Multu, Madd, Maddu, Msub, Msubu}
use Rattle.mips_instr.specs.declared.instr.DivideOp.{DivideOp}
use Rattle.mips_instr.specs.declared.instr.DivideOp.TheVariants.{Div, Divu}
use Rattle.mips_instr.specs.declared.instr.CountOp.{CountOp}
use Rattle.mips_instr.specs.declared.instr.CountOp.TheVariants.{Clz, Clo}
use Rattle.mips_instr.specs.declared.instr.TrapOp.{TrapOp}
use Rattle.mips_instr.specs.declared.instr.TrapOp.TheVariants.{Tge, Tgeu, Tlt, Tltu, Teq, Tne}
use Rattle.mips_instr.specs.declared.instr.TrapImmediateOp.{TrapImmediateOp}
use Rattle.mips_instr.specs.declared.instr.TrapImmediateOp.TheVariants.{Tgei, Tgeiu, Tlti, Tltiu, Teqi, Tnei}
use Rattle.mips_instr.specs.declared.instr.BranchOp.{BranchOp}
use Rattle.mips_instr.specs.declared.instr.BranchOp.TheVariants.{Beq, Bne, Beql, Bnel}
use Rattle.mips_instr.specs.declared.instr.BranchZeroOp.{BranchZeroOp}
use Rattle.mips_instr.specs.declared.instr.BranchZeroOp.TheVariants.{Bltz, Bgez, Bltzl, Bgezl, Bltzal, Bgezal, Bltzall, Bgezall, Blez, Bgtz, Blezl, Bgtzl}
use Rattle.mips_instr.specs.declared.instr.JumpOp.{JumpOp}
use Rattle.mips_instr.specs.declared.instr.JumpOp.TheVariants.{J, Jal}
use Rattle.mips_instr.specs.declared.instr.ImmediateOp.{ImmediateOp}
use Rattle.mips_instr.specs.declared.instr.ImmediateOp.TheVariants.{Addi, Addiu, Slti, Sltiu, Andi, Ori, Xori}
use Rattle.mips_instr.specs.declared.instr.LoadOp.{LoadOp}
use Rattle.mips_instr.specs.declared.instr.LoadOp.TheVariants.{Lb, Lh, Lwl, Lw, Lbu, Lhu, Lwr, Ll}
use Rattle.mips_instr.specs.declared.instr.StoreOp.{StoreOp}
use Rattle.mips_instr.specs.declared.instr.StoreOp.TheVariants.{Sb, Sh, Swl, Sw, Swr, Sc}
use Rattle.mips_instr.specs.declared.instr.CacheOp.{CacheOp}
use Rattle.mips_instr.specs.declared.instr.CacheOp.TheVariants.{Cache, Pref}
use Rattle.mips_instr.specs.declared.instr.Cp0MoveOp.{Cp0MoveOp}
use Rattle.mips_instr.specs.declared.instr.Cp0MoveOp.TheVariants.{Mfc0, Mtc0}
use Rattle.mips_instr.specs.declared.instr.TlbOp.{TlbOp}
use Rattle.mips_instr.specs.declared.instr.TlbOp.TheVariants.{Tlbr, Tlbwi, Tlbwr, Tlbp}
use Rattle.mips_isa.specs.Fields.{Fields, fields}
use Rattle.mips_isa.specs.Table.{Field, Free, Is, Below, From, AsRd, meets, Row, fits, reading, readings, readings_of, special_rows, regimm_rows, special2_rows, cop0_rows, opcode_rows, memory_rows, special_readings, regimm_readings, special2_readings, cop0_readings, opcode_readings, memory_readings}

-- what the opcode and the fields that tell instructions of one shape apart add to the word

abbrev register_part : ThreeRegisterOp → ℕ
register_part Add = 0x20
register_part Addu = 0x21
register_part Sub = 0x22
register_part Subu = 0x23
register_part And = 0x24
register_part Or = 0x25
register_part Xor = 0x26
register_part Nor = 0x27
register_part Slt = 0x2a
register_part Sltu = 0x2b
register_part Mul = 0x70000002

abbrev conditional_move_part : ConditionalMoveOp → ℕ
conditional_move_part Movz = 0x0a
conditional_move_part Movn = 0x0b

abbrev shift_part : ShiftOp → ℕ
shift_part Sll = 0x00
shift_part Srl = 0x02
shift_part Sra = 0x03

abbrev shift_variable_part : ShiftVariableOp → ℕ
shift_variable_part Sllv = 0x04
shift_variable_part Srlv = 0x06
shift_variable_part Srav = 0x07

abbrev move_from_part : MoveFromOp → ℕ
move_from_part Mfhi = 0x10
move_from_part Mflo = 0x12

abbrev move_to_part : MoveToOp → ℕ
move_to_part Mthi = 0x11
move_to_part Mtlo = 0x13

abbrev multiply_part : MultiplyOp → ℕ
multiply_part Mult = 0x18
multiply_part Multu = 0x19
multiply_part Madd = 0x70000000
multiply_part Maddu = 0x70000001
multiply_part Msub = 0x70000004
multiply_part Msubu = 0x70000005

abbrev divide_part : DivideOp → ℕ
divide_part Div = 0x1a
divide_part Divu = 0x1b

abbrev count_part : CountOp → ℕ
count_part Clz = 0x70000020
count_part Clo = 0x70000021

abbrev trap_part : TrapOp → ℕ
trap_part Tge = 0x30
trap_part Tgeu = 0x31
trap_part Tlt = 0x32
trap_part Tltu = 0x33
trap_part Teq = 0x34
trap_part Tne = 0x36

abbrev trap_immediate_part : TrapImmediateOp → ℕ
trap_immediate_part Tgei = 0x04080000
trap_immediate_part Tgeiu = 0x04090000
trap_immediate_part Tlti = 0x040a0000
trap_immediate_part Tltiu = 0x040b0000
trap_immediate_part Teqi = 0x040c0000
trap_immediate_part Tnei = 0x040e0000

abbrev branch_part : BranchOp → ℕ
branch_part Beq = 0x10000000
branch_part Bne = 0x14000000
branch_part Beql = 0x50000000
branch_part Bnel = 0x54000000

abbrev branch_zero_part : BranchZeroOp → ℕ
branch_zero_part Bltz = 0x04000000
branch_zero_part Bgez = 0x04010000
branch_zero_part Bltzl = 0x04020000
branch_zero_part Bgezl = 0x04030000
branch_zero_part Bltzal = 0x04100000
branch_zero_part Bgezal = 0x04110000
branch_zero_part Bltzall = 0x04120000
branch_zero_part Bgezall = 0x04130000
branch_zero_part Blez = 0x18000000
branch_zero_part Bgtz = 0x1c000000
branch_zero_part Blezl = 0x58000000
branch_zero_part Bgtzl = 0x5c000000

abbrev jump_part : JumpOp → ℕ
jump_part J = 0x08000000
jump_part Jal = 0x0c000000

abbrev immediate_part : ImmediateOp → ℕ
immediate_part Addi = 0x20000000
immediate_part Addiu = 0x24000000
immediate_part Slti = 0x28000000
immediate_part Sltiu = 0x2c000000
immediate_part Andi = 0x30000000
immediate_part Ori = 0x34000000
immediate_part Xori = 0x38000000

abbrev load_part : LoadOp → ℕ
load_part Lb = 0x80000000
load_part Lh = 0x84000000
load_part Lwl = 0x88000000
load_part Lw = 0x8c000000
load_part Lbu = 0x90000000
load_part Lhu = 0x94000000
load_part Lwr = 0x98000000
load_part Ll = 0xc0000000

abbrev store_part : StoreOp → ℕ
store_part Sb = 0xa0000000
store_part Sh = 0xa4000000
store_part Swl = 0xa8000000
store_part Sw = 0xac000000
store_part Swr = 0xb8000000
store_part Sc = 0xe0000000

abbrev cache_part : CacheOp → ℕ
cache_part Cache = 0xbc000000
cache_part Pref = 0xcc000000

abbrev cp0_move_part : Cp0MoveOp → ℕ
cp0_move_part Mfc0 = 0x40000000
cp0_move_part Mtc0 = 0x40800000

abbrev tlb_part : TlbOp → ℕ
tlb_part Tlbr = 0x42000001
tlb_part Tlbwi = 0x42000002
tlb_part Tlbwr = 0x42000006
tlb_part Tlbp = 0x42000008

-- the word of an instruction
abbrev word_of : Instr → ℕ
word_of (instr.ThreeRegister op rd rs rt) = register_part op + rs * 2 ^ 21 + rt * 2 ^ 16 + rd * 2 ^ 11
word_of (instr.ConditionalMove op rd rs rt) = conditional_move_part op + rs * 2 ^ 21 + rt * 2 ^ 16 + rd * 2 ^ 11
word_of (instr.Shift op rd rt sa) = shift_part op + rt * 2 ^ 16 + rd * 2 ^ 11 + sa * 2 ^ 6
word_of (instr.ShiftVariable op rd rt rs) = shift_variable_part op + rs * 2 ^ 21 + rt * 2 ^ 16 + rd * 2 ^ 11
word_of (instr.MoveFrom op rd) = move_from_part op + rd * 2 ^ 11
word_of (instr.MoveTo op rs) = move_to_part op + rs * 2 ^ 21
word_of (instr.Multiply op rs rt) = multiply_part op + rs * 2 ^ 21 + rt * 2 ^ 16
word_of (instr.Divide op rs rt) = divide_part op + rs * 2 ^ 21 + rt * 2 ^ 16
word_of (instr.Count op rd rs) = count_part op + rs * 2 ^ 21 + rd * 2 ^ 16 + rd * 2 ^ 11
word_of (instr.Trap op rs rt code) = trap_part op + rs * 2 ^ 21 + rt * 2 ^ 16 + code * 2 ^ 6
word_of (instr.TrapImmediate op rs imm) = trap_immediate_part op + rs * 2 ^ 21 + imm
word_of (instr.Syscall code) = 0x0c + code * 2 ^ 6
word_of (instr.Break code) = 0x0d + code * 2 ^ 6
word_of (instr.Sync stype) = 0x0f + stype * 2 ^ 6
word_of (instr.Branch op rs rt offset) = branch_part op + rs * 2 ^ 21 + rt * 2 ^ 16 + offset
word_of (instr.BranchZero op rs offset) = branch_zero_part op + rs * 2 ^ 21 + offset
word_of (instr.Jump op target) = jump_part op + target
word_of (instr.JumpRegister rs) = 0x08 + rs * 2 ^ 21
word_of (instr.JumpLinkRegister rd rs) = 0x09 + rs * 2 ^ 21 + rd * 2 ^ 11
word_of (instr.Immediate op rt rs imm) = immediate_part op + rs * 2 ^ 21 + rt * 2 ^ 16 + imm
word_of (instr.LoadUpper rt imm) = 0x3c000000 + rt * 2 ^ 16 + imm
word_of (instr.Load op rt base offset) = load_part op + base * 2 ^ 21 + rt * 2 ^ 16 + offset
word_of (instr.Store op rt base offset) = store_part op + base * 2 ^ 21 + rt * 2 ^ 16 + offset
word_of (instr.Cache op hint base offset) = cache_part op + base * 2 ^ 21 + hint * 2 ^ 16 + offset
word_of (instr.Cp0Move op rt rd select) = cp0_move_part op + rt * 2 ^ 16 + rd * 2 ^ 11 + select
word_of (instr.Tlb op) = tlb_part op
word_of instr.Eret = 0x42000018
word_of (instr.Wait code) = 0x42000020 + code * 2 ^ 6
word_of (instr.Coprocessor op code) = coprocessor_opcode op * 2 ^ 26 + code

-- the word that fields make up
abbrev joined : Fields → ℕ
joined f = f.op * 2 ^ 26 + f.rs * 2 ^ 21 + f.rt * 2 ^ 16 + f.rd * 2 ^ 11 + f.sa * 2 ^ 6 + f.fn

-- the fields of a word make it up
word_joined : (w : ℕ) → joined (fields w) ≡ w
word_joined w = omega arith

-- a field by what a row says of it
abbrev said : Fields → Field → ℕ → ℕ
said f Free n = n
said f (Is k) n = k
said f (Below k) n = n
said f (From k) n = n - k + k
said f AsRd n = f.rd

-- the fields by what a row says of them
abbrev restored : Row → Fields → Fields
restored r f = record { op = r.op; rs = said f r.rs f.rs; rt = said f r.rt f.rt; rd = said f r.rd f.rd; sa = said f r.sa f.sa; fn = said f r.fn f.fn }

-- where the row fits, these are the fields
said_is : (f : Fields) (p : Field) (n : ℕ) → meets f n p ≡ true → said f p n ≡ n
said_is f Free n h = refl
said_is f (Is k) n h = grind (arith, h)
said_is f (Below k) n h = refl
said_is f (From k) n h = grind (arith, h)
said_is f AsRd n h = grind (arith, h)

both : (a b : Bool) → (a && b) ≡ true → (a ≡ true) × (b ≡ true)
both true b h = (refl, h)
both false b h = absurd (false≢true h)

restored_is : (r : Row) (f : Fields) → fits r f ≡ true → restored r f ≡ f
restored_is r f h =
    let op = f.op == r.op in
    let rs = meets f f.rs r.rs in
    let rt = meets f f.rt r.rt in
    let rd = meets f f.rd r.rd in
    let sa = meets f f.sa r.sa in
    let to_fn = both (op && rs && rt && rd && sa) (meets f f.fn r.fn) h in
    let to_sa = both (op && rs && rt && rd) sa to_fn.0 in
    let to_rd = both (op && rs && rt) rd to_sa.0 in
    let to_rt = both (op && rs) rt to_rd.0 in
    let to_rs = both op rs to_rt.0 in
    let same : r.op ≡ f.op = grind (arith, to_rs.0) in
    rw (same, said_is f r.rs f.rs to_rs.1, said_is f r.rt f.rt to_rt.1, said_is f r.rd f.rd to_rd.1, said_is f r.sa f.sa to_sa.1, said_is f r.fn f.fn to_fn.1) refl

-- the word of what a row means is that of the fields by what the row says of them
abbrev IsSameWord : Fields → Row → Type 0
IsSameWord f r = word_of (r.means f) ≡ joined (restored r f)

abbrev AreSameWords : Fields → List Row → Type 0
AreSameWords f [] = Unit {0}
AreSameWords f (r ∷ rs) = IsSameWord f r × AreSameWords f rs

-- each instruction has the word that these fields make up
abbrev AllHaveWord : Fields → List Instr → Type 0
AllHaveWord f [] = Unit {0}
AllHaveWord f (i ∷ is) = (word_of i ≡ joined f) × AllHaveWord f is

of_two : (f : Fields) (is js : List Instr) → AllHaveWord f is → AllHaveWord f js → AllHaveWord f (is ++ js)
of_two f [] js h k = k
of_two f (i ∷ is) js h k = (h.0, of_two f is js h.1 k)

of_row : (f : Fields) (i : Instr) (b : Bool) → (b ≡ true → word_of i ≡ joined f) → AllHaveWord f (if b then i ∷ [] else [])
of_row f i true h = (h refl, tt)
of_row f i false h = tt

of_rows : (f : Fields) (rs : List Row) → AreSameWords f rs → AllHaveWord f (flat_map (reading f) rs)
of_rows f [] h = tt
of_rows f (r ∷ rs) h = of_two f (reading f r) (flat_map (reading f) rs) (of_row f (r.means f) (fits r f) (λ fit. h.0 ∙ ap joined (restored_is r f fit))) (of_rows f rs h.1)

special : (f : Fields) → AreSameWords f special_rows
special f = (omega arith, (omega arith, (omega arith, (omega arith, (omega arith, (omega arith, (omega arith, (omega arith, (omega arith, (omega arith, (omega arith, (omega arith, (omega arith, (omega arith, (omega arith, (omega arith, (omega arith, (omega arith, (omega arith, (omega arith, (omega arith, (omega arith, (omega arith, (omega arith, (omega arith, (omega arith, (omega arith, (omega arith, (omega arith, (omega arith, (omega arith, (omega arith, (omega arith, (omega arith, (omega arith, (omega arith, (omega arith, tt)))))))))))))))))))))))))))))))))))))

regimm : (f : Fields) → AreSameWords f regimm_rows
regimm f = (omega arith, (omega arith, (omega arith, (omega arith, (omega arith, (omega arith, (omega arith, (omega arith, (omega arith, (omega arith, (omega arith, (omega arith, (omega arith, (omega arith, tt))))))))))))))

special2 : (f : Fields) → AreSameWords f special2_rows
special2 f = (omega arith, (omega arith, (omega arith, (omega arith, (omega arith, (omega arith, (omega arith, tt)))))))

cop0 : (f : Fields) → AreSameWords f cop0_rows
cop0 f = (omega arith, (omega arith, (omega arith, (omega arith, (omega arith, (omega arith, (omega arith, (omega arith, tt))))))))

opcode : (f : Fields) → AreSameWords f opcode_rows
opcode f = (omega arith, (omega arith, (omega arith, (omega arith, (omega arith, (omega arith, (omega arith, (omega arith, (omega arith, (omega arith, (omega arith, (omega arith, (omega arith, (omega arith, (omega arith, (omega arith, (omega arith, (omega arith, (omega arith, (omega arith, tt))))))))))))))))))))

memory : (f : Fields) → AreSameWords f memory_rows
memory f = (omega arith, (omega arith, (omega arith, (omega arith, (omega arith, (omega arith, (omega arith, (omega arith, (omega arith, (omega arith, (omega arith, (omega arith, (omega arith, (omega arith, (omega arith, (omega arith, (omega arith, (omega arith, (omega arith, (omega arith, (omega arith, (omega arith, (omega arith, (omega arith, tt))))))))))))))))))))))))

-- all readings of fields have the word that the fields make up
of_fields : (f : Fields) → AllHaveWord f (readings_of f)
unfolding readings_of special_readings regimm_readings special2_readings cop0_readings opcode_readings memory_readings
of_fields f =
    let to_regimm = of_two f _ _ (of_rows f special_rows (special f)) (of_rows f regimm_rows (regimm f)) in
    let to_special2 = of_two f _ _ to_regimm (of_rows f special2_rows (special2 f)) in
    let to_cop0 = of_two f _ _ to_special2 (of_rows f cop0_rows (cop0 f)) in
    let to_opcode = of_two f _ _ to_cop0 (of_rows f opcode_rows (opcode f)) in
    of_two f _ _ to_opcode (of_rows f memory_rows (memory f))

-- a word that encodes an instruction is the instruction's
pub word_is : (w : ℕ) (i : Instr) → readings w ≡ i ∷ [] → word_of i ≡ w
word_is w i e = (subst (AllHaveWord (fields w)) e (of_fields (fields w))).0 ∙ word_joined w

-- no two words encode one instruction
pub one_word : (a b : ℕ) (i : Instr) → readings a ≡ i ∷ [] → readings b ≡ i ∷ [] → a ≡ b
one_word a b i e g = sym (word_is a i e) ∙ word_is b i g
