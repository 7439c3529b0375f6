-- Which group of rows can fit a word, by its opcode.
use Rattle.std.proofs.Common.{◌≡◌, ◌==◌, ◌<◌, ◌≤◌, ℕ, false, [], arith}
use Rattle.std.proofs.lemmas.List.{append-nil}
use Rattle.mips_isa.specs.Fields.{Fields}
use Rattle.mips_isa.specs.Table.{readings_of, special_readings, regimm_readings, special2_readings, cop0_readings, opcode_readings, memory_readings}

pub special_at : (rs rt rd sa fn : ℕ) → readings_of (record { op = 0; rs = rs; rt = rt; rd = rd; sa = sa; fn = fn }) ≡ special_readings (record { op = 0; rs = rs; rt = rt; rd = rd; sa = sa; fn = fn })
unfolding readings_of regimm_readings special2_readings cop0_readings opcode_readings memory_readings
special_at rs rt rd sa fn = simp append-nil

special_none : (f : Fields) → (f.op == 0) ≡ false → special_readings f ≡ []
unfolding special_readings
special_none f e = simp e

pub regimm_at : (rs rt rd sa fn : ℕ) → readings_of (record { op = 1; rs = rs; rt = rt; rd = rd; sa = sa; fn = fn }) ≡ regimm_readings (record { op = 1; rs = rs; rt = rt; rd = rd; sa = sa; fn = fn })
unfolding readings_of special_readings special2_readings cop0_readings opcode_readings memory_readings
regimm_at rs rt rd sa fn = simp append-nil

regimm_none : (f : Fields) → (f.op == 1) ≡ false → regimm_readings f ≡ []
unfolding regimm_readings
regimm_none f e = simp e

pub special2_at : (rs rt rd sa fn : ℕ) → readings_of (record { op = 28; rs = rs; rt = rt; rd = rd; sa = sa; fn = fn }) ≡ special2_readings (record { op = 28; rs = rs; rt = rt; rd = rd; sa = sa; fn = fn })
unfolding readings_of special_readings regimm_readings cop0_readings opcode_readings memory_readings
special2_at rs rt rd sa fn = simp append-nil

special2_none : (f : Fields) → (f.op == 28) ≡ false → special2_readings f ≡ []
unfolding special2_readings
special2_none f e = simp e

pub cop0_at : (rs rt rd sa fn : ℕ) → readings_of (record { op = 16; rs = rs; rt = rt; rd = rd; sa = sa; fn = fn }) ≡ cop0_readings (record { op = 16; rs = rs; rt = rt; rd = rd; sa = sa; fn = fn })
unfolding readings_of special_readings regimm_readings special2_readings opcode_readings memory_readings
cop0_at rs rt rd sa fn = simp append-nil

cop0_none : (f : Fields) → (f.op == 16) ≡ false → cop0_readings f ≡ []
unfolding cop0_readings
cop0_none f e = simp e

differs : (n k : ℕ) → n < k → (n == k) ≡ false
differs n k h = grind arith

differs_from : (n k : ℕ) → k < n → (n == k) ≡ false
differs_from n k h = grind arith

pub memory_none : (f : Fields) → f.op < 32 → memory_readings f ≡ []
unfolding memory_readings
memory_none f h = simp (differs f.op 32 (omega arith), differs f.op 33 (omega arith), differs f.op 34 (omega arith), differs f.op 35 (omega arith), differs f.op 36 (omega arith), differs f.op 37 (omega arith), differs f.op 38 (omega arith), differs f.op 48 (omega arith), differs f.op 40 (omega arith), differs f.op 41 (omega arith), differs f.op 42 (omega arith), differs f.op 43 (omega arith), differs f.op 46 (omega arith), differs f.op 56 (omega arith), differs f.op 47 (omega arith), differs f.op 51 (omega arith), differs f.op 49 (omega arith), differs f.op 50 (omega arith), differs f.op 53 (omega arith), differs f.op 54 (omega arith), differs f.op 57 (omega arith), differs f.op 58 (omega arith), differs f.op 61 (omega arith), differs f.op 62 (omega arith))

opcode_none : (f : Fields) → 32 ≤ f.op → opcode_readings f ≡ []
unfolding opcode_readings
opcode_none f h = simp (differs_from f.op 2 (omega arith), differs_from f.op 3 (omega arith), differs_from f.op 4 (omega arith), differs_from f.op 5 (omega arith), differs_from f.op 20 (omega arith), differs_from f.op 21 (omega arith), differs_from f.op 6 (omega arith), differs_from f.op 7 (omega arith), differs_from f.op 22 (omega arith), differs_from f.op 23 (omega arith), differs_from f.op 8 (omega arith), differs_from f.op 9 (omega arith), differs_from f.op 10 (omega arith), differs_from f.op 11 (omega arith), differs_from f.op 12 (omega arith), differs_from f.op 13 (omega arith), differs_from f.op 14 (omega arith), differs_from f.op 15 (omega arith), differs_from f.op 17 (omega arith), differs_from f.op 18 (omega arith))

pub opcode_at : (f : Fields) → (f.op == 0) ≡ false → (f.op == 1) ≡ false → (f.op == 0x10) ≡ false → (f.op == 0x1c) ≡ false → f.op < 32 → readings_of f ≡ opcode_readings f
unfolding readings_of
opcode_at f a b c d h = simp (special_none f a, regimm_none f b, cop0_none f c, special2_none f d, memory_none f h, append-nil)

pub memory_at : (f : Fields) → 32 ≤ f.op → readings_of f ≡ memory_readings f
unfolding readings_of
memory_at f h = simp (special_none f (differs_from f.op 0 (omega arith)), regimm_none f (differs_from f.op 1 (omega arith)), cop0_none f (differs_from f.op 16 (omega arith)), special2_none f (differs_from f.op 28 (omega arith)), opcode_none f h)
