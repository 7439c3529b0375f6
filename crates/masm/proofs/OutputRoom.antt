-- The first pass finds room for what the second puts.
use Rattle.std.proofs.Common.{◌≡◌, ℕ, ◌+◌, ◌%◌, ◌≤◌, ◌<◌, ◌^◌, List, [], ◌∷◌, length, refl, ◌∙◌, sym, ap, arith, Bool, true, false, Result, Ok, Err, Option, Some, None, subst, ◌&&◌, ◌||◌, not, nat_lt, ltb, ◌==◌, if◌then◌else◌, MatchOption}
use Rattle.std.specs.List.{list_any}
use Rattle.std.proofs.lemmas.List.{length-replicate}
use Rattle.std.proofs.lemmas.List.Sums.{sum_by_push}
use Rattle.std.proofs.lemmas.Bool.Decides.{nat_tests}
use Rattle.word32.specs.Zeros.{zeros}
use Rattle.mips_instr.specs.declared.instr.Instr.{Instr}
use Rattle.masm.specs.Answers.{IsOutput, HasRoom, HasRoomFor, HasRoomForLine}
use Rattle.masm.specs.Assembly.{Reading, first_step, first_reading, placed, after_line, second_step}
use Rattle.masm_lines.specs.Grammar.{Line, line_of}
use Rattle.masm.specs.Listings.{Output, first_output, with_statement, with_item, part_size, part_at, parts_of, next_place}
use Rattle.masm.specs.Meanings.{Content, Code, Bytes, item_size, item_of, aimed, loaded, words_bytes}
use Rattle.masm.proofs.WordLists.{words_size}
use Rattle.masm.specs.Names.{Names, known_address, value_address, is_double}
use Rattle.masm.specs.Places.{Layout, next_address, after_statement, is_misplaced, has_misplaced, is_outside, overlaps, is_one_too_many}
use Rattle.masm_lines.specs.Statements.{alignment_of, size_of}
use Rattle.masm_lines.specs.Statements.{Statement, Instruction, Transfer, Load, Word, AddressOf, Words, Byte, Data, Space, Org, Entry}
use Rattle.masm_lines.specs.Steps.{◌>>=◌}
use Rattle.masm_lines.specs.declared.fault.AsmFault.{AsmFault}
use Rattle.masm_lines.specs.declared.fault.AsmFault.TheVariants as fault
use Rattle.std.specs.Int.{to_le_bytes, w32}
use Rattle.masm.specs.declared.output.Output.{Output as OutputCode}
use Rattle.masm.proofs.OutputItems.{bytes_size}

-- the layout of the first pass is that of the second, and what has content lies in range
pub record InStep (layout : Layout) (output : Output) : Type 0 where
  pub address : output.current.address ≡ layout.current.start
  pub size : part_size output.current ≡ layout.current.size
  pub placed : 0 < layout.current.size → (0x80000000 ≤ layout.current.start) × (layout.current.start + layout.current.size ≤ 0xa0000000)

pub first_in_step : InStep first_reading.layout first_output
first_in_step = record { address = refl; size = refl; placed = λ h. absurd (omega (arith, h)) }

-- a statement that isn't misplaced has room
in_range : (a b c d e : Bool) → (a && (b || (c || (d || e)))) ≡ false → a ≡ true → c ≡ false
in_range true false false d e h t = refl
in_range true false true d e h t = cc
in_range true true c d e h t = absurd (cc)
in_range false b c d e h t = absurd (cc)

both_false : (a b : Bool) → (a || b) ≡ false → (a ≡ false) × (b ≡ false)
both_false false b h = (refl, h)
both_false true b h = absurd (cc)

is_less : (m n : ℕ) → m < n → ltb m n ≡ true
is_less m n h = grind (arith, nat_tests)

not_less : (m n : ℕ) → ltb m n ≡ false → n ≤ m
not_less m n h = grind (arith, nat_tests)

pub has_place : (layout : Layout) (s : Statement) → is_misplaced layout s ≡ false → 0 < size_of s → (0x80000000 ≤ next_address layout) × (next_address layout + size_of s ≤ 0xa0000000)
unfolding is_misplaced
has_place layout s h n =
    let inside : is_outside (next_address layout) (size_of s) ≡ false = in_range (nat_lt 0 (size_of s)) (not (next_address layout % alignment_of s == 0)) (is_outside (next_address layout) (size_of s)) (list_any (overlaps (next_address layout) (size_of s)) layout.earlier) (is_one_too_many layout) h (is_less 0 (size_of s) n) in
    let sides = both_false (nat_lt (next_address layout) 0x80000000) (nat_lt 0xa0000000 (next_address layout + size_of s)) inside in
    (not_less (next_address layout) 0x80000000 sides.0, not_less 0xa0000000 (next_address layout + size_of s) sides.1)

-- an item has the size that the first pass has counted
pub bound : {A B E : Type 0} (r : Result A E) (k : A → Result B E) (b : B) → (r >>= k) ≡ Ok b → (a : A) × (r ≡ Ok a) × (k a ≡ Ok b)
bound (Ok a) k b h = (a, refl, h)
bound (Err e) k b h = absurd (cc)

sized : (i item : Content) → ◌≡◌ {A = Result Content AsmFault} (Ok i) (Ok item) → item_size item ≡ item_size i
sized i item h = let same : i ≡ item = cc in sym (ap item_size same)

item_sized : (known : Names) (address : ℕ) (s : Statement) (item : Content) → item_of known address s ≡ Ok item → item_size item ≡ size_of s
unfolding item_of zeros
item_sized known address (Instruction i) item h = sized (Code i) item h
item_sized known address (Transfer i v) item h =
    let target = bound (value_address known v) (λ (target : ℕ). aimed i address target >>= λ whole. Ok (Code whole)) item h in
    let whole = bound (aimed i address target.0) (λ (whole : Instr). Ok (Code whole)) item target.2 in
    sized (Code whole.0) item whole.2
item_sized known address (Load rt v) item h =
    let n = bound (value_address known v) (λ (n : ℕ). Ok (loaded rt n)) item h in
    sized (loaded rt n.0) item n.2
item_sized known address (Word n) item h = sized (Bytes (to_le_bytes w32 n)) item h
item_sized known address (AddressOf name) item h =
    let n = bound (known_address known name) (λ (n : ℕ). Ok (Bytes (to_le_bytes w32 n))) item h in
    sized (Bytes (to_le_bytes w32 n.0)) item n.2
item_sized known address (Words values) item h =
    let bytes = bound (words_bytes known values) (λ (bytes : List ℕ). Ok (Bytes bytes)) item h in
    sized (Bytes bytes.0) item bytes.2 ∙ words_size known values bytes.0 bytes.1
item_sized known address (Data alignment bytes) item h = sized (Bytes bytes) item h
item_sized known address (Byte n) item h = sized (Bytes (n ∷ [])) item h
item_sized known address (Space n) item h = sized (Bytes (zeros n)) item h ∙ length-replicate n 0
item_sized known address (Org n) item h = sized (Bytes []) item h
item_sized known address (Entry name) item h =
    let n = bound (known_address known name) (λ (n : ℕ). Ok (Bytes [])) item h in
    sized (Bytes []) item n.2

in_low : (start size n : ℕ) → (0 < n → 0x80000000 ≤ start + size) → (0 < size → 0x80000000 ≤ start) → 0 < size + n → 0x80000000 ≤ start
in_low start size n low old h = grind arith

in_high : (start size n : ℕ) → (0 < n → start + size + n ≤ 0xa0000000) → (0 < size → start + size ≤ 0xa0000000) → 0 < size + n → start + (size + n) ≤ 0xa0000000
in_high start size n high old h = grind arith

in_start : (address start size : ℕ) → address ≡ start → 0x80000000 ≤ start + size → (0 < size → 0x80000000 ≤ start) → 0x80000000 ≤ address
in_start address start size e low old = grind arith

in_word : (start size : ℕ) → (0 < size → start + size ≤ 0xa0000000) → size < 2 ^ 32
in_word start size old = grind arith

-- what is put lies below 2^32
pub small : (layout : Layout) (output : Output) (code : OutputCode) → IsOutput code output → InStep layout output → length code.bytes.items < 2 ^ 32
small layout output code is step =
    let bytes = bytes_size code.bytes.items output.current.items is.bytes in
    let size = step.size in
    let below = in_word layout.current.start layout.current.size (λ n. (step.placed n).1) in
    omega arith

-- one item more
abbrev longer : Layout → ℕ → Layout
longer layout n = record layout { current = record layout.current { size = layout.current.size + n } }

item_in_step : (layout : Layout) (output : Output) (s : Statement) (item : Content) → InStep layout output → is_misplaced layout s ≡ false → item_size item ≡ size_of s → InStep (longer layout (size_of s)) (with_item output item)
item_in_step layout output s item is h e =
    let low : 0 < size_of s → 0x80000000 ≤ layout.current.start + layout.current.size = λ n. (has_place layout s h n).0 in
    let high : 0 < size_of s → layout.current.start + layout.current.size + size_of s ≤ 0xa0000000 = λ n. (has_place layout s h n).1 in
    let old_low : 0 < layout.current.size → 0x80000000 ≤ layout.current.start = λ n. (is.placed n).0 in
    let old_high : 0 < layout.current.size → layout.current.start + layout.current.size ≤ 0xa0000000 = λ n. (is.placed n).1 in
    let more = sum_by_push item_size output.current.items item in
    let same = is.size in
    record {
      address = is.address;
      size = omega arith;
      placed = λ n. (in_low layout.current.start layout.current.size (size_of s) low old_low n, in_high layout.current.start layout.current.size (size_of s) high old_high n);
    }

put_in_step : (known : Names) (layout : Layout) (output next : Output) (s : Statement) → InStep layout output → is_misplaced layout s ≡ false → (item_of known (next_place output) s >>= λ item. Ok (with_item output item)) ≡ Ok next → InStep (longer layout (size_of s)) next
put_in_step known layout output next s is h e =
    let item = bound (item_of known (next_place output) s) (λ (item : Content). Ok (with_item output item)) next e in
    let same : with_item output item.0 ≡ next = cc (item.2) in
    subst (InStep (longer layout (size_of s))) same (item_in_step layout output s item.0 is h (item_sized known (next_place output) s item.0 item.1))

statement_in_step : (known : Names) (layout : Layout) (output next : Output) (s : Statement) → InStep layout output → is_misplaced layout s ≡ false → with_statement known output (Some s) ≡ Ok next → InStep (after_statement layout (Some s)) next
statement_in_step known layout output next (Instruction i) is h e = put_in_step known layout output next (Instruction i) is h e
statement_in_step known layout output next (Transfer i v) is h e = put_in_step known layout output next (Transfer i v) is h e
statement_in_step known layout output next (Load rt v) is h e = put_in_step known layout output next (Load rt v) is h e
statement_in_step known layout output next (Words values) is h e = put_in_step known layout output next (Words values) is h e
statement_in_step known layout output next (Data alignment bytes) is h e = put_in_step known layout output next (Data alignment bytes) is h e
statement_in_step known layout output next (Word n) is h e = put_in_step known layout output next (Word n) is h e
statement_in_step known layout output next (AddressOf n) is h e = put_in_step known layout output next (AddressOf n) is h e
statement_in_step known layout output next (Byte n) is h e = put_in_step known layout output next (Byte n) is h e
statement_in_step known layout output next (Space n) is h e = put_in_step known layout output next (Space n) is h e
statement_in_step known layout output next (Org start) is h e =
    let same : record { earlier = parts_of output; current = part_at start; entry = output.entry } ≡ next = cc in
    subst (InStep (after_statement layout (Some (Org start)))) same (record { address = refl; size = refl; placed = λ n. absurd (omega (arith, n)) })
statement_in_step known layout output next (Entry name) is h e =
    let n = bound (known_address known name) (λ (n : ℕ). Ok (record output { entry = Some n })) next e in
    let same : record output { entry = Some n.0 } ≡ next = cc (n.2) in
    let old_low : 0 < layout.current.size → 0x80000000 ≤ layout.current.start = λ n. (is.placed n).0 in
    let old_high : 0 < layout.current.size → layout.current.start + layout.current.size ≤ 0xa0000000 = λ n. (is.placed n).1 in
    let size = is.size in
    subst (InStep (after_statement layout (Some (Entry name)))) same (record { address = is.address; size = omega arith; placed = λ n. (old_low (omega (arith, n)), let high = old_high (omega (arith, n)) in omega arith) })

-- room for a statement
room_for : (layout : Layout) (output : Output) (code : OutputCode) (s : Statement) → IsOutput code output → InStep layout output → is_misplaced layout s ≡ false → HasRoomFor code s
room_for layout output code s is step h =
    let bytes = bytes_size code.bytes.items output.current.items is.bytes in
    let address = is.address in
    let start = step.address in
    let size = step.size in
    let place : 0 < size_of s → (0x80000000 ≤ layout.current.start + layout.current.size) × (layout.current.start + layout.current.size + size_of s ≤ 0xa0000000) = has_place layout s h in
    (small layout output code is step, λ n. (let low = (place n).0 in let old_low : 0 < layout.current.size → 0x80000000 ≤ layout.current.start = λ m. (step.placed m).0 in in_start code.address layout.current.start layout.current.size (address ∙ start) low old_low, let high = (place n).1 in omega arith))

-- the steps of both passes over a line
placed_is : (a b : Bool) (f g : AsmFault) (x next : Reading) → (if a then Err f else if b then Err g else Ok x) ≡ Ok next → (b ≡ false) × (x ≡ next) × (a ≡ false)
placed_is true b f g x next h = absurd (cc)
placed_is false true f g x next h = absurd (cc)
placed_is false false f g x next h = (refl, (cc), refl)

pub taken_line : (reading next : Reading) (text : List ℕ) → first_step reading text ≡ Ok next → (line : Line) × (line_of text ≡ Ok line) × (has_misplaced reading.layout line.statement ≡ false) × (after_line reading line ≡ next) × (is_double reading.names line.label ≡ false)
unfolding first_step
taken_line reading next text h =
    let line = bound (line_of text) (placed reading) next h in
    let is = placed_is (is_double reading.names line.0.label) (has_misplaced reading.layout line.0.statement) fault.DoubleName fault.Place (after_line reading line.0) next line.2 in
    (line.0, line.1, is.0, is.1, is.2)

room_for_some : (layout : Layout) (output : Output) (code : OutputCode) (s : Option Statement) → IsOutput code output → InStep layout output → has_misplaced layout s ≡ false → MatchOption s (Unit {0}) (HasRoomFor code)
room_for_some layout output code None is step h = tt
room_for_some layout output code (Some s) is step h = room_for layout output code s is step h

pub room : (reading next : Reading) (output : Output) (code : OutputCode) (text : List ℕ) → IsOutput code output → InStep reading.layout output → first_step reading text ≡ Ok next → HasRoom code text
room reading next output code text is step h =
    let line = taken_line reading next text h in
    subst (HasRoomForLine code) (sym line.1) (room_for_some reading.layout output code line.0.statement is step line.2)

some_in_step : (known : Names) (layout : Layout) (output next : Output) (s : Option Statement) → InStep layout output → has_misplaced layout s ≡ false → with_statement known output s ≡ Ok next → InStep (after_statement layout s) next
some_in_step known layout output next None is h e = let same : output ≡ next = cc in subst (InStep layout) same is
some_in_step known layout output next (Some s) is h e = statement_in_step known layout output next s is h e

pub second_of : (known : Names) (output : Output) (text : List ℕ) (line : Line) → line_of text ≡ Ok line → second_step known output text ≡ with_statement known output line.statement
unfolding second_step
second_of known output text line e = ap (λ (r : Result Line AsmFault). r >>= λ read. with_statement known output read.statement) e

pub both_step : (known : Names) (reading after : Reading) (output next : Output) (text : List ℕ) → InStep reading.layout output → first_step reading text ≡ Ok after → second_step known output text ≡ Ok next → InStep after.layout next
both_step known reading after output next text step h e =
    let line = taken_line reading after text h in
    subst (λ (r : Reading). InStep r.layout next) line.3 (some_in_step known reading.layout output next line.0.statement step line.2 (sym (second_of known output text line.0 line.1) ∙ e))
