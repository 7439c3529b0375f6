-- The bytes of items, and the segments of parts.
use Rattle.std.proofs.Common.{◌≡◌, ℕ, ◌<◌, List, [], ◌∷◌, ◌++◌, length, refl, sym, ap, ◌∙◌, arith, append_assoc, append-nil, Ok, Err, Result, OnOk, is_ok, if◌then◌else◌, Some, sum_by, Bool, true, false, eqb, Vec, Global}
use Rattle.std.proofs.lemmas.List.{length-append}
use Rattle.std.proofs.lemmas.List.Sums.{sum_by-cons}
use Rattle.elf32.specs.declared.image.Segment.{Segment}
use Rattle.masm.specs.Meanings.{Content, Code, Pair, Bytes, item_size, item_of}
use Rattle.masm.specs.Images.{StandFor, AreBytesOf, IsSegmentOf, AreSegmentsOf}
use Rattle.masm.specs.Listings.{Part, Output, with_statement, with_item, next_place, part_size, parts_of}
use Rattle.masm.specs.declared.output.Output.{Output as OutputCode}
use Rattle.masm.specs.Answers.{IsOutput, is_word}
use Rattle.masm.specs.Names.{Names}
use Rattle.masm_lines.specs.Steps.{◌>>=◌}
use Rattle.masm_lines.specs.Statements.{Statement, Instruction, Transfer, Load, Word, AddressOf, Words, Byte, Data, Space, Org, Entry}

-- the bytes of an item are as many as its size
stand_size : (bs : List ℕ) (i : Content) → StandFor bs i → length bs ≡ item_size i
stand_size bs (Code i) h = ap length h.1
stand_size bs (Pair i j) h = ap length h.2
stand_size bs (Bytes cs) h = ap length h

pub bytes_size : (bs : List ℕ) (items : List Content) → AreBytesOf bs items → length bs ≡ sum_by item_size items
bytes_size bs [] h = ap length h
bytes_size bs (i ∷ is) h = ap length h.2 ∙ length-append h.0 h.1 ∙ (let a = stand_size h.0 i h.3 in let b = bytes_size h.1 is h.4 in omega (arith, sum_by-cons item_size i is))

-- one item more
pub bytes_push : (bs cs : List ℕ) (items : List Content) (i : Content) → AreBytesOf bs items → StandFor cs i → AreBytesOf (bs ++ cs) (items ++ i ∷ [])
bytes_push bs cs [] i h s = (cs, [], rw h (sym (append-nil cs)), s, refl)
bytes_push bs cs (j ∷ js) i h s = (h.0, h.1 ++ cs, ap (λ (x : List ℕ). x ++ cs) h.2 ∙ append_assoc h.0 h.1 cs, h.3, bytes_push h.1 cs js i h.4 s)

-- the output with one item more
pub item_pushed : (code : OutputCode) (bytes : Vec ℕ Global) (output : Output) (cs : List ℕ) (item : Content) → bytes.items ≡ code.bytes.items ++ cs → IsOutput code output → StandFor cs item → IsOutput (record code { bytes = bytes }) (with_item output item)
item_pushed code bytes output cs item e is s = record {
  earlier = is.earlier;
  address = is.address;
  bytes = rw e (bytes_push code.bytes.items cs output.current.items item is.bytes s);
  entry = is.entry;
}

-- the same, unless memory was refused
pub bytes_pushed : {A E : Type 0} (r : Result A E) (code : OutputCode) (bytes : Vec ℕ Global) (output : Output) (cs others : List ℕ) (item : Content) → bytes.items ≡ (if is_ok r then code.bytes.items ++ cs else others) → IsOutput code output → StandFor cs item → OnOk r (IsOutput (record code { bytes = bytes }) (with_item output item))
bytes_pushed (Ok a) code bytes output cs others item e is s = item_pushed code bytes output cs item e is s
bytes_pushed (Err a) code bytes output cs others item e is s = tt

-- one segment more
pub segments_push : (parts : List Part) (segments : List Segment) (p : Part) (s : Segment) → AreSegmentsOf parts segments → IsSegmentOf p s → AreSegmentsOf (parts ++ p ∷ []) (segments ++ s ∷ [])
segments_push [] [] p s h e = (e, tt)
segments_push [] (t ∷ ts) p s h e = absurd h
segments_push (q ∷ qs) [] p s h e = absurd h
segments_push (q ∷ qs) (t ∷ ts) p s h e = (h.0, segments_push qs ts p s h.1 e)

-- the parts with the present one, if it isn't empty
chosen : (P : List Part → Type 0) (b : Bool) (xs ys : List Part) → b ≡ false → P ys → P (if b then xs else ys)
chosen P true xs ys e p = absurd (cc)
chosen P false xs ys e p = p

chosen_true : (P : List Part → Type 0) (b : Bool) (xs ys : List Part) → b ≡ true → P xs → P (if b then xs else ys)
chosen_true P true xs ys e p = p
chosen_true P false xs ys e p = absurd (cc)

pub parts_pushed : (o : Output) (segments : List Segment) (s : Segment) → AreSegmentsOf o.earlier segments → IsSegmentOf o.current s → 0 < length s.bytes.items → AreSegmentsOf (parts_of o) (segments ++ s ∷ [])
parts_pushed o segments s h e n = chosen (λ (ps : List Part). AreSegmentsOf ps (segments ++ s ∷ [])) (eqb (part_size o.current) 0) o.earlier (o.earlier ++ o.current ∷ [])
    (let size = bytes_size s.bytes.items o.current.items e.bytes in grind (arith, size)) (segments_push o.earlier segments o.current s h e)

pub parts_kept : (o : Output) (segments : List Segment) (bs : List ℕ) → AreSegmentsOf o.earlier segments → AreBytesOf bs o.current.items → length bs ≡ 0 → AreSegmentsOf (parts_of o) segments
parts_kept o segments bs h e n = chosen_true (λ (ps : List Part). AreSegmentsOf ps segments) (eqb (part_size o.current) 0) o.earlier (o.earlier ++ o.current ∷ [])
    (let size = bytes_size bs o.current.items e in grind (arith, size)) h

-- a statement of a word puts its item
pub word_item : (known : Names) (o : Output) (s : Statement) → is_word s ≡ true → with_statement known o (Some s) ≡ (item_of known (next_place o) s >>= λ item. Ok (with_item o item))
word_item known o (Instruction i) h = refl
word_item known o (Transfer i v) h = refl
word_item known o (Word n) h = refl
word_item known o (AddressOf n) h = refl
word_item known o (Load rt v) h = refl
word_item known o (Words values) h = refl
word_item known o (Byte n) h = refl
word_item known o (Data alignment bytes) h = refl
word_item known o (Space n) h = refl
word_item known o (Org n) h = absurd (cc)
word_item known o (Entry n) h = absurd (cc)

-- bytes behind those of the output, unless memory was refused
pub data_pushed : {A E : Type 0} (r : Result A E) (code : OutputCode) (bytes : Vec ℕ Global) (output : Output) (cs : List ℕ) (item : Content) → OnOk r (bytes.items ≡ code.bytes.items ++ cs) → IsOutput code output → StandFor cs item → OnOk r (IsOutput (record code { bytes = bytes }) (with_item output item))
data_pushed (Ok a) code bytes output cs item e is s = item_pushed code bytes output cs item e is s
data_pushed (Err a) code bytes output cs item e is s = tt
