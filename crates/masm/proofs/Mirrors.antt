-- What the second pass has put has the segments that the first pass has made.
use Rattle.std.proofs.Common.{◌≡◌, ℕ, ◌+◌, Bool, true, false, ◌==◌, if◌then◌else◌, List, [], ◌∷◌, ◌++◌, map, refl, ◌∙◌, sym, ap, subst, arith, Option, Some, None, Ok}
use Rattle.std.specs.Int.{to_le_bytes, w32}
use Rattle.std.proofs.lemmas.List.{map-append, length-replicate}
use Rattle.std.proofs.lemmas.List.Sums.{sum_by-append, sum_by-cons}
use Rattle.word32.specs.Zeros.{zeros}
use Rattle.masm_lines.specs.Grammar.{Line}
use Rattle.masm_lines.specs.Statements.{Statement, Instruction, Transfer, Load, Word, AddressOf, Words, Byte, Data, Space, Org, Entry}
use Rattle.masm.specs.Names.{Names, known_address, value_address}
use Rattle.masm.specs.Places.{Layout, segment_at, spans, after_statement}
use Rattle.masm_lines.specs.Statements.{size_of}
use Rattle.masm.specs.Meanings.{Content, Code, Bytes, item_size, item_of, aimed, loaded, words_bytes}
use Rattle.masm.proofs.WordLists.{words_size}
use Rattle.masm.specs.Listings.{Part, Output, part_size, part_at, parts_of, next_place, with_item, with_statement}
use Rattle.masm.specs.Assembly.{Puts, ArePlaced}
use Rattle.masm_lines.specs.Steps.{◌>>=◌}
use Rattle.masm.specs.declared.layout.Span.{Span}
use Rattle.masm.proofs.Answered.{answered}
use Rattle.masm.proofs.Spans.{IsSound, after_sound}

-- the addresses of a part
abbrev pub span_of : Part → Span
span_of p = record { start = p.address; size = part_size p }

abbrev pub mirror : Output → Layout
mirror o = record { earlier = map span_of o.earlier; current = span_of o.current }

map_cond : (b : Bool) (parts : List Part) (last : Part) → map span_of (if b then parts else parts ++ last ∷ []) ≡ (if b then map span_of parts else map span_of parts ++ span_of last ∷ [])
map_cond true parts last = refl
map_cond false parts last = map-append span_of parts (last ∷ [])

pub mirror_parts : (o : Output) → map span_of (parts_of o) ≡ spans (mirror o)
mirror_parts o = map_cond (part_size o.current == 0) o.earlier o.current

-- an item has as many bytes as the statement's place
item_sized : (names : Names) (address : ℕ) (s : Statement) (item : Content) → item_of names address s ≡ Ok item → item_size item ≡ size_of s
unfolding item_of zeros
item_sized names address (Instruction i) item h = let e : Code i ≡ item = cc in ap item_size (sym e)
item_sized names address (Transfer i value) item h =
    let target = answered (value_address names value) (λ target. aimed i address target >>= λ whole. Ok (Code whole)) item h in
    let whole = answered (aimed i address target.0) (λ whole. Ok (Code whole)) item target.2 in
    let e : Code whole.0 ≡ item = cc in
    ap item_size (sym e)
item_sized names address (Load rt value) item h =
    let found = answered (value_address names value) (λ n. Ok (loaded rt n)) item h in
    let e : loaded rt found.0 ≡ item = cc in
    ap item_size (sym e)
item_sized names address (Word n) item h = let e : Bytes (to_le_bytes w32 n) ≡ item = cc in ap item_size (sym e)
item_sized names address (AddressOf name) item h =
    let known = answered (known_address names name) (λ n. Ok (Bytes (to_le_bytes w32 n))) item h in
    let e : Bytes (to_le_bytes w32 known.0) ≡ item = cc in
    ap item_size (sym e)
item_sized names address (Words values) item h =
    let found = answered (words_bytes names values) (λ bytes. Ok (Bytes bytes)) item h in
    let e : Bytes found.0 ≡ item = cc in
    ap item_size (sym e) ∙ words_size names values found.0 found.1
item_sized names address (Data alignment bytes) item h = let e : Bytes bytes ≡ item = cc in ap item_size (sym e)
item_sized names address (Byte n) item h = let e : Bytes (n ∷ []) ≡ item = cc in ap item_size (sym e)
item_sized names address (Space n) item h = let e : Bytes (zeros n) ≡ item = cc in ap item_size (sym e) ∙ length-replicate n 0
item_sized names address (Org start) item h = let e : Bytes [] ≡ item = cc in ap item_size (sym e)
item_sized names address (Entry name) item h =
    let known = answered (known_address names name) (λ n. Ok (Bytes [])) item h in
    let e : Bytes [] ≡ item = cc in
    ap item_size (sym e)

longer : Layout → ℕ → Layout
longer l size = record l { current = record l.current { size = size } }

item_mirrors : (names : Names) (before after : Output) (s : Statement) → (item_of names (next_place before) s >>= λ item. Ok (with_item before item)) ≡ Ok after → mirror after ≡ record (mirror before) { current = record (mirror before).current { size = part_size before.current + size_of s } }
unfolding longer
item_mirrors names before after s h =
    let found = answered (item_of names (next_place before) s) (λ item. Ok (with_item before item)) after h in
    let put : with_item before found.0 ≡ after = cc in
    let size : part_size (with_item before found.0).current ≡ part_size before.current + size_of s = sum_by-append item_size before.current.items (found.0 ∷ []) ∙ ap (λ n. part_size before.current + n) (omega (arith, sum_by-cons item_size found.0 []) ∙ item_sized names (next_place before) s found.0 found.1) in
    ap mirror (sym put) ∙ ap (longer (mirror before)) size

pub put_mirrors : (names : Names) (before after : Output) (s : Option Statement) → with_statement names before s ≡ Ok after → mirror after ≡ after_statement (mirror before) s
put_mirrors names before after None h = let same : before ≡ after = cc in ap mirror (sym same)
put_mirrors names before after (Some (Instruction i)) h = item_mirrors names before after (Instruction i) h
put_mirrors names before after (Some (Transfer i value)) h = item_mirrors names before after (Transfer i value) h
put_mirrors names before after (Some (Word n)) h = item_mirrors names before after (Word n) h
put_mirrors names before after (Some (AddressOf name)) h = item_mirrors names before after (AddressOf name) h
put_mirrors names before after (Some (Load rt value)) h = item_mirrors names before after (Load rt value) h
put_mirrors names before after (Some (Words values)) h = item_mirrors names before after (Words values) h
put_mirrors names before after (Some (Data alignment bytes)) h = item_mirrors names before after (Data alignment bytes) h
put_mirrors names before after (Some (Byte n)) h = item_mirrors names before after (Byte n) h
put_mirrors names before after (Some (Space n)) h = item_mirrors names before after (Space n) h
put_mirrors names before after (Some (Org start)) h =
    let begun : Output = record { earlier = parts_of before; current = part_at start; entry = before.entry } in
    let same : begun ≡ after = cc in
    ap mirror (sym same) ∙ ap (λ x. record { earlier = x; current = segment_at start }) (mirror_parts before)
put_mirrors names before after (Some (Entry name)) h =
    let known = answered (known_address names name) (λ address. Ok (record before { entry = Some address })) after h in
    let same : record before { entry = Some known.0 } ≡ after = cc in
    let size : part_size before.current ≡ part_size before.current + 0 = omega arith in
    ap mirror (sym same) ∙ ap (λ n. record (mirror before) { current = record (mirror before).current { size = n } }) size

pub all_sound : (names : Names) (before after : Output) (program : List Line) → Puts names before program after → ArePlaced (mirror before) program → IsSound (mirror before) → IsSound (mirror after)
all_sound names before after [] puts places is = subst (λ o. IsSound (mirror o)) puts is
all_sound names before after (line ∷ program) puts places is =
    let moved : mirror puts.0 ≡ after_statement (mirror before) line.statement = put_mirrors names before puts.0 line.statement puts.1 in
    all_sound names puts.0 after program puts.2 (subst (λ l. ArePlaced l program) (sym moved) places.1) (subst IsSound (sym moved) (after_sound (mirror before) line.statement places.0 is))
