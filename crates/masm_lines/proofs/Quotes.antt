-- The bytes of a text up to its quote, one after the other.
use Rattle.std.proofs.Common.{◌≡◌, ℕ, ◌+◌, ◌≤◌, ◌<◌, ◌==◌, Bool, true, false, List, [], ◌∷◌, ◌++◌, length, refl, ◌∙◌, sym, ap, arith, append_assoc, Option, Some, None, option_map, is_some, subst}
use Rattle.masm_lines.specs.Operands.{both, match_option}
use Rattle.masm_lines.specs.Texts.{escaped, prepend, quoted, next_byte, with_rest, bytes_in}

-- equal pairs have equal parts
some_pair : (p q : ℕ × List ℕ) → Some p ≡ Some q → p ≡ q
some_pair p q h = cc

some_byte : (p q : ℕ × List ℕ) → Some p ≡ Some q → p.0 ≡ q.0
some_byte p q h = ap (λ (r : ℕ × List ℕ). r.0) (some_pair p q h)

some_rest : (p q : ℕ × List ℕ) → Some p ≡ Some q → p.1 ≡ q.1
some_rest p q h = ap (λ (r : ℕ × List ℕ). r.1) (some_pair p q h)

-- what follows a byte
both_step : (byte : ℕ) (o : Option (List ℕ)) → both prepend (Some byte) o ≡ option_map (prepend byte) o
both_step byte None = refl
both_step byte (Some bytes) = refl

escaped_step : (o : Option ℕ) (cs rest : List ℕ) (byte : ℕ) → option_map (with_rest cs) o ≡ Some (byte, rest) → both prepend o (quoted cs) ≡ option_map (prepend byte) (quoted rest)
escaped_step None cs rest byte h = absurd (cc)
escaped_step (Some found) cs rest byte h =
    let same : found ≡ byte = some_byte (found, cs) (byte, rest) h in
    let behind : cs ≡ rest = some_rest (found, cs) (byte, rest) h in
    both_step found (quoted cs) ∙ ap (λ b. option_map (prepend b) (quoted cs)) same ∙ ap (λ r. option_map (prepend byte) (quoted r)) behind

plain_step : (c : ℕ) (cs rest : List ℕ) (byte : ℕ) → ◌≡◌ {A = Option (ℕ × List ℕ)} (Some (c, cs)) (Some (byte, rest)) → option_map (prepend c) (quoted cs) ≡ option_map (prepend byte) (quoted rest)
plain_step c cs rest byte h =
    let same : c ≡ byte = some_byte (c, cs) (byte, rest) h in
    let behind : cs ≡ rest = some_rest (c, cs) (byte, rest) h in
    ap (λ b. option_map (prepend b) (quoted cs)) same ∙ ap (λ r. option_map (prepend byte) (quoted r)) behind

two_by : (q b : Bool) (c d : ℕ) (cs rest : List ℕ) (byte : ℕ) → (c == 34) ≡ q → (c == 92) ≡ b → next_byte (c ∷ d ∷ cs) ≡ Some (byte, rest) → quoted (c ∷ d ∷ cs) ≡ option_map (prepend byte) (quoted rest)
two_by true b c d cs rest byte q s h = absurd (let none : next_byte (c ∷ d ∷ cs) ≡ None = rw q refl in cc)
two_by false true c d cs rest byte q s h =
    let taken : option_map (with_rest cs) (escaped d) ≡ Some (byte, rest) = (let is : next_byte (c ∷ d ∷ cs) ≡ option_map (with_rest cs) (escaped d) = rw (q, s) refl in sym is ∙ h) in
    rw (q, s) (escaped_step (escaped d) cs rest byte taken)
two_by false false c d cs rest byte q s h =
    let taken : ◌≡◌ {A = Option (ℕ × List ℕ)} (Some (c, d ∷ cs)) (Some (byte, rest)) = (let is : next_byte (c ∷ d ∷ cs) ≡ Some (c, d ∷ cs) = rw (q, s) refl in sym is ∙ h) in
    rw (q, s) (plain_step c (d ∷ cs) rest byte taken)

one_by : (q b : Bool) (c : ℕ) (rest : List ℕ) (byte : ℕ) → (c == 34) ≡ q → (c == 92) ≡ b → next_byte (c ∷ []) ≡ Some (byte, rest) → quoted (c ∷ []) ≡ option_map (prepend byte) (quoted rest)
one_by true b c rest byte q s h = absurd (let none : next_byte (c ∷ []) ≡ None = rw q refl in cc)
one_by false true c rest byte q s h = absurd (let none : next_byte (c ∷ []) ≡ None = rw (q, s) refl in cc)
one_by false false c rest byte q s h =
    let taken : ◌≡◌ {A = Option (ℕ × List ℕ)} (Some (c, [])) (Some (byte, rest)) = (let is : next_byte (c ∷ []) ≡ Some (c, []) = rw (q, s) refl in sym is ∙ h) in
    rw q (plain_step c [] rest byte taken)

pub quoted_step : (text rest : List ℕ) (byte : ℕ) → next_byte text ≡ Some (byte, rest) → quoted text ≡ option_map (prepend byte) (quoted rest)
quoted_step [] rest byte h = absurd (cc)
quoted_step (c ∷ []) rest byte h = one_by (c == 34) (c == 92) c rest byte refl refl h
quoted_step (c ∷ d ∷ cs) rest byte h = two_by (c == 34) (c == 92) c d cs rest byte refl refl h

some_mapped : (byte : ℕ) (o : Option (List ℕ)) → is_some (option_map (prepend byte) o) ≡ is_some o
some_mapped byte None = refl
some_mapped byte (Some bytes) = refl

-- a text ends in a quote where what is behind its first byte does
pub ended_step : (text rest : List ℕ) (byte : ℕ) → next_byte text ≡ Some (byte, rest) → is_some (quoted text) ≡ is_some (quoted rest)
ended_step text rest byte h = ap is_some (quoted_step text rest byte h) ∙ some_mapped byte (quoted rest)

mapped_bytes : (byte : ℕ) (o : Option (List ℕ)) → is_some o ≡ true → match_option (option_map (prepend byte) o) [] (λ bytes. bytes) ≡ byte ∷ match_option o [] (λ bytes. bytes)
mapped_bytes byte None h = absurd (cc)
mapped_bytes byte (Some bytes) h = refl

-- its bytes are the first one and those behind it
pub bytes_step : (text rest : List ℕ) (byte : ℕ) → next_byte text ≡ Some (byte, rest) → is_some (quoted rest) ≡ true → bytes_in text ≡ byte ∷ bytes_in rest
bytes_step text rest byte h ends = ap (λ o. match_option o [] (λ bytes. bytes)) (quoted_step text rest byte h) ∙ mapped_bytes byte (quoted rest) ends

-- a text of which no byte can be read is a quote, or doesn't end in one
last_escaped : (o : Option ℕ) (cs : List ℕ) → option_map (with_rest cs) o ≡ None → both prepend o (quoted cs) ≡ None
last_escaped None cs h = refl
last_escaped (Some byte) cs h = absurd (cc)

last_two : (q b : Bool) (c d : ℕ) (cs : List ℕ) → (c == 34) ≡ q → (c == 92) ≡ b → next_byte (c ∷ d ∷ cs) ≡ None → quoted (c ∷ d ∷ cs) ≡ None
last_two true b c d cs q s h = rw q refl
last_two false true c d cs q s h =
    let is : next_byte (c ∷ d ∷ cs) ≡ option_map (with_rest cs) (escaped d) = rw (q, s) refl in
    rw (q, s) (last_escaped (escaped d) cs (sym is ∙ h))
last_two false false c d cs q s h = absurd (let is : next_byte (c ∷ d ∷ cs) ≡ Some (c, d ∷ cs) = rw (q, s) refl in cc)

no_bytes : (q : Bool) (c : ℕ) → (c == 34) ≡ q → bytes_in (c ∷ []) ≡ []
no_bytes true c q = rw q refl
no_bytes false c q = rw q refl

pub last_bytes : (text : List ℕ) → next_byte text ≡ None → bytes_in text ≡ []
last_bytes [] h = refl
last_bytes (c ∷ []) h = no_bytes (c == 34) c refl
last_bytes (c ∷ d ∷ cs) h = ap (λ o. match_option o [] (λ bytes. bytes)) (last_two (c == 34) (c == 92) c d cs refl refl h)

pub last_long : (c d : ℕ) (cs : List ℕ) → next_byte (c ∷ d ∷ cs) ≡ None → is_some (quoted (c ∷ d ∷ cs)) ≡ false
last_long c d cs h = ap is_some (last_two (c == 34) (c == 92) c d cs refl refl h)

-- what is behind a byte is shorter
shorter_escaped : (o : Option ℕ) (cs rest : List ℕ) (byte : ℕ) → option_map (with_rest cs) o ≡ Some (byte, rest) → length rest ≡ length cs
shorter_escaped None cs rest byte h = absurd (cc)
shorter_escaped (Some b) cs rest byte h = let same : cs ≡ rest = some_rest (b, cs) (byte, rest) h in ap length (sym same)

shorter_two : (q b : Bool) (c d : ℕ) (cs rest : List ℕ) (byte : ℕ) → (c == 34) ≡ q → (c == 92) ≡ b → next_byte (c ∷ d ∷ cs) ≡ Some (byte, rest) → length rest < length (c ∷ d ∷ cs)
shorter_two true b c d cs rest byte q s h = absurd (let is : next_byte (c ∷ d ∷ cs) ≡ None = rw q refl in cc)
shorter_two false true c d cs rest byte q s h =
    let is : next_byte (c ∷ d ∷ cs) ≡ option_map (with_rest cs) (escaped d) = rw (q, s) refl in
    let size = shorter_escaped (escaped d) cs rest byte (sym is ∙ h) in
    omega arith
shorter_two false false c d cs rest byte q s h =
    let is : next_byte (c ∷ d ∷ cs) ≡ Some (c, d ∷ cs) = rw (q, s) refl in
    let same : d ∷ cs ≡ rest = some_rest (c, d ∷ cs) (byte, rest) (sym is ∙ h) in
    let size : length rest ≡ length (d ∷ cs) = ap length (sym same) in
    omega arith

shorter_one : (q b : Bool) (c : ℕ) (rest : List ℕ) (byte : ℕ) → (c == 34) ≡ q → (c == 92) ≡ b → next_byte (c ∷ []) ≡ Some (byte, rest) → length rest < length (c ∷ [])
shorter_one true b c rest byte q s h = absurd (let is : next_byte (c ∷ []) ≡ None = rw q refl in cc)
shorter_one false true c rest byte q s h = absurd (let is : next_byte (c ∷ []) ≡ None = rw (q, s) refl in cc)
shorter_one false false c rest byte q s h =
    let is : next_byte (c ∷ []) ≡ Some (c, []) = rw (q, s) refl in
    let same : [] ≡ rest = some_rest (c, []) (byte, rest) (sym is ∙ h) in
    let size : length rest ≡ length {A = ℕ} [] = ap length (sym same) in
    omega arith

pub shorter : (text rest : List ℕ) (byte : ℕ) → next_byte text ≡ Some (byte, rest) → length rest < length text
shorter [] rest byte h = absurd (cc)
shorter (c ∷ []) rest byte h = shorter_one (c == 34) (c == 92) c rest byte refl refl h
shorter (c ∷ d ∷ cs) rest byte h = shorter_two (c == 34) (c == 92) c d cs rest byte refl refl h

-- the bytes are no more than the characters
size_mapped : (c n : ℕ) (o : Option (List ℕ)) → length (match_option o [] (λ bytes. bytes)) ≤ n → length (match_option (option_map (prepend c) o) [] (λ bytes. bytes)) ≤ n + 1
size_mapped c n None h = omega arith
size_mapped c n (Some bytes) h = omega arith

size_both : (e : Option ℕ) (n : ℕ) (o : Option (List ℕ)) → length (match_option o [] (λ bytes. bytes)) ≤ n → length (match_option (both prepend e o) [] (λ bytes. bytes)) ≤ n + 1
size_both None n None h = omega arith
size_both None n (Some bytes) h = omega arith
size_both (Some c) n None h = omega arith
size_both (Some c) n (Some bytes) h = omega arith

size_by : (q b : Bool) (c d : ℕ) (cs : List ℕ) → (c == 34) ≡ q → (c == 92) ≡ b → length (bytes_in cs) ≤ length cs → length (bytes_in (d ∷ cs)) ≤ length (d ∷ cs) → length (bytes_in (c ∷ d ∷ cs)) ≤ length (c ∷ d ∷ cs)
size_by true b c d cs q s h k = rw q (omega arith)
size_by false true c d cs q s h k = rw (q, s) (let size = size_both (escaped d) (length cs) (quoted cs) h in omega arith)
size_by false false c d cs q s h k = rw (q, s) (let size = size_mapped c (length (d ∷ cs)) (quoted (d ∷ cs)) k in omega arith)

pub bytes_size : (text : List ℕ) → length (bytes_in text) ≤ length text
bytes_size [] = omega arith
bytes_size (c ∷ []) = let none = no_bytes (c == 34) c refl in rw none (omega arith)
bytes_size (c ∷ d ∷ cs) = size_by (c == 34) (c == 92) c d cs refl refl (bytes_size cs) (bytes_size (d ∷ cs))
