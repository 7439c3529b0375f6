-- The parts of a text between its commas, one after the other.
use Rattle.std.proofs.Common.{◌≡◌, ℕ, suc, not, ◌+◌, ◌*◌, length-append, ◌≤◌, ◌<◌, ◌==◌, Bool, true, false, List, [], ◌∷◌, ◌++◌, length, refl, ◌∙◌, sym, ap, arith, append_assoc, Option, Some, None, option_map, flat_map, ◌&&◌, map}
use Rattle.std.specs.List.{list_all, before_first, prefix_len}
use Rattle.std.specs.Borrow.{Bor}
use Rattle.masm_lines.specs.Characters.{is_comma}
use Rattle.masm_lines.specs.Lists.{parts, before_first_part, half_bytes, byte_of}
use Rattle.masm_lines.specs.Operands.{behind_comma}
use Rattle.masm_lines.specs.Views.{text_view}

abbrev pub parts_behind : Option (List ℕ) → List (List ℕ)
parts_behind None = []
parts_behind (Some text) = parts text

-- the parts that are left
abbrev pub parts_left : Option (Bor (List ℕ)) → List (List ℕ)
parts_left rest = parts_behind (option_map text_view rest)

abbrev pub room_behind : Option (List ℕ) → ℕ
room_behind None = 0
room_behind (Some text) = length text + 1

abbrev pub room_left : Option (Bor (List ℕ)) → ℕ
room_left rest = room_behind (option_map text_view rest)

one_more : (n : ℕ) → 1 + n ≡ suc n
one_more n = omega arith

two_more : (n : ℕ) → suc n + 1 ≡ suc (n + 1)
two_more n = omega arith

-- the first part, and what is behind it
step_by : (b : Bool) (c : ℕ) (cs : List ℕ) → (c == 44) ≡ b → parts cs ≡ before_first is_comma cs ∷ parts_behind (behind_comma cs)
    → parts (c ∷ cs) ≡ before_first is_comma (c ∷ cs) ∷ parts_behind (behind_comma (c ∷ cs))
step_by true c cs e more = rw e refl
step_by false c cs e more = rw (e, more, one_more (prefix_len (λ x. not (is_comma x)) cs), two_more (prefix_len (λ x. not (is_comma x)) cs)) refl

pub parts_step : (text : List ℕ) → parts text ≡ before_first is_comma text ∷ parts_behind (behind_comma text)
parts_step [] = refl
parts_step (c ∷ cs) = step_by (c == 44) c cs refl (parts_step cs)

room_by : (b : Bool) (c : ℕ) (cs : List ℕ) → (c == 44) ≡ b → room_behind (behind_comma cs) ≤ length cs → room_behind (behind_comma (c ∷ cs)) ≤ length (c ∷ cs)
room_by true c cs e more = rw e (omega arith)
room_by false c cs e more = rw (e, one_more (prefix_len (λ x. not (is_comma x)) cs), two_more (prefix_len (λ x. not (is_comma x)) cs)) (omega arith)

pub room_step : (text : List ℕ) → room_behind (behind_comma text) ≤ length text
room_step [] = omega arith
room_step (c ∷ cs) = room_by (c == 44) c cs refl (room_step cs)

before_size : (c : ℕ) (ps : List (List ℕ)) (n : ℕ) → length ps ≤ n + 1 → length (before_first_part c ps) ≤ n + 1
before_size c [] n h = omega arith
before_size c (p ∷ ps) n h = h

size_by : (b : Bool) (c : ℕ) (cs : List ℕ) → (c == 44) ≡ b → length (parts cs) ≤ length cs + 1 → length (parts (c ∷ cs)) ≤ length (c ∷ cs) + 1
size_by true c cs e more = rw e (omega arith)
size_by false c cs e more = rw e (let first = before_size c (parts cs) (length cs) more in omega arith)

pub parts_size : (text : List ℕ) → length (parts text) ≤ length text + 1
parts_size [] = omega arith
parts_size (c ∷ cs) = size_by (c == 44) c cs refl (parts_size cs)

-- one part more
pub left_step : (text : List ℕ) (rest : Option (Bor (List ℕ))) → option_map text_view rest ≡ behind_comma text → parts text ≡ before_first is_comma text ∷ parts_left rest
left_step text rest e = rw e (parts_step text)

pub left_room : (text : List ℕ) (rest : Option (Bor (List ℕ))) → option_map text_view rest ≡ behind_comma text → room_left rest < length text + 1
left_room text rest e = rw e (let shorter = room_step text in omega arith)

pub all_step : (test : List ℕ → Bool) (text : List ℕ) (rest : Option (Bor (List ℕ))) → option_map text_view rest ≡ behind_comma text → test (before_first is_comma text) ≡ true → list_all test (parts_left rest) ≡ list_all test (parts text)
all_step test text rest e h = rw (left_step text rest e, h) refl

pub all_ends : (test : List ℕ → Bool) (text : List ℕ) → test (before_first is_comma text) ≡ false → list_all test (parts text) ≡ false
all_ends test text h = rw (parts_step text, h) refl

pub count_step : (text : List ℕ) (rest : Option (Bor (List ℕ))) → option_map text_view rest ≡ behind_comma text → length (parts text) ≡ length (parts_left rest) + 1
count_step text rest e = rw (left_step text rest e) (omega arith)

pub put_step : (put : List ℕ → List ℕ) (bytes more : List ℕ) (text : List ℕ) (rest : Option (Bor (List ℕ))) → option_map text_view rest ≡ behind_comma text → more ≡ bytes ++ put (before_first is_comma text)
    → more ++ flat_map put (parts_left rest) ≡ bytes ++ flat_map put (parts text)
put_step put bytes more text rest e m = rw (left_step text rest e, m) (append_assoc bytes (put (before_first is_comma text)) (flat_map put (parts_left rest)))

-- how many bytes half-words and bytes are
pub halves_size : (ps : List (List ℕ)) → length (flat_map half_bytes ps) ≡ length ps * 2
halves_size [] = refl
halves_size (p ∷ ps) =
    let both = length-append (half_bytes p) (flat_map half_bytes ps) in
    let two : length (half_bytes p) ≡ 2 = refl in
    let more = halves_size ps in
    omega arith

pub bytes_size : (ps : List (List ℕ)) → length (flat_map byte_of ps) ≡ length ps
bytes_size [] = refl
bytes_size (p ∷ ps) =
    let both = length-append (byte_of p) (flat_map byte_of ps) in
    let one : length (byte_of p) ≡ 1 = refl in
    let more = bytes_size ps in
    omega arith
