-- The lines of a debugger, row by row.
use Rattle.std.specs.Prelude.{◌≡◌, ℕ, ◌<◌, ◌≤◌, List, ◌∷◌, ◌++◌, length, codes, Ok}
use Rattle.hex.specs.Hex.{decode_of}
use Rattle.line_words.specs.Numbers.{Writes}
use Rattle.line_words.specs.Words.{blank}
use Rattle.debugline.specs.Commands.{Command, Regs, Reg, Set, Read, Write, Cont, Step, Break, Clear, Detach, End}

-- 1 to 8 hexadecimal digits, of either case
abbrev pub IsNumber : List ℕ → ℕ → Type 0
IsNumber digits n = Writes 16 digits n × (length digits ≤ 8)

abbrev pub IsRegister : List ℕ → ℕ → Type 0
IsRegister digits n = IsNumber digits n × (n < 38)

abbrev pub IsLength : List ℕ → ℕ → Type 0
IsLength digits n = IsNumber digits n × (1 ≤ n) × (n ≤ 1024)

-- two hexadecimal digits each, of either case
abbrev pub AreBytes : List ℕ → List ℕ → Type 0
AreBytes digits bytes = (decode_of digits ≡ Ok bytes) × (1 ≤ length bytes) × (length bytes ≤ 1024)

-- what stands in the line of a command
abbrev pub Says : List ℕ → Command → Type 0
Says line Regs = line ≡ codes "regs"
Says line (Reg register) = (n : List ℕ) × IsRegister n register × (line ≡ codes "reg " ++ n)
Says line (Set register word) = (n : List ℕ) × (w : List ℕ) × IsRegister n register × IsNumber w word × (line ≡ codes "set " ++ (n ++ blank ∷ w))
Says line (Read address count) = (a : List ℕ) × (l : List ℕ) × IsNumber a address × IsLength l count × (line ≡ codes "read " ++ (a ++ blank ∷ l))
Says line (Write address bytes) = (a : List ℕ) × (b : List ℕ) × IsNumber a address × AreBytes b bytes × (line ≡ codes "write " ++ (a ++ blank ∷ b))
Says line Cont = line ≡ codes "cont"
Says line Step = line ≡ codes "step"
Says line (Break address) = (a : List ℕ) × IsNumber a address × (line ≡ codes "break " ++ a)
Says line (Clear address) = (a : List ℕ) × IsNumber a address × (line ≡ codes "clear " ++ a)
Says line Detach = line ≡ codes "detach"
Says line End = line ≡ codes "end"
