-- The replies to a debugger's lines, without the line feed that ends each.
use Rattle.std.specs.Prelude.{ℕ, ◌+◌, ◌/◌, ◌%◌, ◌<◌, List, [], ◌∷◌, ◌++◌, codes}
use Rattle.std.specs.Int.{w32, to_be_bytes}
use Rattle.std.specs.List.{flat_map}
use Rattle.hex.specs.Hex.{encode_lower}
use Rattle.debugline.specs.declared.answer.Answer.{Answer}
use Rattle.debugline.specs.declared.answer.Answer.TheVariants.{Done, Words, Bytes, Break, Held, Error}

-- a word in eight digits
abbrev pub word_digits : ℕ → List ℕ
word_digits word = encode_lower (to_be_bytes w32 word)

-- words in eight digits each
abbrev pub words_text : List ℕ → List ℕ
words_text words = flat_map word_digits words

-- an error by its number, in two decimal digits
abbrev pub error_text : ℕ → List ℕ
error_text number = codes "E" ++ (48 + number / 10) ∷ (48 + number % 10) ∷ []

abbrev pub reply_of : Answer → List ℕ
reply_of Done = codes "ok"
reply_of (Words words) = words_text words.items
reply_of (Bytes bytes) = encode_lower bytes.items
reply_of Break = codes "break"
reply_of Held = codes "held"
reply_of (Error number) = error_text number

-- an error's number has at most two digits
abbrev pub HasReply : Answer → Type 0
HasReply (Error number) = number < 100
HasReply _ = Unit {0}
