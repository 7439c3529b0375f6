-- Bytes of items, one item after the other.
use Rattle.std.proofs.Common.{◌≡◌, ℕ, ◌+◌, List, [], ◌∷◌, ◌++◌, length, refl, ◌∙◌, sym, ap, append_assoc, sum_by}
use Rattle.std.proofs.lemmas.List.{append-nil, length-append}
use Rattle.std.proofs.lemmas.List.Sums.{sum_by-cons}
use Rattle.masm.specs.Meanings.{Content, Code, Pair, Bytes, item_size}
use Rattle.masm.specs.Images.{StandFor, AreBytesOf}

-- an item at the end
pub bytes_append : (items : List Content) (item : Content) (bytes more : List ℕ) → AreBytesOf bytes items → StandFor more item → AreBytesOf (bytes ++ more) (items ++ item ∷ [])
bytes_append [] item bytes more all last = (more, [], ap (λ b. b ++ more) all ∙ sym (append-nil more), last, refl)
bytes_append (i ∷ items) item bytes more all last =
    (all.0, all.1 ++ more, ap (λ b. b ++ more) all.2 ∙ append_assoc all.0 all.1 more, all.3, bytes_append items item all.1 more all.4 last)

-- how many bytes an item has
item_length : (item : Content) (bytes : List ℕ) → StandFor bytes item → length bytes ≡ item_size item
item_length (Code i) bytes h = ap length h.1
item_length (Pair i j) bytes h = ap length h.2
item_length (Bytes written) bytes h = ap length h

pub bytes_length : (items : List Content) (bytes : List ℕ) → AreBytesOf bytes items → length bytes ≡ sum_by item_size items
bytes_length [] bytes all = ap length all
bytes_length (i ∷ items) bytes all =
    ap length all.2 ∙ length-append all.0 all.1 ∙ ap (λ n. n + length all.1) (item_length i all.0 all.3) ∙ ap (λ n. item_size i + n) (bytes_length items all.1 all.4) ∙ sym (sum_by-cons item_size i items)
