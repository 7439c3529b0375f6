-- Items whose bytes are read one after the other.
use Rattle.std.proofs.Common.{◌≡◌, ℕ, ◌+◌, ◌%◌, ◌^◌, ◌<◌, List, [], ◌∷◌, ◌++◌, length, get_or, Some, sym, ap, subst, ◌∙◌, arith, length-append}
use Rattle.std.proofs.lemmas.List.{get_or_append_left, get_or-append-add}
use Rattle.machine.specs.Step.{Machine}
use Rattle.machine.specs.Replies.{byte_at, bytes_at}
use Rattle.machine.proofs.Replies.{read_whole}
use Rattle.masm.specs.Meanings.{Content, Code, Pair, Bytes, item_size}
use Rattle.masm.specs.Images.{StandFor, AreBytesOf}
use Rattle.load_and_go.specs.Holds.{HoldsItem, HoldsFrom}

-- each byte is read at its address
abbrev pub AreAt : Machine → ℕ → List ℕ → Type 0
AreAt m address bytes = (k : ℕ) → k < length bytes → byte_at m ((address + k) % 2 ^ 32) ≡ Some (get_or bytes k 0)

-- how many bytes an item has
item_length : (item : Content) (bytes : List ℕ) → StandFor bytes item → length bytes ≡ item_size item
item_length (Code i) bytes h = ap length h.1
item_length (Pair i j) bytes h = ap length h.2
item_length (Bytes written) bytes h = ap length h

-- bytes at their addresses, and so those of them that stand first
at_first : (m : Machine) (address : ℕ) (first more : List ℕ) → AreAt m address (first ++ more) → AreAt m address first
at_first m address first more all k below =
    all k (omega (arith, length-append first more)) ∙ ap Some (get_or_append_left first more 0 k below)

-- and those behind the first
at_more : (m : Machine) (address : ℕ) (first more : List ℕ) → AreAt m address (first ++ more) → AreAt m (address + length first) more
at_more m address first more all k below =
    let same : address + length first + k ≡ address + (length first + k) = omega arith in
    ap (λ (n : ℕ). byte_at m (n % 2 ^ 32)) same
    ∙ all (length first + k) (omega (arith, length-append first more))
    ∙ ap Some (get_or-append-add first more k 0)

-- where the bytes of an item are read at their addresses, the item is held
holds_item : (m : Machine) (address : ℕ) (item : Content) (bytes : List ℕ) → StandFor bytes item → AreAt m address bytes → HoldsItem m address item
holds_item m address item bytes stands all =
    (bytes, ap (bytes_at m address) (sym (item_length item bytes stands)) ∙ read_whole m address bytes all, stands)

-- where the bytes of items are read at their addresses, the items are held
pub holds_from : (m : Machine) (address : ℕ) (items : List Content) (bytes : List ℕ) → AreBytesOf bytes items → AreAt m address bytes → HoldsFrom m address items
holds_from m address [] bytes are all = tt
holds_from m address (item ∷ items) bytes are all =
    let joined : AreAt m address (are.0 ++ are.1) = subst (AreAt m address) are.2 all in
    let size = item_length item are.0 are.3 in
    let behind : AreAt m (address + item_size item) are.1 = subst (λ (n : ℕ). AreAt m (address + n) are.1) size (at_more m address are.0 are.1 joined) in
    (holds_item m address item are.0 are.3 (at_first m address are.0 are.1 joined), holds_from m (address + item_size item) items are.1 are.4 behind)
