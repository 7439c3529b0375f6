-- The bytes of an entry, whatever follows them, are read as that entry.
use Rattle.std.proofs.Common.{◌≡◌, ℕ, ◌<◌, ◌≤◌, ◌^◌, ◌==◌, false, List, ◌∷◌, ◌++◌, length, Some, refl, ◌∙◌, arith}
use Rattle.std.proofs.lemmas.Bool.{lt-ltb, ne_eqb}
use Rattle.items.specs.declared.item.What.{What}
use Rattle.items.specs.declared.item.What.TheVariants as what
use Rattle.items.specs.declared.entry.Entry.{Entry}
use Rattle.items.specs.declared.entry.Entry.TheVariants as entry
use Rattle.logfile.specs.FileItems.{half, word, tag_of, fields_of, entry_bytes, FitsFields, IsFileEntry}
use Rattle.logfile.specs.Reading.{Read, ◌>>=◌, input_at, target_at, poke_at, write_at, what_at, steps_at, fields_at, entry_at}
use Rattle.logfile.proofs.Numbers.{word_again, half_again, bytes_again}

bound : {A B : Type 0} (r : Read A) (next : A × List ℕ → Read B) (x : A × List ℕ) → r ≡ Some x → (r >>= next) ≡ next x
bound r next x h = rw h refl

steps_again : (seat count : ℕ) (rest : List ℕ) → 1 ≤ count → count < 2 ^ 32 → steps_at seat (word count ++ rest) ≡ Some (entry.Steps seat count, rest)
unfolding steps_at
steps_again seat count rest some fits =
    bound _ _ (count, rest) (word_again count rest fits) ∙ rw (ne_eqb count 0 (λ e. omega arith)) refl

target_again : (pages : ℕ) (rest : List ℕ) → pages < 2 ^ 32 → target_at (word pages ++ rest) ≡ Some (what.Target pages, rest)
unfolding target_at
target_again pages rest fits = bound _ _ (pages, rest) (word_again pages rest fits)

poke_again : (register value : ℕ) (rest : List ℕ) → register < 38 → value < 2 ^ 32 → poke_at (register ∷ word value ++ rest) ≡ Some (what.Poke register value, rest)
unfolding poke_at
poke_again register value rest known fits =
    rw (lt-ltb register 38 known) (bound _ _ (value, rest) (word_again value rest fits))

write_again : (address : ℕ) (bytes rest : List ℕ) → address < 2 ^ 32 → length bytes < 2 ^ 16 → write_at ((word address ++ half (length bytes) ++ bytes) ++ rest) ≡ Some (what.Write address bytes, rest)
unfolding write_at
write_again address bytes rest fits few =
    bound _ _ (address, half (length bytes) ++ (bytes ++ rest)) (word_again address (half (length bytes) ++ (bytes ++ rest)) fits)
    ∙ bound _ _ (length bytes, bytes ++ rest) (half_again (length bytes) (bytes ++ rest) few)
    ∙ bound _ _ (bytes, rest) (bytes_again bytes rest)

what_again : (w : What) (rest : List ℕ) → FitsFields w → what_at (tag_of w) (fields_of w ++ rest) ≡ Some (w, rest)
unfolding what_at input_at
what_again what.Step rest fits = absurd fits
what_again (what.In byte) rest fits = refl
what_again what.Drain rest fits = refl
what_again (what.Target pages) rest fits = target_again pages rest fits
what_again (what.Poke register value) rest fits = poke_again register value rest fits.0 fits.1
what_again (what.Write address bytes) rest fits = write_again address bytes rest fits.0 fits.1

-- an item that isn't steps has another tag
other_tag : (w : What) → FitsFields w → (tag_of w == 1) ≡ false
other_tag what.Step fits = absurd fits
other_tag (what.In byte) fits = refl
other_tag what.Drain fits = refl
other_tag (what.Target pages) fits = refl
other_tag (what.Poke register value) fits = refl
other_tag (what.Write address bytes) fits = refl

pub entry_again : (e : Entry) (rest : List ℕ) → IsFileEntry e → entry_at (entry_bytes e ++ rest) ≡ Some (e, rest)
unfolding entry_at fields_at entry_bytes
entry_again (entry.Steps seat count) rest fits =
    rw (lt-ltb seat 4 fits.0) (steps_again seat count rest fits.1 fits.2)
entry_again (entry.One item) rest fits =
    rw (lt-ltb item.seat 4 fits.0, other_tag item.what fits.1) (bound _ _ (item.what, rest) (what_again item.what rest fits.1))
