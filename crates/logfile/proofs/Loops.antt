-- The loop that reads entries.
use Rattle.std.proofs.Common.{◌≡◌, ◌≢◌, ℕ, ◌-◌, ◌<◌, List, [], ◌∷◌, ◌++◌, length, take, drop, All, Some, sym, ap, ◌∙◌, subst, length-drop, append_assoc, length-append, arith}
use Rattle.std.proofs.lemmas.List.Elements.{All-push, All-same, All-nil}
use Rattle.std.proofs.lemmas.List.{flat_map_more}
use Rattle.std.proofs.Math.Seq.{take-length}
use Rattle.items.specs.declared.entry.Entry.{Entry}
use Rattle.items.specs.declared.entry.Entry.TheVariants as entry
use Rattle.logfile.specs.FileItems.{entry_bytes, body_bytes, IsFileEntry}
use Rattle.logfile.specs.Reading.{entry_at, Refuses}
use Rattle.logfile.proofs.Numbers.{IsBytes, drop_fits}
use Rattle.logfile.proofs.Bodies.{no_entries}
use Rattle.logfile.specs.Faults.{IsRefusal}
use Rattle.logfile.specs.declared.fault.ReadError.{ReadError}
use Rattle.logfile.specs.declared.fault.ReadError.TheVariants as error
use Rattle.logfile.proofs.Taken.{entry_taken}

-- what has been read, and what is left, are all that stands behind the header
pub record IsRead (file : List ℕ) (entries : List Entry) (rest : List ℕ) : Type 0 where
  pub told : drop 40 file ≡ body_bytes entries ++ rest
  pub each : All IsFileEntry entries
  pub fits : IsBytes rest

-- before the first
pub read_none : (file rest : List ℕ) (xs : List Entry) → IsBytes file → xs ≡ [] → rest ≡ take (length file - 40) (drop 40 file) → IsRead file xs rest
read_none file rest xs fits none is =
    let all : take (length file - 40) (drop 40 file) ≡ drop 40 file = rw (← length-drop 40 file) (take-length (drop 40 file)) in
    record {
      told = sym (is ∙ all) ∙ ap (λ (l : List Entry). body_bytes l ++ rest) (sym none);
      each = All-same IsFileEntry xs [] none (All-nil IsFileEntry);
      fits = subst IsBytes (sym (is ∙ all)) (drop_fits 40 file fits);
    }

-- one entry more
pub read_more : (file rest behind : List ℕ) (e : Entry) (xs ys : List Entry) → IsRead file xs rest → entry_at rest ≡ Some (e, behind) → ys ≡ xs ++ e ∷ [] → IsRead file ys behind
read_more file rest behind e xs ys before h is =
    let takes = entry_taken rest (e, behind) before.fits h in
    let front : body_bytes xs ++ rest ≡ (body_bytes xs ++ entry_bytes e) ++ behind =
    ap (λ (l : List ℕ). body_bytes xs ++ l) takes.split.split ∙ sym (append_assoc (body_bytes xs) (entry_bytes e) behind) in
    let more : body_bytes xs ++ entry_bytes e ≡ body_bytes (xs ++ e ∷ []) = flat_map_more entry_bytes [] xs e in
    record {
      told = before.told ∙ front ∙ ap (λ (l : List ℕ). l ++ behind) (more ∙ ap body_bytes (sym is));
      each = All-same IsFileEntry ys (xs ++ e ∷ []) is (All-push IsFileEntry xs e before.each takes.fits);
      fits = takes.split.more;
    }

entry_bytes-long : (e : Entry) → 0 < length (entry_bytes e)
unfolding entry_bytes
entry_bytes-long (entry.Steps seat count) = omega arith
entry_bytes-long (entry.One item) = omega arith

-- and less is left
pub read_less : (rest behind : List ℕ) (e : Entry) → IsBytes rest → entry_at rest ≡ Some (e, behind) → length behind < length rest
read_less rest behind e fits h =
    let split = (entry_taken rest (e, behind) fits h).split.split in
    omega (arith, ap length split, length-append (entry_bytes e) behind, entry_bytes-long e)

-- why there is none
pub read_refused : (file rest : List ℕ) (xs : List Entry) (e : ReadError) → IsRead file xs rest → rest ≢ [] → Refuses e (entry_at rest) → IsRefusal file e
read_refused file rest xs (error.Fault f) before some h =
    (h.1, no_entries file xs rest before.each before.told h.0 some)
read_refused file rest xs error.Memory before some h = tt
