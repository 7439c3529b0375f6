-- What writes of a text's front add up to.
use Rattle.std.proofs.Common.{◌≡◌, ℕ, List, Option, None, Some, ◌++◌, ◌-◌, ◌∙◌, ap, append_assoc, drop, length, sym, take, take-append-drop}
use Rattle.std.proofs.lemmas.List.{take_rest}
use Rattle.std.specs.Io.KnownBytes.{Appends, Keeps}

-- what stands behind known bytes stays, where they are kept
pub appends_kept : (a b c : Option (List ℕ)) (bs : List ℕ) → Appends a b bs → Keeps b c → Appends a c bs
appends_kept None b c bs p q = tt
appends_kept (Some x) None c bs p q = absurd p
appends_kept (Some x) (Some y) None bs p q = absurd q
appends_kept (Some x) (Some y) (Some z) bs p q = q ∙ p

-- the front of a text, and then as many bytes of its rest
pub front_moves : (text done rest : List ℕ) (n : ℕ) → text ≡ done ++ rest → text ≡ (done ++ take n rest) ++ take (length rest - n) (drop n rest)
front_moves text done rest n e =
    e ∙ ap (λ l. done ++ l) (sym (take-append-drop n rest)) ∙ sym (append_assoc done (take n rest) (drop n rest)) ∙ ap (λ l. (done ++ take n rest) ++ l) (sym (take_rest rest n))
