-- Bytes that are read one after another.
use Rattle.std.proofs.Common.{ℕ, ◌≡◌, ◌+◌, ◌<◌, false, is_some, List, length, take, set, Option, Some, None, refl, sym, ap, ◌∙◌, arith}
use Rattle.std.proofs.lemmas.List.{take_more_set}
use Rattle.machine.specs.Step.{Machine}
use Rattle.machine.specs.Replies.{byte_at, with_next, bytes_at}
use Rattle.machine.proofs.Replies.{moved, one_more, none_more}

-- a byte that has no place
no_place : (byte : Option ℕ) → is_some byte ≡ false → byte ≡ None
no_place None e = refl
no_place (Some byte) e = absurd (cc)

with_none : (before : Option (List ℕ)) → with_next before None ≡ None
with_none None = refl
with_none (Some bytes) = refl

pub not_readable : (m : Machine) (address k count : ℕ) → k < count → is_some (byte_at m (moved address k)) ≡ false → is_some (bytes_at m address count) ≡ false
not_readable m address k count h here =
    let next = one_more m address k ∙ ap (with_next (bytes_at m address k)) (no_place (byte_at m (moved address k)) here) ∙ with_none (bytes_at m address k) in
    ap is_some (none_more m address (k + 1) count (omega arith) next)

-- a byte that has a place, and is written after those before
pub read_more : (m : Machine) (address k byte : ℕ) (bytes : List ℕ) → k < length bytes → bytes_at m address k ≡ Some (take k bytes) → byte_at m (moved address k) ≡ Some byte → bytes_at m address (k + 1) ≡ Some (take (k + 1) (set bytes k byte))
read_more m address k byte bytes h before here =
    one_more m address k
    ∙ ap (λ (xs : Option (List ℕ)). with_next xs (byte_at m (moved address k))) before
    ∙ ap (with_next (Some (take k bytes))) here
    ∙ ap Some (sym (take_more_set bytes k byte h))
