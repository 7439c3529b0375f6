-- Pages with all bits of a byte inverted.
use Rattle.std.proofs.Common.{ℕ, ◌≡◌, ◌-◌, ◌<◌, ◌^◌, List, length, get_or, set, arith, ap, sym, ◌∙◌}
use Rattle.std.proofs.lemmas.List.{get_or-set_same, set-set, set-get_or}
use Rattle.swapstore.specs.Memories.{with_inverted}

no_half : (b : ℕ) → 255 - b ≡ b → ⊥
no_half b same = omega arith

pub inverted_differs : (page : List ℕ) (at : ℕ) → at < length page → with_inverted page at ≡ page → ⊥
inverted_differs page at h same =
    let byte : get_or (with_inverted page at) at 0 ≡ 255 - get_or page at 0 = get_or-set_same page at (255 - get_or page at 0) 0 h in
    no_half (get_or page at 0) (sym byte ∙ ap (λ l. get_or l at 0) same)

pub inverted_twice : (page : List ℕ) (at : ℕ) → at < length page → get_or page at 0 < 2 ^ 8 → with_inverted (with_inverted page at) at ≡ page
inverted_twice page at h small =
    let b = get_or page at 0 in
    let byte : get_or (with_inverted page at) at 0 ≡ 255 - b = get_or-set_same page at (255 - b) 0 h in
    let back : 255 - get_or (with_inverted page at) at 0 ≡ b = omega (arith, byte) in
    set-set page at (255 - b) (255 - get_or (with_inverted page at) at 0) ∙ ap (set page at) back ∙ set-get_or page at 0
