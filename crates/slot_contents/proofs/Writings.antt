-- What was written to slots, and what is left of it.
use Rattle.std.proofs.Common.{◌≡◌, ℕ, ◌+◌, ◌<◌, ◌≤◌, ◌==◌, Bool, true, false, List, [], ◌∷◌, ◌++◌, Option, Some, None, if◌then◌else◌, map, inl, inr, refl, sym, ap, ◌∙◌, subst, arith, unwrap_or}
use Rattle.std.specs.Option.{IsSome}
use Rattle.std.specs.List.{flat_map, All}
use Rattle.std.proofs.lemmas.Bool.Decides.{eqb_tells}
use Rattle.std.proofs.lemmas.List.Elements.{All-nil, All-cons, All-head, All-tail}
use Rattle.sha2.specs.Sha256.{sha256}
use Rattle.frames.specs.Counts.{one_at, count_of}
use Rattle.frames.proofs.Counting.{count_cons, one_same, one_other}
use Rattle.swapstore.specs.Holding.{AreHeld, AreHeldByDigest, OthersStay}
use Rattle.slot_contents.specs.declared.content.Written.{Written}
use Rattle.slot_contents.specs.Shares.{found}
use Rattle.slot_contents.specs.Contents.{slots_of, written_to, without, HoldsIt}

if_true : {A : Type 0} (b : Bool) (x y : A) → b ≡ true → (if b then x else y) ≡ x
if_true true x y e = refl
if_true false x y e = absurd (cc)

if_false : {A : Type 0} (b : Bool) (x y : A) → b ≡ false → (if b then x else y) ≡ y
if_false true x y e = absurd (cc)
if_false false x y e = refl

-- ---- one more

pub at_its_slot : (w : Written) (ws : List Written) → written_to (w ∷ ws) w.slot ≡ Some w.bytes
at_its_slot w ws = elim (eqb_tells w.slot w.slot) [
  | inl same ↦ if_true (w.slot == w.slot) (Some w.bytes) (written_to ws w.slot) same.0
  | inr other ↦ absurd (other.1 refl)
]

pub elsewhere : (w : Written) (ws : List Written) → OthersStay w.slot (written_to ws) (written_to (w ∷ ws))
elsewhere w ws other apart = elim (eqb_tells w.slot other) [
  | inl same ↦ absurd (apart (sym same.1))
  | inr differs ↦ if_false (w.slot == other) (Some w.bytes) (written_to ws other) differs.0
]

-- ---- what is left

pub left_slots : (slot k : ℕ) (ws : List Written) → (k ≡ slot → ⊥) → count_of k (slots_of (without slot ws)) ≡ count_of k (slots_of ws)
left_slots slot k [] apart = refl
left_slots slot k (w ∷ ws) apart = elim (eqb_tells w.slot slot) [
  | inl same ↦
      let out : without slot (w ∷ ws) ≡ without slot ws = if_true (w.slot == slot) (without slot ws) (w ∷ without slot ws) same.0 in
      let none : one_at k w.slot ≡ 0 = one_other k w.slot (λ e. apart (sym e ∙ same.1)) in
      omega (arith, ap (λ (l : List Written). count_of k (slots_of l)) out, left_slots slot k ws apart, none, count_cons k w.slot (slots_of ws))
  | inr differs ↦
      let stays : without slot (w ∷ ws) ≡ w ∷ without slot ws = if_false (w.slot == slot) (without slot ws) (w ∷ without slot ws) differs.0 in
      omega (arith, ap (λ (l : List Written). count_of k (slots_of l)) stays, left_slots slot k ws apart, count_cons k w.slot (slots_of (without slot ws)), count_cons k w.slot (slots_of ws))
]

pub left_none : (slot : ℕ) (ws : List Written) → count_of slot (slots_of (without slot ws)) ≡ 0
left_none slot [] = refl
left_none slot (w ∷ ws) = elim (eqb_tells w.slot slot) [
  | inl same ↦
      let out : without slot (w ∷ ws) ≡ without slot ws = if_true (w.slot == slot) (without slot ws) (w ∷ without slot ws) same.0 in
      omega (arith, ap (λ (l : List Written). count_of slot (slots_of l)) out, left_none slot ws)
  | inr differs ↦
      let stays : without slot (w ∷ ws) ≡ w ∷ without slot ws = if_false (w.slot == slot) (without slot ws) (w ∷ without slot ws) differs.0 in
      omega (arith, ap (λ (l : List Written). count_of slot (slots_of l)) stays, left_none slot ws, count_cons slot w.slot (slots_of (without slot ws)), one_other slot w.slot differs.1)
]

-- of slots that are there once each, one is taken away
pub once_less : (slot : ℕ) (ws : List Written) → count_of slot (slots_of ws) ≡ 1 → (k : ℕ) → count_of k (slots_of (without slot ws)) + one_at k slot ≡ count_of k (slots_of ws)
once_less slot ws once k = elim (eqb_tells k slot) [
  | inl same ↦
      let e : count_of slot (slots_of (without slot ws)) + one_at slot slot ≡ count_of slot (slots_of ws) = omega (arith, left_none slot ws, one_same slot, once) in
      subst (λ (n : ℕ). count_of n (slots_of (without slot ws)) + one_at n slot ≡ count_of n (slots_of ws)) (sym same.1) e
  | inr differs ↦ omega (arith, left_slots slot k ws differs.1, one_other k slot (λ e. differs.1 (sym e)))
]

pub left_holds : (held : ℕ → Option (List ℕ)) (slot : ℕ) (ws : List Written) → All (HoldsIt held) ws → All (HoldsIt held) (without slot ws)
left_holds held slot [] all = all
left_holds held slot (w ∷ ws) all =
    let rest = left_holds held slot ws (All-tail (HoldsIt held) w ws all) in
    elim (eqb_tells w.slot slot) [
      | inl same ↦ subst (All (HoldsIt held)) (sym (if_true (w.slot == slot) (without slot ws) (w ∷ without slot ws) same.0)) rest
      | inr differs ↦
          subst (All (HoldsIt held)) (sym (if_false (w.slot == slot) (without slot ws) (w ∷ without slot ws) differs.0)) (All-cons (HoldsIt held) w (without slot ws) (All-head (HoldsIt held) w ws all) rest)
    ]

-- what was written to a slot and is left was written to it before
pub left_was_there : (slot : ℕ) (ws : List Written) (at : ℕ) (last : List ℕ) → written_to (without slot ws) at ≡ Some last → written_to ws at ≡ Some last
left_was_there slot [] at last is = is
left_was_there slot (w ∷ ws) at last is = elim (eqb_tells w.slot slot) [
  | inl same ↦
      let out : written_to (without slot ws) at ≡ Some last = ap (λ (l : List Written). written_to l at) (sym (if_true (w.slot == slot) (without slot ws) (w ∷ without slot ws) same.0)) ∙ is in
      let none : (at ≡ slot → ⊥) = λ e. not_there slot ws last (ap (written_to (without slot ws)) (sym e) ∙ out) in
      elsewhere w ws at (λ e. none (e ∙ same.1)) ∙ left_was_there slot ws at last out
  | inr differs ↦
      let stays : written_to (w ∷ without slot ws) at ≡ Some last = ap (λ (l : List Written). written_to l at) (sym (if_false (w.slot == slot) (without slot ws) (w ∷ without slot ws) differs.0)) ∙ is in
      elim (eqb_tells w.slot at) [
        | inl here ↦
            if_true (w.slot == at) (Some w.bytes) (written_to ws at) here.0 ∙ sym (if_true (w.slot == at) (Some w.bytes) (written_to (without slot ws) at) here.0) ∙ stays
        | inr there ↦
            if_false (w.slot == at) (Some w.bytes) (written_to ws at) there.0
            ∙ left_was_there slot ws at last (sym (if_false (w.slot == at) (Some w.bytes) (written_to (without slot ws) at) there.0) ∙ stays)
      ]
]
  where
    not_there : (slot : ℕ) (ws : List Written) (last : List ℕ) → written_to (without slot ws) slot ≡ Some last → ⊥
    not_there slot [] last is = absurd (cc)
    not_there slot (w ∷ ws) last is = elim (eqb_tells w.slot slot) [
      | inl same ↦ not_there slot ws last (ap (λ (l : List Written). written_to l slot) (sym (if_true (w.slot == slot) (without slot ws) (w ∷ without slot ws) same.0)) ∙ is)
      | inr differs ↦
          let stays : written_to (w ∷ without slot ws) slot ≡ Some last = ap (λ (l : List Written). written_to l slot) (sym (if_false (w.slot == slot) (without slot ws) (w ∷ without slot ws) differs.0)) ∙ is in
          not_there slot ws last (sym (elsewhere w (without slot ws) slot (λ e. differs.1 (sym e))) ∙ stays)
    ]

pub left_elsewhere : (slot : ℕ) (ws : List Written) → OthersStay slot (written_to ws) (written_to (without slot ws))
left_elsewhere slot [] other apart = refl
left_elsewhere slot (w ∷ ws) other apart = elim (eqb_tells w.slot slot) [
  | inl same ↦
      ap (λ (l : List Written). written_to l other) (if_true (w.slot == slot) (without slot ws) (w ∷ without slot ws) same.0) ∙ left_elsewhere slot ws other apart
      ∙ sym (elsewhere w ws other (λ e. apart (e ∙ same.1)))
  | inr differs ↦
      ap (λ (l : List Written). written_to l other) (if_false (w.slot == slot) (without slot ws) (w ∷ without slot ws) differs.0)
      ∙ ap (λ (o : Option (List ℕ)). if w.slot == other then Some w.bytes else o) (left_elsewhere slot ws other apart)
]

-- ---- what slots hold

pub is_written : (slot : ℕ) (ws : List Written) → 0 < count_of slot (slots_of ws) → IsSome (written_to ws slot)
is_written slot [] some = absurd (omega (arith, some))
is_written slot (w ∷ ws) some = elim (eqb_tells w.slot slot) [
  | inl same ↦ subst IsSome (sym (if_true (w.slot == slot) (Some w.bytes) (written_to ws slot) same.0)) refl
  | inr differs ↦
      subst IsSome (sym (if_false (w.slot == slot) (Some w.bytes) (written_to ws slot) differs.0)) (is_written slot ws (omega (arith, some, count_cons slot w.slot (slots_of ws), one_other slot w.slot differs.1)))
]

some_same : {A : Type 0} (a b : A) → Some a ≡ Some b → a ≡ b
some_same a b e = cc

pub holds_written : (held : ℕ → Option (List ℕ)) (ws : List Written) (slot : ℕ) (last : List ℕ) → All (HoldsIt held) ws → written_to ws slot ≡ Some last → AreHeld (held slot) last
holds_written held [] slot last all is = absurd (cc)
holds_written held (w ∷ ws) slot last all is = elim (eqb_tells w.slot slot) [
  | inl same ↦
      let bytes : w.bytes ≡ last = some_same w.bytes last (sym (if_true (w.slot == slot) (Some w.bytes) (written_to ws slot) same.0) ∙ is) in
      subst (AreHeld (held slot)) bytes (subst (λ (n : ℕ). AreHeld (held n) w.bytes) same.1 (All-head (HoldsIt held) w ws all))
  | inr differs ↦
      holds_written held ws slot last (All-tail (HoldsIt held) w ws all) (sym (if_false (w.slot == slot) (Some w.bytes) (written_to ws slot) differs.0) ∙ is)
]

known_read : (held : Option (List ℕ)) (bytes last : List ℕ) → AreHeld held last → IsSome held → AreHeldByDigest held bytes → sha256 bytes ≡ sha256 last → bytes ≡ last
known_read None bytes last was known read same = absurd (cc)
known_read (Some there) bytes last was known read same =
    let e : last ≡ there = was there refl in
    read there refl (same ∙ ap sha256 e) ∙ sym e

pub reads_written : (held : ℕ → Option (List ℕ)) (ws : List Written) (slot : ℕ) (last bytes : List ℕ) → All (HoldsIt held) ws → written_to ws slot ≡ Some last → IsSome (held slot)
    → AreHeldByDigest (held slot) bytes → sha256 bytes ≡ sha256 last → bytes ≡ last
reads_written held ws slot last bytes all is known read same = known_read (held slot) bytes last (holds_written held ws slot last all is) known read same

-- what slots hold that are written to by nobody, they hold after
pub moved_over : (held held' : ℕ → Option (List ℕ)) (ws : List Written) → ((k : ℕ) → 0 < count_of k (slots_of ws) → held' k ≡ held k) → All (HoldsIt held) ws → All (HoldsIt held') ws
moved_over held held' [] same all = All-nil (HoldsIt held')
moved_over held held' (w ∷ ws) same all =
    let first : 0 < count_of w.slot (slots_of (w ∷ ws)) = omega (arith, count_cons w.slot w.slot (slots_of ws), one_same w.slot) in
    All-cons (HoldsIt held') w ws (λ last is. All-head (HoldsIt held) w ws all last (sym (same w.slot first) ∙ is))
    (moved_over held held' ws (λ k some. same k (omega (arith, some, count_cons k w.slot (slots_of ws)))) (All-tail (HoldsIt held) w ws all))

-- what was found in a slot is what the store holds there
pub found_there : (held : ℕ → Option (List ℕ)) (slots : List ℕ) (slot : ℕ) (last : List ℕ) → written_to (found held slots) slot ≡ Some last → last ≡ unwrap_or (held slot) []
found_there held [] slot last is = absurd (cc)
found_there held (s ∷ slots) slot last is = elim (eqb_tells s slot) [
  | inl same ↦
      some_same last (unwrap_or (held slot) []) (sym is ∙ if_true (s == slot) (Some (unwrap_or (held s) [])) (written_to (found held slots) slot) same.0 ∙ ap (λ (n : ℕ). Some (unwrap_or (held n) [])) same.1)
  | inr differs ↦ found_there held slots slot last (sym (if_false (s == slot) (Some (unwrap_or (held s) [])) (written_to (found held slots) slot) differs.0) ∙ is)
]
