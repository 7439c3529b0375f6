-- There is one level to which moves lead.
use Rattle.std.proofs.Common.{◌≡◌, ℕ, ◌+◌, ◌*◌, ◌<◌, ◌≤◌, zero, suc, refl, sym, ap, subst, ◌∙◌, ◌⊎◌, inl, inr, arith}
use Rattle.std.proofs.lemmas.Bool.{cases_lt}
use Rattle.reclaim.specs.Levels.{Moves, Chain, IsSettled, LeadsTo, next_level_of}
use Rattle.reclaim.specs.declared.level.Level.{Level}
use Rattle.reclaim.specs.declared.level.Level.TheVariants.{High, Soft, Hard, Low}
use Rattle.reclaim.proofs.Moving.{moves_left, few_left, one_less, same_next, settled_next}

pub chain_count : (free total moves : ℕ) (from to : Level) → Chain free total moves from to → moves + moves_left free total to ≡ moves_left free total from
chain_count free total zero from to same = omega (arith, ap (moves_left free total) same)
chain_count free total (suc moves) from to chain =
    let one = one_less free total from chain.0 chain.1 in
    let rest = chain_count free total moves chain.0 to chain.2 in
    omega (arith, one, rest)

pub chain_next : (free total moves : ℕ) (from to : Level) → Chain free total moves from to → next_level_of free total to ≡ next_level_of free total from
chain_next free total zero from to same = sym (ap (next_level_of free total) same)
chain_next free total (suc moves) from to chain = chain_next free total moves chain.0 to chain.2 ∙ same_next free total from chain.0 chain.1

pub few_moves : (free total moves : ℕ) (from to : Level) → Chain free total moves from to → moves ≤ 3
few_moves free total moves from to chain = let count = chain_count free total moves from to chain in let few = few_left free total from in omega (arith, count, few)

pub one_level : (free total : ℕ) (from to : Level) → LeadsTo free total from to → to ≡ next_level_of free total from
one_level free total from to h = sym (settled_next free total to h.settled) ∙ chain_next free total h.moves from to h.chain

-- there is one move from a level at most
pub one_move : (free total : ℕ) (from a b : Level) → Moves free total from a → Moves free total from b → a ≡ b
one_move free total High Soft Soft h k = refl
one_move free total Soft Hard Hard h k = refl
one_move free total Soft Hard High h k = absurd (omega (arith, h, k))
one_move free total Soft High High h k = refl
one_move free total Soft High Hard h k = absurd (omega (arith, h, k))
one_move free total Hard Low Low h k = refl
one_move free total Hard Low Soft h k = absurd (omega (arith, h, k))
one_move free total Hard Soft Soft h k = refl
one_move free total Hard Soft Low h k = absurd (omega (arith, h, k))
one_move free total Low Hard Hard h k = refl
one_move free total from a b h k = grind arith

high_stays : (free total : ℕ) → 4 * total ≤ 100 * free → IsSettled free total High
high_stays free total many Soft h = omega (arith, h, many)
high_stays free total many to h = h

soft_stays : (free total : ℕ) → 2 * total ≤ 100 * free → 100 * free < 6 * total → IsSettled free total Soft
soft_stays free total many few Hard h = omega (arith, h, many)
soft_stays free total many few High h = omega (arith, h, few)
soft_stays free total many few to h = h

hard_stays : (free total : ℕ) → 1 * total ≤ 100 * free → 100 * free < 4 * total → IsSettled free total Hard
hard_stays free total many few Low h = omega (arith, h, many)
hard_stays free total many few Soft h = omega (arith, h, few)
hard_stays free total many few to h = h

low_stays : (free total : ℕ) → 100 * free < 2 * total → IsSettled free total Low
low_stays free total few Hard h = omega (arith, h, few)
low_stays free total few to h = h

-- a move applies or none does
settled_or_moves : (free total : ℕ) (level : Level) → IsSettled free total level ⊎ ((to : Level) × Moves free total level to)
settled_or_moves free total High =
    elim (cases_lt (100 * free) (4 * total)) [ inl few ↦ inr (Soft, few) | inr many ↦ inl (high_stays free total many) ]
settled_or_moves free total Soft =
    elim (cases_lt (100 * free) (2 * total)) [
      | inl few ↦ inr (Hard, few)
      | inr many ↦ elim (cases_lt (100 * free) (6 * total)) [ inl few ↦ inl (soft_stays free total many few) | inr more ↦ inr (High, more) ]
    ]
settled_or_moves free total Hard =
    elim (cases_lt (100 * free) (1 * total)) [
      | inl few ↦ inr (Low, few)
      | inr many ↦ elim (cases_lt (100 * free) (4 * total)) [ inl few ↦ inl (hard_stays free total many few) | inr more ↦ inr (Soft, more) ]
    ]
settled_or_moves free total Low =
    elim (cases_lt (100 * free) (2 * total)) [ inl few ↦ inl (low_stays free total few) | inr many ↦ inr (Hard, many) ]

some_level : (free total n : ℕ) (from : Level) → moves_left free total from < n → (to : Level) × LeadsTo free total from to
some_level free total zero from none = absurd (omega arith)
some_level free total (suc n) from few =
    elim (settled_or_moves free total from) [
      | inl settled ↦ (from, record { moves = 0; chain = refl; settled = settled })
      | inr move ↦
          let less = one_less free total from move.0 move.1 in
          let rest = some_level free total n move.0 (omega (arith, few, less)) in
          (rest.0, record { moves = suc rest.1.moves; chain = (move.0, move.1, rest.1.chain); settled = rest.1.settled })
    ]

pub leads_there : (free total : ℕ) (from : Level) → LeadsTo free total from (next_level_of free total from)
leads_there free total from =
    let found = some_level free total (suc (moves_left free total from)) from (omega arith) in
    subst (LeadsTo free total from) (one_level free total from found.0 found.1) found.1

pub next_stays : (free total : ℕ) (level : Level) → next_level_of free total (next_level_of free total level) ≡ next_level_of free total level
next_stays free total level = settled_next free total (next_level_of free total level) (leads_there free total level).settled
