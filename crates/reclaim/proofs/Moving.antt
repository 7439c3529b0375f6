-- Where moves lead.
use Rattle.std.proofs.Common.{◌≡◌, ℕ, ◌+◌, ◌*◌, ◌≤◌, zero, suc, cond, nat_lt, nat_le, refl, sym, subst, arith}
use Rattle.std.proofs.lemmas.Bool.Decides.{nat_tests}
use Rattle.reclaim.specs.Levels.{Moves, Chain, IsSettled, next_level_of}
use Rattle.reclaim.specs.declared.level.Level.{Level}
use Rattle.reclaim.specs.declared.level.Level.TheVariants.{High, Soft, Hard, Low}

-- 1 where the first number is less, and where it is no more, than the second
abbrev less_one : ℕ → ℕ → ℕ
less_one a b = cond (nat_lt a b) 1 0

abbrev most_one : ℕ → ℕ → ℕ
most_one a b = cond (nat_le a b) 1 0

-- the moves that are to come
abbrev pub moves_left : ℕ → ℕ → Level → ℕ
moves_left free total High = less_one (100 * free) (4 * total) + less_one (100 * free) (2 * total) + less_one (100 * free) (1 * total)
moves_left free total Soft = most_one (6 * total) (100 * free) + less_one (100 * free) (2 * total) + less_one (100 * free) (1 * total)
moves_left free total Hard = less_one (100 * free) (1 * total) + most_one (4 * total) (100 * free) + most_one (6 * total) (100 * free)
moves_left free total Low = most_one (2 * total) (100 * free) + most_one (4 * total) (100 * free) + most_one (6 * total) (100 * free)

pub few_left : (free total : ℕ) (level : Level) → moves_left free total level ≤ 3
few_left free total High = grind (arith, nat_tests)
few_left free total Soft = grind (arith, nat_tests)
few_left free total Hard = grind (arith, nat_tests)
few_left free total Low = grind (arith, nat_tests)

-- a move is one of them
pub one_less : (free total : ℕ) (from to : Level) → Moves free total from to → moves_left free total from ≡ moves_left free total to + 1
one_less free total High High h = absurd h
one_less free total High Soft h = grind (arith, nat_tests)
one_less free total High Hard h = absurd h
one_less free total High Low h = absurd h
one_less free total Soft High h = grind (arith, nat_tests)
one_less free total Soft Soft h = absurd h
one_less free total Soft Hard h = grind (arith, nat_tests)
one_less free total Soft Low h = absurd h
one_less free total Hard High h = absurd h
one_less free total Hard Soft h = grind (arith, nat_tests)
one_less free total Hard Hard h = absurd h
one_less free total Hard Low h = grind (arith, nat_tests)
one_less free total Low High h = absurd h
one_less free total Low Soft h = absurd h
one_less free total Low Hard h = grind (arith, nat_tests)
one_less free total Low Low h = absurd h

-- and leads to where the moves before it lead
pub same_next : (free total : ℕ) (from to : Level) → Moves free total from to → next_level_of free total to ≡ next_level_of free total from
same_next free total High High h = absurd h
same_next free total High Soft h = grind (arith, nat_tests)
same_next free total High Hard h = absurd h
same_next free total High Low h = absurd h
same_next free total Soft High h = grind (arith, nat_tests)
same_next free total Soft Soft h = absurd h
same_next free total Soft Hard h = grind (arith, nat_tests)
same_next free total Soft Low h = absurd h
same_next free total Hard High h = absurd h
same_next free total Hard Soft h = grind (arith, nat_tests)
same_next free total Hard Hard h = absurd h
same_next free total Hard Low h = grind (arith, nat_tests)
same_next free total Low High h = absurd h
same_next free total Low Soft h = absurd h
same_next free total Low Hard h = grind (arith, nat_tests)
same_next free total Low Low h = absurd h

pub settled_next : (free total : ℕ) (level : Level) → IsSettled free total level → next_level_of free total level ≡ level
settled_next free total High h = let stays = h Soft in grind (arith, nat_tests)
settled_next free total Soft h = let stays = h Hard in let rises = h High in grind (arith, nat_tests)
settled_next free total Hard h = let stays = h Low in let rises = h Soft in grind (arith, nat_tests)
settled_next free total Low h = let rises = h Hard in grind (arith, nat_tests)

pub chain_more : (free total moves : ℕ) (from to next : Level) → Chain free total moves from to → Moves free total to next → Chain free total (suc moves) from next
chain_more free total zero from to next same move = (next, subst (λ level. Moves free total level next) (sym same) move, refl)
chain_more free total (suc moves) from to next chain move = (chain.0, chain.1, chain_more free total moves chain.0 to next chain.2 move)
