-- Files that are not read to their end: one that is read up to one byte more than there is room for, and one that begins as no executable does.
use Rattle.std.proofs.Common.{◌≡◌, ℕ, ◌+◌, ◌≤◌, Bool, true, false, not, nat_eq, IsTrue, List, [], ◌∷◌, ◌++◌, length, take, Option, Some, None, IfSome, subst, sym, ap, ◌∙◌, arith, length-take}
use Rattle.std.proofs.lemmas.List.{take_all, take-take}
use Rattle.std.specs.Option.{option_map}
use Rattle.std.specs.List.{starts_with}
use lib.Pointwise.{pointwise}
use Rattle.std.specs.Io.{StartsWith}
use Rattle.elf32.specs.declared.fault.Fault.{Fault}
use Rattle.elf32.specs.declared.fault.Fault.TheVariants.{Short, Identification, Header, Table}
use Rattle.elf32.specs.Headers.{file_header}
use Rattle.elf32.specs.Faults.{first_fault_of, identification, is_short, has_wrong_identification, has_wrong_header, has_wrong_table, segment_faults}
use Rattle.commands.specs.Faults.{IsNoElf}

-- where what was read leaves room, it is the whole file
pub taken_whole : (limit room : ℕ) (all before got : List ℕ) → limit ≡ room + 1 → before ≡ [] → got ≡ before ++ take limit all → length got ≤ room → got ≡ all
taken_whole limit room all before got a b e l = grind (arith, length-take, take_all)

-- the same where the file's bytes may be unknown
whole_of : (file : Option (List ℕ)) (limit room : ℕ) (before got : List ℕ) → limit ≡ room + 1 → before ≡ [] → IfSome (option_map (take limit) file) (λ xs. got ≡ before ++ xs) → length got ≤ room → IfSome file (λ all. got ≡ all)
whole_of None limit room before got a b e l = tt
whole_of (Some all) limit room before got a b e l = taken_whole limit room all before got a b e l

pub whole_file : (file inner : Option (List ℕ)) (limit room : ℕ) (before got : List ℕ) → inner ≡ file → limit ≡ room + 1 → before ≡ [] → IfSome (option_map (take limit) inner) (λ xs. got ≡ before ++ xs) → length got ≤ room → IfSome file (λ all. got ≡ all)
whole_file file inner limit room before got i a b e l =
    let P : Option (List ℕ) → Type 0 = λ o. IfSome o (λ all. got ≡ all) in
    subst P i (whole_of inner limit room before got a b e l)

-- the first fault of a list whose first test is false and whose second is true
second_first : (short wrong : Bool) (more : List (Bool × Fault)) → short ≡ false → wrong ≡ true → first_fault_of ((short, Short) ∷ (wrong, Identification) ∷ more) ≡ Some Identification
second_first short wrong more s w = λ i. first_fault_of ((s i, Short) ∷ (w i, Identification) ∷ more)

-- the first seven bytes of a file are those of its first 52
same_start : (all first : List ℕ) → StartsWith all first → 52 ≤ length first → starts_with nat_eq all identification ≡ starts_with nat_eq first identification
same_start all first begins long =
    let fewer : 7 ≤ length first = grind (arith, long) in
    let seven : take 7 all ≡ take 7 first = sym (take-take 7 (length first) all fewer) ∙ ap (take 7) begins in
    ap (λ (xs : List ℕ). pointwise nat_eq identification xs) seven

-- where they are others than an executable's, the file is none
pub begins_as_none : (all first : List ℕ) → StartsWith all first → 52 ≤ length first → starts_with nat_eq first identification ≡ false → IsNoElf all
begins_as_none all first begins long wrong = λ pages.
    second_first (is_short all) (has_wrong_identification all)
    ((has_wrong_header (file_header all), Header) ∷ (has_wrong_table (length all) (file_header all), Table) ∷ segment_faults all pages)
    (grind (arith, begins, long, length-take))
    (ap not (same_start all first begins long ∙ wrong))

-- the same where the file's bytes may be unknown
pub begins_otherwise : (file : Option (List ℕ)) (first : List ℕ) (begins : Bool) → IfSome file (λ all. StartsWith all first) → 52 ≤ length first → begins ≡ starts_with nat_eq first identification → IfSome file (λ all. IsTrue (not begins) → IsNoElf all)
begins_otherwise None first begins is long value = tt
begins_otherwise (Some all) first true is long value = λ yes. absurd (cc)
begins_otherwise (Some all) first false is long value = λ yes. begins_as_none all first is long (sym value)
