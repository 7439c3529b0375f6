-- Log files of version 2: their fields, and what stands behind them.
use Rattle.std.proofs.Common.{◌≡◌, ℕ, ◌+◌, ◌<◌, ◌≤◌, ◌^◌, ◌⊎◌, inl, inr, lit<, lit≤, subst, List, ◌++◌, length, take, drop, refl, sym, ap, ◌∙◌, length-drop, length-append, append_assoc, arith}
use Rattle.std.specs.Int.{from_le_bytes, w32}
use Rattle.std.proofs.lemmas.Nat.{le_bytes_4, from_le_bytes-to_le_bytes_4}
use Rattle.std.proofs.lemmas.List.{length-take, length-take-le, take-take, drop-take, drop-drop}
use Rattle.mips_cp0.specs.Profiles.{profile_numbers}
use Rattle.mips_cp0.specs.declared.profile.Profile.{Profile}
use Rattle.mips_cp0.specs.declared.profile.Profile.TheVariants.{One, Two}
use Rattle.items.specs.declared.entry.Entry.{Entry}
use Rattle.logfile.specs.FileItems.{word, body_bytes}
use Rattle.logfile.specs.Files.{HasHeader, HasEntries}
use Rattle.logfile.specs.Faults.{pages_in, digest_in, number_of, Fails, IsFault}
use Rattle.logfile.specs.Versions.{second_magic, IsSecond, IsNotSecond, fields, profile_in, HasNumber, field_bytes, IsPagesOf, HasFields, HasHeaderAs, HasEntriesAs, StandsForAs, rank_of, FailsFields, FailsAs, IsFieldsFault, IsFaultAs}
use Rattle.logfile.specs.declared.fault.LogFault.{LogFault}
use Rattle.logfile.specs.declared.fault.LogFault.TheVariants as fault
use Rattle.logfile.proofs.Bodies.{same_entries}
use Rattle.logfile.proofs.Headers.{fields_of_header, front_of, no_header_fault}
use Rattle.logfile.proofs.Numbers.{IsBytes, take_fits, drop_fits}

pub fields_made : (bytes digest : List ℕ) (profile : Profile) (pages : ℕ) → 40 ≤ length bytes → IsBytes bytes → length digest ≡ 32 → HasNumber profile (profile_in bytes) → pages ≡ pages_in bytes → 2 ≤ pages → pages ≤ (profile_numbers profile).most_pages → digest_in bytes ≡ digest → HasFields bytes digest profile pages
unfolding field_bytes
fields_made bytes digest profile pages long fits whole named count least most of =
    let front : word (profile_numbers profile).number ≡ take 4 bytes =
    le_bytes_4 (take 4 bytes) (profile_numbers profile).number (length-take-le 4 bytes (omega (arith, long))) (take_fits 4 bytes fits) named in
    let four : length (take 4 (drop 4 bytes)) ≡ 4 = length-take-le 4 (drop 4 bytes) (omega (arith, length-drop 4 bytes, long)) in
    let number : word pages ≡ take 4 (drop 4 bytes) = le_bytes_4 (take 4 (drop 4 bytes)) pages four (take_fits 4 (drop 4 bytes) (drop_fits 4 bytes fits)) count in
    record {
      bytes = fields_of_header bytes ∙ cc;
      whole = whole;
      range = record { least = least; most = most };
    }

length-field_bytes : (profile : Profile) (pages : ℕ) (digest : List ℕ) → length digest ≡ 32 → length (field_bytes profile pages digest) ≡ 40
unfolding field_bytes
length-field_bytes profile pages digest whole = omega arith

number_fits : (profile : Profile) → (profile_numbers profile).number < 2 ^ 32
number_fits One = omega arith
number_fits Two = omega arith

most_fits : (profile : Profile) → (profile_numbers profile).most_pages < 2 ^ 32
most_fits One = omega arith
most_fits Two = omega arith

pub one_number : (p q : Profile) → (profile_numbers p).number ≡ (profile_numbers q).number → p ≡ q
one_number One One same = refl
one_number One Two same = absurd (omega (arith, same))
one_number Two One same = absurd (omega (arith, same))
one_number Two Two same = refl

-- what the fields are
fields_are : (bytes digest : List ℕ) (profile : Profile) (pages : ℕ) → take 40 bytes ≡ field_bytes profile pages digest → pages < 2 ^ 32 → HasNumber profile (profile_in bytes) × (pages_in bytes ≡ pages) × (digest_in bytes ≡ digest)
unfolding field_bytes
fields_are bytes digest profile pages h fits =
    let front : take 4 bytes ≡ word (profile_numbers profile).number = sym (take-take 4 40 bytes (lit≤ tt)) ∙ ap (take 4) h in
    let number : take 4 (drop 4 bytes) ≡ word pages = sym (drop-take 4 4 bytes) ∙ ap (drop 4) (sym (take-take 8 40 bytes (lit≤ tt)) ∙ ap (take 8) h) in
    let rest : digest_in bytes ≡ digest = sym (drop-take 8 32 bytes) ∙ ap (drop 8) h in (
      sym (ap (from_le_bytes w32) front ∙ from_le_bytes-to_le_bytes_4 (profile_numbers profile).number (number_fits profile)),
      ap (from_le_bytes w32) number ∙ from_le_bytes-to_le_bytes_4 pages fits,
      rest,
    )

-- no check refuses right fields
pub no_fields_fault : (bytes digest : List ℕ) (profile : Profile) (pages : ℕ) (f : LogFault) → HasFields bytes digest profile pages → rank_of f < 5 → FailsFields f bytes digest → ⊥
no_fields_fault bytes digest profile pages fault.Short has early h =
    absurd (omega (arith, h, ap length has.bytes, length-field_bytes profile pages digest has.whole, length-take 40 bytes))
no_fields_fault bytes digest profile pages fault.Profile has early h =
    h profile (fields_are bytes digest profile pages has.bytes (omega (arith, has.range.most, most_fits profile))).0
no_fields_fault bytes digest profile pages fault.Header has early h =
    let are = fields_are bytes digest profile pages has.bytes (omega (arith, has.range.most, most_fits profile)) in
    h profile are.0 (record { least = omega (arith, are.1, has.range.least); most = omega (arith, are.1, has.range.most) })
no_fields_fault bytes digest profile pages fault.Image has early h =
    h (fields_are bytes digest profile pages has.bytes (omega (arith, has.range.most, most_fits profile))).2
no_fields_fault bytes digest profile pages fault.Body has early h = absurd (omega (arith, early))

-- a fault of a file of version 2 is that of its fields
pub second_fault : (file digest : List ℕ) (f : LogFault) → IsSecond file → IsFieldsFault (fields file) digest f → IsFaultAs file digest f
second_fault file digest f is faulty = record {
  fails = inr (is, faulty.fails);
  first = λ earlier less. second_only earlier less;
}
  where
    second_only : (earlier : LogFault) → rank_of earlier < rank_of f → FailsAs earlier file digest → ⊥
    second_only earlier less (inl other) = other.0 is
    second_only earlier less (inr same) = faulty.first earlier less same.1

-- the checks of version 1 have the same order by their numbers
in_order : (earlier f : LogFault) → number_of f ≤ 3 → rank_of earlier < rank_of f → (number_of earlier < number_of f) ⊎ (earlier ≡ fault.Profile)
in_order fault.Profile f small less = inr refl
in_order fault.Short fault.Short small less = absurd (omega (arith, less))
in_order fault.Short fault.Header small less = inl (lit< tt)
in_order fault.Short fault.Image small less = inl (lit< tt)
in_order fault.Short fault.Body small less = absurd (omega (arith, small))
in_order fault.Short fault.Profile small less = absurd (omega (arith, small))
in_order fault.Header fault.Short small less = absurd (omega (arith, less))
in_order fault.Header fault.Header small less = absurd (omega (arith, less))
in_order fault.Header fault.Image small less = inl (lit< tt)
in_order fault.Header fault.Body small less = absurd (omega (arith, small))
in_order fault.Header fault.Profile small less = absurd (omega (arith, small))
in_order fault.Image fault.Short small less = absurd (omega (arith, less))
in_order fault.Image fault.Header small less = absurd (omega (arith, less))
in_order fault.Image fault.Image small less = absurd (omega (arith, less))
in_order fault.Image fault.Body small less = absurd (omega (arith, small))
in_order fault.Image fault.Profile small less = absurd (omega (arith, small))
in_order fault.Body fault.Short small less = absurd (omega (arith, less))
in_order fault.Body fault.Header small less = absurd (omega (arith, less))
in_order fault.Body fault.Image small less = absurd (omega (arith, less))
in_order fault.Body fault.Body small less = absurd (omega (arith, small))
in_order fault.Body fault.Profile small less = absurd (omega (arith, small))

pub first_fault : (file digest : List ℕ) (f : LogFault) → IsNotSecond file → IsFault file digest f → number_of f ≤ 3 → IsFaultAs file digest f
first_fault file digest f not faulty small = record {
  fails = inl (not, faulty.fails);
  first = λ earlier less. first_only earlier less;
}
  where
    by_order : (earlier : LogFault) → (number_of earlier < number_of f) ⊎ (earlier ≡ fault.Profile) → Fails earlier file digest → ⊥
    by_order earlier (inl less) fails = faulty.first earlier less fails
    by_order earlier (inr is) fails = subst (λ (g : LogFault). Fails g file digest) is fails

    first_only : (earlier : LogFault) → rank_of earlier < rank_of f → FailsAs earlier file digest → ⊥
    first_only earlier less (inl same) = by_order earlier (in_order earlier f small less) same.1
    first_only earlier less (inr other) = not other.0

-- the file that was written has its header and its entries
parts_as : (file digest : List ℕ) (profile : Profile) (pages : ℕ) (entries : List Entry) → StandsForAs file profile pages digest entries → IsSecond file × (take 40 (fields file) ≡ field_bytes profile pages digest) × (drop 40 (fields file) ≡ body_bytes entries)
parts_as file digest profile pages entries for =
    let behind = field_bytes profile pages digest ++ body_bytes entries in
    let split = front_of 4 file second_magic behind (for.bytes ∙ append_assoc second_magic (field_bytes profile pages digest) (body_bytes entries)) refl in
    let rest = front_of 40 (fields file) (field_bytes profile pages digest) (body_bytes entries) split.1 (length-field_bytes profile pages digest for.whole) in
    (split.0, rest.0, rest.1)

pub has_header_as : (file digest : List ℕ) (profile : Profile) (pages : ℕ) (entries : List Entry) → IsPagesOf profile pages → StandsForAs file profile pages digest entries → HasHeaderAs file digest profile pages
has_header_as file digest profile pages entries range for =
    let parts = parts_as file digest profile pages entries for in
    inr (parts.0, record { bytes = parts.1; whole = for.whole; range = range })

pub has_entries_as : (file digest : List ℕ) (profile : Profile) (pages : ℕ) (entries : List Entry) → StandsForAs file profile pages digest entries → HasEntriesAs file entries
has_entries_as file digest profile pages entries for =
    let parts = parts_as file digest profile pages entries for in
    inr (parts.0, record { bytes = parts.2; each = for.each })

-- no file has two lists of entries
pub one_list : (file : List ℕ) (xs ys : List Entry) → HasEntriesAs file xs → HasEntriesAs file ys → xs ≡ ys
one_list file xs ys (inl p) (inl q) = same_entries xs ys p.1.each q.1.each (sym p.1.bytes ∙ q.1.bytes)
one_list file xs ys (inl p) (inr q) = absurd (p.0 q.0)
one_list file xs ys (inr p) (inl q) = absurd (q.0 p.0)
one_list file xs ys (inr p) (inr q) = same_entries xs ys p.1.each q.1.each (sym p.1.bytes ∙ q.1.bytes)

-- no check of the header refuses a right one
pub no_fault_as : (file digest : List ℕ) (profile : Profile) (pages : ℕ) (f : LogFault) → HasHeaderAs file digest profile pages → rank_of f < 5 → FailsAs f file digest → ⊥
no_fault_as file digest profile pages f (inl has) early (inr other) = has.0 other.0
no_fault_as file digest profile pages f (inr has) early (inl other) = other.0 has.0
no_fault_as file digest profile pages f (inr has) early (inr fails) = no_fields_fault (fields file) digest profile pages f has.1 early fails.1
no_fault_as file digest profile pages f (inl has) early (inl fails) = by_order f early fails.1
  where
    by_order : (f : LogFault) → rank_of f < 5 → Fails f file digest → ⊥
    by_order fault.Short early fails = no_header_fault file digest pages fault.Short has.1.1 (lit< tt) fails
    by_order fault.Profile early fails = fails
    by_order fault.Header early fails = no_header_fault file digest pages fault.Header has.1.1 (lit< tt) fails
    by_order fault.Image early fails = no_header_fault file digest pages fault.Image has.1.1 (lit< tt) fails
    by_order fault.Body early fails = absurd (omega (arith, early))
