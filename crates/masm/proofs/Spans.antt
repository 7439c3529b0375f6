-- The segments that the first pass has made: within memory, apart from one another, and at most 64.
use Rattle.std.proofs.Common.{◌≡◌, ℕ, zero, suc, ◌+◌, ◌<◌, ◌≤◌, ◌⊎◌, inl, inr, Bool, true, false, ◌==◌, ◌%◌, ◌&&◌, ◌||◌, not, nat_lt, nat_le, if◌then◌else◌, List, [], ◌∷◌, ◌++◌, length, length-append, refl, sym, ap, subst, arith, Option, Some, None}
use Rattle.std.specs.List.{list_any, AllByRecursion}
use Rattle.std.proofs.lemmas.Bool.{ltb-false}
use Rattle.masm_lines.specs.Statements.{Statement, Instruction, Transfer, Load, Word, AddressOf, Words, Byte, Data, Space, Org, Entry}
use Rattle.masm.specs.Places.{Layout, first_layout, next_address, spans, after_statement, overlaps, is_outside, is_one_too_many, is_misplaced, has_misplaced}
use Rattle.masm_lines.specs.Statements.{size_of, alignment_of}
use Rattle.masm.specs.declared.layout.Span.{Span}

pub zero_or_some : (n : ℕ) → (n ≡ 0) ⊎ (0 < n)
zero_or_some zero = inl refl
zero_or_some (suc n) = inr (omega arith)

some_size : (n : ℕ) → 0 < n → (n == 0) ≡ false
some_size n h = grind (arith, h)

-- tests that fail
pub neither : (a b : Bool) → (a || b) ≡ false → (a ≡ false) × (b ≡ false)
neither true b h = cc
neither false b h = (refl, h)

pub not_both : (a b : Bool) → (a && b) ≡ false → (a ≡ false) ⊎ (b ≡ false)
not_both true b h = inr h
not_both false b h = inl refl

behind_true : (a b : Bool) → a ≡ true → (a && b) ≡ false → b ≡ false
behind_true true b t h = h
behind_true false b t h = cc

-- no byte is in both
abbrev pub Apart : Span → Span → Type 0
Apart s t = (t.start + t.size ≤ s.start) ⊎ (s.start + s.size ≤ t.start)

-- it has bytes, and memory has all of them
pub record IsWithin (s : Span) : Type 0 where
  pub some : 0 < s.size
  pub start : 0x80000000 ≤ s.start
  pub end : s.start + s.size ≤ 0xa0000000

abbrev pub AllApart : List Span → Type 0
AllApart [] = Unit {0}
AllApart (s ∷ ss) = AllByRecursion (Apart s) ss × AllApart ss

pub record AreSound (ss : List Span) : Type 0 where
  pub count : length ss ≤ 64
  pub within : AllByRecursion IsWithin ss
  pub apart : AllApart ss

-- the present segment counts once it has a byte
pub record IsSound (l : Layout) : Type 0 where
  pub earlier : AreSound l.earlier
  pub room : 0 < l.current.size → length l.earlier < 64
  pub within : 0 < l.current.size → IsWithin l.current
  pub apart : 0 < l.current.size → AllByRecursion (λ s. Apart s l.current) l.earlier

all_append : {X : Type 0} (P : X → Type 0) (xs : List X) (x : X) → AllByRecursion P xs → P x → AllByRecursion P (xs ++ x ∷ [])
all_append P [] x all last = (last, tt)
all_append P (y ∷ xs) x all last = (all.0, all_append P xs x all.1 last)

apart_append : (ss : List Span) (t : Span) → AllApart ss → AllByRecursion (λ s. Apart s t) ss → AllApart (ss ++ t ∷ [])
apart_append [] t all last = (tt, tt)
apart_append (s ∷ ss) t all last = (all_append (Apart s) ss t all.0 last.0, apart_append ss t all.1 last.1)

length_append_one : (ss : List Span) (t : Span) → length (ss ++ t ∷ []) ≡ length ss + 1
length_append_one ss t = length-append ss (t ∷ [])

pub spans_sound : (l : Layout) → IsSound l → AreSound (spans l)
spans_sound l is = elim (zero_or_some l.current.size) [
  | inl none ↦ subst AreSound (sym (ap (λ n. if n == 0 then l.earlier else l.earlier ++ l.current ∷ []) none)) is.earlier
  | inr some ↦ subst AreSound (sym (ap (λ b. if b then l.earlier else l.earlier ++ l.current ∷ []) (some_size l.current.size some))) (record {
    count = omega (arith, length_append_one l.earlier l.current, is.room some);
    within = all_append IsWithin l.earlier l.current is.earlier.within (is.within some);
    apart = apart_append l.earlier l.current is.earlier.apart (is.apart some);
  })
]

-- a segment that no bytes of the present one touch is apart from it once it is longer
apart_longer : (s t : Span) (count : ℕ) → 0 < s.size → (0 < t.size → Apart s t) → overlaps (t.start + t.size) count s ≡ false → Apart s (record t { size = t.size + count })
apart_longer s t count some before free = elim (not_both (nat_lt s.start (t.start + t.size + count)) (nat_lt (t.start + t.size) (s.start + s.size)) free) [
  | inl under ↦ inl (omega (arith, ltb-false s.start (t.start + t.size + count) under))
  | inr over ↦ elim (zero_or_some t.size) [
    | inl none ↦ inr (omega (arith, none, ltb-false (t.start + t.size) (s.start + s.size) over))
    | inr held ↦ elim (before held) [
      | inl under ↦ absurd (omega (arith, some, under, ltb-false (t.start + t.size) (s.start + s.size) over))
      | inr below ↦ inr below
    ]
  ]
]

all_longer : (ss : List Span) (t : Span) (count : ℕ) → AllByRecursion IsWithin ss → (0 < t.size → AllByRecursion (λ s. Apart s t) ss) → list_any (overlaps (t.start + t.size) count) ss ≡ false → AllByRecursion (λ s. Apart s (record t { size = t.size + count })) ss
all_longer [] t count within before free = tt
all_longer (s ∷ ss) t count within before free =
    let parts = neither (overlaps (t.start + t.size) count s) (list_any (overlaps (t.start + t.size) count) ss) free in
    (apart_longer s t count within.0.some (λ h. (before h).0) parts.0, all_longer ss t count within.1 (λ h. (before h).1) parts.1)

-- what `is_misplaced` says of a statement with bytes
record HasPlace (l : Layout) (count : ℕ) : Type 0 where
  inside : is_outside (next_address l) count ≡ false
  free : list_any (overlaps (next_address l) count) l.earlier ≡ false
  room : is_one_too_many l ≡ false

has_place : (l : Layout) (s : Statement) → 0 < size_of s → is_misplaced l s ≡ false → HasPlace l (size_of s)
unfolding is_misplaced
has_place l s some h =
    let size = size_of s in
    let places = list_any (overlaps (next_address l) size) l.earlier || is_one_too_many l in
    let a = behind_true (nat_lt 0 size) _ (grind (arith, some)) h in
    let b = neither (not (next_address l % alignment_of s == 0)) (is_outside (next_address l) size || places) a in
    let d = neither (is_outside (next_address l) size) places b.1 in
    let e = neither (list_any (overlaps (next_address l) size) l.earlier) (is_one_too_many l) d.1 in
    record { inside = d.0; free = e.0; room = e.1 }

longer_sound : (l : Layout) (count : ℕ) → 0 < count → HasPlace l count → IsSound l → IsSound (record l { current = record l.current { size = l.current.size + count } })
longer_sound l count some place is =
    let edges = neither (nat_lt (next_address l) 0x80000000) (nat_lt 0xa0000000 (next_address l + count)) place.inside in
    let start = ltb-false (next_address l) 0x80000000 edges.0 in
    let end = ltb-false 0xa0000000 (next_address l + count) edges.1 in
    record {
      earlier = is.earlier;
      room = λ _. elim (zero_or_some l.current.size) [
        | inl none ↦ grind (arith, none, behind_true (l.current.size == 0) (nat_le 64 (length l.earlier)) (ap (λ n. n == 0) none) place.room)
        | inr held ↦ is.room held
      ];
      within = λ _. record {
        some = omega (arith, some);
        start = elim (zero_or_some l.current.size) [
          | inl none ↦ omega (arith, none, start)
          | inr held ↦ (is.within held).start
        ];
        end = omega (arith, end);
      };
      apart = λ _. all_longer l.earlier l.current count is.earlier.within is.apart place.free;
    }

put_sound : (l : Layout) (s : Statement) → is_misplaced l s ≡ false → IsSound l → IsSound (record l { current = record l.current { size = l.current.size + size_of s } })
put_sound l s fits is = elim (zero_or_some (size_of s)) [
  | inl none ↦ (let same : l.current.size ≡ l.current.size + size_of s = omega (arith, none) in subst (λ n. IsSound (record l { current = record l.current { size = n } })) same is)
  | inr some ↦ longer_sound l (size_of s) some (has_place l s some fits) is
]

pub after_sound : (l : Layout) (s : Option Statement) → has_misplaced l s ≡ false → IsSound l → IsSound (after_statement l s)
after_sound l None fits is = is
after_sound l (Some (Instruction i)) fits is = put_sound l (Instruction i) fits is
after_sound l (Some (Transfer i value)) fits is = put_sound l (Transfer i value) fits is
after_sound l (Some (Load rt value)) fits is = put_sound l (Load rt value) fits is
after_sound l (Some (Word n)) fits is = put_sound l (Word n) fits is
after_sound l (Some (AddressOf name)) fits is = put_sound l (AddressOf name) fits is
after_sound l (Some (Words values)) fits is = put_sound l (Words values) fits is
after_sound l (Some (Data alignment bytes)) fits is = put_sound l (Data alignment bytes) fits is
after_sound l (Some (Byte n)) fits is = put_sound l (Byte n) fits is
after_sound l (Some (Space n)) fits is = put_sound l (Space n) fits is
after_sound l (Some (Org start)) fits is = record { earlier = spans_sound l is; room = λ h. absurd (omega (arith, h)); within = λ h. absurd (omega (arith, h)); apart = λ h. absurd (omega (arith, h)) }
after_sound l (Some (Entry name)) fits is = put_sound l (Entry name) fits is

pub first_sound : IsSound first_layout
first_sound = record { earlier = record { count = omega arith; within = tt; apart = tt }; room = λ h. absurd (omega (arith, h)); within = λ h. absurd (omega (arith, h)); apart = λ h. absurd (omega (arith, h)) }
