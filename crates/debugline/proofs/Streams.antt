-- The lines of a stream, byte by byte.
use Rattle.std.proofs.Common.{◌≡◌, ◌≢◌, ℕ, zero, suc, ◌+◌, ◌≤◌, List, [], ◌∷◌, ◌++◌, length, map, refl, sym, ◌∙◌, ap, subst, arith, Bool, true, false, append_assoc, length-append, if◌then◌else◌}
use Rattle.std.specs.Prelude.{nat_le, nat_lt, ◌==◌, replicate}
use Rattle.std.specs.List.{AllByRecursion, flat_map}
use Rattle.std.proofs.lemmas.Bool.Decides.{nat_tests}
use Rattle.std.proofs.lemmas.Grind.{flat_map-append}
use Rattle.std.proofs.lemmas.List.{append-nil, map-append}
use Rattle.debugline.specs.Lines.{Line, Text, Long, most_bytes, end, line_of, HasNoEnd, ended, IsLines, IsRest, with_byte}

all_more : {A : Type 0} (P : A → Type 0) (xs : List A) (x : A) → AllByRecursion P xs → P x → AllByRecursion P (xs ++ x ∷ [])
all_more P [] x h p = (p, tt)
all_more P (y ∷ ys) x h p = (h.0, all_more P ys x h.1 p)

-- a line with a byte more
one_longer : (n : ℕ) → nat_lt n most_bytes ≡ nat_le (n + 1) most_bytes
one_longer n = grind (arith, nat_tests)

too_long : (n : ℕ) → nat_le n most_bytes ≡ false → nat_le (n + 1) most_bytes ≡ false
too_long n h = grind (arith, nat_tests, h)

line_more_by : (bytes : List ℕ) (byte : ℕ) (b : Bool) → nat_le (length bytes) most_bytes ≡ b → with_byte (if b then Text bytes else Long) byte ≡ line_of (bytes ++ byte ∷ [])
line_more_by bytes byte true h = rw (length-append bytes (byte ∷ []), one_longer (length bytes)) refl
line_more_by bytes byte false h = rw (length-append bytes (byte ∷ []), too_long (length bytes) h) refl

line_more : (bytes : List ℕ) (byte : ℕ) → with_byte (line_of bytes) byte ≡ line_of (bytes ++ byte ∷ [])
line_more bytes byte = line_more_by bytes byte (nat_le (length bytes) most_bytes) refl

-- a stream of which nothing has come
pub nothing : IsLines [] [] (Text [])
nothing = record { whole = []; last = []; splits = record { stream_is = refl; no_end_within = tt; no_end_behind = tt }; lines_are = refl; rest_is = refl }

-- a byte more that ends no line
pub byte_more : (stream : List ℕ) (byte : ℕ) (lines : List Line) (rest : Line) → byte ≢ end → IsLines stream lines rest → IsLines (stream ++ byte ∷ []) lines (with_byte rest byte)
byte_more stream byte lines rest other h = record {
  whole = h.whole;
  last = h.last ++ byte ∷ [];
  splits = record {
    stream_is = ap (λ (s : List ℕ). s ++ byte ∷ []) h.splits.stream_is ∙ append_assoc (flat_map ended h.whole) h.last (byte ∷ []);
    no_end_within = h.splits.no_end_within;
    no_end_behind = all_more (λ b. b ≢ end) h.last byte h.splits.no_end_behind other;
  };
  lines_are = h.lines_are;
  rest_is = ap (λ (r : Line). with_byte r byte) h.rest_is ∙ line_more h.last byte;
}

whole_more : (whole : List (List ℕ)) (last : List ℕ) → (flat_map ended whole ++ last) ++ end ∷ [] ≡ flat_map ended (whole ++ last ∷ []) ++ []
whole_more whole last = simp (flat_map-append, append_assoc, append-nil)

-- a byte more that ends a line
pub line_ended : (stream : List ℕ) (lines : List Line) (rest : Line) → IsLines stream lines rest → IsLines (stream ++ end ∷ []) (lines ++ rest ∷ []) (Text [])
line_ended stream lines rest h = record {
  whole = h.whole ++ h.last ∷ [];
  last = [];
  splits = record {
    stream_is = ap (λ (s : List ℕ). s ++ end ∷ []) h.splits.stream_is ∙ whole_more h.whole h.last;
    no_end_within = all_more HasNoEnd h.whole h.last h.splits.no_end_within h.splits.no_end_behind;
    no_end_behind = tt;
  };
  lines_are = ap (λ (r : Line). lines ++ r ∷ []) h.rest_is ∙ ap (λ (l : List Line). l ++ line_of h.last ∷ []) h.lines_are ∙ sym (map-append line_of h.whole (h.last ∷ []));
  rest_is = refl;
}

-- a stream with a byte more, whichever it is
by_byte : (stream bs : List ℕ) (b : ℕ) (lines : List Line) (rest : Line) (t : Bool) → (b == end) ≡ t → IsLines stream lines rest
    → ((ls : List Line) (r : Line) → IsLines (stream ++ b ∷ []) ls r → (ls' : List Line) × ((r' : Line) × IsLines ((stream ++ b ∷ []) ++ bs) ls' r'))
    → (ls : List Line) × ((r : Line) × IsLines ((stream ++ b ∷ []) ++ bs) ls r)
by_byte stream bs b lines rest true e h later =
    let is : b ≡ end = grind (arith, nat_tests, e) in
    later (lines ++ rest ∷ []) (Text []) (subst (λ (x : ℕ). IsLines (stream ++ x ∷ []) (lines ++ rest ∷ []) (Text [])) (sym is) (line_ended stream lines rest h))
by_byte stream bs b lines rest false e h later = later lines (with_byte rest b) (byte_more stream b lines rest (other e) h)
  where
    other : (b == end) ≡ false → b ≢ end
    other e = λ is. grind (arith, nat_tests, e, is)

-- the lines of a stream that goes on
goes_on : (stream more : List ℕ) (lines : List Line) (rest : Line) → IsLines stream lines rest → (ls : List Line) × ((r : Line) × IsLines (stream ++ more) ls r)
goes_on stream [] lines rest h = (lines, (rest, rw append-nil h))
goes_on stream (b ∷ bs) lines rest h =
    let joined : (stream ++ b ∷ []) ++ bs ≡ stream ++ b ∷ bs = append_assoc stream (b ∷ []) bs in
    let P : List ℕ → Type 0 = λ s. (ls : List Line) × ((r : Line) × IsLines s ls r) in
    subst P joined (by_byte stream bs b lines rest (b == end) refl h (λ ls r k. goes_on (stream ++ b ∷ []) bs ls r k))

pub has_lines : (stream : List ℕ) → (lines : List Line) × ((rest : Line) × IsLines stream lines rest)
has_lines stream = goes_on [] stream [] (Text []) nothing

-- bytes before the first end are told by it
first_end : (a b x y : List ℕ) → HasNoEnd a → HasNoEnd b → ended a ++ x ≡ ended b ++ y → (a ≡ b) × (x ≡ y)
first_end [] [] x y free free' e = (refl, cc)
first_end [] (b ∷ bs) x y free free' e = absurd (free'.0 (cc))
first_end (a ∷ as') [] x y free free' e = absurd (free.0 (cc))
first_end (a ∷ as') (b ∷ bs) x y free free' e =
    let head : a ≡ b = cc in
    let tail : ended as' ++ x ≡ ended bs ++ y = cc in
    let more = first_end as' bs x y free.1 free'.1 tail in
    (rw (head, more.0) refl, more.1)

-- bytes without an end have no line before them
no_end_in : (r a y : List ℕ) → HasNoEnd r → r ≡ ended a ++ y → ⊥
no_end_in [] [] y free e = cc
no_end_in [] (b ∷ bs) y free e = cc
no_end_in (c ∷ cs) [] y free e = free.0 (cc)
no_end_in (c ∷ cs) (b ∷ bs) y free e = no_end_in cs bs y free.1 (cc)

one_split : (a b : List (List ℕ)) (r s : List ℕ) → AllByRecursion HasNoEnd a → AllByRecursion HasNoEnd b → HasNoEnd r → HasNoEnd s → flat_map ended a ++ r ≡ flat_map ended b ++ s → (a ≡ b) × (r ≡ s)
one_split [] [] r s as' bs' free free' e = (refl, e)
one_split [] (b ∷ bs) r s as' bs' free free' e = absurd (no_end_in r b (flat_map ended bs ++ s) free (e ∙ append_assoc (ended b) (flat_map ended bs) s))
one_split (a ∷ more) [] r s as' bs' free free' e = absurd (no_end_in s a (flat_map ended more ++ r) free' (sym e ∙ append_assoc (ended a) (flat_map ended more) r))
one_split (a ∷ more) (b ∷ bs) r s as' bs' free free' e =
    let first = first_end a b (flat_map ended more ++ r) (flat_map ended bs ++ s) as'.0 bs'.0 (sym (append_assoc (ended a) (flat_map ended more) r) ∙ e ∙ append_assoc (ended b) (flat_map ended bs) s) in
    let rest = one_split more bs r s as'.1 bs'.1 free free' first.1 in
    (rw (first.0, rest.0) refl, rest.1)

pub same_lines : (stream : List ℕ) (lines others : List Line) (rest other : Line) → IsLines stream lines rest → IsLines stream others other → (lines ≡ others) × (rest ≡ other)
same_lines stream lines others rest other h k =
    let same = one_split h.whole k.whole h.last k.last h.splits.no_end_within k.splits.no_end_within h.splits.no_end_behind k.splits.no_end_behind (sym h.splits.stream_is ∙ k.splits.stream_is) in
    (h.lines_are ∙ ap (map line_of) same.0 ∙ sym k.lines_are, h.rest_is ∙ ap line_of same.1 ∙ sym k.rest_is)

rest_by : (bytes : List ℕ) (b : Bool) → nat_le (length bytes) most_bytes ≡ b → HasNoEnd bytes → IsRest (if b then Text bytes else Long)
rest_by bytes true e free = (grind (arith, nat_tests, e), free)
rest_by bytes false e free = tt

pub left_is_rest : (stream : List ℕ) (lines : List Line) (rest : Line) → IsLines stream lines rest → IsRest rest
left_is_rest stream lines rest h = subst IsRest (sym h.rest_is) (rest_by h.last (nat_le (length h.last) most_bytes) refl h.splits.no_end_behind)

no_end_of_zeros : (n : ℕ) → HasNoEnd (replicate n 0)
no_end_of_zeros zero = tt
no_end_of_zeros (suc n) = (λ e. cc, no_end_of_zeros n)

length_of_zeros : (n : ℕ) → length {A = ℕ} (replicate n 0) ≡ n
length_of_zeros zero = refl
length_of_zeros (suc n) = ap suc (length_of_zeros n)

long_rest : (n : ℕ) → nat_le n most_bytes ≡ false → IsLines (replicate n 0) [] Long
long_rest n h = record {
  whole = [];
  last = replicate n 0;
  splits = record { stream_is = refl; no_end_within = tt; no_end_behind = no_end_of_zeros n };
  lines_are = refl;
  rest_is = let many : nat_le (length {A = ℕ} (replicate n 0)) most_bytes ≡ false = ap (λ (m : ℕ). nat_le m most_bytes) (length_of_zeros n) ∙ h in rw many refl;
}

short_rest : (bytes : List ℕ) → length bytes ≤ most_bytes → HasNoEnd bytes → IsLines bytes [] (Text bytes)
short_rest bytes few free = record {
  whole = [];
  last = bytes;
  splits = record { stream_is = refl; no_end_within = tt; no_end_behind = free };
  lines_are = refl;
  rest_is = let is : nat_le (length bytes) most_bytes ≡ true = grind (arith, nat_tests, few) in rw is refl;
}

pub rest_is_left : (rest : Line) → IsRest rest → (stream : List ℕ) × IsLines stream [] rest
rest_is_left (Text bytes) h = (bytes, short_rest bytes h.0 h.1)
rest_is_left Long h = (replicate 4097 0, long_rest 4097 refl)
