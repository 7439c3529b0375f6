-- Guests whose pages are sampled.
use Rattle.std.proofs.Common.{◌≡◌, ℕ, ◌+◌, ◌*◌, ◌<◌, ◌≤◌, zero, suc, inl, inr, List, [], ◌∷◌, All, length, map, set, get_or, Option, refl, sym, ap, subst, ◌∙◌, arith}
use Rattle.std.proofs.lemmas.Bool.{cases_eq}
use Rattle.std.proofs.lemmas.List.{get_or-set_same, get_or-set_other}
use Rattle.std.proofs.lemmas.List.Elements.{All-head, All-tail, All-nil, All-cons}
use Rattle.world.specs.All.{AreSampled, Books, EntriesAre, FreeList, IsKept, IsSampled, Item, OnlySamplesChange, Page, Sound, Stream, TenantIs, items_of, log_at, next_u32, pages_in, without_sample}
use Rattle.taxpolicy.specs.Sample.{after_words}
use Rattle.world.proofs.Victims.{same_beside}

words_add : (m n : ℕ) (s : Stream) → after_words n (after_words m s) ≡ after_words (m + n) s
unfolding after_words
words_add zero n s = let same : n ≡ 0 + n = omega arith in ap (λ (k : ℕ). after_words k s) same
words_add (suc m) n s = let same : suc (m + n) ≡ suc m + n = omega arith in words_add m n (next_u32 s).1 ∙ ap (λ (k : ℕ). after_words k s) same

-- the words of one guest more are drawn
pub words_next : (g : ℕ) (words now next : Stream) → now ≡ after_words (100 * g) words → next ≡ after_words 100 now → next ≡ after_words (100 * (g + 1)) words
words_next g words now next before drew =
    let all : 100 * g + 100 ≡ 100 * (g + 1) = omega arith in
    drew ∙ ap (after_words 100) before ∙ words_add (100 * g) 100 words ∙ ap (λ (n : ℕ). after_words n words) all

-- one guest more is sampled
pub one_more : (g : ℕ) (words now : Stream) (old mid new : List TenantIs) (t' : TenantIs) → g < length old → length mid ≡ length old → now ≡ after_words (100 * g) words
    → new ≡ set mid g t' → ((t : TenantIs) → IsSampled now (get_or mid g t) t')
    → ((h : ℕ) (t : TenantIs) → h < g → IsSampled (after_words (100 * h) words) (get_or old h t) (get_or mid h t))
    → ((h : ℕ) (t : TenantIs) → g ≤ h → get_or mid h t ≡ get_or old h t)
    → (h : ℕ) (t : TenantIs) → h < g + 1 → IsSampled (after_words (100 * h) words) (get_or old h t) (get_or new h t)
one_more g words now old mid new t' inside size at is this before others h t below = elim (cases_eq h g) [
  | inl e ↦
      subst (λ (k : ℕ). IsSampled (after_words (100 * k) words) (get_or old k t) (get_or new k t)) (sym e)
      (subst (λ (u : TenantIs). IsSampled (after_words (100 * g) words) (get_or old g t) u) (sym (ap (λ (l : List TenantIs). get_or l g t) is ∙ get_or-set_same mid g t' t (omega (arith, inside, size))))
      (subst (λ (u : TenantIs). IsSampled (after_words (100 * g) words) u t') (others g t (omega arith))
      (subst (λ (s : Stream). IsSampled s (get_or mid g t) t') at (this t))))
  | inr apart ↦
      subst (λ (u : TenantIs). IsSampled (after_words (100 * h) words) (get_or old h t) u) (sym (ap (λ (l : List TenantIs). get_or l h t) is ∙ get_or-set_other mid g h t' t apart))
      (before h t (omega (arith, below, apart)))
]

pub others_stay : (g : ℕ) (old mid new : List TenantIs) (t' : TenantIs) → new ≡ set mid g t' → ((h : ℕ) (t : TenantIs) → g ≤ h → get_or mid h t ≡ get_or old h t)
    → (h : ℕ) (t : TenantIs) → g + 1 ≤ h → get_or new h t ≡ get_or old h t
others_stay g old mid new t' is others h t past =
    ap (λ (l : List TenantIs). get_or l h t) is ∙ get_or-set_other mid g h t' t (λ e. absurd (omega (arith, past, e))) ∙ others h t (omega (arith, past))

-- ---- what stays

-- what is the same of each guest is the same of all
pub same_map : {Y : Type 0} (f : TenantIs → Y) (old new : List TenantIs) → length new ≡ length old → ((g : ℕ) (t : TenantIs) → g < length old → f (get_or new g t) ≡ f (get_or old g t)) → map f new ≡ map f old
same_map f [] [] size same = refl
same_map f [] (u ∷ new) size same = absurd (omega (arith, size))
same_map f (t ∷ old) [] size same = absurd (omega (arith, size))
same_map {Y} f (t ∷ old) (u ∷ new) size same =
    ap (λ (v : Y). v ∷ map f new) (same 0 t (omega arith))
    ∙ ap (λ (l : List Y). f t ∷ l) (same_map f old new (omega (arith, size)) (λ g d inside. same (suc g) d (omega (arith, inside))))

pub only_samples : (words : Stream) (old new : List TenantIs) → AreSampled words old new → OnlySamplesChange old new
only_samples words old new s = same_map without_sample old new s.count (λ g t inside. ap without_sample (s.each g t inside).rest)

-- what doesn't look at samples is as before
pub stays : {Y : Type 0} (f : TenantIs → Y) → ((t : TenantIs) → f (without_sample t) ≡ f t) → (old new : List TenantIs) → OnlySamplesChange old new → map f new ≡ map f old
stays f same old new s = same_beside without_sample f same old new s

kept_without : (held : ℕ → Option (List ℕ)) (ts : List TenantIs) → All (IsKept held) ts → All (IsKept held) (map without_sample ts)
kept_without held [] all = All-nil (IsKept held)
kept_without held (t ∷ ts) all =
    let k = All-head (IsKept held) t ts all in
    All-cons (IsKept held) (without_sample t) (map without_sample ts) (record { intact = k.intact; pages = k.pages }) (kept_without held ts (All-tail (IsKept held) t ts all))

kept_with : (held : ℕ → Option (List ℕ)) (ts : List TenantIs) → All (IsKept held) (map without_sample ts) → All (IsKept held) ts
kept_with held [] all = All-nil (IsKept held)
kept_with held (t ∷ ts) all =
    let k = All-head (IsKept held) (without_sample t) (map without_sample ts) all in
    All-cons (IsKept held) t ts (record { intact = k.intact; pages = k.pages }) (kept_with held ts (All-tail (IsKept held) (without_sample t) (map without_sample ts) all))

pub sound_sampled : (frames slots : ℕ) (trusted : Type 0) (held : ℕ → Option (List ℕ)) (old new : List TenantIs) (pool book : FreeList) (es : EntriesAre)
    → OnlySamplesChange old new → Sound frames slots trusted held old pool book es → Sound frames slots trusted held new pool book es
sound_sampled frames slots trusted held old new pool book es s w = record {
  books = subst (λ (all : List (List Page)). Books frames slots all es pool book) (sym (stays pages_in (λ t. refl) old new s)) w.books;
  kept = λ trust. kept_with held new (subst (All (IsKept held)) (sym s) (kept_without held old (w.kept trust)));
}

pub sampled_logs : (old new : List TenantIs) → OnlySamplesChange old new → (h : ℕ) → log_at new h ≡ log_at old h
sampled_logs old new s h = ap (λ (logs : List (List Item)). get_or logs h []) (stays items_of (λ t. refl) old new s)
