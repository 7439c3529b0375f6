-- What a debugger reads and writes of the guests, and the pages that this moves.
use Rattle.std.proofs.Common.{ℕ, ◌≡◌, ◌≢◌, ◌↔◌, ◌≤◌, ◌⊎◌, inl, inr, Bool, true, false, ◌&&◌, ◌||◌, ◌==◌, if◌then◌else◌, nat_le, is_some, List, length, get_or, Option, Some, None, Result, Ok, Err, OnOk, IsErrOf, refl, sym, ap, subst, ◌∙◌, arith, eq-eqb}
use Rattle.std.proofs.lemmas.Bool.{cases_eq}
use Rattle.std.proofs.lemmas.List.{set-get_or}
use Rattle.world.specs.All.{IsReady, Machine, OnlyPagesAndRoom, OnlyPagesMove, OtherSparedStay, Page, PageKind, Private, TenantIs, Write, accepts, bytes_at, is_one_of, is_wanted, kind_at, kind_of, lack_of, page_at, pages_in, spared_of}
use Rattle.mips_tlb.specs.declared.kind.Kind.TheVariants.{Store}
use Rattle.guest_pages.specs.declared.page.PageKind.TheVariants.{Swapped}
use Rattle.victims.specs.declared.wanted.Access.{Access}
use Rattle.victims.specs.declared.wanted.Access.TheVariants as access

-- ---- what is accepted

within_limit : (n : ℕ) → n ≤ 1024 → nat_le n 1024 ≡ true
within_limit n few = grind arith

pub accepts_placed : (m : Machine) (address : ℕ) (bytes : List ℕ) → length bytes ≤ 1024 → accepts (Write address bytes) m ≡ is_some (bytes_at m address (length bytes))
accepts_placed m address bytes few = ap (λ (b : Bool). b && is_some (bytes_at m address (length bytes))) (within_limit (length bytes) few)

some_or_none : (x : Option (List ℕ)) → (x ≡ None → ⊥) → is_some x ≡ true
some_or_none None some = absurd (some refl)
some_or_none (Some bytes) some = refl

none_of : (x : Option (List ℕ)) → is_some x ≡ false → x ≡ None
none_of None e = refl
none_of (Some bytes) e = absurd (cc)

pub accepted_where_placed : (m : Machine) (address : ℕ) (bytes : List ℕ) → length bytes ≤ 1024 → (bytes_at m address (length bytes) ≡ None → ⊥) → accepts (Write address bytes) m ≡ true
accepted_where_placed m address bytes few some = accepts_placed m address bytes few ∙ some_or_none (bytes_at m address (length bytes)) some

pub refused_where_not : (m : Machine) (address : ℕ) (bytes : List ℕ) → length bytes ≤ 1024 → (bytes_at m address (length bytes) ≡ None) ↔ (accepts (Write address bytes) m ≡ false)
refused_where_not m address bytes few = (
  λ none. accepts_placed m address bytes few ∙ ap is_some none,
  λ no. none_of (bytes_at m address (length bytes)) (sym (accepts_placed m address bytes few) ∙ no),
)

pub not_both : (b : Bool) → b ≡ true → b ≡ false → ⊥
not_both b e f = absurd (cc)

-- ---- pages that are wanted

pub stored_to : (k : PageKind) → is_wanted access.Write k ≡ false → lack_of k Store ≡ None
stored_to Private e = refl
stored_to k e = absurd (cc)

pub not_away : (k : PageKind) → is_wanted access.Read k ≡ false → k ≡ Swapped → ⊥
not_away Swapped e f = absurd (cc)
not_away k e f = absurd (cc)

pub unread : (k : PageKind) → k ≢ Swapped → is_wanted access.Read k ≡ false
unread Swapped apart = absurd (apart refl)
unread k apart = refl

private_unwanted : (how : Access) (k : PageKind) → k ≡ Private → is_wanted how k ≡ false
private_unwanted access.Read k is = ap (is_wanted access.Read) is
private_unwanted access.Write k is = ap (is_wanted access.Write) is

wanted_or_not : (b : Bool) → (b ≡ true) ⊎ (b ≡ false)
wanted_or_not true = inl refl
wanted_or_not false = inr refl

-- a page that is ready is not wanted
pub ready_unwanted : (how : Access) (q r : Page) → IsReady how q r → is_wanted how (kind_of r) ≡ false
ready_unwanted how q r ready =
    elim (wanted_or_not (is_wanted how (kind_of q))) [
      | inl wanted ↦ private_unwanted how (kind_of r) (ready.supplied wanted)
      | inr unwanted ↦ ap (λ (p : Page). is_wanted how (kind_of p)) (ready.stays unwanted) ∙ unwanted
    ]

pub ready_same : (how : Access) (q r : Page) → is_wanted how (kind_of q) ≡ false → r ≡ q → IsReady how q r
ready_same how q r unwanted same = record {
  supplied = λ wanted. absurd (not_both (is_wanted how (kind_of q)) wanted unwanted);
  stays = λ e. same;
}

pub ready_got : (how : Access) (q r : Page) → is_wanted how (kind_of q) ≡ true → kind_of r ≡ Private → IsReady how q r
ready_got how q r wanted private = record {
  supplied = λ e. private;
  stays = λ unwanted. absurd (not_both (is_wanted how (kind_of q)) wanted unwanted);
}

-- and stays so
pub ready_then : (how : Access) (q r s : Page) → IsReady how q r → s ≡ r → IsReady how q s
ready_then how q r s ready same = subst (IsReady how q) (sym same) ready

pub ready_after : (how : Access) (q r s : Page) → r ≡ q → IsReady how r s → IsReady how q s
ready_after how q r s same ready = subst (λ (p : Page). IsReady how p s) same ready

pub ready_twice : (how : Access) (q r s : Page) → IsReady how q r → IsReady how r s → IsReady how q s
ready_twice how q r s a b = ready_then how q r s a (b.stays (ready_unwanted how q r a))

-- ---- the pages that are spared

pub one_is_spared : (g : ℕ) (pages : ℕ × ℕ) (q : ℕ) → (q ≡ pages.0) ⊎ (q ≡ pages.1) → is_one_of (spared_of (Some (record { guest = g; pages = pages })) g) q ≡ true
one_is_spared g pages q which =
    ap (λ (t : Bool). is_one_of (if t then Some pages else None) q) (eq-eqb g g refl) ∙ by which
  where
    or_true : (b : Bool) → (b || true) ≡ true
    or_true true = refl
    or_true false = refl

    by : (q ≡ pages.0) ⊎ (q ≡ pages.1) → ((pages.0 == q) || (pages.1 == q)) ≡ true
    by (inl same) = ap (λ (b : Bool). b || (pages.1 == q)) (eq-eqb pages.0 q (sym same))
    by (inr same) = ap (λ (b : Bool). (pages.0 == q) || b) (eq-eqb pages.1 q (sym same)) ∙ or_true (pages.0 == q)

pub spared_stay : (g p : ℕ) (pages : ℕ × ℕ) (ts ts' : List TenantIs) → OtherSparedStay g p (Some (record { guest = g; pages = pages })) ts ts'
    → (t : TenantIs) (q : ℕ) → q ≢ p → (q ≡ pages.0) ⊎ (q ≡ pages.1) → page_at (pages_in (get_or ts' g t)) q ≡ page_at (pages_in (get_or ts g t)) q
spared_stay g p pages ts ts' others t q apart which = others t g q (λ e. apart) (one_is_spared g pages q which)

-- ---- both pages

module _ (how : Access) (first last : ℕ) (old mid new : List Page)
    (at_first : IsReady how (page_at old first) (page_at mid first)) (first_others : (q : ℕ) → q ≢ first → (q ≡ first) ⊎ (q ≡ last) → page_at mid q ≡ page_at old q)
    (at_last : IsReady how (page_at mid last) (page_at new last)) (last_others : (q : ℕ) → q ≢ last → (q ≡ first) ⊎ (q ≡ last) → page_at new q ≡ page_at mid q) where
  after_first : (q : ℕ) → (q ≡ first) ⊎ (q ≡ last) → (IsReady how (page_at old q) (page_at mid q)) ⊎ (page_at mid q ≡ page_at old q)
  after_first q which =
      elim (cases_eq q first) [
        | inl e ↦ inl (subst (λ (n : ℕ). IsReady how (page_at old n) (page_at mid n)) (sym e) at_first)
        | inr apart ↦ inr (first_others q apart which)
      ]

  first_alone : (q : ℕ) → (q ≡ first) ⊎ (q ≡ last) → q ≢ last → IsReady how (page_at old q) (page_at mid q)
  first_alone q (inl e) apart = subst (λ (n : ℕ). IsReady how (page_at old n) (page_at mid n)) (sym e) at_first
  first_alone q (inr e) apart = absurd (apart e)

  pub both_ready : (q : ℕ) → (q ≡ first) ⊎ (q ≡ last) → IsReady how (page_at old q) (page_at new q)
  both_ready q which =
      elim (cases_eq q last) [
        | inl e ↦ elim (after_first q which) [
          | inl ready ↦ ready_twice how (page_at old q) (page_at mid q) (page_at new q) ready (subst (λ (n : ℕ). IsReady how (page_at mid n) (page_at new n)) (sym e) at_last)
          | inr same ↦ ready_after how (page_at old q) (page_at mid q) (page_at new q) same (subst (λ (n : ℕ). IsReady how (page_at mid n) (page_at new n)) (sym e) at_last)
        ]
        | inr apart ↦ ready_then how (page_at old q) (page_at mid q) (page_at new q) (first_alone q which apart) (last_others q apart which)
      ]

-- one of two pages after one of them was supplied
pub one_stays : (how : Access) (p first last : ℕ) (old new : List Page) → (is_wanted how (kind_at old p) ≡ false → page_at new p ≡ page_at old p)
    → ((q : ℕ) → q ≢ p → (q ≡ first) ⊎ (q ≡ last) → page_at new q ≡ page_at old q)
    → (q : ℕ) → (q ≡ first) ⊎ (q ≡ last) → is_wanted how (kind_at old q) ≡ false → page_at new q ≡ page_at old q
one_stays how p first last old new stays others q which unwanted =
    elim (cases_eq q p) [
      | inl e ↦
          subst (λ (n : ℕ). page_at new n ≡ page_at old n) (sym e) (stays (subst (λ (n : ℕ). is_wanted how (kind_at old n) ≡ false) e unwanted))
      | inr apart ↦ others q apart which
    ]

pub both_stay : (how : Access) (q : ℕ) (old mid new : List Page) → is_wanted how (kind_at old q) ≡ false → page_at mid q ≡ page_at old q → (is_wanted how (kind_at mid q) ≡ false → page_at new q ≡ page_at mid q)
    → page_at new q ≡ page_at old q
both_stay how q old mid new unwanted same later = later (ap (λ (p : Page). is_wanted how (kind_of p)) same ∙ unwanted) ∙ same

-- ---- of the guests only pages have moved, and then room was made

pub no_room_changes : (g : ℕ) (ts ts' : List TenantIs) → OnlyPagesMove ts ts' → OnlyPagesAndRoom g ts ts'
no_room_changes g ts ts' moves = record {
  between = ts';
  pages = moves;
  room = record {
    one = λ t. sym (set-get_or ts' g t);
    so = λ t. record { cpu = refl; bus = refl; items = refl };
  };
}

-- ---- what is told of an answer that may be an error

pub ok_not : {T E : Type 0} (r : Result T E) (e : E) (P : Type 0) → (P → IsErrOf r e) → OnOk r (P → ⊥)
ok_not (Ok x) e P told = λ p. not_err (told p)
  where
    not_err : Ok x ≡ Err e → ⊥
    not_err same = cc
ok_not (Err f) e P told = tt
