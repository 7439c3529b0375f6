-- Pages that are supplied, and why some are not.
use Rattle.std.proofs.Common.{◌≡◌, ℕ, List, [], length, refl, sym, ap, ◌∙◌, subst, Result, Ok, Err, IfErr, OnOk, OnErr, ◌<◌, ◌∷◌, arith, append-nil}
use Rattle.word32.specs.Zeros.{zeros}
use Rattle.guest_pages.specs.declared.page.Page.{Page}
use Rattle.guest_pages.specs.declared.page.Page.TheVariants as page
use Rattle.guest_pages.specs.declared.page.PageKind.TheVariants as kind
use Rattle.guest_pages.specs.Pages.{page_at, kind_of, kind_at, shown, slot_of}
use Rattle.page_moves.specs.declared.supply.SupplyError.{SupplyError}
use Rattle.page_moves.specs.declared.supply.SupplyError.TheVariants.{NoFrame, Memory, SwapRead, SwapDamaged}
use Rattle.page_moves.specs.Supplies.{Supplies}
use Rattle.page_moves.specs.Books.{Books}
use Rattle.page_moves.proofs.Booking.{slot_inside}
use Rattle.frames.specs.FreeList.{FreeList}
use Rattle.sharetab.specs.Entries.{EntriesAre}
use Rattle.accounts.specs.declared.account.Extent.{Extent}
use Rattle.accounts.specs.declared.account.Account.{Account}
use Rattle.accounts.specs.OwnerShares.{guest_share, ExactWith}
use Rattle.ledger.specs.Shares.{LedgerIs, ShareIs}
use Rattle.lent_pages.specs.Supplies.{WhyLeft}

why_then : (n f d n' f' d' : Type 0) (e : SupplyError) → (n → n') → (f → f') → (d → d') → WhyLeft n f d e → WhyLeft n' f' d' e
why_then n f d n' f' d' NoFrame a b c why = a why
why_then n f d n' f' d' Memory a b c why = tt
why_then n f d n' f' d' SwapRead a b c why = b why
why_then n f d n' f' d' SwapDamaged a b c why = c why

pub why_follows : {T : Type 0} (r : Result T SupplyError) (n f d n' f' d' : Type 0) → (n → n') → (f → f') → (d → d') → IfErr r (WhyLeft n f d) → IfErr r (WhyLeft n' f' d')
why_follows (Ok x) n f d n' f' d' a b c why = why
why_follows (Err e) n f d n' f' d' a b c why = why_then n f d n' f' d' e a b c why

pub zero_shows : (q : Page) → kind_of q ≡ kind.Zero → shown q ≡ zeros 4096
zero_shows page.Zero is = refl
zero_shows page.Given is = refl
zero_shows (page.Private frame) is = absurd (cc)
zero_shows (page.Shared share ticket) is = absurd (cc)
zero_shows (page.Swapped slot digest) is = refl

pub given_shows : (q : Page) → kind_of q ≡ kind.Given → shown q ≡ zeros 4096
given_shows page.Zero is = refl
given_shows page.Given is = refl
given_shows (page.Private frame) is = absurd (cc)
given_shows (page.Shared share ticket) is = absurd (cc)
given_shows (page.Swapped slot digest) is = refl

-- a page shows what it showed, supplied or not
pub shows_as_before : {T : Type 0} (r : Result T SupplyError) (ps ps' : List Page) (p : ℕ) (bytes : List ℕ) → shown (page_at ps p) ≡ bytes → OnOk r (Supplies ps p bytes ps') → OnErr r (ps' ≡ ps)
    → shown (page_at ps' p) ≡ shown (page_at ps p)
shows_as_before (Ok x) ps ps' p bytes is supplied stays = supplied.shows ∙ sym is
shows_as_before (Err e) ps ps' p bytes is supplied stays = ap (λ (l : List Page). shown (page_at l p)) stays

-- a page that is in a slot is in one that there is
pub swapped_inside : (k : Extent) (ps : List Page) (p : ℕ) → (es : EntriesAre) × (pool : FreeList) × (book : FreeList) × ExactWith k ps [] es pool book → p < length ps → kind_at ps p ≡ kind.Swapped
    → slot_of (page_at ps p) < k.slots
swapped_inside k ps p exact there swapped =
    let others = exact.3.0 in
    let books : Books k.frames k.slots (ps ∷ others) exact.0 exact.1 exact.2 = subst (λ (l : List Page). Books k.frames k.slots (l ∷ others) exact.0 exact.1 exact.2) (append-nil ps) exact.3.1 in
    slot_inside k.frames k.slots (ps ∷ others) exact.0 exact.1 exact.2 0 p books (omega arith) there swapped

-- what a guest is told by some books goes by others that are the same
pub swapped_inside_by : (books books' : LedgerIs Extent) (ps : List Page) (p : ℕ) (share : ShareIs Account) → books ≡ books' → share ≡ guest_share books'.id ps []
    → (share ≡ guest_share books.id ps [] → (es : EntriesAre) × (pool : FreeList) × (book : FreeList) × ExactWith books.key ps [] es pool book) → p < length ps → kind_at ps p ≡ kind.Swapped
    → slot_of (page_at ps p) < books'.key.slots
swapped_inside_by books books' ps p share same is exact there swapped =
    subst (λ (b : LedgerIs Extent). slot_of (page_at ps p) < b.key.slots) same
    (swapped_inside books.key ps p (exact (is ∙ ap (λ (b : LedgerIs Extent). guest_share b.id ps []) (sym same))) there swapped)
