-- The frames of a move.
use Rattle.std.proofs.Common.{◌≡◌, ℕ, ◌+◌, List, [], ◌∷◌, Option, length, set, refl, sym, ap, ◌∙◌, subst, arith, inl, inr}
use Rattle.std.specs.Option.{option_to_list}
use Rattle.std.proofs.lemmas.Bool.{cases_lt}
use Rattle.std.proofs.lemmas.List.{set_past}
use Rattle.frames.specs.Counts.{count_of}
use Rattle.frames.specs.Frames.{FrameIs}
use Rattle.frames.specs.FreeList.{FreeList}
use Rattle.frames.proofs.Counting.{count_one}
use Rattle.sharetab.specs.Entries.{EntriesAre, entry_at, frames_shared, entry_count, freed_frame}
use Rattle.sharetab.specs.Books.{Leaves, freed_at}
use Rattle.sharetab.proofs.Books.{leave_frames, leave_entries}
use Rattle.guest_pages.specs.declared.page.Page.{Page}
use Rattle.guest_pages.specs.declared.page.Page.TheVariants.{Given}
use Rattle.guest_pages.specs.declared.page.Returned.TheVariants as returned
use Rattle.guest_pages.specs.Pages.{page_at, handed_back}
use Rattle.guest_pages.specs.Holdings.{frame_in, one_private}
use Rattle.page_moves.specs.Moves.{Takes, MovesFrames, Conserves}
use Rattle.page_moves.specs.Returns.{frame_of, one_frame}
use Rattle.page_moves.proofs.Exchanging.{exchanged}
use Rattle.page_moves.proofs.GoingBack.{hands_back}
use Rattle.accounts.specs.Settling.{KeepsFrames}
use Rattle.accounts.proofs.OnItsWay.{past_is_zero}

-- no page changed, nor what is in hand
pub frames_stay : (ps ps' : List Page) (hand : List ℕ) (es es' : EntriesAre) → ps' ≡ ps → es' ≡ es → KeepsFrames ps hand es ps' hand es'
frames_stay ps ps' hand es es' stays same =
    subst (λ (x : List Page). KeepsFrames ps hand es x hand es') (sym stays)
    (subst (λ (x : EntriesAre). KeepsFrames ps hand es ps hand x) (sym same) (record { numbers = λ k. refl; out = refl }))

abbrev pub pool_of : List ℕ → ℕ → FreeList
pool_of free out = record { free = free; out = out }

pub one_taken : (number : ℕ) → Takes (pool_of (number ∷ []) 0) number (pool_of [] 1)
one_taken number = record { numbers = λ k. omega (arith, count_one k number); out = refl }

-- the number in hand, which might have been taken from any pool, has moved
pub frames_from_hand : (ps ps' : List Page) (es es' : EntriesAre) (number : ℕ) (came : List ℕ) → ((pool rest : FreeList) → Takes pool number rest → MovesFrames ps pool es ps' rest es' came)
    → KeepsFrames ps (number ∷ []) es ps' came es'
frames_from_hand ps ps' es es' number came moves =
    let m = moves (pool_of (number ∷ []) 0) (pool_of [] 1) (one_taken number) in
    record { numbers = λ k. omega (arith, m.numbers k); out = omega (arith, m.out) }

-- no number was in hand
pub frames_from_none : (ps ps' : List Page) (es es' : EntriesAre) (came : List ℕ) → ((pool : FreeList) → MovesFrames ps pool es ps' pool es' came) → KeepsFrames ps [] es ps' came es'
frames_from_none ps ps' es es' came moves =
    let m = moves (pool_of [] 0) in
    record { numbers = λ k. omega (arith, m.numbers k); out = omega (arith, m.out) }

pub frames_supplied : (ps ps' : List Page) (number : ℕ) → ((pool rest book : FreeList) (es : EntriesAre) → Takes pool number rest → Conserves ps pool book es ps' rest book es)
    → (es : EntriesAre) → KeepsFrames ps (number ∷ []) es ps' [] es
frames_supplied ps ps' number conserves es = frames_from_hand ps ps' es es number [] (λ pool rest taken. (conserves pool rest (pool_of [] 0) es taken).frames)

-- ---- a page that was given, and what it handed back

module _ (ps ps' : List Page) (p : ℕ) (is : ps' ≡ set ps p Given) (es es' : EntriesAre) (came : List ℕ) where
  pub frames_given : ((k : ℕ) → frames_shared k es' + count_of k came ≡ frames_shared k es + frame_of k (handed_back (page_at ps p)))
      → entry_count es' + length came ≡ entry_count es + one_frame (handed_back (page_at ps p)) → KeepsFrames ps [] es ps' came es'
  frames_given numbers out =
      elim (cases_lt p (length ps)) [
        | inl there ↦
            let h = hands_back (page_at ps p) in
            record {
              numbers = λ k. omega (arith, numbers k, h.frame k, exchanged (frame_in k) ps ps' p Given there is);
              out = omega (arith, out, h.private, exchanged one_private ps ps' p Given there is);
            }
        | inr past ↦
            let nothing : handed_back (page_at ps p) ≡ returned.Nothing = ap handed_back (past_is_zero ps p past) in
            subst (λ (x : List Page). KeepsFrames ps [] es x came es') (sym (is ∙ set_past ps p Given past)) (record {
              numbers = λ k. omega (arith, numbers k, ap (frame_of k) nothing);
              out = omega (arith, out, ap one_frame nothing);
            })
      ]

pub nothing_came : (ps ps' : List Page) (p : ℕ) (es : EntriesAre) → ps' ≡ set ps p Given → returned.Nothing ≡ handed_back (page_at ps p) → KeepsFrames ps [] es ps' [] es
nothing_came ps ps' p es is what = frames_given ps ps' p is es es [] (λ k. omega (arith, ap (frame_of k) what)) (omega (arith, ap one_frame what))

pub slot_came : (ps ps' : List Page) (p slot : ℕ) (es : EntriesAre) → ps' ≡ set ps p Given → returned.Slot slot ≡ handed_back (page_at ps p) → KeepsFrames ps [] es ps' [] es
slot_came ps ps' p slot es is what = frames_given ps ps' p is es es [] (λ k. omega (arith, ap (frame_of k) what)) (omega (arith, ap one_frame what))

pub frame_came : (ps ps' : List Page) (p number : ℕ) (frame : FrameIs) (es : EntriesAre) → ps' ≡ set ps p Given → returned.Frame frame ≡ handed_back (page_at ps p) → number ≡ frame.number
    → KeepsFrames ps [] es ps' (number ∷ []) es
frame_came ps ps' p number frame es is what same =
    subst (λ (n : ℕ). KeepsFrames ps [] es ps' (n ∷ []) es) (sym same)
    (frames_given ps ps' p is es es (frame.number ∷ []) (λ k. omega (arith, ap (frame_of k) what, count_one k frame.number)) (omega (arith, ap one_frame what)))

pub ticket_came : (ps ps' : List Page) (p ticket : ℕ) (es es' : EntriesAre) (came : Option ℕ) → ps' ≡ set ps p Given → returned.Ticket ticket ≡ handed_back (page_at ps p) → Leaves es ticket es'
    → came ≡ freed_frame (entry_at es ticket) → KeepsFrames ps [] es ps' (option_to_list came) es'
ticket_came ps ps' p ticket es es' came is what left same =
    subst (λ (o : Option ℕ). KeepsFrames ps [] es ps' (option_to_list o) es') (sym same)
    (frames_given ps ps' p is es es' (freed_at es ticket) (λ k. omega (arith, ap (frame_of k) what, leave_frames k ticket es es' left)) (omega (arith, ap one_frame what, leave_entries ticket es es' left)))
