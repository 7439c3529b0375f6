-- Frames that come from the pool and go to it.
use Rattle.std.proofs.Common.{◌≡◌, ℕ, List, [], ◌∷◌, ◌++◌, refl, sym, ap, ◌∙◌, subst, arith, append-nil}
use Rattle.frames.specs.Counts.{count_of}
use Rattle.frames.proofs.Counting.{count_append}
use Rattle.sharetab.specs.Entries.{EntriesAre}
use Rattle.guest_pages.specs.declared.page.Page.{Page}
use Rattle.shared_pool.specs.declared.hand.Hand.{Hand}
use Rattle.shared_pool.specs.Pools.{PassIs}
use Rattle.shared_pool.specs.Balance.{hand_taken}
use Rattle.accounts.specs.Settling.{KeepsFrames}
use Rattle.guest_pages.specs.declared.page.Returned.{Returned}
use Rattle.ledger.specs.Shares.{LedgerId, ShareIs}
use Rattle.accounts.specs.declared.account.Account.{Account}
use Rattle.lent_pages.specs.Returns.{KeepsFramesBack}
use Rattle.machine_memory.specs.Frames.{KeepsEachFrame, HaveComeBack, KeepsEachFrameBack}

-- the hand after these frames, if any, were put
abbrev pub after_giving : Hand → List ℕ → Hand
after_giving h came = record h { put = h.put ++ came }

pub nothing_given : (h : Hand) → h ≡ after_giving h []
nothing_given h = ap (λ (p : List ℕ). record h { put = p }) (sym (append-nil h.put))

module _ (old new : List Page) (before after : PassIs) where
  pub frames_unmoved : new ≡ old → after ≡ before → KeepsEachFrame old before new after
  frames_unmoved same stays =
      subst (λ (l : List Page). KeepsEachFrame old before l after) (sym same)
      (subst (λ (p : PassIs). KeepsEachFrame old before old p) (sym stays) (record { found = []; left = []; numbers = λ k. refl }))

  pub frames_moved_by : (es es' : EntriesAre) (came : List ℕ) → KeepsFrames old [] es new came es' → after.hand ≡ after_giving before.hand came → KeepsEachFrame old before new after
  frames_moved_by es es' came keeps gives = record {
    found = es;
    left = es';
    numbers = λ k. omega (arith, keeps.numbers k, ap (λ (h : Hand). count_of k h.put) gives, ap (λ (h : Hand). count_of k h.taken) gives, count_append k before.hand.put came);
  }

  pub frames_supplied_by : (mid : PassIs) (es es' : EntriesAre) (number : ℕ) (came : List ℕ) → KeepsFrames old (number ∷ []) es new came es' → mid.hand ≡ hand_taken before.hand number
      → after.hand ≡ after_giving mid.hand came → KeepsEachFrame old before new after
  frames_supplied_by mid es es' number came keeps takes gives = record {
    found = es;
    left = es';
    numbers = λ k. omega (
      arith,
      keeps.numbers k,
      ap (λ (h : Hand). count_of k h.put) gives,
      ap (λ (h : Hand). count_of k h.taken) gives,
      ap (λ (h : Hand). count_of k h.put) takes,
      ap (λ (h : Hand). count_of k h.taken) takes,
      count_append k mid.hand.put came,
      count_append k before.hand.taken (number ∷ []),
    );
  }

pub frames_back_by : (l : LedgerId) (share : ShareIs Account) (returned : Returned) (new : List Page) (before after : PassIs) (es es' : EntriesAre) (came : List ℕ) → KeepsFramesBack l share returned es new came es'
    → after.hand ≡ after_giving before.hand came → KeepsEachFrameBack l share returned before new after
frames_back_by l share returned new before after es es' came keeps gives old given was is what = frames_moved_by old new before after es es' came (keeps old given was is what) gives

-- what has come back by the books of the memory, where it has by others that are the same
pub come_back : (l l' : LedgerId) (share : ShareIs Account) (returned : Returned) (new : List Page) (hand : List ℕ) (es es' : EntriesAre) → l ≡ l' → KeepsFramesBack l share returned es new hand es'
    → HaveComeBack l' share returned new hand
come_back l l' share returned new hand es es' same keeps = (es, es', subst (λ (x : LedgerId). KeepsFramesBack x share returned es new hand es') same keeps)

pub frames_given_back : (l : LedgerId) (share : ShareIs Account) (returned : Returned) (new : List Page) (before after : PassIs) (came : List ℕ) → HaveComeBack l share returned new came
    → after.hand ≡ after_giving before.hand came → KeepsEachFrameBack l share returned before new after
frames_given_back l share returned new before after came back gives = frames_back_by l share returned new before after back.0 back.1 came back.2 gives

pub gave_after : (before mid after : PassIs) (came : List ℕ) → mid ≡ before → after.hand ≡ after_giving mid.hand came → after.hand ≡ after_giving before.hand came
gave_after before mid after came same gives = gives ∙ ap (λ (p : PassIs). after_giving p.hand came) same

pub come_back_as : (l l' : LedgerId) (share : ShareIs Account) (returned returned' : Returned) (new : List Page) (hand : List ℕ) (es es' : EntriesAre) → l ≡ l' → returned' ≡ returned
    → KeepsFramesBack l share returned es new hand es' → HaveComeBack l' share returned' new hand
come_back_as l l' share returned returned' new hand es es' same is keeps =
    subst (λ (r : Returned). HaveComeBack l' share r new hand) (sym is) (come_back l l' share returned new hand es es' same keeps)
