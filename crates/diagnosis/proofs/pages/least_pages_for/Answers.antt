use Rattle.std.proofs.Common.{◌≡◌, ℕ, ◌≤◌, ◌<◌, ◌+◌, ◌-◌, List, take, sym, subst, arith, slice_index_or}
use Rattle.std.proofs.lemmas.List.{take_all, get_or_default}
use Rattle.std.proofs.lemmas.List.Elements.{All-more, All-same, All-weaker}
use Rattle.elf32.specs.declared.range.AddressRange.{AddressRange}
use Rattle.diagnosis.specs.Memories.{most_pages_of}
use Rattle.diagnosis.specs.Pages.{IsHeldBy}
use Rattle.diagnosis.proofs.pages.least_pages_for.Goals as goal
use Rattle.diagnosis.proofs.pages.least_pages_for.Goals.{then-pages-wanted, else-pages-wanted}

-- more pages hold what fewer do
held_by_more : (fewer more : ℕ) (r : AddressRange) → fewer ≤ more → IsHeldBy fewer r → IsHeldBy more r
held_by_more fewer more r l h = (h.0, omega arith)

-- one page fewer does not hold one of the first so many ranges
abbrev Least : ℕ → ℕ → List AddressRange → Type 0
Least pages count ranges = 2 < pages → (k : ℕ) × (r : AddressRange) × (k < count) × (slice_index_or ranges k r ≡ r) × (IsHeldBy (pages - 1) r → ⊥)

pub loop-range-preserved : goal.loop-range-preserved
loop-range-preserved c =
    let ranges = c.args.ranges.now in
    let i = c.loop-range.range-index in
    let new = c.if-pages-wanted.pages in
    let grown : c.loop-range.pages ≤ new =
    elim c.if-pages-wanted.branch [ then-pages-wanted w ↦ omega arith | else-pages-wanted w ↦ omega arith ] in
    let reached : c.in_ok-wanted.wanted ≤ new =
    elim c.if-pages-wanted.branch [ then-pages-wanted w ↦ omega arith | else-pages-wanted w ↦ omega arith ] in
    let within : new ≤ most_pages_of c.args.memory =
    elim c.if-pages-wanted.branch [ then-pages-wanted w ↦ omega (arith, c.in_ok-wanted.ensures.most) | else-pages-wanted w ↦ omega arith ] in
    let before = All-weaker (IsHeldBy c.loop-range.pages) (IsHeldBy new) (λ r h. held_by_more c.loop-range.pages new r grown h) (take i ranges) c.loop-range.invariant.0 in
    let none : AddressRange = record { address = 0; size = 0 } in
    let own = held_by_more c.in_ok-wanted.wanted new (slice_index_or ranges i none) reached c.in_ok-wanted.ensures.holds in
    let range = slice_index_or ranges i none in
    let found : slice_index_or ranges i range ≡ range = get_or_default ranges i range none (omega arith) in
    let least : Least new (i + 1) ranges =
    elim c.if-pages-wanted.branch [
      | then-pages-wanted w ↦ λ above. (i, range, omega arith, found, c.in_ok-wanted.ensures.least (new - 1) (omega arith) (omega arith))
      | else-pages-wanted w ↦ λ above.
          let kept : new ≡ c.loop-range.pages = omega arith in
          let old = c.loop-range.invariant.2 (omega arith) in
          (old.0, old.1, omega (arith, old.2), old.3, λ h. old.4 (subst (λ (n : ℕ). IsHeldBy (n - 1) old.1) kept h))
    ] in
    (All-more (IsHeldBy new) ranges i none (omega arith) before own, within, least)

pub returns-clause-holds : goal.returns-clause-holds
returns-clause-holds c =
    let ranges = c.args.ranges.now in
    let whole = sym (take_all c.loop-range.range-index ranges (omega arith)) in
    All-same (IsHeldBy c.loop-range.pages) ranges (take c.loop-range.range-index ranges) whole c.loop-range.invariant.0
