-- Bytes that a debugger reads, where pages are those of a machine.
use Rattle.std.proofs.Common.{ℕ, zero, suc, ◌≡◌, ◌≢◌, ◌↔◌, ◌/◌, ◌<◌, IsTrue, Bool, true, false, is_some, List, length, Option, Some, None, refl, sym, ap, ◌∙◌, arith}
use Rattle.word32.specs.Pages.{page_number}
use Rattle.mips_tlb.specs.Translation.{probed}
use Rattle.mips_tlb.specs.declared.kind.Kind.TheVariants.{Load}
use Rattle.machine.specs.declared.access.Why.TheVariants as why
use Rattle.machine.specs.Processor.{Processor}
use Rattle.machine.specs.Board.{Board}
use Rattle.machine.specs.Step.{Machine, machine_with}
use Rattle.machine.specs.Agreeing.{Agree}
use Rattle.machine.proofs.Pages.{same_place}
use Rattle.machine.specs.Replies.{probe, byte_in, with_next, bytes_at, EachPlace, SomePlaceIn, CanLook}
use Rattle.machine.proofs.Replies.{moved}
use Rattle.machine.proofs.Writing.{place_same}
use Rattle.guest_pages.specs.declared.page.PageKind.{PageKind}
use Rattle.guest_pages.specs.declared.page.PageKind.TheVariants.{Zero, Given, Private, Shared, Swapped}
use Rattle.guest_pages.specs.Pages.{kind_at, AreWhole}
use Rattle.guest_pages.proofs.Memory.{length_of_memory}
use Rattle.guest_bus.specs.Buses.{GuestBusIs, IsSettled, board_of}
use Rattle.guest_bus.specs.Lacking.{lack_of, lacks_in}
use Rattle.guest.specs.Views.{Shows, here}
use Rattle.guest.proofs.Showing.{is_page_here, settled_memory, shows_agree}
use Rattle.guest.proofs.Happening.{inside, placed_same}

can_look_apart : (k : PageKind) → lack_of k Load ≢ Some why.Swapped → k ≢ Swapped
can_look_apart Zero can = λ e. absurd (cc)
can_look_apart Given can = λ e. absurd (cc)
can_look_apart Private can = λ e. absurd (cc)
can_look_apart Shared can = λ e. absurd (cc)
can_look_apart Swapped can = absurd (can refl)

module _ (these : ℕ → Bool) (cpu : Processor) (a b : Board) (agree : Agree these a b) where
  byte_same : (place : Option ℕ) → ((at : ℕ) → place ≡ Some at → IsTrue (these (page_number at))) → byte_in b.memory place ≡ byte_in a.memory place
  byte_same None among = refl
  byte_same (Some at) among = ap (λ (byte : ℕ). Some byte) (same_place (at / 4096) a.memory b.memory (agree.bytes (at / 4096) (among at refl)) at 0 refl)

  read_alike : (address count : ℕ) → ((k at : ℕ) → k < count → probe (machine_with cpu a) (moved address k) ≡ Some at → IsTrue (these (page_number at)))
      → bytes_at (machine_with cpu b) address count ≡ bytes_at (machine_with cpu a) address count
  read_alike address zero among = refl
  read_alike address (suc k) among =
      let before = read_alike address k (λ j at h found. among j at (omega arith) found) in
      let place = place_same cpu a b (moved address k) agree.size in
      let byte = ap (byte_in b.memory) place ∙ byte_same (probe (machine_with cpu a) (moved address k)) (λ at found. among k at (omega arith) found) in
      λ i. with_next (before i) (byte i)

module _ (m : Machine) (cpu : Processor) (b : GuestBusIs) (whole : AreWhole b.pages) (settled : IsSettled b) (s : Shows m cpu b) where
  -- what can be looked at is read as in the machine
  pub read_same : (address count : ℕ) → EachPlace (machine_with cpu (board_of b)) address count (CanLook (lacks_in b.pages))
      → bytes_at m address count ≡ bytes_at (machine_with cpu (board_of b)) address count
  read_same address count can =
      ap (λ (c : Processor). bytes_at (machine_with c m.board) address count) (sym s.cpu)
      ∙ read_alike (here b.pages) cpu (board_of b) m.board (shows_agree m cpu b whole settled s) address count (λ k at h found.
      let below = inside (board_of b).memory (probed cpu.tlb cpu.cp0 (moved address k)) at found in
      is_page_here b.pages (page_number at) (omega (arith, below, ap length (settled_memory b settled), length_of_memory b.pages whole))
      (can_look_apart (kind_at b.pages (page_number at)) (can k at h found)))

  none_by : (x y : Option (List ℕ)) → is_some x ≡ is_some y → x ≡ None → y ≡ None
  none_by x None same none = refl
  none_by x (Some bytes) same none = absurd (no_true (sym same ∙ ap is_some none))
    where
      no_true : true ≡ false → ⊥
      no_true e = cc

  -- bytes have places as in the machine
  pub none_same : (address count : ℕ) → (bytes_at (machine_with cpu (board_of b)) address count ≡ None) ↔ (bytes_at m address count ≡ None)
  none_same address count =
      let placed = ap (λ (c : Processor). is_some (bytes_at (machine_with c m.board) address count)) (sym s.cpu)
      ∙ placed_same cpu (board_of b) m.board address count (shows_agree m cpu b whole settled s).size in (
        λ none. none_by (bytes_at (machine_with cpu (board_of b)) address count) (bytes_at m address count) (sym placed) none,
        λ none. none_by (bytes_at m address count) (bytes_at (machine_with cpu (board_of b)) address count) placed none,
      )

  -- a byte that lies in a page does so in the machine
  pub some_place_same : (address count page : ℕ) → SomePlaceIn (machine_with cpu (board_of b)) address count page → SomePlaceIn m address count page
  some_place_same address count page (k, at, below, found, is) =
      let place = ap (λ (c : Processor). probe (machine_with c m.board) (moved address k)) (sym s.cpu)
      ∙ place_same cpu (board_of b) m.board (moved address k) (shows_agree m cpu b whole settled s).size in
      (k, at, below, place ∙ found, is)
