-- What happens to a guest by an item that is no step, where its pages are those of its view.
use Rattle.std.proofs.Common.{ℕ, zero, suc, ◌≡◌, ◌+◌, ◌<◌, inr, Bool, true, false, ◌&&◌, IsTrue, nat_lt, nat_le, is_some, if◌then◌else◌, List, [], ◌∷◌, length, Option, Some, None, refl, sym, ap, subst, ◌∙◌, arith, ltb-true}
use Rattle.word32.specs.Pages.{page_number}
use Rattle.items.specs.declared.item.What.{What}
use Rattle.items.specs.declared.item.What.TheVariants.{Step, In, Drain, Target, Poke, Write}
use Rattle.items.specs.Items.{is_step}
use Rattle.devices.specs.Devices.{DevicesAre}
use Rattle.mips_tlb.specs.Translation.{probed}
use Rattle.mips_tlb.specs.declared.kind.Kind.TheVariants.{Store}
use Rattle.machine.specs.declared.access.Size.TheVariants.{Byte}
use Rattle.machine.specs.Processor.{Processor}
use Rattle.machine.specs.Board.{Board, page_bytes}
use Rattle.machine.specs.Step.{Machine, machine_with}
use Rattle.machine.specs.Agreeing.{Agree}
use Rattle.machine.proofs.Stores.{length-after, other_page}
use Rattle.machine.proofs.Boards.{memory_stored_agree}
use Rattle.machine.specs.Items.{accepts, after, reply, byte_written, written_from}
use Rattle.machine.specs.Replies.{in_memory, probe, bytes_at, byte_in, with_next}
use Rattle.machine.proofs.Replies.{moved}
use Rattle.machine.proofs.Writing.{place_same}
use Rattle.guest_pages.specs.declared.page.PageKind.TheVariants.{Swapped}
use Rattle.guest_pages.specs.Pages.{kind_at, AreWhole}
use Rattle.guest_pages.specs.Outline.{outline}
use Rattle.guest_bus.specs.Buses.{GuestBusIs, IsSettled, board_of}
use Rattle.guest_bus.specs.Lacking.{lacks_in}
use Rattle.guest_bus.specs.Writes.{WritesWhereThere}
use Rattle.guest.specs.Views.{pages_seen, Shows, here}
use Rattle.guest.proofs.Showing.{covered, here_not_swapped, shows_agree, Happened}

-- ---- where bytes have their places depends on the processor and the size of memory

some_byte : (a b : List ℕ) (here there : Option ℕ) → there ≡ here → is_some (byte_in b there) ≡ is_some (byte_in a here)
some_byte a b here there same = ap (λ (place : Option ℕ). is_some (byte_in b place)) same ∙ by_place here
  where
    by_place : (place : Option ℕ) → is_some (byte_in b place) ≡ is_some (byte_in a place)
    by_place None = refl
    by_place (Some at) = refl

some_next : (before : Option (List ℕ)) (byte : Option ℕ) → is_some (with_next before byte) ≡ (is_some before && is_some byte)
some_next None byte = refl
some_next (Some bytes) None = refl
some_next (Some bytes) (Some byte) = refl

pub placed_same : (cpu : Processor) (a b : Board) (address count : ℕ) → length b.memory ≡ length a.memory
    → is_some (bytes_at (machine_with cpu b) address count) ≡ is_some (bytes_at (machine_with cpu a) address count)
placed_same cpu a b address zero size = refl
placed_same cpu a b address (suc k) size =
    let before = placed_same cpu a b address k size in
    let place = place_same cpu a b (moved address k) size in
    let byte = some_byte a.memory b.memory (probe (machine_with cpu a) (moved address k)) (probe (machine_with cpu b) (moved address k)) place in
    some_next (bytes_at (machine_with cpu b) address k) (byte_in b.memory (probe (machine_with cpu b) (moved address k)))
    ∙ (λ i. before i && byte i)
    ∙ sym (some_next (bytes_at (machine_with cpu a) address k) (byte_in a.memory (probe (machine_with cpu a) (moved address k))))

-- ---- what is accepted and replied

module _ (these : ℕ → Bool) (cpu : Processor) (a b : Board) (agree : Agree these a b) where
  pub accepts_alike : (what : What) → accepts what (machine_with cpu b) ≡ accepts what (machine_with cpu a)
  accepts_alike Step = refl
  accepts_alike (In byte) = ap (λ (d : DevicesAre). accepts (In byte) (machine_with cpu (record a { devices = d }))) agree.devices
  accepts_alike Drain = refl
  accepts_alike (Target pages) = refl
  accepts_alike (Poke register value) = refl
  accepts_alike (Write address bytes) = ap (λ (placed : Bool). nat_le (length bytes) 1024 && placed) (placed_same cpu a b address (length bytes) agree.size)

  pub reply_alike : (what : What) → reply what (machine_with cpu b) ≡ reply what (machine_with cpu a)
  reply_alike Step = refl
  reply_alike (In byte) = refl
  reply_alike Drain = ap (λ (d : DevicesAre). Some d.console.output) agree.devices
  reply_alike (Target pages) = refl
  reply_alike (Poke register value) = refl
  reply_alike (Write address bytes) = refl

-- what happens to the devices alone
devices_agree : (these : ℕ → Bool) (a b : Board) (f : DevicesAre → DevicesAre) → Agree these a b
    → Agree these (record a { devices = f a.devices }) (record b { devices = f b.devices })
devices_agree these a b f agree = record { size = agree.size; bytes = agree.bytes; devices = ap f agree.devices }

-- ---- writes

-- what is found in memory is within it
pub inside : (memory : List ℕ) (place : Option ℕ) (at : ℕ) → in_memory memory place ≡ Some at → at < length memory
inside memory None at e = absurd (cc)
inside memory (Some place) at e = by_test (nat_lt place (length memory)) refl e
  where
    by_test : (test : Bool) → nat_lt place (length memory) ≡ test → (if test then Some place else None) ≡ Some at → at < length memory
    by_test true is found =
        let same : place ≡ at = cc in
        let h = ltb-true place (length memory) is in
        omega (arith, same, h)
    by_test false is found = absurd (cc)

module _ (these : ℕ → Bool) (cpu : Processor) where
  -- the places of the bytes from the k-th on lie in these pages
  abbrev EachFrom : Board → ℕ → ℕ → List ℕ → Type 0
  EachFrom w k address bytes = (j at : ℕ) → j < length bytes → probe (machine_with cpu w) (moved address (k + j)) ≡ Some at → IsTrue (these (page_number at))

  first_place : (w : Board) (k address byte : ℕ) (bytes : List ℕ) → EachFrom w k address (byte ∷ bytes) → (at : ℕ) → probe (machine_with cpu w) (moved address k) ≡ Some at → IsTrue (these (page_number at))
  first_place w k address byte bytes each at found =
      each 0 at (omega arith) (subst (λ (n : ℕ). probe (machine_with cpu w) (moved address n) ≡ Some at) (omega arith) found)

  later_places : (w w' : Board) (k address byte : ℕ) (bytes : List ℕ) → length w'.memory ≡ length w.memory → EachFrom w k address (byte ∷ bytes) → EachFrom w' (suc k) address bytes
  later_places w w' k address byte bytes size each j at h found =
      each (suc j) at (omega arith)
      (subst (λ (n : ℕ). probe (machine_with cpu w) (moved address n) ≡ Some at) (omega arith) (sym (place_same cpu w w' (moved address (suc k + j)) size) ∙ found))

  byte_size : (w : Board) (byte : ℕ) (place : Option ℕ) → ((at : ℕ) → place ≡ Some at → at < length w.memory) → length (byte_written byte place (machine_with cpu w)).board.memory ≡ length w.memory
  byte_size w byte None fits = refl
  byte_size w byte (Some at) fits = length-after Byte byte at w.memory (let h = fits at refl in omega (arith, h))

  byte_agree : (a b : Board) (byte : ℕ) (place : Option ℕ) → Agree these a b → ((at : ℕ) → place ≡ Some at → (at < length a.memory) × IsTrue (these (page_number at)))
      → Agree these (byte_written byte place (machine_with cpu a)).board (byte_written byte place (machine_with cpu b)).board
  byte_agree a b byte None agree fits = agree
  byte_agree a b byte (Some at) agree fits =
      let h = (fits at refl).0 in
      memory_stored_agree these a b agree Byte byte at (omega arith) (fits at refl).1 (omega (arith, h))

  written_cpu : (k address : ℕ) (bytes : List ℕ) (m : Machine) → (written_from k address bytes m).cpu ≡ m.cpu
  written_cpu k address [] m = refl
  written_cpu k address (byte ∷ bytes) m =
      let place = probe m (moved address k) in
      written_cpu (suc k) address bytes (byte_written byte place m) ∙ by_place place
    where
      by_place : (place : Option ℕ) → (byte_written byte place m).cpu ≡ m.cpu
      by_place None = refl
      by_place (Some at) = refl

  step_of : (byte : ℕ) (place : Option ℕ) (w : Board) → byte_written byte place (machine_with cpu w) ≡ machine_with cpu (byte_written byte place (machine_with cpu w)).board
  step_of byte None w = refl
  step_of byte (Some at) w = refl

  written_agree : (k address : ℕ) (bytes : List ℕ) (a b : Board) → Agree these a b → EachFrom a k address bytes
      → Agree these (written_from k address bytes (machine_with cpu a)).board (written_from k address bytes (machine_with cpu b)).board
  written_agree k address [] a b agree each = agree
  written_agree k address (byte ∷ bytes) a b agree each =
      let place = probe (machine_with cpu a) (moved address k) in
      let other = probe (machine_with cpu b) (moved address k) in
      let same : other ≡ place = place_same cpu a b (moved address k) agree.size in
      let fits : (at : ℕ) → place ≡ Some at → at < length a.memory = λ at found. inside a.memory (probed cpu.tlb cpu.cp0 (moved address k)) at found in
      let a' = (byte_written byte place (machine_with cpu a)).board in
      let b' = (byte_written byte place (machine_with cpu b)).board in
      let now : Agree these a' b' = byte_agree a b byte place agree (λ at found. (fits at found, first_place a k address byte bytes each at found)) in
      let rest = written_agree (suc k) address bytes a' b' now (later_places a a' k address byte bytes (byte_size a byte place fits) each) in
      let left = ap (λ (m : Machine). (written_from (suc k) address bytes m).board) (step_of byte place a) in
      let right = ap (λ (p : Option ℕ). (written_from (suc k) address bytes (byte_written byte p (machine_with cpu b))).board) same ∙ ap (λ (m : Machine). (written_from (suc k) address bytes m).board) (step_of byte place b) in
      subst (λ (w : Board). Agree these w (written_from (suc k) address bytes (byte_written byte other (machine_with cpu b))).board) (sym left)
      (subst (λ (w : Board). Agree these (written_from (suc k) address bytes (machine_with cpu a')).board w) (sym right) rest)

  -- a page that is none of these
  byte_beside : (w : Board) (byte page : ℕ) (place : Option ℕ) → (IsTrue (these page) → ⊥) → ((at : ℕ) → place ≡ Some at → (at < length w.memory) × IsTrue (these (page_number at)))
      → page_bytes page (byte_written byte place (machine_with cpu w)).board.memory ≡ page_bytes page w.memory
  byte_beside w byte page None apart fits = refl
  byte_beside w byte page (Some at) apart fits =
      let h = (fits at refl).0 in
      other_page page Byte byte at w.memory (omega arith) (omega (arith, h)) (λ same. apart (subst (λ (p : ℕ). IsTrue (these p)) same (fits at refl).1))

  written_beside : (k address page : ℕ) (bytes : List ℕ) (w : Board) → (IsTrue (these page) → ⊥) → EachFrom w k address bytes
      → page_bytes page (written_from k address bytes (machine_with cpu w)).board.memory ≡ page_bytes page w.memory
  written_beside k address page [] w apart each = refl
  written_beside k address page (byte ∷ bytes) w apart each =
      let place = probe (machine_with cpu w) (moved address k) in
      let fits : (at : ℕ) → place ≡ Some at → at < length w.memory = λ at found. inside w.memory (probed cpu.tlb cpu.cp0 (moved address k)) at found in
      let w' = (byte_written byte place (machine_with cpu w)).board in
      ap (λ (m : Machine). page_bytes page (written_from (suc k) address bytes m).board.memory) (step_of byte place w)
      ∙ written_beside (suc k) address page bytes w' apart (later_places w w' k address byte bytes (byte_size w byte place fits) each)
      ∙ byte_beside w byte page place apart (λ at found. (fits at found, first_place w k address byte bytes each at found))

-- ---- the machine after something happened

module _ (m : Machine) (cpu : Processor) (b : GuestBusIs) (whole : AreWhole b.pages) (settled : IsSettled b) (s : Shows m cpu b) where
  abbrev now : Machine
  now = machine_with cpu (board_of b)

  same_machine : machine_with cpu m.board ≡ m
  same_machine = ap (λ (c : Processor). machine_with c m.board) s.cpu

  agree : Agree (here b.pages) (board_of b) m.board
  agree = shows_agree m cpu b whole settled s

  pub accepts_same : (what : What) → accepts what m ≡ accepts what now
  accepts_same what = ap (accepts what) (sym same_machine) ∙ accepts_alike (here b.pages) cpu (board_of b) m.board agree what

  pub reply_same : (what : What) → reply what m ≡ reply what now
  reply_same what = ap (reply what) (sym same_machine) ∙ reply_alike (here b.pages) cpu (board_of b) m.board agree what

  -- boards that agree after it, and pages in slots that stay
  record Results (what : What) : Type 0 where
    agrees : Agree (here b.pages) (after what now).board (after what (machine_with cpu m.board)).board
    processor : (after what (machine_with cpu m.board)).cpu ≡ (after what now).cpu
    stays : (p : ℕ) → kind_at b.pages p ≡ Swapped → pages_seen (after what (machine_with cpu m.board)) p ≡ pages_seen m p

  not_here : (p : ℕ) → kind_at b.pages p ≡ Swapped → IsTrue (here b.pages p) → ⊥
  not_here p swapped h = here_not_swapped b.pages p h swapped

  results : (what : What) → is_step what ≡ false → WritesWhereThere what (lacks_in b.pages) now → Results what
  results Step e there = absurd (cc)
  results (In byte) e there = record {
    agrees = devices_agree (here b.pages) (board_of b) m.board (λ d. (after (In byte) (machine_with cpu (record m.board { devices = d }))).board.devices) agree;
    processor = refl;
    stays = λ p swapped. refl;
  }
  results Drain e there = record {
    agrees = devices_agree (here b.pages) (board_of b) m.board (λ d. (after Drain (machine_with cpu (record m.board { devices = d }))).board.devices) agree;
    processor = refl;
    stays = λ p swapped. refl;
  }
  results (Target pages) e there = record {
    agrees = devices_agree (here b.pages) (board_of b) m.board (λ d. (after (Target pages) (machine_with cpu (record m.board { devices = d }))).board.devices) agree;
    processor = refl;
    stays = λ p swapped. refl;
  }
  results (Poke register value) e there = record { agrees = agree; processor = refl; stays = λ p swapped. refl }
  results (Write address bytes) e there =
      let each : EachFrom (here b.pages) cpu (board_of b) 0 address bytes = λ j at h found. covered b.pages (page_number at) Store
      (there j at h (subst (λ (n : ℕ). probe now (moved address n) ≡ Some at) (omega arith) found)) in
      let each_seen : EachFrom (here b.pages) cpu m.board 0 address bytes = λ j at h found. each j at h (sym (place_same cpu (board_of b) m.board (moved address (0 + j)) agree.size) ∙ found) in
      record {
        agrees = written_agree (here b.pages) cpu 0 address bytes (board_of b) m.board agree each;
        processor = written_cpu (here b.pages) cpu 0 address bytes (machine_with cpu m.board) ∙ sym (written_cpu (here b.pages) cpu 0 address bytes now);
        stays = λ p swapped. written_beside (here b.pages) cpu 0 address p bytes m.board (not_here p swapped) each_seen;
      }

  module _ (what : What) (no_step : is_step what ≡ false) (there : WritesWhereThere what (lacks_in b.pages) now)
      (cpu' : Processor) (before : GuestBusIs) (made : machine_with cpu' (board_of before) ≡ after what now)
      (whole_before : AreWhole before.pages) (settled_before : IsSettled before) (same : outline before.pages ≡ outline b.pages) where
    pub input_happened : Happened b before m (after what m)
    input_happened =
        let r = results what no_step there in
        record {
          whole = whole_before;
          same = same;
          agree = subst (λ (w : Board). Agree (here b.pages) w (after what m).board) (sym (ap (λ (n : Machine). n.board) made))
              (subst (λ (n : Machine). Agree (here b.pages) (after what now).board (after what n).board) same_machine r.agrees);
          away = λ p inside swapped. inr (subst (λ (n : Machine). pages_seen (after what n) p ≡ pages_seen m p) same_machine (r.stays p swapped));
          given = λ p is. absurd (cc);
        }

    pub input_cpu : cpu' ≡ (after what m).cpu
    input_cpu =
        ap (λ (n : Machine). n.cpu) made ∙ sym (results what no_step there).processor ∙ ap (λ (n : Machine). (after what n).cpu) same_machine
