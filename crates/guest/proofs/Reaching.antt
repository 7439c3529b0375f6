-- The pages that a step accesses are pages of the memory.
use Rattle.std.proofs.Common.{ℕ, ◌≡◌, ◌+◌, ◌*◌, ◌/◌, ◌<◌, Bool, true, false, leb-true, if◌then◌else◌, All, List, [], ◌∷◌, length, Option, Some, None, IfSome, Result, Ok, Err, refl, sym, ap, subst, ◌∙◌, arith}
use Rattle.std.proofs.lemmas.List.Elements.{All-nil, All-cons, All-head, All-tail}
use Rattle.word32.specs.Pages.{page_number}
use Rattle.mips_cp0.specs.declared.exception.Exc.{Exc}
use Rattle.mips_cp0.specs.Interrupts.{interrupt_taken}
use Rattle.mips_tlb.specs.declared.kind.Kind.{Kind}
use Rattle.mips_tlb.specs.declared.kind.Kind.TheVariants.{Fetch, Load, Store}
use Rattle.machine.specs.declared.access.Size.{Size}
use Rattle.machine.specs.declared.access.Size.TheVariants.{Byte, Half, Word, Left, Right}
use Rattle.machine.specs.declared.access.Why.{Why}
use Rattle.machine.specs.Processor.{Processor, clocked}
use Rattle.machine.specs.Board.{Board, is_in_memory, device_reach, register_reach, is_register_access, value_in, lines_of}
use Rattle.machine.specs.Board.Reach.{InMemory, Nowhere}
use Rattle.devices.specs.declared.register.DeviceRegister.{DeviceRegister}
use Rattle.devices.specs.Registers.{device_register_at}
use Rattle.machine.specs.Places.{fetch_place}
use Rattle.machine.specs.Operations.{Operation, word_operation}
use Rattle.machine.specs.Operations.Operation.{OnProcessor, Loads, Stores}
use Rattle.machine.specs.Step.{Machine, machine_with, load_size, load_place, store_size, store_place, is_given_up}
use Rattle.machine.specs.Accesses.{Access, reached, placed_accesses, data_accesses, word_accesses, fetch_accesses, accesses, first_lack}
use Rattle.guest_pages.specs.Pages.{AreWhole}
use Rattle.guest_pages.proofs.Memory.{length_of_memory}
use Rattle.guest_bus.specs.Buses.{GuestBusIs, IsSettled, board_of}
use Rattle.guest_bus.specs.Lacking.{lacks_in}
use Rattle.guest.proofs.Showing.{settled_memory}

-- an access of one of so many pages
abbrev Inside : ℕ → Access → Type 0
Inside count a = a.page < count

-- an address among the bytes of an access that memory answers
low : (size : Size) (w : Board) (at count : ℕ) → is_in_memory w size at ≡ true → length w.memory ≡ count * 4096 → page_number at < count
low Byte w at count inside is = let h = leb-true (at + 1) (length w.memory) inside in omega (arith, h, is)
low Half w at count inside is = let h = leb-true (at + 2) (length w.memory) inside in omega (arith, h, is)
low Word w at count inside is = let h = leb-true (at + 4) (length w.memory) inside in omega (arith, h, is)
low Left w at count inside is = let h = leb-true (at / 4 * 4 + 4) (length w.memory) inside in omega (arith, h, is)
low Right w at count inside is = let h = leb-true (at / 4 * 4 + 4) (length w.memory) inside in omega (arith, h, is)

not_memory : (r : Option DeviceRegister) (register : Bool) (kind : Kind) (at count : ℕ) → All (Inside count) (reached (if register then register_reach r else Nowhere) kind at)
not_memory None true kind at count = All-nil (Inside count)
not_memory (Some r) true kind at count = All-nil (Inside count)
not_memory r false kind at count = All-nil (Inside count)

reach_inside : (test : Bool) (kind : Kind) (size : Size) (w : Board) (at count : ℕ) → is_in_memory w size at ≡ test → length w.memory ≡ count * 4096
    → All (Inside count) (reached (if test then InMemory else device_reach kind size at) kind at)
reach_inside true kind size w at count inside is = All-cons (Inside count) (record { page = page_number at; kind = kind }) [] (low size w at count inside is) (All-nil (Inside count))
reach_inside false kind size w at count inside is = not_memory (device_register_at at) (is_register_access kind size) kind at count

placed_inside : (kind : Kind) (size : Size) (at : Result ℕ Exc) (m : Machine) (count : ℕ) → length m.board.memory ≡ count * 4096 → All (Inside count) (placed_accesses kind size at m)
placed_inside kind size (Err e) m count is = All-nil (Inside count)
placed_inside kind size (Ok at) m count is = reach_inside (is_in_memory m.board size at) kind size m.board at count refl is

none_or : (test : Bool) (count : ℕ) (some : List Access) → All (Inside count) some → All (Inside count) (if test then [] else some)
none_or true count some all = All-nil (Inside count)
none_or false count some all = all

data_inside : (o : Operation) (m : Machine) (count : ℕ) → length m.board.memory ≡ count * 4096 → All (Inside count) (data_accesses o m)
data_inside (OnProcessor effect) m count is = All-nil (Inside count)
data_inside (Loads op rt base offset) m count is = placed_inside Load (load_size op) (load_place op base offset m.cpu) m count is
data_inside (Stores op rt base offset) m count is =
    none_or (is_given_up op m.cpu.ll_bit) count (placed_accesses Store (store_size op) (store_place op base offset m.cpu) m) (placed_inside Store (store_size op) (store_place op base offset m.cpu) m count is)

word_inside : (test : Bool) (at : ℕ) (m : Machine) (count : ℕ) → is_in_memory m.board Word at ≡ test → length m.board.memory ≡ count * 4096 → All (Inside count) (if test then word_accesses at m else [])
word_inside true at m count inside is =
    All-cons (Inside count) (record { page = page_number at; kind = Fetch }) (data_accesses (word_operation (value_in m.board.memory Word at)) m)
    (low Word m.board at count inside is) (data_inside (word_operation (value_in m.board.memory Word at)) m count is)
word_inside false at m count inside is = All-nil (Inside count)

fetch_inside : (at : Result ℕ Exc) (m : Machine) (count : ℕ) → length m.board.memory ≡ count * 4096 → All (Inside count) (fetch_accesses at m)
fetch_inside (Err e) m count is = All-nil (Inside count)
fetch_inside (Ok at) m count is = word_inside (is_in_memory m.board Word at) at m count refl is

pub accesses_inside : (m : Machine) (count : ℕ) → length m.board.memory ≡ count * 4096 → All (Inside count) (accesses m)
unfolding accesses
accesses_inside m count is =
    let ticked : Machine = record m { cpu = clocked m.cpu } in
    none_or (interrupt_taken (lines_of ticked.board) ticked.cpu.cp0) count (fetch_accesses (fetch_place ticked.cpu) ticked) (fetch_inside (fetch_place ticked.cpu) ticked count is)

first_or : (o : Option Why) (page count : ℕ) (more : Option (ℕ × Why)) → page < count → IfSome more (λ n. n.0 < count) → IfSome (elim o [ None ↦ more | Some why ↦ Some (page, why) ]) (λ n. n.0 < count)
first_or None page count more here later = later
first_or (Some why) page count more here later = here

lack_inside : (lacks : ℕ → Kind → Option Why) (all : List Access) (count : ℕ) → All (Inside count) all → IfSome (first_lack lacks all) (λ n. n.0 < count)
lack_inside lacks [] count inside = tt
lack_inside lacks (a ∷ more) count inside =
    first_or (lacks a.page a.kind) a.page count (first_lack lacks more) (All-head (Inside count) a more inside) (lack_inside lacks more count (All-tail (Inside count) a more inside))

-- the page that is needed is one of the pages
pub need_inside : (cpu : Processor) (b : GuestBusIs) (need : Option (ℕ × Why)) → AreWhole b.pages → IsSettled b → need ≡ first_lack (lacks_in b.pages) (accesses (machine_with cpu (board_of b)))
    → IfSome need (λ n. n.0 < length b.pages)
need_inside cpu b need whole settled is =
    subst (λ (o : Option (ℕ × Why)). IfSome o (λ n. n.0 < length b.pages)) (sym is)
    (lack_inside (lacks_in b.pages) (accesses (machine_with cpu (board_of b))) (length b.pages)
    (accesses_inside (machine_with cpu (board_of b)) (length b.pages) (ap length (settled_memory b settled) ∙ length_of_memory b.pages whole)))
