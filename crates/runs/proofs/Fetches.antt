-- The word that is fetched, by the bytes that a debugger reads.
use Rattle.std.proofs.Common.{ℕ, ◌≡◌, ◌+◌, ◌*◌, ◌/◌, ◌%◌, ◌^◌, ◌<◌, ◌≤◌, ◌==◌, ◌&&◌, ◌⊎◌, inl, inr, not, nat_lt, nat_le, Bool, true, false, if◌then◌else◌, List, [], ◌∷◌, length, drop, get_or, find, Option, Some, None, Result, Ok, Err, refl, sym, ap, ◌∙◌, arith, suc, eqb-true, eq-eqb, drop-cons}
use Rattle.std.proofs.lemmas.Bool.{cases_lt}
use Rattle.std.proofs.lemmas.Bool.Decides.{nat_tests}
use Rattle.byteorder.specs.Endian.{little_number}
use Rattle.word32.specs.Words.{word_in}
use Rattle.word32.specs.Pages.{page_number}
use Rattle.mips_cp0.specs.declared.exception.Exc.{Exc}
use Rattle.mips_cp0.specs.Registers.{SystemRegisters, current_asid}
use Rattle.mips_tlb.specs.Entries.{matches}
use Rattle.mips_tlb.specs.Segments.{is_mapped, is_refused, unmapped_address}
use Rattle.mips_tlb.specs.Translation.{address_error, answer_of, half_of, kernel_translation, probed, through_entry, translation, tlb_exception}
use Rattle.mips_tlb.specs.declared.kind.Kind.TheVariants.{Fetch, Load}
use Rattle.mips_tlb.specs.declared.tlb.Entry.{Entry}
use Rattle.mips_tlb.proofs.Pages.{translation_same}
use Rattle.machine.specs.declared.access.Size.TheVariants.{Word}
use Rattle.machine.specs.Board.{is_given_page, is_in_memory}
use Rattle.machine.specs.Places.{place}
use Rattle.machine.specs.Step.{Machine}
use Rattle.machine.proofs.Aligned.{passed, place_offset}
use Rattle.machine.specs.Replies.{byte_at, byte_in, in_memory, with_next}
use Rattle.runs.specs.Loops.{fetched_word, read_as_word, word_at_place, word_read}

-- ---- where a fetch leads, a load of kernel mode does

half_alike : (valid : Bool) (address to at : ℕ) → (if not valid then Err (tlb_exception Fetch address false) else Ok to) ≡ Ok at
    → (if not valid then Err (tlb_exception Load address false) else Ok to) ≡ Ok at
half_alike true address to at given = given
half_alike false address to at given = absurd (cc)

entry_alike : (address at : ℕ) (found : Option Entry) → through_entry Fetch address found ≡ Ok at → through_entry Load address found ≡ Ok at
entry_alike address at None given = absurd (cc)
entry_alike address at (Some entry) given =
    half_alike (half_of address entry).valid address ((half_of address entry).pfn * 2 ^ 12 + address % 2 ^ 12) at given

mapped_alike : (mapped : Bool) (address to at : ℕ) (found : Option Entry) → (if mapped then through_entry Fetch address found else Ok to) ≡ Ok at
    → (if mapped then through_entry Load address found else Ok to) ≡ Ok at
mapped_alike true address to at found given = entry_alike address at found given
mapped_alike false address to at found given = given

not_refused : (refused : Bool) (found : Result ℕ Exc) (e : Exc) (at : ℕ) → (if refused then Err e else found) ≡ Ok at → found ≡ Ok at
not_refused true found e at given = absurd (cc)
not_refused false found e at given = given

probed_fetch : (entries : List Entry) (r : SystemRegisters) (address at : ℕ) → translation entries r Fetch address ≡ Ok at → probed entries r address ≡ Some at
probed_fetch entries r address at given =
    ap answer_of (mapped_alike (is_mapped r.status address) address (unmapped_address address) at (find (matches address (current_asid r)) entries)
    (not_refused (is_refused r.status address) (kernel_translation entries r Fetch address) (address_error Fetch address) at given))

-- byte k of a word
byte_of_word : (m : Machine) (address at k : ℕ) → address < 2 ^ 32 → k < 4 → place Fetch Word m.cpu address ≡ Ok at
    → byte_at m ((address + k) % 2 ^ 32) ≡ byte_in m.board.memory (in_memory m.board.memory (Some (at + k)))
byte_of_word m address at k small below placed =
    let found = passed (address % 4 == 0) (translation m.cpu.tlb m.cpu.cp0 Fetch address) (address_error Fetch address) at placed in
    let aligned : address % 4 ≡ 0 = eqb-true (address % 4) 0 found.0 in
    let offset = place_offset Fetch Word m.cpu address at placed in
    let page : address / 2 ^ 12 ≡ (address + k) / 2 ^ 12 = omega (arith, aligned, below) in
    let same : at / 2 ^ 12 * 2 ^ 12 + (address + k) % 2 ^ 12 ≡ at + k = omega (arith, aligned, below, offset) in
    let here : (address + k) % 2 ^ 32 ≡ address + k = omega (arith, aligned, below, small) in
    let led = translation_same m.cpu.tlb m.cpu.cp0 Fetch address (address + k) at page found.1 ∙ ap Ok same in
    ap (byte_at m) here
    ∙ ap (λ (to : Option ℕ). byte_in m.board.memory (in_memory m.board.memory to)) (probed_fetch m.cpu.tlb m.cpu.cp0 (address + k) (at + k) led)

four : Option ℕ → Option ℕ → Option ℕ → Option ℕ → Option (List ℕ)
four a b c d = with_next (with_next (with_next (with_next (Some []) a) b) c) d

within : (memory : List ℕ) (at : ℕ) → at < length memory → byte_in memory (in_memory memory (Some at)) ≡ Some (get_or memory at 0)
within memory at h =
    let inside : nat_lt at (length memory) ≡ true = grind (arith, nat_tests) in
    ap (λ (b : Bool). byte_in memory (if b then Some at else None)) inside

past : (memory : List ℕ) (at : ℕ) → length memory ≤ at → byte_in memory (in_memory memory (Some at)) ≡ None
past memory at h =
    let outside : nat_lt at (length memory) ≡ false = grind (arith, nat_tests) in
    ap (λ (b : Bool). byte_in memory (if b then Some at else None)) outside

none_last : (bytes : Option (List ℕ)) → with_next bytes None ≡ None
none_last None = refl
none_last (Some bytes) = refl

four_dropped : (memory : List ℕ) (at : ℕ) → at + 4 ≤ length memory
    → word_in (get_or memory at 0 ∷ get_or memory (at + 1) 0 ∷ get_or memory (at + 2) 0 ∷ get_or memory (at + 3) 0 ∷ []) 0 ≡ word_in memory at
four_dropped memory at h =
    let one : suc at ≡ at + 1 = omega arith in
    let two : suc (at + 1) ≡ at + 2 = omega arith in
    let three : suc (at + 2) ≡ at + 3 = omega arith in
    let rest = drop (suc (at + 3)) memory in
    let last = drop-cons memory (at + 3) 0 (omega arith) in
    let third = drop-cons memory (at + 2) 0 (omega arith) ∙ ap (λ (n : ℕ). get_or memory (at + 2) 0 ∷ drop n memory) three ∙ ap (λ (xs : List ℕ). get_or memory (at + 2) 0 ∷ xs) last in
    let second = drop-cons memory (at + 1) 0 (omega arith) ∙ ap (λ (n : ℕ). get_or memory (at + 1) 0 ∷ drop n memory) two ∙ ap (λ (xs : List ℕ). get_or memory (at + 1) 0 ∷ xs) third in
    let first = drop-cons memory at 0 (omega arith) ∙ ap (λ (n : ℕ). get_or memory at 0 ∷ drop n memory) one ∙ ap (λ (xs : List ℕ). get_or memory at 0 ∷ xs) second in
    sym (ap (little_number 4) first)

-- ---- the word at a place

pub placed_word : List ℕ → ℕ → Option ℕ
placed_word memory at = if nat_le (at + 4) (length memory) then Some (word_in memory at) else None

byte_placed : List ℕ → ℕ → Option ℕ
byte_placed memory at = byte_in memory (in_memory memory (Some at))

placed_four : (memory : List ℕ) (at : ℕ) → (length memory < at + 4) ⊎ (at + 4 ≤ length memory)
    → read_as_word (four (byte_placed memory at) (byte_placed memory (at + 1)) (byte_placed memory (at + 2)) (byte_placed memory (at + 3))) ≡ placed_word memory at
unfolding four placed_word byte_placed
placed_four memory at (inl short) =
    let outside : nat_le (at + 4) (length memory) ≡ false = grind (arith, nat_tests) in
    ap (λ (last : Option ℕ). read_as_word (four (byte_placed memory at) (byte_placed memory (at + 1)) (byte_placed memory (at + 2)) last)) (past memory (at + 3) (omega arith))
    ∙ ap read_as_word (none_last (with_next (with_next (with_next (Some []) (byte_placed memory at)) (byte_placed memory (at + 1))) (byte_placed memory (at + 2))))
    ∙ sym (ap (λ (b : Bool). if b then Some (word_in memory at) else None) outside)
placed_four memory at (inr room) =
    let inside : nat_le (at + 4) (length memory) ≡ true = grind (arith, nat_tests) in
    let b0 = within memory at (omega arith) in
    let b1 = within memory (at + 1) (omega arith) in
    let b2 = within memory (at + 2) (omega arith) in
    let b3 = within memory (at + 3) (omega arith) in
    (λ i. read_as_word (four (b0 i) (b1 i) (b2 i) (b3 i)))
    ∙ ap Some (four_dropped memory at room)
    ∙ sym (ap (λ (b : Bool). if b then Some (word_in memory at) else None) inside)

pub word_there : (m : Machine) (address at : ℕ) → address < 2 ^ 32 → place Fetch Word m.cpu address ≡ Ok at → word_read m address ≡ placed_word m.board.memory at
unfolding four byte_placed
word_there m address at small placed =
    let none : at + 0 ≡ at = omega arith in
    let b0 = byte_of_word m address at 0 small (omega arith) placed ∙ ap (byte_placed m.board.memory) none in
    let b1 = byte_of_word m address at 1 small (omega arith) placed in
    let b2 = byte_of_word m address at 2 small (omega arith) placed in
    let b3 = byte_of_word m address at 3 small (omega arith) placed in
    (λ i. read_as_word (four (b0 i) (b1 i) (b2 i) (b3 i))) ∙ placed_four m.board.memory at (cases_lt (length m.board.memory) (at + 4))

-- ---- what a fetch gives, by the ways in which it is looked for

pub misaligned : (m : Machine) (address : ℕ) → (address % 4 ≡ 0 → ⊥) → fetched_word m address ≡ None
misaligned m address odd =
    let no : (address % 4 == 0) ≡ false = grind (arith, nat_tests) in
    ap (λ (b : Bool). word_at_place m.board (if b then translation m.cpu.tlb m.cpu.cp0 Fetch address else Err (address_error Fetch address))) no

placed_at : (m : Machine) (address : ℕ) → address % 4 ≡ 0 → place Fetch Word m.cpu address ≡ translation m.cpu.tlb m.cpu.cp0 Fetch address
placed_at m address aligned =
    ap (λ (b : Bool). if b then translation m.cpu.tlb m.cpu.cp0 Fetch address else Err (address_error Fetch address)) (eq-eqb (address % 4) 0 aligned)

pub refused_fetch : (m : Machine) (address : ℕ) (e : Exc) → address % 4 ≡ 0 → translation m.cpu.tlb m.cpu.cp0 Fetch address ≡ Err e → fetched_word m address ≡ None
refused_fetch m address e aligned raised = ap (word_at_place m.board) (placed_at m address aligned ∙ raised)

never : (there : Bool) (word : Option ℕ) → (if there && not true then word else None) ≡ None
never true word = refl
never false word = refl

pub given_fetch : (m : Machine) (address at : ℕ) → address % 4 ≡ 0 → translation m.cpu.tlb m.cpu.cp0 Fetch address ≡ Ok at → is_given_page (page_number at) m.board ≡ true → fetched_word m address ≡ None
given_fetch m address at aligned found given =
    ap (word_at_place m.board) (placed_at m address aligned ∙ found)
    ∙ ap (λ (b : Bool). if is_in_memory m.board Word at && not b then Some (word_in m.board.memory at) else None) given
    ∙ never (is_in_memory m.board Word at) (Some (word_in m.board.memory at))

always : (there : Bool) (word : Option ℕ) → (if there && not false then word else None) ≡ (if there then word else None)
always true word = refl
always false word = refl

pub read_fetch : (m : Machine) (address at : ℕ) → address < 2 ^ 32 → address % 4 ≡ 0 → translation m.cpu.tlb m.cpu.cp0 Fetch address ≡ Ok at → is_given_page (page_number at) m.board ≡ false
    → fetched_word m address ≡ word_read m address
unfolding placed_word
read_fetch m address at small aligned found apart =
    let placed = placed_at m address aligned ∙ found in
    ap (word_at_place m.board) placed
    ∙ ap (λ (b : Bool). if is_in_memory m.board Word at && not b then Some (word_in m.board.memory at) else None) apart
    ∙ always (is_in_memory m.board Word at) (Some (word_in m.board.memory at))
    ∙ sym (word_there m address at small placed)
