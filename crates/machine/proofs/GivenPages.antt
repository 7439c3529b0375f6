-- A page that is given is zeros, whatever happens to the machine.
use Rattle.std.proofs.Common.{ℕ, suc, ◌≡◌, ◌+◌, ◌%◌, ◌^◌, ◌<◌, ◌≤◌, Bool, true, false, nat_lt, if◌then◌else◌, List, [], ◌∷◌, length, replicate, ◌⊎◌, inl, inr, Option, Some, None, refl, sym, ap, ◌∙◌, arith, ltb-true}
use Rattle.std.proofs.lemmas.List.{get_or-replicate, length-replicate}
use Rattle.std.proofs.lemmas.Bool.{cases_lt, true≢false}
use Rattle.std.proofs.Math.ListN.{get_or-eq_default}
use Rattle.word32.specs.Zeros.{zeros}
use Rattle.dev_balloon.specs.Balloon.{is_given, fresh_balloon}
use Rattle.elf32.specs.declared.image.Image.{Image}
use Rattle.items.specs.declared.item.What.{What}
use Rattle.items.specs.declared.item.What.TheVariants.{Step, In, Drain, Target, Poke, Write}
use Rattle.items.specs.declared.item.Item.{Item}
use Rattle.machine.specs.declared.access.Size.TheVariants.{Byte}
use Rattle.machine.specs.Board.{memory_stored}
use Rattle.machine.specs.Agreeing.{GivenAreZeros}
use Rattle.machine.specs.Step.{Machine}
use Rattle.machine.proofs.OtherPages.{zeros_stay, page_stored}
use Rattle.mips_tlb.specs.Translation.{probed}
use Rattle.machine.specs.Boot.{boot_board}
use Rattle.machine.specs.Items.{byte_written, written_from, after, run}
use Rattle.machine.specs.Replies.{in_memory, probe}

-- no page of a fresh balloon is given
never_given : (pages page : ℕ) → (page < pages) ⊎ (pages ≤ page) → is_given page (fresh_balloon pages) ≡ false
never_given pages page (inl h) = get_or-replicate pages page false false h
never_given pages page (inr h) = get_or-eq_default (replicate pages false) false (omega (arith, length-replicate pages false))

pub boot_zeros : (image : Image) (pages : ℕ) → GivenAreZeros (boot_board image pages)
boot_zeros image pages page given = absurd (true≢false (sym given ∙ never_given pages page (cases_lt page pages)))

-- what is found in memory is within it
inside : (memory : List ℕ) (place : Option ℕ) (at : ℕ) → in_memory memory place ≡ Some at → at < length memory
inside memory None at e = absurd (cc)
inside memory (Some place) at e = by_test (nat_lt place (length memory)) refl e
  where
    by_test : (test : Bool) → nat_lt place (length memory) ≡ test → (if test then Some place else None) ≡ Some at → at < length memory
    by_test true is found =
        let same : place ≡ at = cc in
        let h = ltb-true place (length memory) is in
        omega (arith, same, h)
    by_test false is found = absurd (cc)

stored_zeros : (m : Machine) (byte at : ℕ) → at < length m.board.memory → GivenAreZeros m.board → GivenAreZeros (memory_stored Byte byte at m.board)
stored_zeros m byte at h before page given =
    let s = page_stored page m.cpu m.board Byte byte at (omega arith) (omega arith) in
    elim (s.zeros given) [
      | inl was ↦ was.1 ∙ before page was.0 ∙ sym (ap (λ (bytes : List ℕ). zeros (length bytes)) was.1)
      | inr cleared ↦ cleared
    ]

byte_zeros : (m : Machine) (byte : ℕ) (place : Option ℕ) → ((at : ℕ) → place ≡ Some at → at < length m.board.memory) → GivenAreZeros m.board → GivenAreZeros (byte_written byte place m).board
byte_zeros m byte None within before = before
byte_zeros m byte (Some at) within before = stored_zeros m byte at (within at refl) before

written_zeros : (k address : ℕ) (bytes : List ℕ) (m : Machine) → GivenAreZeros m.board → GivenAreZeros (written_from k address bytes m).board
written_zeros k address [] m before = before
written_zeros k address (byte ∷ bytes) m before =
    let place = probe m ((address + k) % 2 ^ 32) in
    written_zeros (suc k) address bytes (byte_written byte place m)
    (byte_zeros m byte place (λ at found. inside m.board.memory (probed m.cpu.tlb m.cpu.cp0 ((address + k) % 2 ^ 32)) at found) before)

pub after_zeros : (what : What) (m : Machine) → GivenAreZeros m.board → GivenAreZeros (after what m).board
after_zeros Step m before = zeros_stay m before
after_zeros (In byte) m before = before
after_zeros Drain m before = before
after_zeros (Target pages) m before = before
after_zeros (Poke register value) m before = before
after_zeros (Write address bytes) m before = written_zeros 0 address bytes m before

pub run_zeros : (items : List Item) (m : Machine) → GivenAreZeros m.board → GivenAreZeros (run items m).board
run_zeros [] m before = before
run_zeros (i ∷ items) m before = run_zeros items (after i.what m) (after_zeros i.what m before)
