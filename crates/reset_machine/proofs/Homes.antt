-- How many pages the memory has that an image boots.
use Rattle.std.proofs.Common.{ℕ, ◌≡◌, ◌*◌, ◌^◌, ◌≤◌, All, fold, List, [], ◌∷◌, length, suc, refl, sym, ap, subst, ◌∙◌, arith}
use Rattle.word32.specs.Zeros.{zeros}
use Rattle.elf32.specs.declared.image.Segment.{Segment}
use Rattle.elf32.specs.declared.image.Image.{Image}
use Rattle.elf32.specs.Images.{IsWithin, FitsPages}
use Rattle.machine.specs.Board.{Board}
use Rattle.machine.specs.Boot.{placed, boot_memory, boot_board}
use Rattle.machine.proofs.Clearing.{length-zeros}
use Rattle.guest.proofs.BootPages.{placed_size}
use Rattle.reset_machine.specs.Watched.{HasPages}

placed_all_size : (segments : List Segment) (memory : List ℕ) → All (IsWithin (length memory)) segments → length (fold placed memory segments) ≡ length memory
placed_all_size [] memory within = refl
placed_all_size (s ∷ segments) memory within =
    let size = placed_size memory s (within 0 s (omega arith)) in
    placed_all_size segments (placed memory s) (subst (λ (n : ℕ). All (IsWithin n) segments) (sym size) (λ k d h. within (suc k) d (omega arith))) ∙ size

boot_size : (image : Image) (pages : ℕ) → FitsPages image pages → length (boot_memory image pages) ≡ pages * 4096
boot_size image pages fits =
    let size = length-zeros (pages * 4096) in
    placed_all_size image.segments.items (zeros (pages * 4096)) (subst (λ (n : ℕ). All (IsWithin n) image.segments.items) (sym size) fits) ∙ size

pub boot_pages : (image : Image) (pages : ℕ) (board : Board) → FitsPages image pages → pages ≤ 2 ^ 20 → board ≡ boot_board image pages → HasPages pages board.memory
boot_pages image pages board fits few is = record { few = few; size = ap (λ (b : Board). length b.memory) is ∙ boot_size image pages fits }
