-- The memory of pages that were never touched.
use Rattle.std.proofs.Common.{ℕ, zero, suc, ◌≡◌, ◌+◌, ◌*◌, ◌/◌, List, [], ◌++◌, length, replicate, refl, sym, ap, ◌∙◌, arith}
use Rattle.std.proofs.lemmas.List.{replicate-append-replicate}
use Rattle.word32.specs.Zeros.{zeros}
use Rattle.devices.specs.Devices.{DevicesAre, fresh_devices}
use Rattle.machine.specs.Board.{Board, with_memory}
use Rattle.guest_pages.specs.declared.page.Page.{Page}
use Rattle.guest_pages.specs.declared.page.Page.TheVariants.{Zero}
use Rattle.guest_pages.specs.Pages.{memory_of}
use Rattle.guest_pages.proofs.Bytes.{zeros_length}

zeros_joined : (m n : ℕ) → zeros m ++ zeros n ≡ zeros (m + n)
unfolding zeros
zeros_joined m n = replicate-append-replicate m n 0

no_zeros : zeros 0 ≡ []
unfolding zeros
no_zeros = refl

fresh_memory : (pages : ℕ) → memory_of (replicate pages Zero) ≡ zeros (pages * 4096)
fresh_memory zero = sym no_zeros
fresh_memory (suc pages) =
    let more : 4096 + pages * 4096 ≡ suc pages * 4096 = omega arith in
    ap (λ (bytes : List ℕ). zeros 4096 ++ bytes) (fresh_memory pages) ∙ zeros_joined 4096 (pages * 4096) ∙ ap zeros more

-- they are zeros, with devices for as many pages
pub fresh_board : (pages : ℕ) → record { memory = memory_of (replicate pages Zero); devices = fresh_devices pages } ≡ with_memory (zeros (pages * 4096))
fresh_board pages =
    let count : pages ≡ length (zeros (pages * 4096)) / 4096 = omega (arith, zeros_length (pages * 4096)) in
    ap (λ (bytes : List ℕ). record { memory = bytes; devices = fresh_devices pages }) (fresh_memory pages)
    ∙ ap (λ (n : ℕ). record { memory = zeros (pages * 4096); devices = fresh_devices n }) count
