-- The memory behind a bus, and a page that waits.
use Rattle.std.proofs.Common.{ℕ, ◌≡◌, ◌+◌, ◌-◌, ◌*◌, ◌<◌, ◌&&◌, not, nat_lt, min, Bool, true, false, if◌then◌else◌, List, length, Option, Some, None, refl, sym, ap, ◌∙◌, arith}
use Rattle.std.specs.Prelude.{IfSome}
use Rattle.std.proofs.lemmas.Bool.{and_parts, ltb-true}
use Rattle.word32.specs.Words.{patched}
use Rattle.word32.specs.Zeros.{zeros}
use Rattle.dev_balloon.specs.Balloon.{is_given}
use Rattle.devices.specs.declared.register.DeviceRegister.{DeviceRegister}
use Rattle.devices.specs.declared.register.DeviceRegister.TheVariants.{ConStat, ConIn, ConOut, BalTarget, BalCount, BalGive, BalTake}
use Rattle.devices.specs.Devices.{DevicesAre}
use Rattle.devices.specs.Registers.{page_to_give}
use Rattle.machine.specs.Board.{page_bytes, page_cleared, given_away}
use Rattle.machine.proofs.Pages.{length-page}
use Rattle.machine.proofs.Boards.{given_away_size}

-- a page that is given away leaves the memory its size
pub length_of_board : (waiting : Option ℕ) (memory : List ℕ) (n : ℕ) → length memory ≡ n → length (given_away waiting memory) ≡ n
length_of_board waiting memory n h = given_away_size waiting memory ∙ h

-- a page that leaves its place shows zeros, as it did while it waited
pub cleared_whole : (memory : List ℕ) (p n : ℕ) → length memory ≡ n * 4096 → p < n → patched memory (p * 4096) (zeros 4096) 4096 ≡ page_cleared p memory
cleared_whole memory p n size there =
    let long : length (page_bytes p memory) ≡ 4096 = omega (arith, length-page p memory, size, there) in
    ap (λ (k : ℕ). patched memory (p * 4096) (zeros k) 4096) (sym long)

given_if : (test : Bool) (v n : ℕ) → (test ≡ true → v < n) → IfSome (if test then Some v else None) (λ p. p < n)
given_if true v n h = h refl
given_if false v n h = tt

-- a page that a store gives is one of the pages
pub given_is_there : (r : DeviceRegister) (v : ℕ) (d : DevicesAre) → IfSome (page_to_give r v d) (λ p. p < length d.balloon.given)
given_is_there ConStat v d = tt
given_is_there ConIn v d = tt
given_is_there ConOut v d = tt
given_is_there BalTarget v d = tt
given_is_there BalCount v d = tt
given_is_there BalGive v d =
    given_if (nat_lt v (length d.balloon.given) && not (is_given v d.balloon)) v (length d.balloon.given)
    (λ e. ltb-true v (length d.balloon.given) (and_parts (nat_lt v (length d.balloon.given)) (not (is_given v d.balloon)) e).0)
given_is_there BalTake v d = tt
