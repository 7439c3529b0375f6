-- Console input, a byte after another.
use Rattle.std.proofs.Common.{◌≡◌, refl, sym, ap, ◌∙◌, arith, ℕ, zero, suc, ◌+◌, ◌<◌, List, [], ◌∷◌, length, take, get_or, add-one}
use Rattle.std.proofs.lemmas.List.{length-append}
use Rattle.items.specs.declared.item.What.TheVariants.{In}
use Rattle.machine.specs.Step.{Machine}
use Rattle.machine.specs.Items.{after}
use Rattle.runs.specs.Runs.{fed}

-- one byte more
fed_more : (i : ℕ) (bytes : List ℕ) (m : Machine) → i < length bytes → fed (take (suc i) bytes) m ≡ after (In (get_or bytes i 0)) (fed (take i bytes) m)
fed_more i [] m h = absurd (omega (arith, h))
fed_more zero (x ∷ xs) m h = refl
fed_more (suc i) (x ∷ xs) m h = fed_more i xs (after (In x) m) (omega (arith, h))

-- a machine that took some bytes, and then one more
pub fed_step : (i : ℕ) (bytes : List ℕ) (before now new : Machine) → i < length bytes → now ≡ fed (take i bytes) before → new ≡ after (In (get_or bytes i 0)) now → new ≡ fed (take (i + 1) bytes) before
fed_step i bytes before now new h e n =
    n ∙ ap (after (In (get_or bytes i 0))) e ∙ sym (fed_more i bytes before h) ∙ ap (λ k. fed (take k bytes) before) (sym (add-one i))

-- a byte that was taken waits behind the others
pub fed_waits : (byte : ℕ) (now new : Machine) → new ≡ after (In byte) now → length new.board.devices.console.input ≡ length now.board.devices.console.input + 1
fed_waits byte now new n =
    ap (λ m. length m.board.devices.console.input) n ∙ length-append now.board.devices.console.input (byte ∷ [])
