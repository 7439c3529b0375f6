-- Buses of one outline and one board are the same.
use Rattle.std.proofs.Common.{◌≡◌, List, None, sym, ap, ◌∙◌}
use Rattle.machine.specs.Board.{Board, given_away}
use Rattle.guest_pages.specs.declared.page.Page.{Page}
use Rattle.guest_pages.specs.Pages.{memory_of, AreWhole}
use Rattle.guest_pages.specs.Outline.{outline}
use Rattle.guest_pages.proofs.Same.{same_pages}
use Rattle.guest_bus.specs.Buses.{GuestBusIs, IsSettled, board_of}

-- the memory of a settled bus is that of its pages
settled_memory : (b : GuestBusIs) → IsSettled b → (board_of b).memory ≡ memory_of b.pages
settled_memory b h = ap (λ waiting. given_away waiting (memory_of b.pages)) h

pub same_buses : (a b : GuestBusIs) → AreWhole a.pages → AreWhole b.pages → IsSettled a → IsSettled b → outline a.pages ≡ outline b.pages → board_of a ≡ board_of b → a ≡ b
same_buses a b whole_a whole_b settled_a settled_b kept board =
    let memories = sym (settled_memory a settled_a) ∙ ap (λ (w : Board). w.memory) board ∙ settled_memory b settled_b in
    let pages = same_pages a.pages b.pages whole_a whole_b kept memories in
    let devices = ap (λ (w : Board). w.devices) board in
    let waiting = settled_a ∙ sym settled_b in
    λ i. record { pages = pages i; devices = devices i; waiting = waiting i }
