-- Faults of what was asked for.
use Rattle.std.proofs.Common.{◌≡◌, ◌<◌, ℕ, List, Some, length, get_or}
use Rattle.std.specs.List.{slice_get}
use Rattle.std.proofs.lemmas.Option.{slice_get-get_or}
use Rattle.commands.specs.declared.fault.Fault.{Fault}
use Rattle.commands.specs.declared.fault.Fault.TheVariants.{File, Asm, Elf, Raw, Script, Boot, Log, Memory}
use Rattle.run_command.specs.declared.order.GuestOrder.{GuestOrder}
use Rattle.run_command.specs.Faults.{IsGuestFault, IsGuestsFault}

-- a fault of the guest at a place is one of the guests
of_guest : (orders : List GuestOrder) (guest : ℕ) (order : GuestOrder) (fault : Fault) → slice_get orders guest ≡ Some order → IsGuestFault order fault → IsGuestsFault orders fault
of_guest orders guest order (File name) at is = record { guest = guest; order = order; its = at; image = is }
of_guest orders guest order (Elf fault) at is = is
of_guest orders guest order Memory at is = is
of_guest orders guest order (Asm fault line) at is = absurd is
of_guest orders guest order Raw at is = absurd is
of_guest orders guest order (Script line) at is = absurd is
of_guest orders guest order (Boot error) at is = absurd is
of_guest orders guest order (Log fault) at is = absurd is

pub of_place : (orders : List GuestOrder) (guest : ℕ) (d : GuestOrder) (fault : Fault) → guest < length orders → IsGuestFault (get_or orders guest d) fault → IsGuestsFault orders fault
of_place orders guest d fault inside is = of_guest orders guest (get_or orders guest d) fault (slice_get-get_or orders guest d inside) is
