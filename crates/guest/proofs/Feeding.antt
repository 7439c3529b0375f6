-- A byte of console input, for which a guest has room.
use Rattle.std.proofs.Common.{ℕ, ◌≡◌, true, sym, ap, ◌∙◌}
use Rattle.items.specs.declared.item.What.TheVariants.{In}
use Rattle.devices.specs.Devices.{DevicesAre, device_input_fed}
use Rattle.machine.specs.Processor.{Processor}
use Rattle.machine.specs.Step.{Machine, machine_with}
use Rattle.machine.specs.Items.{accepts, after}
use Rattle.guest_bus.specs.Buses.{GuestBusIs, board_of}
use Rattle.guest.specs.Views.{Shows}

module _ (byte : ℕ) (m : Machine) (cpu : Processor) (b : GuestBusIs) (s : Shows m cpu b) where
  -- the machine has room for it too
  pub accepted_too : accepts (In byte) (machine_with cpu (board_of b)) ≡ true → accepts (In byte) m ≡ true
  accepted_too accepted = sym (ap (λ (d : DevicesAre). accepts (In byte) (machine_with cpu (record (board_of b) { devices = d }))) s.devices) ∙ accepted

  -- processor and pages stay those of the machine
  pub fed_shows : Shows (after (In byte) m) cpu (record b { devices = device_input_fed byte b.devices })
  fed_shows = record { cpu = s.cpu; devices = ap (device_input_fed byte) s.devices; size = s.size; pages = s.pages }
