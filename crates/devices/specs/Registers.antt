-- The devices' registers, each a word at a physical address.
use Rattle.std.specs.Prelude.{ℕ, ◌%◌, ◌==◌, List, [], ◌∷◌, Option, Some, None, option_map, find, if◌then◌else◌}
use Rattle.dev_console.specs.Console.{console_status, next_input, input_taken, output_written}
use Rattle.dev_balloon.specs.Balloon.{given_count, can_be_given, page_given, page_taken}
use Rattle.devices.specs.Devices.{DevicesAre}
use Rattle.devices.specs.declared.register.DeviceRegister.{DeviceRegister}
use Rattle.devices.specs.declared.register.DeviceRegister.TheVariants.{ConStat, ConIn, ConOut, BalTarget, BalCount, BalGive, BalTake}

-- the registers with their physical addresses
abbrev pub device_table : List (ℕ × DeviceRegister)
device_table =
    (0x1f000000, ConStat)
    ∷ (0x1f000004, ConIn)
    ∷ (0x1f000008, ConOut)
    ∷ (0x1f000010, BalTarget)
    ∷ (0x1f000014, BalCount)
    ∷ (0x1f000018, BalGive)
    ∷ (0x1f00001c, BalTake)
    ∷ []

-- the register of a physical address, where there is one
abbrev pub device_register_at : ℕ → Option DeviceRegister
device_register_at address = option_map (λ (row : ℕ × DeviceRegister). row.1) (find (λ (row : ℕ × DeviceRegister). row.0 == address) device_table)

-- what a load gives. The registers that are written alone give 0
abbrev pub device_value : DeviceRegister → DevicesAre → ℕ
device_value ConStat d = console_status d.console
device_value ConIn d = next_input d.console.input
device_value ConOut d = 0
device_value BalTarget d = d.balloon.target
device_value BalCount d = given_count d.balloon
device_value BalGive d = 0
device_value BalTake d = 0

-- after a load, which takes the next byte of the console's input and changes nothing else
abbrev pub device_loaded : DeviceRegister → DevicesAre → DevicesAre
device_loaded ConStat d = d
device_loaded ConIn d = record d { console = input_taken d.console }
device_loaded ConOut d = d
device_loaded BalTarget d = d
device_loaded BalCount d = d
device_loaded BalGive d = d
device_loaded BalTake d = d

-- after a store of a value, of which the console's output takes the lowest byte and the balloon a page's number. The
-- registers that are read alone stay
abbrev pub device_stored : DeviceRegister → ℕ → DevicesAre → DevicesAre
device_stored ConStat value d = d
device_stored ConIn value d = d
device_stored ConOut value d = record d { console = output_written (value % 256) d.console }
device_stored BalTarget value d = d
device_stored BalCount value d = d
device_stored BalGive value d = record d { balloon = page_given value d.balloon }
device_stored BalTake value d = record d { balloon = page_taken value d.balloon }

-- the page that a store of a value gives, where it gives one: its bytes become zeros
abbrev pub page_to_give : DeviceRegister → ℕ → DevicesAre → Option ℕ
page_to_give ConStat value d = None
page_to_give ConIn value d = None
page_to_give ConOut value d = None
page_to_give BalTarget value d = None
page_to_give BalCount value d = None
page_to_give BalGive value d = if can_be_given value d.balloon then Some value else None
page_to_give BalTake value d = None

-- the physical address of a register
abbrev pub device_address : DeviceRegister → ℕ
device_address ConStat = 0x1f000000
device_address ConIn = 0x1f000004
device_address ConOut = 0x1f000008
device_address BalTarget = 0x1f000010
device_address BalCount = 0x1f000014
device_address BalGive = 0x1f000018
device_address BalTake = 0x1f00001c
