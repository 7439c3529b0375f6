-- Why guests that are asked for don't run.
use Rattle.std.specs.Prelude.{◌≡◌, ◌<◌, ◌⊎◌, ℕ, List, None, Some, All, length, map}
use Rattle.std.specs.List.{slice_get}
use Rattle.std.specs.Borrow.{Bor}
use Rattle.mips_cp0.specs.declared.profile.Profile.{Profile}
use Rattle.tenant.specs.declared.loading.BootError.{BootError}
use Rattle.booting.specs.declared.asked.Config.{Config}
use Rattle.booting.specs.declared.asked.NewGuest.{NewGuest}
use Rattle.booting.specs.Boots.{AreAdmitted, AreWithinLimits, HoldsImage, WhyNotBooted}
use Rattle.commands.specs.declared.fault.Fault.{Fault}
use Rattle.commands.specs.declared.fault.Fault.TheVariants.{File, Elf, Boot, Memory}
use Rattle.commands.specs.Sims.{numbers_of}
use Rattle.run_command.specs.Ports.{port_of}
use Rattle.run_command.specs.declared.fault.RunFault.{RunFault}
use Rattle.run_command.specs.declared.fault.RunFault.TheVariants.{Command, Port}
use Rattle.run_command.specs.declared.order.GuestOrder.{GuestOrder}
use Rattle.run_command.specs.declared.order.RunOrder.{RunOrder}

-- the pages, the shares and the minimum that are asked for of a guest; a minimum that isn't given is 2
abbrev pub order_numbers : GuestOrder → ℕ × ℕ × ℕ
order_numbers order = (order.pages, order.shares, elim order.minimum [ None ↦ 2 | Some minimum ↦ minimum ])

-- the machine memory that is asked for, in which a guest's log may have 1,048,576 runs at most
abbrev pub config_of : RunOrder → Config
config_of order = record { frames = order.frames; log_runs = 1048576; admit = order.admit }

-- these are guests of the profile that is asked for, and of the numbers that are, in their order
pub record AreOrdered (profile : Profile) (orders : List GuestOrder) (guests : List NewGuest) : Type 0 where
  pub profiles : All (λ guest. guest.profile ≡ profile) guests
  pub numbers : map numbers_of guests ≡ map order_numbers orders

-- guests of that profile and of those numbers, with images of some files, may be booted: they are within their limits, of which the pages' is
-- their profile's, their pages hold their images, and where they are to be admitted there are frames and slots for them
pub record MayBoot (order : RunOrder) : Type 0 where
  pub guests : List NewGuest
  pub ordered : AreOrdered order.profile order.guests.items guests
  pub within : AreWithinLimits (config_of order) order.slots guests
  pub hold : All HoldsImage guests
  pub admitted : AreAdmitted (config_of order) order.slots guests

-- such guests aren't, for this reason
pub record MayNotBoot (order : RunOrder) (error : BootError) : Type 0 where
  pub guests : List NewGuest
  pub ordered : AreOrdered order.profile order.guests.items guests
  pub why : WhyNotBooted (config_of order) order.slots guests error

-- one of the guests has the image of this name
pub record IsImage (orders : List GuestOrder) (name : Bor (List ℕ)) : Type 0 where
  pub guest : ℕ
  pub order : GuestOrder
  pub its : slice_get orders guest ≡ Some order
  pub image : name ≡ order.image

-- of a guest that is asked for: its image's file can't be read, or is refused, or memory is
abbrev pub IsGuestFault : GuestOrder → Fault → Type 0
IsGuestFault order (File name) = name ≡ order.image
IsGuestFault order (Elf fault) = Unit {0}
IsGuestFault order Memory = Unit {0}
IsGuestFault order other = ⊥

-- of one of them
abbrev pub IsGuestsFault : List GuestOrder → Fault → Type 0
IsGuestsFault orders (File name) = IsImage orders name
IsGuestsFault orders (Elf fault) = Unit {0}
IsGuestsFault orders Memory = Unit {0}
IsGuestsFault orders other = ⊥

-- of the boot
abbrev pub IsBootFault : RunOrder → Fault → Type 0
IsBootFault order (Boot error) = MayNotBoot order error
IsBootFault order other = ⊥

-- of a file, an image, the boot or memory
abbrev pub IsCommandFault : RunOrder → Fault → Type 0
IsCommandFault order (File name) = (name ≡ order.swap) ⊎ (name ≡ order.logs) ⊎ IsImage order.guests.items name
IsCommandFault order (Elf fault) = Unit {0}
IsCommandFault order (Boot error) = MayNotBoot order error
IsCommandFault order Memory = Unit {0}
IsCommandFault order other = ⊥

-- the port of one of the guests, where they have ports
pub record IsPort (order : RunOrder) (port : ℕ) : Type 0 where
  pub some : 0 < order.port
  pub guest : ℕ
  pub below : guest < length order.guests.items
  pub its : port ≡ port_of order.port guest

abbrev pub IsPortFault : RunOrder → RunFault → Type 0
IsPortFault order (Command Memory) = Unit {0}
IsPortFault order (Command other) = ⊥
IsPortFault order (Port port) = IsPort order port

-- of all that comes before a run
abbrev pub IsRunFault : RunOrder → RunFault → Type 0
IsRunFault order (Command fault) = IsCommandFault order fault
IsRunFault order (Port port) = IsPort order port
