-- A memory whose changes are watched, page by page.
use Rattle.std.specs.Prelude.{ℕ, ◌≡◌, ◌*◌, ◌^◌, ◌<◌, ◌≤◌, Bool, true, false, List, length, Some}
use Rattle.devices.specs.declared.register.DeviceRegister.{DeviceRegister}
use Rattle.devices.specs.Devices.{DevicesAre}
use Rattle.devices.specs.Registers.{device_register_at, page_to_give}
use Rattle.machine.specs.Board.{Board, page_bytes}
use Rattle.machine.specs.Step.{Machine}
use Rattle.runs.specs.Coverage.{CoverageIs}
use Rattle.reset_machine.specs.Marks.{is_marked}

-- a memory with devices, the machine that it goes back to, and the pages that were written since it was that machine's
pub record WatchedBoard : Type 0 where
  pub board : Board
  pub home : Machine
  pub written : List ℕ

-- a machine, the one that it goes back to, and which words of memory PC led to, where that is kept
pub record Resettable : Type 0 where
  pub machine : Machine
  pub home : Machine
  pub coverage : CoverageIs

-- a memory of some pages, at most 2^20
pub record HasPages (pages : ℕ) (memory : List ℕ) : Type 0 where
  pub few : pages ≤ 2 ^ 20
  pub size : length memory ≡ pages * 4096

-- the memory has as many pages as there are marks, and so has the one that it goes back to; each page that is not marked has the bytes that
-- it has there
pub record IsWatched (memory : List ℕ) (marked : List Bool) (home : List ℕ) : Type 0 where
  pub few : length marked ≤ 2 ^ 20
  pub size : length memory ≡ length marked * 4096
  pub home_size : length home ≡ length marked * 4096
  pub same : (page : ℕ) → page < length marked → is_marked page marked ≡ false → page_bytes page memory ≡ page_bytes page home

-- each page that a store to the device's register at an address may give away is marked
abbrev pub AreGivenMarked : ℕ → ℕ → List Bool → Type 0
AreGivenMarked at value marked = (register : DeviceRegister) (devices : DevicesAre) (page : ℕ) → device_register_at at ≡ Some register
    → page_to_give register value devices ≡ Some page → page < length marked → is_marked page marked ≡ true
