-- What is printed of a machine behind its dump.
use Rattle.std.specs.Prelude.{ℕ, Bool, true, false, List, [], ◌++◌, flat_map, if◌then◌else◌}
use Rattle.machine.specs.Step.{Machine}
use Rattle.machine.specs.Board.{lines_of}
use Rattle.inspection.specs.declared.extras.Extras.{Extras}
use Rattle.inspection.specs.declared.extras.Region.{Region}
use Rattle.inspection.specs.Memory.{memory_text}
use Rattle.inspection.specs.Registers.{processor_text}

abbrev pub all_text : Bool → Machine → List ℕ
all_text true m = processor_text (lines_of m.board) m.cpu
all_text false m = []

abbrev pub region_text : Machine → Region → List ℕ
region_text m region = memory_text m region.address region.length

abbrev pub regions_text : Machine → List Region → List ℕ
regions_text m regions = flat_map (region_text m) regions

-- the registers that the dump leaves out, where they are wanted, and then the bytes of each region, in order
abbrev pub extras_text : Extras → Machine → List ℕ
extras_text extras m = all_text extras.all m ++ regions_text m extras.memory.items
