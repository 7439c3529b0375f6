-- What is answered to a line with a fault.
use Rattle.std.specs.Prelude.{ℕ, List, codes}
use Rattle.monitor.specs.declared.fault.Fault.{Fault}
use Rattle.monitor.specs.declared.fault.Fault.TheVariants.{Command, Number, Guest, Range, Memory}

abbrev pub fault_text : Fault → List ℕ
fault_text Command = codes "error command"
fault_text Number = codes "error number"
fault_text Guest = codes "error guest"
fault_text Range = codes "error range"
fault_text Memory = codes "error stop 5"
