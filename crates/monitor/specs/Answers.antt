-- When an answer of the code is the definition's.
use Rattle.std.specs.Prelude.{◌≡◌, ℕ, List, Result, Ok, Err}
use Rattle.monitor.specs.Orders.{Order, In, LineFault, Command, Number, Guest, Range}
use Rattle.monitor.specs.Views.{order_view}
use Rattle.monitor.specs.declared.fault.Fault.{Fault}
use Rattle.monitor.specs.declared.fault.Fault.TheVariants as fault
use Rattle.monitor.specs.declared.order.Order.{Order as OrderCode}

-- it is an input
abbrev pub IsInput : Result Order LineFault → Type 0
IsInput found = (guest : ℕ) × (bytes : List ℕ) × (found ≡ Ok (In guest bytes))

-- what the code answers is what the definition finds; memory is refused only where that is an input
abbrev pub Answers : Result OrderCode Fault → Result Order LineFault → Type 0
Answers (Ok order) found = found ≡ Ok (order_view order)
Answers (Err fault.Command) found = found ≡ Err Command
Answers (Err fault.Number) found = found ≡ Err Number
Answers (Err fault.Guest) found = found ≡ Err Guest
Answers (Err fault.Range) found = found ≡ Err Range
Answers (Err fault.Memory) found = IsInput found
