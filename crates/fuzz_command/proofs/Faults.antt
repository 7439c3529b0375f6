-- Faults of what was asked for.
use Rattle.std.proofs.Common.{◌≡◌, ◌<◌, ℕ, List, [], Some, length, get_or, inr, refl, sym, subst}
use Rattle.std.specs.List.{slice_get}
use Rattle.std.proofs.lemmas.Option.{slice_get-get_or}
use Rattle.commands.specs.declared.fault.Fault.{Fault}
use Rattle.commands.specs.declared.fault.Fault.TheVariants.{File, Asm, Elf, Raw, Script, Boot, Log, Memory}
use Rattle.commands.specs.Faults.{IsWant}
use Rattle.fuzz_command.specs.declared.fault.FuzzFault.{FuzzFault}
use Rattle.fuzz_command.specs.declared.fault.FuzzFault.TheVariants.{Command, Unready, Line, Unread, Output}
use Rattle.fuzz_command.specs.declared.order.FuzzOrder.{FuzzOrder}
use Rattle.fuzz_command.specs.declared.order.InputFile.{InputFile}
use Rattle.fuzz_command.specs.Faults.{IsCommandFault, IsFileFault, IsFilesFault, IsFuzzFault, IsLinesFault, IsReadyFault, IsSettingFault, IsTrialFault}

-- ---- a file

at_place : (files : List InputFile) (n : ℕ) (file : InputFile) (fault : Fault) → slice_get files n ≡ Some file → IsFileFault file fault → IsFilesFault files (Command fault)
at_place files n file (File name) at is = record { number = n; file = file; its = at; place = is }
at_place files n file (Asm fault line) at is = absurd is
at_place files n file (Elf fault) at is = absurd is
at_place files n file Raw at is = absurd is
at_place files n file (Script line) at is = absurd is
at_place files n file (Boot error) at is = absurd is
at_place files n file (Log fault) at is = absurd is
at_place files n file Memory at is = tt

-- a fault of the file at a place is one of the files
pub of_file : (files : List InputFile) (n : ℕ) (d : InputFile) (fault : Fault) → n < length files → IsFileFault (get_or files n d) fault → IsFilesFault files (Command fault)
of_file files n d fault inside is = at_place files n (get_or files n d) fault (slice_get-get_or files n d inside) is

-- and so is one of a run
pub of_trial : (files : List InputFile) (fault : FuzzFault) → IsTrialFault fault → IsFilesFault files fault
of_trial files (Command (File name)) is = absurd is
of_trial files (Command (Asm fault line)) is = is
of_trial files (Command (Elf fault)) is = is
of_trial files (Command Raw) is = is
of_trial files (Command (Script line)) is = is
of_trial files (Command (Boot error)) is = is
of_trial files (Command (Log fault)) is = is
of_trial files (Command Memory) is = tt
of_trial files Unready is = absurd is
of_trial files (Line number) is = absurd is
of_trial files Unread is = absurd is
of_trial files Output is = tt

-- ---- an order

-- what a run wants is a fault of an order
pub of_want : (order : FuzzOrder) (fault : Fault) → IsWant fault → IsCommandFault order fault
of_want order (File name) is = absurd is
of_want order (Asm fault line) is = absurd is
of_want order (Elf fault) is = absurd is
of_want order Raw is = absurd is
of_want order (Script line) is = absurd is
of_want order (Boot error) is = inr is
of_want order (Log fault) is = absurd is
of_want order Memory is = tt

-- a file in the way of a log
pub in_the_way : (order : FuzzOrder) (n : ℕ) (d : InputFile) → n < length order.inputs.items → IsCommandFault order (File (get_or order.inputs.items n d).place)
in_the_way order n d inside =
    inr (inr (record { number = n; file = get_or order.inputs.items n d; its = slice_get-get_or order.inputs.items n d inside; place = refl }))

-- of a machine that is made ready
pub of_ready : (order : FuzzOrder) (fault : FuzzFault) → IsReadyFault order.ready fault → IsSettingFault order fault
of_ready order (Command fault) is = subst (IsCommandFault order) (sym is) tt
of_ready order Unready is = is
of_ready order (Line number) is = absurd is
of_ready order Unread is = absurd is
of_ready order Output is = absurd is

-- of what it asks for
pub of_setting : (order : FuzzOrder) (fault : FuzzFault) → IsSettingFault order fault → IsFuzzFault order fault
of_setting order (Command fault) is = is
of_setting order Unready is = is
of_setting order (Line number) is = absurd is
of_setting order Unread is = absurd is
of_setting order Output is = absurd is

pub setting_is_no_line : (order : FuzzOrder) (fault : FuzzFault) (n : ℕ) → IsSettingFault order fault → fault ≡ Line n → ⊥
setting_is_no_line order (Command fault) n is same = cc
setting_is_no_line order Unready n is same = cc
setting_is_no_line order (Line number) n is same = is
setting_is_no_line order Unread n is same = is
setting_is_no_line order Output n is same = is

-- of its lines
pub of_lines : (order : FuzzOrder) (fault : FuzzFault) → order.inputs.items ≡ [] → IsLinesFault fault → IsFuzzFault order fault
of_lines order (Command fault) none is = of_want order fault is
of_lines order Unready none is = absurd is
of_lines order (Line number) none is = none
of_lines order Unread none is = none
of_lines order Output none is = tt

-- of its files
pub of_files : (order : FuzzOrder) (fault : FuzzFault) → IsFilesFault order.inputs.items fault → IsFuzzFault order fault
of_files order (Command (File name)) is = inr (inr is)
of_files order (Command (Asm fault line)) is = absurd is
of_files order (Command (Elf fault)) is = absurd is
of_files order (Command Raw) is = absurd is
of_files order (Command (Script line)) is = absurd is
of_files order (Command (Boot error)) is = inr is
of_files order (Command (Log fault)) is = absurd is
of_files order (Command Memory) is = tt
of_files order Unready is = absurd is
of_files order (Line number) is = absurd is
of_files order Unread is = absurd is
of_files order Output is = tt
