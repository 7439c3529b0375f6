-- What the values of the code say.
use Rattle.debugline.specs.Commands.{Command, Regs, Reg, Set, Read, Write, Cont, Step, Break, Clear, Detach, End}
use Rattle.debugline.specs.Lines.{Line, Text, Long}
use Rattle.debugline.specs.declared.command.Command.{Command as CommandCode}
use Rattle.debugline.specs.declared.command.Command.TheVariants as command
use Rattle.debugline.specs.declared.line.Line.{Line as LineCode}
use Rattle.debugline.specs.declared.line.Line.TheVariants as line

abbrev pub line_view : LineCode → Line
line_view (line.Text bytes) = Text bytes.items
line_view line.Long = Long

abbrev pub command_view : CommandCode → Command
command_view command.Regs = Regs
command_view (command.Reg register) = Reg register
command_view (command.Set register value) = Set register value
command_view (command.Read address count) = Read address count
command_view (command.Write address bytes) = Write address bytes.items
command_view command.Cont = Cont
command_view command.Step = Step
command_view (command.Break address) = Break address
command_view (command.Clear address) = Clear address
command_view command.Detach = Detach
command_view command.End = End
