-- Commands of lines are in their ranges.
use Rattle.std.proofs.Common.{◌≡◌, ℕ, ◌↔◌, List, Option, Some, sym, ◌∙◌}
use Rattle.debugline.specs.Commands.{Command, Regs, Reg, Set, Read, Write, Cont, Step, Break, Clear, Detach, End, command_of}
use Rattle.debugline.specs.Lines.{Line, Text, Long}
use Rattle.debugline.specs.Rows.{Says}
use Rattle.debug_session.specs.Ranges.{IsInRange}

says_in_range : (line : List ℕ) (command : Command) → Says line command → IsInRange command
says_in_range line Regs h = tt
says_in_range line (Reg n) h = tt
says_in_range line (Set n w) h = tt
says_in_range line (Read a c) h = h.3.2
says_in_range line (Write a b) h = h.3.2
says_in_range line Cont h = tt
says_in_range line Step h = tt
says_in_range line (Break a) h = tt
says_in_range line (Clear a) h = tt
says_in_range line Detach h = tt
says_in_range line End h = tt

pub in_range : ((line : List ℕ) (command : Command) → (command_of (Text line) ≡ Some command) ↔ Says line command) → (line : Line) (command : Command) → Some command ≡ command_of line → IsInRange command
in_range law (Text line) command is = says_in_range line command ((law line command).0 (sym is))
in_range law Long command is = absurd (cc)
