-- What the answers to items say.
use Rattle.std.specs.Prelude.{ℕ, List, Option, Some, None}
use Rattle.machine.specs.declared.reply.Reply.{Reply}
use Rattle.machine.specs.declared.reply.Reply.TheVariants.{Done, Output}

-- the bytes that a reply has
abbrev pub replied : Reply → Option (List ℕ)
replied Done = None
replied (Output bytes) = Some bytes.items
