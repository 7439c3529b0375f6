use Rattle.std.proofs.Common.{[], ◌∷◌, refl}
use Rattle.masm.specs.Meanings.{Bytes}
use Rattle.masm.proofs.OutputItems.{item_pushed}
use Rattle.masm.proofs.output.Output.put_byte.Goals as goal

pub returns : goal.returns
returns c output is = item_pushed c.args.self.now c.push.new.self output (c.args.byte ∷ []) (Bytes (c.args.byte ∷ [])) c.in_ok-push.ensures.items is refl
