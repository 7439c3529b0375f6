use Rattle.std.proofs.Common.{◌∙◌, subst}
use Rattle.masm.specs.Executables.{IsExecutableOf}
use Rattle.commands.proofs.asm.executable_in.Goals as goal

pub returns-clause-means : goal.returns-clause-means
returns-clause-means c = subst (λ text. IsExecutableOf text c.in_ok-assemble.field-0.items) (c.deref.ensures ∙ c.in_ok-text.ensures.lossy) c.in_ok-assemble.ensures.file
