use Rattle.std.proofs.Common.{ap, ◌∙◌, sym, cond, Some}
use Rattle.std.specs.Prelude.{bytes_eq}
use Rattle.masm.proofs.Keys.{map_update, last_address, at_name}
use Rattle.masm.proofs.reading.Names.insert.Goals as goal

pub returns : goal.returns
returns c known knows absent name =
    map_update c.in_ok-key.key.items c.args.address c.args.self.now.entries c.insert.new.self c.in_ok-insert.ensures.updates name
    ∙ ap (λ bytes. cond (bytes_eq bytes name) (Some c.args.address) (at_name c.args.self.now.entries name)) c.in_ok-key.ensures.items
    ∙ ap (cond (bytes_eq c.args.name.now name) (Some c.args.address)) (knows name)
    ∙ sym (last_address known c.args.name.now c.args.address name absent)
