use Rattle.std.proofs.Common.{◌≡◌, [], ◌∷◌, ◌∙◌, ap, sym, flat_map, rules, Some, Ok, Err}
use Rattle.masm.specs.Names.{value_address}
use Rattle.word32.specs.Zeros.{zeros}
use Rattle.masm.specs.Answers.{IsOutput}
use Rattle.masm.specs.Listings.{with_statement, with_item}
use Rattle.masm.specs.Meanings.{Bytes, loaded}
use Rattle.masm_lines.specs.Lists.{parts, half_bytes, byte_of}
use Rattle.masm_lines.specs.Operands.{Number, Name}
use Rattle.masm_lines.specs.Texts.{bytes_in, ended}
use Rattle.masm_lines.specs.Views.{statement_view}
use Rattle.masm.proofs.OutputItems.{word_item}
use Rattle.masm.proofs.OutputSteps.{follows_ok, follows_fault, byte_step, space_step, data_step, load_step, load_fault, word_is}
use Rattle.masm.proofs.output.Output.put.Goals as goal

pub returns-in_ok-put_byte-in-Byte : goal.returns-in_ok-put_byte-in-Byte
returns-in_ok-put_byte-in-Byte c known output knows is =
    follows_ok (IsOutput c.put_byte.new.self) _ (with_item output (Bytes (c.in-Byte.byte ∷ [])))
    (ap (λ s. with_statement known output (Some (statement_view s))) c.in-Byte.is ∙ byte_step known output c.in-Byte.byte)
    (c.in_ok-put_byte-in-Byte.ensures output is)

pub returns-in_ok-put_zeros-in-Space : goal.returns-in_ok-put_zeros-in-Space
returns-in_ok-put_zeros-in-Space c known output knows is =
    follows_ok (IsOutput c.put_zeros.new.self) _ (with_item output (Bytes (zeros c.in-Space.count)))
    (ap (λ s. with_statement known output (Some (statement_view s))) c.in-Space.is ∙ space_step known output c.in-Space.count)
    (c.in_ok-put_zeros-in-Space.ensures output is)

pub returns-in_ok-put_word-in_default : goal.returns-in_ok-put_word-in_default
returns-in_ok-put_word-in_default c known output knows is =
    let word = c.in_ok-word-in_default.ensures.ok known output knows is in
    let word_alone = word_is c.args.statement.now c.in_default.not-Byte c.in_default.not-Space c.in_default.not-Org c.in_default.not-Entry c.in_default.not-Load c.in_default.not-LoadOf c.in_default.not-Words c.in_default.not-Halves c.in_default.not-Bytes c.in_default.not-Text in
    follows_ok (IsOutput c.put_word.new.self) _ (with_item output word.0)
    (word_item known output (statement_view c.args.statement.now) word_alone ∙ rw word.1)
    (c.in_ok-put_word-in_default.ensures output word.0 is word.2)

pub returns-in_err-word-in_default : goal.returns-in_err-word-in_default
returns-in_err-word-in_default c known output knows is =
    let word_alone = word_is c.args.statement.now c.in_default.not-Byte c.in_default.not-Space c.in_default.not-Org c.in_default.not-Entry c.in_default.not-Load c.in_default.not-LoadOf c.in_default.not-Words c.in_default.not-Halves c.in_default.not-Bytes c.in_default.not-Text in
    follows_fault (IsOutput c.args.self.now) c.from_residual-in_err-word-in_default.result _ c.in_err-word-in_default.field-0.0 c.from_residual-in_err-word-in_default.ensures.1
    (word_item known output (statement_view c.args.statement.now) word_alone ∙ rw (c.in_err-word-in_default.ensures.err known output knows is))

pub returns-in_ok-put_halves-in-Halves : goal.returns-in_ok-put_halves-in-Halves
returns-in_ok-put_halves-in-Halves c known output knows is =
    let bytes = flat_map half_bytes (parts c.in-Halves.list.text.now) in
    follows_ok (IsOutput c.put_halves.new.self) _ (with_item output (Bytes bytes))
    (ap (λ s. with_statement known output (Some (statement_view s))) c.in-Halves.is ∙ data_step known output 2 bytes)
    (c.in_ok-put_halves-in-Halves.ensures output is)

pub returns-in_ok-put_bytes-in-Bytes : goal.returns-in_ok-put_bytes-in-Bytes
returns-in_ok-put_bytes-in-Bytes c known output knows is =
    let bytes = flat_map byte_of (parts c.in-Bytes.list.text.now) in
    follows_ok (IsOutput c.put_bytes.new.self) _ (with_item output (Bytes bytes))
    (ap (λ s. with_statement known output (Some (statement_view s))) c.in-Bytes.is ∙ data_step known output 1 bytes)
    (c.in_ok-put_bytes-in-Bytes.ensures output is)

pub returns-in_ok-put_text-in-Text : goal.returns-in_ok-put_text-in-Text
returns-in_ok-put_text-in-Text c known output knows is =
    let bytes = ended c.in-Text.zero (bytes_in c.in-Text.text.text.now) in
    follows_ok (IsOutput c.put_text.new.self) _ (with_item output (Bytes bytes))
    (ap (λ s. with_statement known output (Some (statement_view s))) c.in-Text.is ∙ data_step known output 1 bytes)
    (c.in_ok-put_text-in-Text.ensures output is)

pub returns-in_ok-put_load-in-Load : goal.returns-in_ok-put_load-in-Load
returns-in_ok-put_load-in-Load c known output knows is =
    let n = c.in_ok-address_bits-in-Load.field-0 in
    let value : value_address known (Number c.in-Load.number) ≡ Ok n = search rules in
    follows_ok (IsOutput c.put_load.new.self) _ (with_item output (loaded c.in-Load.rt n))
    (ap (λ s. with_statement known output (Some (statement_view s))) c.in-Load.is ∙ load_step known output c.in-Load.rt n (Number c.in-Load.number) value)
    (c.in_ok-put_load-in-Load.ensures output is)

pub returns-in_err-address_bits-in-Load : goal.returns-in_err-address_bits-in-Load
returns-in_err-address_bits-in-Load c known output knows is =
    let f = c.in_err-address_bits-in-Load.field-0.0 in
    let value : value_address known (Number c.in-Load.number) ≡ Err f = search rules in
    follows_fault (IsOutput c.args.self.now) c.from_residual-in_err-address_bits-in-Load.result _ f c.from_residual-in_err-address_bits-in-Load.ensures.1
    (ap (λ s. with_statement known output (Some (statement_view s))) c.in-Load.is ∙ load_fault known output c.in-Load.rt (Number c.in-Load.number) f value)

pub returns-in_ok-put_load-in-LoadOf : goal.returns-in_ok-put_load-in-LoadOf
returns-in_ok-put_load-in-LoadOf c known output knows is =
    let n = c.in_ok-address_of-in-LoadOf.field-0 in
    let value : value_address known (Name c.in-LoadOf.name.now) ≡ Ok n = sym (c.in_ok-address_of-in-LoadOf.ensures known knows) in
    follows_ok (IsOutput c.put_load-in-LoadOf.new.self) _ (with_item output (loaded c.in-LoadOf.rt n))
    (ap (λ s. with_statement known output (Some (statement_view s))) c.in-LoadOf.is ∙ load_step known output c.in-LoadOf.rt n (Name c.in-LoadOf.name.now) value)
    (c.in_ok-put_load-in-LoadOf.ensures output is)

pub returns-in_err-address_of-in-LoadOf : goal.returns-in_err-address_of-in-LoadOf
returns-in_err-address_of-in-LoadOf c known output knows is =
    let f = c.in_err-address_of-in-LoadOf.field-0.0 in
    let value : value_address known (Name c.in-LoadOf.name.now) ≡ Err f = sym (c.in_err-address_of-in-LoadOf.ensures known knows) in
    follows_fault (IsOutput c.args.self.now) c.from_residual-in_err-address_of-in-LoadOf.result _ f c.from_residual-in_err-address_of-in-LoadOf.ensures.1
    (ap (λ s. with_statement known output (Some (statement_view s))) c.in-LoadOf.is ∙ load_fault known output c.in-LoadOf.rt (Name c.in-LoadOf.name.now) f value)
