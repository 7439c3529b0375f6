use Rattle.std.proofs.Common.{◌≡◌, rules, Ok, Err, ap, ◌∙◌, sym, ◌+◌, length, ℕ, vec_len}
use Rattle.masm.specs.Meanings.{item_of, aimed}
use Rattle.masm.specs.Listings.{next_place}
use Rattle.masm.specs.Names.{value_address}
use Rattle.masm_lines.specs.Operands.{Number, Name}
use Rattle.masm_lines.specs.Views.{statement_view}
use Rattle.masm.proofs.OutputWords.{place_is, instruction_word, data_word, address_word, transfer_word, transfer_fault}
use Rattle.masm.proofs.output.Output.word_of.Goals as goal

pub returns-in-Instruction-clause-ok : goal.returns-in-Instruction-clause-ok
returns-in-Instruction-clause-ok c known output knows is =
    instruction_word known (next_place output) _ c.in-Instruction.instr c.encode.result (ap statement_view c.in-Instruction.is) c.encode.ensures.reads

pub returns-in-Word-clause-ok : goal.returns-in-Word-clause-ok
returns-in-Word-clause-ok c known output knows is = data_word known (next_place output) _ c.in-Word.word (ap statement_view c.in-Word.is)

pub returns-in-AddressOf-clause-ok : goal.returns-in-AddressOf-clause-ok
returns-in-AddressOf-clause-ok c known output knows is =
    address_word known (next_place output) _ c.in-AddressOf.name.now c.address_of-in-AddressOf.result (ap statement_view c.in-AddressOf.is) (c.address_of-in-AddressOf.ensures known knows)

pub returns-in_ok-aimed-in-Transfer-clause-ok : goal.returns-in_ok-aimed-in-Transfer-clause-ok
returns-in_ok-aimed-in-Transfer-clause-ok c known output knows is =
    let same_length : length c.args.self.now.bytes.items ≡ vec_len c.args.self.now.bytes = search rules in
    let value : value_address known (Number c.in-Transfer.number) ≡ Ok c.in_ok-target-in-Transfer.target = search rules in
    let whole : aimed c.in-Transfer.instr (next_place output) c.in_ok-target-in-Transfer.target ≡ Ok c.in_ok-aimed-in-Transfer.field-0 = ap (λ (a : ℕ). aimed c.in-Transfer.instr a c.in_ok-target-in-Transfer.target) (place_is c.args.self.now output is ∙ ap (λ (n : ℕ). c.args.self.now.address + n) same_length ∙ sym c.next_address.ensures) ∙ sym c.aimed.ensures ∙ c.in_ok-aimed-in-Transfer.was in
    transfer_word known (next_place output) _ c.in-Transfer.instr c.in_ok-aimed-in-Transfer.field-0 (Number c.in-Transfer.number) c.in_ok-target-in-Transfer.target c.encode-in-Transfer.result (ap statement_view c.in-Transfer.is) value whole c.encode-in-Transfer.ensures.reads

pub returns-in_ok-aimed-in-TransferTo-clause-ok : goal.returns-in_ok-aimed-in-TransferTo-clause-ok
returns-in_ok-aimed-in-TransferTo-clause-ok c known output knows is =
    let same_length : length c.args.self.now.bytes.items ≡ vec_len c.args.self.now.bytes = search rules in
    let value : value_address known (Name c.in-TransferTo.name.now) ≡ Ok c.in_ok-target-in-TransferTo.target = sym (c.in_ok-target-in-TransferTo.ensures known knows) in
    let whole : aimed c.in-TransferTo.instr (next_place output) c.in_ok-target-in-TransferTo.target ≡ Ok c.in_ok-aimed-in-TransferTo.field-0 = ap (λ (a : ℕ). aimed c.in-TransferTo.instr a c.in_ok-target-in-TransferTo.target) (place_is c.args.self.now output is ∙ ap (λ (n : ℕ). c.args.self.now.address + n) same_length ∙ sym c.next_address-in-TransferTo.ensures) ∙ sym c.aimed-in-TransferTo.ensures ∙ c.in_ok-aimed-in-TransferTo.was in
    transfer_word known (next_place output) _ c.in-TransferTo.instr c.in_ok-aimed-in-TransferTo.field-0 (Name c.in-TransferTo.name.now) c.in_ok-target-in-TransferTo.target c.encode-in-TransferTo.result (ap statement_view c.in-TransferTo.is) value whole c.encode-in-TransferTo.ensures.reads

pub returns-in_err-aimed-in-Transfer-clause-err : goal.returns-in_err-aimed-in-Transfer-clause-err
returns-in_err-aimed-in-Transfer-clause-err c known output knows is =
    let same_length : length c.args.self.now.bytes.items ≡ vec_len c.args.self.now.bytes = search rules in
    let value : value_address known (Number c.in-Transfer.number) ≡ Ok c.in_ok-target-in-Transfer.target = search rules in
    let fault : aimed c.in-Transfer.instr (next_place output) c.in_ok-target-in-Transfer.target ≡ Err c.in_err-aimed-in-Transfer.field-0.0 = ap (λ (a : ℕ). aimed c.in-Transfer.instr a c.in_ok-target-in-Transfer.target) (place_is c.args.self.now output is ∙ ap (λ (n : ℕ). c.args.self.now.address + n) same_length ∙ sym c.next_address.ensures) ∙ sym c.aimed.ensures ∙ c.in_err-aimed-in-Transfer.was in
    let item : item_of known (next_place output) (statement_view c.args.statement.now) ≡ Err c.in_err-aimed-in-Transfer.field-0.0 = transfer_fault known (next_place output) _ c.in-Transfer.instr (Number c.in-Transfer.number) c.in_ok-target-in-Transfer.target c.in_err-aimed-in-Transfer.field-0.0 (ap statement_view c.in-Transfer.is) value fault in
    search (rules, item)

pub returns-in_err-aimed-in-TransferTo-clause-err : goal.returns-in_err-aimed-in-TransferTo-clause-err
returns-in_err-aimed-in-TransferTo-clause-err c known output knows is =
    let same_length : length c.args.self.now.bytes.items ≡ vec_len c.args.self.now.bytes = search rules in
    let value : value_address known (Name c.in-TransferTo.name.now) ≡ Ok c.in_ok-target-in-TransferTo.target = sym (c.in_ok-target-in-TransferTo.ensures known knows) in
    let fault : aimed c.in-TransferTo.instr (next_place output) c.in_ok-target-in-TransferTo.target ≡ Err c.in_err-aimed-in-TransferTo.field-0.0 = ap (λ (a : ℕ). aimed c.in-TransferTo.instr a c.in_ok-target-in-TransferTo.target) (place_is c.args.self.now output is ∙ ap (λ (n : ℕ). c.args.self.now.address + n) same_length ∙ sym c.next_address-in-TransferTo.ensures) ∙ sym c.aimed-in-TransferTo.ensures ∙ c.in_err-aimed-in-TransferTo.was in
    let item : item_of known (next_place output) (statement_view c.args.statement.now) ≡ Err c.in_err-aimed-in-TransferTo.field-0.0 = transfer_fault known (next_place output) _ c.in-TransferTo.instr (Name c.in-TransferTo.name.now) c.in_ok-target-in-TransferTo.target c.in_err-aimed-in-TransferTo.field-0.0 (ap statement_view c.in-TransferTo.is) value fault in
    search (rules, item)
