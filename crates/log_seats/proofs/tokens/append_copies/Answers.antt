use Rattle.std.proofs.Common.{◌+◌, length, refl, sym, ap, ◌∙◌, arith}
use Rattle.log_seats.proofs.Plays.{appends_copies}
use Rattle.log_seats.proofs.tokens.append_copies.Goals as goal

pub compare_exchange_with-requires : goal.compare_exchange_with-requires
compare_exchange_with-requires c =
    let pen = c.lend.ensures.pen in
    let seat = c.lend.ensures.seat in
    let count = c.requires.count ∙ sym (ap (λ p. length p.log) pen) in (
      c.lend.ensures.table ∙ c.requires.word.1,
      omega arith,
      appends_copies _ _ _ _ _ c.args.times _ (ap (λ p. p.present) pen ∙ c.requires.present.0) (ap (λ s. s.present) seat ∙ c.requires.present.1) (c.requires.own ∙ sym (ap (λ s. s.number) seat)) (ap (λ n. n + c.args.times) count),
    )

pub take_back-requires-clause-present : goal.take_back-requires-clause-present
take_back-requires-clause-present c =
    let told = c.compare_exchange_with.ensures.2 c.args.item.now refl in (
      ap (λ p. p.present) told.pen ∙ ap (λ p. p.present) c.lend.ensures.pen ∙ c.requires.present.0,
      ap (λ s. s.present) told.seat ∙ ap (λ s. s.present) c.lend.ensures.seat ∙ c.requires.present.1,
    )

pub returns-clause-legal : goal.returns-clause-legal
returns-clause-legal c =
    let told = c.compare_exchange_with.ensures.2 c.args.item.now refl in
    rw (← c.lend.ensures.pen, ← c.lend.ensures.seat) told.legal
