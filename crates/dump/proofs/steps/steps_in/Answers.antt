use Rattle.std.proofs.Common.{ap, refl, sym, subst, ◌≡◌, ◌∙◌, ◌++◌, ◌%◌, ◌^◌, List, Option, option_to_list, Some, None, arith}
use Rattle.std.proofs.lemmas.List.{append-nil}
use Rattle.items.specs.declared.item.Item.{Item}
use Rattle.items.specs.declared.entry.Entry.{Entry}
use Rattle.items.specs.Entries.{items_in, items_of}
use Rattle.dump.specs.Steps.{step_count}
use Rattle.dump.proofs.Counting.{all_counted}
use Rattle.dump.proofs.steps.steps_in.Goals as goal

pub returns-in-Some : goal.returns-in-Some
returns-in-Some c =
    let entries = c.entries-entry-items.result.now in
    let items = c.args.log.now.items in
    let last = sym c.last_steps.ensures.run ∙ c.in-Some.is in
    all_counted entries (Some c.in-Some.entry) items c.loop-entry.entry-index c.loop-entry.steps c.steps_of_entry.result c.loop-entry-test.false
    (subst (λ (e : Option Entry). items_of (entries ++ option_to_list e) ≡ items) last c.entries-entry-items.ensures.items) c.within.ensures.items c.loop-entry.invariant
    (c.steps_of_entry.ensures ∙ ap (λ (xs : List Item). step_count xs % 2 ^ 64) (sym (append-nil (items_in c.in-Some.entry))))

pub returns-in-None : goal.returns-in-None
returns-in-None c =
    let entries = c.entries-entry-items.result.now in
    let items = c.args.log.now.items in
    let last = sym c.last_steps.ensures.run ∙ c.in-None.is in
    let counted =
    all_counted entries None items c.loop-entry.entry-index c.loop-entry.steps 0 c.loop-entry-test.false
    (subst (λ (e : Option Entry). items_of (entries ++ option_to_list e) ≡ items) last c.entries-entry-items.ensures.items) c.within.ensures.items c.loop-entry.invariant refl in
    omega (arith, counted, c.loop-entry.auto.steps-fits)
