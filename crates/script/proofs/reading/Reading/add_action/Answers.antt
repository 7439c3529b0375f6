use Rattle.std.proofs.Common.{◌≡◌, sym, ap, ◌∙◌, map, true, false, Some, List}
use Rattle.std.proofs.lemmas.List.{map-append}
use Rattle.script.specs.Allowed.{may_be_done}
use Rattle.script.specs.Actions.{ActionLine}
use Rattle.script.specs.Scripts.{Reading}
use Rattle.script.specs.Views.{reading_view, action_view, guest_view, line_view, block_view}
use Rattle.script.proofs.Drafts.{allowed, not_allowed}
use Rattle.script.proofs.reading.Reading.add_action.Goals as goal

pub returns-then-not-may_be_done : goal.returns-then-not-may_be_done
returns-then-not-may_be_done c =
    let no : may_be_done (map guest_view c.args.self.now.header.guests.items) c.in-Some.slots (action_view c.args.action) ≡ false = cc (c.deref.ensures.value, c.may_be_done.ensures, c.if-not-may_be_done.true) in
    not_allowed c.args.number (reading_view c.args.self.now) (action_view c.args.action) c.in-Some.slots c.in-Some.ensures no

pub returns : goal.returns
returns c =
    let yes : may_be_done (map guest_view c.args.self.now.header.guests.items) c.in-Some.slots (action_view c.args.action) ≡ true = cc (c.deref.ensures.value, c.may_be_done.ensures, c.if-not-may_be_done.false) in
    allowed c.args.number (reading_view c.args.self.now) (action_view c.args.action) c.in-Some.slots c.in-Some.ensures yes
    ∙ ap (λ (lines : List ActionLine). Some (record (reading_view c.args.self.now) { block = record (block_view c.args.self.now.block) { lines = lines } }))
    (sym (ap (map line_view) c.in_ok-push.ensures.items ∙ map-append line_view _ _))
