use Rattle.std.proofs.Common.{[], sym, subst}
use Rattle.debugline.specs.Lines.{IsRest}
use Rattle.debugline.specs.Views.{line_view}
use Rattle.debugline.proofs.Streams.{left_is_rest, rest_is_left}
use Rattle.debugline.proofs.framer.Framer.feed.Goals as goal

pub invariant_of-self : goal.invariant_of-self
invariant_of-self c =
    let old = rest_is_left (line_view c.in_ok-rest.rest) (subst IsRest (sym c.in_ok-rest.ensures) c.self.invariant) in
    left_is_rest _ _ _ (c.in_ok-lines.ensures old.0 [] old.1)

pub returns-clause-kept : goal.returns-clause-kept
returns-clause-kept c =
    let old = rest_is_left (line_view c.in_ok-rest.rest) (subst IsRest (sym c.in_ok-rest.ensures) c.self.invariant) in
    left_is_rest _ _ _ (c.in_ok-lines.ensures old.0 [] old.1)
