use Rattle.std.proofs.Common.{rules, Some, None, ◌≡◌, sym, ap, subst, ◌∙◌}
use Rattle.sharetab.specs.Maps.{at_page, at_digest}
use Rattle.sharetab.specs.Hints.{HintsAre}
use Rattle.sharetab.specs.declared.guest_page.GuestPage.{GuestPage}
use Rattle.sharetab.proofs.Keys.{some_same, none_is_not_some}
use Rattle.sharetab.proofs.Hinting.{Renewed, inverts_noted}
use Rattle.sharetab.proofs.hints.Hints.put.Goals as goal

pub invariant_of-self-in-Ok-None : goal.invariant_of-self-in-Ok-None
invariant_of-self-in-Ok-None c =
    let f = c.self.inside.by_page in
    let g = c.self.inside.by_digest in
    let p = c.args.page.now in
    let d = c.args.digest.now in
    let same : c.args.self.now ≡ f = search rules in
    let fresh : (q : GuestPage) → at_page f q ≡ Some d → ⊥ = subst (λ (h : HintsAre). (q : GuestPage) → at_page h q ≡ Some d → ⊥) same c.requires in
    let none : at_page f p ≡ None = sym c.in-Ok-None.ensures.old ∙ c.in-Ok-None.field-0-is in
    let renewed : Renewed f g p d c.put.new.self = record {
      here = c.in_ok-put.ensures.here;
      earlier = λ e _ own. absurd (none_is_not_some (at_page f p) e none own);
      others = λ e apart _. c.in_ok-put.ensures.others e apart;
    } in
    inverts_noted f c.put-2.new.self g c.put.new.self p d c.self.invariant fresh c.in-Ok-None.ensures.here c.in-Ok-None.ensures.others renewed

pub invariant_of-self-in-Ok-Some : goal.invariant_of-self-in-Ok-Some
invariant_of-self-in-Ok-Some c =
    let f = c.self.inside.by_page in
    let g = c.self.inside.by_digest in
    let p = c.args.page.now in
    let d = c.args.digest.now in
    let old = c.in-Ok-Some.old in
    let same : c.args.self.now ≡ f = search rules in
    let fresh : (q : GuestPage) → at_page f q ≡ Some d → ⊥ = subst (λ (h : HintsAre). (q : GuestPage) → at_page h q ≡ Some d → ⊥) same c.requires in
    let had : at_page f p ≡ Some old = sym c.in-Ok-Some.ensures.old ∙ c.in-Ok-Some.field-0-is in
    let not_old : d ≡ old → ⊥ = λ is. fresh p (had ∙ ap Some (sym is)) in
    let renewed : Renewed f g p d c.remove.new.self = record {
      here = c.remove.ensures.others d not_old ∙ c.in_ok-put.ensures.here;
      earlier = λ e _ own. ap (at_digest c.remove.new.self) (some_same e old (sym own ∙ had)) ∙ c.remove.ensures.here;
      others = λ e apart not_mine. c.remove.ensures.others e (λ is. not_mine (had ∙ ap Some (sym is))) ∙ c.in_ok-put.ensures.others e apart;
    } in
    inverts_noted f c.put-2.new.self g c.remove.new.self p d c.self.invariant fresh c.in-Ok-Some.ensures.here c.in-Ok-Some.ensures.others renewed
