use Rattle.std.proofs.Common.{ℕ, ◌≡◌, true, None, set, sym, ap, subst, ◌∙◌}
use Rattle.mips_tlb.specs.declared.kind.Kind.{Kind}
use Rattle.mips_tlb.specs.declared.kind.Kind.TheVariants.{Store}
use Rattle.machine.specs.Board.{Board}
use Rattle.machine.specs.Bus.{IsPlain}
use Rattle.reset_machine.specs.Watched.{WatchedBoard}
use Rattle.reset_machine.proofs.Watching.{plain_watched}
use Rattle.reset_machine.proofs.bus.WatchedBusPhysBus.store_plain.Goals as goal

pub invariant_of-self : goal.invariant_of-self
invariant_of-self c =
    let b = c.self.inside in
    let same : b.flat ≡ c.args.self.now.board = ap (λ (w : WatchedBoard). w.board) c.self.view_is in
    let plain = subst (λ (w : Board). IsPlain w (λ (page : ℕ) (kind : Kind). None) Store c.args.size c.args.at) (sym same) c.requires.plain in
    plain_watched (λ (page : ℕ) (kind : Kind). None) c.args.size c.args.value c.args.at b.flat c.store_plain.new.self b.marks.marked c.mark.new.self.marked b.home.value.board.memory
    plain c.requires.aligned c.self.invariant (c.mark.ensures ∙ ap (λ (p : ℕ). set b.marks.marked p true) c.page.ensures) c.store_plain.ensures.board
