use Rattle.std.proofs.Common.{◌≡◌, None, ap, ◌∙◌}
use Rattle.machine.specs.Board.{Board}
use Rattle.reset_machine.proofs.Watching.{page_back, all_back}
use Rattle.reset_machine.proofs.bus.reload.Goals as goal

pub loop-page-preserved : goal.loop-page-preserved
loop-page-preserved c =
    let home = c.args.home.now.board.memory in
    let put = c.put_page.ensures in
    record {
      watched = page_back c.loop-page.flat c.put_page.new.flat c.loop-page.marks.marked c.take.new.self.marked home c.in-Some.page c.loop-page.invariant.watched
          c.in-Some.ensures.there c.in-Some.ensures.marked put;
      devices = ap (λ (b : Board). b.devices) put ∙ c.loop-page.invariant.devices;
    }

pub returns-clause-memory : goal.returns-clause-memory
returns-clause-memory c =
    let none : c.take.result ≡ None = cc in
    let memory = all_back c.loop-page.flat.memory c.loop-page.marks.marked c.args.home.now.board.memory c.loop-page.invariant.watched (c.take.ensures.none none) in
    λ i. record { memory = memory i; devices = c.loop-page.invariant.devices i }
