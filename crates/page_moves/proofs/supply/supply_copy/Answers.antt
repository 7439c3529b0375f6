use Rattle.std.proofs.Common.{ℕ, subst, sym}
use Rattle.std.specs.Option.{option_to_list}
use Rattle.frames.specs.Frames.{FrameIs}
use Rattle.sharetab.specs.Books.{Leaves}
use Rattle.guest_pages.specs.declared.page.Returned.TheVariants as returned
use Rattle.guest_pages.specs.Pages.{page_at, shown}
use Rattle.page_moves.specs.Moves.{Takes}
use Rattle.page_moves.specs.Returns.{Frees}
use Rattle.page_moves.proofs.Evicting.{ticket_frees}
use Rattle.page_moves.proofs.Supplying.{copy_frames, copy_tickets, private_reads}
use Rattle.page_moves.proofs.supply.supply_copy.Goals as goal

pub returns-in-Ok-clause-frames : goal.returns-in-Ok-clause-frames
returns-in-Ok-clause-frames g c = λ pool rest takes.
    let ps = g.P.Pages.pages c.args.pages.now in
    let es = c.args.shares.now.entries in
    let es' = c.leave.new.self.entries in
    let frame : FrameIs = record { number = c.in-Ok.frame.number; bytes = shown (page_at ps c.args.p) } in
    copy_frames ps (g.P.Pages.pages c.supply_copy-ticket.new.self) pool rest es es' (option_to_list c.leave.result) c.args.p frame
    c.requires.there c.requires.kind c.supply_copy-ticket.ensures.pages (subst (λ (n : ℕ). Takes pool n rest) (sym c.in-Ok.ensures.number) takes)
    (subst (λ (t : ℕ). Frees (returned.Ticket t) es es' (option_to_list c.leave.result)) c.supply_copy-ticket.ensures.ticket
    (ticket_frees c.supply_copy-ticket.result es es' c.leave.result c.leave.ensures.entries c.leave.ensures.frame))

pub returns-in-Ok-clause-tickets : goal.returns-in-Ok-clause-tickets
returns-in-Ok-clause-tickets g c =
    let ps = g.P.Pages.pages c.args.pages.now in
    let es = c.args.shares.now.entries in
    let es' = c.leave.new.self.entries in
    let frame : FrameIs = record { number = c.in-Ok.frame.number; bytes = shown (page_at ps c.args.p) } in
    copy_tickets ps (g.P.Pages.pages c.supply_copy-ticket.new.self) es es' c.args.p frame
    c.requires.there c.requires.kind c.supply_copy-ticket.ensures.pages (subst (λ (t : ℕ). Leaves es t es') c.supply_copy-ticket.ensures.ticket c.leave.ensures.entries)

pub returns-in-Ok-clause-reads : goal.returns-in-Ok-clause-reads
returns-in-Ok-clause-reads g c =
    let ps = g.P.Pages.pages c.args.pages.now in
    let frame : FrameIs = record { number = c.in-Ok.frame.number; bytes = shown (page_at ps c.args.p) } in
    private_reads c.args.shares.now.entries c.leave.new.self.entries ps (g.P.Pages.pages c.supply_copy-ticket.new.self) c.args.p frame
    c.requires.there c.supply_copy-ticket.ensures.pages (returns-in-Ok-clause-tickets g c) c.requires.covered
