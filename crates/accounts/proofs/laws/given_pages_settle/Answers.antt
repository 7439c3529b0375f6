use Rattle.accounts.proofs.Settled.{given_nothing_moved, given_frame_moved, given_ticket_moved, given_slot_moved}
use Rattle.accounts.proofs.laws.given_pages_settle.Goals as goal

pub returns-clause-nothing : goal.returns-clause-nothing
returns-clause-nothing c = given_nothing_moved

pub returns-clause-frame : goal.returns-clause-frame
returns-clause-frame c = given_frame_moved

pub returns-clause-ticket : goal.returns-clause-ticket
returns-clause-ticket c = given_ticket_moved

pub returns-clause-slot : goal.returns-clause-slot
returns-clause-slot c = given_slot_moved
