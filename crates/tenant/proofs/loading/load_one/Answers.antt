use Rattle.tenant.specs.Loading.{boot_page}
use Rattle.std.proofs.Common.{length, Err, ap, ◌∙◌, arith}
use Rattle.tenant.proofs.SlotOrder.{frame_takes_none}
use Rattle.tenant.proofs.loading.load_one.Goals as goal

pub returns-in-Ok-clause-conserves : goal.returns-in-Ok-clause-conserves
returns-in-Ok-clause-conserves g c = λ es. c.load_in_frame.ensures.conserves c.args.slots.now es

pub returns-in-Err-clause-conserves : goal.returns-in-Err-clause-conserves
returns-in-Err-clause-conserves g c = λ es. c.load_in_frame.ensures.conserves c.args.slots.now es

pub returns-in-Ok-load_in_slot-clause-conserves : goal.returns-in-Ok-load_in_slot-clause-conserves
returns-in-Ok-load_in_slot-clause-conserves g c = λ es. c.load_in_slot.ensures.conserves c.args.pool.now es

pub returns-in-Err-NoSwap-clause-conserves : goal.returns-in-Err-NoSwap-clause-conserves
returns-in-Err-NoSwap-clause-conserves g c = λ es. c.load_in_slot.ensures.conserves c.args.pool.now es

pub returns-in-Err-SwapWrite-clause-conserves : goal.returns-in-Err-SwapWrite-clause-conserves
returns-in-Err-SwapWrite-clause-conserves g c = λ es. c.load_in_slot.ensures.conserves c.args.pool.now es

pub returns-in-Err-NoSwap-clause-room : goal.returns-in-Err-NoSwap-clause-room
returns-in-Err-NoSwap-clause-room g c = λ room.
    let none = c.load_in_slot.ensures.none (c.in-Err-NoSwap.is ∙ ap Err c.in-Err-NoSwap.field-0-is) in
    omega (arith, c.if-free-gt0.false, c.free.ensures, ap length none)

pub returns-in-Ok-clause-lowest : goal.returns-in-Ok-clause-lowest
returns-in-Ok-clause-lowest g c =
    let old = c.args.guest.now.bus.pages in
    frame_takes_none c.args.slots.now old c.load_in_frame.new.guest.bus.pages c.args.p (boot_page c.args.image.now (length old) c.args.p) c.requires.there c.in-Ok.ensures.loaded
