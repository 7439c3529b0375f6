-- Threads may share a host whose store may go to another thread and whose gate they may share.
--
-- A search takes neither a snapshot's lemmas nor those of the types below by itself, so each type on the way has a lemma here: a cell's and its
-- front's, and those of what the guests leave at their end, room for which is part of the host. A seat of a ledger, a log or a queue that is only
-- looked at says the same to every thread.
use denote.RattleType.{RattleType}
use denote.Param.Send.{IsSend, IsSync, part_keyless, sendable, recorded_sync, struct_sync, view_sync}
use denote.Struct.Declared.{shape}
use Rattle.std.proofs.Crossing.{crosses}
use Rattle.atomic_table.specs.contracts.shared.Seat as Seat
use Rattle.atomic_table.proofs.shared.Seat.TheSendSync as seat
use Rattle.items.proofs.item.Item.TheSendSync as item
use Rattle.elf32.proofs.image.Image.TheSendSync as image
use Rattle.ledger.specs.contracts.share.Share as Share
use Rattle.accounts.specs.contracts.account.Account as Account
use Rattle.slot_contents.specs.contracts.content.Content as Content
use Rattle.shared_pool.specs.contracts.pass.PoolPass as PoolPass
use Rattle.shared_pool.proofs.resting.Resting.TheSendSync as resting
use Rattle.machine_memory.specs.contracts.stake.Stake as Stake
use Rattle.machine_memory.proofs.memory.MachineMemory.TheSendSync as memory
use Rattle.lasting_truth.specs.contracts.keeper.Keeper as Keeper
use Rattle.lasting_truth.specs.contracts.witness.Witness as Witness
use Rattle.lasting_truth.proofs.truth.Truth.TheSendSync as truth
use Rattle.console_queue.proofs.queue.ConsoleQueue.TheSendSync as queue
use Rattle.log_seats.specs.contracts.pen.Pen as Pen
use Rattle.log_seats.specs.contracts.seat.Seat as LogSeat
use Rattle.log_seats.proofs.head.Head.TheSendSync as head
use Rattle.guest_log.proofs.log.Log.TheSendSync as log
use Rattle.owned_log.specs.contracts.owned_log.OwnedLog as OwnedLog
use Rattle.owned_log.specs.contracts.owned_log.OwnedLog.TheInside as inside_owned_log
use Rattle.mips_cp0.proofs.profile.Profile.TheSendSync as profile
use Rattle.mips_step.proofs.cpu.Cpu.TheSendSync as cpu
use Rattle.mips_fast.proofs.caches.RunCache.TheSendSync as cache
use Rattle.guest_bus.proofs.bus.GuestBus.TheSendSync as bus
use Rattle.guest.specs.contracts.guest.Guest as Guest
use Rattle.guest.specs.contracts.guest.Guest.TheInside as inside_guest
use Rattle.keyed_lock.proofs.lock.KeyedLock.TheSendSync as lock
use Rattle.swapstore.specs.declared.store.SwapStore as SwapStore
use Rattle.cell.specs.contracts.seat.Seat as CellSeat
use Rattle.cell.specs.contracts.seat.Seats as Seats
use Rattle.cell.specs.contracts.cell.Front as Front
use Rattle.cell.specs.contracts.cell.Cell as Cell
use Rattle.cell.proofs.cell.Locked.TheSendSync as locked
use Rattle.cell.specs.contracts.ends.Ended as Ended
use Rattle.guest_cells.specs.contracts.ending.EndedRoom as EndedRoom
use Rattle.guest_cells.specs.contracts.cells.GuestCells as GuestCells
use Rattle.guest_cells.proofs.auditor.Auditor.TheSendSync as auditor
use Rattle.host_policy.proofs.policy.Policy.TheSendSync as policy
use Rattle.host.specs.contracts.host.Host as Host

-- ---- tokens
seat_sync : (S V : RattleType) → IsSend S → IsSync (Seat.the_row S V)
seat_sync S V s = record { shared = λ d b o κ q. part_keyless (Seat.the_row S V) (seat.the_send S V s) q d b o }

share_sync : (H : RattleType) → IsSync (Share.the_row H)
share_sync H = search (sendable, seat_sync) depth 20

pass_sync : IsSync PoolPass.the_row
pass_sync = search (sendable, seat_sync, resting.the_send) depth 30

stake_sync : IsSync (Stake.the_field).row
stake_sync = struct_sync (shape Stake.the_type) (share_sync Account.the_row, (pass_sync, (share_sync Content.the_row, tt)))

keeper_sync : IsSync Keeper.the_row
keeper_sync = search (sendable, share_sync) depth 60

witness_sync : IsSync Witness.the_row
witness_sync = search (sendable, share_sync) depth 20

log_seat_sync : IsSync LogSeat.the_row
log_seat_sync = search (sendable, seat_sync, item.the_send) depth 30

pen_sync : IsSync Pen.the_row
pen_sync = search (sendable, seat_sync, item.the_send) depth 30

cell_seat_sync : IsSync (CellSeat.the_field).row
cell_seat_sync = struct_sync (shape CellSeat.the_type) (log_seat_sync, (witness_sync, tt))

seats_sync : IsSync (Seats.the_field).row
seats_sync = struct_sync (shape Seats.the_type) (cell_seat_sync, (cell_seat_sync, (cell_seat_sync, (cell_seat_sync, tt))))

-- ---- what a guest leaves
owned_log_sync : IsSync OwnedLog.the_row
owned_log_sync = view_sync inside_owned_log.the_row _ _ _ _ (recorded_sync (inside_owned_log.the_field).row _ _ (inside_owned_log.the_type).to_one
    (struct_sync (shape inside_owned_log.the_type) (log.the_sync, (search (sendable, crosses, head.the_send, head.the_sync) depth 40, (pen_sync, tt)))))

guest_sync : IsSync Guest.the_row
guest_sync = view_sync inside_guest.the_row _ _ _ _ (recorded_sync (inside_guest.the_field).row _ _ (inside_guest.the_type).to_one
    (struct_sync (shape inside_guest.the_type) (cpu.the_sync, (bus.the_sync, (cache.the_field_sync, (profile.the_field_sync, (search (sendable, crosses, image.the_send, image.the_sync) depth 40, (search sendable, (owned_log_sync, tt)))))))))

ended_sync : IsSync Ended.the_row
ended_sync = recorded_sync (Ended.the_field).row _ _ (Ended.the_type).to_one
    (struct_sync (shape Ended.the_type) (guest_sync, (stake_sync, (seats_sync, (search (sendable, crosses) depth 40, (keeper_sync, tt))))))

room_sync : IsSync (EndedRoom.the_field).row
room_sync = struct_sync (shape EndedRoom.the_type) (search (sendable, crosses, ended_sync) depth 40, tt)

-- ---- guests behind locks
front_sync : (S : RattleType) (g : SwapStore.Ghosts S.Denot) → IsSync (Front.the_field S g).row
front_sync S g = struct_sync (shape (Front.the_type S g))
    (search (sendable, crosses, head.the_send, head.the_sync) depth 40, (profile.the_field_sync, (search (sendable, crosses, image.the_send, image.the_sync) depth 40, (search sendable, (search sendable, (queue.the_sync, (truth.the_sync, (search (sendable, crosses) depth 40, (search sendable, (search sendable, tt))))))))))

pub cell_sync : (S : RattleType) (g : SwapStore.Ghosts S.Denot) → IsSend S → IsSync (Cell.the_row S g)
cell_sync S g s = recorded_sync (Cell.the_field S g).row _ _ (Cell.the_type S g).to_one
    (struct_sync (shape (Cell.the_type S g)) (front_sync S g, (search (lock.the_sync, locked.the_send) depth 40, (search (sendable, crosses) depth 40, tt))))

guests_sync : (S : RattleType) (g : SwapStore.Ghosts S.Denot) → IsSend S → IsSync (GuestCells.the_field S g).row
guests_sync S g s = struct_sync (shape (GuestCells.the_type S g))
    (search (sendable, crosses, cell_sync) depth 40, (memory.the_sync S g s, (search (lock.the_sync, auditor.the_send) depth 40, (room_sync, tt))))

pub host_sync : (S G : RattleType) (g : SwapStore.Ghosts S.Denot) → IsSend S → IsSync G → IsSync (Host.the_row S G g)
host_sync S G g s t = recorded_sync (Host.the_field S G g).row _ _ (Host.the_type S G g).to_one
    (struct_sync (shape (Host.the_type S G g)) (guests_sync S g s, (policy.the_sync, (search sendable, (search sendable depth 20, tt)))))
