-- The items that events add to the logs of guests.
use Rattle.std.specs.Prelude.{◌≡◌, ℕ, ◌<◌, ◌≤◌, length, ◌==◌, if◌then◌else◌, false, Result, Ok, Err, List, [], ◌∷◌, ◌++◌, replicate, map, take, Contains, slice_index_or, ◌≢◌}
use Rattle.world.specs.Below.{FreeList, In, Item, Private, Refused, Reply, Stat, StepOut, TenantIs, accesses, is_step, kind_at, pages_in, stat_of, step_by, view_of}
use Rattle.guest_log.specs.declared.stop.Stop.{Stop}
use Rattle.guest_log.specs.declared.stop.Stop.TheVariants as halt
use Rattle.machine.specs.declared.access.StepOut.TheVariants as out
use Rattle.machine.specs.Accesses.{Access}
use Rattle.world.specs.declared.events.Event.{Event}
use Rattle.world.specs.declared.events.Event.TheVariants as event
use Rattle.world.specs.declared.events.Answer.{Answer}
use Rattle.world.specs.declared.events.Answer.TheVariants as answer
use Rattle.world.specs.declared.faulting.FaultError.{FaultError}
use Rattle.world.specs.declared.faulting.FaultError.TheVariants as lacking
use Rattle.world.specs.declared.running.End.{End}
use Rattle.world.specs.declared.running.End.TheVariants as end
use Rattle.world.specs.declared.running.RunStop.{RunStop}
use Rattle.world.specs.declared.running.RunStop.TheVariants as stop
use Rattle.world.specs.declared.turns.Turn.{Turn}
use Rattle.world.specs.Turns.{aim_items}
use Rattle.tenant.specs.declared.turning.Aim.TheVariants as aim
use Rattle.world.specs.Damage.{FindsDamage}
use Rattle.world.specs.Debugging.{written_items}
use Rattle.world.specs.Victims.{WhyLacking}
use Rattle.world.specs.Worlds.{StoreFacts, item_for, FailsOnce, WorldIs}

-- an item that is to happen is no step, and a debugger reads and writes 1 to 1,024 bytes
abbrev pub IsProper : Event → Type 0
IsProper (event.Input g item) = is_step item.what ≡ false
IsProper (event.Probe g address count) = (0 < count) × (count ≤ 1024)
IsProper (event.Write g address bytes) = (0 < length bytes.items) × (length bytes.items ≤ 1024)
IsProper _ = Unit {0}

-- a step that is made is an item of seat 0
abbrev pub step_items : ℕ → ℕ → Result StepOut Stop → List Item
step_items h g (Ok out.Done) = item_for h g (step_by 0)
step_items h g (Ok (out.Need page why)) = []
step_items h g (Err stop) = []

abbrev pub items_stepped : ℕ → ℕ → Answer → List Item
items_stepped h g (answer.Stepped stepped) = step_items h g stepped
items_stepped h g _ = []

-- so many steps by seat 0, where the guest is the one that made them
abbrev pub steps_for : ℕ → ℕ → ℕ → List Item
steps_for h g count = if h == g then replicate count (step_by 0) else []

abbrev pub items_ran : ℕ → ℕ → Answer → List Item
items_ran h g (answer.Ran ran) = steps_for h g ran.steps
items_ran h g _ = []

-- an item that is accepted
abbrev pub input_items : ℕ → ℕ → Item → Result Reply Refused → List Item
input_items h g item (Ok reply) = item_for h g item
input_items h g item (Err refused) = []

abbrev pub items_input : ℕ → ℕ → Item → Answer → List Item
items_input h g item (answer.Input done) = input_items h g item done
items_input h g item _ = []

-- a byte of input that a guest's console has taken is an item of seat 0
abbrev pub input_of : ℕ → Item
input_of byte = record { seat = 0; what = In byte }

-- bytes of input, where the guest is the one whose console has taken them
abbrev pub inputs_for : ℕ → ℕ → List ℕ → List Item
inputs_for h g bytes = if h == g then map input_of bytes else []

abbrev pub items_fed : ℕ → ℕ → List ℕ → Answer → List Item
items_fed h g bytes (answer.Fed fed) = inputs_for h g (take fed.count bytes)
items_fed h g bytes _ = []

-- a write that is made is an item of seat 3
abbrev pub items_written : ℕ → ℕ → ℕ → List ℕ → Answer → List Item
items_written h g address bytes (answer.Written done) = written_items h g address bytes done
items_written h g address bytes _ = []

-- a turn of the policy sets the target of a guest's balloon by an item of seat 2
abbrev pub turn_items : {E : Type 0} → ℕ → Result Turn E → List Item
turn_items h (Ok turn) = aim_items (slice_index_or turn.aims.items h aim.Kept)
turn_items h (Err error) = []

abbrev pub items_turned : ℕ → Answer → List Item
items_turned h (answer.Turned done) = turn_items h done
items_turned h _ = []

-- The items that an event adds to the log of guest h, by its answer: steps that are made, an item that is accepted, bytes of input that
-- were taken, and a write that is made, where the event was that guest's; and the target of its balloon that a turn of the policy has
-- set. No other event adds any.
abbrev pub own_items : ℕ → Event → Answer → List Item
own_items h (event.Step g) a = items_stepped h g a
own_items h (event.Steps g count) a = items_ran h g a
own_items h (event.Run g count) a = items_ran h g a
own_items h (event.Input g item) a = items_input h g item a
own_items h (event.Feed g bytes) a = items_fed h g bytes.items a
own_items h (event.Write g address bytes) a = items_written h g address bytes.items a
own_items h event.Level a = items_turned h a
own_items h _ a = []

-- the items that events add to the log of guest h, in order
abbrev pub own : ℕ → List Event → List Answer → List Item
own h [] answers = []
own h (e ∷ events) [] = []
own h (e ∷ events) (a ∷ answers) = own_items h e a ++ own h events answers

-- ---- how many steps end

-- why a run of steps stops where its log has no room
abbrev pub for_room : Stop → RunStop
for_room halt.Memory = stop.Memory
for_room halt.LogFull = stop.LogFull

-- what is so where a run of steps stopped
abbrev pub IfStop : End → (RunStop → Type 0) → Type 0
IfStop (end.Stop why) so = so why
IfStop _ so = Unit {0}

-- what stops steps for which no page is supplied: the log has no room
abbrev pub IsForRoom : RunStop → Type 0
IsForRoom stop.Memory = Unit {0}
IsForRoom stop.LogFull = Unit {0}
IsForRoom _ = ⊥

-- A page was supplied for the step that a guest is to make, which needs this other page now: the step accesses it, and it has a frame
-- of its own.
pub record IsSupplied (needed : ℕ) (t : TenantIs) : Type 0 where
  pub page : ℕ
  pub accessed : Contains (map (λ (a : Access). a.page) (accesses (view_of t.guest))) page
  pub private : kind_at (pages_in t) page ≡ Private
  pub other : page ≢ needed

-- the reason for which a run of steps stops, where this is why a page that is needed has no frame
abbrev pub stop_of : FaultError → RunStop
stop_of lacking.NoFrame = stop.NoFrame
stop_of lacking.NoSwap = stop.NoSwap
stop_of lacking.SwapRead = stop.SwapRead
stop_of lacking.SwapDamaged = stop.SwapDamaged
stop_of lacking.Memory = stop.Memory

-- Why a run of steps stopped for which pages are supplied: a page that was needed has no frame, as `WhyLacking` has it, or the log has
-- no room.
abbrev pub WhyStopped : FreeList → FreeList → List Stat → Type 0 → Type 0 → RunStop → Type 0
WhyStopped pool slots stats failed damaged stop.NoFrame = WhyLacking pool slots stats failed damaged lacking.NoFrame
WhyStopped pool slots stats failed damaged stop.NoSwap = WhyLacking pool slots stats failed damaged lacking.NoSwap
WhyStopped pool slots stats failed damaged stop.SwapRead = WhyLacking pool slots stats failed damaged lacking.SwapRead
WhyStopped pool slots stats failed damaged stop.SwapDamaged = WhyLacking pool slots stats failed damaged lacking.SwapDamaged
WhyStopped pool slots stats failed damaged _ = Unit {0}

-- why many steps, or a debugger's access, for which pages are supplied one after another stopped: the last of them has no frame for a
-- reason that `WhyStopped` has
abbrev pub WhyHalted : {Kept : Type 0} → StoreFacts Kept → ℕ → (ℕ → Type 0) → WorldIs Kept → WorldIs Kept → RunStop → Type 0
WhyHalted facts g IsFor w w' =
    WhyStopped w'.pool w'.slots (map stat_of w'.tenants) (FailsOnce facts w w') (FindsDamage facts g IsFor w w')
