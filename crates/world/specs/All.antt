-- The definitions of this crate, and what they name of the crates below it.
pub use Rattle.world.specs.Admission.{BlockedStay, FindsRoom, GuestsStay, IsAccessWithRoom, IsAdmitted, IsEndWithRoom, IsNoRoom, IsNoRoomIn, LimitsStay, NotTurned}
pub use Rattle.world.specs.Answers.{AllHappen, Happens, IsAnswered, IsFeedAnswer}
pub use Rattle.world.specs.Boots.{AreAdmitted, AreBooted, AreWithinLimits, FramesComeFirst, HasFramesFor, HasSlotsFor, HoldsImage, IsWithinLimits, SlotsComeInOrder, WhyNotBooted, guest_in, with_seats}
pub use Rattle.world.specs.Choices.{AreReached, AreSteps, AreSwapOuts, Chain, EndsBy, IsBooked, IsEviction, IsFault, IsForNeed, IsForStep, IsMet, IsReached, IsRun, IsStay, IsStuck, IsSuppliedFor, IsSwapOut, MakesNone, MakesRoom, MakesSome, MakesSteps, Moment, NoneLeaves, ReachesBytes, StopsBy, SwapOuts, SwapOutsEnd, TurnsBy, WritesBytes, moment_of}
pub use Rattle.world.specs.Damage.{FindsDamage, HasDamage, IsAccessed, IsDamagedPage, IsNeeded, LieIn}
pub use Rattle.world.specs.Debugging.{IfStopped, IsReady, OnlyPagesAndRoom, write_of, written_items}
pub use Rattle.world.specs.Events.{IfStop, IsForRoom, IsProper, IsSupplied, WhyHalted, WhyStopped, for_room, input_items, input_of, inputs_for, items_fed, items_input, items_ran, items_stepped, items_turned, items_written, own, own_items, step_items, steps_for, stop_of, turn_items}
pub use Rattle.world.specs.Evictions.{Became, IsEvicted}
pub use Rattle.world.specs.Samples.{AreSampled, IsSampling, OnlySamplesChange, without_sample}
pub use Rattle.world.specs.Steps.{NoneNeeds, pages_after}
pub use Rattle.world.specs.Turns.{AreCutShort, AreFewer, AreSwappedOut, AreTurned, IsTurn, IsTurned, LosesPages, MayLose, SameFrom, actions_in, aim_items}
pub use Rattle.world.specs.Victims.{IsPolicys, OnlyPagesMove, OtherSparedStay, SparedStay, WhyLacking, WhyUnsupplied, all_resident}
pub use Rattle.world.specs.Words.{GoesByWords}
pub use Rattle.world.specs.Worlds.{AroundStays, Changes, FailsOnce, IsSoundWorld, OnlyBooksChange, PagesMove, SameAround, Sound, StoreFacts, StoreStays, WorldIs, boot_of, guest_at, item_for, items_of, log_at, needed_by, pages_at, view_at}
pub use Rattle.booting.specs.declared.asked.Config.{Config}
pub use Rattle.booting.specs.declared.asked.NewGuest.{NewGuest}
pub use Rattle.world.specs.declared.debugging.DebugError.{DebugError}
pub use Rattle.world.specs.declared.events.Answer.{Answer}
pub use Rattle.world.specs.declared.events.Event.{Event}
pub use Rattle.world.specs.declared.faulting.FaultError.{FaultError}
pub use Rattle.world.specs.declared.running.End.{End}
pub use Rattle.world.specs.declared.running.RunStop.{RunStop}
pub use Rattle.world.specs.declared.turns.Turn.{Turn}
pub use Rattle.world.specs.declared.world.Evicted.{Evicted}
pub use Rattle.world.specs.Below.{Action, Adds, AddsSteps, Aim, AllFit, AllStay, Answered, AreHeldByDigest, Books, BootError, Comes, Conserves, EntriesAre, EvictError, Fits, FreeList, Given, GuestIs, GuestPage, HintsAfter, In, Intact}
pub use Rattle.world.specs.Below.{IsAimed, IsBooted, IsDamaged, IsEligible, IsFull, IsKept, IsLeast, IsNextResident, IsSampled, IsSized, Item, Lent, Level, Machine, NothingHappens, Page, PageKind, GuestBusIs, Private, Reads, Refused, Reply, SameNumbers}
pub use Rattle.world.specs.Below.{SharesAre, SomePlaceIn, Spared, Stat, Stays, StaysInTurn, StepOut, Stream, SupplyError, TenantIs, UsedStay, What, Why, WhyAway, WhyStays, Write, WritesTo, accepts, accesses, action_of, actions_by, actions_of}
pub use Rattle.world.specs.Below.{after_words, at_page, below, beside_pages, bytes_at, count_of, digest_of, entry_at, entry_count, first_lack, is_left_out, is_one_of, is_resident, is_step, is_wanted, kind_at, kind_of, lack_of, lacks_in, last_given, may_leave, need_of, next_level_of, next_u32}
pub use Rattle.world.specs.Below.{one_entry, one_more, one_private, one_shared, one_swapped, outline, outlined, page_at, pages_in, pages_of, pages_seen, pages_settled, private_pages, replied, reply, resident_pages, run, sha256, shared_pages, shown, slot_in, slot_of, slots_held, spared_of}
pub use Rattle.world.specs.Below.{standing, stat_of, step_by, step_given, steps_of, swapped_pages, target_by_policy, ticket_count, tickets_of, victim_of, view_of, without_pages}
