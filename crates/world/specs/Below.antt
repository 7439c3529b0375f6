-- What definitions and proofs of this crate name of the crates below it.
pub use Rattle.machine.specs.Answers.{replied}
pub use Rattle.machine.specs.Items.{accepts, reply, run}
pub use Rattle.machine.specs.Replies.{SomePlaceIn, bytes_at}
pub use Rattle.machine.specs.declared.reply.Reply.{Reply}
pub use Rattle.frames.specs.Counts.{below, count_of}
pub use Rattle.frames.specs.FreeList.{FreeList}
pub use Rattle.guest.specs.Guests.{GuestIs, Intact, IsSized, last_given, standing, view_of, without_pages}
pub use Rattle.guest.specs.Views.{pages_seen}
pub use Rattle.guest.specs.declared.refused.Refused.{Refused}
pub use Rattle.guest_log.specs.Logs.{IsFull}
pub use Rattle.items.specs.Entries.{step_by, steps_of}
pub use Rattle.items.specs.Items.{is_step}
pub use Rattle.items.specs.declared.item.Item.{Item}
pub use Rattle.items.specs.declared.item.What.{What}
pub use Rattle.items.specs.declared.item.What.TheVariants.{In, Write}
pub use Rattle.machine.specs.Accesses.{accesses, first_lack}
pub use Rattle.machine.specs.Answer.{need_of}
pub use Rattle.machine.specs.Given.{step_given}
pub use Rattle.machine.specs.Step.{Machine}
pub use Rattle.machine.specs.declared.access.StepOut.{StepOut}
pub use Rattle.machine.specs.declared.access.Why.{Why}
pub use Rattle.guest_bus.specs.Buses.{GuestBusIs, pages_settled}
pub use Rattle.guest_bus.specs.Lacking.{lack_of, lacks_in}
pub use Rattle.guest_bus.specs.Writes.{WritesTo}
pub use Rattle.page_moves.specs.Books.{Books, pages_of}
pub use Rattle.page_moves.specs.Moves.{Conserves, Reads, SameNumbers}
pub use Rattle.page_moves.specs.Scans.{Answered, Comes, HintsAfter}
pub use Rattle.page_moves.specs.Supplies.{IsDamaged, WhyAway}
pub use Rattle.page_moves.specs.declared.supply.SupplyError.{SupplyError}
pub use Rattle.guest_pages.specs.Holdings.{one_private, one_shared, one_swapped, private_pages, resident_pages, shared_pages, slot_in, slots_held, swapped_pages}
pub use Rattle.guest_pages.specs.Outline.{outline, outlined}
pub use Rattle.guest_pages.specs.Pages.{digest_of, is_resident, kind_at, kind_of, page_at, shown, slot_of}
pub use Rattle.guest_pages.specs.declared.page.Page.{Page}
pub use Rattle.guest_pages.specs.declared.page.Page.TheVariants.{Given}
pub use Rattle.guest_pages.specs.declared.page.PageKind.{PageKind}
pub use Rattle.guest_pages.specs.declared.page.PageKind.TheVariants.{Private}
pub use Rattle.rand_core.specs.Stream.{Stream, next_u32}
pub use Rattle.reclaim.specs.Levels.{next_level_of}
pub use Rattle.reclaim.specs.Plans.{action_of, actions_by, actions_of}
pub use Rattle.reclaim.specs.declared.level.Level.{Level}
pub use Rattle.reclaim.specs.declared.turn.Action.{Action}
pub use Rattle.sha2.specs.Sha256.{sha256}
pub use Rattle.sharetab.specs.Entries.{AllFit, EntriesAre, Fits, entry_at, entry_count, one_entry, ticket_count, tickets_of}
pub use Rattle.sharetab.specs.Maps.{at_page}
pub use Rattle.sharetab.specs.Shares.{SharesAre}
pub use Rattle.sharetab.specs.declared.guest_page.GuestPage.{GuestPage}
pub use Rattle.swapstore.specs.Failures.{one_more}
pub use Rattle.swapstore.specs.Holding.{AllStay, AreHeldByDigest}
pub use Rattle.taxpolicy.specs.Sample.{after_words}
pub use Rattle.taxpolicy.specs.Victim.{IsEligible, IsLeast, victim_of}
pub use Rattle.taxpolicy.specs.declared.stat.Stat.{Stat}
pub use Rattle.tenant.specs.Lent.{Lent, UsedStay, WhyStays}
pub use Rattle.tenant.specs.Tenants.{Adds, AddsSteps, IsBooted, IsKept, IsSampled, NothingHappens, Stays, TenantIs, beside_pages, pages_in, stat_of}
pub use Rattle.tenant.specs.Turns.{IsAimed, StaysInTurn, is_left_out, target_by_policy}
pub use Rattle.tenant.specs.declared.loading.BootError.{BootError}
pub use Rattle.tenant.specs.declared.moves.EvictError.{EvictError}
pub use Rattle.tenant.specs.declared.turning.Aim.{Aim}
pub use Rattle.victims.specs.Victims.{IsNextResident, is_one_of, may_leave, spared_of}
pub use Rattle.victims.specs.Wanted.{is_wanted}
pub use Rattle.victims.specs.declared.spared.Spared.{Spared}
