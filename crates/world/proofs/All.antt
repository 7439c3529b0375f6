-- What proofs of functions name: lemmas of std and of this crate, and the definitions.
pub use Rattle.std.proofs.lemmas.List.{get_or-set_same, length-map, nil_from_length, take_at}
pub use Rattle.std.proofs.lemmas.List.Sums.{sum_by-append, sum_by-cons, sum_by_push}
pub use Rattle.std.proofs.lemmas.Result.{IfOk-weaker, err_from_is_err_and, on_err_weaker, on_ok_weaker}
pub use Rattle.std.specs.Vec.Iter.{into_iter_items, into_iter_len}
pub use Rattle.booting.proofs.Stores.{store_same, store_then}
pub use Rattle.world.proofs.Admitting.{done_limits, fault_room, guests_move, guests_one, guests_sampled, guests_stay, guests_then, limits_then, room_of, still_admitted}
pub use Rattle.world.proofs.Victims.{evicted_spares, fault_logs, fewer, first_of, least_at, moved_logs, no_true, none_free, only_pages, pages_then, same_pages, some_none, some_tenant, spared_then, still_inside, supplied_spares}
pub use Rattle.world.proofs.Worlds.{all_more, any_default, around_books, around_same, around_then, books_same, books_then, guest_at, guest_inside, guest_of, input_logs, input_sound, kept_at, kept_of, lent_of, logs_more, same_boots, same_guests, same_logs, same_then, sound_after}
pub use Rattle.world.proofs.Worlds.{step_logs, steps_logs, tenants_of, why_away}
pub use Rattle.world.specs.All.{Action, Aim, AllHappen, Answer, Answered, AreBooted, AreCutShort, AreFewer, AreHeldByDigest, AreSampled, AreTurned, AreWithinLimits, AroundStays, Changes, Comes, Config, EntriesAre, Event, EvictError, FramesComeFirst, FreeList, GoesByWords, GuestIs}
pub use Rattle.world.specs.All.{GuestsStay, HasDamage, HoldsImage, In, Intact, IsAccessed, IsAnswered, IsBooted, IsDamagedPage, IsEligible, IsFull, IsKept, IsNeeded, IsNextResident, IsProper, IsSampled, IsSized, IsTurned, IsWithinLimits, Item, Level, LieIn, LimitsStay}
pub use Rattle.world.specs.All.{LosesPages, Machine, MayLose, NewGuest, NoneNeeds, OnlyBooksChange, OnlyPagesMove, OnlySamplesChange, GuestBusIs, Private, RunStop, SameAround, SameFrom, SharesAre, SlotsComeInOrder, SomePlaceIn, Sound, SparedStay, Stays, StopsBy, StoreFacts, StoreStays, SwapOuts, SwapOutsEnd}
pub use Rattle.world.specs.All.{TenantIs, Why, WhyAway, WhyHalted, WhyStays, WorldIs, Write, WritesTo, accepts, accesses, actions_of, after_words, all_resident, below, boot_of, bytes_at, count_of, first_lack, guest_in, input_items, inputs_for, is_resident, item_for, kind_at, lacks_in}
pub use Rattle.world.specs.All.{log_at, may_leave, moment_of, need_of, needed_by, next_level_of, next_u32, one_more, outline, own, page_at, pages_at, pages_in, pages_seen, private_pages, replied, reply, resident_pages, run, shared_pages, spared_of, standing, stat_of, steps_for}
pub use Rattle.world.specs.All.{steps_of, swapped_pages, ticket_count, victim_of, view_at, view_of, with_seats, without_pages, write_of, written_items}
