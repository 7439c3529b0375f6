use Rattle.std.proofs.Common.{rules, ◌≡◌, ℕ, ◌+◌, OnErr, length, sym, subst, ◌∙◌}
use Rattle.guest_cells.proofs.Housing.{none_asked, none_ready, last_ready, last_level, last_written, ready_count, housed_count, asked_handles}
use Rattle.guest_cells.proofs.making.+house_all.Goals as goal

pub returns-in_default-clause-as_asked : goal.returns-in_default-clause-as_asked
returns-in_default-clause-as_asked g t c =
    let none : length c.args.waiting.now.guests.items ≡ 0 = search rules in
    none_asked c.args.log_runs c.args.waiting.now.asked.items c.args.housed.now.cells.items c.args.housed.now.handles.items
    (none_ready c.args.log_runs c.args.waiting.now.asked.items c.args.waiting.now.guests.items c.requires.ready none) c.requires.none c.requires.no_handles

pub house_all-requires : goal.house_all-requires
house_all-requires g t c κs within = (
  search rules,
  (
    within.0,
    (
      within.1,
      (
        (last_ready c.args.log_runs c.args.waiting.now.asked.items c.pop-2.new.self.items c.in-Some-pop.asked c.args.waiting.now.guests.items c.pop.new.self.items c.in-Some.guest c.requires.ready c.in-Some-pop.ensures.items c.in-Some.ensures.items).1,
        (
          (last_level c.args.memory.now c.args.waiting.now.stakes.items c.pop-3.new.self.items c.in-Some-pop-2.stake c.args.waiting.now.guests.items c.pop.new.self.items c.in-Some.guest c.requires.level c.in-Some-pop-2.ensures.items c.in-Some.ensures.items).1,
          (
            λ trust. (last_written c.args.waiting.now.stakes.items c.pop-3.new.self.items c.in-Some-pop-2.stake c.args.waiting.now.guests.items c.pop.new.self.items c.in-Some.guest (c.requires.written trust) c.in-Some-pop-2.ensures.items c.in-Some.ensures.items).1,
            (search rules, (c.requires.none, (c.requires.no_handles, (c.requires.none_ended, (search rules, (search rules, (search rules, c.requires.gathered))))))),
          ),
        ),
      ),
    ),
  ),
)

pub house_next-requires-clause-ready : goal.house_next-requires-clause-ready
house_next-requires-clause-ready g t c =
    (last_ready c.args.log_runs c.args.waiting.now.asked.items c.pop-2.new.self.items c.in-Some-pop.asked c.args.waiting.now.guests.items c.pop.new.self.items c.in-Some.guest c.requires.ready c.in-Some-pop.ensures.items c.in-Some.ensures.items).0

pub house_next-requires-clause-level : goal.house_next-requires-clause-level
house_next-requires-clause-level g t c =
    (last_level c.args.memory.now c.args.waiting.now.stakes.items c.pop-3.new.self.items c.in-Some-pop-2.stake c.args.waiting.now.guests.items c.pop.new.self.items c.in-Some.guest c.requires.level c.in-Some-pop-2.ensures.items c.in-Some.ensures.items).0

pub house_next-requires-clause-written : goal.house_next-requires-clause-written
house_next-requires-clause-written g t c trust =
    (last_written c.args.waiting.now.stakes.items c.pop-3.new.self.items c.in-Some-pop-2.stake c.args.waiting.now.guests.items c.pop.new.self.items c.in-Some.guest (c.requires.written trust) c.in-Some-pop-2.ensures.items c.in-Some.ensures.items).0

pub house_next-requires-clause-handles : goal.house_next-requires-clause-handles
house_next-requires-clause-handles g t c =
    asked_handles c.args.log_runs c.pop-2.new.self.items c.house_all.new.housed.cells.items c.house_all.new.housed.handles.items c.in-Ok.ensures.as_asked

pub house_next-requires-clause-count : goal.house_next-requires-clause-count
house_next-requires-clause-count g t c =
    let count : length c.house_all.new.housed.cells.items ≡ length c.pop.new.self.items =
    sym (housed_count c.args.log_runs c.pop-2.new.self.items c.house_all.new.housed.cells.items c.house_all.new.housed.handles.items c.in-Ok.ensures.as_asked)
    ∙ ready_count c.args.log_runs c.pop-2.new.self.items c.pop.new.self.items (last_ready c.args.log_runs c.args.waiting.now.asked.items c.pop-2.new.self.items c.in-Some-pop.asked c.args.waiting.now.guests.items c.pop.new.self.items c.in-Some.guest c.requires.ready c.in-Some-pop.ensures.items c.in-Some.ensures.items).1 in
    search rules

pub house_next-requires-clause-cells_room : goal.house_next-requires-clause-cells_room
house_next-requires-clause-cells_room g t c =
    let count : length c.house_all.new.housed.cells.items ≡ length c.pop.new.self.items =
    sym (housed_count c.args.log_runs c.pop-2.new.self.items c.house_all.new.housed.cells.items c.house_all.new.housed.handles.items c.in-Ok.ensures.as_asked)
    ∙ ready_count c.args.log_runs c.pop-2.new.self.items c.pop.new.self.items (last_ready c.args.log_runs c.args.waiting.now.asked.items c.pop-2.new.self.items c.in-Some-pop.asked c.args.waiting.now.guests.items c.pop.new.self.items c.in-Some.guest c.requires.ready c.in-Some-pop.ensures.items c.in-Some.ensures.items).1 in
    search rules

pub house_next-requires-clause-handles_room : goal.house_next-requires-clause-handles_room
house_next-requires-clause-handles_room g t c =
    let count : length c.house_all.new.housed.cells.items ≡ length c.pop.new.self.items =
    sym (housed_count c.args.log_runs c.pop-2.new.self.items c.house_all.new.housed.cells.items c.house_all.new.housed.handles.items c.in-Ok.ensures.as_asked)
    ∙ ready_count c.args.log_runs c.pop-2.new.self.items c.pop.new.self.items (last_ready c.args.log_runs c.args.waiting.now.asked.items c.pop-2.new.self.items c.in-Some-pop.asked c.args.waiting.now.guests.items c.pop.new.self.items c.in-Some.guest c.requires.ready c.in-Some-pop.ensures.items c.in-Some.ensures.items).1 in
    search rules

pub house_next-requires-clause-ended_room : goal.house_next-requires-clause-ended_room
house_next-requires-clause-ended_room g t c =
    let count : length c.house_all.new.housed.cells.items ≡ length c.pop.new.self.items =
    sym (housed_count c.args.log_runs c.pop-2.new.self.items c.house_all.new.housed.cells.items c.house_all.new.housed.handles.items c.in-Ok.ensures.as_asked)
    ∙ ready_count c.args.log_runs c.pop-2.new.self.items c.pop.new.self.items (last_ready c.args.log_runs c.args.waiting.now.asked.items c.pop-2.new.self.items c.in-Some-pop.asked c.args.waiting.now.guests.items c.pop.new.self.items c.in-Some.guest c.requires.ready c.in-Some-pop.ensures.items c.in-Some.ensures.items).1 in
    search rules

pub give_up-requires-clause-level : goal.give_up-requires-clause-level
give_up-requires-clause-level g t c =
    (last_level c.args.memory.now c.args.waiting.now.stakes.items c.pop-3.new.self.items c.in-Some-pop-2.stake c.args.waiting.now.guests.items c.pop.new.self.items c.in-Some.guest c.requires.level c.in-Some-pop-2.ensures.items c.in-Some.ensures.items).0

pub returns-in-Ok-clause-all : goal.returns-in-Ok-clause-all
returns-in-Ok-clause-all g t c =
    let count : length c.house_all.new.housed.cells.items ≡ length c.pop.new.self.items =
    sym (housed_count c.args.log_runs c.pop-2.new.self.items c.house_all.new.housed.cells.items c.house_all.new.housed.handles.items c.in-Ok.ensures.as_asked)
    ∙ ready_count c.args.log_runs c.pop-2.new.self.items c.pop.new.self.items (last_ready c.args.log_runs c.args.waiting.now.asked.items c.pop-2.new.self.items c.in-Some-pop.asked c.args.waiting.now.guests.items c.pop.new.self.items c.in-Some.guest c.requires.ready c.in-Some-pop.ensures.items c.in-Some.ensures.items).1 in
    let all : length c.house_all.new.housed.cells.items + 1 ≡ length c.args.waiting.now.guests.items = search rules in
    subst (λ (n : ℕ). OnErr c.house_next.result (length c.house_next.new.gathered.pages ≡ n)) all c.house_next.ensures.all
