use Rattle.std.proofs.Common.{◌∙◌, ◌+◌, ap, arith}
use Rattle.swapstore.specs.Memories.{MemoryIs, sound_are_told}
use Rattle.commands.specs.Hosted.{hosted_of}
use Rattle.commands.proofs.Hosting.{alone_stepped, ended_full, lacking, need_is_early, need_room, not_all, stepped, still_one}
use Rattle.runs.proofs.Ends.{one_more, steps_so_far}
use Rattle.commands.proofs.hosted.make_steps.Goals as goal

pub step_supplied-requires-clause-alone : goal.step_supplied-requires-clause-alone
step_supplied-requires-clause-alone c =
    let s = c.steps-steps in
    alone_stepped c.loop-made.world s.new.self s.result.steps c.loop-made.invariant.alone (s.ensures.logs 0) s.ensures.boots s.ensures.around.store s.ensures.around.frames

pub step_supplied-requires-clause-lacking : goal.step_supplied-requires-clause-lacking
step_supplied-requires-clause-lacking c =
    let s = c.steps-steps in
    let alone = c.loop-made.invariant.alone in
    lacking _ _ _ _ _ _ _ s.new.self.tenants c.in-Need.page _ (still_one c.loop-made.world.tenants s.new.self.tenants alone.one s.ensures.boots)
    (sound_are_told s.new.self.store (ap (λ (m : MemoryIs). m.damaged) s.ensures.around.store ∙ alone.sound)) c.is_sound.ensures
    (s.ensures.need (sound_are_told c.loop-made.world.store alone.sound) c.in-Need.page _ c.in-Need.is)

pub step_supplied-requires-clause-room : goal.step_supplied-requires-clause-room
step_supplied-requires-clause-room c =
    let s = c.steps-steps in
    need_room s.new.self.tenants s.result.end c.in-Need.page _ (still_one c.loop-made.world.tenants s.new.self.tenants c.loop-made.invariant.alone.one s.ensures.boots) c.in-Need.is
    s.ensures.room

pub returns-in-Done-clause-alone : goal.returns-in-Done-clause-alone
returns-in-Done-clause-alone c =
    let s = c.steps-steps in
    alone_stepped c.loop-made.world s.new.self s.result.steps c.loop-made.invariant.alone (s.ensures.logs 0) s.ensures.boots s.ensures.around.store s.ensures.around.frames

pub returns-in-Done-clause-state : goal.returns-in-Done-clause-state
returns-in-Done-clause-state c =
    let s = c.steps-steps in
    steps_so_far c.loop-made.made s.result.steps (hosted_of c.args.world.now.tenants).machine (hosted_of c.loop-made.world.tenants).machine (hosted_of s.new.self.tenants).machine
    c.loop-made.invariant.state (stepped c.loop-made.world.tenants s.new.self.tenants s.result.steps c.loop-made.invariant.alone.one (s.ensures.logs 0) s.ensures.boots)

pub returns-in-Stop-clause-alone : goal.returns-in-Stop-clause-alone
returns-in-Stop-clause-alone c =
    let s = c.steps-steps in
    alone_stepped c.loop-made.world s.new.self s.result.steps c.loop-made.invariant.alone (s.ensures.logs 0) s.ensures.boots s.ensures.around.store s.ensures.around.frames

pub returns-in-Stop-clause-state : goal.returns-in-Stop-clause-state
returns-in-Stop-clause-state c =
    let s = c.steps-steps in
    steps_so_far c.loop-made.made s.result.steps (hosted_of c.args.world.now.tenants).machine (hosted_of c.loop-made.world.tenants).machine (hosted_of s.new.self.tenants).machine
    c.loop-made.invariant.state (stepped c.loop-made.world.tenants s.new.self.tenants s.result.steps c.loop-made.invariant.alone.one (s.ensures.logs 0) s.ensures.boots)

pub returns-in-Stop-clause-full : goal.returns-in-Stop-clause-full
returns-in-Stop-clause-full c =
    let s = c.steps-steps in
    ended_full s.new.self.tenants s.result.end c.in-Stop.stop c.stop_of.result (still_one c.loop-made.world.tenants s.new.self.tenants c.loop-made.invariant.alone.one s.ensures.boots)
    c.in-Stop.is c.stop_of.ensures s.ensures.full s.ensures.room

pub returns-in-Err-clause-state : goal.returns-in-Err-clause-state
returns-in-Err-clause-state c =
    let s = c.steps-steps in
    c.in-Err.ensures.stopped
    ∙ steps_so_far c.loop-made.made s.result.steps (hosted_of c.args.world.now.tenants).machine (hosted_of c.loop-made.world.tenants).machine (hosted_of s.new.self.tenants).machine
    c.loop-made.invariant.state (stepped c.loop-made.world.tenants s.new.self.tenants s.result.steps c.loop-made.invariant.alone.one (s.ensures.logs 0) s.ensures.boots)

pub loop-made-preserved : goal.loop-made-preserved
loop-made-preserved c =
    let s = c.steps-steps in
    let first = (hosted_of c.args.world.now.tenants).machine in
    let now = (hosted_of s.new.self.tenants).machine in
    record {
      alone = c.step_supplied.ensures.alone;
      few = omega (arith, not_all s.result.end s.result.steps _ (need_is_early s.result.end c.in-Need.page _ c.in-Need.is) s.ensures.done s.ensures.most);
      state = one_more (c.loop-made.made + s.result.steps) first now (hosted_of c.step_supplied.new.world.tenants).machine
          (steps_so_far c.loop-made.made s.result.steps first (hosted_of c.loop-made.world.tenants).machine now c.loop-made.invariant.state
          (stepped c.loop-made.world.tenants s.new.self.tenants s.result.steps c.loop-made.invariant.alone.one (s.ensures.logs 0) s.ensures.boots)) c.in_default.ensures.made;
    }
