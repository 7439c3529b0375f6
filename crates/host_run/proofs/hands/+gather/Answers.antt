use Rattle.host_run.proofs.Dealing.{joined_more}
use Rattle.host_run.proofs.hands.+gather.Goals as goal

pub returns-clause-handles : goal.returns-clause-handles
returns-clause-handles t c =
    joined_more c.args.runners.now.items c.pop.new.self.items c.args.monitors.now.items c.pop-2.new.self.items c.args.policies.now.items c.pop-3.new.self.items c.args.debuggers.now.items
    c.pop-4.new.self.items c.in-Some.runner c.in-Some-pop.hand c.in-Some-pop-2.policy c.in-Some-pop-3.debugger c.args.handles.now.items c.gather.new.handles.items
    c.push_reserved.new.self.items c.in-Some.ensures.items c.in-Some-pop.ensures.items c.in-Some-pop-2.ensures.items c.in-Some-pop-3.ensures.items c.requires.monitors
    c.requires.policies c.requires.debuggers c.gather.ensures.handles c.push_reserved.ensures.items
