use Rattle.nx_script.proofs.DocumentLines.{undotted_more, before_dot_none}
use Rattle.nx_script.proofs.body.before_dot.Goals as goal

pub loop-start-preserved : goal.loop-start-preserved
loop-start-preserved c =
    undotted_more c.args.bytes.now c.loop-start.start c.in-Some.end c.loop-start.invariant c.loop-start-test.true c.if-bytes-start-ne46.true c.in-Some.ensures

pub returns-in-None : goal.returns-in-None
returns-in-None c =
    before_dot_none c.args.bytes.now c.loop-start.start c.loop-start.invariant c.loop-start-test.true c.if-bytes-start-ne46.true c.in-None.ensures
