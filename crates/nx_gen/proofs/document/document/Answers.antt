use Rattle.nx_gen.proofs.GenLemmas.{made_more}
use Rattle.nx_gen.proofs.document.document.Goals as goal

pub loop-number-preserved : goal.loop-number-preserved
loop-number-preserved c =
    made_more c.args.n c.args.draws.now.state c.loop-number.number c.loop-number.draws.state c.numbered_element.new.draws.state c.loop-number.elements c.push.new.self c.in_ok-numbered_element.field-0
    c.loop-number-test.true c.loop-number.invariant c.in_ok-numbered_element.ensures.tree c.in_ok-numbered_element.ensures.state c.in_ok-push.ensures.ok
