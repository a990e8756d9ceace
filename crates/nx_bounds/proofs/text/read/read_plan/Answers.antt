use Rattle.std.proofs.Common.{◌≡◌, ◌+◌, Ok, None, Some, sym, ap, ◌∙◌}
use Rattle.nx_pyx.specs.Lines.{lines}
use Rattle.nx_bounds.proofs.PlanLines.{read_none, read_more, read_bad, read_all}
use Rattle.nx_bounds.proofs.PlanLimits.{writable}
use Rattle.nx_bounds.proofs.OnePlan.{same_plan, sound}
use Rattle.nx_bounds.proofs.text.read.read_plan.Goals as goal

pub loop-rest-init : goal.loop-rest-init
loop-rest-init c = read_none c.args.text.now _ c.new.ensures c.new-2.ensures c.new-3.ensures

pub loop-rest-preserved : goal.loop-rest-preserved
loop-rest-preserved c =
    read_more c.args.text.now c.loop-rest.rest.now c.split_line.result.1.now c.split_line.result.0.now c.loop-rest.number c.loop-rest.plan _ c.loop-rest.invariant
    c.split_line.ensures.lines c.split_line.ensures.less
    (λ before say. c.in_ok-take_line.ensures.goes_on before say ∙ c.if-not-branch.false)
    (c.in_ok-take_line.ensures.taken (ap Ok c.if-not-branch.false))

pub returns-then-not-branch-clause-err : goal.returns-then-not-branch-clause-err
returns-then-not-branch-clause-err c =
    read_bad c.args.text.now c.loop-rest.rest.now c.split_line.result.1.now c.split_line.result.0.now c.loop-rest.number c.loop-rest.plan c.loop-rest.invariant
    c.split_line.ensures.lines
    (λ before say. c.in_ok-take_line.ensures.goes_on before say ∙ c.if-not-branch.true)

pub returns-then-not-branch-clause-only : goal.returns-then-not-branch-clause-only
returns-then-not-branch-clause-only c = λ plan reads.
    let bad = read_bad c.args.text.now c.loop-rest.rest.now c.split_line.result.1.now c.split_line.result.0.now c.loop-rest.number c.loop-rest.plan c.loop-rest.invariant
    c.split_line.ensures.lines
    (λ before say. c.in_ok-take_line.ensures.goes_on before say ∙ c.if-not-branch.true) in
    let h : None ≡ Some (c.loop-rest.number + 1) = sym (sound (lines c.args.text.now) plan reads) ∙ bad in
    cc

pub returns-clause-ok : goal.returns-clause-ok
returns-clause-ok c =
    read_all c.args.text.now c.loop-rest.rest.now c.loop-rest.number c.loop-rest.plan c.loop-rest.invariant (sym c.is_empty.ensures ∙ c.loop-rest-test.false)

pub returns-clause-only : goal.returns-clause-only
returns-clause-only c = λ plan reads.
    same_plan (lines c.args.text.now) c.loop-rest.plan plan
    (read_all c.args.text.now c.loop-rest.rest.now c.loop-rest.number c.loop-rest.plan c.loop-rest.invariant (sym c.is_empty.ensures ∙ c.loop-rest-test.false)) reads

pub returns-clause-writable : goal.returns-clause-writable
returns-clause-writable c =
    writable (lines c.args.text.now) c.loop-rest.plan
    (read_all c.args.text.now c.loop-rest.rest.now c.loop-rest.number c.loop-rest.plan c.loop-rest.invariant (sym c.is_empty.ensures ∙ c.loop-rest-test.false))
