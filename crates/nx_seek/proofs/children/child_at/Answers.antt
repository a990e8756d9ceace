use Rattle.std.proofs.Common.{arith}
use Rattle.nx_seek.proofs.ChildLemmas.{child_then, still_fits, children_go_on, children_end}
use Rattle.nx_seek.proofs.children.child_at.Goals as goal

pub returns-in-None : goal.returns-in-None
returns-in-None c f tail all stands wide are fits =
    let h = c.loop.invariant f tail all stands wide are fits in
    c.in-None.ensures h.last tail all h.stands (let w = h.wide in let more = c.loop-test.true in omega arith) are (still_fits h fits)

pub returns-in-Some-Found : goal.returns-in-Some-Found
returns-in-Some-Found c f tail all stands wide are fits =
    let h = c.loop.invariant f tail all stands wide are fits in
    child_then c.in-Some-Found.child h.on
    ((rw c.in-Some-Found.field-0-is at c.in-Some-Found.ensures) h.last tail all h.stands (let w = h.wide in let more = c.loop-test.true in omega arith) are (still_fits h fits))

pub loop-preserved : goal.loop-preserved
loop-preserved c f tail all stands wide are fits =
    let h = c.loop.invariant f tail all stands wide are fits in
    children_go_on h ((rw c.in-Some-On.field-0-is at c.in-Some-On.ensures) h.last tail all h.stands (let w = h.wide in let more = c.loop-test.true in omega arith) are (still_fits h fits))

pub returns : goal.returns
returns c f tail all stands wide are fits =
    let h = c.loop.invariant f tail all stands wide are fits in
    children_end h (let end = c.loop-test.false in omega arith)
