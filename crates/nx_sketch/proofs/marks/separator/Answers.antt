use Rattle.std.proofs.Common.{ℕ, ap, ◌∙◌, arith}
use Rattle.nx_sketch.specs.Sketch.{placed}
use Rattle.nx_sketch.specs.Separator.{marks}
use Rattle.nx_sketch.proofs.MarkLemmas.{weight_small, marks_all, all_marked}
use Rattle.nx_sketch.proofs.marks.separator.Goals as goal

pub is_marked-requires-clause-before : goal.is_marked-requires-clause-before
is_marked-requires-clause-before c =
    let small = weight_small c.args.spots.now c.requires in
    let left = c.loop-spot.invariant.left in
    omega arith

pub overflow_add-before : goal.overflow_add-before
overflow_add-before c =
    let small = weight_small c.args.spots.now c.requires in
    let left = c.loop-spot.invariant.left in
    let w = c.from-before.ensures in
    omega arith

pub returns : goal.returns
returns c = λ s is r.
    let t = c.point-t.result in
    all_marked t c.args.tolerance c.args.spots.now c.loop-spot.spot-index c.loop-spot.before c.loop-spot.found c.loop-spot.invariant c.loop-spot-test.false
    ∙ marks_all t c.args.tolerance s c.args.spots.now is r
    ∙ ap (λ (n : ℕ). marks (placed s) n c.args.tolerance) (c.point-t.ensures s is)
