use Rattle.std.proofs.Common.{◌*◌, ◌/◌, ap, ◌∙◌, arith}
use Rattle.nx_sketch.proofs.MarkLemmas.{weight_small, point_is, small_product}
use Rattle.nx_sketch.proofs.marks.point.Goals as goal

pub weight-requires : goal.weight-requires
weight-requires c = weight_small c.args.spots.now c.requires

pub overflow_mul-result : goal.overflow_mul-result
overflow_mul-result c =
    let small = weight_small c.args.spots.now c.requires in
    let e = c.weight.ensures in
    let w = c.from.ensures in
    let t = c.from-2.ensures in
    let p = small_product c.from.result c.from-2.result (omega arith) (omega arith) in
    omega arith

pub returns : goal.returns
returns c = λ s is.
    (λ i. c.from.ensures i * c.from-2.ensures i / 100)
    ∙ ap (λ n. n * c.args.target / 100) c.weight.ensures
    ∙ point_is s c.args.spots.now c.args.target is
