use Rattle.std.proofs.Common.{arith}
use Rattle.nx_division.proofs.CoreLemmas.{core-sketch_weight}
use Rattle.nx_division.proofs.settle.own_light.Goals as goal

pub overflow_add-result : goal.overflow_add-result
overflow_add-result c =
    let e = c.core.ensures c.requires.flat.sketch c.requires.flat.is in
    let le = core-sketch_weight c.args.keep c.requires.flat.sketch in
    let small = c.requires.flat.small in
    let own = c.requires.small in
    omega arith
