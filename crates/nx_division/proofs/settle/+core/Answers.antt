use Rattle.std.proofs.Common.{sym, ◌∙◌, arith}
use Rattle.nx_division.proofs.SpotLemmas.{below_flat, beside_flat}
use Rattle.nx_division.proofs.CoreLemmas.{core_none, core_stays, core_goes, core_small}
use Rattle.nx_division.proofs.settle.+core.Goals as goal

pub returns-in_default : goal.returns-in_default
returns-in_default t c = core_none c.args.keep c.args.spots.now c.in_default.ensures.cases

pub core-others-requires : goal.core-others-requires
core-others-requires t c =
    let part = c.in-Some.ensures.cases c.requires.sketch c.requires.is in
    let shorter = c.in-Some.ensures.shorter in
    (omega arith, beside_flat c.in-Some.spot.now c.in-Some.below.now c.in-Some.beside.now c.requires.sketch part c.requires.small)

pub core-requires : goal.core-requires
core-requires t c =
    let part = c.in-Some.ensures.cases c.requires.sketch c.requires.is in
    let shorter = c.in-Some.ensures.shorter in
    (omega arith, below_flat c.in-Some.spot.now c.in-Some.below.now c.in-Some.beside.now c.requires.sketch part c.requires.small)

pub overflow_add-result : goal.overflow_add-result
overflow_add-result t c =
    let part = c.in-Some.ensures.cases c.requires.sketch c.requires.is in
    let small = core_small c.args.keep c.in-Some.spot.now c.in-Some.below.now c.in-Some.beside.now c.core.result c.core-others.result c.core.ensures c.core-others.ensures c.requires.sketch part c.requires.small in
    omega arith

pub overflow_add-result-then-stays : goal.overflow_add-result-then-stays
overflow_add-result-then-stays t c =
    let part = c.in-Some.ensures.cases c.requires.sketch c.requires.is in
    let small = core_small c.args.keep c.in-Some.spot.now c.in-Some.below.now c.in-Some.beside.now c.core.result c.core-others.result c.core.ensures c.core-others.ensures c.requires.sketch part c.requires.small in
    omega arith

pub returns-then-stays : goal.returns-then-stays
returns-then-stays t c = λ s is.
    core_stays c.args.keep c.in-Some.spot.now c.in-Some.below.now c.in-Some.beside.now c.core.result c.core-others.result c.core.ensures c.core-others.ensures (sym c.stays.ensures ∙ c.if-stays.true) s (c.in-Some.ensures.cases s is)

pub returns-else-stays : goal.returns-else-stays
returns-else-stays t c = λ s is.
    core_goes c.args.keep c.in-Some.spot.now c.in-Some.below.now c.in-Some.beside.now c.core-others.result c.core-others.ensures (sym c.stays.ensures ∙ c.if-stays.false) s (c.in-Some.ensures.cases s is)
