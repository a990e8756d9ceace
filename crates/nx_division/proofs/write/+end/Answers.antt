use Rattle.std.proofs.Common.{◌+◌, ◌≤◌, length, get_or, ◌∙◌, arith}
use Rattle.nx_division.specs.declared.cut.Cut.TheVariants.{Stays}
use Rattle.nx_division.proofs.SpotLemmas.{beside_flat, rest_len}
use Rattle.nx_division.proofs.DrawnLemmas.{cut_apart, cuts_below, cuts_beside, end_none, end_goes}
use Rattle.nx_division.proofs.write.+end.Goals as goal

pub returns-in_default : goal.returns-in_default
returns-in_default t c = end_none c.args.spots.now c.args.cuts.now c.args.last c.in_default.ensures.cases

pub end-requires : goal.end-requires
end-requires t c =
    let flat = c.requires.flat in
    let shorter = c.in-Some.ensures.shorter in
    (omega arith, (beside_flat c.in-Some.spot.now c.in-Some.below.now c.in-Some.beside.now flat.sketch (c.in-Some.ensures.cases flat.sketch flat.is) flat.small, rest_len c.args.cuts.now (length c.in-Some.below.now) (length c.in-Some.beside.now) (c.requires.len ∙ shorter)))

pub returns-in-GoesOn : goal.returns-in-GoesOn
returns-in-GoesOn t c = λ s is.
    let shorter = c.in-Some.ensures.shorter in
    let len = c.requires.len in
    let within : 1 + length c.in-Some.below.now ≤ length c.args.cuts.now = omega arith in
    let apart = cut_apart c.args.cuts.now Stays c.in-Some.below.now within in
    end_goes c.in-Some.spot.now c.in-Some.below.now c.in-Some.beside.now c.args.cuts.now (get_or c.args.cuts.now 0 Stays) (cuts_below c.args.cuts.now c.in-Some.below.now) (cuts_beside c.args.cuts.now c.in-Some.below.now) apart c.args.last c.end.result c.in-GoesOn.is c.end.ensures s (c.in-Some.ensures.cases s is)
