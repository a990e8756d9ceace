use Rattle.std.proofs.Common.{◌≡◌, ◌+◌, ◌≤◌, length, get_or, ◌∙◌, arith}
use Rattle.nx_division.specs.declared.cut.Cut.TheVariants.{Stays, Begins, GoesOn}
use Rattle.nx_division.proofs.SpotLemmas.{below_flat, beside_flat, mid_len, rest_len}
use Rattle.nx_division.proofs.DrawnLemmas.{IsTakenApart, cut_apart, cuts_below, cuts_beside, weigh_none, weigh_stays, weigh_begins, weigh_goes, sums_fit}
use Rattle.nx_division.proofs.weigh.+weigh.Goals as goal

pub weigh-inner-requires : goal.weigh-inner-requires
weigh-inner-requires t c =
    let flat = c.requires.flat in
    let shorter = c.in-Some.ensures.shorter in
    (omega arith, (below_flat c.in-Some.spot.now c.in-Some.below.now c.in-Some.beside.now flat.sketch (c.in-Some.ensures.cases flat.sketch flat.is) flat.small, mid_len c.args.cuts.now (length c.in-Some.below.now) (length c.in-Some.beside.now) (c.requires.len ∙ shorter)))

pub weigh-others-requires : goal.weigh-others-requires
weigh-others-requires t c =
    let flat = c.requires.flat in
    let shorter = c.in-Some.ensures.shorter in
    (omega arith, (beside_flat c.in-Some.spot.now c.in-Some.below.now c.in-Some.beside.now flat.sketch (c.in-Some.ensures.cases flat.sketch flat.is) flat.small, rest_len c.args.cuts.now (length c.in-Some.below.now) (length c.in-Some.beside.now) (c.requires.len ∙ shorter)))

pub returns-in_default : goal.returns-in_default
returns-in_default t c = weigh_none c.args.spots.now c.args.cuts.now c.in_default.ensures.cases

pub overflow_add-own : goal.overflow_add-own
overflow_add-own t c =
    let parts : IsTakenApart c.args.spots.now c.args.cuts.now c.in-Some.spot.now c.in-Some.below.now c.in-Some.beside.now =
    record { flat = c.requires.flat; cases = c.in-Some.ensures.cases; shorter = c.in-Some.ensures.shorter; len = c.requires.len } in
    let small = sums_fit parts c.weigh-inner.ensures c.weigh-others.ensures in
    let x = small.0 in
    let y = small.1 in
    omega arith

pub overflow_add-result : goal.overflow_add-result
overflow_add-result t c =
    let parts : IsTakenApart c.args.spots.now c.args.cuts.now c.in-Some.spot.now c.in-Some.below.now c.in-Some.beside.now =
    record { flat = c.requires.flat; cases = c.in-Some.ensures.cases; shorter = c.in-Some.ensures.shorter; len = c.requires.len } in
    let small = sums_fit parts c.weigh-inner.ensures c.weigh-others.ensures in
    let x = small.0 in
    let y = small.1 in
    omega arith

pub overflow_add-own-in-Begins : goal.overflow_add-own-in-Begins
overflow_add-own-in-Begins t c =
    let parts : IsTakenApart c.args.spots.now c.args.cuts.now c.in-Some.spot.now c.in-Some.below.now c.in-Some.beside.now =
    record { flat = c.requires.flat; cases = c.in-Some.ensures.cases; shorter = c.in-Some.ensures.shorter; len = c.requires.len } in
    let small = sums_fit parts c.weigh-inner.ensures c.weigh-others.ensures in
    let x = small.0 in
    let y = small.1 in
    omega arith

pub overflow_add-result-in-GoesOn : goal.overflow_add-result-in-GoesOn
overflow_add-result-in-GoesOn t c =
    let parts : IsTakenApart c.args.spots.now c.args.cuts.now c.in-Some.spot.now c.in-Some.below.now c.in-Some.beside.now =
    record { flat = c.requires.flat; cases = c.in-Some.ensures.cases; shorter = c.in-Some.ensures.shorter; len = c.requires.len } in
    let small = sums_fit parts c.weigh-inner.ensures c.weigh-others.ensures in
    let x = small.0 in
    let y = small.1 in
    omega arith

pub returns-in-Stays : goal.returns-in-Stays
returns-in-Stays t c = λ s is.
    let flat = c.requires.flat in
    let shorter = c.in-Some.ensures.shorter in
    let len = c.requires.len in
    let within : 1 + length c.in-Some.below.now ≤ length c.args.cuts.now = omega arith in
    let apart = cut_apart c.args.cuts.now Stays c.in-Some.below.now within in
    let it : get_or c.args.cuts.now 0 Stays ≡ Stays = c.in-Stays.is in
    rw c.max-heaviest.ensures (weigh_stays c.in-Some.spot.now c.in-Some.below.now c.in-Some.beside.now c.args.cuts.now (get_or c.args.cuts.now 0 Stays) (cuts_below c.args.cuts.now c.in-Some.below.now) (cuts_beside c.args.cuts.now c.in-Some.below.now) _ _ _ _ _ _ apart c.weigh-inner.ensures c.weigh-others.ensures it s (c.in-Some.ensures.cases s is))

pub returns-in-Begins : goal.returns-in-Begins
returns-in-Begins t c = λ s is.
    let flat = c.requires.flat in
    let shorter = c.in-Some.ensures.shorter in
    let len = c.requires.len in
    let within : 1 + length c.in-Some.below.now ≤ length c.args.cuts.now = omega arith in
    let apart = cut_apart c.args.cuts.now Stays c.in-Some.below.now within in
    let it : get_or c.args.cuts.now 0 Stays ≡ Begins = c.in-Begins.is in
    rw (c.max.ensures, c.max-heaviest.ensures) (weigh_begins c.in-Some.spot.now c.in-Some.below.now c.in-Some.beside.now c.args.cuts.now (get_or c.args.cuts.now 0 Stays) (cuts_below c.args.cuts.now c.in-Some.below.now) (cuts_beside c.args.cuts.now c.in-Some.below.now) _ _ _ _ _ _ apart c.weigh-inner.ensures c.weigh-others.ensures it s (c.in-Some.ensures.cases s is))

pub returns-in-GoesOn : goal.returns-in-GoesOn
returns-in-GoesOn t c = λ s is.
    let flat = c.requires.flat in
    let shorter = c.in-Some.ensures.shorter in
    let len = c.requires.len in
    let within : 1 + length c.in-Some.below.now ≤ length c.args.cuts.now = omega arith in
    let apart = cut_apart c.args.cuts.now Stays c.in-Some.below.now within in
    let it : get_or c.args.cuts.now 0 Stays ≡ GoesOn = c.in-GoesOn.is in
    rw c.max-heaviest.ensures (weigh_goes c.in-Some.spot.now c.in-Some.below.now c.in-Some.beside.now c.args.cuts.now (get_or c.args.cuts.now 0 Stays) (cuts_below c.args.cuts.now c.in-Some.below.now) (cuts_beside c.args.cuts.now c.in-Some.below.now) _ _ _ _ _ _ apart c.weigh-inner.ensures c.weigh-others.ensures it s (c.in-Some.ensures.cases s is))
