use Rattle.std.proofs.Common.{◌≡◌, ◌+◌, ◌^◌, false, nat_le, None, length, ap, ◌∙◌, arith}
use Rattle.nx_division.specs.Separated.{mark_by, separated}
use Rattle.nx_division.proofs.SpotLemmas.{below_flat, beside_flat, begun, begun_len, mid_len, rest_len, whole}
use Rattle.nx_division.proofs.SeparateLemmas.{parts_room, separate_none, separate_parts}
use Rattle.nx_division.proofs.separate.+separate.Goals as goal

pub separate-requires : goal.separate-requires
separate-requires t c =
    let flat = c.requires.flat in
    let part = c.in-Some.ensures.cases flat.sketch flat.is in
    let shorter = c.in-Some.ensures.shorter in
    let room = parts_room c.args.before (2 ^ 62) c.args.spots.now c.in-Some.spot.now c.in-Some.below.now c.in-Some.beside.now flat.sketch flat.is part c.requires.room in
    let r = room.0 in
    let w = c.from.ensures in
    (omega arith, (below_flat c.in-Some.spot.now c.in-Some.below.now c.in-Some.beside.now flat.sketch part flat.small, (mid_len c.args.cuts.now (length c.in-Some.below.now) (length c.in-Some.beside.now) (c.requires.len ∙ shorter), omega arith)))

pub separate-requires-2 : goal.separate-requires-2
separate-requires-2 t c =
    let flat = c.requires.flat in
    let part = c.in-Some.ensures.cases flat.sketch flat.is in
    let shorter = c.in-Some.ensures.shorter in
    let n = length c.in-Some.below.now in
    let m = length c.in-Some.beside.now in
    let cuts : length c.args.cuts.now ≡ 1 + n + m = c.requires.len ∙ shorter in
    let xs : length c.separate.new.cuts ≡ n = c.separate.auto.cuts ∙ mid_len c.args.cuts.now n m cuts in
    let room = parts_room c.args.before (2 ^ 62) c.args.spots.now c.in-Some.spot.now c.in-Some.below.now c.in-Some.beside.now flat.sketch flat.is part c.requires.room in
    let r = room.1 in
    let w = c.from-within.ensures in
    (omega arith, (beside_flat c.in-Some.spot.now c.in-Some.below.now c.in-Some.beside.now flat.sketch part flat.small, (rest_len (begun c.args.cuts.now c.separate.new.cuts c.cut_of.result n) n m (begun_len c.args.cuts.now c.separate.new.cuts c.cut_of.result n m cuts xs), omega arith)))

pub returns-in_default : goal.returns-in_default
returns-in_default t c = separate_none c.args.t c.args.tolerance c.args.before c.args.root c.args.wide c.args.side c.args.spots.now c.args.cuts.now c.in_default.ensures.cases

pub returns : goal.returns
returns t c = λ s is.
    let shorter = c.in-Some.ensures.shorter in
    let n = length c.in-Some.below.now in
    let m = length c.in-Some.beside.now in
    let cuts : length c.args.cuts.now ≡ 1 + n + m = c.requires.len ∙ shorter in
    let xs : length c.separate.new.cuts ≡ n = c.separate.auto.cuts ∙ mid_len c.args.cuts.now n m cuts in
    let w = whole c.args.cuts.now c.separate.new.cuts c.separate-2.new.cuts c.cut_of.result n m cuts xs in
    let before = c.args.before in
    let marked = c.is_marked-marked.ensures ∙ ap (mark_by c.args.t c.args.tolerance before) c.from-within.ensures in
    separate_parts c.args.t c.args.tolerance before c.args.root c.args.wide c.args.side c.in-Some.spot.now c.in-Some.below.now c.in-Some.beside.now c.separate.new.cuts c.separate-2.new.cuts _ c.cut_of.result c.is_marked-marked.result _ c.new-kind.result
    xs w marked (λ i. nat_le (before + c.from-within.ensures i) c.args.t) c.new-kind.ensures c.cut_of.ensures
    (λ u e. c.separate.ensures u e ∙ ap (λ n. separated c.args.t c.args.tolerance (before + n) false c.is_marked-marked.result None u) c.from.ensures)
    (λ u e. c.separate-2.ensures u e ∙ (λ i. separated c.args.t c.args.tolerance (before + c.from-within.ensures i) c.args.root c.args.wide (c.side_of-side.ensures i) u))
    s (c.in-Some.ensures.cases s is)
