use Rattle.std.proofs.Common.{◌≡◌, ◌+◌, length, sym, ◌∙◌, refl, arith}
use Rattle.nx_division.specs.declared.cut.Cut.TheVariants.{Stays}
use Rattle.nx_division.proofs.SpotLemmas.{below_flat, begun, begun_len, mid_len, rest_len, whole}
use Rattle.nx_division.proofs.CoreLemmas.{below_ready, beside_ready, flat_ready, own_light, own_small}
use Rattle.nx_division.proofs.SettleLemmas.{left_small, settle_kept, settle_none, settle_stood, stood_light}
use Rattle.nx_division.proofs.settle.+settle.Goals as goal

pub parts-requires : goal.parts-requires
parts-requires t c = flat_ready c.args.k c.args.keep c.args.spots.now c.requires.ready

pub returns-in_default : goal.returns-in_default
returns-in_default t c = settle_none c.args.k c.args.keep c.args.row c.args.room c.args.spots.now c.args.cuts.now c.requires.row c.in_default.ensures.cases

pub settle-room-requires : goal.settle-room-requires
settle-room-requires t c =
    let ready = c.requires.ready in
    let shorter = c.in-Some.ensures.shorter in
    let n = length c.in-Some.below.now in
    let m = length c.in-Some.beside.now in
    let cuts : length c.args.cuts.now ≡ 1 + n + m = c.requires.len ∙ shorter in
    (omega arith, (c.requires.k, (tt, (below_ready c.args.k c.args.keep c.args.spots.now c.in-Some.spot.now c.in-Some.below.now c.in-Some.beside.now ready.sketch (c.in-Some.ensures.cases ready.sketch ready.is) ready.small ready.tops, mid_len c.args.cuts.now n m cuts))))

pub settle-requires : goal.settle-requires
settle-requires t c =
    let ready = c.requires.ready in
    let shorter = c.in-Some.ensures.shorter in
    let n = length c.in-Some.below.now in
    let m = length c.in-Some.beside.now in
    let cuts : length c.args.cuts.now ≡ 1 + n + m = c.requires.len ∙ shorter in
    let xs : length c.settle-room.new.cuts ≡ n = c.settle-room.auto.cuts ∙ mid_len c.args.cuts.now n m cuts in
    let row = begun c.args.cuts.now c.settle-room.new.cuts Stays n in
    (omega arith, (c.requires.k, (tt, (beside_ready c.args.k c.args.keep c.args.spots.now c.in-Some.spot.now c.in-Some.below.now c.in-Some.beside.now ready.sketch (c.in-Some.ensures.cases ready.sketch ready.is) ready.small ready.tops, rest_len row n m (begun_len c.args.cuts.now c.settle-room.new.cuts Stays n m cuts xs)))))

pub returns-then-stays : goal.returns-then-stays
returns-then-stays t c = λ s is tops.
    let shorter = c.in-Some.ensures.shorter in
    let n = length c.in-Some.below.now in
    let m = length c.in-Some.beside.now in
    let cuts : length c.args.cuts.now ≡ 1 + n + m = c.requires.len ∙ shorter in
    let xs : length c.settle-room.new.cuts ≡ n = c.settle-room.auto.cuts ∙ mid_len c.args.cuts.now n m cuts in
    settle_kept c.args.k c.args.keep c.args.row c.args.room c.in-Some.spot.now c.in-Some.below.now c.in-Some.beside.now c.settle-room.new.cuts c.settle.new.cuts _ c.requires.row xs
    c.settle-room.result c.settle.result (sym c.stays.ensures ∙ c.if-stays.true) (whole c.args.cuts.now c.settle-room.new.cuts c.settle.new.cuts Stays n m cuts xs) c.settle-room.ensures c.settle.ensures s (c.in-Some.ensures.cases s is) tops

pub core-requires : goal.core-requires
core-requires t c =
    let ready = c.requires.ready in
    below_flat c.in-Some.spot.now c.in-Some.below.now c.in-Some.beside.now ready.sketch (c.in-Some.ensures.cases ready.sketch ready.is) ready.small

pub overflow_add-own : goal.overflow_add-own
overflow_add-own t c =
    let ready = c.requires.ready in
    let small = own_small c.args.keep c.in-Some.spot.now c.in-Some.below.now c.in-Some.beside.now c.core.result c.core.ensures ready.sketch (c.in-Some.ensures.cases ready.sketch ready.is) ready.small in
    omega arith

pub overflow_sub-k : goal.overflow_sub-k
overflow_sub-k t c =
    let ready = c.requires.ready in
    own_light c.args.k c.args.keep c.args.spots.now c.in-Some.spot.now c.in-Some.below.now c.in-Some.beside.now c.core.result c.core.ensures (sym c.stays.ensures ∙ c.if-stays.false) ready.sketch (c.in-Some.ensures.cases ready.sketch ready.is) ready.tops

pub settle-left-requires : goal.settle-left-requires
settle-left-requires t c =
    let ready = c.requires.ready in
    let shorter = c.in-Some.ensures.shorter in
    let n = length c.in-Some.below.now in
    let m = length c.in-Some.beside.now in
    let cuts : length c.args.cuts.now ≡ 1 + n + m = c.requires.len ∙ shorter in
    (omega arith, (c.requires.k, (tt, (below_ready c.args.k c.args.keep c.args.spots.now c.in-Some.spot.now c.in-Some.below.now c.in-Some.beside.now ready.sketch (c.in-Some.ensures.cases ready.sketch ready.is) ready.small ready.tops, mid_len c.args.cuts.now n m cuts))))

pub overflow_sub-k-2 : goal.overflow_sub-k-2
overflow_sub-k-2 t c =
    let ready = c.requires.ready in
    let part = c.in-Some.ensures.cases ready.sketch ready.is in
    let light = own_light c.args.k c.args.keep c.args.spots.now c.in-Some.spot.now c.in-Some.below.now c.in-Some.beside.now c.core.result c.core.ensures (sym c.stays.ensures ∙ c.if-stays.false) ready.sketch part ready.tops in
    left_small c.args.k c.args.keep c.in-Some.spot.now c.in-Some.below.now c.in-Some.beside.now c.settle-left.new.cuts c.core.result c.settle-left.result c.core.ensures light c.settle-left.ensures ready.sketch part ready.tops

pub settle-requires-2 : goal.settle-requires-2
settle-requires-2 t c =
    let ready = c.requires.ready in
    let shorter = c.in-Some.ensures.shorter in
    let n = length c.in-Some.below.now in
    let m = length c.in-Some.beside.now in
    let cuts : length c.args.cuts.now ≡ 1 + n + m = c.requires.len ∙ shorter in
    let xs : length c.settle-left.new.cuts ≡ n = c.settle-left.auto.cuts ∙ mid_len c.args.cuts.now n m cuts in
    let row = begun c.args.cuts.now c.settle-left.new.cuts c.place-stand.result.cut n in
    let light = stood_light c.args.k c.args.room c.args.row c.in-Some.spot.now.entry c.in-Some.spot.now.position _ c.place-stand.result.cut c.place-stand.result.room c.place-stand.result.row (omega arith) c.place-stand.ensures in
    (omega arith, (c.requires.k, (light, (beside_ready c.args.k c.args.keep c.args.spots.now c.in-Some.spot.now c.in-Some.below.now c.in-Some.beside.now ready.sketch (c.in-Some.ensures.cases ready.sketch ready.is) ready.small ready.tops, rest_len row n m (begun_len c.args.cuts.now c.settle-left.new.cuts c.place-stand.result.cut n m cuts xs)))))

pub returns : goal.returns
returns t c = λ s is tops.
    let ready = c.requires.ready in
    let part = c.in-Some.ensures.cases ready.sketch ready.is in
    let shorter = c.in-Some.ensures.shorter in
    let n = length c.in-Some.below.now in
    let m = length c.in-Some.beside.now in
    let cuts : length c.args.cuts.now ≡ 1 + n + m = c.requires.len ∙ shorter in
    let xs : length c.settle-left.new.cuts ≡ n = c.settle-left.auto.cuts ∙ mid_len c.args.cuts.now n m cuts in
    let goes_own = sym c.stays.ensures ∙ c.if-stays.false in
    let light = own_light c.args.k c.args.keep c.args.spots.now c.in-Some.spot.now c.in-Some.below.now c.in-Some.beside.now c.core.result c.core.ensures goes_own ready.sketch part ready.tops in
    settle_stood c.args.k c.args.keep c.args.row c.args.room c.in-Some.spot.now c.in-Some.below.now c.in-Some.beside.now c.settle-left.new.cuts c.settle-2.new.cuts _ c.requires.row xs
    c.place-stand.result.cut _ c.core.result c.settle-left.result _ c.place-stand.result.room c.settle-2.result c.place-stand.result.row goes_own (whole c.args.cuts.now c.settle-left.new.cuts c.settle-2.new.cuts c.place-stand.result.cut n m cuts xs) c.core.ensures light refl refl
    c.settle-left.ensures c.place-stand.ensures c.settle-2.ensures s (c.in-Some.ensures.cases s is) tops
