use Rattle.std.proofs.Common.{◌≡◌, ◌+◌, ◌-◌, ◌≤◌, ◌^◌, length, get_or, slice_set, refl, ap, sym, ◌∙◌, arith, true, false}
use borrow.Rule.Slice.PartMut.{put_mid}
use Rattle.nx_division.specs.declared.cut.Cut.TheVariants.{Stays}
use Rattle.nx_division.specs.Drawn.{drawn}
use Rattle.nx_division.specs.Separated.{mark_by}
use Rattle.nx_division.specs.Raised.{raised_root, raised_plan}
use Rattle.nx_division.proofs.SpotLemmas.{below_flat, beside_flat, mid_len, rest_len}
use Rattle.nx_division.proofs.DrawnLemmas.{AreCut, cut_apart, cuts_below, cuts_beside}
use Rattle.nx_division.proofs.SeparateLemmas.{parts_room}
use Rattle.nx_division.proofs.RaiseLemmas.{root_none, plan_none, put_rest, passed_root, passed_plan, kept_root, kept_plan, joined_root, joined_plan, load_fits}
use Rattle.nx_division.proofs.raise.+raise.Goals as goal

pub returns-in_default-clause-root : goal.returns-in_default-clause-root
returns-in_default-clause-root t c = root_none c.args.room c.args.t c.args.tolerance c.args.before c.args.spots.now c.args.cuts.now c.in_default.ensures.cases

pub returns-in_default-clause-plan : goal.returns-in_default-clause-plan
returns-in_default-clause-plan t c = plan_none c.args.room c.args.t c.args.tolerance c.args.before c.args.spots.now c.args.cuts.now c.in_default.ensures.cases

pub raise-requires : goal.raise-requires
raise-requires t c =
    let flat = c.requires.flat in
    let part = c.in-Some.ensures.cases flat.sketch flat.is in
    let shorter = c.in-Some.ensures.shorter in
    let room = parts_room c.args.before (2 ^ 62) c.args.spots.now c.in-Some.spot.now c.in-Some.below.now c.in-Some.beside.now flat.sketch flat.is part c.requires.small in
    let r = room.1 in
    let w = c.from-within.ensures in
    (omega arith, (beside_flat c.in-Some.spot.now c.in-Some.below.now c.in-Some.beside.now flat.sketch part flat.small, (rest_len c.args.cuts.now (length c.in-Some.below.now) (length c.in-Some.beside.now) (c.requires.len ∙ shorter), omega arith)))

pub returns-then-not-is_marked-clause-root : goal.returns-then-not-is_marked-clause-root
returns-then-not-is_marked-clause-root t c = λ s is.
    let shorter = c.in-Some.ensures.shorter in
    let len = c.requires.len in
    let within : 1 + length c.in-Some.below.now ≤ length c.args.cuts.now = omega arith in
    let apart = cut_apart c.args.cuts.now Stays c.in-Some.below.now within in
    let other : mark_by c.args.t c.args.tolerance c.args.before c.in-Some.spot.now.within ≡ false = ap (mark_by c.args.t c.args.tolerance c.args.before) (sym c.from-within.ensures) ∙ sym c.is_marked.ensures ∙ c.if-not-is_marked.true in
    passed_root c.args.room c.args.t c.args.tolerance c.args.before c.in-Some.spot.now c.in-Some.below.now c.in-Some.beside.now c.args.cuts.now (get_or c.args.cuts.now 0 Stays) (cuts_below c.args.cuts.now c.in-Some.below.now) (cuts_beside c.args.cuts.now c.in-Some.below.now) apart c.raise.result other
    (λ u e. c.raise.ensures.root u e ∙ ap (λ n. raised_root c.args.room c.args.t c.args.tolerance (c.args.before + n) (drawn u (cuts_beside c.args.cuts.now c.in-Some.below.now))) c.from-within.ensures) s (c.in-Some.ensures.cases s is)

pub returns-then-not-is_marked-clause-plan : goal.returns-then-not-is_marked-clause-plan
returns-then-not-is_marked-clause-plan t c = λ s is.
    let shorter = c.in-Some.ensures.shorter in
    let len = c.requires.len in
    let within : 1 + length c.in-Some.below.now ≤ length c.args.cuts.now = omega arith in
    let apart = cut_apart c.args.cuts.now Stays c.in-Some.below.now within in
    let other : mark_by c.args.t c.args.tolerance c.args.before c.in-Some.spot.now.within ≡ false = ap (mark_by c.args.t c.args.tolerance c.args.before) (sym c.from-within.ensures) ∙ sym c.is_marked.ensures ∙ c.if-not-is_marked.true in
    let n = length c.in-Some.below.now in
    let now = put_mid (1 + n) (length c.args.cuts.now - (1 + n)) c.args.cuts.now c.raise.new.cuts in
    let after : AreCut now (get_or c.args.cuts.now 0 Stays) (cuts_below c.args.cuts.now c.in-Some.below.now) c.raise.new.cuts c.in-Some.below.now = record {
      cuts_are = put_rest c.args.cuts.now (cuts_below c.args.cuts.now c.in-Some.below.now) (cuts_beside c.args.cuts.now c.in-Some.below.now) c.raise.new.cuts (get_or c.args.cuts.now 0 Stays) (length c.in-Some.below.now) apart.cuts_are apart.many;
      many = apart.many;
    } in
    passed_plan c.args.room c.args.t c.args.tolerance c.args.before c.in-Some.spot.now c.in-Some.below.now c.in-Some.beside.now c.args.cuts.now (get_or c.args.cuts.now 0 Stays) (cuts_below c.args.cuts.now c.in-Some.below.now) (cuts_beside c.args.cuts.now c.in-Some.below.now) apart _ c.raise.new.cuts after other
    (λ u e. c.raise.ensures.plan u e ∙ ap (λ n. raised_plan c.args.room c.args.t c.args.tolerance (c.args.before + n) (drawn u (cuts_beside c.args.cuts.now c.in-Some.below.now))) c.from-within.ensures) s (c.in-Some.ensures.cases s is)

pub overflow_add-load : goal.overflow_add-load
overflow_add-load t c =
    let flat = c.requires.flat in
    let fits = load_fits c.in-Some.spot.now c.in-Some.below.now c.in-Some.beside.now (cuts_below c.args.cuts.now c.in-Some.below.now) c.weigh.result.left c.weigh.result.goes c.weigh.result.heaviest flat.sketch (c.in-Some.ensures.cases flat.sketch flat.is) flat.small c.weigh.ensures in
    omega arith

pub returns-then-not-may_join-clause-root : goal.returns-then-not-may_join-clause-root
returns-then-not-may_join-clause-root t c = λ s is.
    let shorter = c.in-Some.ensures.shorter in
    let len = c.requires.len in
    let within : 1 + length c.in-Some.below.now ≤ length c.args.cuts.now = omega arith in
    let apart = cut_apart c.args.cuts.now Stays c.in-Some.below.now within in
    let marked : mark_by c.args.t c.args.tolerance c.args.before c.in-Some.spot.now.within ≡ true = ap (mark_by c.args.t c.args.tolerance c.args.before) (sym c.from-within.ensures) ∙ sym c.is_marked.ensures ∙ c.if-not-is_marked.false in
    kept_root c.args.room c.args.t c.args.tolerance c.args.before c.in-Some.spot.now c.in-Some.below.now c.in-Some.beside.now c.args.cuts.now (get_or c.args.cuts.now 0 Stays) (cuts_below c.args.cuts.now c.in-Some.below.now) (cuts_beside c.args.cuts.now c.in-Some.below.now) apart (c.in-Some.spot.now.weight + c.weigh.result.left) c.weigh.result.left c.weigh.result.goes c.weigh.result.heaviest c.weigh.ensures refl marked (sym c.may_join.ensures ∙ c.if-not-may_join.true) s (c.in-Some.ensures.cases s is)

pub returns-then-not-may_join-clause-plan : goal.returns-then-not-may_join-clause-plan
returns-then-not-may_join-clause-plan t c = λ s is.
    let shorter = c.in-Some.ensures.shorter in
    let len = c.requires.len in
    let within : 1 + length c.in-Some.below.now ≤ length c.args.cuts.now = omega arith in
    let apart = cut_apart c.args.cuts.now Stays c.in-Some.below.now within in
    let marked : mark_by c.args.t c.args.tolerance c.args.before c.in-Some.spot.now.within ≡ true = ap (mark_by c.args.t c.args.tolerance c.args.before) (sym c.from-within.ensures) ∙ sym c.is_marked.ensures ∙ c.if-not-is_marked.false in
    kept_plan c.args.room c.args.t c.args.tolerance c.args.before c.in-Some.spot.now c.in-Some.below.now c.in-Some.beside.now c.args.cuts.now (get_or c.args.cuts.now 0 Stays) (cuts_below c.args.cuts.now c.in-Some.below.now) (cuts_beside c.args.cuts.now c.in-Some.below.now) apart (c.in-Some.spot.now.weight + c.weigh.result.left) c.weigh.result.left c.weigh.result.goes c.weigh.result.heaviest c.weigh.ensures refl marked (sym c.may_join.ensures ∙ c.if-not-may_join.true) s (c.in-Some.ensures.cases s is)

pub returns-clause-root : goal.returns-clause-root
returns-clause-root t c = λ s is.
    let shorter = c.in-Some.ensures.shorter in
    let len = c.requires.len in
    let within : 1 + length c.in-Some.below.now ≤ length c.args.cuts.now = omega arith in
    let apart = cut_apart c.args.cuts.now Stays c.in-Some.below.now within in
    let marked : mark_by c.args.t c.args.tolerance c.args.before c.in-Some.spot.now.within ≡ true = ap (mark_by c.args.t c.args.tolerance c.args.before) (sym c.from-within.ensures) ∙ sym c.is_marked.ensures ∙ c.if-not-is_marked.false in
    joined_root c.args.room c.args.t c.args.tolerance c.args.before c.in-Some.spot.now c.in-Some.below.now c.in-Some.beside.now c.args.cuts.now (get_or c.args.cuts.now 0 Stays) (cuts_below c.args.cuts.now c.in-Some.below.now) (cuts_beside c.args.cuts.now c.in-Some.below.now) apart (c.in-Some.spot.now.weight + c.weigh.result.left) c.weigh.result.left c.weigh.result.goes c.weigh.result.heaviest c.weigh.ensures refl marked (sym c.may_join.ensures ∙ c.if-not-may_join.false) s (c.in-Some.ensures.cases s is)

pub returns-clause-plan : goal.returns-clause-plan
returns-clause-plan t c = λ s is.
    let shorter = c.in-Some.ensures.shorter in
    let len = c.requires.len in
    let within : 1 + length c.in-Some.below.now ≤ length c.args.cuts.now = omega arith in
    let apart = cut_apart c.args.cuts.now Stays c.in-Some.below.now within in
    let marked : mark_by c.args.t c.args.tolerance c.args.before c.in-Some.spot.now.within ≡ true = ap (mark_by c.args.t c.args.tolerance c.args.before) (sym c.from-within.ensures) ∙ sym c.is_marked.ensures ∙ c.if-not-is_marked.false in
    let after : AreCut (slice_set c.args.cuts.now 0 Stays) Stays (cuts_below c.args.cuts.now c.in-Some.below.now) (cuts_beside c.args.cuts.now c.in-Some.below.now) c.in-Some.below.now =
    record { cuts_are = ap (λ cuts. slice_set cuts 0 Stays) apart.cuts_are; many = apart.many } in
    joined_plan c.args.room c.args.t c.args.tolerance c.args.before c.in-Some.spot.now c.in-Some.below.now c.in-Some.beside.now c.args.cuts.now (get_or c.args.cuts.now 0 Stays) (cuts_below c.args.cuts.now c.in-Some.below.now) (cuts_beside c.args.cuts.now c.in-Some.below.now) apart (c.in-Some.spot.now.weight + c.weigh.result.left) c.weigh.result.left c.weigh.result.goes c.weigh.result.heaviest c.weigh.ensures refl marked _ after (sym c.may_join.ensures ∙ c.if-not-may_join.false) s (c.in-Some.ensures.cases s is)
