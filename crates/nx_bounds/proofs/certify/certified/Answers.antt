use Rattle.std.proofs.Common.{◌≡◌, length, arith}
use Rattle.std.proofs.lemmas.Result.{on_ok_weaker, IfErr-weaker, err_from_is_err_and}
use Rattle.nx_parts.specs.Partitioning.{part_weights}
use Rattle.nx_bounds.proofs.PlanLemmas.{weights_refused_in, as_found_in, bounds_refused, count_refused, plan_certified, length_found}
use Rattle.nx_bounds.proofs.certify.certified.Goals as goal

pub check_weights-requires : goal.check_weights-requires
check_weights-requires c =
    let e : c.as_slice.result.now ≡ part_weights c.args.tree.now c.args.plan.now.parts = cc (c.in_ok-found.ensures.ok.1, c.as_slice.ensures, c.found.view_is) in
    let size : length c.as_slice.result.now ≡ length c.args.plan.now.parts = length_found c.args.tree.now c.args.plan.now.parts c.as_slice.result.now e in
    omega arith

pub returns-in_err-check_weights-clause-err : goal.returns-in_err-check_weights-clause-err
returns-in_err-check_weights-clause-err c =
    let e : c.as_slice.result.now ≡ part_weights c.args.tree.now c.args.plan.now.parts = cc (c.in_ok-found.ensures.ok.1, c.as_slice.ensures, c.found.view_is) in
    let p = err_from_is_err_and c.from_residual-in_err-check_weights.result c.from_residual-in_err-check_weights.ensures.1 in
    rw (p.1, p.2)
    (weights_refused_in c.args.k c.args.tree.now c.args.plan.now c.as_slice.result.now c.as_slice-2.result.now c.in_ok-found.ensures.ok.0 e c.as_slice-2.ensures _ c.in_err-check_weights.ensures.err)

pub returns-in_err-supported-clause-err : goal.returns-in_err-supported-clause-err
returns-in_err-supported-clause-err c =
    let e : c.as_slice.result.now ≡ part_weights c.args.tree.now c.args.plan.now.parts = cc (c.in_ok-found.ensures.ok.1, c.as_slice.ensures, c.found.view_is) in
    let w = as_found_in c.as_slice.result.now c.as_slice-2.result.now c.args.plan.now.weights c.as_slice-2.ensures c.in_ok-check_weights.ensures.ok in
    let p = err_from_is_err_and c.from_residual-in_err-supported.result c.from_residual-in_err-supported.ensures.1 in
    rw (p.1, p.2) (bounds_refused c.args.k c.args.tree.now c.args.plan.now c.as_slice.result.now c.in_ok-found.ensures.ok.0 e w _ c.in_err-supported.ensures.err)

pub returns-clause-ok : goal.returns-clause-ok
returns-clause-ok c =
    let e : c.as_slice.result.now ≡ part_weights c.args.tree.now c.args.plan.now.parts = cc (c.in_ok-found.ensures.ok.1, c.as_slice.ensures, c.found.view_is) in
    let w = as_found_in c.as_slice.result.now c.as_slice-2.result.now c.args.plan.now.weights c.as_slice-2.ensures c.in_ok-check_weights.ensures.ok in
    on_ok_weaker c.check_count.result
    (plan_certified c.args.k c.args.tree.now c.args.plan.now c.as_slice.result.now c.in_ok-found.ensures.ok.0 e w c.in_ok-supported.ensures.ok)
    c.check_count.ensures.ok

pub returns-clause-err : goal.returns-clause-err
returns-clause-err c =
    let e : c.as_slice.result.now ≡ part_weights c.args.tree.now c.args.plan.now.parts = cc (c.in_ok-found.ensures.ok.1, c.as_slice.ensures, c.found.view_is) in
    let w = as_found_in c.as_slice.result.now c.as_slice-2.result.now c.args.plan.now.weights c.as_slice-2.ensures c.in_ok-check_weights.ensures.ok in
    IfErr-weaker c.check_count.result _ _
    (count_refused c.args.k c.args.tree.now c.args.plan.now c.as_slice.result.now c.in_ok-found.ensures.ok.0 e w c.in_ok-supported.ensures.ok)
    c.check_count.ensures.err
