use Rattle.std.proofs.Common.{◌≡◌, [], ◌∷◌, List, sym, subst, ◌∙◌}
use Rattle.std.proofs.lemmas.Result.{err_from_is_err_and}
use Rattle.nx_parts.specs.declared.interval.Interval.{Interval}
use Rattle.nx_parts.specs.declared.marks.Mark.{out-Mark}
use Rattle.nx_parts.specs.declared.error.PartsError.{PartsError}
use Rattle.nx_parts.specs.declared.error.PartsError.TheVariants.{OutOfTree, NoRoot}
use Rattle.nx_parts.specs.Partitioning.{IsPartitioning, part_weights}
use Rattle.nx_parts.specs.Refusal.{IsNoPartitioning}
use Rattle.nx_parts.proofs.MarkLemmas.{err_passed}
use Rattle.nx_parts.proofs.MemberLemmas.{overlap-refused, no_root, partitions, holder_within, no_holder, with_holder, refused_same}
use Rattle.nx_parts.proofs.WalkLemmas.{weights_of}
use Rattle.nx_parts.proofs.weigh.part_weights.Goals as goal

pub returns-in-Some-clause-err : goal.returns-in-Some-clause-err
returns-in-Some-clause-err c =
    refused_same c.args.tree.now c.as_slice-intervals.result.now c.args.parts.now (OutOfTree c.in-Some.index) c.as_slice-intervals.ensures c.in-Some.ensures

pub returns-in_err-root-clause-err : goal.returns-in_err-root-clause-err
returns-in_err-root-clause-err c =
    err_passed c.from_residual.result (IsNoPartitioning c.args.tree.now c.args.parts.now) c.in_err-root.field-0.0 (err_from_is_err_and c.from_residual.result c.from_residual.ensures.1)
    (refused_same c.args.tree.now c.as_slice-intervals.result.now c.args.parts.now c.in_err-root.field-0.0 c.as_slice-intervals.ensures
    (overlap-refused c.args.tree.now c.as_slice-intervals.result.now c.in_default.ensures c.in_err-root.field-0.0 c.in_err-root.ensures.err))

pub returns-in_err-owner-clause-err : goal.returns-in_err-owner-clause-err
returns-in_err-owner-clause-err c =
    let none = no_holder (out-Mark c.in_ok-root.root).holder c.in_err-owner.field-0.0 NoRoot c.in_err-owner.ensures.value in
    err_passed c.from_residual-in_err-owner.result (IsNoPartitioning c.args.tree.now c.args.parts.now) c.in_err-owner.field-0.0 (err_from_is_err_and c.from_residual-in_err-owner.result c.from_residual-in_err-owner.ensures.1)
    (refused_same c.args.tree.now c.as_slice-intervals.result.now c.args.parts.now c.in_err-owner.field-0.0 c.as_slice-intervals.ensures
    (subst (λ (e : PartsError). IsNoPartitioning c.args.tree.now c.as_slice-intervals.result.now e) (sym none.1)
    (no_root c.args.tree.now c.as_slice-intervals.result.now c.in_default.ensures c.in_ok-root.ensures.apart (sym (c.in_ok-root.ensures.marked []) ∙ none.0))))

pub sum_owned-requires-clause-owner : goal.sum_owned-requires-clause-owner
sum_owned-requires-clause-owner c =
    let own = with_holder (out-Mark c.in_ok-root.root).holder c.in_ok-owner.owner NoRoot c.in_ok-owner.ensures.value in
    holder_within c.as_slice-intervals.result.now [] c.in_ok-owner.owner (sym (c.in_ok-root.ensures.marked []) ∙ own)

pub sum_owned-requires-clause-marks : goal.sum_owned-requires-clause-marks
sum_owned-requires-clause-marks c = λ p path place e. holder_within c.as_slice-intervals.result.now (p ∷ path) place (sym (c.in_ok-root.ensures.marked (p ∷ path)) ∙ e)

pub returns-clause-ok : goal.returns-clause-ok
returns-clause-ok c =
    let own = with_holder (out-Mark c.in_ok-root.root).holder c.in_ok-owner.owner NoRoot c.in_ok-owner.ensures.value in
    let held = sym (c.in_ok-root.ensures.marked []) ∙ own in
    subst (λ (ps : List Interval). IsPartitioning c.args.tree.now ps × (c.from_vec.result ≡ part_weights c.args.tree.now ps)) c.as_slice-intervals.ensures (
      partitions c.args.tree.now c.as_slice-intervals.result.now c.in_ok-owner.owner c.in_default.ensures c.in_ok-root.ensures.apart held,
      c.from_vec.ensures ∙ weights_of c.args.tree.now c.as_slice-intervals.result.now c.in_ok-root.root c.in_ok-owner.owner c.in_ok-sums.sums.items c.in_ok-root.ensures.marked own c.in_ok-sums.ensures.len c.in_ok-sums.ensures.sums,
    )
