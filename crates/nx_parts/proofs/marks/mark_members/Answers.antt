use Rattle.std.proofs.Common.{length, refl}
use Rattle.std.proofs.lemmas.Option.{slice_get_read}
use Rattle.std.proofs.lemmas.Result.{err_from_is_err_and}
use Rattle.nx_parts.specs.Marks.{IsOverlap}
use Rattle.nx_parts.proofs.MarkLemmas.{err_passed}
use Rattle.nx_parts.proofs.MemberLemmas.{members-more, members-clash, apart-end}
use Rattle.nx_parts.proofs.marks.mark_members.Goals as goal

pub returns-in_err-hold_members-clause-err : goal.returns-in_err-hold_members-clause-err
returns-in_err-hold_members-clause-err c =
    err_passed c.from_residual.result (IsOverlap c.args.intervals.now) _ (err_from_is_err_and c.from_residual.result c.from_residual.ensures.1)
    (members-clash c.args.intervals.now c.loop-index.index c.index-intervals-index.result c.loop-index.root
    (slice_get_read c.args.intervals.now (length c.args.intervals.now) c.loop-index.index c.index-intervals-index.result refl c.loop-index-test.true c.index-intervals-index.is)
    c.loop-index.invariant _ c.in_err-hold_members.ensures.err)

pub loop-index-preserved : goal.loop-index-preserved
loop-index-preserved c =
    members-more c.args.intervals.now c.loop-index.index c.index-intervals-index.result c.loop-index.root
    (slice_get_read c.args.intervals.now (length c.args.intervals.now) c.loop-index.index c.index-intervals-index.result refl c.loop-index-test.true c.index-intervals-index.is)
    c.loop-index.invariant c.hold_members.new.self c.in_ok-hold_members.ensures.ok

pub returns-clause-apart : goal.returns-clause-apart
returns-clause-apart c = apart-end c.args.intervals.now c.loop-index.index c.loop-index.root c.loop-index.invariant c.loop-index-test.false
