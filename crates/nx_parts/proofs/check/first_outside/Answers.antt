use Rattle.std.proofs.Common.{refl, sym, length}
use Rattle.std.proofs.lemmas.Option.{slice_get_read}
use Rattle.nx_parts.proofs.MemberLemmas.{first_outside}
use Rattle.nx_parts.proofs.check.first_outside.Goals as goal

pub returns-then-not-is_in_tree : goal.returns-then-not-is_in_tree
returns-then-not-is_in_tree c =
    first_outside c.args.tree.now c.args.intervals.now c.loop-index.index c.index-intervals-index.result
    (slice_get_read c.args.intervals.now (length c.args.intervals.now) c.loop-index.index c.index-intervals-index.result refl c.loop-index-test.true c.index-intervals-index.is)
    (sym (c.if-not-is_in_tree.ensures)) c.loop-index.invariant
