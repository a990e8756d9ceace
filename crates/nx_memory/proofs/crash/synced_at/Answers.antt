use Rattle.std.proofs.Common.{sym, ◌∙◌, arith}
use Rattle.nx_memory.proofs.UndoLemmas.{since_found, since_more, since_whole}
use Rattle.nx_memory.proofs.crash.synced_at.Goals as goal

pub returns-then-is_sync-clause-since : goal.returns-then-is_sync-clause-since
returns-then-is_sync-clause-since c =
    since_found c.args.changes.now c.loop-left.left c.loop-left-test.true c.loop-left.invariant.within c.args.area c.loop-left.invariant.behind (sym c.is_sync.ensures ∙ c.if-is_sync.true)

pub loop-left-preserved : goal.loop-left-preserved
loop-left-preserved c = record {
  within = omega arith;
  behind = since_more c.args.changes.now c.loop-left.left c.loop-left-test.true c.loop-left.invariant.within c.args.area c.loop-left.invariant.behind (sym c.is_sync.ensures ∙ c.if-is_sync.false);
}

pub returns-clause-since : goal.returns-clause-since
returns-clause-since c = since_whole c.args.area c.args.changes.now c.loop-left.left c.loop-left-test.false c.loop-left.invariant.behind
