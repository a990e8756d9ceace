use Rattle.nx_ask.specs.Asked.{IsSnapshotOf}
use Rattle.nx_ask.proofs.RowLemmas.{rows_joined}
use Rattle.nx_ask.proofs.all.+rows.Goals as goal

pub returns-clause-ok : goal.returns-clause-ok
returns-clause-ok g t c =
    let front = rw c.in_ok-replies.was at c.join-high.ensures.second in
    let back = rw c.in_ok-more.was at c.join-high.ensures.first in
    rows_joined (IsSnapshotOf c.args.snapshot.now) c.args.questions.now _ _ c.before_last-at.result c.in_ok-replies.replies.items c.in_ok-more.more.items c.append.new.self.items
    c.split_at.ensures.front c.split_at.ensures.back front.0 back.0 c.in-Ok.ensures.items
