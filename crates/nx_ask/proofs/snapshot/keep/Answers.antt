use Rattle.std.proofs.lemmas.Result.{IfOk-weaker, IfErr-weaker}
use Rattle.nx_ask.proofs.PageLemmas.{in_step_on}
use Rattle.nx_ask.proofs.SnapshotLemmas.{reads_pages, not_kept_on}
use Rattle.nx_ask.proofs.snapshot.keep.Goals as goal

pub returns-in-Ok-clause-pages : goal.returns-in-Ok-clause-pages
returns-in-Ok-clause-pages g c =
    IfOk-weaker c.keep_below.result _ _ (λ snapshot h. λ was step. h was (in_step_on c.read_first.ensures.still c.in-Ok.ensures.same step)) c.keep_below.ensures.pages

pub returns-in-Ok-clause-reads : goal.returns-in-Ok-clause-reads
returns-in-Ok-clause-reads g c was step =
    reads_pages _ _ _ c.in-Ok.number was c.read_first.ensures.reads c.keep_below.ensures.few (c.in-Ok.ensures.said was step)
    (λ count is. c.keep_below.ensures.reads was (in_step_on c.read_first.ensures.still c.in-Ok.ensures.same step) count is)

pub returns-in-Ok-clause-refused : goal.returns-in-Ok-clause-refused
returns-in-Ok-clause-refused g c =
    IfErr-weaker c.keep_below.result _ _ (λ e h. not_kept_on g.D.Disk e c.args.wal c.read_first.new.wal c.args.disk.now c.read_first.new.disk _ c.read_first.ensures.still c.in-Ok.ensures.same h) c.keep_below.ensures.refused
