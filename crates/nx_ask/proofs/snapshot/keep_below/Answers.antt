use Rattle.nx_replay.specs.Log.{replay}
use Rattle.nx_ask.proofs.PageLemmas.{in_step_on}
use Rattle.nx_ask.proofs.SnapshotLemmas.{has_pages, none_behind, lesser, reads_behind, lacks_page, counted_once, not_kept}
use Rattle.nx_ask.proofs.snapshot.keep_below.Goals as goal

pub returns-then-count-number-clause-refused : goal.returns-then-count-number-clause-refused
returns-then-count-number-clause-refused g c was step =
    lacks_page was c.args.number c.in-Ok.count (c.requires.said was step) c.if-count-number.true (none_behind (replay was) c.in-Ok.count (c.in-Ok.ensures.ok.2 was step))

pub returns-in-Ok-read_pages-clause-pages : goal.returns-in-Ok-read_pages-clause-pages
returns-in-Ok-read_pages-clause-pages g c was step =
    has_pages _ c.args.number c.in-Ok.count c.min.result was c.min.ensures c.if-count-number.false (c.requires.said was step)
    (c.in-Ok-read_pages.ensures.ok was (in_step_on c.page_count.ensures.still c.in-Ok.ensures.ok.0 step))

pub returns-in-Ok-read_pages-clause-reads : goal.returns-in-Ok-read_pages-clause-reads
returns-in-Ok-read_pages-clause-reads g c was step count is =
    reads_behind _ _ _ c.args.number c.in-Ok.count c.min.result count c.page_count.ensures.reads c.read_pages.ensures.reads c.min.ensures (counted_once (replay was) c.in-Ok.count count (c.in-Ok.ensures.ok.2 was step) is)

pub returns-clause-reads : goal.returns-clause-reads
returns-clause-reads g c was step count is =
    reads_behind _ _ _ c.args.number c.in-Ok.count c.min.result count c.page_count.ensures.reads c.read_pages.ensures.reads c.min.ensures (counted_once (replay was) c.in-Ok.count count (c.in-Ok.ensures.ok.2 was step) is)

pub returns-clause-refused : goal.returns-clause-refused
returns-clause-refused g c =
    not_kept g.D.Disk c.in-Err.error c.args.wal c.page_count.new.self c.args.number c.min.result c.args.disk.now c.page_count.new.disk c.read_pages.new.disk c.page_count.ensures.still c.in-Ok.ensures.ok.0
    (lesser c.args.number c.in-Ok.count c.min.result c.min.ensures) c.requires.said c.in-Err.ensures.refused
