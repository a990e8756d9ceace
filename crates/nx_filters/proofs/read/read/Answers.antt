use Rattle.std.proofs.Common.{[], arith}
use Rattle.std.proofs.lemmas.Result.{err_from_is_err_and}
use Rattle.nx_pyx.specs.Reader.{HasRead}
use Rattle.nx_filters.specs.Tidy.{tidy}
use Rattle.nx_filters.proofs.ConsumerLemmas.{came_few, fed_stops, fed_whole}
use Rattle.nx_filters.proofs.TidyLemmas.{finished}
use Rattle.nx_filters.proofs.read.read.Goals as goal

pub returns-in_err-feed-clause-reads : goal.returns-in_err-feed-clause-reads
returns-in_err-feed-clause-reads g c =
    let start = g.H.Disk.beside c.args.host.now in
    let p = err_from_is_err_and c.from_residual-in_err-feed.result c.from_residual-in_err-feed.ensures.1 in
    rw (p.1, p.2)
    (fed_stops tidy c.in_err-feed.field-0.0 start start (g.H.Disk.beside c.feed.new.host) (omega arith)
    (c.in_err-feed.ensures.err [] start.input (c.in_ok-input.ensures.none start.input) c.in_ok-reader.ensures))

pub returns-in_err-feed-clause-bounded : goal.returns-in_err-feed-clause-bounded
returns-in_err-feed-clause-bounded g c =
    let start = (g.H.Disk.beside c.args.host.now).input in
    came_few c.feed.ensures.taken [] start (c.in_ok-input.ensures.none start)

pub returns-clause-reads : goal.returns-clause-reads
returns-clause-reads g c =
    let start = g.H.Disk.beside c.args.host.now in
    let (taken, had, ends) = c.in_ok-feed.ensures.ok [] start.input (c.in_ok-input.ensures.none start.input) c.in_ok-reader.ensures in
    let (whole, read) = fed_whole (HasRead c.feed.new.consumer) c.in_ok-feed.field-0 had ends in
    finished taken c.finish.result start (g.H.Disk.beside c.feed.new.host) whole (c.finish.ensures taken read)

pub returns-clause-bounded : goal.returns-clause-bounded
returns-clause-bounded g c =
    let start = (g.H.Disk.beside c.args.host.now).input in
    came_few c.feed.ensures.taken [] start (c.in_ok-input.ensures.none start)
