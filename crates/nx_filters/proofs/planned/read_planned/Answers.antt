use Rattle.std.proofs.Common.{◌<◌, [], ◌++◌, length, arith}
use Rattle.std.proofs.lemmas.Bool.{MatchBool-at_true, MatchBool-at_false}
use Rattle.std.proofs.lemmas.Result.{err_from_is_err_and}
use Rattle.nx_host.specs.Host.{IsAtEnd}
use Rattle.nx_host.specs.Input.{most_input}
use Rattle.nx_filters.specs.Planned.{HasLines, HasDot, HasDocumentBeforeDot}
use Rattle.nx_filters.specs.Verify.{verify}
use Rattle.nx_filters.proofs.ConsumerLemmas.{came_few, fed_stops, fed_whole}
use Rattle.nx_filters.proofs.PlannedLemmas.{lines_none, planned_stops, document_planned}
use Rattle.nx_filters.proofs.planned.read_planned.Goals as goal

pub returns-in_err-ended-clause-err : goal.returns-in_err-ended-clause-err
returns-in_err-ended-clause-err g c =
    let start = g.H.Disk.beside c.args.host.now in
    let p = err_from_is_err_and c.from_residual-in_err-ended.result c.from_residual-in_err-ended.ensures.1 in
    rw (p.1, p.2)
    (λ k. fed_stops (verify k) c.in_err-ended.field-0.0 start start (g.H.Disk.beside c.feed.new.host) (omega arith)
    (c.in_err-ended.ensures.err [] start.input (c.in_ok-input.ensures.none start.input) (lines_none c.in_ok-new.field-0 c.new-3.result c.in_ok-new.ensures c.new-3.ensures)))

pub returns-in_err-ended-clause-bounded : goal.returns-in_err-ended-clause-bounded
returns-in_err-ended-clause-bounded g c =
    let start = (g.H.Disk.beside c.args.host.now).input in
    came_few c.feed.ensures.taken [] start (c.in_ok-input.ensures.none start)

pub returns-in_err-planned-clause-err : goal.returns-in_err-planned-clause-err
returns-in_err-planned-clause-err g c =
    let start = g.H.Disk.beside c.args.host.now in
    let p = err_from_is_err_and c.from_residual-in_err-planned.result c.from_residual-in_err-planned.ensures.1 in
    let (taken, had, ends) =
    c.in_ok-ended.ensures.ok [] start.input (c.in_ok-input.ensures.none start.input) (lines_none c.in_ok-new.field-0 c.new-3.result c.in_ok-new.ensures c.new-3.ensures)
    in
    rw (p.1, p.2)
    (λ k. planned_stops {ended = c.in_ok-ended.ended} {body = c.feed.new.consumer.body} {behind = c.feed.new.consumer.behind} k c.in_err-planned.field-0.0 start (g.H.Disk.beside c.feed.new.host) had
    (record { known = ends })
    (c.in_err-planned.ensures.faulty, c.in_err-planned.ensures.refused))

pub returns-in_err-planned-clause-bounded : goal.returns-in_err-planned-clause-bounded
returns-in_err-planned-clause-bounded g c =
    let start = (g.H.Disk.beside c.args.host.now).input in
    came_few c.feed.ensures.taken [] start (c.in_ok-input.ensures.none start)

pub returns-then-ended-clause-ok : goal.returns-then-ended-clause-ok
returns-then-ended-clause-ok g c =
    let start = (g.H.Disk.beside c.args.host.now).input in
    let (taken, had, ends) =
    c.in_ok-ended.ensures.ok [] start (c.in_ok-input.ensures.none start) (lines_none c.in_ok-new.field-0 c.new-3.result c.in_ok-new.ensures c.new-3.ensures)
    in
    let (end, short, lines) =
    MatchBool-at_true (IsAtEnd (g.H.Disk.beside c.feed.new.host).input × (length taken < most_input) × HasLines c.feed.new.consumer.body c.feed.new.consumer.behind taken)
    (HasDot c.feed.new.consumer.body c.feed.new.consumer.behind taken) c.if-ended.true ends
    in
    (taken, record { takes = had.takes; end = end; few = short }, c.in_ok-planned.ensures.whole taken lines)

pub returns-then-ended-clause-bounded : goal.returns-then-ended-clause-bounded
returns-then-ended-clause-bounded g c =
    let start = (g.H.Disk.beside c.args.host.now).input in
    came_few c.feed.ensures.taken [] start (c.in_ok-input.ensures.none start)

pub returns-in_err-feed-clause-err : goal.returns-in_err-feed-clause-err
returns-in_err-feed-clause-err g c =
    let start = g.H.Disk.beside c.args.host.now in
    let p = err_from_is_err_and c.from_residual-in_err-feed.result c.from_residual-in_err-feed.ensures.1 in
    let (taken, had, ends) =
    c.in_ok-ended.ensures.ok [] start.input (c.in_ok-input.ensures.none start.input) (lines_none c.in_ok-new.field-0 c.new-3.result c.in_ok-new.ensures c.new-3.ensures)
    in
    let dot =
    MatchBool-at_false (IsAtEnd (g.H.Disk.beside c.feed.new.host).input × (length taken < most_input) × HasLines c.feed.new.consumer.body c.feed.new.consumer.behind taken)
    (HasDot c.feed.new.consumer.body c.feed.new.consumer.behind taken) c.if-ended.false ends
    in
    rw (p.1, p.2)
    (λ k. fed_stops (verify k) c.in_err-feed.field-0.0 start (g.H.Disk.beside c.feed.new.host) (g.H.Disk.beside c.feed-2.new.host) c.feed.ensures.alone.areas.in_faults_later
    (c.in_err-feed.ensures.err taken start.input had (c.in_ok-planned.ensures.dotted taken dot)))

pub returns-in_err-feed-clause-bounded : goal.returns-in_err-feed-clause-bounded
returns-in_err-feed-clause-bounded g c =
    let start = (g.H.Disk.beside c.args.host.now).input in
    let (taken, had) = c.feed.ensures.taken [] start (c.in_ok-input.ensures.none start) in
    came_few c.feed-2.ensures.taken taken start had

pub returns-clause-ok : goal.returns-clause-ok
returns-clause-ok g c =
    let start = (g.H.Disk.beside c.args.host.now).input in
    let (taken, had, ends) =
    c.in_ok-ended.ensures.ok [] start (c.in_ok-input.ensures.none start) (lines_none c.in_ok-new.field-0 c.new-3.result c.in_ok-new.ensures c.new-3.ensures)
    in
    let dot =
    MatchBool-at_false (IsAtEnd (g.H.Disk.beside c.feed.new.host).input × (length taken < most_input) × HasLines c.feed.new.consumer.body c.feed.new.consumer.behind taken)
    (HasDot c.feed.new.consumer.body c.feed.new.consumer.behind taken) c.if-ended.false ends
    in
    let (more, all, last) = c.in_ok-feed.ensures.ok taken start had (c.in_ok-planned.ensures.dotted taken dot) in
    let (whole, document) = fed_whole (HasDocumentBeforeDot c.feed-2.new.consumer.tree c.feed-2.new.consumer.plan) c.in_ok-feed.field-0 all last in
    (taken ++ more, whole, document_planned c.feed-2.new.consumer.tree c.feed-2.new.consumer.plan (taken ++ more) document)

pub returns-clause-bounded : goal.returns-clause-bounded
returns-clause-bounded g c =
    let start = (g.H.Disk.beside c.args.host.now).input in
    let (taken, had) = c.feed.ensures.taken [] start (c.in_ok-input.ensures.none start) in
    came_few c.feed-2.ensures.taken taken start had
