use Rattle.std.proofs.Common.{◌+◌, ◌*◌, ◌<◌, arith, length, refl}
use Rattle.nx_host.proofs.DiskLemmas.{written_alone_then}
use Rattle.nx_replay.proofs.SettledLemmas.{on_ok}
use Rattle.nx_replay.proofs.CommitMoments.{laid_goes, laid_done}
use Rattle.nx_wal.specs.Writing.{body_of}
use Rattle.nx_wal.proofs.WritingLemmas.{synced, stands_behind}
use Rattle.nx_wal.proofs.OwnLemmas.{torn_long}
use Rattle.nx_wal.proofs.writing.lay_waiting.Goals as goal

pub returns-in_err-write_body-clause-goes : goal.returns-in_err-write_body-clause-goes
returns-in_err-write_body-clause-goes g c =
    laid_goes c.args.end (13 + 8196 * length c.args.waiting.now.entries) (c.write_body.ensures.writes).goes

pub returns-clause-goes : goal.returns-clause-goes
returns-clause-goes g c =
    laid_goes c.args.end (13 + 8196 * length c.args.waiting.now.entries)
    (written_alone_then (c.write_body.ensures.writes).goes c.sync_log.ensures.goes (λ told i left. (c.write_body.ensures.writes).images i left))

pub returns-clause-ok : goal.returns-clause-ok
returns-clause-ok g c = on_ok c.sync_log.result c.sync_log.ensures.durable (λ durable was now group opened is told.
    let body = body_of c.args.number c.args.waiting.now.entries in
    let shut = (opened.at).closed refl in
    let here : c.args.end < length was.log = shut.0 in
    let done = synced c.write_body.ensures.writes c.in_ok-write_body.ensures.lays c.sync_log.ensures.images durable opened.settled (omega (arith, here)) told in
    laid_done c.args.end group body opened is done.0 done.1)

pub returns-clause-prefix : goal.returns-clause-prefix
returns-clause-prefix g c = on_ok c.sync_log.result c.sync_log.ensures.durable (λ durable was now opened told.
    let body = body_of c.args.number c.args.waiting.now.entries in
    let shut = (opened.at).closed refl in
    let here : c.args.end < length was.log = shut.0 in
    let done = synced c.write_body.ensures.writes c.in_ok-write_body.ensures.lays c.sync_log.ensures.images durable opened.settled (omega (arith, here)) told in
    stands_behind c.args.end body was now here done.0)

pub returns-in_err-write_body-clause-longer : goal.returns-in_err-write_body-clause-longer
returns-in_err-write_body-clause-longer g c = torn_long (c.write_body.ensures.writes).goes

pub returns-clause-longer : goal.returns-clause-longer
returns-clause-longer g c = torn_long (written_alone_then (c.write_body.ensures.writes).goes c.sync_log.ensures.goes (λ told i left. (c.write_body.ensures.writes).images i left))
