use Rattle.std.proofs.Common.{◌≡◌, ◌<◌, arith}
use Rattle.nx_records.proofs.StandLemmas.{on_ok_then}
use Rattle.nx_records.specs.Records.{log_length_of}
use Rattle.nx_store.specs.Store.{longest_log}
use Rattle.nx_store.proofs.LogLemmas.{long_shortened}
use Rattle.nx_store.proofs.store.Store.shorten_log.Goals as goal

pub returns-clause-log : goal.returns-clause-log
returns-clause-log g c =
    let over : longest_log < c.log_length.result = c.if-log_length-le-LONG_LOG.false in
    let is : c.log_length.result ≡ log_length_of c.args.self.now.records = c.log_length.ensures in
    on_ok_then c.empty_log.result c.empty_log.ensures.log (λ none state was now at before after.
    long_shortened g.D.Disk c.args.self.now c.args.disk.now c.empty_log.new.disk state was now (omega (arith, over, is)) at before after (none state now at after))
