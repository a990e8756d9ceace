use Rattle.std.proofs.Common.{◌∙◌}
use Rattle.nx_records.specs.Records.{StandsFor}
use Rattle.nx_edit.proofs.ToldLemmas.{told_so}
use Rattle.nx_store.specs.Told.{told_error}
use Rattle.nx_store.specs.Store.{NotOpened}
use Rattle.nx_store.specs.declared.error.EngineError.{EngineError}
use Rattle.nx_records.proofs.LeaveLemmas.{leaves_stand, leaves_step}
use Rattle.nx_store.proofs.RefusalLemmas.{open_refused, catalog_refused}
use Rattle.nx_store.proofs.ReadLemmas.{unopened_reads, catalog_reads}
use Rattle.nx_store.proofs.store.Store.open_to_read.Goals as goal

pub returns-in-Err-clause-refused : goal.returns-in-Err-clause-refused
returns-in-Err-clause-refused g c =
    told_so (told_error c.in-Err.error) (λ (e : EngineError). NotOpened g.D.Disk e c.args.disk.now c.open_to_read.new.disk) c.told_error.result c.told_error.ensures
    (open_refused g.D.Disk c.args.disk.now c.open_to_read.new.disk c.in-Err.error c.in-Err.ensures.refused)

pub returns-in-Err-load_catalog-clause-refused : goal.returns-in-Err-load_catalog-clause-refused
returns-in-Err-load_catalog-clause-refused g c =
    told_so (told_error c.in-Err-load_catalog.error) (λ (e : EngineError). NotOpened g.D.Disk e c.args.disk.now c.load_catalog.new.disk) c.told_error-in-Err-load_catalog.result c.told_error-in-Err-load_catalog.ensures
    (catalog_refused g.D.Disk c.in-Ok.records c.load_catalog.new.records c.args.disk.now c.open_to_read.new.disk c.load_catalog.new.disk c.in-Err-load_catalog.error c.open_to_read.ensures.still c.in-Ok.ensures.fresh.0 c.in-Ok.ensures.ok c.in-Ok.ensures.step c.in-Err-load_catalog.ensures.refused)

pub returns-clause-ok : goal.returns-clause-ok
returns-clause-ok g c was state settled recovers =
    let held = recovers.0 in
    let stands : StandsFor g.D.Disk c.in-Ok.records c.open_to_read.new.disk held held = c.in-Ok.ensures.ok was held settled recovers.1 in
    let same = c.in-Ok-load_catalog.ensures.ok.1 in
    record {
      held = held;
      stands = leaves_stand {r0 = c.in-Ok.records} {r1 = c.load_catalog.new.records} same c.in-Ok-load_catalog.ensures.still stands;
      none_waits = same.changes_stay ∙ c.in-Ok.ensures.fresh.1;
      state_is = recovers.2;
      catalog = c.in-Ok-load_catalog.ensures.ok.2 held held stands;
    }

pub returns-in-Err-clause-reads : goal.returns-in-Err-clause-reads
returns-in-Err-clause-reads g c was settled =
    unopened_reads g.D.Disk c.args.disk.now c.open_to_read.new.disk was c.open_to_read.ensures.reads settled

pub returns-in-Err-load_catalog-clause-reads : goal.returns-in-Err-load_catalog-clause-reads
returns-in-Err-load_catalog-clause-reads g c was settled =
    catalog_reads g.D.Disk c.in-Ok.records c.args.disk.now c.open_to_read.new.disk c.load_catalog.new.disk was c.open_to_read.ensures.reads settled (λ held. c.in-Ok.ensures.ok was held settled)
    (c.in-Ok.ensures.step was settled).1 c.load_catalog.ensures.reads

pub returns-clause-reads : goal.returns-clause-reads
returns-clause-reads g c was settled =
    catalog_reads g.D.Disk c.in-Ok.records c.args.disk.now c.open_to_read.new.disk c.load_catalog.new.disk was c.open_to_read.ensures.reads settled (λ held. c.in-Ok.ensures.ok was held settled)
    (c.in-Ok.ensures.step was settled).1 c.load_catalog.ensures.reads

pub returns-clause-step : goal.returns-clause-step
returns-clause-step g c was settled =
    leaves_step {r0 = c.in-Ok.records} {r1 = c.load_catalog.new.records} c.in-Ok-load_catalog.ensures.ok.1 c.in-Ok-load_catalog.ensures.still (c.in-Ok.ensures.step was settled).0
