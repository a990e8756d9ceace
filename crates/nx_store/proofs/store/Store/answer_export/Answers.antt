use Rattle.std.proofs.Common.{ℕ, List, [], ◌∙◌, arith, subst}
use Rattle.std.specs.Prelude.{Result, Ok, Err}
use Rattle.std.proofs.lemmas.Result.{err_from_is_err_and}
use Rattle.nx_host.specs.Host.{Appends, AppendsPrefix}
use Rattle.nx_host.specs.Phase.{GivesAlone}
use Rattle.nx_nav.specs.GivenLaws.{unwritten_before}
use Rattle.nx_script.specs.declared.command.Command.TheVariants.{Export}
use Rattle.nx_store.specs.Store.{IsAnswered}
use Rattle.nx_script.specs.declared.request.Request.TheVariants.{Single}
use Rattle.nx_store.specs.declared.error.EngineError.{EngineError}
use Rattle.nx_store.proofs.ShowLemmas.{handed}
use Rattle.nx_store.proofs.ReadLemmas.{given_holds}
use Rattle.nx_store.proofs.StayingLemmas.{gave_leaves, gave_holds, given_leaves}
use Rattle.nx_store.proofs.ExportLemmas.{from_empty, told_before, as_prefix, export_answered, export_unwritten, export_failed, export_read, takes_more}
use Rattle.nx_store.proofs.store.Store.answer_export.Goals as goal

pub returns-in_err-export_into-clause-answers : goal.returns-in_err-export_into-clause-answers
returns-in_err-export_into-clause-answers g c state at told =
    handed c.from_residual.result (λ (r : Result (Unit {0}) EngineError). IsAnswered g.H.Disk r state (Single (Export c.args.name.now)) c.args.self.now c.export_into.new.self c.args.host.now c.export_into.new.host) c.in_err-export_into.field-0.0
    (err_from_is_err_and c.from_residual.result c.from_residual.ensures.1)
    (export_failed g.H.Disk c.in_err-export_into.field-0.0 c.args.self.now c.export_into.new.self c.args.host.now c.export_into.new.host state c.args.name.now c.export_into.new.block c.export_into.ensures.areas told
    (λ runs. gave_holds g.H.Disk c.args.self.now c.export_into.new.self c.args.host.now c.export_into.new.host c.export_into.ensures.areas (c.export_into.ensures.same runs))
    (from_empty g.H.Disk (Err c.in_err-export_into.field-0.0) c.export_into.new.self c.args.host.now c.export_into.new.host state c.args.name.now c.new-block.result c.export_into.new.block c.new-block.ensures (c.in_err-export_into.ensures.exports state at told)))

pub returns-in_err-export_into-clause-leaves : goal.returns-in_err-export_into-clause-leaves
returns-in_err-export_into-clause-leaves g c =
    gave_leaves g.H.Disk (Single (Export c.args.name.now)) c.args.self.now c.export_into.new.self c.args.host.now c.export_into.new.host c.export_into.ensures.areas c.export_into.ensures.same

pub returns-in_err-export_into-clause-early : goal.returns-in_err-export_into-clause-early
returns-in_err-export_into-clause-early g c = c.export_into.ensures.early

-- the last part isn't given
pub returns-in_default-clause-answers : goal.returns-in_default-clause-answers
returns-in_default-clause-answers g c state at told =
    let e = c.in_default.ensures in
    let alone : GivesAlone g.H.Disk c.export_into.new.block c.export_into.new.host c.emit.new.self =
    subst (λ (b : List ℕ). GivesAlone g.H.Disk b c.export_into.new.host c.emit.new.self) c.as_slice.ensures (record {
      areas = record { contents_stay = e.contents; images_stay = e.images; faults_stay = e.faults; reads_stay = e.reads; in_faults_later = omega (arith, e.in_faults); out_faults_later = e.out_faults; time = e.time };
      input_stays = e.input;
      in_faults_stay = e.in_faults;
    }) in
    export_unwritten g.H.Disk c.export_into.new.self c.args.host.now c.export_into.new.host c.emit.new.self state c.args.name.now c.export_into.new.block alone.areas told
    (from_empty g.H.Disk (Ok tt) c.export_into.new.self c.args.host.now c.export_into.new.host state c.args.name.now c.new-block.result c.export_into.new.block c.new-block.ensures
    (c.in_ok-export_into.ensures.exports state at (told_before g.H.Disk c.export_into.new.block c.export_into.new.host c.emit.new.self alone.areas told))) c.args.self.now c.export_into.ensures.areas
    (given_holds g.H.Disk c.args.self.now c.export_into.new.self c.args.host.now c.export_into.new.host c.emit.new.self
    (AppendsPrefix c.export_into.new.block (g.H.Disk.beside c.export_into.new.host).output) alone.areas
    (gave_holds g.H.Disk c.args.self.now c.export_into.new.self c.args.host.now c.export_into.new.host c.export_into.ensures.areas (c.export_into.ensures.same (c.in_ok-export_into.ensures.ok).1)))

pub returns-in_default-clause-beside : goal.returns-in_default-clause-beside
returns-in_default-clause-beside g c =
    let e = c.in_default.ensures in
    let alone : GivesAlone g.H.Disk c.export_into.new.block c.export_into.new.host c.emit.new.self =
    subst (λ (b : List ℕ). GivesAlone g.H.Disk b c.export_into.new.host c.emit.new.self) c.as_slice.ensures (record {
      areas = record { contents_stay = e.contents; images_stay = e.images; faults_stay = e.faults; reads_stay = e.reads; in_faults_later = omega (arith, e.in_faults); out_faults_later = e.out_faults; time = e.time };
      input_stays = e.input;
      in_faults_stay = e.in_faults;
    }) in
    takes_more g.H.Disk c.export_into.new.block c.args.host.now c.export_into.new.host c.emit.new.self c.export_into.ensures.beside alone

pub returns-in_default-clause-leaves : goal.returns-in_default-clause-leaves
returns-in_default-clause-leaves g c =
    let e = c.in_default.ensures in
    let alone : GivesAlone g.H.Disk c.export_into.new.block c.export_into.new.host c.emit.new.self =
    subst (λ (b : List ℕ). GivesAlone g.H.Disk b c.export_into.new.host c.emit.new.self) c.as_slice.ensures (record {
      areas = record { contents_stay = e.contents; images_stay = e.images; faults_stay = e.faults; reads_stay = e.reads; in_faults_later = omega (arith, e.in_faults); out_faults_later = e.out_faults; time = e.time };
      input_stays = e.input;
      in_faults_stay = e.in_faults;
    }) in
    given_leaves g.H.Disk (Single (Export c.args.name.now)) c.args.self.now c.export_into.new.self c.args.host.now c.export_into.new.host c.emit.new.self
    (AppendsPrefix c.export_into.new.block (g.H.Disk.beside c.export_into.new.host).output) alone.areas
    (gave_leaves g.H.Disk (Single (Export c.args.name.now)) c.args.self.now c.export_into.new.self c.args.host.now c.export_into.new.host c.export_into.ensures.areas c.export_into.ensures.same)

pub returns-in_default-clause-early : goal.returns-in_default-clause-early
returns-in_default-clause-early g c =
    let e = c.in_default.ensures in
    let alone : GivesAlone g.H.Disk c.export_into.new.block c.export_into.new.host c.emit.new.self =
    subst (λ (b : List ℕ). GivesAlone g.H.Disk b c.export_into.new.host c.emit.new.self) c.as_slice.ensures (record {
      areas = record { contents_stay = e.contents; images_stay = e.images; faults_stay = e.faults; reads_stay = e.reads; in_faults_later = omega (arith, e.in_faults); out_faults_later = e.out_faults; time = e.time };
      input_stays = e.input;
      in_faults_stay = e.in_faults;
    }) in
    export_read g.H.Disk c.args.self.now c.export_into.new.self c.args.host.now c.export_into.new.host c.emit.new.self c.args.name.now c.export_into.new.block alone.areas
    (subst (λ (b : List ℕ). AppendsPrefix b (g.H.Disk.beside c.export_into.new.host).output (g.H.Disk.beside c.emit.new.self).output) c.as_slice.ensures (e.prefix))
    (λ state at told. from_empty g.H.Disk (Ok tt) c.export_into.new.self c.args.host.now c.export_into.new.host state c.args.name.now c.new-block.result c.export_into.new.block c.new-block.ensures (c.in_ok-export_into.ensures.exports state at told))
    c.export_into.ensures.early

pub returns-in_default-clause-refused : goal.returns-in_default-clause-refused
returns-in_default-clause-refused g c = (unwritten_before (c.export_into.ensures.beside).out_faults_later c.in_default.ensures.cause, c.in_ok-export_into.ensures.ok)

-- it is given
pub returns-clause-answers : goal.returns-clause-answers
returns-clause-answers g c state at told =
    let e = c.in-Ok.ensures in
    let alone : GivesAlone g.H.Disk c.export_into.new.block c.export_into.new.host c.emit.new.self =
    subst (λ (b : List ℕ). GivesAlone g.H.Disk b c.export_into.new.host c.emit.new.self) c.as_slice.ensures (record {
      areas = record { contents_stay = e.contents; images_stay = e.images; faults_stay = e.faults; reads_stay = e.reads; in_faults_later = omega (arith, e.in_faults); out_faults_later = e.out_faults; time = e.time };
      input_stays = e.input;
      in_faults_stay = e.in_faults;
    }) in
    export_answered g.H.Disk c.export_into.new.self c.args.host.now c.export_into.new.host c.emit.new.self state c.args.name.now c.export_into.new.block alone.areas told
    (from_empty g.H.Disk (Ok tt) c.export_into.new.self c.args.host.now c.export_into.new.host state c.args.name.now c.new-block.result c.export_into.new.block c.new-block.ensures
    (c.in_ok-export_into.ensures.exports state at (told_before g.H.Disk c.export_into.new.block c.export_into.new.host c.emit.new.self alone.areas told)))
    c.args.self.now c.export_into.ensures.areas
    (given_holds g.H.Disk c.args.self.now c.export_into.new.self c.args.host.now c.export_into.new.host c.emit.new.self
    (AppendsPrefix c.export_into.new.block (g.H.Disk.beside c.export_into.new.host).output) alone.areas
    (gave_holds g.H.Disk c.args.self.now c.export_into.new.self c.args.host.now c.export_into.new.host c.export_into.ensures.areas (c.export_into.ensures.same (c.in_ok-export_into.ensures.ok).1)))
    (subst (λ (b : List ℕ). Appends b (g.H.Disk.beside c.export_into.new.host).output (g.H.Disk.beside c.emit.new.self).output) c.as_slice.ensures e.ok)

pub returns-clause-beside : goal.returns-clause-beside
returns-clause-beside g c =
    let e = c.in-Ok.ensures in
    let alone : GivesAlone g.H.Disk c.export_into.new.block c.export_into.new.host c.emit.new.self =
    subst (λ (b : List ℕ). GivesAlone g.H.Disk b c.export_into.new.host c.emit.new.self) c.as_slice.ensures (record {
      areas = record { contents_stay = e.contents; images_stay = e.images; faults_stay = e.faults; reads_stay = e.reads; in_faults_later = omega (arith, e.in_faults); out_faults_later = e.out_faults; time = e.time };
      input_stays = e.input;
      in_faults_stay = e.in_faults;
    }) in
    takes_more g.H.Disk c.export_into.new.block c.args.host.now c.export_into.new.host c.emit.new.self c.export_into.ensures.beside alone

pub returns-clause-leaves : goal.returns-clause-leaves
returns-clause-leaves g c =
    let e = c.in-Ok.ensures in
    let alone : GivesAlone g.H.Disk c.export_into.new.block c.export_into.new.host c.emit.new.self =
    subst (λ (b : List ℕ). GivesAlone g.H.Disk b c.export_into.new.host c.emit.new.self) c.as_slice.ensures (record {
      areas = record { contents_stay = e.contents; images_stay = e.images; faults_stay = e.faults; reads_stay = e.reads; in_faults_later = omega (arith, e.in_faults); out_faults_later = e.out_faults; time = e.time };
      input_stays = e.input;
      in_faults_stay = e.in_faults;
    }) in
    given_leaves g.H.Disk (Single (Export c.args.name.now)) c.args.self.now c.export_into.new.self c.args.host.now c.export_into.new.host c.emit.new.self
    (AppendsPrefix c.export_into.new.block (g.H.Disk.beside c.export_into.new.host).output) alone.areas
    (gave_leaves g.H.Disk (Single (Export c.args.name.now)) c.args.self.now c.export_into.new.self c.args.host.now c.export_into.new.host c.export_into.ensures.areas c.export_into.ensures.same)

pub returns-clause-early : goal.returns-clause-early
returns-clause-early g c =
    let e = c.in-Ok.ensures in
    let alone : GivesAlone g.H.Disk c.export_into.new.block c.export_into.new.host c.emit.new.self =
    subst (λ (b : List ℕ). GivesAlone g.H.Disk b c.export_into.new.host c.emit.new.self) c.as_slice.ensures (record {
      areas = record { contents_stay = e.contents; images_stay = e.images; faults_stay = e.faults; reads_stay = e.reads; in_faults_later = omega (arith, e.in_faults); out_faults_later = e.out_faults; time = e.time };
      input_stays = e.input;
      in_faults_stay = e.in_faults;
    }) in
    export_read g.H.Disk c.args.self.now c.export_into.new.self c.args.host.now c.export_into.new.host c.emit.new.self c.args.name.now c.export_into.new.block alone.areas
    (subst (λ (b : List ℕ). AppendsPrefix b (g.H.Disk.beside c.export_into.new.host).output (g.H.Disk.beside c.emit.new.self).output) c.as_slice.ensures (as_prefix g.H.Disk c.as_slice.result.now (g.H.Disk.beside c.export_into.new.host).output (g.H.Disk.beside c.emit.new.self).output e.ok))
    (λ state at told. from_empty g.H.Disk (Ok tt) c.export_into.new.self c.args.host.now c.export_into.new.host state c.args.name.now c.new-block.result c.export_into.new.block c.new-block.ensures (c.in_ok-export_into.ensures.exports state at told))
    c.export_into.ensures.early

pub returns-clause-holds : goal.returns-clause-holds
returns-clause-holds g c =
    let e = c.in-Ok.ensures in
    let alone : GivesAlone g.H.Disk c.export_into.new.block c.export_into.new.host c.emit.new.self =
    subst (λ (b : List ℕ). GivesAlone g.H.Disk b c.export_into.new.host c.emit.new.self) c.as_slice.ensures (record {
      areas = record { contents_stay = e.contents; images_stay = e.images; faults_stay = e.faults; reads_stay = e.reads; in_faults_later = omega (arith, e.in_faults); out_faults_later = e.out_faults; time = e.time };
      input_stays = e.input;
      in_faults_stay = e.in_faults;
    }) in
    given_holds g.H.Disk c.args.self.now c.export_into.new.self c.args.host.now c.export_into.new.host c.emit.new.self
    (AppendsPrefix c.export_into.new.block (g.H.Disk.beside c.export_into.new.host).output) alone.areas
    (gave_holds g.H.Disk c.args.self.now c.export_into.new.self c.args.host.now c.export_into.new.host c.export_into.ensures.areas (c.export_into.ensures.same (c.in_ok-export_into.ensures.ok).1))
