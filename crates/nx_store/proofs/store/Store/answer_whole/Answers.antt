use Rattle.std.proofs.Common.{◌∙◌, arith}
use Rattle.std.specs.Prelude.{Result}
use Rattle.std.proofs.lemmas.Result.{err_from_is_err_and}
use Rattle.nx_host.specs.Host.{AppendsPrefix}
use Rattle.nx_host.specs.Phase.{TalksAlone}
use Rattle.nx_store.specs.Store.{IsAnswered}
use Rattle.nx_store.specs.declared.error.EngineError.{EngineError}
use Rattle.nx_store.proofs.ShowLemmas.{handed}
use Rattle.nx_store.proofs.TextLemmas.{failed_answered, told_between, given_answered, unwritten_answered}
use Rattle.nx_store.proofs.StayingLemmas.{given_leaves}
use Rattle.nx_store.proofs.ReadLemmas.{given_reads, given_holds}
use Rattle.nx_store.proofs.store.Store.answer_whole.Goals as goal

pub returns-in_err-text-clause-answers : goal.returns-in_err-text-clause-answers
returns-in_err-text-clause-answers g c state at told =
    handed c.from_residual.result (λ (r : Result (Unit {0}) EngineError). IsAnswered g.H.Disk r state c.args.request c.args.self.now c.text_for.new.self c.args.host.now c.text_for.new.disk) c.in_err-text.field-0.0
    (err_from_is_err_and c.from_residual.result c.from_residual.ensures.1)
    (failed_answered g.H.Disk c.args.self.now c.text_for.new.self c.args.host.now c.text_for.new.disk state c.args.request c.in_err-text.field-0.0 (c.in_err-text.ensures.writes state at told))

pub returns-in_default-clause-answers : goal.returns-in_default-clause-answers
returns-in_default-clause-answers g c state at told =
    let e = c.in_default.ensures in
    let gives : TalksAlone g.H.Disk c.as_slice.result.now c.text_for.new.disk c.emit.new.self = record {
      contents_stay = e.contents;
      images_stay = e.images;
      faults_stay = e.faults;
      reads_stay = e.reads;
      in_faults_later = omega (arith, e.in_faults);
      out_faults_later = e.out_faults;
      time = e.time;
    } in
    let kept = c.in_ok-text.ensures.areas.beside_stays.output in
    let w = c.in_ok-text.ensures.writes state at (told_between g.H.Disk c.args.self.now c.text_for.new.self c.args.host.now c.text_for.new.disk c.emit.new.self state c.args.request c.as_slice.result.now kept gives told) in
    unwritten_answered g.H.Disk c.args.self.now c.text_for.new.self c.args.host.now c.text_for.new.disk c.emit.new.self state c.args.request c.as_slice.result.now kept gives told w.0 (c.as_slice.ensures ∙ w.1) w.2 w.3

pub returns-clause-answers : goal.returns-clause-answers
returns-clause-answers g c state at told =
    let e = c.in-Ok.ensures in
    let gives : TalksAlone g.H.Disk c.as_slice.result.now c.text_for.new.disk c.emit.new.self = record {
      contents_stay = e.contents;
      images_stay = e.images;
      faults_stay = e.faults;
      reads_stay = e.reads;
      in_faults_later = omega (arith, e.in_faults);
      out_faults_later = e.out_faults;
      time = e.time;
    } in
    let kept = c.in_ok-text.ensures.areas.beside_stays.output in
    let w = c.in_ok-text.ensures.writes state at (told_between g.H.Disk c.args.self.now c.text_for.new.self c.args.host.now c.text_for.new.disk c.emit.new.self state c.args.request c.as_slice.result.now kept gives told) in
    given_answered g.H.Disk c.args.self.now c.text_for.new.self c.args.host.now c.text_for.new.disk c.emit.new.self state c.args.request c.as_slice.result.now kept gives told w.0 (c.as_slice.ensures ∙ w.1) w.2 w.3 e.ok

pub returns-in_default-clause-leaves : goal.returns-in_default-clause-leaves
returns-in_default-clause-leaves g c =
    let e = c.in_default.ensures in
    let gives : TalksAlone g.H.Disk c.as_slice.result.now c.text_for.new.disk c.emit.new.self = record {
      contents_stay = e.contents;
      images_stay = e.images;
      faults_stay = e.faults;
      reads_stay = e.reads;
      in_faults_later = omega (arith, e.in_faults);
      out_faults_later = e.out_faults;
      time = e.time;
    } in
    given_leaves g.H.Disk c.args.request c.args.self.now c.text_for.new.self c.args.host.now c.text_for.new.disk c.emit.new.self
    (AppendsPrefix c.as_slice.result.now (g.H.Disk.beside c.text_for.new.disk).output) gives c.text_for.ensures.leaves

pub returns-clause-leaves : goal.returns-clause-leaves
returns-clause-leaves g c =
    let e = c.in-Ok.ensures in
    let gives : TalksAlone g.H.Disk c.as_slice.result.now c.text_for.new.disk c.emit.new.self = record {
      contents_stay = e.contents;
      images_stay = e.images;
      faults_stay = e.faults;
      reads_stay = e.reads;
      in_faults_later = omega (arith, e.in_faults);
      out_faults_later = e.out_faults;
      time = e.time;
    } in
    given_leaves g.H.Disk c.args.request c.args.self.now c.text_for.new.self c.args.host.now c.text_for.new.disk c.emit.new.self
    (AppendsPrefix c.as_slice.result.now (g.H.Disk.beside c.text_for.new.disk).output) gives c.text_for.ensures.leaves

pub returns-in_default-clause-reads : goal.returns-in_default-clause-reads
returns-in_default-clause-reads g c command is =
    given_reads g.H.Disk command c.args.self.now c.args.host.now c.text_for.new.disk c.emit.new.self (c.text_for.ensures.reads command is) c.in_default.ensures.reads

pub returns-in_default-clause-unread : goal.returns-in_default-clause-unread
returns-in_default-clause-unread g c none = c.in_default.ensures.reads ∙ c.text_for.ensures.unread none

pub returns-clause-reads : goal.returns-clause-reads
returns-clause-reads g c command is =
    given_reads g.H.Disk command c.args.self.now c.args.host.now c.text_for.new.disk c.emit.new.self (c.text_for.ensures.reads command is) c.in-Ok.ensures.reads

pub returns-clause-unread : goal.returns-clause-unread
returns-clause-unread g c none = c.in-Ok.ensures.reads ∙ c.text_for.ensures.unread none

pub returns-clause-holds : goal.returns-clause-holds
returns-clause-holds g c quiet =
    let e = c.in-Ok.ensures in
    let gives : TalksAlone g.H.Disk c.as_slice.result.now c.text_for.new.disk c.emit.new.self = record {
      contents_stay = e.contents;
      images_stay = e.images;
      faults_stay = e.faults;
      reads_stay = e.reads;
      in_faults_later = omega (arith, e.in_faults);
      out_faults_later = e.out_faults;
      time = e.time;
    } in
    given_holds g.H.Disk c.args.self.now c.text_for.new.self c.args.host.now c.text_for.new.disk c.emit.new.self
    (AppendsPrefix c.as_slice.result.now (g.H.Disk.beside c.text_for.new.disk).output) gives (c.in_ok-text.ensures.holds quiet)
