use Rattle.std.proofs.Common.{◌≤◌, ℕ, [], sym, ◌∙◌, subst, arith}
use Rattle.std.specs.Prelude.{IsSome}
use Rattle.std.proofs.lemmas.List.{append-nil}
use Rattle.std.proofs.lemmas.Result.{err_from_is_err_and}
use Rattle.nx_host.specs.Disk.{Rose}
use Rattle.nx_hold.specs.Changes.{place_of}
use Rattle.nx_nav.specs.Early.{near_giving}
use Rattle.nx_nav.specs.Refusals.{HoldsNoneWith, IsRefused}
use Rattle.nx_nav.specs.declared.exporting.Stage.{Stage}
use Rattle.nx_nav.proofs.GivenLemmas.{text_gives, text_within}
use Rattle.nx_nav.proofs.exporting.export.Goals as goal

pub returns-in_err-tell_document-clause-time : goal.returns-in_err-tell_document-clause-time
returns-in_err-tell_document-clause-time g c = λ seen document h.
    let stops = c.in_err-tell_document.ensures.stops in
    let first = stops.first seen document h in
    text_within g.H.Disk h c.export_walk-walk.result.teller.block c.args.block.now c.export_walk-walk.ensures.block stops.told first.0 c.args.host.now c.tell_document.new.disk first.1 (stops.goes.0).time

pub returns-clause-ok : goal.returns-clause-ok
returns-clause-ok g c = λ seen document h.
    let told = c.in_ok-tell_document.ensures.told in
    let all = told.all seen document h in (
      all.0 ∙ c.export_walk-walk.ensures.left,
      text_gives g.H.Disk h c.export_walk-walk.result.teller.block c.args.block.now c.export_walk-walk.ensures.block told.told c.tell_document.new.walk.teller.block (g.H.Disk.beside c.args.host.now).output (g.H.Disk.beside c.tell_document.new.disk).output
          all.1 (told.goes.0).gives,
    )

pub returns-clause-time : goal.returns-clause-time
returns-clause-time g c = λ seen document h.
    let told = c.in_ok-tell_document.ensures.told in
    text_within g.H.Disk h c.export_walk-walk.result.teller.block c.args.block.now c.export_walk-walk.ensures.block told.told [] c.args.host.now c.tell_document.new.disk (sym (told.all seen document h).1 ∙ sym (append-nil told.told)) (told.goes.0).time

pub returns-clause-reads : goal.returns-clause-reads
returns-clause-reads g c = λ left document h.
    c.tell_document.ensures.first left (subst (λ (s : Stage). 1 ≤ near_giving s c.export_walk-walk.result.teller.block) (sym c.export_walk-walk.ensures.unread) (omega arith)) document h

pub returns-in_err-tell_document-clause-reads : goal.returns-in_err-tell_document-clause-reads
returns-in_err-tell_document-clause-reads g c = λ left document h.
    c.tell_document.ensures.first left (subst (λ (s : Stage). 1 ≤ near_giving s c.export_walk-walk.result.teller.block) (sym c.export_walk-walk.ensures.unread) (omega arith)) document h

pub returns-in_err-tell_document-clause-refused : goal.returns-in_err-tell_document-clause-refused
returns-in_err-tell_document-clause-refused g c =
    let p = err_from_is_err_and c.from_residual.result c.from_residual.ensures.1 in
    rw (p.1, p.2)
    (subst (λ (n : ℕ). IsRefused g.H.Disk ⊥ (Rose (g.H.Disk.beside c.args.host.now).out_faults (g.H.Disk.beside c.tell_document.new.disk).out_faults) (IsSome (g.H.Disk.contents c.tell_document.new.disk) → HoldsNoneWith g.H.Disk c.args.records.now c.args.host.now (place_of c.args.root) n)
    c.in_err-tell_document.field-0.0 c.args.records.now c.tell_document.new.records c.args.host.now c.tell_document.new.disk) c.export_walk-walk.ensures.left c.in_err-tell_document.ensures.refused)
