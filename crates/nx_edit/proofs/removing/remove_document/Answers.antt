use Rattle.std.proofs.Common.{◌≡◌, List, [], ◌++◌, refl, ap, ◌∙◌, subst, arith}
use Rattle.nx_piece.specs.declared.piece.Far.{Far}
use Rattle.nx_piece.specs.declared.piece.Proxy.{Proxy}
use Rattle.nx_hold.specs.Changes.{ComesTidyWhere}
use Rattle.nx_hold.specs.Documents.{MovesRecords}
use Rattle.nx_hold.proofs.RefusalLemmas.{runs_then, saved_then}
use Rattle.nx_edit.specs.Refusals.{edit_error}
use Rattle.nx_edit.specs.Removing.{AreUnnamed, NotFreed, NotRemoved}
use Rattle.nx_edit.specs.declared.error.EditError.{EditError}
use Rattle.nx_edit.proofs.ToldLemmas.{told_so}
use Rattle.nx_edit.proofs.FreeLemmas.{firsts}
use Rattle.nx_edit.proofs.GoneLemmas.{document_refused, contents_refused, document_gone}
use Rattle.nx_edit.proofs.removing.remove_document.Goals as goal

pub returns-in-Err-clause-refused : goal.returns-in-Err-clause-refused
returns-in-Err-clause-refused g c =
    let root : Proxy = record { page = c.args.entry.root.page; slot = c.args.entry.root.slot; roots = 1 } in
    told_so (edit_error c.in-Err.error) (λ (e : EditError). NotRemoved g.D.Disk c.args.entry e c.args.records.now c.remove_rows.new.records c.args.disk.now c.remove_rows.new.disk) c.edit_error.result c.edit_error.ensures
    (document_refused g.D.Disk c.args.entry root refl c.args.records.now c.remove_rows.new.records c.args.disk.now c.remove_rows.new.disk c.in-Err.error c.in-Err.ensures.refused)

pub returns-in-Ok-clause-ok : goal.returns-in-Ok-clause-ok
returns-in-Ok-clause-ok g c =
    let root : Proxy = record { page = c.args.entry.root.page; slot = c.args.entry.root.slot; roots = 1 } in
    let fars : List Far = c.in_default.ensures.ok.0 in
    let same : c.as_slice.result.now ≡ fars = c.as_slice.ensures.value ∙ c.in_default.ensures.ok.1 ∙ ap (λ (l : List Far). l ++ fars) c.new-gone.ensures.items in
    document_gone g.D.Disk c.args.entry root refl c.args.records.now c.remove_rows.new.records c.args.disk.now c.remove_rows.new.disk c.in_default.field-0 fars c.in_default.ensures.ok.2 c.in_default.ensures.keeps.0 c.in_default.ensures.keeps.1 c.remove_rows.ensures.still
    c.free_all.new.records c.free_all.new.disk
    (subst (λ (fs : List Far). ComesTidyWhere g.D.Disk c.remove_rows.new.records c.free_all.new.records c.remove_rows.new.disk c.free_all.new.disk (λ was. AreUnnamed was fs) (λ was now. MovesRecords [] [] (firsts fs) [] 0 was now)) same c.in-Ok.ensures.ok)

pub returns-in-Ok-clause-keeps : goal.returns-in-Ok-clause-keeps
returns-in-Ok-clause-keeps g c = (
  runs_then {r0 = c.args.records.now} {r1 = c.remove_rows.new.records} {r2 = c.free_all.new.records} c.in_default.ensures.keeps.0 c.in-Ok.ensures.keeps.0,
  saved_then {d = g.D.Disk} {r0 = c.args.records.now} {r1 = c.remove_rows.new.records} {r2 = c.free_all.new.records} {x0 = c.args.disk.now} {x1 = c.remove_rows.new.disk} {x2 = c.free_all.new.disk} c.in_default.ensures.keeps.1 c.in-Ok.ensures.keeps.1,
  c.in-Ok.ensures.keeps.2 (c.in_default.ensures.keeps.2 (λ none. omega (arith, none))),
)

pub returns-clause-refused : goal.returns-clause-refused
returns-clause-refused g c =
    let root : Proxy = record { page = c.args.entry.root.page; slot = c.args.entry.root.slot; roots = 1 } in
    let fars : List Far = c.in_default.ensures.ok.0 in
    let same : c.as_slice.result.now ≡ fars = c.as_slice.ensures.value ∙ c.in_default.ensures.ok.1 ∙ ap (λ (l : List Far). l ++ fars) c.new-gone.ensures.items in
    told_so (edit_error c.in-Err-free_all.error) (λ (e : EditError). NotRemoved g.D.Disk c.args.entry e c.args.records.now c.free_all.new.records c.args.disk.now c.free_all.new.disk) c.edit_error-in-Err-free_all.result c.edit_error-in-Err-free_all.ensures
    (contents_refused g.D.Disk c.args.entry root refl c.args.records.now c.remove_rows.new.records c.args.disk.now c.remove_rows.new.disk c.in_default.field-0 fars c.in_default.ensures.ok.2 c.in_default.ensures.keeps.0 c.in_default.ensures.keeps.1 c.remove_rows.ensures.still
    c.free_all.new.records c.free_all.new.disk c.in-Err-free_all.error
    (subst (λ (fs : List Far). NotFreed g.D.Disk fs c.in-Err-free_all.error c.remove_rows.new.records c.free_all.new.records c.remove_rows.new.disk c.free_all.new.disk) same c.in-Err-free_all.ensures.refused))
