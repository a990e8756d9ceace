use Rattle.std.proofs.Common.{◌≡◌, sym, ap, ◌∙◌, refl}
use Rattle.std.specs.Prelude.{Some}
use Rattle.std.specs.FinMap.{get}
use Rattle.nx_pyx.specs.Text.{text}
use Rattle.nx_cuts.specs.Cut.{CutTree, tree_of}
use Rattle.nx_script.specs.declared.reply.Reply.TheVariants.{Exported}
use Rattle.nx_hold.specs.Changes.{place_of}
use Rattle.nx_nav.specs.Refusals.{HoldsNoneWith}
use Rattle.nx_edit.proofs.ToldLemmas.{told_so}
use Rattle.nx_store.specs.Told.{told_by}
use Rattle.nx_store.specs.Store.{NotApplied}
use Rattle.nx_store.specs.declared.store.Store.{Store}
use Rattle.nx_store.specs.declared.error.EngineError.{EngineError}
use Rattle.nx_store.proofs.CaseLemmas.{export_case}
use Rattle.nx_store.proofs.RefusalLemmas.{look_refused, look_same}
use Rattle.nx_store.proofs.LookLemmas.{absent_answer, found_answer_with, lacks_nowhere_with}
use Rattle.nx_store.proofs.store.Store.export.Goals as goal

pub returns-in_default-clause-ok : goal.returns-in_default-clause-ok
returns-in_default-clause-ok g c =
    let runs = sym c.is_ended.ensures ∙ c.if-is_ended.false in
    let none = ap (get (c.args.self.now.catalog).documents) (sym c.as_slice.ensures) ∙ sym c.in_default.ensures in
    ((runs, runs), (λ state at. export_case state c.args.name.now _ state (absent_answer c.args.name.now (λ (document : CutTree). Exported (text (tree_of document))) none at, refl)))

pub returns-in-Err-clause-refused : goal.returns-in-Err-clause-refused
returns-in-Err-clause-refused g c =
    let after : Store = record c.args.self.now { records = c.text_of.new.records } in
    let is : get (c.args.self.now.catalog).documents c.args.name.now ≡ Some c.in-Some.entry = ap (get (c.args.self.now.catalog).documents) (sym c.as_slice.ensures) ∙ sym c.in-Some.ensures in
    told_so (told_by c.in-Err.error) (λ (e : EngineError). NotApplied g.D.Disk e c.args.self.now after c.args.disk.now c.text_of.new.disk) c.told_by.result c.told_by.ensures
    (look_refused g.D.Disk c.args.self.now after ⊥ c.in-Err.error (λ is none. none) (lacks_nowhere_with c.args.name.now c.in-Some.entry is) c.text_of.ensures.still refl
    c.in-Err.ensures.refused)

pub returns-in-Ok-clause-ok : goal.returns-in-Ok-clause-ok
returns-in-Ok-clause-ok g c =
    let ok = c.in-Ok.ensures.ok in
    let after : Store = record c.args.self.now { records = c.text_of.new.records } in
    let is : get (c.args.self.now.catalog).documents c.args.name.now ≡ Some c.in-Some.entry = ap (get (c.args.self.now.catalog).documents) (sym c.as_slice.ensures) ∙ sym c.in-Some.ensures in (
      (ok.0, (ok.1).ended_stays ∙ ok.0),
      (λ state at. export_case state c.args.name.now _ state (found_answer_with c.args.name.now c.in-Some.entry (λ (document : CutTree). Exported (text (tree_of document))) (Exported c.in-Ok.text) is (λ document has count. ap Exported (ok.2 document has).1) at, refl)),
    )

pub returns-in-Err-clause-same : goal.returns-in-Err-clause-same
returns-in-Err-clause-same g c runs = record {
  records = look_same g.D.Disk ⊥ (HoldsNoneWith g.D.Disk c.args.self.now.records c.args.disk.now (place_of c.in-Some.entry.root) c.in-Some.entry.nodes) c.args.self.now.records c.text_of.new.records c.args.disk.now c.text_of.new.disk c.in-Err.error c.in-Err.ensures.refused runs;
  catalog = refl;
}
