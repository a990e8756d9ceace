use Rattle.std.proofs.Common.{◌≡◌, ℕ, List, sym, ap, subst, ◌∙◌, refl}
use Rattle.std.proofs.lemmas.Bool.{false≢true}
use Rattle.std.specs.Prelude.{Some, None}
use Rattle.std.specs.Option.{option_map_or}
use Rattle.std.specs.FinMap.{get}
use Rattle.nx_tree.specs.Edit.{at as at_path}
use Rattle.nx_cuts.specs.Cut.{CutTree, tree_of}
use Rattle.nx_hold.specs.Changes.{place_of}
use Rattle.nx_nav.specs.Refusals.{OfEach, HoldsNoDocument}
use Rattle.nx_nav.specs.Shows.{ShowsNode}
use Rattle.nx_script.specs.declared.reply.Reply.{Reply}
use Rattle.nx_script.specs.declared.reply.Reply.TheVariants.{Shown, Refused}
use Rattle.nx_script.specs.declared.reply.ReplyError.TheVariants.{NoNode}
use Rattle.nx_engine.specs.Step.{shown}
use Rattle.nx_edit.proofs.ToldLemmas.{told_so}
use Rattle.nx_store.specs.Told.{told_by}
use Rattle.nx_store.specs.Store.{NotApplied}
use Rattle.nx_store.specs.declared.store.Store.{Store}
use Rattle.nx_store.specs.declared.error.EngineError.{EngineError}
use Rattle.nx_store.proofs.CaseLemmas.{get_case}
use Rattle.nx_store.proofs.RefusalLemmas.{look_refused, look_same, is_nowhere}
use Rattle.nx_store.proofs.LookLemmas.{absent_answer, found_answer, lacks_nowhere, shown_answer, nowhere_answer}
use Rattle.nx_store.proofs.ReadLemmas.{absent_reads, found_reads}
use Rattle.nx_store.proofs.store.Store.get.Goals as goal

-- what is answered of a document
abbrev answer : List ℕ → CutTree → Reply
answer path document = option_map_or shown (at_path (tree_of document) path) (Refused NoNode)

pub returns-in_default-clause-ok : goal.returns-in_default-clause-ok
returns-in_default-clause-ok g c =
    let runs = sym c.is_ended.ensures ∙ c.if-is_ended.false in
    let none = ap (get (c.args.self.now.catalog).documents) (sym c.as_slice.ensures) ∙ sym c.in_default.ensures in (
      (runs, runs),
      (λ state at. get_case state c.args.name.now c.args.path.now _ state (absent_answer c.args.name.now (answer c.args.path.now) none at, refl)),
    )

pub returns-in-Ok-clause-ok : goal.returns-in-Ok-clause-ok
returns-in-Ok-clause-ok g c =
    let ok = c.in-Ok.ensures.ok in
    let after : Store = record c.args.self.now { records = c.get.new.records } in
    let is : get (c.args.self.now.catalog).documents c.args.name.now ≡ Some c.in-Some.entry = ap (get (c.args.self.now.catalog).documents) (sym c.as_slice.ensures) ∙ sym c.in-Some.ensures in (
      (ok.0, (ok.1).ended_stays ∙ ok.0),
      (λ state at. get_case state c.args.name.now c.args.path.now _ state (
        found_answer c.args.name.now c.in-Some.entry (answer c.args.path.now) (Shown c.in-Ok.shown.node c.in-Ok.shown.children) is
            (λ document has. shown_answer (tree_of document) c.args.path.now c.in-Ok.shown (subst (λ (p : List ℕ). ShowsNode (tree_of document) p c.in-Ok.shown) c.as_slice-2.ensures (ok.2 document has))) at,
        refl,
      )),
    )

pub returns-then-is_no_node-clause-ok : goal.returns-then-is_no_node-clause-ok
returns-then-is_no_node-clause-ok g c =
    let nowhere = is_nowhere g.D.Disk (OfEach g.D.Disk c.args.self.now.records c.args.disk.now (place_of c.in-Some.entry.root) (λ document. at_path (tree_of document) c.as_slice-2.result.now ≡ None)) ⊥
    (HoldsNoDocument g.D.Disk c.args.self.now.records c.args.disk.now (place_of c.in-Some.entry.root)) c.args.self.now.records c.get.new.records c.args.disk.now c.get.new.disk c.in-Err.error
    (sym c.is_no_node.ensures ∙ c.if-is_no_node.true) c.in-Err.ensures.refused in
    let after : Store = record c.args.self.now { records = c.get.new.records } in
    let is : get (c.args.self.now.catalog).documents c.args.name.now ≡ Some c.in-Some.entry = ap (get (c.args.self.now.catalog).documents) (sym c.as_slice.ensures) ∙ sym c.in-Some.ensures in (
      (nowhere.1, (nowhere.2).ended_stays ∙ nowhere.1),
      (λ state at. get_case state c.args.name.now c.args.path.now _ state (
        found_answer c.args.name.now c.in-Some.entry (answer c.args.path.now) (Refused NoNode) is
            (λ document has. nowhere_answer (tree_of document) c.args.path.now (subst (λ (p : List ℕ). at_path (tree_of document) p ≡ None) c.as_slice-2.ensures (nowhere.0 document has))) at,
        refl,
      )),
    )

pub returns-else-is_no_node-clause-refused : goal.returns-else-is_no_node-clause-refused
returns-else-is_no_node-clause-refused g c =
    let after : Store = record c.args.self.now { records = c.get.new.records } in
    let is : get (c.args.self.now.catalog).documents c.args.name.now ≡ Some c.in-Some.entry = ap (get (c.args.self.now.catalog).documents) (sym c.as_slice.ensures) ∙ sym c.in-Some.ensures in
    told_so (told_by c.in-Err.error) (λ (e : EngineError). NotApplied g.D.Disk e c.args.self.now after c.args.disk.now c.get.new.disk) c.told_by.result c.told_by.ensures
    (look_refused g.D.Disk c.args.self.now after (OfEach g.D.Disk c.args.self.now.records c.args.disk.now (place_of c.in-Some.entry.root) (λ document. at_path (tree_of document) c.as_slice-2.result.now ≡ None)) c.in-Err.error
    (λ is nowhere. false≢true (sym (sym c.is_no_node.ensures ∙ c.if-is_no_node.false) ∙ is)) (lacks_nowhere c.args.name.now c.in-Some.entry is) c.get.ensures.still refl c.in-Err.ensures.refused)

pub returns-then-is_no_node-clause-same : goal.returns-then-is_no_node-clause-same
returns-then-is_no_node-clause-same g c runs = record {
  records = look_same g.D.Disk (OfEach g.D.Disk c.args.self.now.records c.args.disk.now (place_of c.in-Some.entry.root) (λ document. at_path (tree_of document) c.as_slice-2.result.now ≡ None))
      (HoldsNoDocument g.D.Disk c.args.self.now.records c.args.disk.now (place_of c.in-Some.entry.root)) c.args.self.now.records c.get.new.records c.args.disk.now c.get.new.disk c.in-Err.error c.in-Err.ensures.refused runs;
  catalog = refl;
}

pub returns-else-is_no_node-clause-same : goal.returns-else-is_no_node-clause-same
returns-else-is_no_node-clause-same g c runs = record {
  records = look_same g.D.Disk (OfEach g.D.Disk c.args.self.now.records c.args.disk.now (place_of c.in-Some.entry.root) (λ document. at_path (tree_of document) c.as_slice-2.result.now ≡ None))
      (HoldsNoDocument g.D.Disk c.args.self.now.records c.args.disk.now (place_of c.in-Some.entry.root)) c.args.self.now.records c.get.new.records c.args.disk.now c.get.new.disk c.in-Err.error c.in-Err.ensures.refused runs;
  catalog = refl;
}

pub returns-in_default-clause-reads : goal.returns-in_default-clause-reads
returns-in_default-clause-reads g c =
    absent_reads g.D.Disk c.args.name.now c.args.path.now c.args.self.now c.args.disk.now (ap (get (c.args.self.now.catalog).documents) (sym c.as_slice.ensures) ∙ sym c.in_default.ensures)

pub returns-in-Ok-clause-reads : goal.returns-in-Ok-clause-reads
returns-in-Ok-clause-reads g c =
    found_reads g.D.Disk c.args.name.now c.args.path.now c.as_slice-2.result.now c.in-Some.entry c.args.self.now c.args.disk.now c.get.new.disk
    (ap (get (c.args.self.now.catalog).documents) (sym c.as_slice.ensures) ∙ sym c.in-Some.ensures) c.as_slice-2.ensures c.get.ensures.reads

pub returns-then-is_no_node-clause-reads : goal.returns-then-is_no_node-clause-reads
returns-then-is_no_node-clause-reads g c =
    found_reads g.D.Disk c.args.name.now c.args.path.now c.as_slice-2.result.now c.in-Some.entry c.args.self.now c.args.disk.now c.get.new.disk
    (ap (get (c.args.self.now.catalog).documents) (sym c.as_slice.ensures) ∙ sym c.in-Some.ensures) c.as_slice-2.ensures c.get.ensures.reads

pub returns-else-is_no_node-clause-reads : goal.returns-else-is_no_node-clause-reads
returns-else-is_no_node-clause-reads g c =
    found_reads g.D.Disk c.args.name.now c.args.path.now c.as_slice-2.result.now c.in-Some.entry c.args.self.now c.args.disk.now c.get.new.disk
    (ap (get (c.args.self.now.catalog).documents) (sym c.as_slice.ensures) ∙ sym c.in-Some.ensures) c.as_slice-2.ensures c.get.ensures.reads
