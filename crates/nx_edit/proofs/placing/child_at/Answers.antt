use Rattle.std.proofs.Common.{◌≡◌, ℕ, List, [], ◌∷◌, ◌++◌, None, ap, ◌∙◌, subst}
use Rattle.std.specs.Result.{IfErr}
use Rattle.std.proofs.lemmas.Result.{IfOk-weaker}
use Rattle.nx_tree.specs.Edit.{at}
use Rattle.nx_cuts.specs.Cut.{tree_of}
use Rattle.nx_hold.specs.Changes.{place_of}
use Rattle.nx_nav.specs.declared.error.NavError.{NavError}
use Rattle.nx_nav.specs.Refusals.{OfEach, HoldsNoDocument, IsRefused}
use Rattle.nx_nav.specs.Shows.{OutlinesNode}
use Rattle.nx_edit.proofs.placing.child_at.Goals as goal

pub returns-clause-refused : goal.returns-clause-refused
returns-clause-refused g c =
    let path : c.as_slice.result.now ≡ c.args.parent.now ++ c.args.position ∷ [] =
    c.as_slice.ensures.value ∙ c.in-Ok-push.ensures.items ∙ ap (λ (l : List ℕ). l ++ c.args.position ∷ []) (c.in-Ok.ensures.items ∙ ap (λ (l : List ℕ). l ++ c.args.parent.now) c.new-path.ensures.items) in
    subst (λ (p : List ℕ). IfErr c.outline.result (λ (e : NavError). IsRefused g.D.Disk (OfEach g.D.Disk c.args.records.now c.args.disk.now (place_of c.args.root) (λ document. at (tree_of document) p ≡ None)) ⊥
    (HoldsNoDocument g.D.Disk c.args.records.now c.args.disk.now (place_of c.args.root)) e c.args.records.now c.outline.new.records c.args.disk.now c.outline.new.disk)) path c.outline.ensures.refused

pub returns-clause-ok : goal.returns-clause-ok
returns-clause-ok g c =
    let path : c.as_slice.result.now ≡ c.args.parent.now ++ c.args.position ∷ [] =
    c.as_slice.ensures.value ∙ c.in-Ok-push.ensures.items ∙ ap (λ (l : List ℕ). l ++ c.args.position ∷ []) (c.in-Ok.ensures.items ∙ ap (λ (l : List ℕ). l ++ c.args.parent.now) c.new-path.ensures.items) in
    IfOk-weaker c.outline.result _ _ (λ seen told. (
      told.1,
      λ document has.
          let outlines = subst (λ (p : List ℕ). OutlinesNode (tree_of document) p seen) path (told.2 document has) in
          (outlines.0, outlines.1, outlines.2, outlines.3),
    )) c.outline.ensures.ok
