use Rattle.std.proofs.Common.{◌≡◌, ◌≤◌, ℕ, List, ◌++◌, None, ap, ◌∙◌, subst}
use Rattle.std.specs.Prelude.{IsSome}
use Rattle.std.proofs.lemmas.Result.{err_from_is_err_and}
use Rattle.nx_tree.specs.Edit.{at}
use Rattle.nx_cuts.specs.Cut.{tree_of}
use Rattle.nx_hold.specs.Changes.{place_of}
use Rattle.nx_nav.specs.Refusals.{OfEach, HoldsNoneWithin, IsRefused, node_count}
use Rattle.nx_nav.specs.Told.{told_text}
use Rattle.nx_nav.proofs.BelowLemmas.{has_tree_text}
use Rattle.nx_nav.proofs.DocumentLemmas.{document_seen, asked_refused}
use Rattle.nx_nav.proofs.telling.subtree_of.Goals as goal

pub returns-clause-ok : goal.returns-clause-ok
returns-clause-ok g c =
    let told = c.in_ok-tell_below.ensures.told in (
      c.in_ok-tell_below.ensures.stays.0,
      c.in_ok-tell_below.ensures.stays.1,
      λ document h.
          let all = told.all (document_seen (told.goes).0 h) document h in
          (all.0, all.1, (told.goes).1 ∙ ap (λ (x : List ℕ). x ++ told_text told.told) c.text_walk-walk.ensures.none ∙ has_tree_text h c.args.path.now all.0 told.told all.1 all.2),
    )

pub returns-in_err-tell_below-clause-refused : goal.returns-in_err-tell_below-clause-refused
returns-in_err-tell_below-clause-refused g c =
    let p = err_from_is_err_and c.from_residual.result c.from_residual.ensures.1 in
    rw (p.1, p.2)
    (asked_refused g.D.Disk (OfEach g.D.Disk c.args.records.now c.args.disk.now (place_of c.args.root) (λ document. at (tree_of document) c.args.path.now ≡ None)) (λ document. node_count document ≤ c.args.nodes → ⊥)
    c.args.records.now c.tell_below.new.records c.args.disk.now c.tell_below.new.disk (place_of c.args.root) c.in_err-tell_below.field-0.0 (c.in_err-tell_below.ensures.stops.goes).0
    (subst (λ (n : ℕ). IsRefused g.D.Disk (OfEach g.D.Disk c.args.records.now c.args.disk.now (place_of c.args.root) (λ document. at (tree_of document) c.args.path.now ≡ None)) ⊥
    (IsSome (g.D.Disk.contents c.tell_below.new.disk) → HoldsNoneWithin g.D.Disk c.args.records.now c.args.disk.now (place_of c.args.root) n) c.in_err-tell_below.field-0.0 c.args.records.now c.tell_below.new.records c.args.disk.now c.tell_below.new.disk)
    c.text_walk-walk.ensures.left c.in_err-tell_below.ensures.refused))

pub returns-in_err-tell_below-clause-reads : goal.returns-in_err-tell_below-clause-reads
returns-in_err-tell_below-clause-reads g c = λ document h. c.tell_below.ensures.reads (document_seen (c.in_err-tell_below.ensures.stops.goes).0 h) document h

pub returns-clause-reads : goal.returns-clause-reads
returns-clause-reads g c = λ document h. c.tell_below.ensures.reads (document_seen (c.in_ok-tell_below.ensures.told.goes).0 h) document h
