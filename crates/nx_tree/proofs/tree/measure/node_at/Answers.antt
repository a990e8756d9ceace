use Rattle.std.proofs.Common.{refl, sym, ap, ◌∙◌}
use Rattle.std.proofs.lemmas.Option.{slice_get_past}
use Rattle.nx_tree.specs.Forest.{OrderedTree, trees_of}
use Rattle.nx_tree.proofs.PlaceLemmas.{got}
use Rattle.nx_tree.proofs.TestLemmas.{at-next, at-nowhere}
use Rattle.nx_tree.proofs.tree.measure.node_at.Goals as goal

pub returns-in_default-clause-err : goal.returns-in_default-clause-err
returns-in_default-clause-err c = (
  refl,
  sym c.loop-position.invariant
      ∙ at-nowhere c.loop-position.found.now c.args.path.now c.loop-position.position-index c.as_slice.result.now c.loop-position-test.true
      (c.as_slice.ensures.trees ∙ ap (λ (t : OrderedTree). trees_of t.below) c.found.view_is)
      (slice_get_past _ _ c.in_default.ensures.lookup.3),
)

pub loop-position-preserved : goal.loop-position-preserved
loop-position-preserved c =
    at-next c.loop-position.found.now c.in-Some.child.now c.args.path.now c.loop-position.position-index c.as_slice.result.now c.loop-position-test.true
    (c.as_slice.ensures.trees ∙ ap (λ (t : OrderedTree). trees_of t.below) c.found.view_is)
    (got _ _ _ c.in-Some.ensures.lookup.3)
    ∙ c.loop-position.invariant
