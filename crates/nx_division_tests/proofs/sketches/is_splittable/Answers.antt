use Rattle.std.proofs.Common.{sym, ◌∙◌}
use Rattle.nx_division_tests.proofs.SketchLemmas.{flat, splittable}
use Rattle.nx_division_tests.proofs.sketches.is_splittable.Goals as goal

pub returns-clause-splittable : goal.returns-clause-splittable
returns-clause-splittable c = λ e. splittable c.weigh.result c.args.spots.now c.weigh.ensures (sym c.is_some.ensures ∙ e)

pub returns-clause-flat : goal.returns-clause-flat
returns-clause-flat c = λ e. flat (splittable c.weigh.result c.args.spots.now c.weigh.ensures (sym c.is_some.ensures ∙ e))
