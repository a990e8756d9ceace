use Rattle.std.proofs.Common.{[], ◌∷◌, ◌++◌, ap, ◌∙◌}
use Rattle.std.proofs.lemmas.Bool.Decides.{Decides-at}
use Rattle.nx_division_tests.specs.Tests.{single_test}
use Rattle.nx_division_tests.proofs.RunLemmas.{single_decides}
use Rattle.nx_division_tests.proofs.plain.separator.is_single_child.Goals as goal

pub returns : goal.returns
returns c =
    Decides-at c.is_single.result (single_test c.args.nodes.now c.args.t c.args.tolerance (c.args.parent.now ++ c.args.first ∷ []))
    (c.is_single.ensures ∙ ap (single_test c.args.nodes.now c.args.t c.args.tolerance) c.requires.path)
    (single_decides c.args.nodes.now c.args.t c.args.tolerance c.args.parent.now c.args.first)
