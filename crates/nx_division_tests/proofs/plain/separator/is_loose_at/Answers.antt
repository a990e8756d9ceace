use Rattle.std.proofs.Common.{[], ◌∷◌, ◌++◌}
use Rattle.std.proofs.lemmas.Bool.Decides.{Decides-at}
use Rattle.nx_division_tests.specs.Tests.{loose_test}
use Rattle.nx_division_tests.proofs.RunLemmas.{loose_decides}
use Rattle.nx_division_tests.proofs.plain.separator.is_loose_at.Goals as goal

pub returns : goal.returns
returns c = Decides-at c.is_loose.result (loose_test c.args.nodes.now c.args.t c.args.tolerance c.args.left (c.args.parent.now ++ c.args.position ∷ [])) c.is_loose.ensures (loose_decides c.args.nodes.now c.args.t c.args.tolerance c.args.left (c.args.parent.now ++ c.args.position ∷ []))
