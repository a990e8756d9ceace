use Rattle.std.proofs.Common.{◌∙◌}
use Rattle.nx_division_tests.proofs.PathLemmas.{prefix_test}
use Rattle.nx_division_tests.proofs.plain.paths.is_prefix.Goals as goal

pub returns : goal.returns
returns c = c.starts_with.ensures.value ∙ prefix_test c.args.prefix.now c.args.path.now
