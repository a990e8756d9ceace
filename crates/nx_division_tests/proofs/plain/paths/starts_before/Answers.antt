use Rattle.nx_division_tests.proofs.PathLemmas.{root_first}
use Rattle.nx_division_tests.proofs.plain.paths.starts_before.Goals as goal

pub returns-in-Run-Root : goal.returns-in-Run-Root
returns-in-Run-Root c = root_first c.in-Run-Root.parent-0 c.in-Run-Root.first-0 c.in-Run-Root.last-0 c.in-Run-Root.is-0 c.in-Run-Root.is-1
