use Rattle.std.proofs.Common.{sym, ◌∙◌}
use Rattle.nx_division_tests.proofs.PathLemmas.{owner_here, owner_above}
use Rattle.nx_division_tests.proofs.plain.paths.+owner.Goals as goal

pub returns-in-Some-default : goal.returns-in-Some-default
returns-in-Some-default t c = sym (owner_here c.args.parts.now c.args.path.now c.in-Some-default.place (sym c.in-Some-default.ensures))

pub returns-in-None-Some : goal.returns-in-None-Some
returns-in-None-Some t c = c.owner.ensures ∙ sym (owner_above c.args.parts.now c.args.path.now c.in-None-Some.front.now c.in-None-Some.field-0-0-1.now c.in-None-Some.ensures'.cases.0 (sym c.in-None-Some.ensures))
