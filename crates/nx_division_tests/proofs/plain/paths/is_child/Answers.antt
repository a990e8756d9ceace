use Rattle.std.proofs.Common.{eqb, sym, ap, ◌∙◌}
use Rattle.nx_division_tests.proofs.PathLemmas.{child_then, child_else}
use Rattle.nx_division_tests.proofs.plain.paths.is_child.Goals as goal

pub returns-then-eq : goal.returns-then-eq
returns-then-eq c =
    ap (λ n. eqb n c.args.position) c.from.ensures
    ∙ child_then c.in-Some.front.now c.args.parent.now c.in-Some.last.now c.args.position c.in-Some.ensures.cases.0 (sym c.if-eq.true ∙ c.eq.ensures)

pub returns-else-eq : goal.returns-else-eq
returns-else-eq c = child_else c.in-Some.front.now c.args.parent.now c.in-Some.last.now c.args.position c.in-Some.ensures.cases.0 c.if-eq.false c.eq.ensures
