use Rattle.std.proofs.Common.{◌≡◌, ◌+◌, [], ◌∷◌, ◌++◌, ap, subst, ◌∙◌}
use Rattle.nx_sketch.specs.Separator.{IsLoose}
use Rattle.nx_division_tests.specs.Runs.{IsRowEnd}
use Rattle.nx_division_tests.proofs.RunLemmas.{longer_row, last_of_row}
use Rattle.nx_division_tests.proofs.plain.separator.+row_end.Goals as goal

pub returns-in-Some : goal.returns-in-Some
returns-in-Some t c =
    let loose = c.in-Some.ensures in
    let next : c.in-Some.next ≡ c.args.last + 1 = loose.0 ∙ ap (λ n. n + 1) c.from.ensures in
    longer_row {nodes = c.args.nodes.now} {t = c.args.t} {tolerance = c.args.tolerance} c.args.left c.args.parent.now c.args.last c.row_end.result
    (subst (λ n. IsLoose c.args.nodes.now c.args.t c.args.tolerance c.args.left (c.args.parent.now ++ (n + 1) ∷ [])) c.from.ensures loose.1)
    (subst (λ n. IsRowEnd c.args.nodes.now c.args.t c.args.tolerance c.args.left c.args.parent.now n c.row_end.result) next c.row_end.ensures)

pub returns-in-None : goal.returns-in-None
returns-in-None t c =
    last_of_row {nodes = c.args.nodes.now} {t = c.args.t} {tolerance = c.args.tolerance} c.args.left c.args.parent.now c.args.last
    (subst (λ n. ¬ IsLoose c.args.nodes.now c.args.t c.args.tolerance c.args.left (c.args.parent.now ++ (n + 1) ∷ [])) c.from.ensures c.in-None.ensures)
