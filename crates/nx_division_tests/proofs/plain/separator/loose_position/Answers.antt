use Rattle.std.proofs.Common.{[], ◌∷◌, ◌++◌, length, sym, ap, ◌∙◌, arith, length-append}
use Rattle.nx_division_tests.proofs.RunLemmas.{is_found, not_found}
use Rattle.nx_division_tests.proofs.PathLemmas.{same_ends}
use Rattle.nx_division_tests.proofs.plain.separator.loose_position.Goals as goal

pub returns-in_default : goal.returns-in_default
returns-in_default c =
    not_found {nodes = c.args.nodes.now} {t = c.args.t} {tolerance = c.args.tolerance} c.args.left (c.args.parent.now ++ c.args.position ∷ []) (sym c.in_default.ensures)

pub returns-in_default-split_last : goal.returns-in_default-split_last
returns-in_default-split_last c =
    let found = is_found {nodes = c.args.nodes.now} {t = c.args.t} {tolerance = c.args.tolerance} c.args.left (c.args.parent.now ++ c.args.position ∷ []) c.in-Some.node.now (sym c.in-Some.ensures) in
    let none = c.in_default-split_last.ensures.cases in
    absurd (omega (arith, ap length (c.path.ensures ∙ found.0), length-append c.args.parent.now (c.args.position ∷ [])))

pub returns : goal.returns
returns c =
    let found = is_found {nodes = c.args.nodes.now} {t = c.args.t} {tolerance = c.args.tolerance} c.args.left (c.args.parent.now ++ c.args.position ∷ []) c.in-Some.node.now (sym c.in-Some.ensures) in
    ((same_ends c.in-Some-split_last.field-0-1.now c.args.parent.now c.in-Some-split_last.last.now c.args.position (sym c.in-Some-split_last.ensures.cases.0 ∙ c.path.ensures ∙ found.0)).1, found.1)
