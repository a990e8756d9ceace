use Rattle.std.proofs.Common.{◌≡◌, ℕ, ◌+◌, [], ◌∷◌, ◌++◌, subst}
use Rattle.std.specs.Bool.{Decides}
use Rattle.nx_sketch.specs.Separator.{IsLoose}
use Rattle.nx_division_tests.proofs.TestLemmas.{both_then, both_else}
use Rattle.nx_division_tests.proofs.plain.separator.is_first_of_row.Goals as goal

pub returns-then-is_loose_at : goal.returns-then-is_loose_at
returns-then-is_loose_at c =
    both_then {P = IsLoose c.args.nodes.now c.args.t c.args.tolerance c.args.left (c.args.parent.now ++ c.args.first ∷ [])} {Q = (position : ℕ) → position + 1 ≡ c.args.first → ¬ IsLoose c.args.nodes.now c.args.t c.args.tolerance c.args.left (c.args.parent.now ++ position ∷ [])}
    c.is_begun.result
    (subst (λ n. IsLoose c.args.nodes.now c.args.t c.args.tolerance c.args.left (c.args.parent.now ++ n ∷ [])) c.from.ensures (c.is_loose_at.ensures.0 c.if-is_loose_at.true))
    c.is_begun.ensures

pub returns-else-is_loose_at : goal.returns-else-is_loose_at
returns-else-is_loose_at c =
    both_else {P = IsLoose c.args.nodes.now c.args.t c.args.tolerance c.args.left (c.args.parent.now ++ c.args.first ∷ [])} {Q = (position : ℕ) → position + 1 ≡ c.args.first → ¬ IsLoose c.args.nodes.now c.args.t c.args.tolerance c.args.left (c.args.parent.now ++ position ∷ [])}
    c.is_loose_at.result c.if-is_loose_at.false
    (subst (λ n. Decides c.is_loose_at.result (IsLoose c.args.nodes.now c.args.t c.args.tolerance c.args.left (c.args.parent.now ++ n ∷ []))) c.from.ensures c.is_loose_at.ensures)
