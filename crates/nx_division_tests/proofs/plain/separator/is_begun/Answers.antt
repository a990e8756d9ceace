use Rattle.std.proofs.Common.{◌≡◌, ◌+◌, [], ◌∷◌, ◌++◌, arith}
use Rattle.nx_sketch.specs.Separator.{IsLoose}
use Rattle.nx_division_tests.proofs.RunLemmas.{begun_decides}
use Rattle.nx_division_tests.proofs.plain.separator.is_begun.Goals as goal

pub returns : goal.returns
returns c =
    begun_decides {P = λ n. IsLoose c.args.nodes.now c.args.t c.args.tolerance c.args.left (c.args.parent.now ++ n ∷ [])} c.is_loose_at.result c.args.first c.from.result
    (let e : c.from.result + 1 ≡ c.args.first = let h = c.from.ensures in omega arith in e) c.is_loose_at.ensures
