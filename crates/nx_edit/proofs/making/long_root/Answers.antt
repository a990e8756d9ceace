use Rattle.std.proofs.Common.{sym, ◌∙◌}
use Rattle.std.proofs.lemmas.Bool.{false≢true}
use Rattle.nx_piece.specs.Gapped.{End, Grow}
use Rattle.nx_piece.proofs.WalkLemmas.{next_left}
use Rattle.nx_edit.specs.Making.{first_long}
use Rattle.nx_edit.proofs.LongLemmas.{not_some, roots_here, roots_tree}
use Rattle.nx_edit.proofs.making.long_root.Goals as goal

pub returns-then-has_long : goal.returns-then-has_long
returns-then-has_long c =
    let d = next_left c.args.roots.now c.loop-index.index c.index-roots-index.result c.loop-index-test.true c.index-roots-index.is in
    roots_here c.args.roots.now c.loop-index.index c.index-roots-index.result c.loop-index.invariant d (c.has_long.ensures.0 c.if-has_long.true)

pub loop-index-preserved : goal.loop-index-preserved
loop-index-preserved c =
    let d = next_left c.args.roots.now c.loop-index.index c.index-roots-index.result c.loop-index-test.true c.index-roots-index.is in
    roots_tree c.args.roots.now c.loop-index.index c.index-roots-index.result c.loop-index.invariant d
    (not_some (first_long (Grow (c.index-roots-index.result).node (c.index-roots-index.result).below End)) (λ some. false≢true (sym c.if-has_long.false ∙ c.has_long.ensures.1 some)))
