use Rattle.std.proofs.Common.{◌∙◌, arith}
use Rattle.std.proofs.lemmas.Result.{on_ok_weaker, IfErr-weaker}
use Rattle.nx_weights.proofs.LimitLemmas.{document_within}
use Rattle.nx_bounds.proofs.WalkLemmas.{walk_supports, walk_refuses_in}
use Rattle.nx_bounds.proofs.MinimaLemmas.{minima_supported, not_refused}
use Rattle.nx_bounds.proofs.support.supported.Goals as goal

pub count-nodes-requires : goal.count-nodes-requires
count-nodes-requires c = c.requires.document.small

pub check_tree-requires : goal.check_tree-requires
check_tree-requires c =
    let h = c.requires.document.small in
    record { some = c.requires.some; bound = c.requires.bound; limits = document_within c.args.tree.now c.requires.document; few = omega arith; enough = omega arith }

pub returns-clause-ok : goal.returns-clause-ok
returns-clause-ok c =
    on_ok_weaker c.check_tree.result
    (walk_supports c.args.k c.args.tree.now c.as_slice-bounds.result.now c.args.bounds.now c.as_slice-bounds.ensures (c.if-bounds-nodes.false ∙ c.count-nodes.ensures))
    c.check_tree.ensures.ok

pub returns-clause-err : goal.returns-clause-err
returns-clause-err c =
    IfErr-weaker c.check_tree.result _ _
    (walk_refuses_in c.args.k c.args.tree.now c.as_slice-bounds.result.now c.args.bounds.now c.as_slice-bounds.ensures (c.if-bounds-nodes.false ∙ c.count-nodes.ensures))
    c.check_tree.ensures.err

pub returns-clause-minima : goal.returns-clause-minima
returns-clause-minima c = λ m.
    IfErr-weaker c.check_tree.result _ _
    (λ error h. not_refused c.args.k c.args.tree.now c.args.bounds.now error (minima_supported c.args.k c.args.tree.now c.args.bounds.now m)
    (walk_refuses_in c.args.k c.args.tree.now c.as_slice-bounds.result.now c.args.bounds.now c.as_slice-bounds.ensures (c.if-bounds-nodes.false ∙ c.count-nodes.ensures) error h))
    c.check_tree.ensures.err
