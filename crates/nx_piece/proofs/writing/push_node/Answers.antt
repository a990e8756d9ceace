use Rattle.std.proofs.Common.{ap, sym, ◌∙◌, subst}
use Rattle.std.specs.Prelude.{OnOk, Option}
use Rattle.nx_piece.specs.declared.piece.Far.{Far}
use Rattle.nx_piece.specs.PieceNode.{HasFarPage}
use Rattle.nx_piece.specs.Gapped.{GappedTree}
use Rattle.nx_piece.proofs.writing.push_node.Goals as goal

pub returns-in-Some-clause-page : goal.returns-in-Some-clause-page
returns-in-Some-clause-page c =
    subst (λ (far : Option Far). OnOk c.push_far.result (HasFarPage far)) (sym c.in-Some.is ∙ ap (λ (t : GappedTree). t.node.far) c.tree.view_is) c.push_far.ensures.page
