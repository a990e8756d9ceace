use Rattle.std.proofs.Common.{◌<◌, ◌∷◌, IsTrue, refl, sym, ap, subst, ◌∙◌}
use Rattle.nx_tree.specs.Document.{IsDocument}
use Rattle.nx_pyx.specs.DocumentName.{is_document_name}
use Rattle.nx_gen.specs.Remaining.{remaining_at}
use Rattle.nx_gen.proofs.CanComeLemmas.{document_is}
use Rattle.nx_gen.proofs.NextLemmas.{positive, drawn_is, left_to_delete, left_to_draw}
use Rattle.nx_gen.proofs.generator.Gen.next.Goals as goal
use Rattle.nx_gen.proofs.generator.Gen.next.Goals.{then-kind-eq3, else-kind-eq3}

pub returns-after-kind-eq3-clause-ok : goal.returns-after-kind-eq3-clause-ok
returns-after-kind-eq3-clause-ok c =
    let n = c.self.inside.n in
    let many = c.in-Draws.many in
    let state = c.self.inside.draws.state in
    let command = c.in_ok-command-in-Draws.command in
    let drawn = drawn_is n state c.below-element.result c.below-kind.result c.below-element.new.self.state c.below-kind.new.self.state c.command.new.draws.state command
    c.below-element.ensures.value c.below-element.ensures.state c.below-kind.ensures.value c.below-kind.ensures.state c.in_ok-command-in-Draws.ensures.command c.in_ok-command-in-Draws.ensures.state in
    let some : 0 < many = positive many (rw c.in-Draws.is at c.in-Draws.many-test.1) in
    let was = sym c.self.view_is ∙ ap (λ s. remaining_at s n state) c.in-Draws.is in
    was ∙ (elim c.if-kind-eq3.branch [
      | then-kind-eq3 w ↦ left_to_delete n many state c.below-element.result c.below-kind.result c.command.new.draws.state command some drawn w.if-kind-eq3.true ∙ ap (λ s. command ∷ remaining_at s n c.command.new.draws.state) (sym w.self-is)
      | else-kind-eq3 w ↦ left_to_draw n many state c.below-element.result c.below-kind.result c.command.new.draws.state command some drawn w.if-kind-eq3.false ∙ ap (λ s. command ∷ remaining_at s n c.command.new.draws.state) (sym w.self-is)
    ])

pub returns-in_ok-name-in-Begins-clause-can : goal.returns-in_ok-name-in-Begins-clause-can
returns-in_ok-name-in-Begins-clause-can c = (
  subst (λ name. IsTrue (is_document_name name)) (sym c.in_ok-name-in-Begins.ensures) refl,
  subst IsDocument (sym c.in_ok-tree-in-Begins.ensures.tree) (document_is c.self.inside.n c.self.inside.draws.state c.self.invariant.1),
)
