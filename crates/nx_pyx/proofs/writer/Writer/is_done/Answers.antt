use Rattle.std.proofs.Common.{◌≡◌, ◌++◌, [], ◌∙◌, ap, sym, length, vec_len, arith}
use Rattle.std.proofs.lemmas.Bool.{false≢true, eqb-true, eq-eqb}
use Rattle.std.proofs.lemmas.List.{nil_from_length}
use Rattle.nx_tree.specs.Forest.{forest_of}
use Rattle.nx_pyx.specs.Writer.{forest_text, text_after}
use Rattle.nx_pyx.proofs.DoneLemmas.{left_nil}
use Rattle.nx_pyx.proofs.writer.Writer.is_done.Goals as goal

pub returns-then-is_empty : goal.returns-then-is_empty
returns-then-is_empty c =
    let rest = c.self.inside.rest.now in
    let elements = c.self.inside.elements in
    let len : vec_len elements ≡ length elements.items = omega (arith, elements.ok.0) in
    let none : rest ≡ [] = nil_from_length rest (eqb-true _ _ (sym c.is_empty.ensures ∙ c.if-is_empty.true)) in (
      λ t. let closed : elements.items ≡ [] = nil_from_length elements.items (sym len ∙ eqb-true _ _ (sym c.is_empty-then-is_empty.ensures ∙ t)) in
          sym c.self.view_is ∙ ap (λ x. forest_text (forest_of x) ++ text_after elements.items) none ∙ ap text_after closed,
      λ e. c.is_empty-then-is_empty.ensures ∙ eq-eqb _ _ (len ∙ ap length (left_nil rest elements.items (c.self.view_is ∙ e)).1),
    )

pub returns-else-is_empty : goal.returns-else-is_empty
returns-else-is_empty c = (
  λ t. absurd (false≢true (sym c.if-is_empty.false ∙ t)),
  λ e. c.is_empty.ensures ∙ eq-eqb _ _ (ap length (left_nil c.self.inside.rest.now c.self.inside.elements.items (c.self.view_is ∙ e)).0),
)
