-- The text that steps tell.
use Rattle.std.specs.Prelude.{◌≡◌, ℕ, if◌then◌else◌, List, [], ◌∷◌, ◌++◌}
use Rattle.std.specs.List.{flat_map}
use Rattle.std.proofs.Common.{sym, ap, ◌∙◌, append_assoc}
use Rattle.std.proofs.lemmas.List.Concat.{flat_map-append}
use Rattle.nx_tree.specs.Document.{is_doc, is_element}
use Rattle.nx_pyx.specs.Text.{node_line, escaped}
use Rattle.nx_pyx.specs.LineStart.{line_start}
use Rattle.nx_pyx.specs.Writer.{end_line}
use Rattle.nx_nav.specs.Steps.{WalkStep, Begin, Open, Head, Block, Tail, Close}

-- a node's line where it begins, that of a document's root aside, block by block where its content comes so; and an element's end line where it ends
abbrev pub walk_step_text : WalkStep → List ℕ
walk_step_text (Begin roots weight) = []
walk_step_text (Open node) = if is_doc node.kind then [] else node_line node.kind node.name node.content ++ 10 ∷ []
walk_step_text (Head kind name) = line_start kind name
walk_step_text (Block bytes) = escaped bytes
walk_step_text Tail = 10 ∷ []
walk_step_text (Close kind name) = if is_element kind then end_line name else []

abbrev pub told_text : List WalkStep → List ℕ
told_text told = flat_map walk_step_text told

-- the bytes with this text behind them
pub text_joins : (was mid now : List ℕ) (told more : List WalkStep) → mid ≡ was ++ told_text told → now ≡ mid ++ told_text more → now ≡ was ++ told_text (told ++ more)
text_joins was mid now told more first second =
    second ∙ ap (λ x. x ++ told_text more) first ∙ append_assoc was (told_text told) (told_text more) ∙ ap (λ x. was ++ x) (sym (flat_map-append walk_step_text told more))
