-- What a writer of a plan has still to write.
use Rattle.std.specs.Prelude.{◌≡◌, ℕ, List, [], ◌∷◌, ◌++◌, map, drop}
use Rattle.std.specs.List.{flat_map, zip}
use Rattle.nx_bounds.specs.declared.text.PlanLine.{PlanLine}
use Rattle.nx_bounds.specs.declared.text.writer.PlanWriter.TheInside.{Inside}
use Rattle.nx_bounds.specs.PlanText.{part_line, bound_lines, line_text}

-- the text of each line, which an LF ends
abbrev pub lines_text : List PlanLine → List ℕ
lines_text lines = flat_map (λ line. line_text line ++ 10 ∷ []) lines

-- what is still to be said: the intervals that are left, each with its weight, and the bounds of the nodes that are left
abbrev pub lines_left : Inside → List PlanLine
lines_left writer = map part_line (zip writer.parts.now writer.weights.now) ++ bound_lines writer.node (drop writer.node writer.bounds.now)

abbrev pub plan_text_left : Inside → List ℕ
plan_text_left writer = lines_text (lines_left writer)

-- bytes stand behind those that there were
abbrev pub HasMoreBytes : List ℕ → List ℕ → Type 0
HasMoreBytes old new = (bytes : List ℕ) × (new ≡ old ++ bytes)
