-- A child of a node as a walk over a view finds it.
use Rattle.std.specs.Prelude.{◌≡◌, ℕ, List, Option, None, Some}
use Rattle.std.specs.List.{slice_get}
use Rattle.nx_piece.specs.declared.finding.FoundView.{FoundView}
use Rattle.nx_piece.specs.declared.finding.FoundView.TheVariants.{Tree, Root}
use Rattle.nx_piece.specs.Viewing.{seen_tree}
use Rattle.nx_piece.specs.Locate.{PieceChild, Own, Kept}

-- the child that was found
abbrev pub seen_child : FoundView → PieceChild
seen_child (Tree tree first) = Own (seen_tree tree) first
seen_child (Root index member) = Kept index member

-- what was found of children is the one at a position
abbrev pub IsFoundView : List PieceChild → ℕ → Option FoundView → Type 0
IsFoundView children position None = slice_get children position ≡ None
IsFoundView children position (Some found) = slice_get children position ≡ Some (seen_child found)
