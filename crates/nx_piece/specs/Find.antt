-- Where a path leads in a view of a piece.
use Rattle.std.specs.Prelude.{◌≡◌, Some}
use Rattle.std.specs.List.{slice_get}
use Rattle.nx_piece.specs.declared.piece.Piece.{Piece}
use Rattle.nx_piece.specs.declared.finding.LocatedView.{LocatedView}
use Rattle.nx_piece.specs.declared.finding.LocatedView.TheVariants.{Here, Away, Nowhere}
use Rattle.nx_piece.specs.Viewing.{seen_tree}
use Rattle.nx_piece.specs.Locate.{Reached, Inside, Outside, Missing, IsPartOf}

-- the answer says where the path leads, and of a proxy besides what it is
abbrev pub IsLocatedView : Piece → Reached → LocatedView → Type 0
IsLocatedView piece end (Here tree first) = (end ≡ Inside (seen_tree tree) first) × IsPartOf piece (seen_tree tree) first
IsLocatedView piece end (Away proxy index member used) = (end ≡ Outside index member used) × (slice_get piece.proxies index ≡ Some proxy)
IsLocatedView piece end Nowhere = end ≡ Missing
