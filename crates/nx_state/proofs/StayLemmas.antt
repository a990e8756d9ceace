-- Documents stay where the pieces of their records stay.
use Rattle.std.proofs.Common.{◌≡◌, List, [], ◌∷◌, Option, None, Some, inl, inr, ap}
use Rattle.std.specs.Option.{MatchOption}
use Rattle.std.specs.Prelude.{All, Contains}
use Rattle.std.proofs.lemmas.List.Elements.{All-head, All-tail, Contains-append_cases}
use Rattle.nx_holdings.specs.Holdings.{Held}
use Rattle.nx_piece.specs.declared.piece.Piece.{Piece}
use Rattle.nx_layouts.specs.Layout.{RecordPlace, Layout, Stock, whole}
use Rattle.nx_layouts.specs.Nodes.{StayAt}
use Rattle.nx_layouts.proofs.PlaceLemmas.{no_place}
use Rattle.nx_layouts.proofs.HeldLemmas.{HasAll, laid_there, layout_held}
use Rattle.nx_hold.specs.Changes.{place_of}
use Rattle.nx_hold.specs.Pieces.{HoldsPiece, HoldsNone, PieceMap}
use Rattle.nx_hold.proofs.PieceLemmas.{one_piece}
use Rattle.nx_state.specs.Stands.{StoredDocument, IsStoredIn, record_places, all_places}

-- of what is held there is one map of pieces
pub one_map : (held : Held) (pieces other : PieceMap held) (place : RecordPlace) → pieces.piece_at place ≡ other.piece_at place
one_map held pieces other place = same (pieces.piece_at place) (other.piece_at place) (pieces.are place) (other.are place)
  where
    same : (o p : Option Piece) → MatchOption o (HoldsNone held place) (λ piece. HoldsPiece held place piece) → MatchOption p (HoldsNone held place) (λ piece. HoldsPiece held place piece) → o ≡ p
    same None None h k = λ i. None
    same None (Some y) h k = absurd (h y k)
    same (Some x) None h k = absurd (k x h)
    same (Some x) (Some y) h k = ap Some (one_piece held place x y h k)

-- the row of a document's records
abbrev pub record_row : StoredDocument → Layout
record_row s = whole (place_of s.entry.root) s.document.node s.layout

-- a document stays where the pieces of its records and its contents stay
pub stored_there : (one other : Stock) (s : StoredDocument) → StayAt one other (record_row s) → IsStoredIn one s → IsStoredIn other s
stored_there one other s stay h = record { laid = laid_there one other (place_of s.entry.root) s.document s.layout stay h.laid; counted = h.counted }

pub stored_along : (one other : Stock) (s : StoredDocument) → HasAll one other → IsStoredIn one s → IsStoredIn other s
stored_along one other s all h =
    stored_there one other s (record {
      pieces = λ place piece among. all.pieces place piece;
      lists = λ n among read first far. all.lists first n.node.content (read first far);
      most = all.most;
    }) h

pub places_held : (stock : Stock) (stored : List StoredDocument) (place : RecordPlace) → All (IsStoredIn stock) stored → Contains (all_places stored) place → (piece : Piece) × (stock.piece_at place ≡ Some piece)
places_held stock [] place each among = absurd (no_place place among)
places_held stock (s ∷ stored) place each among =
    elim (Contains-append_cases (record_places s) (all_places stored) place among) [
      | inl one ↦ layout_held stock (record_row s) place (((All-head (IsStoredIn stock) s stored each).laid).held) one
      | inr other ↦ places_held stock stored place (All-tail (IsStoredIn stock) s stored each) other
    ]
