-- A row that comes in the place of a proxy, in the piece of a record.
use Rattle.std.specs.Prelude.{◌≡◌, ℕ, ◌+◌, ◌≤◌, List, [], ◌∷◌, ◌++◌, length, take, drop}
use Rattle.nx_records.specs.Words.{Held}
use Rattle.nx_piece.specs.declared.piece.Piece.{Piece}
use Rattle.nx_piece.specs.declared.piece.Proxy.{Proxy}
use Rattle.nx_piece.specs.Gapped.{GappedTree, End, Gap, gapped_weight, gapped_width}
use Rattle.nx_piece_edits.specs.Cutting.{with_items_at}
use Rattle.nx_piece.specs.Locate.{Inside, reached_in}
use Rattle.nx_layouts.specs.Layout.{RecordPlace}
use Rattle.nx_hold.specs.Pieces.{HoldsPiece}
use Rattle.nx_hold.specs.Changes.{place_named}
use Rattle.nx_divide.specs.declared.dividing.Row.{Row}
use Rattle.nx_nav.specs.declared.routing.PassedRecord.{PassedRecord}
use Rattle.nx_edit.specs.Passing.{IsPassedAs, PutsOrStays}

-- the row may come in the place of a proxy of the piece: it has no more proxies than one may have, and with the row's trees it weighs no more than k
pub record MayHaveRow (k : ℕ) (piece : Piece) (row : Row) : Type 0 where
  pub few : length piece.proxies + length row.proxies ≤ 524289
  pub light : gapped_weight piece.body.roots + gapped_weight row.items ≤ k

-- a piece in which it does
abbrev pub piece_with_row : (index : ℕ) (row : Row) (piece : Piece) → Piece
piece_with_row index row piece = record {
  body = record { roots = with_items_at index row.items piece.body.roots };
  proxies = take index piece.proxies ++ row.proxies ++ drop (index + 1) piece.proxies;
}

-- the row is this proxy alone
abbrev pub IsOneProxy : Row → Proxy → Type 0
IsOneProxy row proxy = (row.items ≡ Gap 1 End) × (row.proxies ≡ proxy ∷ [])

-- the piece came in the place of a record, or stays there, under one proxy
abbrev pub IsPutAlone : (place : RecordPlace) (piece : Piece) (row : Row) (was now : Held) → Type 0
IsPutAlone place piece row was now = (proxy : Proxy) × IsOneProxy row proxy × (proxy.roots ≡ gapped_width piece.body.roots) × PutsOrStays place (place_named proxy) piece was now

-- the path leads to this tree of the piece
abbrev pub IsTreeAt : Piece → ℕ → List ℕ → GappedTree → Type 0
IsTreeAt piece member path tree = (first : ℕ) × (reached_in piece member path ≡ Inside tree first)

-- Whatever piece the record has that was passed: the row came in the place of its proxy, and the piece in the place of its record.
abbrev pub PassesRow : (place : RecordPlace) → PassedRecord → (row put : Row) → (was now : Held) → Type 0
PassesRow place passed row put was now =
    (piece : Piece) → HoldsPiece was place piece → IsPassedAs passed piece → IsPutAlone place (piece_with_row passed.index row piece) put was now
