-- What is held of a row is held still where records move beside it.
use Rattle.std.proofs.Common.{◌≡◌, ℕ, List, [], Some, inl, inr, ap}
use Rattle.std.specs.Prelude.{Contains}
use Rattle.nx_holdings.specs.Holdings.{Held}
use Rattle.nx_holdings.specs.declared.header.Settings.{Settings}
use Rattle.nx_layouts.specs.Layout.{RecordPlace, LaidNode, Layout, AreHeld, piece_body, places_of, nodes_in, contents_of}
use Rattle.nx_layouts.proofs.PlaceLemmas.{no_place, AreDisjoint}
use Rattle.nx_layouts.proofs.NodeLemmas.{list_among, node_of_list}
use Rattle.nx_layouts.proofs.BodyLemmas.{far_at, node_named, bodies_are_of_rows}
use Rattle.nx_layouts.proofs.HeldLemmas.{held_stays, node_read}
use Rattle.nx_hold.specs.Pieces.{IsTidy, IsNoProxies, MayName, PieceMap, held_by}
use Rattle.nx_hold.specs.Documents.{MovesRecords}
use Rattle.nx_hold.proofs.MapLemmas.{held_at, told_some}
use Rattle.nx_hold.proofs.TidyLemmas.{may_name_own}
use Rattle.nx_hold.proofs.MoveLemmas.{pieces_stay_around, contents_stay_around}

-- no content of a row that is held holds proxies, where those of the row's own nodes may be named
pub row_apart : (held : Held) (pieces : PieceMap held) (row : Layout) → IsTidy held → AreHeld (held_by pieces) row → MayName held (piece_body row) → (first : ℕ) → Contains (contents_of row) first → IsNoProxies held first
row_apart held pieces row tidy h may first among =
    let node = node_of_list (nodes_in row) first among in
    elim (node_named (held_by pieces) row node.0 first h node.1 node.2) [
      | inl own ↦ (may (far_at node.0 first) own).1
      | inr named ↦ (may_name_own held named.0 named.1 tidy (held_at held pieces named.0 named.1 named.3) (far_at node.0 first) named.4).1
    ]

-- each is there
pub row_there : (held : Held) (pieces : PieceMap held) (row : Layout) → AreHeld (held_by pieces) row → (first : ℕ) → Contains (contents_of row) first → (bytes : List ℕ) × (held.lists first ≡ Some bytes)
row_there held pieces row h first among =
    let node = node_of_list (nodes_in row) first among in
    (node.0.node.content, node_read (held_by pieces) row node.0 h node.1 first node.2)

-- what a part of such a row names may be named, where its nodes are among those of the row
pub may_name_part : (held : Held) (pieces : PieceMap held) (row part : Layout) → IsTidy held → AreHeld (held_by pieces) row → MayName held (piece_body row) → ((n : LaidNode) → Contains (nodes_in part) n → Contains (nodes_in row) n) → MayName held (piece_body part)
may_name_part held pieces row part tidy h may within far among =
    let named = (bodies_are_of_rows part).named far among in
    let inside = within named.0 named.1 in
    ((named.0.node.content, node_read (held_by pieces) row named.0 h inside far.first named.2, named.3), row_apart held pieces row tidy h may far.first (list_among (nodes_in row) named.0 far.first inside named.2))

module _ {gone come : List RecordPlace} {brought : List ℕ} {needs : ℕ} {was now : Held} (tidy : IsTidy was) (moves : MovesRecords gone come [] brought needs was now) where
  pub held_through : (pieces : PieceMap was) (after : PieceMap now) (row : Layout) → AreHeld (held_by pieces) row → MayName was (piece_body row) → AreDisjoint (places_of row) gone → AreHeld (held_by after) row
  held_through pieces after row h may apart =
      held_stays (held_by pieces) (held_by after) row (record {
        pieces = λ place piece among e.
            told_some now place piece (after.piece_at place) (after.are place)
            (pieces_stay_around gone come [] brought needs was now tidy moves place piece (held_at was pieces place piece e) (λ went. apart place among went)).1;
        lists = λ n among read first far.
            (contents_stay_around gone come [] brought needs was now tidy moves first n.node.content (read first far) (row_apart was pieces row tidy h may first (list_among (nodes_in row) n first among far)) (no_place first)).0;
        most = ap (λ (s : Settings). s.k) moves.settings;
      }) h
