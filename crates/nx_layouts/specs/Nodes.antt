-- The nodes of rows, and what a record has of one.
use Rattle.std.specs.Prelude.{◌≡◌, ℕ, List, ◌++◌, length, Option, Some, Contains}
use Rattle.nx_weights.specs.Weight.{weight}
use Rattle.nx_piece.specs.declared.piece.Piece.{Piece}
use Rattle.nx_piece.specs.PieceNode.{node_weight, content_length}
use Rattle.nx_layouts.specs.Layout.{RecordPlace, LaidNode, Layout, Stock, in_record, nodes_in, places_of, IsReadIn, AreHeld}

-- The nodes of two rows are the same in order, but that these stand in the place of those.
pub record NodesChange (was now gone come : List LaidNode) : Type 0 where
  pub before : List LaidNode
  pub behind : List LaidNode
  pub were : was ≡ before ++ (gone ++ behind)
  pub are : now ≡ before ++ (come ++ behind)

-- A record's item weighs what the node does, and bears its kind and its name.
pub record ItemShows (n : LaidNode) : Type 0 where
  pub weighs : node_weight (in_record n) ≡ weight n.node
  pub kind : (in_record n).node.kind ≡ n.node.kind
  pub name : (in_record n).node.name ≡ n.node.name
  pub long : content_length (in_record n) ≡ length n.node.content

abbrev pub ItemsShowNodes : Type 0
ItemsShowNodes = (n : LaidNode) → ItemShows n

-- Two nodes that a record has alike, read in the same lists, are one.
abbrev pub OneNode : Type 0
OneNode = (lists : ℕ → Option (List ℕ)) (n m : LaidNode) → in_record n ≡ in_record m → IsReadIn lists n → IsReadIn lists m → n ≡ m

-- The pieces of the records of a row stay, and its contents are read still.
pub record StayAt (was now : Stock) (row : Layout) : Type 0 where
  pub pieces : (place : RecordPlace) (piece : Piece) → Contains (places_of row) place → was.piece_at place ≡ Some piece → now.piece_at place ≡ Some piece
  pub lists : (n : LaidNode) → Contains (nodes_in row) n → IsReadIn was.list_at n → IsReadIn now.list_at n
  pub most : now.most ≡ was.most

-- What is held is held still where all of this stays.
abbrev pub HeldStays : Type 0
HeldStays = (was now : Stock) (row : Layout) → StayAt was now row → AreHeld was row → AreHeld now row
