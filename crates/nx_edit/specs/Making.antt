-- Contents that stand in a record's items and are too long for that, put into lists of their own before the record is written again.
use Rattle.std.specs.Prelude.{◌≡◌, ℕ, zero, suc, ◌+◌, ◌≤◌, nat_lt, if◌then◌else◌, Bool, false, List, [], ◌∷◌, ◌++◌, length, Option, None, Some, IsSome, IsPermutation}
use Rattle.std.specs.Option.{option_map_or, option_or}
use Rattle.nx_records.specs.Words.{Held}
use Rattle.nx_piece.specs.declared.piece.Far.{Far}
use Rattle.nx_piece.specs.declared.piece.Piece.{Piece}
use Rattle.nx_weights.specs.Weight.{longest_near}
use Rattle.nx_piece.specs.PieceNode.{PieceNode}
use Rattle.nx_piece.specs.declared.piece.Item.{Item}
use Rattle.nx_piece.specs.declared.piece.Item.TheVariants.{Tree, Run}
use Rattle.nx_piece.specs.Gapped.{Gapped, GappedTree, End, Grow, Gap, gapped_width, gapped_weight}
use Rattle.nx_piece.specs.Valid.{AreNear, IsBodyWithin}
use Rattle.nx_piece_edits.specs.Setting.{node_with_content}
use Rattle.nx_layouts.specs.Layout.{RecordPlace, Layout, AreHeld, AreOnce, contents_of, nodes_in, piece_body, piece_of, places_of, without_places}
use Rattle.nx_hold.specs.Changes.{UpdatesPiece}
use Rattle.nx_hold.specs.Contents.{near_in, near_pages}
use Rattle.nx_hold.specs.Documents.{MovesRecords}
use Rattle.nx_hold.specs.Pieces.{HoldsPiece, IsTidy, MayName, PieceMap, held_by}

-- the node's content stands in its item, and is too long for that
abbrev pub needs_list : PieceNode → Bool
needs_list node = option_map_or (λ far. false) node.far (nat_lt longest_near (length node.node.content))

-- the first such content of a piece, in document order
abbrev pub first_long : Gapped → Option (List ℕ)
first_long End = None
first_long (Grow node below beside) = if needs_list node then Some node.node.content else option_or (first_long below) (first_long beside)
first_long (Gap count beside) = first_long beside

-- with that content in a list of its own
abbrev pub with_far : Far → Gapped → Gapped
with_far far End = End
with_far far (Grow node below beside) =
    if needs_list node then Grow (node_with_content [] (Some far) node) below beside
    else option_map_or (λ content. Grow node (with_far far below) beside) (first_long below) (Grow node below (with_far far beside))
with_far far (Gap count beside) = Gap count (with_far far beside)

-- No content of this piece is too long for its item; else it is as the other, and its items take no more room.
pub record IsMadeFar (piece made : Piece) : Type 0 where
  pub near : AreNear made.body.roots
  pub proxies : made.proxies ≡ piece.proxies
  pub wide : gapped_width made.body.roots ≡ gapped_width piece.body.roots
  pub weighs : gapped_weight made.body.roots ≡ gapped_weight piece.body.roots
  pub within : (most_roots most_slots : ℕ) → IsBodyWithin most_roots most_slots piece.body.roots (length piece.proxies) → IsBodyWithin most_roots most_slots made.body.roots (length made.proxies)

-- A row whose piece is this has the nodes and the places of the other. Lists came for those contents that weren't far, on no more pages than these take.
pub record IsRowMadeFar (members : Layout) (made : Piece) (was now : Held) : Type 0 where
  pub row : Layout
  pub is : piece_of row ≡ made
  pub same : without_places row ≡ without_places members
  pub places : places_of row ≡ places_of members
  pub brought : List ℕ
  pub needs : ℕ
  pub moves : MovesRecords [] [] [] brought needs was now
  pub few : needs ≤ near_in (piece_body members)
  pub pages : needs + near_pages (nodes_in row) ≤ near_pages (nodes_in members)
  pub came : IsPermutation (contents_of row) (contents_of members ++ brought)
  pub once : AreOnce brought
  pub held : (before : PieceMap was) (after : PieceMap now) → AreHeld (held_by before) members → AreHeld (held_by after) row

-- Whatever row has the piece, its long contents came into lists so, and what the new piece names may be named.
pub record MakesFar (piece made : Piece) (was now : Held) : Type 0 where
  pub may : MayName now made.body.roots
  pub rows : (members : Layout) → piece_of members ≡ piece → IsRowMadeFar members made was now

-- Whatever lists records name: each piece stays, and at most so many fewer pages are free.
abbrev pub LeavesPieces : (needs : ℕ) → (was now : Held) → Type 0
LeavesPieces needs was now = (was.free ≤ now.free + needs) × ((place : RecordPlace) (piece : Piece) → HoldsPiece was place piece → HoldsPiece now place piece)

-- A piece was made far so, and came in the place of a record.
pub record PutsFar (old new : RecordPlace) (piece : Piece) (was now : Held) : Type 0 where
  pub made : Piece
  pub far : IsMadeFar piece made
  pub mid : Held
  pub tidy : IsTidy mid
  pub makes : MakesFar piece made was mid
  pub updates : UpdatesPiece old new made mid now

-- the first of these roots with such a content, or of these items, stands at the index
abbrev pub IsFirstLongRoot : List GappedTree → ℕ → Type 0
IsFirstLongRoot [] index = ⊥
IsFirstLongRoot (tree ∷ trees) zero = IsSome (first_long (Grow tree.node tree.below End))
IsFirstLongRoot (tree ∷ trees) (suc index) = (first_long (Grow tree.node tree.below End) ≡ None) × IsFirstLongRoot trees index

abbrev pub IsFirstLongItem : List Item → ℕ → Type 0
IsFirstLongItem [] index = ⊥
IsFirstLongItem (Tree tree ∷ items) zero = IsSome (first_long (Grow tree.node tree.below End))
IsFirstLongItem (Run count ∷ items) zero = ⊥
IsFirstLongItem (Tree tree ∷ items) (suc index) = (first_long (Grow tree.node tree.below End) ≡ None) × IsFirstLongItem items index
IsFirstLongItem (Run count ∷ items) (suc index) = IsFirstLongItem items index
