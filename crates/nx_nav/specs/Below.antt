-- The subtree at a path: as it is drawn, and what is told of it.
use Rattle.std.specs.Prelude.{◌≡◌, ◌⊎◌, ℕ, Bool, List, [], ◌∷◌, ◌++◌, Option, Some, IsSome, option_and_then}
use Rattle.std.specs.List.{slice_get}
use Rattle.nx_host.specs.declared.disk.Disk.{Ghosts}
use Rattle.nx_records.specs.declared.records.Records.{Records}
use Rattle.nx_tree.specs.Forest.{OrderedTree}
use Rattle.nx_tree.specs.Edit.{at}
use Rattle.nx_piece.specs.declared.piece.Piece.{Piece}
use Rattle.nx_piece.specs.PieceNode.{MayBeFar}
use Rattle.nx_piece.specs.Gapped.{GappedTree, gapped_weight, gapped_width}
use Rattle.nx_piece.specs.Valid.{AreFar, IsSmallTree}
use Rattle.nx_cuts.specs.Cut.{Cut, CutForest, Bare, Grown, Kept, forest, tree_of}
use Rattle.nx_layouts.specs.Layout.{RecordPlace, Layout}
use Rattle.nx_nav.specs.Refusals.{OfEach}
use Rattle.nx_nav.specs.Steps.{WalkStep, Begin, walk_steps, laid_steps}

-- the trees beside each other, whether or not an interval has them: each with what is drawn below it
abbrev pub drawn_roots : {N P : Type 0} → Cut N P → List (N × Cut N P)
drawn_roots Bare = []
drawn_roots (Grown node below beside) = (node, below) ∷ drawn_roots beside
drawn_roots (Kept mark members beside) = drawn_roots members ++ drawn_roots beside

-- the tree at a path, with what is drawn below it
abbrev pub drawn_at : {N P : Type 0} → N × Cut N P → List ℕ → Option (N × Cut N P)
drawn_at tree [] = Some tree
drawn_at tree (position ∷ path) =
    option_and_then (λ child. drawn_at child path) (slice_get (drawn_roots tree.1) position)

-- a tree may stand in a piece that may be stored
abbrev pub MayBeInPiece : GappedTree → Type 0
MayBeInPiece tree = IsSmallTree tree × (MayBeFar tree.node × AreFar tree.below)

-- what is told of a tree that was found in a piece: the record begins, and of its trees only this one
abbrev pub found_steps : (asked : Bool) → Piece → Layout → List WalkStep
found_steps asked piece layout =
    Begin (gapped_width piece.body.roots) (gapped_weight piece.body.roots) ∷ laid_steps asked layout

-- The steps begin with the record that has the node, and go on with the node and all below it,
-- whichever intervals are drawn there.
abbrev pub TellsTree : (asked : Bool) → OrderedTree → List WalkStep → Type 0
TellsTree asked tree told =
    (roots weight : ℕ) × (below : CutForest) × (forest below ≡ tree.below)
    × (told ≡ Begin roots weight ∷ walk_steps asked (Grown tree.node below Bare))

-- From a teller and a disk to others, where the disk's contents are told at the end: all is told of the
-- tree at the path of each document that the records hold from this place on.
pub record TellsBelow {A D : Type 0} (d : Ghosts D) (asked : Bool)
    (Told : A → D → List WalkStep → A → D → Type 0) (records : Records) (before : D) (root : RecordPlace)
    (path : List ℕ) (old new : A) (after : D) : Type 0 where
  pub told : List WalkStep
  pub goes : Told old before told new after
  pub all : IsSome (d.contents after) → OfEach d records before root
      (λ document. (tree : OrderedTree) × (at (tree_of document) path ≡ Some tree) × TellsTree asked tree told)

-- ... or nothing, or a first part of it, and what came then.
pub record StopsBelow {A D : Type 0} (d : Ghosts D) (asked : Bool)
    (Told : A → D → List WalkStep → A → D → Type 0) (records : Records) (before : D) (root : RecordPlace)
    (path : List ℕ) (old : A) (after : D) : Type 0 where
  pub told : List WalkStep
  pub last : A
  pub goes : Told old before told last after
  pub first : IsSome (d.contents after) → OfEach d records before root
      (λ document. (told ≡ []) ⊎ ((tree : OrderedTree) × (at (tree_of document) path ≡ Some tree)
      × ((all more : List WalkStep) × TellsTree asked tree all × (all ≡ told ++ more))))
