-- A sketch of a heavy part: its nodes as a forest of positions, weights and entries, and the same as a list of nodes with their paths.
use Rattle.std.specs.Prelude.{◌≡◌, ◌≢◌, ℕ, ◌+◌, ◌^◌, ◌<◌, ◌≤◌, List, [], ◌∷◌, ◌++◌}
use Rattle.nx_matrix.specs.declared.rule.Entry.{Entry}
use Rattle.nx_matrix.specs.declared.rule.Entry.TheVariants.{Cluster}
use Rattle.nx_sketch.specs.declared.spot.Spot.{Spot}

-- nodes beside each other: the first one with its position, its weight and its entry, those below it, and those beside it
pub data Sketch : Type 0 where
  Empty : Sketch
  Plant : (position weight : ℕ) (entry : Entry) (below beside : Sketch) → Sketch

-- how many nodes there are
abbrev pub spot_count : Sketch → ℕ
spot_count Empty = 0
spot_count (Plant position weight entry below beside) = 1 + spot_count below + spot_count beside

-- what all nodes weigh
abbrev pub sketch_weight : Sketch → ℕ
sketch_weight Empty = 0
sketch_weight (Plant position weight entry below beside) = weight + sketch_weight below + sketch_weight beside

-- the nodes in document order, each with what it weighs with those below it, and how many those are
abbrev pub spots_of : Sketch → List Spot
spots_of Empty = []
spots_of (Plant position weight entry below beside) =
    record { position = position; weight = weight; within = weight + sketch_weight below; entry = entry; below = spot_count below } ∷ spots_of below ++ spots_of beside

-- a node with its path, its weight and its entry
pub record Placed : Type 0 where
  pub path : List ℕ
  pub weight : ℕ
  pub entry : Entry

-- the nodes in document order, below the node at a path
abbrev pub placed_in : List ℕ → Sketch → List Placed
placed_in path Empty = []
placed_in path (Plant position weight entry below beside) =
    record { path = path ++ position ∷ []; weight = weight; entry = entry } ∷ placed_in (path ++ position ∷ []) below ++ placed_in path beside

-- the nodes of a part in document order, whose roots stand below a helper with the empty path
abbrev pub placed : Sketch → List Placed
placed sketch = placed_in [] sketch

-- the positions of neighbours rise, from this one on: where one is left out, nodes of other parts stand between
abbrev pub AreRising : ℕ → Sketch → Type 0
AreRising low Empty = Unit {0}
AreRising low (Plant position weight entry below beside) = (low ≤ position) × AreRising 0 below × AreRising (position + 1) beside

-- none of these nodes is a cluster child
abbrev pub AreUnclustered : Sketch → Type 0
AreUnclustered Empty = Unit {0}
AreUnclustered (Plant position weight entry below beside) = (entry ≢ Cluster) × AreUnclustered beside

-- each node weighs something, and none more than k
abbrev pub AreSpotsAtMost : ℕ → Sketch → Type 0
AreSpotsAtMost k Empty = Unit {0}
AreSpotsAtMost k (Plant position weight entry below beside) = (1 ≤ weight) × (weight ≤ k) × AreSpotsAtMost k below × AreSpotsAtMost k beside

-- a sketch that can be split: its positions rise, and no root is asked to stay with its parent
pub record IsSketch (sketch : Sketch) : Type 0 where
  pub rising : AreRising 0 sketch
  pub unclustered : AreUnclustered sketch

-- the list is that of a sketch that doesn't weigh too much
pub record IsFlat (spots : List Spot) : Type 0 where
  pub sketch : Sketch
  pub is : spots ≡ spots_of sketch
  pub small : sketch_weight sketch < 2 ^ 24
