-- The first node of a sketch, the nodes below it and those beside it, as parts of the list.
use Rattle.std.specs.Prelude.{◌≡◌, ℕ, ◌+◌, List}
use Rattle.nx_matrix.specs.declared.rule.Entry.{Entry}
use Rattle.nx_sketch.specs.declared.spot.Spot.{Spot}
use Rattle.nx_sketch.specs.Sketch.{Sketch, Empty, Plant, spot_count, spots_of, sketch_weight}

-- what the first node and the two parts behind it say of the sketch
pub record IsPlanted (spot : Spot) (below beside : List Spot) (p w : ℕ) (e : Entry) (b s : Sketch) : Type 0 where
  pub position : spot.position ≡ p
  pub weight : spot.weight ≡ w
  pub within : spot.within ≡ w + sketch_weight b
  pub entry : spot.entry ≡ e
  pub nodes_below : spot.below ≡ spot_count b
  pub below_is : below ≡ spots_of b
  pub beside_is : beside ≡ spots_of s

-- the first node of the sketch, the list of those below it, and of those beside it
abbrev pub IsParted : Spot → List Spot → List Spot → Sketch → Type 0
IsParted spot below beside Empty = ⊥
IsParted spot below beside (Plant p w e b s) = IsPlanted spot below beside p w e b s
