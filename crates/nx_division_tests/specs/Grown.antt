-- Lists of nodes that are those of a sketch.
use Rattle.std.specs.Prelude.{◌≡◌, ℕ, ◌+◌, ◌^◌, ◌<◌, ◌≤◌, List}
use Rattle.nx_sketch.specs.declared.spot.Spot.{Spot}
use Rattle.nx_sketch.specs.Sketch.{AreSpotsAtMost, AreRising, Sketch, spots_of, sketch_weight}

-- the list is that of a sketch of this weight whose positions rise, and in which no node weighs more than k
pub record IsGrown (k low : ℕ) (spots : List Spot) (weight : ℕ) : Type 0 where
  pub sketch : Sketch
  pub is : spots ≡ spots_of sketch
  pub weighs : weight ≡ sketch_weight sketch
  pub small : weight < 2 ^ 24
  pub light : AreSpotsAtMost k sketch
  pub rising : AreRising low sketch

-- a node that may stand at this position or a later one, of at most k slots
pub record IsAllowed (k low : ℕ) (spot : Spot) : Type 0 where
  pub position : low ≤ spot.position
  pub least : 1 ≤ spot.weight
  pub most : spot.weight ≤ k

-- what a node weighs with those below it, and those beside it
pub record IsSum (spot : Spot) (inner others : ℕ) : Type 0 where
  pub weighs : spot.weight + inner ≡ spot.within
  pub small : spot.weight + inner + others < 2 ^ 24
