-- A plan that is drawn node by node: each node with what stays with it becomes the member of an interval, or stays where there is room for it.
use Rattle.std.specs.Prelude.{◌≡◌, ◌≢◌, ℕ, ◌+◌, ◌^◌, ◌<◌, ◌≤◌, Bool, false, ◌&&◌, if◌then◌else◌, Option, None, Some, IsTrue, List}
use Rattle.std.specs.Option.{option_map}
use Rattle.nx_matrix.specs.declared.rule.Entry.{Entry}
use Rattle.nx_matrix.specs.declared.rule.Entry.TheVariants.{Standalone, Cluster, Free}
use Rattle.nx_division.specs.declared.cut.Cut.{Cut}
use Rattle.nx_division.specs.declared.cut.Cut.TheVariants.{Stays, Begins, GoesOn}
use Rattle.nx_sketch.specs.declared.spot.Spot.{Spot}
use Rattle.nx_division.specs.declared.settle.Row.{Row}
use Rattle.nx_sketch.specs.Sketch.{Sketch, Empty, Plant, spots_of, sketch_weight}
use Rattle.nx_sketch.specs.Plan.{is_cluster}
use Rattle.nx_division.specs.Drawn.{Drawn, staying_weight, goes, heaviest, IsSoundDrawing, AreKept, AreNeighboursHeavy}

-- what the cluster children weigh that have to stay with the node above, with those that have to stay with them; where `keep` says so
abbrev pub core : Bool → Sketch → ℕ
core keep Empty = 0
core keep (Plant position weight entry below beside) = (if keep && is_cluster entry then weight + core keep below else 0) + core keep beside

-- each node that hasn't to stay weighs at most k with those that have to stay with it
abbrev pub AreTopsLight : ℕ → Bool → Sketch → Type 0
AreTopsLight k keep Empty = Unit {0}
AreTopsLight k keep (Plant position weight entry below beside) =
    (keep && is_cluster entry ≡ false → weight + core keep below ≤ k) × AreTopsLight k keep below × AreTopsLight k keep beside

-- the node has to stay, or weighs at most k with those that have to stay with it
abbrev pub IsOwnLight : ℕ → Bool → Spot → Sketch → Type 0
IsOwnLight k keep spot below = keep && is_cluster spot.entry ≡ false → spot.weight + core keep below ≤ k

-- the interval that may be gone on with: the position of its last member, and what it weighs so far
abbrev pub last_of : Option Row → Option ℕ
last_of row = option_map (λ r. r.last) row

-- the row that a node begins
abbrev pub row_of : Entry → ℕ → ℕ → Option Row
row_of Standalone position load = None
row_of Cluster position load = Some (record { last = position; weight = load })
row_of Free position load = Some (record { last = position; weight = load })

-- How a node with this entry and position stands that weighs so much with what stays with it, beside an open row and with so much room in the part above: what room is left, and the row that is open then.
abbrev pub IsStood : ℕ → ℕ → Option Row → Entry → ℕ → ℕ → Cut → ℕ → Option Row → Type 0
IsStood k room row entry position load Stays rest next = (entry ≢ Standalone) × (rest + load ≡ room) × (next ≡ None)
IsStood k room row entry position load Begins rest next =
    (rest ≡ room) × (next ≡ row_of entry position load)
    × ((before : Row) → row ≡ Some before → position ≡ before.last + 1 → entry ≢ Standalone → k < before.weight + load)
IsStood k room row entry position load GoesOn rest next =
    (rest ≡ room) × (entry ≢ Standalone)
    × (before : Row) × (row ≡ Some before) × (position ≡ before.last + 1) × (before.weight + load ≤ k) × (next ≡ Some (record { last = position; weight = before.weight + load }))

-- what an open row weighs in the end
abbrev pub whole_row : Option Row → Drawn → Option (ℕ × ℕ)
whole_row None d = None
whole_row (Some row) d = Some (row.last, row.weight + goes d)

-- no row weighs more than k yet
abbrev pub IsRowLight : ℕ → Option Row → Type 0
IsRowLight k None = Unit {0}
IsRowLight k (Some row) = row.weight ≤ k

-- an open row doesn't get heavier than k
abbrev pub StaysLight : ℕ → Option Row → Drawn → Type 0
StaysLight k None d = Unit {0}
StaysLight k (Some row) d = row.weight + goes d ≤ k

-- the sketch as it is drawn in the end: what holds of it beside an open row, where there was so much room in the part above and so much is left
pub record IsFinalDrawing (k : ℕ) (keep : Bool) (row : Option Row) (room : ℕ) (sketch : Sketch) (d : Drawn) (rest : ℕ) : Type 0 where
  pub sound : IsSoundDrawing (last_of row) d
  pub kept : IsTrue keep → AreKept d
  pub light : heaviest d ≤ k
  pub stays_light : StaysLight k row d
  pub full : AreNeighboursHeavy k (whole_row row d) d
  pub stayed : staying_weight d + rest ≡ core keep sketch + room

-- what has to hold of a sketch that is drawn
pub record CanBeDrawn (k : ℕ) (keep : Bool) (spots : List Spot) : Type 0 where
  pub sketch : Sketch
  pub is : spots ≡ spots_of sketch
  pub tops : AreTopsLight k keep sketch
  pub small : sketch_weight sketch < 2 ^ 24
