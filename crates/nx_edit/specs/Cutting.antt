-- A tree taken out of what one record has, and an interval below it that lost a tree.
use Rattle.std.specs.Prelude.{◌≡◌, ℕ, ◌<◌, Bool, false, ◌⊎◌, Contains, List, ◌∷◌, ◌++◌}
use Rattle.nx_cuts.specs.Cut.{Bare, Kept, width, AreFree}
use Rattle.nx_layouts.specs.Layout.{RecordPlace, LaidNode, Layout, laid_weight, places_of, nodes_in, without_places}
use Rattle.nx_layouts.specs.Replace.{replaced_at}
use Rattle.nx_layouts.specs.Cutting.{layout_without, kept_layout, StaysIn, LeadsInto}
use Rattle.nx_edit.specs.Editing.{places_off, nodes_off}
use Rattle.nx_edit.specs.Rows.{deleted_row, left_of}

-- What a record has after a tree of its own was taken away is the row without it.
abbrev pub RowIsCut : Type 0
RowIsCut = (position : ℕ) (path : List ℕ) (row : Layout) → StaysIn position path row → without_places (layout_without position path row) ≡ deleted_row (position ∷ path) (without_places row)

-- The records that hold no node on the way, nor one of the tree, are those of what is left.
abbrev pub RestStays : Type 0
RestStays = (position : ℕ) (path : List ℕ) (row : Layout) → StaysIn position path row → places_off false (position ∷ path) row ≡ places_of (layout_without position path row)

-- The nodes off the way to the tree, and no node of the tree, are those of what is left.
abbrev pub NodesStay : Type 0
NodesStay = (position : ℕ) (path : List ℕ) (row : Layout) → StaysIn position path row → nodes_off false (position ∷ path) row ≡ nodes_in (layout_without position path row)

-- Where the interval that the path leads into is replaced by what is left of it, the row is the one without the tree.
abbrev pub IntervalIsCut : Type 0
IntervalIsCut = (index member : ℕ) (rest : List ℕ) (members left : Layout) (position : ℕ) (path : List ℕ) (row : Layout) → LeadsInto index member rest members position path row
    → without_places left ≡ left_of member rest members → without_places (replaced_at index left row) ≡ deleted_row (position ∷ path) (without_places row)

-- What is left of an interval that lost a tree of its own record.
abbrev pub IntervalLeft : Type 0
IntervalLeft = (position : ℕ) (path : List ℕ) (place : RecordPlace) (members : Layout) → StaysIn position path members → without_places (kept_layout place (layout_without position path members)) ≡ left_of position path members

-- An interval into whose row the path leads, and from there into an interval below it of which this is left, is the one without the tree.
abbrev pub IntervalInside : Type 0
IntervalInside = (index member : ℕ) (rest : List ℕ) (inside left : Layout) (position : ℕ) (path : List ℕ) (place : RecordPlace) (members : Layout) → AreFree members → LeadsInto index member rest inside position path members
    → without_places left ≡ left_of member rest inside → without_places (Kept place (replaced_at index left members) Bare) ≡ left_of position path members

-- Where the path leads into an interval, the records off it are off the way on in the interval, or are those of the row without it.
abbrev pub OffInside : Type 0
OffInside = (stays : Bool) (index member : ℕ) (rest : List ℕ) (inside : Layout) (position : ℕ) (path : List ℕ) (row : Layout) → LeadsInto index member rest inside position path row → (place : RecordPlace) → Contains (places_off stays (position ∷ path) row) place
    → Contains (places_off stays (member ∷ rest) inside) place ⊎ Contains (places_of (replaced_at index Bare row)) place

-- ... and the nodes off it are those off the way on in the interval, between those around it.
pub record NodesAround (stays : Bool) (index member : ℕ) (rest : List ℕ) (inside : Layout) (position : ℕ) (path : List ℕ) (row : Layout) : Type 0 where
  pub before : List LaidNode
  pub behind : List LaidNode
  pub off : nodes_off stays (position ∷ path) row ≡ before ++ (nodes_off stays (member ∷ rest) inside ++ behind)
  pub were : nodes_in row ≡ before ++ (nodes_in inside ++ behind)
  pub are : (left : Layout) → nodes_in (replaced_at index left row) ≡ before ++ (nodes_in left ++ behind)

abbrev pub NodesInside : Type 0
NodesInside = (stays : Bool) (index member : ℕ) (rest : List ℕ) (inside : Layout) (position : ℕ) (path : List ℕ) (row : Layout) → LeadsInto index member rest inside position path row → NodesAround stays index member rest inside position path row

-- What is left of an interval has no tree outside of one.
abbrev pub LeftIsInterval : Type 0
LeftIsInterval = (position : ℕ) (path : List ℕ) (members left : Layout) → position < width members → without_places left ≡ left_of position path members → laid_weight left ≡ 0
