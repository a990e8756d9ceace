-- What a walk over the records of a document shows, where it passes over some of them.
use Rattle.std.specs.Prelude.{ℕ, ◌+◌, Bool, if◌then◌else◌, List, [], ◌∷◌, ◌++◌}
use Rattle.nx_tree.specs.declared.node.Kind.{Kind}
use Rattle.nx_tree.specs.Document.{is_doc}
use Rattle.nx_matrix.specs.Label.{label_by}
use Rattle.nx_cuts.specs.Cut.{Bare, Grown, Kept, width}
use Rattle.nx_layouts.specs.Layout.{RecordPlace, Layout}
use Rattle.nx_reach.specs.Seen.{Seen, Opened, Closed, Skipped}

-- One thing that is shown: the interval of the record at a place begins; a node begins; the node ends that began last; the interval ends that began last; an interval of so
-- many members is passed over.
pub data Look : Type 0 where
  RecordBegins : (place : RecordPlace) → Look
  NodeBegins : (kind : Kind) (name : List ℕ) → Look
  NodeEnds : (kind : Kind) → Look
  RecordEnds : Look
  RecordPassed : (count : ℕ) → Look

-- what is shown of trees beside each other, where intervals that aren't wanted are passed over
abbrev pub looks_of : (RecordPlace → Bool) → Layout → List Look
looks_of wanted Bare = []
looks_of wanted (Grown node below beside) =
    NodeBegins node.node.kind node.node.name ∷ (looks_of wanted below ++ NodeEnds node.node.kind ∷ looks_of wanted beside)
looks_of wanted (Kept place members beside) =
    (if wanted place then RecordBegins place ∷ (looks_of wanted members ++ RecordEnds ∷ []) else RecordPassed (width members) ∷ []) ++ looks_of wanted beside

-- what is shown of an interval with these members, whose record is at a place
abbrev pub looks_into : (RecordPlace → Bool) → RecordPlace → Layout → List Look
looks_into wanted place members = RecordBegins place ∷ (looks_of wanted members ++ RecordEnds ∷ [])

-- how many nodes have begun
abbrev pub begun_nodes : List Look → ℕ
begun_nodes [] = 0
begun_nodes (NodeBegins kind name ∷ looks) = 1 + begun_nodes looks
begun_nodes (RecordBegins place ∷ looks) = begun_nodes looks
begun_nodes (NodeEnds kind ∷ looks) = begun_nodes looks
begun_nodes (RecordEnds ∷ looks) = begun_nodes looks
begun_nodes (RecordPassed count ∷ looks) = begun_nodes looks

-- the places of the records whose intervals have begun
abbrev pub begun_places : List Look → List RecordPlace
begun_places [] = []
begun_places (RecordBegins place ∷ looks) = place ∷ begun_places looks
begun_places (NodeBegins kind name ∷ looks) = begun_places looks
begun_places (NodeEnds kind ∷ looks) = begun_places looks
begun_places (RecordEnds ∷ looks) = begun_places looks
begun_places (RecordPassed count ∷ looks) = begun_places looks

-- what a finder is shown: all below a document's root
abbrev pub seen_of : List Look → List Seen
seen_of [] = []
seen_of (RecordBegins place ∷ looks) = seen_of looks
seen_of (NodeBegins kind name ∷ looks) = if is_doc kind then seen_of looks else Opened (label_by kind name) ∷ seen_of looks
seen_of (NodeEnds kind ∷ looks) = if is_doc kind then seen_of looks else Closed ∷ seen_of looks
seen_of (RecordEnds ∷ looks) = seen_of looks
seen_of (RecordPassed count ∷ looks) = Skipped count ∷ seen_of looks
