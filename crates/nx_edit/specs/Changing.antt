-- What an edit puts at the end of a path, and what comes in the place of an interval below which it does: for the inner recursion of the edits that put something.
use Rattle.std.specs.Prelude.{◌≡◌, ℕ, ◌+◌, ◌*◌, ◌<◌, ◌≤◌, true, false, List, [], ◌∷◌, ◌++◌, length, Option, None, Some, IfSome}
use Rattle.std.specs.Option.{option_to_list}
use Rattle.nx_host.specs.Disk.{Rose}
use Rattle.nx_host.specs.declared.disk.Disk.{Ghosts}
use Rattle.nx_tree.specs.declared.node.Node.{Node}
use Rattle.nx_tree.specs.Forest.{OrderedTree, trees_of}
use Rattle.nx_tree.specs.Document.{most_nodes}
use Rattle.nx_weights.specs.Weight.{weight}
use Rattle.nx_records.specs.Words.{Held, Settings}
use Rattle.nx_records.specs.Records.{StandsFor, KeepsSaved, has_free}
use Rattle.nx_records.specs.Refusals.{EndNow, RunsOn}
use Rattle.nx_records.specs.declared.records.Records.{Records}
use Rattle.nx_records.specs.declared.error.StoreError.{StoreError}
use Rattle.nx_records.specs.declared.error.StoreError.TheVariants as store
use Rattle.nx_piece.specs.declared.piece.Far.{Far}
use Rattle.nx_piece.specs.declared.piece.Piece.{Piece}
use Rattle.nx_piece.specs.PieceNode.{PieceNode, IsFarWith, IsNearWith, MayBeFar}
use Rattle.nx_matrix.specs.declared.rule.Rule.{Rule}
use Rattle.nx_cuts.specs.Cut.{CutForest, CutTree, Bare, Kept, forest, part_weight}
use Rattle.nx_cuts.specs.Rows.{changed_row}
use Rattle.nx_layouts.specs.Layout.{RecordPlace, LaidNode, Layout, in_record, nodes_in, piece_body, without_places}
use Rattle.nx_layouts.specs.Cutting.{member_tree}
use Rattle.nx_layouts.specs.Setting.{near_part, far_part}
use Rattle.nx_hold.specs.Contents.{near_pages}
use Rattle.nx_hold.specs.Pieces.{IsNoProxies, IsTidy, MayName, PieceMap}
use Rattle.nx_drawn.specs.Edits.{inserted, retexted}
use Rattle.nx_drawn.specs.Splits.{SplitsRow}
use Rattle.nx_divide.specs.declared.dividing.Row.{Row}
use Rattle.nx_nav.specs.declared.routing.PassedRecord.{PassedRecord}
use Rattle.nx_nav.specs.Route.{HasRoute}
use Rattle.nx_edit.specs.declared.changing.Change.{Change}
use Rattle.nx_edit.specs.declared.changing.Change.TheVariants as change
use Rattle.nx_edit.specs.Editing.{nodes_off, places_off}
use Rattle.nx_edit.specs.Retexting.{other_content}
use Rattle.nx_edit.specs.Rows.{row_nodes, IsHeldInterval, IsReplaced}

-- What is put at the end of a path, as it is laid: another content of the node there, or a child of it. Where the content is far, the first page of its list is named.
pub data Put : Type 0 where
  Content : (content : List ℕ) (list : Option ℕ) → Put
  Child : (position : ℕ) (node : LaidNode) → Put

-- the program's change is this
abbrev pub IsLaidPut : Change → Put → Type 0
IsLaidPut (change.Content bytes far) (Content content list) = (bytes ≡ near_part content list) × (far ≡ far_part content list)
IsLaidPut (change.Child position leaf) (Child at node) = (position ≡ at) × (leaf.node ≡ in_record node)
IsLaidPut _ _ = ⊥

-- the node's content is far exactly where it is too long for an item
abbrev pub IsWrittenNode : PieceNode → Type 0
IsWrittenNode node = IsNearWith node.node.content node.far × MayBeFar node

-- ... that of the node that is put
abbrev pub IsWrittenChange : Change → Type 0
IsWrittenChange (change.Content bytes far) = IsNearWith bytes far × IsFarWith bytes far
IsWrittenChange (change.Child position leaf) = IsWrittenNode leaf.node

-- the list that it names
abbrev pub put_lists : Put → List ℕ
put_lists (Content content list) = option_to_list list
put_lists (Child position node) = option_to_list node.list

-- a node whose content is what is put, with that list
abbrev pub put_list : Put → Option ℕ
put_list (Content content list) = list
put_list (Child position node) = node.list

abbrev pub put_content : Put → List ℕ
put_content (Content content list) = content
put_content (Child position node) = node.node.content

-- the list that it names holds its content, and no record's proxies
abbrev pub MayPut : Held → Put → Type 0
MayPut was put = (first : ℕ) → put_list put ≡ Some first → (was.lists first ≡ Some (put_content put)) × IsNoProxies was first

-- the document in which a change was made of the node at a path
abbrev pub changed : List Rule → Put → List ℕ → CutTree → CutTree
changed rules (Content content list) path document = retexted content path document
changed rules (Child position node) path document = inserted rules node.node (path ++ position ∷ []) document

-- the way along the path to what is put
abbrev pub way_of : Put → List ℕ → List ℕ
way_of (Content content list) path = path
way_of (Child position node) path = path ++ position ∷ []

-- the change may be made of this tree: what it puts doesn't outweigh a part, and has a place there
abbrev pub MayBeMade : (k : ℕ) → Put → OrderedTree → Type 0
MayBeMade k (Content content list) there = weight (other_content content there) ≤ k
MayBeMade k (Child position node) there = (weight node.node ≤ k) × (position ≤ length (trees_of there.below))

-- an interval in which the change was made of the node at the path, whose first position is that of a member
abbrev pub changed_interval : List Rule → Put → (position : ℕ) (path : List ℕ) (members : Layout) → CutForest
changed_interval rules put position path members = changed_row position (changed rules put path) (Kept tt (without_places members) Bare)

-- The change may be made there, and leaves no more nodes than a document has.
pub record IsPossibleIn (k : ℕ) (rules : List Rule) (put : Put) (position : ℕ) (path : List ℕ) (members : Layout) : Type 0 where
  pub made : IfSome (member_tree (forest (without_places members)) position path) (λ there. MayBeMade k put there)
  pub few : row_nodes (changed_interval rules put position path members) ≤ most_nodes

-- These trees and intervals are a row of members in which each part that weighs more than k is split. `above` is the node above them, and what of them joins its part has so much room there.
abbrev pub AreSplitOf : Settings → List Rule → (room : ℕ) (above : Option Node) → (old new : CutForest) → Type 0
AreSplitOf settings rules room above old new = SplitsRow settings rules room above old new × (part_weight new ≤ room)

-- The interval became a row that is allowed, and this is what the piece above has of it: runs of proxies, and the trees that join its part.
abbrev pub IsReplacedByRow : (k : ℕ) (Becomes : CutForest → Type 0) (place : RecordPlace) (members : Layout) (kept : List LaidNode) (put : List ℕ) (stay : List RecordPlace) (row : Row) (gone : List Far) (was now : Held) → Type 0
IsReplacedByRow k Becomes place members kept put stay row gone was now = (r : IsReplaced k Becomes place members kept put stay row.proxies gone was now) × (row.items ≡ piece_body r.row)

-- the nodes of an interval that a change keeps
abbrev pub kept_around : Put → (position : ℕ) (path : List ℕ) (members : Layout) → List LaidNode
kept_around (Content content list) position path members = nodes_off true (position ∷ path) members
kept_around (Child at node) position path members = nodes_in members

-- Whatever members the interval has whose record stands there, and whose piece may be known: the change is made of the node at the path, which begins with the position of a member, where it may be. A part that weighs more than k then is split. What joins the part above may be named there, whatever the records hold; and of the pages that may be needed one for each proxy of the row is left.
abbrev pub ChangesKnown : List Rule → (known : Option Piece) → (room : ℕ) (above : Option Node) → Put → (place : RecordPlace) (position : ℕ) (path : List ℕ) (row : Row) (gone : List Far) → (was now : Held) → Type 0
ChangesKnown rules known room above put place position path row gone was now =
    MayName now row.items
    × ((pieces : PieceMap was) (members : Layout) → IsHeldInterval was pieces known place position path most_nodes members → IsPossibleIn (was.settings).k rules put position path members
    → (r : IsReplacedByRow (was.settings).k (AreSplitOf was.settings rules room above (changed_interval rules put position path members)) place members (kept_around put position path members) (put_lists put)
    (places_off true (position ∷ way_of put path) members) row gone was now)
    × (was.free + length row.proxies ≤ now.free + (row_nodes (without_places members) + 2 * row_nodes (without_places (r.0).row) + near_pages (kept_around put position path members))))

-- ... and the far contents of the piece may be named
abbrev pub MayPutIn : Held → Put → Piece → Type 0
MayPutIn was put piece = MayName was piece.body.roots × MayPut was put

-- the records hold what the path passes and the last piece, and the list of what is put
abbrev pub MayChangeAlong : Held → Put → (place : RecordPlace) (position : ℕ) (path : List ℕ) → List PassedRecord → (last : Piece) → Type 0
MayChangeAlong was put place position path passed last = HasRoute was place position path passed last × MayPut was put

-- how many pages may be needed
abbrev pub change_needs : List Rule → Put → (position : ℕ) (path : List ℕ) (members : Layout) → ℕ
change_needs rules put position path members =
    row_nodes (without_places members) + 2 * row_nodes (changed_interval rules put position path members) + near_pages (kept_around put position path members)

-- of each such interval that the record at the place may be that of
abbrev pub OfChanged : {D : Type 0} → Ghosts D → Records → D → List Rule → (known : Option Piece) → Put → RecordPlace → (position : ℕ) (path : List ℕ) → (Held → Layout → Type 0) → Type 0
OfChanged d records disk rules known put place position path P =
    (saved now : Held) (pieces : PieceMap now) (members : Layout) → StandsFor d records disk saved now → IsTidy now → IsHeldInterval now pieces known place position path most_nodes members
    → IsPossibleIn (now.settings).k rules put position path members → MayPut now put → P now members

-- ... and through whose record the path passes so
abbrev pub OfChangedAlong : {D : Type 0} → Ghosts D → Records → D → List PassedRecord → (last : Piece) → List Rule → Put → RecordPlace → (position : ℕ) (path : List ℕ) → (Held → Layout → Type 0) → Type 0
OfChangedAlong d records disk passed last rules put place position path P = OfChanged d records disk rules None put place position path (λ now members. HasRoute now place position path passed last → P now members)

-- No page is free now, and fewer were free than it may need, of each interval that is spoken of.
pub record FindsFewToChange {D : Type 0} (d : Ghosts D) (Of : (Held → Layout → Type 0) → Type 0) (rules : List Rule) (put : Put) (position : ℕ) (path : List ℕ) (old new : Records) (before after : D) : Type 0 where
  pub runs : RunsOn old new
  pub keeps : KeepsSaved d old new before after
  pub none_free : has_free new ≡ false
  pub few : Of (λ now members. now.free < change_needs rules put position path members)

-- Why the change wasn't made of the intervals that are spoken of, and what that leaves.
abbrev pub NotChangedOf : {D : Type 0} → Ghosts D → (Of : (Held → Layout → Type 0) → Type 0) → List Rule → Put → (position : ℕ) (path : List ℕ) → StoreError → Records → Records → D → D → Type 0
NotChangedOf d Of rules put position path store.Disk old new before after = Rose (d.faults before) (d.faults after) × EndNow old new
NotChangedOf d Of rules put position path store.Full old new before after = FindsFewToChange d Of rules put position path old new before after
NotChangedOf d Of rules put position path (store.Damaged page) old new before after = EndNow old new × Of (λ now members. ⊥)
NotChangedOf d Of rules put position path store.Memory old new before after = RunsOn old new × KeepsSaved d old new before after
NotChangedOf d Of rules put position path store.Ended old new before after = ⊥
NotChangedOf d Of rules put position path store.Exists old new before after = ⊥
NotChangedOf d Of rules put position path store.NotAStore old new before after = ⊥

-- ... of those whose piece may be known
abbrev pub NotChangedKnown : {D : Type 0} → Ghosts D → List Rule → (known : Option Piece) → Put → RecordPlace → (position : ℕ) (path : List ℕ) → StoreError → Records → Records → D → D → Type 0
NotChangedKnown d rules known put place position path e old new before after = NotChangedOf d (OfChanged d old before rules known put place position path) rules put position path e old new before after

-- ... of those through whose record the path passes so
abbrev pub NotChangedAlong : {D : Type 0} → Ghosts D → List PassedRecord → (last : Piece) → List Rule → Put → RecordPlace → (position : ℕ) (path : List ℕ) → StoreError → Records → Records → D → D → Type 0
NotChangedAlong d passed last rules put place position path e old new before after = NotChangedOf d (OfChangedAlong d old before passed last rules put place position path) rules put position path e old new before after
