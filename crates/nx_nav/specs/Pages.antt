-- The pages that a document and a subtree of it stand on.
use Rattle.std.specs.Prelude.{ℕ, ◌+◌, ◌≤◌, List, Option}
use Rattle.std.specs.Option.{option_map_or}
use Rattle.nx_host.specs.declared.disk.Disk.{Ghosts}
use Rattle.nx_records.specs.Words.{Held}
use Rattle.nx_records.specs.declared.records.Records.{Records}
use Rattle.nx_cuts.specs.Cut.{Bare, Grown, Kept, CutTree}
use Rattle.nx_layouts.specs.Layout.{RecordPlace, LaidNode, Layout, in_record, laid_near, piece_of}
use Rattle.nx_hold.specs.Changes.{chain_pages}
use Rattle.nx_hold.specs.Contents.{far_pages}
use Rattle.nx_hold.specs.Documents.{HasDocument}
use Rattle.nx_nav.specs.Along.{ReadsAlong}
use Rattle.nx_nav.specs.Below.{drawn_at}

-- So many pages these trees stand on in records of their own: of each interval that of its record and those
-- that the record names for its proxies, and of each far content those of its list.
abbrev pub laid_pages : Layout → ℕ
laid_pages Bare = 0
laid_pages (Grown node below beside) = far_pages (in_record node) + laid_pages below + laid_pages beside
laid_pages (Kept place members beside) =
    1 + chain_pages (piece_of members) + laid_pages members + laid_pages beside

-- the tree at a path of a document, as records hold it
abbrev pub laid_at : {D : Type 0} {d : Ghosts D} {records : Records} {disk : D} {root : RecordPlace}
    {document : CutTree} (h : HasDocument d records disk root document) → List ℕ → Option (LaidNode × Layout)
laid_at {document = document} h path = drawn_at (laid_near document.node, h.laid.layout) path

-- so many pages it stands on behind the record that has its root
abbrev pub pages_below : {D : Type 0} {d : Ghosts D} {records : Records} {disk : D} {root : RecordPlace}
    {document : CutTree} (h : HasDocument d records disk root document) → List ℕ → ℕ
pages_below h path =
    option_map_or (λ tree. far_pages (in_record tree.0) + laid_pages tree.1) (laid_at h path) 0

-- From a count of reads to another no more pages were read than those on the way to a path, and behind
-- them so many.
pub record ReadsBelow (now : Held) (root : RecordPlace) (path : List ℕ) (below old new : ℕ) : Type 0 where
  pub between : ℕ
  pub along : ReadsAlong now root path old between
  pub few : new ≤ between + below
