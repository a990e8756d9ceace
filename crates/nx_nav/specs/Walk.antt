-- What a walk has told, and of what.
use Rattle.std.specs.Prelude.{◌≡◌, ℕ, ◌+◌, ◌-◌, ◌≤◌, Bool, List, ◌++◌, IsSome}
use Rattle.nx_host.specs.declared.disk.Disk.{Ghosts}
use Rattle.nx_records.specs.declared.records.Records.{Records}
use Rattle.nx_tree.specs.Forest.{nodes}
use Rattle.nx_tree.specs.Document.{depth, deepest}
use Rattle.nx_piece.specs.declared.piece.Proxy.{Proxy}
use Rattle.nx_piece.specs.Gapped.{Gapped, GappedTree}
use Rattle.nx_cuts.specs.Cut.{Bare, Grown, Kept, width}
use Rattle.nx_layouts.specs.Layout.{RecordPlace, LaidNode, Layout, in_record, laid_forest, piece_body, proxies_of, places_of, ArePlacedOnce}
use Rattle.nx_nav.specs.Parts.{HasLayout}
use Rattle.nx_nav.specs.Refusals.{OfEach, node_count}
use Rattle.nx_nav.specs.Nodes.{CanStand}
use Rattle.nx_nav.specs.declared.visited.Visited.{Visited}
use Rattle.nx_nav.specs.Visited.{HasVisited}
use Rattle.nx_nav.specs.Pages.{laid_pages}
use Rattle.nx_nav.specs.Steps.{WalkStep, laid_steps, steps_of}

-- these places come behind all those that were visited before
abbrev pub Visits : Visited → List RecordPlace → Visited → Type 0
Visits old places new = (earlier : List RecordPlace) → HasVisited old earlier → HasVisited new (earlier ++ places)

-- no more pages were read than the records and contents of each layout that P speaks of stand on
abbrev pub ReadsNoMore : {D : Type 0} → Ghosts D → (Layout → Type 0) → (before after : D) → Type 0
ReadsNoMore d P before after =
    IsSome (d.contents after) → (layout : Layout) → P layout → d.reads after ≤ d.reads before + laid_pages layout

-- From a teller and a disk to others, where the disk's contents are told at the end: what is told of each layout that P speaks of. Its nodes are taken off those that are left,
-- and the places of its records are visited.
pub record HasTold {A D : Type 0} (d : Ghosts D) (asked : Bool) (Told : A → D → List WalkStep → A → D → Type 0) (P : Layout → Type 0) (old : A) (before : D) (left : ℕ) (visited : Visited) (new : A) (after : D) (rest : ℕ) (now : Visited) : Type 0 where
  pub told : List WalkStep
  pub goes : Told old before told new after
  pub places : List RecordPlace
  pub visits : Visits visited places now
  pub all : IsSome (d.contents after) → (layout : Layout) → P layout → (told ≡ laid_steps asked layout) × (left ≡ rest + nodes (laid_forest layout)) × (places ≡ places_of layout)
  pub reads : ReadsNoMore d P before after

-- ... or of the first part of each, and what came then.
pub record HasStopped {A D : Type 0} (d : Ghosts D) (asked : Bool) (Told : A → D → List WalkStep → A → D → Type 0) (P : Layout → Type 0) (old : A) (before after : D) : Type 0 where
  pub told : List WalkStep
  pub last : A
  pub goes : Told old before told last after
  pub first : IsSome (d.contents after) → (layout : Layout) → P layout → (more : List WalkStep) × (laid_steps asked layout ≡ told ++ more)
  pub reads : ReadsNoMore d P before after

-- The same of each thing that P speaks of, of which these steps tell, with no record visited.
pub record TellsEach {A D T : Type 0} (d : Ghosts D) (Told : A → D → List WalkStep → A → D → Type 0) (P : T → Type 0) (steps : T → List WalkStep) (old : A) (before : D) (new : A) (after : D) : Type 0 where
  pub told : List WalkStep
  pub goes : Told old before told new after
  pub all : IsSome (d.contents after) → (x : T) → P x → told ≡ steps x

-- ... or of the first part of each.
pub record StopsInEach {A D T : Type 0} (d : Ghosts D) (Told : A → D → List WalkStep → A → D → Type 0) (P : T → Type 0) (steps : T → List WalkStep) (old : A) (before after : D) : Type 0 where
  pub told : List WalkStep
  pub last : A
  pub goes : Told old before told last after
  pub first : IsSome (d.contents after) → (x : T) → P x → (more : List WalkStep) × (steps x ≡ told ++ more)

-- where the contents of this disk are told, there is no such thing
abbrev pub LacksEach : {D T : Type 0} → Ghosts D → D → (T → Type 0) → Type 0
LacksEach {T = T} d after P = IsSome (d.contents after) → (x : T) → P x → ⊥

-- A document may have these trees where so many levels are left, of those that it has at most. They are so deep and so large at most, and no record of them was visited or comes twice.
pub record IsWalkable (deep left : ℕ) (visited : Visited) (layout : Layout) : Type 0 where
  pub shallow : depth (laid_forest layout) ≤ deep
  pub small : nodes (laid_forest layout) ≤ left
  pub stands : CanStand (deepest + 1 - deep) (laid_forest layout)
  pub earlier : List RecordPlace
  pub were : HasVisited visited earlier
  pub once : ArePlacedOnce (earlier ++ places_of layout)

-- where the contents of this disk are told, there is no such layout that a walk may tell
abbrev pub IsNone : {D : Type 0} → Ghosts D → D → (Layout → Type 0) → (deep left : ℕ) → Visited → Type 0
IsNone d after P deep left visited = IsSome (d.contents after) → (layout : Layout) → P layout → IsWalkable deep left visited layout → ⊥

-- intervals alone
abbrev pub AreIntervals : Layout → Type 0
AreIntervals Bare = Unit {0}
AreIntervals (Grown node below beside) = ⊥
AreIntervals (Kept place members beside) = AreIntervals beside

module _ {D : Type 0} (d : Ghosts D) (records : Records) (disk : D) where
  -- an interval of so many members, whose record is at this place
  abbrev pub IsIntervalAt : RecordPlace → ℕ → Layout → Type 0
  IsIntervalAt place roots layout = (members : Layout) × (layout ≡ Kept place members Bare) × (width members ≡ roots) × HasLayout d records disk layout

  -- what this tree of a piece stands for, with the first of these proxies
  abbrev pub IsTreeOf : GappedTree → List Proxy → Layout → Type 0
  IsTreeOf tree proxies layout =
      (node : LaidNode) × (below : Layout) × (layout ≡ Grown node below Bare) × (tree.node ≡ in_record node) × (tree.below ≡ piece_body below) × ((more : List Proxy) × (proxies ≡ proxies_of below ++ more)) × HasLayout d records disk layout

  -- what these trees and gaps of a piece stand for, with the first of these proxies
  abbrev pub AreOf : Gapped → List Proxy → Layout → Type 0
  AreOf items proxies layout = (items ≡ piece_body layout) × ((more : List Proxy) × (proxies ≡ proxies_of layout ++ more)) × HasLayout d records disk layout

  -- intervals beside each other, which these proxies stand for
  abbrev pub AreIntervalsOf : List Proxy → Layout → Type 0
  AreIntervalsOf proxies layout = AreIntervals layout × (proxies ≡ proxies_of layout) × HasLayout d records disk layout

-- From a teller and a disk to others, where the disk's contents are told at the end: all is told of each document that the records hold from this place on, and it has so many nodes.
pub record TellsDocument {A D : Type 0} (d : Ghosts D) (asked : Bool) (Told : A → D → List WalkStep → A → D → Type 0) (records : Records) (before : D) (root : RecordPlace) (count : ℕ) (old new : A) (after : D) : Type 0 where
  pub told : List WalkStep
  pub goes : Told old before told new after
  pub all : IsSome (d.contents after) → OfEach d records before root (λ document. (node_count document ≡ count) × (told ≡ steps_of asked document))

-- ... or the first part of each, and what came then.
pub record StopsWithin {A D : Type 0} (d : Ghosts D) (asked : Bool) (Told : A → D → List WalkStep → A → D → Type 0) (records : Records) (before : D) (root : RecordPlace) (old : A) (after : D) : Type 0 where
  pub told : List WalkStep
  pub last : A
  pub goes : Told old before told last after
  pub first : IsSome (d.contents after) → OfEach d records before root (λ document. (more : List WalkStep) × (steps_of asked document ≡ told ++ more))
