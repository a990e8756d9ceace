-- What a walk has shown, and of what, and how many pages it read.
use Rattle.std.specs.Prelude.{◌≡◌, ℕ, ◌+◌, ◌≤◌, Bool, List, [], ◌++◌}
use Rattle.nx_host.specs.declared.disk.Disk.{Ghosts}
use Rattle.nx_records.specs.Words.{Held}
use Rattle.nx_records.specs.Records.{StandsFor}
use Rattle.nx_records.specs.declared.records.Records.{Records}
use Rattle.nx_tree.specs.Document.{depth}
use Rattle.nx_cuts.specs.Cut.{Bare, Grown, Kept}
use Rattle.nx_layouts.specs.Layout.{RecordPlace, Layout, laid_forest}
use Rattle.nx_nav.specs.Along.{TakePages}
use Rattle.nx_names.specs.Look.{Look, looks_into, begun_nodes, begun_places}

-- what is shown of the one interval that a layout has, whether it is wanted or not
abbrev pub looks_entering : (RecordPlace → Bool) → Layout → List Look
looks_entering wanted Bare = []
looks_entering wanted (Grown node below beside) = []
looks_entering wanted (Kept place members beside) = looks_into wanted place members

-- no more pages were read than those on which the pieces of the records stand whose intervals have begun
abbrev pub ReadsLooks : {D : Type 0} → Ghosts D → Records → D → D → List Look → Type 0
ReadsLooks d records before after looks = (pages : ℕ) × (d.reads after ≤ d.reads before + pages) × ((saved now : Held) → StandsFor d records before saved now → TakePages now (begun_places looks) pages)

-- From one looker to another all is shown of each layout that P speaks of. The nodes that begin are taken off those that are left.
pub record ShowsWhole {A D : Type 0} (d : Ghosts D) (Shown : A → List Look → A → Type 0) (P : Layout → Type 0) (looks : Layout → List Look) (records : Records) (old : A) (before : D) (left : ℕ) (new : A) (after : D) (rest : ℕ) : Type 0 where
  pub told : List Look
  pub goes : Shown old told new
  pub counts : left ≡ rest + begun_nodes told
  pub reads : ReadsLooks d records before after told
  pub all : (layout : Layout) → P layout → told ≡ looks layout

-- ... or the first part of each.
pub record StopsShowing {D : Type 0} (d : Ghosts D) (P : Layout → Type 0) (looks : Layout → List Look) (records : Records) (before after : D) : Type 0 where
  pub told : List Look
  pub reads : ReadsLooks d records before after told
  pub first : (layout : Layout) → P layout → (more : List Look) × (looks layout ≡ told ++ more)

-- there is no such layout of so many levels at most, of which no more nodes than are left begin
abbrev pub IsNoSuch : (Layout → Type 0) → (Layout → List Look) → (levels left : ℕ) → Type 0
IsNoSuch P looks levels left = (layout : Layout) → P layout → depth (laid_forest layout) ≤ levels → begun_nodes (looks layout) ≤ left → ⊥
