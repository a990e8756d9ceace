-- Plans of a part of a document, which is a list of nodes with their paths, weights and entries: sets of intervals, their weights, and what is asked of them.
use Rattle.std.specs.Prelude.{◌≡◌, ℕ, ◌+◌, ◌<◌, ◌≤◌, Bool, true, false, ◌&&◌, ◌==◌, if◌then◌else◌, List, [], ◌∷◌, ◌++◌, length, drop, Some, IsTrue, slice_get, Contains}
use Rattle.std.specs.List.{All, AllPairs, list_any, sum_by}
use Rattle.std.specs.Str.{bytes_eq}
use Rattle.nx_matrix.specs.declared.rule.Entry.{Entry}
use Rattle.nx_matrix.specs.declared.rule.Entry.TheVariants.{Standalone, Cluster, Free}
use Rattle.nx_parts.specs.declared.interval.Interval.{Interval}
use Rattle.nx_parts.specs.declared.interval.Interval.TheVariants.{Root, Run}
use Rattle.nx_parts.specs.Partitioning.{ShareMember, has_member, owner, owns}
use Rattle.nx_sketch.specs.Sketch.{Placed}

-- a node stands at the path
abbrev pub HasNodeAt : List Placed → List ℕ → Type 0
HasNodeAt placed path = (node : Placed) × Contains placed node × (node.path ≡ path)

-- the node at the path has this entry
abbrev pub HasEntry : List Placed → List ℕ → Entry → Type 0
HasEntry placed path entry = (node : Placed) × Contains placed node × (node.path ≡ path) × (node.entry ≡ entry)

-- the interval is a row of nodes without a gap
abbrev pub IsInside : List Placed → Interval → Type 0
IsInside placed Root = ⊥
IsInside placed (Run parent first last) =
    (first ≤ last) × ((position : ℕ) → first ≤ position → position ≤ last → HasNodeAt placed (parent ++ position ∷ []))

-- some interval has the node at the path as a member
abbrev pub IsHeld : List Interval → List ℕ → Type 0
IsHeld parts path = (interval : Interval) × Contains parts interval × IsTrue (has_member interval path)

-- the child at that position is an interval alone
abbrev pub IsAlone : List Interval → List ℕ → ℕ → Type 0
IsAlone parts parent position = Contains parts (Run parent position position)

-- intervals that share no member; each root is in one, and each standalone node is one alone
pub record IsPlanOfPart (placed : List Placed) (parts : List Interval) : Type 0 where
  pub inside : All (IsInside placed) parts
  pub disjoint : AllPairs (λ a b. ¬ ShareMember a b) parts
  pub rooted : (position : ℕ) → HasNodeAt placed (position ∷ []) → IsHeld parts (position ∷ [])
  pub alone : (parent : List ℕ) (position : ℕ) → HasEntry placed (parent ++ position ∷ []) Standalone → IsAlone parts parent position

-- what the part of an interval weighs: all nodes that it owns
abbrev pub placed_part_weight : List Placed → List Interval → ℕ → ℕ
placed_part_weight placed parts index = sum_by (λ node. if owns parts index node.path then node.weight else 0) placed

-- a plan none of whose parts weighs more than k
pub record IsFeasiblePlan (k : ℕ) (placed : List Placed) (parts : List Interval) : Type 0 where
  pub plan : IsPlanOfPart placed parts
  pub light : (index : ℕ) → index < length parts → placed_part_weight placed parts index ≤ k

-- no edge from a node to a cluster child is cut: the child is owned with its parent
abbrev pub KeepsClusters : List Placed → List Interval → Type 0
KeepsClusters placed parts =
    (parent : List ℕ) (position : ℕ) → HasEntry placed (parent ++ position ∷ []) Cluster → owner parts (parent ++ position ∷ []) ≡ owner parts parent

-- the first path is a prefix of the second
abbrev pub is_prefix : List ℕ → List ℕ → Bool
is_prefix [] path = true
is_prefix (step ∷ prefix) [] = false
is_prefix (step ∷ prefix) (position ∷ path) = (step == position) && is_prefix prefix path

abbrev pub is_cluster : Entry → Bool
is_cluster Standalone = false
is_cluster Cluster = true
is_cluster Free = false

-- a cluster child stands at the path
abbrev pub is_cluster_at : List Placed → List ℕ → Bool
is_cluster_at placed path = list_any (λ node. bytes_eq node.path path && is_cluster node.entry) placed

-- each step of the way down from the first path is to a cluster child
abbrev pub clusters_down : List Placed → List ℕ → List ℕ → Bool
clusters_down placed path [] = true
clusters_down placed path (step ∷ way) = is_cluster_at placed (path ++ step ∷ []) && clusters_down placed (path ++ step ∷ []) way

-- the node at the second path is joined to the one at the first path, above it, by cluster edges
abbrev pub is_joined : List Placed → List ℕ → List ℕ → Bool
is_joined placed top path = is_prefix top path && clusters_down placed top (drop (length top) path)

-- what the component of a node that is no cluster child weighs: all nodes that cluster edges join to it
abbrev pub component_weight : List Placed → List ℕ → ℕ
component_weight placed top = sum_by (λ node. if is_joined placed top node.path then node.weight else 0) placed

-- no cluster component weighs more than k
abbrev pub AreComponentsLight : ℕ → List Placed → Type 0
AreComponentsLight k placed = (node : Placed) → Contains placed node → ¬ (node.entry ≡ Cluster) → component_weight placed node.path ≤ k

-- no member of the interval is a standalone child
abbrev pub IsOrdinary : List Placed → Interval → Type 0
IsOrdinary placed interval = (path : List ℕ) → IsTrue (has_member interval path) → ¬ HasEntry placed path Standalone

-- two intervals beside each other, with nothing between them and no standalone member, weigh more than k together
abbrev pub AreNeighboursFull : ℕ → List Placed → List Interval → Type 0
AreNeighboursFull k placed parts =
    (i j : ℕ) (parent : List ℕ) (first last end : ℕ) → slice_get parts i ≡ Some (Run parent first last) → slice_get parts j ≡ Some (Run parent (last + 1) end)
    → IsOrdinary placed (Run parent first last) → IsOrdinary placed (Run parent (last + 1) end) → k < placed_part_weight placed parts i + placed_part_weight placed parts j
