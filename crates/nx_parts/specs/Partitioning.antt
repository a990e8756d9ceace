-- Sibling intervals of a tree, the part that each of them holds, and what makes a partitioning of them.
use Rattle.std.specs.Prelude.{ℕ, ◌<◌, ◌≤◌, Bool, true, false, ◌&&◌, ◌==◌, nat_lt, nat_le, if◌then◌else◌, List, [], ◌∷◌, length, map, Option, None, IsTrue, Contains}
use Rattle.std.specs.List.{All, AllPairs, filter_map, last_or, position, range_with_len, sum_by}
use Rattle.std.specs.Option.{option_map_or}
use Rattle.nx_tree.specs.Forest.{OrderedTree, trees_of}
use Rattle.nx_tree.specs.Document.{is_empty}
use Rattle.nx_tree.specs.Edit.{at}
use Rattle.nx_weights.specs.Weight.{weight, listed}
use Rattle.nx_parts.specs.declared.interval.Interval.{Interval}
use Rattle.nx_parts.specs.declared.interval.Interval.TheVariants.{Root, Run}

-- the path is the parent's with a position from first to last at its end
abbrev pub is_child_path : List ℕ → ℕ → ℕ → List ℕ → Bool
is_child_path [] first last [] = false
is_child_path [] first last (position ∷ []) = nat_le first position && nat_le position last
is_child_path [] first last (position ∷ next ∷ path) = false
is_child_path (step ∷ parent) first last [] = false
is_child_path (step ∷ parent) first last (position ∷ path) = (step == position) && is_child_path parent first last path

-- the node at the path is a member of the interval
abbrev pub has_member : Interval → List ℕ → Bool
has_member Root path = is_empty path
has_member (Run parent first last) path = is_child_path parent first last path

-- the interval lies in the tree: its parent is there, and so are its members, of which there is one at least
abbrev pub is_in_tree : OrderedTree → Interval → Bool
is_in_tree tree Root = true
is_in_tree tree (Run parent first last) =
    nat_le first last && option_map_or (λ t. nat_lt last (length (trees_of t.below))) (at tree parent) false

-- some node is a member of both intervals
abbrev pub ShareMember : Interval → Interval → Type 0
ShareMember a b = (path : List ℕ) × IsTrue (has_member a path) × IsTrue (has_member b path)

-- a list of sibling intervals of the tree that share no member, the root's among them
pub record IsPartitioning (tree : OrderedTree) (parts : List Interval) : Type 0 where
  pub inside : All (λ interval. IsTrue (is_in_tree tree interval)) parts
  pub disjoint : AllPairs (λ a b. ¬ ShareMember a b) parts
  pub rooted : Contains parts Root

-- the interval that has the node at the path as a member: its place in the list
abbrev pub holder : List Interval → List ℕ → Option ℕ
holder parts path = position (λ interval. has_member interval path) parts

-- the prefixes of a path: the empty one first, the whole path last
abbrev pub prefixes : List ℕ → List (List ℕ)
prefixes [] = [] ∷ []
prefixes (step ∷ path) = [] ∷ map (λ prefix. step ∷ prefix) (prefixes path)

-- the interval that owns the node at the path: the one of its nearest member, upwards from the node itself
abbrev pub owner : List Interval → List ℕ → Option ℕ
owner parts path = last_or None (filter_map (holder parts) (prefixes path))

abbrev pub owns : List Interval → ℕ → List ℕ → Bool
owns parts index path = option_map_or (λ place. place == index) (owner parts path) false

-- what the part of an interval weighs: all nodes that it owns
abbrev pub owned_weight : OrderedTree → List Interval → ℕ → ℕ
owned_weight tree parts index = sum_by (λ placed. if owns parts index placed.0 then weight placed.1 else 0) (listed tree)

-- the weights of the parts, in the order of their intervals
abbrev pub part_weights : OrderedTree → List Interval → List ℕ
part_weights tree parts = map (owned_weight tree parts) (range_with_len 0 (length parts))

-- what the part of the root's interval weighs
abbrev pub root_weight : OrderedTree → List Interval → ℕ
root_weight tree parts = option_map_or (owned_weight tree parts) (holder parts []) 0

-- a partitioning none of whose parts weighs more than k
pub record IsFeasible (k : ℕ) (tree : OrderedTree) (parts : List Interval) : Type 0 where
  pub partitioning : IsPartitioning tree parts
  pub light : (index : ℕ) → index < length parts → owned_weight tree parts index ≤ k

-- a feasible partitioning with no more intervals than any other
pub record IsOptimal (k : ℕ) (tree : OrderedTree) (parts : List Interval) : Type 0 where
  pub feasible : IsFeasible k tree parts
  pub fewest : (others : List Interval) → IsFeasible k tree others → length parts ≤ length others
