-- Tests that compute, over all nodes and intervals, what the definitions of a plan and of the separator say.
use Rattle.std.specs.Prelude.{ℕ, ◌+◌, ◌-◌, Bool, true, false, ◌&&◌, ◌||◌, not, ◌==◌, nat_le, nat_lt, List, [], ◌∷◌, ◌++◌, length, take, Option, None, Some}
use Rattle.std.specs.List.{enumerate_from, list_all, list_any, range_with_len}
use Rattle.std.specs.Str.{bytes_eq}
use Rattle.nx_matrix.specs.declared.rule.Entry.{Entry}
use Rattle.nx_matrix.specs.declared.rule.Entry.TheVariants.{Standalone, Cluster, Free}
use Rattle.nx_tree.specs.Document.{is_empty}
use Rattle.nx_parts.specs.declared.interval.Interval.{Interval}
use Rattle.nx_parts.specs.declared.interval.Interval.TheVariants.{Root, Run}
use Rattle.nx_parts.specs.Order.{first_member}
use Rattle.nx_parts.specs.Partitioning.{has_member, owner}
use Rattle.nx_sketch.specs.Sketch.{Placed}
use Rattle.nx_sketch.specs.Plan.{component_weight, is_cluster, placed_part_weight}
use Rattle.nx_sketch.specs.Separator.{is_before, is_left, is_marked}
use Rattle.nx_matrix.specs.Rules.{is_free}

abbrev pub is_standalone : Entry → Bool
is_standalone Standalone = true
is_standalone Cluster = false
is_standalone Free = false

abbrev pub same_bool : Bool → Bool → Bool
same_bool true b = b
same_bool false b = not b

abbrev pub same_place : Option ℕ → Option ℕ → Bool
same_place None None = true
same_place None (Some y) = false
same_place (Some x) None = false
same_place (Some x) (Some y) = x == y

abbrev pub same_interval : Interval → Interval → Bool
same_interval Root Root = true
same_interval Root (Run parent first last) = false
same_interval (Run parent first last) Root = false
same_interval (Run parent first last) (Run other begin end) = bytes_eq parent other && (first == begin && last == end)

-- a node stands at the path
abbrev pub placed_test : List Placed → List ℕ → Bool
placed_test nodes path = list_any (λ node. bytes_eq node.path path) nodes

-- the interval has no gap
abbrev pub inside_test : List Placed → Interval → Bool
inside_test nodes Root = false
inside_test nodes (Run parent first last) =
    nat_le first last && list_all (λ position. placed_test nodes (parent ++ position ∷ [])) (range_with_len first (last + 1 - first))

-- some node is a member of both
abbrev pub share_test : Interval → Interval → Bool
share_test Root Root = true
share_test Root (Run parent first last) = false
share_test (Run parent first last) Root = false
share_test (Run parent first last) (Run other begin end) = bytes_eq parent other && (nat_le first end && nat_le begin last && nat_le first last && nat_le begin end)

-- the test passes for each element and each later one
abbrev pub pairs_test : {X : Type 0} → (X → X → Bool) → List X → Bool
pairs_test r [] = true
pairs_test r (x ∷ xs) = list_all (r x) xs && pairs_test r xs

abbrev pub apart_test : Interval → Interval → Bool
apart_test one other = not (share_test one other)

-- a root is held
abbrev pub rooted_test : List Interval → Placed → Bool
rooted_test parts node = not (length node.path == 1) || list_any (λ interval. has_member interval node.path) parts

-- the interval has the node at the path as its one member
abbrev pub alone_member : List ℕ → Interval → Bool
alone_member path Root = false
alone_member path (Run parent first last) = has_member (Run parent first last) path && (first == last)

-- a standalone child is alone
abbrev pub alone_test : List Interval → Placed → Bool
alone_test parts node = not (is_standalone node.entry) || is_empty node.path || list_any (alone_member node.path) parts

abbrev pub plan_test : List Placed → List Interval → Bool
plan_test nodes parts = list_all (inside_test nodes) parts && pairs_test apart_test parts && list_all (rooted_test parts) nodes && list_all (alone_test parts) nodes

abbrev pub feasible_test : ℕ → List Placed → List Interval → Bool
feasible_test k nodes parts = plan_test nodes parts && list_all (λ index. nat_le (placed_part_weight nodes parts index) k) (range_with_len 0 (length parts))

-- a cluster child has its parent's owner
abbrev pub kept_test : List Interval → Placed → Bool
kept_test parts node = not (is_cluster node.entry) || is_empty node.path || same_place (owner parts node.path) (owner parts (take (length node.path - 1) node.path))

abbrev pub light_test : ℕ → List Placed → Placed → Bool
light_test k nodes node = is_cluster node.entry || nat_le (component_weight nodes node.path) k

-- no member is a standalone child
abbrev pub ordinary_test : List Placed → Interval → Bool
ordinary_test nodes interval = list_all (λ node. not (is_standalone node.entry) || not (has_member interval node.path)) nodes

-- the second interval begins right behind the first one
abbrev pub beside_test : Interval → Interval → Bool
beside_test Root Root = false
beside_test Root (Run parent first last) = false
beside_test (Run parent first last) Root = false
beside_test (Run parent first last) (Run other begin end) = bytes_eq parent other && (last + 1 == begin)

-- an interval and another one, by their places, are no neighbours that fit together
abbrev pub full_test : ℕ → List Placed → List Interval → ℕ × Interval → ℕ × Interval → Bool
full_test k nodes parts one other =
    not (beside_test one.1 other.1 && ordinary_test nodes one.1 && ordinary_test nodes other.1)
    || nat_lt k (placed_part_weight nodes parts one.0 + placed_part_weight nodes parts other.0)

abbrev pub neighbours_test : ℕ → List Placed → List Interval → Bool
neighbours_test k nodes parts = list_all (λ one. list_all (full_test k nodes parts one) (enumerate_from 0 parts)) (enumerate_from 0 parts)

-- free and not of the separator, with a subtree that ends on that side
abbrev pub is_loose : List Placed → ℕ → ℕ → Bool → Placed → Bool
is_loose nodes t tolerance left node = is_free node.entry && not (is_marked nodes t tolerance node.path) && same_bool (is_left nodes t node.path) left

-- such a node stands at the path
abbrev pub loose_test : List Placed → ℕ → ℕ → Bool → List ℕ → Bool
loose_test nodes t tolerance left path = list_any (λ node. bytes_eq node.path path && is_loose nodes t tolerance left node) nodes

-- standalone, or a root of the separator
abbrev pub is_single : List Placed → ℕ → ℕ → Placed → Bool
is_single nodes t tolerance node = is_standalone node.entry || (length node.path == 1 && is_marked nodes t tolerance node.path)

-- such a node stands at the path
abbrev pub single_test : List Placed → ℕ → ℕ → List ℕ → Bool
single_test nodes t tolerance path = list_any (λ node. bytes_eq node.path path && is_single nodes t tolerance node) nodes

-- the first member of the one comes before that of the other
abbrev pub starts_before : Interval → Interval → Bool
starts_before one other = is_before (first_member one) (first_member other)

-- the node comes before the other one
abbrev pub comes_test : Placed → Placed → Bool
comes_test node other = is_before node.path other.path
