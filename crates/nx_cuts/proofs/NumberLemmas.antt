-- A drawing and the partitioning that it stands for have as many intervals, and their root's parts weigh the same.
use Rattle.std.proofs.Common.{◌≡◌, ℕ, ◌+◌, ◌≤◌, List, [], length, Option, Some, sym, ap, ◌∙◌, arith}
use Rattle.std.specs.Option.{option_map_or}
use Rattle.std.proofs.lemmas.Iterator.Adapters.{position_from-zero}
use Rattle.std.proofs.lemmas.List.Sorted.{length_permutation}
use Rattle.nx_tree.specs.Forest.{OrderedTree}
use Rattle.nx_weights.specs.Weight.{weight}
use Rattle.nx_parts.specs.declared.interval.Interval.{Interval}
use Rattle.nx_parts.specs.Partitioning as parts
use Rattle.nx_parts.specs.Partitioning.{IsFeasible, has_member, holder, root_weight}
use Rattle.nx_cuts.specs.Cut.{CutTree, cuts, part_weight, AreParts, tree_of, parts_of}
use Rattle.nx_cuts.proofs.FeasibleLemmas.{length-intervals, weight-below}
use Rattle.nx_cuts.proofs.PartitionLemmas.{drawn_feasible}
use Rattle.nx_cuts.proofs.WeightLemmas.{same_root}
use Rattle.nx_cuts.proofs.DrawnLaw.{feasible_drawn, part_is, distinct}

pub length-parts : (t : CutTree) → length (parts_of t) ≡ 1 + cuts t.below
length-parts t = omega (arith, length-intervals [] 0 t.below)

-- what the root's part of a drawn tree weighs
pub root_weight-drawn : (k : ℕ) (t : CutTree) → AreParts k t.below → root_weight (tree_of t) (parts_of t) ≡ weight t.node + part_weight t.below
root_weight-drawn k t h =
    let ps = parts_of t in
    let root : holder ps [] ≡ Some 0 = position_from-zero (λ x. has_member x []) ps in
    let none = weight-below 0 1 t.below (omega arith) in
    let first = part_is k t 0 h in
    let sum : parts.owned_weight (tree_of t) ps 0 ≡ weight t.node + part_weight t.below = omega (arith, first, none) in
    ap (λ (o : Option ℕ). option_map_or (parts.owned_weight (tree_of t) ps) o 0) root ∙ sum

-- A feasible partitioning drawn in: as many intervals, and the same weight of the root's part.
pub record IsSame (k : ℕ) (tree : OrderedTree) (parts : List Interval) : Type 0 where
  pub drawn : CutTree
  pub tree_is : tree_of drawn ≡ tree
  pub form : AreParts k drawn.below
  pub as_many : length parts ≡ 1 + cuts drawn.below
  pub weighs : root_weight tree parts ≡ weight drawn.node + part_weight drawn.below
  pub light : root_weight tree parts ≤ k

pub same_drawn : (k : ℕ) (tree : OrderedTree) (parts : List Interval) → IsFeasible k tree parts → IsSame k tree parts
same_drawn k tree parts f =
    let c = feasible_drawn k tree parts f in
    let t = c.document in
    let node : weight t.node ≡ weight tree.node = ap (λ (u : OrderedTree). weight u.node) c.tree_is in
    let light = c.root_light in
    let heavy : weight t.node + part_weight t.below ≤ k = omega arith in
    let qs = parts_of t in
    let dq = distinct (tree_of t) qs (drawn_feasible k t heavy c.light).partitioning in
    let dp = distinct tree parts f.partitioning in
    let weighs : root_weight tree parts ≡ weight t.node + part_weight t.below =
    sym (same_root tree qs parts dq dp c.parts_are) ∙ ap (λ u. root_weight u qs) (sym c.tree_is) ∙ root_weight-drawn k t c.light in
    record {
      drawn = t;
      tree_is = c.tree_is;
      form = c.light;
      as_many = length_permutation qs parts c.parts_are ∙ length-parts t;
      weighs = weighs;
      light = omega (arith, weighs, heavy);
    }
