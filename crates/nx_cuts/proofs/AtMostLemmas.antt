-- No node of a tree that is feasibly partitioned weighs more than k.
use Rattle.std.proofs.Common.{ℕ, ◌+◌, ◌≤◌, List, subst, arith}
use Rattle.nx_tree.specs.Forest.{OrderedTree, Forest, Empty, Plant}
use Rattle.nx_weights.specs.Weight.{weight, AreAtMost, IsAtMost}
use Rattle.nx_parts.specs.declared.interval.Interval.{Interval}
use Rattle.nx_parts.specs.Partitioning.{IsFeasible}
use Rattle.nx_cuts.specs.Cut.{CutForest, Bare, Grown, Kept, joined, forest, part_weight, AreParts}
use Rattle.nx_cuts.proofs.DrawnLaw.{feasible_drawn}

light-joined : (k : ℕ) (f g : Forest) → AreAtMost k f → AreAtMost k g → AreAtMost k (joined f g)
light-joined k Empty g light light' = light'
light-joined k (Plant node below beside) g (own, low, side) light' = (own, low, light-joined k beside g side light')

light-drawn : (k : ℕ) (c : CutForest) → AreParts k c → part_weight c ≤ k → AreAtMost k (forest c)
light-drawn k Bare parts light = tt
light-drawn k (Grown node below beside) (low, side) light =
    let all : weight node + part_weight below + part_weight beside ≤ k = light in
    (omega (arith, all), light-drawn k below low (omega (arith, all)), light-drawn k beside side (omega (arith, all)))
light-drawn k (Kept mark members beside) (some, free, few, inside, side) light =
    light-joined k (forest members) (forest beside) (light-drawn k members inside few) (light-drawn k beside side light)

pub feasible_light : (k : ℕ) (tree : OrderedTree) (parts : List Interval) → IsFeasible k tree parts → IsAtMost k tree
feasible_light k tree parts feasible =
    let drawn = feasible_drawn k tree parts feasible in
    let root : weight tree.node + part_weight drawn.document.below ≤ k = drawn.root_light in (
      omega (arith, root),
      subst (λ (t : OrderedTree). AreAtMost k t.below) drawn.tree_is (light-drawn k drawn.document.below drawn.light (omega (arith, root))),
    )
