-- Drawings and feasible partitionings reach the same numbers.
use Rattle.std.proofs.Common.{ℕ, ◌≤◌, List, length, arith}
use Rattle.nx_tree.specs.Forest.{OrderedTree}
use Rattle.nx_parts.specs.declared.interval.Interval.{Interval}
use Rattle.nx_parts.specs.Partitioning.{root_weight}
use Rattle.nx_cuts.specs.Cut.{CutTree, tree_of, parts_of}
use Rattle.nx_cuts.proofs.NumberLemmas.{IsSame, length-parts, root_weight-drawn}
use Rattle.nx_cuts.proofs.PartitionLemmas.{drawn_feasible}
use Rattle.nx_minima.specs.Drawing.{Reaches, IsReachable}

-- what a drawing reaches, a feasible partitioning does
pub reached : (k most most_weight : ℕ) (t : CutTree) → most_weight ≤ k → Reaches k most most_weight t → IsReachable k most most_weight (tree_of t)
reached k most most_weight t light r =
    record {
      parts = parts_of t;
      feasible = drawn_feasible k t (omega (arith, r.little, light)) r.parts;
      few = omega (arith, length-parts t, r.few);
      little = omega (arith, root_weight-drawn k t r.parts, r.little);
    }

-- what a feasible partitioning reaches, its drawing does
pub same_reaches : (k most most_weight : ℕ) (tree : OrderedTree) (parts : List Interval) (s : IsSame k tree parts) → length parts ≤ most → root_weight tree parts ≤ most_weight → Reaches k most most_weight s.drawn
same_reaches k most most_weight tree parts s few little =
    record { parts = s.form; few = omega (arith, s.as_many, few); little = omega (arith, s.weighs, little) }
