-- A drawing of the whole document is a plan.
use Rattle.std.proofs.Common.{◌≡◌, ℕ, ◌+◌, ◌≤◌, false, List, [], ◌∷◌, ◌++◌, length, sym, ap, subst, ◌∙◌, arith}
use Rattle.nx_tree.specs.Forest.{OrderedTree, nodes}
use Rattle.nx_parts.specs.declared.bounds.Bound.{Bound}
use Rattle.nx_parts.specs.declared.interval.Interval.{Interval}
use Rattle.nx_parts.specs.declared.interval.Interval.TheVariants.{Root}
use Rattle.nx_parts.specs.Minima.{IsMinima, AreMinima, IsLeanOptimal}
use Rattle.nx_parts.specs.Order.{AreInOrder}
use Rattle.nx_cuts.specs.Cut.{forest, intervals, parts_of}
use Rattle.nx_cuts.proofs.NumberLemmas.{length-parts}
use Rattle.nx_cuts.proofs.OrderLemmas.{drawn_in_order}
use Rattle.nx_minima.proofs.BoundLemmas.{cuts-nodes}
use Rattle.nx_minima.proofs.MinimaLemmas.{drawn_lean}
use Rattle.nx_partition.specs.Planning.{first_bound, IsLeanInOrder, AddsDrawing}

-- The intervals are a lean optimal partitioning in document order, and no more than there are nodes.
pub record IsWhole (k : ℕ) (tree : OrderedTree) (parts : List Interval) : Type 0 where
  pub partitioning : IsLeanInOrder k tree parts
  pub few : length parts ≤ 1 + nodes tree.below

pub whole_plan : (k : ℕ) (tree : OrderedTree) (bounds : List Bound) {path : List ℕ} {old parts : List Interval} → AreMinima k tree bounds → path ≡ [] → old ≡ Root ∷ [] → AddsDrawing k tree false (first_bound bounds) path old parts
    → IsWhole k tree parts
whole_plan k tree [] m top first p = let n = m.one_each in absurd (omega arith)
whole_plan k tree (bound ∷ bounds) {path} {old} {parts} m top first p =
    let is : parts ≡ parts_of p.drawn = p.added ∙ ap (λ l. l ++ intervals path 0 p.drawn.below) first ∙ ap (λ l. Root ∷ intervals l 0 p.drawn.below) top in
    let n = ap length is in
    let e : nodes (forest p.drawn.below) ≡ nodes tree.below = ap (λ (t : OrderedTree). nodes t.below) p.tree_is in
    record {
      partitioning = record {
        lean = subst (λ l. IsLeanOptimal k tree l) (sym is)
            (subst (λ u. IsLeanOptimal k u (parts_of p.drawn)) p.tree_is (drawn_lean k bound p.drawn (subst (λ u. IsMinima k u bound) (sym p.tree_is) m.each.0) p.reaches));
        in_order = subst AreInOrder (sym is) (drawn_in_order k p.drawn p.reaches.parts);
      };
      few = omega (arith, n, length-parts p.drawn, cuts-nodes k p.drawn.below p.reaches.parts, e);
    }
