-- What minima are at least, and at most.
use Rattle.std.proofs.Common.{◌≡◌, ℕ, ◌+◌, ◌≤◌, ap, arith}
use Rattle.nx_tree.specs.Forest.{Forest, Empty, Plant, OrderedTree, nodes}
use Rattle.nx_cuts.specs.Cut.{CutForest, Bare, Grown, Kept, joined, forest, cuts, AreParts}
use Rattle.nx_minima.specs.ChoiceLaw.{MinimaAreWithinBounds}
use Rattle.nx_cuts.proofs.NumberLemmas.{same_drawn}
use Rattle.nx_minima.proofs.MinimaLemmas.{within}

pub nodes-joined : (f g : Forest) → nodes (joined f g) ≡ nodes f + nodes g
nodes-joined Empty g = omega arith
nodes-joined (Plant n b s) g = omega (arith, nodes-joined s g)

-- each interval has a node of its own, its first member
pub cuts-nodes : (k : ℕ) (c : CutForest) → AreParts k c → cuts c ≤ nodes (forest c)
cuts-nodes k Bare h = omega arith
cuts-nodes k (Grown n b s) h = omega (arith, cuts-nodes k b h.0, cuts-nodes k s h.1)
cuts-nodes k (Kept u Bare s) h = let wide = h.0 in absurd (omega arith)
cuts-nodes k (Kept u (Grown n b m) s) h =
    omega (arith, cuts-nodes k b h.3.0, cuts-nodes k m h.3.1, cuts-nodes k s h.4, nodes-joined (forest m) (forest s))
cuts-nodes k (Kept u (Kept v m r) s) h = absurd h.1

pub within_bounds : MinimaAreWithinBounds
within_bounds k tree bound m =
    let s = same_drawn k tree m.least.one m.least.holds in
    let few : cuts s.drawn.below ≤ nodes (forest s.drawn.below) = cuts-nodes k s.drawn.below s.form in
    let same : nodes (forest s.drawn.below) ≡ nodes tree.below = ap (λ (t : OrderedTree). nodes t.below) s.tree_is in
    let a = within k tree m.lean.one m.lean.holds.0 in
    let b = within k tree m.nearly.one m.nearly.holds.0 in
    let as_many = m.lean.holds.1 in
    record {
      some = omega (arith, m.least.reached, s.as_many);
      few = omega (arith, m.least.reached, s.as_many, few, same);
      own = omega (arith, b.0, m.nearly.reached);
      no_more = omega (arith, m.nearly.least m.lean.one (m.lean.holds.0, omega (arith, as_many)), m.lean.reached);
      light = omega (arith, a.1, m.lean.reached);
    }
