-- Supported claims are true of every feasible partitioning: at a node, over a forest with its intervals drawn in, and at the root.
use Rattle.std.proofs.Common.{◌≡◌, ℕ, suc, ◌+◌, ◌≤◌, min, max, List, [], ◌∷◌, ◌++◌, length, drop, refl, sym, ap, ◌∙◌, subst, arith, append_assoc, length-drop}
use Rattle.std.specs.List.{AllByRecursion}
use Rattle.std.proofs.lemmas.List.{drop-drop}
use Rattle.nx_tree.specs.declared.node.Node.{Node}
use Rattle.nx_tree.specs.Forest.{OrderedTree, Forest, Empty, Plant, nodes}
use Rattle.nx_weights.specs.Weight.{weight}
use Rattle.nx_parts.specs.declared.interval.Interval.{Interval}
use Rattle.nx_parts.specs.declared.bounds.Bound.{Bound}
use Rattle.nx_parts.specs.Partitioning.{IsFeasible}
use Rattle.nx_choices.specs.declared.child.Child.{Child}
use Rattle.nx_choices.specs.Claim.{Claimed, IsSupported}
use Rattle.nx_cuts.specs.Cut.{CutForest, Bare, Grown, Kept, joined, forest, cuts, part_weight, AreParts}
use Rattle.nx_cuts.proofs.NumberLemmas.{same_drawn}
use Rattle.nx_minima.proofs.BoundLemmas.{nodes-joined}
use Rattle.nx_minima.proofs.LowerLemmas.{pieces, lower_claims, true_both}
use Rattle.nx_minima.proofs.Numbers.{IsTrueClaim, AreTrueClaims}
use Rattle.nx_minima.specs.Seen.{as_child}
use Rattle.nx_bounds.specs.Claim.{claimed_child, claimed_children, claimed_in}
use Rattle.nx_bounds.specs.Law.{IsTrueOf}

-- The bound is true of a tree that is cut into so many intervals, and whose root's part weighs so much.
pub record IsTrueAt (bound : Bound) (fewest slots : ℕ) : Type 0 where
  pub least : bound.least ≤ fewest
  pub lean : fewest ≤ bound.least → bound.lean ≤ slots
  pub nearly : fewest ≤ bound.least + 1 → bound.nearly ≤ slots

at_most_slots : (k own claimed slots : ℕ) → own ≤ slots → claimed ≤ slots → min k (max own claimed) ≤ slots
at_most_slots k own claimed slots o c = omega arith

at_most_k : (k own claimed : ℕ) → min k (max own claimed) ≤ k
at_most_k k own claimed = omega arith

-- what a parent's choices see of a child
child_true : (k : ℕ) (node : Node) (bound : Bound) (fewest slots : ℕ) → weight node ≤ slots → IsTrueAt bound fewest slots →
    IsTrueClaim k (claimed_child k node bound) (record { least = fewest; lean = slots; nearly = slots })
child_true k node bound fewest slots heavy t =
    record {
      least = t.least;
      lean = λ few. at_most_slots k (weight node) bound.lean slots heavy (t.lean few);
      nearly = λ few. at_most_slots k (weight node) bound.nearly slots heavy (t.nearly few);
      light = at_most_k k (weight node) bound.lean;
    }

-- a node whose children's claims are true
node_true : (k : ℕ) {own : ℕ} (c : CutForest) {claims : List Child} (bound : Bound) → IsSupported k (record { own = own; children = claims; bound = as_child bound }) → AreTrueClaims k claims (pieces c) → AreParts k c → own + part_weight c ≤ k
    → IsTrueAt bound (1 + cuts c) (own + part_weight c)
node_true k {own} c {claims} bound s t h fits =
    let l = lower_claims k own c claims h fits t in
    record {
      least = omega (arith, s.least l.cells l.admitted tt, l.few);
      lean = λ few. omega (arith, s.lean l.cells l.admitted (omega (arith, l.few, few)), l.little);
      nearly = λ few. omega (arith, s.nearly l.cells l.admitted (omega (arith, l.few, few)), l.little);
    }

pub all_left : {X : Type 0} → (P : X → Type 0) (xs ys : List X) → AllByRecursion P (xs ++ ys) → AllByRecursion P xs
all_left P [] ys all = tt
all_left P (x ∷ xs) ys all = (all.0, all_left P xs ys all.1)

pub all_right : {X : Type 0} → (P : X → Type 0) (xs ys : List X) → AllByRecursion P (xs ++ ys) → AllByRecursion P ys
all_right P [] ys all = all
all_right P (x ∷ xs) ys all = all_right P xs ys all.1

-- the bounds of one forest, and those of the forest beside it
behind : (below beside : ℕ) (bound : Bound) (bounds : List Bound) → drop beside (drop below bounds) ≡ drop (1 + below + beside) (bound ∷ bounds)
behind below beside bound bounds = drop-drop beside below bounds ∙ ap (λ (j : ℕ). drop j (bound ∷ bounds)) (let e : suc (below + beside) ≡ 1 + below + beside = omega arith in e)

children-joined : (k : ℕ) (f g : Forest) (bounds : List Bound) → nodes f ≤ length bounds → claimed_children k (joined f g) bounds ≡ claimed_children k f bounds ++ claimed_children k g (drop (nodes f) bounds)
children-joined k Empty g bounds enough = refl
children-joined k (Plant node below beside) g [] enough = absurd (omega (arith, enough))
children-joined k (Plant node below beside) g (bound ∷ bounds) enough =
    let rest = drop (nodes below) bounds in
    let e = behind (nodes below) (nodes beside) bound bounds in
    ap (λ l. claimed_child k node bound ∷ l)
    (children-joined k beside g rest (omega (arith, enough, length-drop (nodes below) bounds)) ∙ ap (λ bs. claimed_children k beside rest ++ claimed_children k g bs) e)

claimed_in-joined : (k : ℕ) (f g : Forest) (bounds : List Bound) → nodes f ≤ length bounds → claimed_in k (joined f g) bounds ≡ claimed_in k f bounds ++ claimed_in k g (drop (nodes f) bounds)
claimed_in-joined k Empty g bounds enough = refl
claimed_in-joined k (Plant node below beside) g [] enough = absurd (omega (arith, enough))
claimed_in-joined k (Plant node below beside) g (bound ∷ bounds) enough =
    let here : Claimed = record { own = weight node; children = claimed_children k below bounds; bound = as_child bound } in
    let rest = drop (nodes below) bounds in
    let e = behind (nodes below) (nodes beside) bound bounds in
    ap (λ l. here ∷ claimed_in k below bounds ++ l)
    (claimed_in-joined k beside g rest (omega (arith, enough, length-drop (nodes below) bounds)) ∙ ap (λ bs. claimed_in k beside rest ++ claimed_in k g bs) e)
    ∙ ap (λ l. here ∷ l) (sym (append_assoc (claimed_in k below bounds) (claimed_in k beside rest) (claimed_in k g (drop (nodes (Plant node below beside)) (bound ∷ bounds)))))

-- the trees of a forest
forest_true : (k : ℕ) (c : CutForest) (bounds : List Bound) → nodes (forest c) ≤ length bounds → AllByRecursion (IsSupported k) (claimed_in k (forest c) bounds) → AreParts k c → part_weight c ≤ k
    → AreTrueClaims k (claimed_children k (forest c) bounds) (pieces c)
forest_true k Bare bounds enough s h light = tt
forest_true k (Grown node below beside) [] enough s h light = absurd (omega (arith, enough))
forest_true k (Grown node below beside) (bound ∷ bounds) enough s h light =
    let rest = drop (nodes (forest below)) bounds in
    let of_below = all_left (IsSupported k) (claimed_in k (forest below) bounds) (claimed_in k (forest beside) rest) s.1 in
    let of_beside = all_right (IsSupported k) (claimed_in k (forest below) bounds) (claimed_in k (forest beside) rest) s.1 in
    let t = forest_true k below bounds (omega (arith, enough)) of_below h.0 (omega (arith, light)) in (
      child_true k node bound (1 + cuts below) (weight node + part_weight below) (omega arith)
          (node_true k below bound s.0 t h.0 (omega (arith, light))),
      forest_true k beside rest (omega (arith, enough, length-drop (nodes (forest below)) bounds)) of_beside h.1 (omega (arith, light)),
    )
forest_true k (Kept mark members beside) bounds enough s h light =
    let f = forest members in
    let g = forest beside in
    let many = nodes-joined f g in
    let rest = drop (nodes f) bounds in
    let parted = subst (AllByRecursion (IsSupported k)) (claimed_in-joined k f g bounds (omega (arith, enough, many))) s in
    let of_members = forest_true k members bounds (omega (arith, enough, many)) (all_left (IsSupported k) (claimed_in k f bounds) (claimed_in k g rest) parted) h.3 h.2 in
    let of_beside = forest_true k beside rest (omega (arith, enough, many, length-drop (nodes f) bounds)) (all_right (IsSupported k) (claimed_in k f bounds) (claimed_in k g rest) parted) h.4 light in
    subst (λ l. AreTrueClaims k l (pieces members ++ pieces beside)) (sym (children-joined k f g bounds (omega (arith, enough, many))))
    (true_both k (claimed_children k f bounds) (pieces members) (claimed_children k g rest) (pieces beside) of_members of_beside)

-- the root of a tree
pub root_true : {k : ℕ} {tree : OrderedTree} (bound : Bound) (bounds : List Bound) → nodes tree.below ≤ length bounds →
    IsSupported k (record { own = weight tree.node; children = claimed_children k tree.below bounds; bound = as_child bound }) → AllByRecursion (IsSupported k) (claimed_in k tree.below bounds) →
    (parts : List Interval) → IsFeasible k tree parts → IsTrueOf bound tree parts
root_true {k} {tree} bound bounds enough s below parts f =
    let d = same_drawn k tree parts f in
    let c = d.drawn.below in
    let same : tree.below ≡ forest c = sym (ap (λ (t : OrderedTree). t.below) d.tree_is) in
    let node : weight d.drawn.node ≡ weight tree.node = ap (λ (t : OrderedTree). weight t.node) d.tree_is in
    let fits : weight tree.node + part_weight c ≤ k = omega (arith, d.weighs, d.light, node) in
    let t = forest_true k c bounds (omega (arith, enough, ap nodes same)) (subst (λ g. AllByRecursion (IsSupported k) (claimed_in k g bounds)) same below) d.form (omega (arith, fits)) in
    let h = node_true k c bound
    (subst (λ g. IsSupported k (record { own = weight tree.node; children = claimed_children k g bounds; bound = as_child bound })) same s) t d.form fits in
    record {
      least = omega (arith, h.least, d.as_many);
      lean = λ (at_most : length parts ≤ bound.least). omega (arith, h.lean (omega (arith, at_most, d.as_many)), d.weighs, node);
      nearly = λ (at_most : length parts ≤ bound.least + 1). omega (arith, h.nearly (omega (arith, at_most, d.as_many)), d.weighs, node);
    }
