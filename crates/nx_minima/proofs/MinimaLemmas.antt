-- The minima of a node's subtree are what the least choices over its children's minima give.
use Rattle.std.proofs.Common.{◌≡◌, ℕ, ◌+◌, ◌≤◌, List, [], ◌∷◌, ◌++◌, length, map, drop, refl, sym, ap, subst, ◌∙◌, arith}
use Rattle.std.proofs.lemmas.List.{map-append}
use Rattle.nx_tree.specs.declared.node.Node.{Node}
use Rattle.nx_tree.specs.Forest.{Forest, Empty, Plant, OrderedTree, nodes}
use Rattle.nx_weights.specs.Weight.{weight}
use Rattle.nx_parts.specs.declared.interval.Interval.{Interval as Siblings}
use Rattle.nx_parts.specs.declared.bounds.Bound.{Bound}
use Rattle.nx_parts.specs.Partitioning.{IsFeasible, IsOptimal, root_weight}
use Rattle.nx_choices.specs.declared.child.Child.{Child}
use Rattle.nx_choices.specs.Choice.{Member, First, Second, Cell, Uncut, Interval, child_of, covered, IsAdmitted, count, left}
use Rattle.nx_choices.specs.Least.{IsLeastChoice}
use Rattle.nx_cuts.specs.Cut.{CutTree, tree_of, parts_of}
use Rattle.nx_lists.specs.Least.{IsLeast}
use Rattle.nx_parts.specs.Minima.{IsMinima, AreMinimaOf, AreMinimaIn}
use Rattle.nx_minima.specs.Drawing.{forms, drawing, forest_under, Reaches, AreReached, IsReachable}
use Rattle.nx_minima.specs.Seen.{as_child, seen, tops}
use Rattle.nx_minima.specs.ChoiceLaw.{ChoicesAreReached, MinimaAreLeastChoices, DrawnIsLean, MinimaAreOne}
use Rattle.nx_minima.proofs.DrawingLemmas.{choice_drawn}
use Rattle.nx_cuts.proofs.NumberLemmas.{length-parts, root_weight-drawn, same_drawn}
use Rattle.nx_minima.proofs.ReachLemmas.{reached, same_reaches}
use Rattle.nx_cuts.proofs.PartitionLemmas.{drawn_feasible}
use Rattle.nx_minima.proofs.LowerLemmas.{lower}

-- A tree drawn so that it reaches these numbers.
record IsDrawnSo (k most most_weight : ℕ) (tree : OrderedTree) : Type 0 where
  drawn : CutTree
  tree_is : tree_of drawn ≡ tree
  reaches : Reaches k most most_weight drawn

-- each form of a tree's minima is drawn
first_form : (k : ℕ) (tree : OrderedTree) (bound : Bound) → IsMinima k tree bound → IsDrawnSo k bound.least bound.lean tree
first_form k tree bound m =
    let l = m.lean in
    let s = same_drawn k tree l.one l.holds.0 in
    let as_many = l.holds.1 in
    record { drawn = s.drawn; tree_is = s.tree_is; reaches = same_reaches k bound.least bound.lean tree l.one s (omega (arith, as_many)) (omega (arith, l.reached)) }

second_form : (k : ℕ) (tree : OrderedTree) (bound : Bound) → IsMinima k tree bound → IsDrawnSo k (bound.least + 1) bound.nearly tree
second_form k tree bound m =
    let l = m.nearly in
    let s = same_drawn k tree l.one l.holds.0 in
    record { drawn = s.drawn; tree_is = s.tree_is; reaches = same_reaches k (bound.least + 1) bound.nearly tree l.one s l.holds.1 (omega (arith, l.reached)) }

-- the trees of a forest, each drawn in the form of a member
record AreChosen (k : ℕ) (forest : Forest) (members : List Member) : Type 0 where
  trees : List CutTree
  same : forest_under trees ≡ forest
  are : AreReached k members trees

abbrev head_of : Child → List Child → Child
head_of none [] = none
head_of none (c ∷ cs) = c

chosen_more : {k : ℕ} (node : Node) (below : Forest) {beside : Forest} (member : Member) {members : List Member} {most most_weight : ℕ}
    → ((t : CutTree) → Reaches k most most_weight t → AreReached k (member ∷ []) (t ∷ [])) → IsDrawnSo k most most_weight (record { node = node; below = below }) → AreChosen k beside members → AreChosen k (Plant node below beside) (member ∷ members)
chosen_more node below member form d c =
    record {
      trees = d.drawn ∷ c.trees;
      same = ap (λ (t : OrderedTree). Plant t.node t.below (forest_under c.trees)) d.tree_is ∙ ap (Plant node below) c.same;
      are = ((form d.drawn d.reaches).0, c.are);
    }

chosen : (k : ℕ) (forest : Forest) (bounds : List Bound) (members : List Member) → AreMinimaOf k forest bounds → map child_of members ≡ seen bounds → AreChosen k forest members
chosen k Empty [] [] m e = record { trees = []; same = refl; are = tt }
chosen k Empty [] (member ∷ members) m e = absurd (cc)
chosen k Empty (bound ∷ bounds) members m e = absurd m
chosen k (Plant node below beside) [] members m e = absurd m
chosen k (Plant node below beside) (bound ∷ bounds) [] m e = absurd (cc)
chosen k (Plant node below beside) (bound ∷ bounds) (First c ∷ members) m e =
    let here : as_child bound ≡ c = sym (ap (head_of c) e) in
    let tree : OrderedTree = record { node = node; below = below } in
    let d = subst (λ (x : Child). IsDrawnSo k x.least x.lean tree) here (first_form k tree bound m.0) in
    chosen_more node below (First c) (λ t r. (r, tt)) d (chosen k beside bounds members m.1 (ap (drop 1) e))
chosen k (Plant node below beside) (bound ∷ bounds) (Second c ∷ members) m e =
    let here : as_child bound ≡ c = sym (ap (head_of c) e) in
    let tree : OrderedTree = record { node = node; below = below } in
    let d = subst (λ (x : Child). IsDrawnSo k (x.least + 1) x.nearly tree) here (second_form k tree bound m.0) in
    chosen_more node below (Second c) (λ t r. (r, tt)) d (chosen k beside bounds members m.1 (ap (drop 1) e))

-- the forms are those of the children that the choice covers
pub forms-covered : (cells : List Cell) → map child_of (forms cells) ≡ covered cells
forms-covered [] = refl
forms-covered (Uncut c ∷ cells) = ap (λ l. c ∷ l) (forms-covered cells)
forms-covered (Interval member members ∷ cells) =
    map-append child_of (member ∷ members) (forms cells) ∙ ap (λ l. map child_of (member ∷ members) ++ l) (forms-covered cells)

pub choices_reached : ChoicesAreReached
choices_reached k tree bounds m cells a =
    let c = chosen k tree.below bounds (forms cells) m (forms-covered cells ∙ a.covers) in
    let d = choice_drawn k tree.node (seen bounds) cells c.trees a c.are in
    let same : tree_of (record { node = tree.node; below = drawing cells c.trees }) ≡ tree =
    d.0 ∙ ap (λ (f : Forest). let t : OrderedTree = record { node = tree.node; below = f } in t) c.same in
    subst (IsReachable k (count cells) (weight tree.node + left cells)) same
    (reached k (count cells) (weight tree.node + left cells) (record { node = tree.node; below = drawing cells c.trees }) a.root d.1)

-- no admitted choice gives less than the bound says
record AreBelow (k own : ℕ) (children : List Child) (bound : Bound) : Type 0 where
  least : (cells : List Cell) → IsAdmitted k own children cells → bound.least ≤ count cells
  lean : (cells : List Cell) → IsAdmitted k own children cells → count cells ≤ bound.least → bound.lean ≤ own + left cells
  nearly : (cells : List Cell) → IsAdmitted k own children cells → count cells ≤ bound.least + 1 → bound.nearly ≤ own + left cells

-- what the choices over the minima of the children give is no less than the minima of the tree
at_least : (k : ℕ) (tree : OrderedTree) (bound : Bound) (bounds : List Bound) → AreMinimaOf k tree.below bounds → IsMinima k tree bound
    → AreBelow k (weight tree.node) (seen bounds) bound
at_least k tree bound bounds below m =
    record {
      least = λ cells a.
          let r = choices_reached k tree bounds below cells a in
          omega (arith, m.least.least r.parts r.feasible, r.few);
      lean = λ cells a (s : count cells ≤ bound.least).
          let r = choices_reached k tree bounds below cells a in
          omega (arith, m.lean.least r.parts (r.feasible, omega (arith, m.least.least r.parts r.feasible, r.few, s)), r.little);
      nearly = λ cells a (s : count cells ≤ bound.least + 1).
          let r = choices_reached k tree bounds below cells a in
          omega (arith, m.nearly.least r.parts (r.feasible, omega (arith, r.few, s)), r.little);
    }

-- for each feasible partitioning of the tree there is a choice that is no worse
lower_than : (k : ℕ) (tree : OrderedTree) (bounds : List Bound) → AreMinimaOf k tree.below bounds → (parts : List Siblings) → IsFeasible k tree parts
    → (cells : List Cell) × IsAdmitted k (weight tree.node) (seen bounds) cells × (count cells ≤ length parts) × (weight tree.node + left cells ≤ root_weight tree parts)
lower_than k tree bounds m parts f =
    let s = same_drawn k tree parts f in
    let node : weight s.drawn.node ≡ weight tree.node = ap (λ (t : OrderedTree). weight t.node) s.tree_is in
    let below = subst (λ (g : Forest). AreMinimaOf k g bounds) (sym (ap (λ (t : OrderedTree). t.below) s.tree_is)) m in
    let l = lower k (weight tree.node) s.drawn.below bounds s.form (omega (arith, s.weighs, s.light, node)) below in
    (l.cells, l.admitted, omega (arith, l.few, s.as_many), omega (arith, l.little, s.weighs, node))

minima_choices : (k : ℕ) (tree : OrderedTree) (bound : Bound) (bounds : List Bound) → AreMinimaOf k tree.below bounds → IsMinima k tree bound
    → IsLeastChoice k (weight tree.node) (seen bounds) (as_child bound)
minima_choices k tree bound bounds below m =
    let s = at_least k tree bound bounds below m in
    let a = lower_than k tree bounds below m.least.one m.least.holds in
    let b = lower_than k tree bounds below m.lean.one m.lean.holds.0 in
    let c = lower_than k tree bounds below m.nearly.one m.nearly.holds.0 in
    let few_a = a.2 in
    let few_b : count b.0 ≤ bound.least = let n = b.2 in let e = m.lean.holds.1 in omega arith in
    let few_c : count c.0 ≤ bound.least + 1 = let n = c.2 in let e = m.nearly.holds.1 in omega arith in
    let little_b = b.3 in
    let little_c = c.3 in
    record {
      least = record { one = a.0; holds = a.1; reached = omega (arith, few_a, m.least.reached, s.least a.0 a.1); least = λ other h. s.least other h };
      lean = record { one = b.0; holds = (b.1, few_b); reached = omega (arith, little_b, m.lean.reached, s.lean b.0 b.1 few_b); least = λ other h. s.lean other h.0 h.1 };
      nearly = record { one = c.0; holds = (c.1, few_c); reached = omega (arith, little_c, m.nearly.reached, s.nearly c.0 c.1 few_c); least = λ other h. s.nearly other h.0 h.1 };
    }

choices_minima : (k : ℕ) (tree : OrderedTree) (bound : Bound) (bounds : List Bound) → AreMinimaOf k tree.below bounds → IsLeastChoice k (weight tree.node) (seen bounds) (as_child bound)
    → IsMinima k tree bound
choices_minima k tree bound bounds below l =
    let a = choices_reached k tree bounds below l.least.one l.least.holds in
    let b = choices_reached k tree bounds below l.lean.one l.lean.holds.0 in
    let c = choices_reached k tree bounds below l.nearly.one l.nearly.holds.0 in
    let least : (other : List Siblings) → IsFeasible k tree other → bound.least ≤ length other = λ other f.
    let o = lower_than k tree bounds below other f in let few = o.2 in omega (arith, few, l.least.least o.0 o.1) in
    let lean : (other : List Siblings) → IsFeasible k tree other × (length other ≡ bound.least) → bound.lean ≤ root_weight tree other = λ other f.
    let o = lower_than k tree bounds below other f.0 in let few = o.2 in let e = f.1 in let little = o.3 in
    omega (arith, little, l.lean.least o.0 (o.1, omega (arith, few, e))) in
    let nearly : (other : List Siblings) → IsFeasible k tree other × (length other ≤ bound.least + 1) → bound.nearly ≤ root_weight tree other = λ other f.
    let o = lower_than k tree bounds below other f.0 in let few = o.2 in let e = f.1 in let little = o.3 in
    omega (arith, little, l.nearly.least o.0 (o.1, omega (arith, few, e))) in
    let few_b : length b.parts ≡ bound.least = omega (arith, b.few, l.lean.holds.1, least b.parts b.feasible) in
    let few_c : length c.parts ≤ bound.least + 1 = omega (arith, c.few, l.nearly.holds.1) in
    record {
      least = record { one = a.parts; holds = a.feasible; reached = omega (arith, a.few, l.least.reached, least a.parts a.feasible); least = least };
      lean = record { one = b.parts; holds = (b.feasible, few_b); reached = omega (arith, b.little, l.lean.reached, lean b.parts (b.feasible, few_b)); least = lean };
      nearly = record { one = c.parts; holds = (c.feasible, few_c); reached = omega (arith, c.little, l.nearly.reached, nearly c.parts (c.feasible, few_c)); least = nearly };
    }

pub least_choices : MinimaAreLeastChoices
least_choices k tree bound bounds below = (minima_choices k tree bound bounds below, choices_minima k tree bound bounds below)

pub drawn_lean : DrawnIsLean
drawn_lean k bound t m r =
    let tree = tree_of t in
    let s = same_drawn k tree m.lean.one m.lean.holds.0 in
    let light : bound.lean ≤ k = omega (arith, m.lean.reached, s.light) in
    let n = length-parts t in
    let optimal : IsOptimal k tree (parts_of t) =
    record {
      feasible = drawn_feasible k t (omega (arith, r.little, light)) r.parts;
      fewest = λ others f. omega (arith, n, r.few, m.least.least others f);
    } in
    record {
      optimal = optimal;
      lightest = λ others o.
          let few = o.fewest m.least.one m.least.holds in
          let as_many : length others ≡ bound.least = omega (arith, few, m.least.reached, m.least.least others o.feasible) in
          omega (arith, root_weight-drawn k t r.parts, r.little, m.lean.least others (o.feasible, as_many));
    }

-- what a least value is, is one number
one_least : {A : Type 0} {P Q : A → Type 0} {value : A → ℕ} {m n : ℕ} → ((x : A) → P x → Q x) → ((x : A) → Q x → P x) → IsLeast P value m → IsLeast Q value n → m ≡ n
one_least to back a b = omega (arith, a.reached, b.reached, a.least b.one (back b.one b.holds), b.least a.one (to a.one a.holds))

pub one_minima : MinimaAreOne
one_minima k tree b c m n =
    let least : b.least ≡ c.least = one_least (λ x p. p) (λ x p. p) m.least n.least in (
      least,
      one_least (λ x p. (p.0, p.1 ∙ least)) (λ x p. (p.0, p.1 ∙ sym least)) m.lean n.lean,
      one_least (λ x p. (p.0, subst (λ i. length x ≤ i + 1) least p.1)) (λ x p. (p.0, subst (λ i. length x ≤ i + 1) (sym least) p.1)) m.nearly n.nearly,
    )

-- the root's part weighs at least the root, and at most k
pub within : (k : ℕ) (tree : OrderedTree) (parts : List Siblings) → IsFeasible k tree parts → (weight tree.node ≤ root_weight tree parts) × (root_weight tree parts ≤ k)
within k tree parts f =
    let s = same_drawn k tree parts f in
    let node : weight s.drawn.node ≡ weight tree.node = ap (λ (u : OrderedTree). weight u.node) s.tree_is in
    (omega (arith, s.weighs, node), s.light)

pub minima-tops : (k : ℕ) (forest : Forest) (bounds : List Bound) → AreMinimaIn k forest bounds → AreMinimaOf k forest (tops forest bounds)
minima-tops k Empty bounds m = tt
minima-tops k (Plant node below beside) [] m = absurd m
minima-tops k (Plant node below beside) (bound ∷ bounds) m = (m.0, minima-tops k beside (drop (nodes below) bounds) m.2)
