-- Lists of the minima of a forest's nodes, and of its trees.
use Rattle.std.proofs.Common.{◌≡◌, ℕ, zero, suc, ◌+◌, ◌<◌, ◌≤◌, Bool, true, false, List, [], ◌∷◌, ◌++◌, length, drop, get_or, refl, sym, ap, subst, ◌∙◌, arith, length-drop}
use Rattle.std.proofs.Math.Seq.{drop-cons}
use Rattle.nx_tree.specs.Forest.{OrderedTree, Forest, Empty, Plant, nodes}
use Rattle.nx_parts.specs.declared.bounds.Bound.{Bound}
use Rattle.nx_parts.specs.Minima.{IsMinima, AreMinimaOf, AreMinimaIn}
use Rattle.nx_weights.specs.Weight.{weight}
use Rattle.nx_choices.specs.declared.child.Child.{Child}
use Rattle.nx_choices.specs.declared.child.Stand.{Stand}
use Rattle.nx_choices.specs.Choice.{leasts, AreWeighed}
use Rattle.nx_choices.specs.Least.{IsLeastChoice}
use Rattle.nx_choices.specs.Stand.{HasChoice, IsChoice, AddsChoice}
use Rattle.nx_minima.specs.Seen.{as_child, seen, tops}
use Rattle.nx_minima.proofs.BoundLemmas.{within_bounds}
use Rattle.nx_minima.proofs.MinimaLemmas.{least_choices, minima-tops}
use Rattle.nx_partition.specs.Planning.{first_bound, behind_first, number_in, weight_in}

-- there is a bound for each node
pub enough : (k : ℕ) (forest : Forest) (bounds : List Bound) → AreMinimaIn k forest bounds → nodes forest ≤ length bounds
enough k Empty bounds m = omega arith
enough k (Plant node below beside) [] m = absurd m
enough k (Plant node below beside) (bound ∷ bounds) m =
    omega (arith, enough k below bounds m.1, enough k beside (drop (nodes below) bounds) m.2, length-drop (nodes below) bounds)

pub drop_prefix : {X : Type 0} (n : ℕ) (xs ys : List X) → n ≤ length xs → drop n (xs ++ ys) ≡ drop n xs ++ ys
drop_prefix zero xs ys h = refl
drop_prefix (suc n) [] ys h = absurd (omega arith)
drop_prefix (suc n) (x ∷ xs) ys h = drop_prefix n xs ys (omega arith)

-- others may come behind
pub longer : (k : ℕ) (forest : Forest) (bounds others : List Bound) → AreMinimaIn k forest bounds → AreMinimaIn k forest (bounds ++ others)
longer k Empty bounds others m = tt
longer k (Plant node below beside) [] others m = absurd m
longer k (Plant node below beside) (bound ∷ bounds) others m =
    let e = drop_prefix (nodes below) bounds others (enough k below bounds m.1) in
    (m.0, longer k below bounds others m.1, subst (AreMinimaIn k beside) (sym e) (longer k beside (drop (nodes below) bounds) others m.2))

-- what the choices at a node require of the minima of its children
pub weighed : (k : ℕ) (forest : Forest) (bounds : List Bound) → AreMinimaOf k forest bounds → AreWeighed k (seen bounds)
weighed k Empty [] m = tt
weighed k Empty (bound ∷ bounds) m = absurd m
weighed k (Plant node below beside) [] m = absurd m
weighed k (Plant node below beside) (bound ∷ bounds) m =
    let w = within_bounds k (record { node = node; below = below }) bound m.0 in
    let own = w.own in
    let no_more = w.no_more in
    let light = w.light in
    (record { lean_some = omega arith; lean_most = omega arith; nearly_some = omega arith; nearly_most = omega arith }, weighed k beside bounds m.1)

pub few_leasts : (k : ℕ) (forest : Forest) (bounds : List Bound) → AreMinimaOf k forest bounds → leasts (seen bounds) ≤ nodes forest
few_leasts k Empty [] m = omega arith
few_leasts k Empty (bound ∷ bounds) m = absurd m
few_leasts k (Plant node below beside) [] m = absurd m
few_leasts k (Plant node below beside) (bound ∷ bounds) m =
    omega (arith, few_leasts k beside bounds m.1, (within_bounds k (record { node = node; below = below }) bound m.0).few)

pub few_seen : (k : ℕ) (forest : Forest) (bounds : List Bound) → AreMinimaOf k forest bounds → length (seen bounds) ≤ nodes forest
few_seen k Empty [] m = omega arith
few_seen k Empty (bound ∷ bounds) m = absurd m
few_seen k (Plant node below beside) [] m = absurd m
few_seen k (Plant node below beside) (bound ∷ bounds) m = omega (arith, few_seen k beside bounds m.1)

-- what stands at a place of a list, and behind it
pub next_at : {X : Type 0} (xs : List X) (i : ℕ) (x : X) → i < length xs → drop i xs ≡ get_or xs i x ∷ drop (i + 1) xs
next_at xs i x within = drop-cons xs i x within ∙ ap (λ (j : ℕ). get_or xs i x ∷ drop j xs) (let e : suc i ≡ i + 1 = omega arith in e)

-- the bounds of the nodes below
pub below_minima : (k : ℕ) (tree : OrderedTree) (bounds : List Bound) → AreMinimaIn k (Plant tree.node tree.below Empty) bounds → AreMinimaIn k tree.below (behind_first bounds)
below_minima k tree [] m = absurd m
below_minima k tree (bound ∷ bounds) m = m.1

-- the minima of the children, and those of the tree
pub own_minima : (k : ℕ) (tree : OrderedTree) (bounds : List Bound) → AreMinimaIn k (Plant tree.node tree.below Empty) bounds
    → AreMinimaOf k tree.below (tops tree.below (behind_first bounds)) × IsMinima k tree (first_bound bounds)
own_minima k tree [] m = absurd m
own_minima k tree (bound ∷ bounds) m = (minima-tops k tree.below bounds m.1, m.0)

form_choice : (k own : ℕ) (second : Bool) (bound : Bound) (own_bounds : List Bound) → IsLeastChoice k own (seen own_bounds) (as_child bound) → HasChoice k own (number_in second bound) (weight_in second bound) (seen own_bounds)
form_choice k own true bound own_bounds l = record { cells = l.nearly.one; admitted = l.nearly.holds.0; few = l.nearly.holds.1; little = omega (arith, l.nearly.reached) }
form_choice k own false bound own_bounds l = record { cells = l.lean.one; admitted = l.lean.holds.0; few = l.lean.holds.1; little = omega (arith, l.lean.reached) }

-- each form of the minima has a choice
pub has_choice : (k : ℕ) (tree : OrderedTree) (second : Bool) (bounds : List Bound) → AreMinimaIn k (Plant tree.node tree.below Empty) bounds
    → HasChoice k (weight tree.node) (number_in second (first_bound bounds)) (weight_in second (first_bound bounds)) (seen (tops tree.below (behind_first bounds)))
has_choice k tree second bounds m =
    let o = own_minima k tree bounds m in
    let own = tops tree.below (behind_first bounds) in
    form_choice k (weight tree.node) second (first_bound bounds) own ((least_choices k tree (first_bound bounds) own o.0).0 o.1)

-- the bound that index 0 reads, and those behind it
pub first_is : (bounds : List Bound) → first_bound bounds ≡ get_or bounds 0 (record { least = 0; lean = 0; nearly = 0 })
first_is [] = refl
first_is (bound ∷ bounds) = refl

pub behind_is : (bounds : List Bound) → behind_first bounds ≡ drop 1 bounds
behind_is [] = refl
behind_is (bound ∷ bounds) = refl

-- the same choice, by other names
pub choice_as : (k : ℕ) {own other most many most_weight heavy : ℕ} {children same : List Child} → own ≡ other → most ≡ many → most_weight ≡ heavy → children ≡ same → HasChoice k own most most_weight children → HasChoice k other many heavy same
choice_as k {own} {other} {most} {many} {most_weight} {heavy} {children} a b c d h =
    subst (HasChoice k other many heavy) d
    (subst (λ n. HasChoice k other many n children) c (subst (λ n. HasChoice k other n most_weight children) b (subst (λ n. HasChoice k n most most_weight children) a h)))

pub choice_added : (k : ℕ) {own other most many most_weight heavy : ℕ} {children same : List Child} {old new : List Stand} → own ≡ other → most ≡ many → most_weight ≡ heavy → children ≡ same → old ≡ []
    → AddsChoice k own most most_weight children old new → IsChoice k other many heavy same new
choice_added k {children = children} a b c d none h =
    let e = h.choice in
    record {
      cells = e.cells;
      admitted = record { covers = e.admitted.covers ∙ d; root = (let r = e.admitted.root in omega (arith, a, r)); light = e.admitted.light };
      few = omega (arith, e.few, b);
      little = omega (arith, e.little, a, c);
      are = h.added ∙ ap (λ l. l ++ h.list) none ∙ e.are;
    }
