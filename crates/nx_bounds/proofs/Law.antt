-- The law of the lower bound, from the root of a tree to each subtree, and that a partitioning with no more intervals than the root's bound is optimal.
use Rattle.std.proofs.Common.{◌≡◌, ◌⊎◌, inl, inr, ℕ, zero, suc, ◌+◌, ◌-◌, ◌<◌, ◌≤◌, List, [], ◌∷◌, ◌++◌, length, drop, Option, Some, refl, sym, ap, ◌∙◌, subst, arith, append_assoc, length-append, length-drop}
use Rattle.std.specs.List.{slice_get, AllByRecursion}
use Rattle.std.specs.Option.{option_and_then, unwrap_or}
use Rattle.std.proofs.lemmas.Bool.{cases_lt}
use Rattle.nx_tree.specs.declared.node.Node.{Node}
use Rattle.nx_tree.specs.Forest.{OrderedTree, Forest, Empty, Plant, nodes}
use Rattle.nx_tree.specs.Edit.{at, child as child_at}
use Rattle.nx_weights.specs.Weight.{weight, listed, listed_in}
use Rattle.nx_parts.specs.declared.interval.Interval.{Interval}
use Rattle.nx_parts.specs.declared.bounds.Bound.{Bound}
use Rattle.nx_parts.specs.Partitioning.{IsFeasible, IsOptimal}
use Rattle.nx_choices.specs.Claim.{IsSupported}
use Rattle.nx_minima.specs.Seen.{as_child}
use Rattle.nx_bounds.specs.Claim.{claimed_children, claimed_in, AreSupported}
use Rattle.nx_bounds.specs.Refusal.{root_least}
use Rattle.nx_bounds.specs.Law.{IsTrueOf, LowerBound}
use Rattle.nx_bounds.proofs.LawLemmas.{all_left, all_right, root_true}

-- This bound is the first of those for the tree, which are supported, and others may come behind.
pub record IsSupportedAt (k : ℕ) (tree : OrderedTree) (bound : Bound) : Type 0 where
  pub others : List Bound
  pub enough : nodes tree.below ≤ length others
  pub root : IsSupported k (record { own = weight tree.node; children = claimed_children k tree.below others; bound = as_child bound })
  pub below : AllByRecursion (IsSupported k) (claimed_in k tree.below others)

-- A node with this path is found below the node at another path, from a position on: the bound for its tree is supported.
record FindsExceeded (k : ℕ) (path : List ℕ) (position : ℕ) (forest : Forest) (longer : List ℕ) (node : Node) (bound : Bound) : Type 0 where
  step : ℕ
  rest : List ℕ
  below : Forest
  path_is : longer ≡ path ++ (position + step) ∷ rest
  there : option_and_then (λ t. at t rest) (child_at forest step) ≡ Some (record { node = node; below = below })
  supported : IsSupportedAt k (record { node = node; below = below }) bound

length-listed_in : (path : List ℕ) (position : ℕ) (forest : Forest) → length (listed_in path position forest) ≡ nodes forest
length-listed_in path position Empty = refl
length-listed_in path position (Plant node below beside) =
    omega (arith, length-append (listed_in (path ++ position ∷ []) 0 below) (listed_in path (position + 1) beside), length-listed_in (path ++ position ∷ []) 0 below, length-listed_in path (position + 1) beside)

get_left : {X : Type 0} → (xs ys : List X) (i : ℕ) → i < length xs → slice_get (xs ++ ys) i ≡ slice_get xs i
get_left [] ys i less = absurd (omega (arith, less))
get_left (x ∷ xs) ys zero less = refl
get_left (x ∷ xs) ys (suc i) less = get_left xs ys i (omega (arith, less))

get_right : {X : Type 0} → (xs ys : List X) (i j : ℕ) → i ≡ length xs + j → slice_get (xs ++ ys) i ≡ slice_get ys j
get_right [] ys i j e = ap (slice_get ys) (omega (arith, e))
get_right (x ∷ xs) ys zero j e = absurd (omega (arith, e))
get_right (x ∷ xs) ys (suc i) j e = get_right xs ys i j (omega (arith, e))

get_dropped : {X : Type 0} → (n : ℕ) (xs : List X) (i j : ℕ) → i ≡ n + j → slice_get xs i ≡ slice_get (drop n xs) j
get_dropped zero xs i j e = ap (slice_get xs) (omega (arith, e))
get_dropped (suc n) [] i j e = refl
get_dropped (suc n) (x ∷ xs) zero j e = absurd (omega (arith, e))
get_dropped (suc n) (x ∷ xs) (suc i) j e = get_dropped n xs i j (omega (arith, e))

-- what is found at or below the first tree
found_first : (k : ℕ) (path : List ℕ) (position : ℕ) (node : Node) (below beside : Forest) (longer : List ℕ) (other : Node) (bound : Bound) →
    FindsExceeded k (path ++ position ∷ []) 0 below longer other bound → FindsExceeded k path position (Plant node below beside) longer other bound
found_first k path position node below beside longer other bound f =
    record {
      step = 0;
      rest = f.step ∷ f.rest;
      below = f.below;
      path_is = f.path_is ∙ append_assoc path (position ∷ []) ((0 + f.step) ∷ f.rest) ∙ ap (λ l. path ++ l) (ap (λ p. p ∷ (0 + f.step) ∷ f.rest) (omega arith) ∙ ap (λ s. (position + 0) ∷ s ∷ f.rest) (omega arith));
      there = f.there;
      supported = f.supported;
    }

-- what is found beside it
found_beside : (k : ℕ) (path : List ℕ) (position : ℕ) (node : Node) (below beside : Forest) (longer : List ℕ) (other : Node) (bound : Bound) →
    FindsExceeded k path (position + 1) beside longer other bound → FindsExceeded k path position (Plant node below beside) longer other bound
found_beside k path position node below beside longer other bound f =
    record {
      step = suc f.step;
      rest = f.rest;
      below = f.below;
      path_is = f.path_is ∙ ap (λ p. path ++ p ∷ f.rest) (omega arith);
      there = f.there;
      supported = f.supported;
    }

-- a later node is found below the first tree, or beside it
found_later : (k : ℕ) (path : List ℕ) (position : ℕ) (node : Node) (below beside : Forest) (longer : List ℕ) (other : Node) (bound : Bound) (number : ℕ) →
    (number < nodes below → FindsExceeded k (path ++ position ∷ []) 0 below longer other bound) → (nodes below ≤ number → FindsExceeded k path (position + 1) beside longer other bound) →
    (number < nodes below) ⊎ (nodes below ≤ number) → FindsExceeded k path position (Plant node below beside) longer other bound
found_later k path position node below beside longer other bound number first rest (inl less) = found_first k path position node below beside longer other bound (first less)
found_later k path position node below beside longer other bound number first rest (inr most) = found_beside k path position node below beside longer other bound (rest most)

some_is : {X : Type 0} → (x y : X) → Some x ≡ Some y → x ≡ y
some_is x y e = ap (λ o. unwrap_or o x) e

-- the tree of the node at this number of a forest
found : (k : ℕ) (path : List ℕ) (position : ℕ) (forest : Forest) (bounds : List Bound) → nodes forest ≤ length bounds → AllByRecursion (IsSupported k) (claimed_in k forest bounds) →
    (number : ℕ) (longer : List ℕ) (node : Node) (bound : Bound) → slice_get (listed_in path position forest) number ≡ Some (longer, node) → slice_get bounds number ≡ Some bound →
    FindsExceeded k path position forest longer node bound
found k path position Empty bounds enough s number longer node bound listed_there there = absurd (cc)
found k path position (Plant first below beside) [] enough s number longer node bound listed_there there = absurd (omega (arith, enough))
found k path position (Plant first below beside) (b ∷ bounds) enough s zero longer node bound listed_there there =
    let here : path ++ position ∷ [] ≡ longer = ap (λ (o : Option (List ℕ × Node)). (unwrap_or o (longer, node)).0) listed_there in
    let same : first ≡ node = ap (λ (o : Option (List ℕ × Node)). (unwrap_or o (longer, node)).1) listed_there in
    let same_bound : b ≡ bound = some_is b bound there in
    record {
      step = 0;
      rest = [];
      below = below;
      path_is = sym here ∙ ap (λ p. path ++ p ∷ []) (omega arith);
      there = ap (λ n. Some (record { node = n; below = below })) same;
      supported = record {
        others = bounds;
        enough = omega (arith, enough);
        root = subst (λ (n : Node). IsSupported k (record { own = weight n; children = claimed_children k below bounds; bound = as_child bound })) same
            (subst (λ (c : Bound). IsSupported k (record { own = weight first; children = claimed_children k below bounds; bound = as_child c })) same_bound s.0);
        below = all_left (IsSupported k) (claimed_in k below bounds) (claimed_in k beside (drop (nodes below) bounds)) s.1;
      };
    }
found k path position (Plant first below beside) (b ∷ bounds) enough s (suc number) longer node bound listed_there there =
    let here : List ℕ = path ++ position ∷ [] in
    let counted : length (listed_in here 0 below) ≡ nodes below = length-listed_in here 0 below in
    found_later k path position first below beside longer node bound number
    (λ (less : number < nodes below). found k here 0 below bounds (omega (arith, enough))
    (all_left (IsSupported k) (claimed_in k below bounds) (claimed_in k beside (drop (nodes below) bounds)) s.1)
    number longer node bound
    (sym (get_left (listed_in here 0 below) (listed_in path (position + 1) beside) number (omega (arith, less, counted))) ∙ listed_there) there)
    (λ (most : nodes below ≤ number). found k path (position + 1) beside (drop (nodes below) bounds) (omega (arith, enough, length-drop (nodes below) bounds))
    (all_right (IsSupported k) (claimed_in k below bounds) (claimed_in k beside (drop (nodes below) bounds)) s.1)
    (number - nodes below) longer node bound
    (sym (get_right (listed_in here 0 below) (listed_in path (position + 1) beside) number (number - nodes below) (omega (arith, most, counted))) ∙ listed_there)
    (sym (get_dropped (nodes below) bounds number (number - nodes below) (omega (arith, most))) ∙ there))
    (cases_lt number (nodes below))

-- the bound of a tree is supported with those of the nodes below it
supported_root : (k : ℕ) (tree : OrderedTree) (bound : Bound) (bounds : List Bound) → AreSupported k tree (bound ∷ bounds) → IsSupportedAt k tree bound
supported_root k tree bound bounds s =
    record {
      others = bounds;
      enough = omega (arith, s.one_each);
      root = s.each.0;
      below = all_left (IsSupported k) (claimed_in k tree.below bounds) [] s.each.1;
    }

-- and so is that of each node
supported_at : (k : ℕ) (tree : OrderedTree) (bounds : List Bound) → AreSupported k tree bounds →
    (number : ℕ) (path : List ℕ) (node : Node) (bound : Bound) (subtree : OrderedTree) →
    slice_get (listed tree) number ≡ Some (path, node) → slice_get bounds number ≡ Some bound → at tree path ≡ Some subtree → IsSupportedAt k subtree bound
supported_at k tree [] s number path node bound subtree listed_there there stands = absurd (cc)
supported_at k tree (b ∷ bounds) s zero path node bound subtree listed_there there stands =
    let root_path : [] ≡ path = ap (λ (o : Option (List ℕ × Node)). (unwrap_or o (path, node)).0) listed_there in
    let same : tree ≡ subtree = some_is tree subtree (ap (at tree) root_path ∙ stands) in
    subst (λ t. IsSupportedAt k t bound) same (subst (IsSupportedAt k tree) (some_is b bound there) (supported_root k tree b bounds s))
supported_at k tree (b ∷ bounds) s (suc number) path node bound subtree listed_there there stands =
    let r = supported_root k tree b bounds s in
    let f = found k [] 0 tree.below bounds (omega (arith, s.one_each)) (all_left (IsSupported k) (claimed_in k tree.below bounds) [] s.each.1) number path node bound listed_there there in
    let step_path : f.step ∷ f.rest ≡ path = ap (λ p. p ∷ f.rest) (omega arith) ∙ sym f.path_is in
    let same : record { node = node; below = f.below } ≡ subtree = some_is (record { node = node; below = f.below }) subtree (sym f.there ∙ ap (at tree) step_path ∙ stands) in
    subst (λ t. IsSupportedAt k t bound) same f.supported

true_of_all : (k : ℕ) (tree : OrderedTree) (bound : Bound) → IsSupportedAt k tree bound → (parts : List Interval) → IsFeasible k tree parts → IsTrueOf bound tree parts
true_of_all k tree bound s = root_true bound s.others s.enough s.root s.below

pub bounds_below : LowerBound
bounds_below k tree bounds s number path node bound subtree listed_there there stands =
    true_of_all k subtree bound (supported_at k tree bounds s number path node bound subtree listed_there there stands)

pub certified-optimal : (k : ℕ) (tree : OrderedTree) (bounds : List Bound) (parts : List Interval) → AreSupported k tree bounds → IsFeasible k tree parts → length parts ≤ root_least bounds →
    IsOptimal k tree parts
certified-optimal k tree [] parts s f few = absurd (omega (arith, s.one_each))
certified-optimal k tree (bound ∷ bounds) parts s f few =
    record {
      feasible = f;
      fewest = λ others g. let t = true_of_all k tree bound (supported_root k tree bound bounds s) others g in omega (arith, few, t.least);
    }
