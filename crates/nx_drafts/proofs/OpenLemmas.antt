-- Paths that lead through the part of an interval, and none of whose nodes is a member of another.
use Rattle.std.proofs.Common.{◌≡◌, ℕ, zero, suc, ◌+◌, ◌-◌, ◌<◌, ◌≤◌, List, [], ◌∷◌, ◌++◌, Some, refl, sym, ap, subst, ◌∙◌, arith, append_assoc}
use Rattle.std.specs.Prelude.{option_and_then, Contains}
use Rattle.std.specs.List.{AllByRecursion}
use Rattle.std.proofs.lemmas.List.Elements.{Contains-append_left, Contains-append_right, Contains-push}
use Rattle.nx_tree.specs.declared.node.Node.{Node}
use Rattle.nx_tree.specs.Forest.{Forest, OrderedTree}
use Rattle.nx_tree.specs.Edit.{at, child}
use Rattle.nx_weights.specs.Weight.{weight}
use Rattle.nx_matrix.specs.declared.rule.Entry.{Entry}
use Rattle.nx_matrix.specs.declared.rule.Rule.{Rule}
use Rattle.nx_cuts.specs.Cut.{Bare, Grown, Kept, joined, width}
use Rattle.nx_cuts.proofs.FeasibleLemmas.{trees, trees-forest}
use Rattle.nx_cuts.proofs.FreeLemmas.{child_back}
use Rattle.nx_layouts.specs.Layout.{Layout, without_places, laid_forest}
use Rattle.nx_layouts.specs.Replace.{joined_layout}
use Rattle.nx_sketch.specs.Sketch.{Placed, placed_in}
use Rattle.nx_sketch.specs.Plan.{HasNodeAt}
use Rattle.nx_split.specs.Piece.{asked}
use Rattle.nx_drawn.specs.Splits.{part_sketch}
use Rattle.nx_layouts.proofs.DrawnLemmas.{drawn_wide}

-- Q holds of what is below the tree at that position, which is no member of an interval
abbrev pub OpenRow : ℕ → (Layout → Type 0) → Layout → Type 0
OpenRow position Q Bare = ⊥
OpenRow zero Q (Grown node below beside) = Q below
OpenRow (suc position) Q (Grown node below beside) = OpenRow position Q beside
OpenRow position Q (Kept place members beside) = (width members ≤ position) × OpenRow (position - width members) Q beside

-- no node on the path is a member of an interval
abbrev pub OpenAt : List ℕ → Layout → Type 0
OpenAt [] c = Unit {0}
OpenAt (step ∷ path) c = OpenRow step (OpenAt path) c

pub open_front : (Q : Layout → Type 0) (p : ℕ) (a b : Layout) → p < width a → OpenRow p Q (joined_layout a b) → OpenRow p Q a
open_front Q p Bare b lt o = omega arith
open_front Q zero (Grown n d s) b lt o = o
open_front Q (suc p) (Grown n d s) b lt o = open_front Q p s b (omega arith) o
open_front Q p (Kept r m s) b lt o = let le = o.0 in (o.0, open_front Q (p - width m) s b (omega arith) o.1)

pub open_back : (Q : Layout → Type 0) (p : ℕ) (a b : Layout) → width a ≤ p → OpenRow p Q (joined_layout a b) → OpenRow (p - width a) Q b
open_back Q p Bare b le o = subst (λ (i : ℕ). OpenRow i Q b) (let e : p ≡ p - 0 = omega arith in e) o
open_back Q zero (Grown n d s) b le o = absurd (omega (arith, le))
open_back Q (suc p) (Grown n d s) b le o = subst (λ (i : ℕ). OpenRow i Q b) (let e : p - width s ≡ suc p - (1 + width s) = omega arith in e) (open_back Q p s b (omega arith) o)
open_back Q p (Kept r m s) b le o =
    let l = o.0 in
    subst (λ (i : ℕ). OpenRow i Q b) (let e : p - width m - width s ≡ p - (width m + width s) = omega arith in e) (open_back Q (p - width m) s b (omega arith) o.1)

pub open_behind : (Q : Layout → Type 0) (p : ℕ) (a b : Layout) → OpenRow p Q b → OpenRow (width a + p) Q (joined_layout a b)
open_behind Q p Bare b o = subst (λ (i : ℕ). OpenRow i Q b) (let e : p ≡ 0 + p = omega arith in e) o
open_behind Q p (Grown n d s) b o =
    subst (λ (i : ℕ). OpenRow i Q (Grown n d (joined_layout s b))) (let e : suc (width s + p) ≡ 1 + width s + p = omega arith in e) (open_behind Q p s b o)
open_behind Q p (Kept r m s) b o =
    (omega arith, subst (λ (i : ℕ). OpenRow i Q (joined_layout s b)) (let e : width s + p ≡ width m + width s + p - width m = omega arith in e) (open_behind Q p s b o))

open_weaker : (Q R : Layout → Type 0) (p : ℕ) (c : Layout) → ((b : Layout) → Q b → R b) → OpenRow p Q c → OpenRow p R c
open_weaker Q R p Bare f o = absurd o
open_weaker Q R zero (Grown n b s) f o = f b o
open_weaker Q R (suc p) (Grown n b s) f o = open_weaker Q R p s f o
open_weaker Q R p (Kept r m s) f o = (o.0, open_weaker Q R (p - width m) s f o.1)

pub open_width : (Q : Layout → Type 0) (p : ℕ) (c : Layout) → OpenRow p Q c → p < width c
open_width Q p Bare o = absurd o
open_width Q zero (Grown n b s) o = omega arith
open_width Q (suc p) (Grown n b s) o = let l = open_width Q p s o in omega arith
open_width Q p (Kept r m s) o = let le = o.0 in let l = open_width Q (p - width m) s o.1 in omega arith

abbrev tree_on : Node → Forest → OrderedTree
tree_on n f = record { node = n; below = f }

-- the tree at an open position
open_child : (Q : Layout → Type 0) (p : ℕ) (c : Layout) → OpenRow p Q c → (n : Node) × (b : Layout) × Q b × (child (laid_forest c) p ≡ Some (tree_on n (laid_forest b)))
open_child Q p Bare o = absurd o
open_child Q zero (Grown n b s) o = (n.node, b, o, refl)
open_child Q (suc p) (Grown n b s) o = open_child Q p s o
open_child Q p (Kept r m s) o =
    let le = o.0 in
    let t = trees-forest (without_places m) in
    let w = drawn_wide m in
    let e : trees (laid_forest m) + (p - width m) ≡ p = omega (arith, le, t, w) in
    let x = open_child Q (p - width m) s o.1 in
    (x.0, x.1, x.2, ap (child (joined (laid_forest m) (laid_forest s))) (sym e) ∙ child_back (laid_forest m) (laid_forest s) (p - width m) ∙ x.3)

-- An open path leads to a tree with so many children.
pub record LeadsTo (n : Node) (path : List ℕ) (position : ℕ) (c : Layout) : Type 0 where
  pub tree : OrderedTree
  pub at_is : at (tree_on n (laid_forest c)) path ≡ Some tree
  pub wide : position < trees tree.below
  pub is_open : OpenAt path c

pub leads : (n : Node) (path : List ℕ) (position : ℕ) (c : Layout) → OpenAt (path ++ position ∷ []) c → LeadsTo n path position c
leads n [] position c o =
    let w = open_width (λ b. Unit {0}) position c o in
    let t = trees-forest (without_places c) in
    let e = drawn_wide c in
    record { tree = tree_on n (laid_forest c); at_is = refl; wide = omega (arith, w, t, e); is_open = tt }
leads n (step ∷ path) position c o =
    let x = open_child (OpenAt (path ++ position ∷ [])) step c o in
    let r = leads x.0 path position x.1 x.2 in
    record {
      tree = r.tree;
      at_is = ap (option_and_then (λ (v : OrderedTree). at v path)) x.3 ∙ r.at_is;
      wide = r.wide;
      is_open = open_weaker (OpenAt (path ++ position ∷ [])) (OpenAt path) step c (λ b q. (leads x.0 path position b q).is_open) o;
    }

-- the path of a node of the part, from the one at `path` and a position on
record IsOpen (path : List ℕ) (position : ℕ) (c : Layout) (node : Placed) : Type 0 where
  step : ℕ
  rest : List ℕ
  is : node.path ≡ path ++ (position + step) ∷ rest
  leads_on : OpenRow step (OpenAt rest) c

both_open : (P : Placed → Type 0) (xs ys : List Placed) → AllByRecursion P xs → AllByRecursion P ys → AllByRecursion P (xs ++ ys)
both_open P [] ys a b = b
both_open P (x ∷ xs) ys a b = (a.0, both_open P xs ys a.1 b)

each_open : (P Q : Placed → Type 0) (xs : List Placed) → ((x : Placed) → P x → Q x) → AllByRecursion P xs → AllByRecursion Q xs
each_open P Q [] f a = tt
each_open P Q (x ∷ xs) f a = (f x a.0, each_open P Q xs f a.1)

module _ (rules : List Rule) where
  nodes_open : (asks : Node → Entry) (path : List ℕ) (position : ℕ) (c : Layout) → AllByRecursion (IsOpen path position c) (placed_in path (part_sketch rules asks position (without_places c)))
  nodes_open asks path position Bare = tt
  nodes_open asks path position (Grown n b s) =
      let here = path ++ position ∷ [] in
      let inner = placed_in here (part_sketch rules (asked rules n.node) 0 (without_places b)) in
      let along = placed_in path (part_sketch rules asks (position + 1) (without_places s)) in (
        record { step = 0; rest = []; is = ap (λ (i : ℕ). path ++ i ∷ []) (let e : position ≡ position + 0 = omega arith in e); leads_on = tt },
        both_open (IsOpen path position (Grown n b s)) inner along
            (each_open (IsOpen here 0 b) (IsOpen path position (Grown n b s)) inner
            (λ x o. record {
              step = 0;
              rest = o.step ∷ o.rest;
              is = o.is ∙ append_assoc path (position ∷ []) ((0 + o.step) ∷ o.rest)
                  ∙ ap (λ (i : ℕ). path ++ i ∷ (0 + o.step) ∷ o.rest) (let e : position ≡ position + 0 = omega arith in e)
                  ∙ ap (λ (i : ℕ). path ++ (position + 0) ∷ i ∷ o.rest) (let e : 0 + o.step ≡ o.step = omega arith in e);
              leads_on = o.leads_on;
            }) (nodes_open (asked rules n.node) here 0 b))
            (each_open (IsOpen path (position + 1) s) (IsOpen path position (Grown n b s)) along
            (λ x o. record {
              step = suc o.step;
              rest = o.rest;
              is = o.is ∙ ap (λ (i : ℕ). path ++ i ∷ o.rest) (let e : position + 1 + o.step ≡ position + suc o.step = omega arith in e);
              leads_on = o.leads_on;
            }) (nodes_open asks path (position + 1) s)),
      )
  nodes_open asks path position (Kept r m s) =
      let along = placed_in path (part_sketch rules asks (position + width (without_places m)) (without_places s)) in
      each_open (IsOpen path (position + width (without_places m)) s) (IsOpen path position (Kept r m s)) along
      (λ x o. record {
        step = width m + o.step;
        rest = o.rest;
        is = o.is ∙ ap (λ (i : ℕ). path ++ i ∷ o.rest) (let w = drawn_wide m in let e : position + width (without_places m) + o.step ≡ position + (width m + o.step) = omega (arith, w) in e);
        leads_on = (omega arith, subst (λ (i : ℕ). OpenRow i (OpenAt o.rest) s) (let e : o.step ≡ width m + o.step - width m = omega arith in e) o.leads_on);
      }) (nodes_open asks path (position + width (without_places m)) s)

  -- a tree at an open position is a node of the part
  pub top_placed : (asks : Node → Entry) (path : List ℕ) (position step : ℕ) (c : Layout) → OpenRow step (λ b. Unit {0}) c → HasNodeAt (placed_in path (part_sketch rules asks position (without_places c))) (path ++ (position + step) ∷ [])
  top_placed asks path position step Bare o = absurd o
  top_placed asks path position zero (Grown n b s) o =
      let here = path ++ position ∷ [] in
      let node : Placed = record { path = here; weight = weight n.node; entry = asks n.node } in (
        node,
        Contains-append_left (node ∷ []) (placed_in here (part_sketch rules (asked rules n.node) 0 (without_places b)) ++ placed_in path (part_sketch rules asks (position + 1) (without_places s))) node (Contains-push [] node),
        ap (λ (i : ℕ). path ++ i ∷ []) (let e : position ≡ position + 0 = omega arith in e),
      )
  top_placed asks path position (suc step) (Grown n b s) o =
      let here = path ++ position ∷ [] in
      let node : Placed = record { path = here; weight = weight n.node; entry = asks n.node } in
      let r = top_placed asks path (position + 1) step s o in (
        r.0,
        Contains-append_right (node ∷ placed_in here (part_sketch rules (asked rules n.node) 0 (without_places b))) (placed_in path (part_sketch rules asks (position + 1) (without_places s))) r.0 r.1,
        r.2 ∙ ap (λ (i : ℕ). path ++ i ∷ []) (let e : position + 1 + step ≡ position + suc step = omega arith in e),
      )
  top_placed asks path position step (Kept p m s) o =
      let le = o.0 in
      let r = top_placed asks path (position + width (without_places m)) (step - width m) s o.1 in
      (r.0, r.1, r.2 ∙ ap (λ (i : ℕ). path ++ i ∷ []) (let w = drawn_wide m in let e : position + width (without_places m) + (step - width m) ≡ position + step = omega (arith, w, le) in e))

at_place : (P : Placed → Type 0) (xs : List Placed) → AllByRecursion P xs → (x : Placed) → Contains xs x → P x
at_place P [] a x c = absurd (let lt = c.1 in omega arith)
at_place P (y ∷ xs) a x (zero, lt, e) = subst P e a.0
at_place P (y ∷ xs) a x (suc i, lt, e) = at_place P xs a.1 x (i, omega arith, e)

-- each node of a part is at the end of an open path
pub placed_open : (rules : List Rule) (asks : Node → Entry) (c : Layout) (path : List ℕ) → HasNodeAt (placed_in [] (part_sketch rules asks 0 (without_places c))) path → OpenAt path c
placed_open rules asks c path p =
    let o = at_place (IsOpen [] 0 c) (placed_in [] (part_sketch rules asks 0 (without_places c))) (nodes_open rules asks [] 0 c) p.0 p.1 in
    let e : o.step ∷ o.rest ≡ path = ap (λ (i : ℕ). i ∷ o.rest) (let z : o.step ≡ 0 + o.step = omega arith in z) ∙ sym o.is ∙ p.2 in
    subst (λ (q : List ℕ). OpenAt q c) e o.leads_on
