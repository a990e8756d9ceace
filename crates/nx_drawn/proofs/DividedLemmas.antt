-- A part that is divided by a split has no part that is too heavy.
use Rattle.std.proofs.Common.{◌≡◌, ℕ, zero, suc, ◌+◌, ◌-◌, ◌<◌, ◌≤◌, ◌==◌, ◌||◌, if◌then◌else◌, Bool, true, false, IsTrue, List, [], ◌∷◌, ◌++◌, length, Option, None, Some, refl, sym, ap, subst, ◌∙◌, arith, get_or, inl, inr, length-append, append_assoc}
use Rattle.std.specs.List.{AllPairs, AllByRecursion}
use Rattle.std.specs.Option.{is_some, option_or}
use Rattle.std.proofs.lemmas.Bool.Decides.{nat_tests}
use Rattle.std.proofs.lemmas.Iterator.Adapters.{position_from-zero}
use Rattle.std.proofs.lemmas.List.{get_or_append_left, get_or-append_right}
use Rattle.std.proofs.lemmas.List.Elements.{recursion_from_All}
use Rattle.std.proofs.lemmas.List.Folds.{list_any-append}
use Rattle.std.proofs.lemmas.List.Sorted.{Contains-permutation, list_any-IsPermutation}
use Rattle.nx_tree.specs.declared.node.Node.{Node}
use Rattle.nx_tree.specs.declared.node.Kind.TheVariants.{Text}
use Rattle.nx_tree.specs.Forest.{Forest, Empty, Plant}
use Rattle.nx_weights.specs.Weight.{weight}
use Rattle.nx_parts.specs.declared.interval.Interval.{Interval}
use Rattle.nx_parts.specs.declared.interval.Interval.TheVariants.{Root, Run}
use Rattle.nx_parts.specs.Partitioning.{has_member, ShareMember, holder, owner}
use Rattle.nx_parts.proofs.Owned.{is_place, owned}
use Rattle.nx_parts.proofs.OwnerLemmas.{owner-root}
use Rattle.nx_matrix.specs.declared.rule.Entry.{Entry}
use Rattle.nx_matrix.specs.declared.rule.Rule.{Rule}
use Rattle.nx_cuts.specs.Cut.{Cut, CutForest, Bare, Grown, Kept, forest, width, intervals, cuts, part_weight, AreFree, AreParts}
use Rattle.nx_cuts.proofs.FeasibleLemmas.{Members, IsDrawn, agrees-drawn, owned-drawn, weight_at, weight-light, weight-above, length-intervals, child_reaches, le_or, or_nothing, top_nothing, from, trees, trees-forest}
use Rattle.nx_cuts.proofs.PartitionLemmas.{drawn_feasible}
use Rattle.nx_sketch.specs.Sketch.{Placed, placed_in}
use Rattle.nx_sketch.specs.Plan.{HasNodeAt, IsInside, IsFeasiblePlan}
use Rattle.nx_sketch.specs.Split.{IsSplit}
use Rattle.nx_split.specs.Piece.{asked, asked_of_root}
use Rattle.nx_holdings.specs.declared.header.Settings.{Settings}
use Rattle.nx_drawn.specs.Splits.{part_sketch, part_nodes, Divides}
use Rattle.nx_drawn.proofs.DivisionLemmas.{AreLightRuns, runs_own, division_light}
use Rattle.nx_drawn.proofs.OwnLemmas.{or_above, own, own_sketch, own-same, own_sketch-same, own-joined, asked_of, owned-own, sketch_sum, any_holds, told, any_holder, none_at, not_true, told_other, asked-told}

-- a heavier limit
pub heavier_parts : {P : Type 0} (k l : ℕ) (c : Cut Node P) → k ≤ l → AreParts k c → AreParts l c
heavier_parts k l Bare le h = tt
heavier_parts k l (Grown n b s) le h = (heavier_parts k l b le h.0, heavier_parts k l s le h.1)
heavier_parts k l (Kept u m s) le h = (h.0, h.1, let x = h.2 in omega arith, heavier_parts k l m le h.3, heavier_parts k l s le h.4)

same_if : (n x : ℕ) → (if n == n then x else 0) ≡ x
same_if n x = grind (arith, nat_tests)

-- intervals whose parts are light enough, one by one
parts_by_weight : (k limit base : ℕ) (c : CutForest) → AreParts limit c → ((index : ℕ) → weight_at index base c ≤ k) → AreParts k c
parts_by_weight k limit base Bare h w = tt
parts_by_weight k limit base (Grown n b s) h w = (
  parts_by_weight k limit base b h.0 (λ i. omega (arith, w i)),
  parts_by_weight k limit (base + cuts b) s h.1 (λ i. omega (arith, w i)),
)
parts_by_weight k limit base (Kept u m s) h w = (
  h.0,
  h.1,
  let x = w base in let y = same_if base (part_weight m) in omega (arith, x, y),
  parts_by_weight k limit (base + 1) m h.3 (λ i. omega (arith, w i)),
  parts_by_weight k limit (base + 1 + cuts m) s h.4 (λ i. omega (arith, w i)),
)

-- what the intervals own of a forest is what is drawn
pub drawn_agrees : (limit : ℕ) (c : CutForest) → AreParts limit c → IsDrawn (holder (intervals [] 0 c)) None 0 [] 0 c
drawn_agrees limit c h =
    let ps = intervals [] 0 c in
    agrees-drawn limit (holder ps) None 0 [] 0 c h (λ p rest low high. position_from-zero (λ x. has_member x (p ∷ rest)) ps
    ∙ sym (ap (option_or (from (p ∷ rest) 0 ps)) (top_nothing rest) ∙ or_nothing (from (p ∷ rest) 0 ps)))

drawn_own : (limit : ℕ) (c : CutForest) → AreParts limit c → (index : ℕ) → weight_at index 0 c ≡ own (asked_of (intervals [] 0 c) index) false [] 0 (forest c)
drawn_own limit c h index =
    let ps = intervals [] 0 c in
    let x : owned ps index None [] 0 (forest c) ≡ 0 + weight_at index 0 c = owned-drawn ps index None None 0 [] 0 c (drawn_agrees limit c h) in
    let y = owned-own ps index None [] 0 (forest c) in omega (arith, x, y)

-- drawn intervals share no member
pub drawn_apart : (limit : ℕ) (n : Node) (c : CutForest) → AreParts limit c → AllPairs (λ a b. ¬ ShareMember a b) (intervals [] 0 c)
drawn_apart limit n c h =
    let l = limit + (weight n + part_weight c) in
    let f = drawn_feasible l (record { node = n; below = c }) (omega arith) (heavier_parts limit l c (omega arith) h) in
    λ i j d lt le. (f.partitioning).disjoint (suc i) (suc j) d (omega arith) (omega arith)

-- The path leads to a node below the one at `path`, and `h` has none of the nodes on the way there.
pub record IsClear (h : List ℕ → Option ℕ) (path q : List ℕ) : Type 0 where
  pub step : ℕ
  pub rest : List ℕ
  pub leads : q ≡ path ++ step ∷ rest
  pub clear : (a b : List ℕ) → rest ≡ a ++ b → h (path ++ step ∷ a) ≡ None

clear_here : (h : List ℕ → Option ℕ) (path : List ℕ) (p : ℕ) → h (path ++ p ∷ []) ≡ None → IsClear h path (path ++ p ∷ [])
clear_here h path p e = record { step = p; rest = []; leads = refl; clear = λ a b is. ends a b is }
  where
    ends : (a b : List ℕ) → [] ≡ a ++ b → h (path ++ p ∷ a) ≡ None
    ends [] b is = e
    ends (x ∷ a) b is = cc

clear_below : (h : List ℕ → Option ℕ) (path : List ℕ) (p : ℕ) (q : List ℕ) → h (path ++ p ∷ []) ≡ None → IsClear h (path ++ p ∷ []) q → IsClear h path q
clear_below h path p q e c = record {
  step = p;
  rest = c.step ∷ c.rest;
  leads = c.leads ∙ append_assoc path (p ∷ []) (c.step ∷ c.rest);
  clear = λ a b is. on_way a b is;
}
  where
    on_way : (a b : List ℕ) → c.step ∷ c.rest ≡ a ++ b → h (path ++ p ∷ a) ≡ None
    on_way [] b is = e
    on_way (x ∷ a) b is =
        let s : c.step ≡ x = cc in
        let r : c.rest ≡ a ++ b = cc in
        ap (λ i. h (path ++ p ∷ i ∷ a)) (sym s) ∙ ap h (sym (append_assoc path (p ∷ []) (c.step ∷ a))) ∙ c.clear a b r

-- the first steps of a clear path lead to a node that `h` doesn't have
clear_prefix : (h : List ℕ → Option ℕ) (path : List ℕ) (p : ℕ) (rest : List ℕ) → IsClear h [] (path ++ p ∷ rest) → h (path ++ p ∷ []) ≡ None
clear_prefix h [] p rest c =
    let s : p ≡ c.step = let e = c.leads in cc in
    let r : c.rest ≡ [] ++ rest = let e = c.leads in cc in
    ap (λ i. h (i ∷ [])) s ∙ c.clear [] rest r
clear_prefix h (x ∷ path) p rest c =
    let s : x ≡ c.step = let e = c.leads in cc in
    let r : c.rest ≡ (path ++ p ∷ []) ++ rest = let e : x ∷ path ++ p ∷ rest ≡ c.step ∷ c.rest = c.leads in let f : path ++ p ∷ rest ≡ c.rest = cc in sym f ∙ sym (append_assoc path (p ∷ []) rest) in
    ap (λ i. h (i ∷ path ++ p ∷ [])) s ∙ c.clear (path ++ p ∷ []) rest r

module _ (rules : List Rule) (h : List ℕ → Option ℕ) where
  -- the nodes of a part stand beside the members of other intervals
  pub nodes_clear : (here : Option ℕ) (asks : Node → Entry) (base : ℕ) (path : List ℕ) (position : ℕ) (c : CutForest) → here ≡ None → IsDrawn h here base path position c
      → AllByRecursion (λ (node : Placed). IsClear h path node.path) (placed_in path (part_sketch rules asks position c))
  nodes_clear here asks base path position Bare none d = tt
  nodes_clear here asks base path position (Grown n b s) none d = (
    clear_here h path position (d.0 ∙ none),
    both_clear path (placed_in (path ++ position ∷ []) (part_sketch rules (asked rules n) 0 b)) (placed_in path (part_sketch rules asks (position + 1) s))
        (lifted path position (placed_in (path ++ position ∷ []) (part_sketch rules (asked rules n) 0 b)) (d.0 ∙ none) (nodes_clear None (asked rules n) base (path ++ position ∷ []) 0 b refl d.1))
        (nodes_clear here asks (base + cuts b) path (position + 1) s none d.2),
  )
    where
      both_clear : (path : List ℕ) (xs ys : List Placed) → AllByRecursion (λ (node : Placed). IsClear h path node.path) xs → AllByRecursion (λ (node : Placed). IsClear h path node.path) ys
          → AllByRecursion (λ (node : Placed). IsClear h path node.path) (xs ++ ys)
      both_clear path [] ys a b = b
      both_clear path (x ∷ xs) ys a b = (a.0, both_clear path xs ys a.1 b)

      lifted : (path : List ℕ) (p : ℕ) (xs : List Placed) → h (path ++ p ∷ []) ≡ None → AllByRecursion (λ (node : Placed). IsClear h (path ++ p ∷ []) node.path) xs
          → AllByRecursion (λ (node : Placed). IsClear h path node.path) xs
      lifted path p [] e a = tt
      lifted path p (x ∷ xs) e a = (clear_below h path p x.path e a.0, lifted path p xs e a.1)
  nodes_clear here asks base path position (Kept u m s) none d = nodes_clear here asks (base + 1 + cuts m) path (position + width m) s none d.1

either : (a b : Bool) → a ≡ false → b ≡ false → a || b ≡ false
either true b e f = cc
either false b e f = f

either_true : (a b : Bool) → b ≡ true → a || b ≡ true
either_true true b e = refl
either_true false b e = e

either_left : (a b : Bool) → b ≡ false → a || b ≡ a
either_left true b e = refl
either_left false b e = e

none_holds : (P : List ℕ → Type 0) (xs : List Interval) → Members P xs → (q : List ℕ) → (P q → ⊥) → any_holds xs q ≡ false
none_holds P [] m q never = refl
none_holds P (x ∷ xs) m q never = either (has_member x q) (any_holds xs q) (not_true (has_member x q) (λ t. never (m.0 q t))) (none_holds P xs m.1 q never)

at_index : (P : Placed → Type 0) (xs : List Placed) → AllByRecursion P xs → (i : ℕ) (d : Placed) → i < length xs → P (get_or xs i d)
at_index P [] a i d lt = absurd (omega arith)
at_index P (x ∷ xs) a zero d lt = a.0
at_index P (x ∷ xs) a (suc i) d lt = at_index P xs a.1 i d (omega arith)

-- the members of an interval of a plan are nodes of the part
inside_clear : (h : List ℕ → Option ℕ) (nodes : List Placed) → AllByRecursion (λ (node : Placed). IsClear h [] node.path) nodes → (x : Interval) → IsInside nodes x → (q : List ℕ) → IsTrue (has_member x q) → IsClear h [] q
inside_clear h nodes a Root i q t = absurd i
inside_clear h nodes a (Run parent first last) i q t =
    let r = child_reaches parent first last q t in
    let p = i.1 r.0 r.2 r.3 in
    let c = at_index (λ (node : Placed). IsClear h [] node.path) nodes a p.1.0 p.0 p.1.1 in
    subst (IsClear h []) (ap (λ (node : Placed). node.path) p.1.2 ∙ p.2 ∙ sym r.1) c

pub members_clear : (h : List ℕ → Option ℕ) (nodes : List Placed) (parts : List Interval) → AllByRecursion (λ (node : Placed). IsClear h [] node.path) nodes → AllByRecursion (IsInside nodes) parts → Members (IsClear h []) parts
members_clear h nodes [] a i = tt
members_clear h nodes (x ∷ parts) a i = (inside_clear h nodes a x i.0, members_clear h nodes parts a i.1)

no_claim : (m some : Bool) → m ≡ false → or_above (told m some) false ≡ false
no_claim true some e = cc
no_claim false true e = refl
no_claim false false e = refl

none_some : (e : ℕ) → None ≡ Some e → ⊥
none_some e h = cc

-- the intervals of a split, and those below the part that is divided
module _ (rules : List Rule) (parts below : List Interval) (clear : Members (IsClear (holder below) []) parts) where
  -- what both lists together answer of an interval
  abbrev pub both : Interval → List ℕ → Option Bool
  both x q = told (has_member x q) (any_holds parts q || any_holds below q)

  held_some : (q : List ℕ) (e : ℕ) → holder below q ≡ Some e → any_holds below q ≡ true
  held_some q e is = sym (any_holder q below) ∙ ap is_some is

  held_none : (q : List ℕ) → holder below q ≡ None → any_holds below q ≡ false
  held_none q is = sym (any_holder q below) ∙ ap is_some is

  -- no interval of the split has a node at or below a member of an interval below the part
  pub away : (path : List ℕ) (p : ℕ) (rest : List ℕ) (e : ℕ) → holder below (path ++ p ∷ []) ≡ Some e → any_holds parts (path ++ p ∷ rest) ≡ false
  away path p rest e is = none_holds (IsClear (holder below) []) parts clear (path ++ p ∷ rest) (λ c. none_some e (sym (clear_prefix (holder below) path p rest c) ∙ is))

  away_below : (path : List ℕ) (p : ℕ) (e : ℕ) → holder below (path ++ p ∷ []) ≡ Some e → (next : ℕ) (rest : List ℕ) → any_holds parts ((path ++ p ∷ []) ++ next ∷ rest) ≡ false
  away_below path p e is next rest = ap (any_holds parts) (append_assoc path (p ∷ []) (next ∷ rest)) ∙ away path p (next ∷ rest) e is

  none_below : (path : List ℕ) (p : ℕ) → ((next : ℕ) (rest : List ℕ) → any_holds parts (path ++ next ∷ rest) ≡ false) → (next : ℕ) (rest : List ℕ) → any_holds parts ((path ++ p ∷ []) ++ next ∷ rest) ≡ false
  none_below path p none next rest = ap (any_holds parts) (append_assoc path (p ∷ []) (next ∷ rest)) ∙ none p (next ∷ rest)

  module _ (x : Interval) (within : (q : List ℕ) → any_holds parts q ≡ false → has_member x q ≡ false) where
    -- an interval whose members are members of the split has nothing there
    deep_none : (f : Forest) (path : List ℕ) (position : ℕ) → ((p : ℕ) (rest : List ℕ) → any_holds parts (path ++ p ∷ rest) ≡ false) → own (both x) false path position f ≡ 0
    deep_none Empty path position none = refl
    deep_none (Plant n b s) path position none =
        let q = path ++ position ∷ [] in
        let e : or_above (both x q) false ≡ false = no_claim (has_member x q) (any_holds parts q || any_holds below q) (within q (none position [])) in
        let a : (if or_above (both x q) false then weight n else 0) ≡ 0 = ap (λ (t : Bool). if t then weight n else 0) e in
        let y : own (both x) (or_above (both x q) false) q 0 b ≡ 0 = ap (λ (t : Bool). own (both x) t q 0 b) e ∙ deep_none b q 0 (none_below path position none) in
        let z = deep_none s path (position + 1) none in
        omega (arith, a, y, z)

    members_none : (e base : ℕ) (here : Option ℕ) (mine : Bool) (path : List ℕ) (position : ℕ) (c : CutForest) → AreFree c → here ≡ Some e → IsDrawn (holder below) here base path position c
        → own (both x) mine path position (forest c) ≡ 0
    members_none e base here mine path position Bare f is d = refl
    members_none e base here mine path position (Grown n b s) f is d =
        let q = path ++ position ∷ [] in
        let held : holder below q ≡ Some e = d.0 ∙ is in
        let o : or_above (both x q) mine ≡ false =
        ap (λ (o : Option Bool). or_above o mine) (told_other (has_member x q) (any_holds parts q || any_holds below q) (within q (away path position [] e held)) (either_true (any_holds parts q) (any_holds below q) (held_some q e held))) in
        let a : (if or_above (both x q) mine then weight n else 0) ≡ 0 = ap (λ (t : Bool). if t then weight n else 0) o in
        let y : own (both x) (or_above (both x q) mine) q 0 (forest b) ≡ 0 = ap (λ (t : Bool). own (both x) t q 0 (forest b)) o ∙ deep_none (forest b) q 0 (away_below path position e held) in
        let z = members_none e (base + cuts b) here mine path (position + 1) s f is d.2 in
        omega (arith, a, y, z)
    members_none e base here mine path position (Kept u m s) f is d = absurd f

    -- of the part it has what the split gives it
    pub walk_parts : (limit : ℕ) (asks : Node → Entry) (base : ℕ) (mine : Bool) (path : List ℕ) (position : ℕ) (c : CutForest) → AreParts limit c → IsDrawn (holder below) None base path position c
        → own (both x) mine path position (forest c) ≡ own_sketch (λ q. told (has_member x q) (any_holds parts q)) mine path (part_sketch rules asks position c)
    walk_parts limit asks base mine path position Bare h d = refl
    walk_parts limit asks base mine path position (Grown n b s) h d =
        let ask : List ℕ → Option Bool = λ q. told (has_member x q) (any_holds parts q) in
        let q = path ++ position ∷ [] in
        let o : or_above (both x q) mine ≡ or_above (ask q) mine =
        ap (λ (some : Bool). or_above (told (has_member x q) some) mine) (either_left (any_holds parts q) (any_holds below q) (held_none q d.0)) in
        let a : (if or_above (both x q) mine then weight n else 0) ≡ (if or_above (ask q) mine then weight n else 0) = ap (λ (t : Bool). if t then weight n else 0) o in
        let y : own (both x) (or_above (both x q) mine) q 0 (forest b) ≡ own_sketch ask (or_above (ask q) mine) q (part_sketch rules (asked rules n) 0 b) =
        ap (λ (t : Bool). own (both x) t q 0 (forest b)) o ∙ walk_parts limit (asked rules n) base (or_above (ask q) mine) q 0 b h.0 d.1 in
        let z = walk_parts limit asks (base + cuts b) mine path (position + 1) s h.1 d.2 in
        omega (arith, a, y, z)
    walk_parts limit asks base mine path position (Kept u m s) h d =
        let j = own-joined (both x) mine path position (forest m) (forest s) in
        let none = members_none base (base + 1) (Some base) mine path position m h.1 refl d.0 in
        let t : own (both x) mine path (position + trees (forest m)) (forest s) ≡ own (both x) mine path (position + width m) (forest s) = ap (λ w. own (both x) mine path (position + w) (forest s)) (trees-forest m) in
        let z = walk_parts limit asks (base + 1 + cuts m) mine path (position + width m) s h.4 d.1 in
        omega (arith, j, none, t, z)

  module _ (j : ℕ) (lt : j < length below) where
    deep_same : (f : Forest) (mine : Bool) (path : List ℕ) (position : ℕ) → ((p : ℕ) (rest : List ℕ) → any_holds parts (path ++ p ∷ rest) ≡ false)
        → own (both (get_or below j Root)) mine path position f ≡ own (λ q. told (has_member (get_or below j Root) q) (any_holds below q)) mine path position f
    deep_same Empty mine path position none = refl
    deep_same (Plant n b s) mine path position none =
        let x = get_or below j Root in
        let ask : List ℕ → Option Bool = λ q. told (has_member x q) (any_holds below q) in
        let q = path ++ position ∷ [] in
        let o : or_above (both x q) mine ≡ or_above (ask q) mine = ap (λ (t : Bool). or_above (told (has_member x q) (t || any_holds below q)) mine) (none position []) in
        let a : (if or_above (both x q) mine then weight n else 0) ≡ (if or_above (ask q) mine then weight n else 0) = ap (λ (t : Bool). if t then weight n else 0) o in
        let y : own (both x) (or_above (both x q) mine) q 0 b ≡ own ask (or_above (ask q) mine) q 0 b = ap (λ (t : Bool). own (both x) t q 0 b) o ∙ deep_same b (or_above (ask q) mine) q 0 (none_below path position none) in
        let z = deep_same s mine path (position + 1) none in
        omega (arith, a, y, z)

    members_same : (e base : ℕ) (here : Option ℕ) (mine : Bool) (path : List ℕ) (position : ℕ) (c : CutForest) → AreFree c → here ≡ Some e → IsDrawn (holder below) here base path position c
        → own (both (get_or below j Root)) mine path position (forest c) ≡ own (λ q. told (has_member (get_or below j Root) q) (any_holds below q)) mine path position (forest c)
    members_same e base here mine path position Bare f is d = refl
    members_same e base here mine path position (Grown n b s) f is d =
        let x = get_or below j Root in
        let ask : List ℕ → Option Bool = λ q. told (has_member x q) (any_holds below q) in
        let q = path ++ position ∷ [] in
        let held : holder below q ≡ Some e = d.0 ∙ is in
        let o : or_above (both x q) mine ≡ or_above (ask q) mine = ap (λ (t : Bool). or_above (told (has_member x q) (t || any_holds below q)) mine) (away path position [] e held) in
        let a : (if or_above (both x q) mine then weight n else 0) ≡ (if or_above (ask q) mine then weight n else 0) = ap (λ (t : Bool). if t then weight n else 0) o in
        let y : own (both x) (or_above (both x q) mine) q 0 (forest b) ≡ own ask (or_above (ask q) mine) q 0 (forest b) =
        ap (λ (t : Bool). own (both x) t q 0 (forest b)) o ∙ deep_same (forest b) (or_above (ask q) mine) q 0 (away_below path position e held) in
        let z = members_same e (base + cuts b) here mine path (position + 1) s f is d.2 in
        omega (arith, a, y, z)
    members_same e base here mine path position (Kept u m s) f is d = absurd f

    -- an interval below the part has what it had
    walk_below : (limit base : ℕ) (path : List ℕ) (position : ℕ) (c : CutForest) → AreParts limit c → IsDrawn (holder below) None base path position c
        → own (both (get_or below j Root)) false path position (forest c) ≡ own (λ q. told (has_member (get_or below j Root) q) (any_holds below q)) false path position (forest c)
    walk_below limit base path position Bare h d = refl
    walk_below limit base path position (Grown n b s) h d =
        let x = get_or below j Root in
        let ask : List ℕ → Option Bool = λ q. told (has_member x q) (any_holds below q) in
        let q = path ++ position ∷ [] in
        let not : has_member x q ≡ false = none_at q below j (held_none q d.0) lt in
        let o : or_above (both x q) false ≡ false = no_claim (has_member x q) (any_holds parts q || any_holds below q) not in
        let r : or_above (ask q) false ≡ false = no_claim (has_member x q) (any_holds below q) not in
        let a : (if or_above (both x q) false then weight n else 0) ≡ (if or_above (ask q) false then weight n else 0) = ap (λ (t : Bool). if t then weight n else 0) (o ∙ sym r) in
        let y : own (both x) (or_above (both x q) false) q 0 (forest b) ≡ own ask (or_above (ask q) false) q 0 (forest b) =
        ap (λ (t : Bool). own (both x) t q 0 (forest b)) o ∙ walk_below limit base q 0 b h.0 d.1 ∙ ap (λ (t : Bool). own ask t q 0 (forest b)) (sym r) in
        let z = walk_below limit (base + cuts b) path (position + 1) s h.1 d.2 in
        omega (arith, a, y, z)
    walk_below limit base path position (Kept u m s) h d =
        let x = get_or below j Root in
        let ask : List ℕ → Option Bool = λ q. told (has_member x q) (any_holds below q) in
        let k = own-joined (both x) false path position (forest m) (forest s) in
        let l = own-joined ask false path position (forest m) (forest s) in
        let same = members_same base (base + 1) (Some base) false path position m h.1 refl d.0 in
        let t : own (both x) false path (position + trees (forest m)) (forest s) ≡ own (both x) false path (position + width m) (forest s) = ap (λ w. own (both x) false path (position + w) (forest s)) (trees-forest m) in
        let v : own ask false path (position + trees (forest m)) (forest s) ≡ own ask false path (position + width m) (forest s) = ap (λ w. own ask false path (position + w) (forest s)) (trees-forest m) in
        let z = walk_below limit (base + 1 + cuts m) path (position + width m) s h.4 d.1 in
        omega (arith, k, l, same, t, v, z)

any_default : (xs : List Interval) (i : ℕ) (d e : Interval) → i < length xs → get_or xs i d ≡ get_or xs i e
any_default [] i d e lt = absurd (omega arith)
any_default (x ∷ xs) zero d e lt = refl
any_default (x ∷ xs) (suc i) d e lt = any_default xs i d e (omega arith)

pub feasible_plan : (settings : Settings) (nodes : List Placed) (parts : List Interval) → IsSplit settings.k nodes settings.target settings.tolerance parts → IsFeasiblePlan settings.k nodes parts
feasible_plan settings nodes parts s = elim s.divides [ inl x ↦ x.feasible | inr x ↦ x.feasible ]

no_helper : (h : List ℕ → Option ℕ) → IsClear h [] [] → ⊥
no_helper h c = let e = c.leads in cc

pub no_holder : (parts : List Interval) (q : List ℕ) → any_holds parts q ≡ false → holder parts q ≡ None
no_holder parts q none = (elim (holder parts q) as (λ o. is_some o ≡ false → o ≡ None) [ None ↦ λ e. refl | Some i ↦ λ e. cc ]) (any_holder q parts ∙ none)

module _ (settings : Settings) (rules : List Rule) (above : Option Node) (m now : CutForest) (limit : ℕ) (h : AreParts limit m) (room : ℕ) (d : Divides settings rules room above m now) where
  runs : AreLightRuns settings.k (part_sketch rules (asked_of_root rules above) 0 m) d.parts
  runs = division_light settings.k room settings.target settings.tolerance (part_sketch rules (asked_of_root rules above) 0 m) d.parts d.raised d.division

  pub split_clear : Members (IsClear (holder (intervals [] 0 m)) []) d.parts
  split_clear =
      members_clear (holder (intervals [] 0 m)) (part_nodes rules above m) d.parts
      (nodes_clear rules (holder (intervals [] 0 m)) None (asked_of_root rules above) 0 [] 0 m refl (drawn_agrees limit m h))
      (recursion_from_All (IsInside (part_nodes rules above m)) d.parts runs.inside)

  -- what the interval at an index has, of the intervals of the split and those below the part
  drawn_both : (n : Node) (index : ℕ) → index < length (intervals [] 0 now)
      → weight_at index 0 now ≡ own (both rules d.parts (intervals [] 0 m) split_clear (get_or (intervals [] 0 now) index Root)) false [] 0 (forest m)
  drawn_both n index lt =
      let all = intervals [] 0 now in
      let below = intervals [] 0 m in
      let x = get_or all index Root in
      drawn_own d.limit now d.formed index
      ∙ own-same false [] 0 (forest now) (λ q. asked-told all index (drawn_apart d.limit n now d.formed) lt q
      ∙ ap (told (has_member x q)) (list_any-IsPermutation (λ (y : Interval). has_member y q) all (d.parts ++ below) d.drawn ∙ list_any-append (λ (y : Interval). has_member y q) d.parts below))
      ∙ ap (own (both rules d.parts below split_clear x) false [] 0) d.same

  module _ (most : settings.k ≤ limit) where
    -- an interval of the split
    split_light : (i : ℕ) → i < length d.parts → own (both rules d.parts (intervals [] 0 m) split_clear (get_or d.parts i Root)) false [] 0 (forest m) ≤ limit
    split_light i lt =
        let a = walk_parts rules d.parts (intervals [] 0 m) split_clear (get_or d.parts i Root) (λ q none. none_at q d.parts i none lt) limit (asked_of_root rules above) 0 false [] 0 m h (drawn_agrees limit m h) in
        let b = runs_own (part_sketch rules (asked_of_root rules above) 0 m) d.parts runs.inside runs.disjoint i lt in
        let e = runs.light i lt in
        omega (arith, a, b, e, most)

    -- an interval below the part
    below_light : (n : Node) (j : ℕ) → j < length (intervals [] 0 m) → own (both rules d.parts (intervals [] 0 m) split_clear (get_or (intervals [] 0 m) j Root)) false [] 0 (forest m) ≤ limit
    below_light n j lt =
        let below = intervals [] 0 m in
        let a = walk_below rules d.parts below split_clear j lt limit 0 [] 0 m h (drawn_agrees limit m h) in
        let b = own-same false [] 0 (forest m) (λ q. asked-told below j (drawn_apart limit n m h) lt q) in
        let c = drawn_own limit m h j in
        let e = weight-light limit j 0 m h in
        omega (arith, a, b, c, e, most)

    pub divided_parts : AreParts limit now
    divided_parts = parts_by_weight limit d.limit 0 now d.formed light
      where
        n : Node
        n = record { kind = Text; name = []; content = [] }

        of_either : (index : ℕ) → index < length (intervals [] 0 now) → weight_at index 0 now ≤ limit
        of_either index lt =
            let x = get_or (intervals [] 0 now) index Root in
            let w = drawn_both n index lt in
            let c = Contains-permutation (intervals [] 0 now) (d.parts ++ intervals [] 0 m) x d.drawn (index, lt, any_default (intervals [] 0 now) index x Root lt) in
            let long = length-append d.parts (intervals [] 0 m) in
            let within = c.1 in
            elim (le_or c.0 (length d.parts)) [
              | inl l ↦
                  let e : x ≡ get_or d.parts c.0 Root = sym c.2 ∙ get_or_append_left d.parts (intervals [] 0 m) x c.0 l ∙ any_default d.parts c.0 x Root l in
                  let f : own (both rules d.parts (intervals [] 0 m) split_clear x) false [] 0 (forest m) ≡ own (both rules d.parts (intervals [] 0 m) split_clear (get_or d.parts c.0 Root)) false [] 0 (forest m) =
                  ap (λ (y : Interval). own (both rules d.parts (intervals [] 0 m) split_clear y) false [] 0 (forest m)) e in
                  let g = split_light c.0 l in
                  omega (arith, w, f, g)
              | inr r ↦
                  let s : c.0 - length d.parts < length (intervals [] 0 m) = omega arith in
                  let e : x ≡ get_or (intervals [] 0 m) (c.0 - length d.parts) Root =
                  sym c.2 ∙ get_or-append_right d.parts (intervals [] 0 m) (length d.parts) c.0 x refl r ∙ any_default (intervals [] 0 m) (c.0 - length d.parts) x Root s in
                  let f : own (both rules d.parts (intervals [] 0 m) split_clear x) false [] 0 (forest m) ≡ own (both rules d.parts (intervals [] 0 m) split_clear (get_or (intervals [] 0 m) (c.0 - length d.parts) Root)) false [] 0 (forest m) =
                  ap (λ (y : Interval). own (both rules d.parts (intervals [] 0 m) split_clear y) false [] 0 (forest m)) e in
                  let g = below_light n (c.0 - length d.parts) s in
                  omega (arith, w, f, g)
            ]

        light : (index : ℕ) → weight_at index 0 now ≤ limit
        light index =
            let long = length-intervals [] 0 now in
            elim (le_or index (cuts now)) [
              | inl lt ↦ of_either index (omega arith)
              | inr ge ↦ let z = weight-above index 0 now (omega arith) in omega (arith, z)
            ]
