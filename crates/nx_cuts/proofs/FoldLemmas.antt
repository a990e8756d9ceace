-- A partitioning, drawn in.
use Rattle.std.proofs.Common.{◌≡◌, ℕ, zero, suc, ◌+◌, ◌-◌, ◌<◌, ◌≤◌, nat_lt, nat_le, if◌then◌else◌, Bool, true, false, IsTrue, List, [], ◌∷◌, ◌++◌, length, Option, None, Some, refl, sym, ap, subst, ◌∙◌, arith, IsPermutation, ◌&&◌}
use Rattle.std.specs.List.{AllByRecursion}
use Rattle.std.specs.Option.{option_map_or}
use Rattle.std.proofs.lemmas.Bool.Decides.{nat_tests}
use Rattle.std.proofs.lemmas.List.Sorted.{IsPermutation-refl, IsPermutation-trans, IsPermutation-cons, IsPermutation-sym, All-permutation}
use Rattle.std.proofs.lemmas.List.Elements.{All-from_recursion, recursion_from_All}
use Rattle.nx_tree.specs.Forest.{Forest, Empty, Plant, OrderedTree, trees_of}
use Rattle.nx_tree.specs.Edit.{at}
use Rattle.nx_weights.specs.Weight.{weight, total}
use Rattle.nx_parts.specs.declared.interval.Interval.{Interval}
use Rattle.nx_parts.specs.declared.interval.Interval.TheVariants.{Root, Run}
use Rattle.nx_parts.specs.Partitioning.{ShareMember, is_in_tree}
use Rattle.nx_cuts.specs.Cut.{CutForest, Bare, Grown, Kept, CutTree, joined, forest, width, intervals, part_weight, AreFree, AreParts, tree_of}
use Rattle.nx_cuts.specs.Rows.{first, behind, changed_row}
use Rattle.nx_cuts.proofs.Draw.{wrapped, drawn, AtRow, IsFreeAt, IsFreeRun, BeginsFree}
use Rattle.nx_cuts.proofs.FeasibleLemmas.{trees}
use Rattle.nx_cuts.proofs.DrawLemmas.{forest-wrapped, width-first}
use Rattle.nx_cuts.proofs.DeepLemmas.{drawn_adds, member_row, beside_row, width-changed}
use Rattle.nx_cuts.proofs.FreeLemmas.{free_at, IsApart}
use Rattle.nx_cuts.proofs.PartitionLemmas.{Pairs, length-trees}

-- the forest without intervals
abbrev pub plain : Forest → CutForest
plain Empty = Bare
plain (Plant n b s) = Grown n (plain b) (plain s)

forest-plain : (f : Forest) → forest (plain f) ≡ f
forest-plain Empty = refl
forest-plain (Plant n b s) = ap (λ g. Plant n g (forest (plain s))) (forest-plain b) ∙ ap (Plant n b) (forest-plain s)

intervals-plain : (path : List ℕ) (position : ℕ) (f : Forest) → intervals path position (plain f) ≡ []
intervals-plain path position Empty = refl
intervals-plain path position (Plant n b s) = ap (λ l. l ++ intervals path (position + 1) (plain s)) (intervals-plain (path ++ position ∷ []) 0 b) ∙ intervals-plain path (position + 1) s

parts-plain : (k : ℕ) (f : Forest) → AreParts k (plain f)
parts-plain k Empty = tt
parts-plain k (Plant n b s) = (parts-plain k b, parts-plain k s)

total-joined : (f g : Forest) → total (joined f g) ≡ total f + total g
total-joined Empty g = omega arith
total-joined (Plant n b s) g = omega (arith, total-joined s g)

pub part-total : (c : CutForest) → part_weight c ≤ total (forest c)
part-total Bare = omega arith
part-total (Grown n b s) = omega (arith, part-total b, part-total s)
part-total (Kept u m s) = omega (arith, part-total s, total-joined (forest m) (forest s))

-- the first trees of a row, and the others
free_first : (n : ℕ) (c : CutForest) → BeginsFree n c → AreFree (first n c)
free_first zero c f = tt
free_first (suc n) Bare f = absurd f
free_first (suc n) (Grown x b s) f = free_first n s f
free_first (suc n) (Kept u m s) f = absurd f

parts_first : (k n : ℕ) (c : CutForest) → BeginsFree n c → AreParts k c → AreParts k (first n c) × AreParts k (behind n c)
parts_first k zero c f h = (tt, h)
parts_first k (suc n) Bare f h = absurd f
parts_first k (suc n) (Grown x b s) f h = let r = parts_first k n s f h.1 in ((h.0, r.0), r.1)
parts_first k (suc n) (Kept u m s) f h = absurd f

weight_first : (n : ℕ) (c : CutForest) → BeginsFree n c → part_weight (first n c) + part_weight (behind n c) ≡ part_weight c
weight_first zero c f = omega arith
weight_first (suc n) Bare f = absurd f
weight_first (suc n) (Grown x b s) f = omega (arith, weight_first n s f)
weight_first (suc n) (Kept u m s) f = absurd f

-- what a change keeps: the tree, the form of the parts, and what it leaves above is no more
pub record KeepsParts (k : ℕ) (old new : CutForest) : Type 0 where
  pub same : forest new ≡ forest old
  pub parts : AreParts k new
  pub less : part_weight new ≤ part_weight old

wrapped_keeps : (k from count : ℕ) (c : CutForest) → 1 ≤ count → IsFreeRun from count c → total (forest c) ≤ k → AreParts k c → KeepsParts k c (wrapped from count c)
wrapped_keeps k zero count c o f t h =
    let r = parts_first k count c f h in let w = weight_first count c f in let p = part-total c in let x = width-first count c f in
    record { same = forest-wrapped zero count c f; parts = (omega arith, free_first count c f, omega arith, r.0, r.1); less = omega arith }
wrapped_keeps k (suc from) count Bare o f t h = absurd f
wrapped_keeps k (suc from) count (Grown n b s) o f t h =
    let r = wrapped_keeps k from count s o f (omega arith) h.1 in let l = r.less in
    record { same = ap (Plant n (forest b)) r.same; parts = (h.0, r.parts); less = omega arith }
wrapped_keeps k (suc from) count (Kept u m s) o f t h =
    let j = total-joined (forest m) (forest s) in
    let r = wrapped_keeps k (suc from - width m) count s o f.1 (omega arith) h.4 in
    record { same = ap (joined (forest m)) r.same; parts = (h.0, h.1, h.2, h.3, r.parts); less = r.less }

abbrev pub Keeps : ℕ → (CutTree → CutTree) → (CutForest → Type 0) → Type 0
Keeps k change Q = (t : CutTree) → Q t.below → total (forest t.below) ≤ k → AreParts k t.below → ((change t).node ≡ t.node) × KeepsParts k t.below (change t).below

free_changed : (p : ℕ) (change : CutTree → CutTree) (c : CutForest) → AreFree c → AreFree (changed_row p change c)
free_changed p change Bare f = tt
free_changed zero change (Grown n b s) f = f
free_changed (suc p) change (Grown n b s) f = free_changed p change s f
free_changed p change (Kept u m s) f = absurd f

kept_keeps : (k : ℕ) (change : CutTree → CutTree) (p : ℕ) (u : Unit {0}) (m s : CutForest) (t : Bool) → AreParts k (Kept u m s)
    → (t ≡ true → KeepsParts k m (changed_row p change m)) → (t ≡ false → KeepsParts k s (changed_row (p - width m) change s))
    → KeepsParts k (Kept u m s) (if t then Kept u (changed_row p change m) s else Kept u m (changed_row (p - width m) change s))
kept_keeps k change p u m s true h a b =
    let r = a refl in let l = r.less in let w = width-changed p change m in let x = h.0 in let y = h.2 in
    record { same = ap (λ g. joined g (forest s)) r.same; parts = (omega arith, free_changed p change m h.1, omega arith, r.parts, h.4); less = omega arith }
kept_keeps k change p u m s false h a b =
    let r = b refl in
    record { same = ap (joined (forest m)) r.same; parts = (h.0, h.1, h.2, h.3, r.parts); less = r.less }

row_keeps : (k : ℕ) (change : CutTree → CutTree) (Q : CutForest → Type 0) → Keeps k change Q → (p : ℕ) (c : CutForest) → AtRow p Q c → total (forest c) ≤ k → AreParts k c → KeepsParts k c (changed_row p change c)
row_keeps k change Q w p Bare a t h = absurd a
row_keeps k change Q w zero (Grown n b s) a t h =
    let r = w (record { node = n; below = b }) a (omega arith) h.0 in
    let l = r.1.less in
    let e : weight (change (record { node = n; below = b })).node ≡ weight n = ap weight r.0 in
    record { same = ap (λ x. Plant x (forest (change (record { node = n; below = b })).below) (forest s)) r.0 ∙ ap (λ g. Plant n g (forest s)) r.1.same; parts = (r.1.parts, h.1); less = omega arith }
row_keeps k change Q w (suc p) (Grown n b s) a t h =
    let r = row_keeps k change Q w p s a (omega arith) h.1 in let l = r.less in
    record { same = ap (Plant n (forest b)) r.same; parts = (h.0, r.parts); less = omega arith }
row_keeps k change Q w p (Kept u m s) a t h =
    let j = total-joined (forest m) (forest s) in
    kept_keeps k change p u m s (nat_lt p (width m)) h
    (λ e. row_keeps k change Q w p m (member_row Q p m s (nat_lt p (width m)) e a) (omega arith) h.3)
    (λ e. row_keeps k change Q w (p - width m) s (beside_row Q p m s (nat_lt p (width m)) e a) (omega arith) h.4)

pub drawn_keeps : (k : ℕ) (path : List ℕ) (from count : ℕ) → 1 ≤ count → Keeps k (drawn path from count) (IsFreeAt path from count)
drawn_keeps k [] from count o = λ t a w h. (refl, wrapped_keeps k from count t.below o a w h)
drawn_keeps k (step ∷ path) from count o = λ t a w h. (refl, row_keeps k (drawn path from count) (IsFreeAt path from count) (drawn_keeps k path from count o) step t.below a w h)

-- no root among these intervals
abbrev pub AreRuns : List Interval → Type 0
AreRuns [] = Unit {0}
AreRuns (Root ∷ xs) = ⊥
AreRuns (Run parent first last ∷ xs) = AreRuns xs

found : (o : Option OrderedTree) (last : ℕ) → option_map_or (λ (t : OrderedTree). nat_lt last (length (trees_of t.below))) o false ≡ true → (u : OrderedTree) × (o ≡ Some u) × (last < trees u.below)
found None last h = cc
found (Some u) last h = (u, refl, (let e = length-trees u.below in grind (arith, nat_tests)))

pub both_true : (a b : Bool) → a && b ≡ true → (a ≡ true) × (b ≡ true)
both_true true b h = (refl, h)
both_true false b h = cc

-- a forest with just these intervals drawn in
pub record IsDrawing (k : ℕ) (tree : OrderedTree) (parts : List Interval) : Type 0 where
  pub below : CutForest
  pub same : forest below ≡ tree.below
  pub form : AreParts k below
  pub drawn : IsPermutation (intervals [] 0 below) parts

one_more : (k : ℕ) (tree : OrderedTree) (parent : List ℕ) (a l : ℕ) (rest : List Interval) → total tree.below ≤ k → IsTrue (is_in_tree tree (Run parent a l)) → IsApart (Run parent a l) rest → IsDrawing k tree rest → IsDrawing k tree (Run parent a l ∷ rest)
one_more k tree parent a l rest w inside apart d =
    let b = both_true (nat_le a l) (option_map_or (λ (t : OrderedTree). nat_lt l (length (trees_of t.below))) (at tree parent) false) inside in
    let le : a ≤ l = let x = b.0 in grind (arith, nat_tests) in
    let u = found (at tree parent) l b.1 in
    let count = l + 1 - a in
    let t : CutTree = record { node = tree.node; below = d.below } in
    let same : tree_of t ≡ tree = ap (λ f. let z : OrderedTree = record { node = tree.node; below = f } in z) d.same in
    let up = u.2 in
    let away : IsApart (Run parent a l) (intervals [] 0 d.below) = recursion_from_All (λ x. ¬ ShareMember (Run parent a l) x) (intervals [] 0 d.below) (All-permutation (λ x. ¬ ShareMember (Run parent a l) x) rest (intervals [] 0 d.below) (IsPermutation-sym (intervals [] 0 d.below) rest d.drawn) (All-from_recursion (λ x. ¬ ShareMember (Run parent a l) x) rest apart)) in
    let free : IsFreeAt parent a count d.below = free_at k parent u.0 a count a l refl (omega arith) (omega arith) (omega arith) [] t d.form (ap (λ q. at q parent) same ∙ u.1) away in
    let small : total (forest d.below) ≤ k = let e = ap total d.same in omega arith in
    let kept = drawn_keeps k parent a count (omega arith) t free small d.form in
    let new = drawn_adds parent a count [] t free in
    let end : a + count - 1 ≡ l = omega arith in
    record {
      below = (drawn parent a count t).below;
      same = kept.1.same ∙ d.same;
      form = kept.1.parts;
      drawn = IsPermutation-trans _ (Run parent (a) (a + count - 1) ∷ intervals [] 0 d.below) (Run parent a l ∷ rest) new
          (subst (λ i. IsPermutation (Run parent a (a + count - 1) ∷ intervals [] 0 d.below) (Run parent a i ∷ rest)) end (IsPermutation-cons (Run parent a (a + count - 1)) (intervals [] 0 d.below) rest d.drawn));
    }

pub all_drawn : (k : ℕ) (tree : OrderedTree) (parts : List Interval) → total tree.below ≤ k → AllByRecursion (λ x. IsTrue (is_in_tree tree x)) parts → Pairs parts → AreRuns parts → IsDrawing k tree parts
all_drawn k tree [] w i p r = record { below = plain tree.below; same = forest-plain tree.below; form = parts-plain k tree.below; drawn = subst (λ l. IsPermutation l []) (sym (intervals-plain [] 0 tree.below)) (IsPermutation-refl []) }
all_drawn k tree (Root ∷ rest) w i p r = absurd r
all_drawn k tree (Run parent a l ∷ rest) w i p r = one_more k tree parent a l rest w i.0 p.0 (all_drawn k tree rest w i.1 p.1 r)
