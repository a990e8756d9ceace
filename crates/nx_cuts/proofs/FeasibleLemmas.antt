-- A tree with its intervals drawn in is a partitioning: what each interval owns weighs as its part.
use Rattle.std.proofs.Common.{◌≡◌, ℕ, zero, suc, ◌+◌, ◌-◌, ◌<◌, ◌≤◌, ◌==◌, if◌then◌else◌, Bool, true, false, IsTrue, List, [], ◌∷◌, ◌++◌, length, Option, None, Some, refl, sym, ap, ◌∙◌, arith, append_assoc, length-append, ◌⊎◌, inl, inr}
use Rattle.std.specs.List.{position, position_from, AllByRecursion}
use Rattle.std.specs.Option.{option_or}
use Rattle.std.proofs.lemmas.Bool.Decides.{nat_tests}
use Rattle.std.proofs.lemmas.List.{append_cancel_left}
use Rattle.std.proofs.lemmas.Iterator.Adapters.{position_from-zero}
use Rattle.nx_tree.specs.declared.node.Node.{Node}
use Rattle.nx_tree.specs.Forest.{Forest, Empty, Plant}
use Rattle.nx_weights.specs.Weight.{weight}
use Rattle.nx_parts.specs.declared.interval.Interval.{Interval}
use Rattle.nx_parts.specs.declared.interval.Interval.TheVariants.{Run}
use Rattle.nx_parts.specs.Partitioning as parts
use Rattle.nx_parts.specs.Partitioning.{has_member, is_child_path, holder, IsFeasible, IsPartitioning}
use Rattle.nx_parts.proofs.Owned.{is_place, owned}
use Rattle.nx_parts.proofs.OwnerLemmas.{owned_weight-walk}
use Rattle.nx_cuts.specs.Cut.{CutForest, Bare, Grown, Kept, CutTree, joined, forest, width, intervals, cuts, part_weight, AreFree, AreParts, tree_of, parts_of}
use Rattle.nx_cuts.proofs.PairLemmas.{both, weaker}

-- the path leads to one of the trees at these positions below that one, or into it
abbrev pub Reaches : List ℕ → ℕ → ℕ → List ℕ → Type 0
Reaches path low high q = (p : ℕ) × (rest : List ℕ) × (q ≡ path ++ p ∷ rest) × (low ≤ p) × (p < high)

pub no_truth : false ≡ true → ⊥
no_truth h = cc

-- the members of an interval are children at its positions
pub child_reaches : (parent : List ℕ) (first last : ℕ) (q : List ℕ) → IsTrue (is_child_path parent first last q) → (p : ℕ) × (q ≡ parent ++ p ∷ []) × (first ≤ p) × (p ≤ last)
child_reaches [] first last [] h = absurd (no_truth h)
child_reaches [] first last (p ∷ []) h =
    let a : first ≤ p = grind (arith, nat_tests) in let b : p ≤ last = grind (arith, nat_tests) in (p, refl, a, b)
child_reaches [] first last (p ∷ next ∷ rest) h = absurd (no_truth h)
child_reaches (step ∷ parent) first last [] h = absurd (no_truth h)
child_reaches (step ∷ parent) first last (p ∷ q) h =
    let e : step ≡ p = grind (arith, nat_tests) in
    let k : IsTrue (is_child_path parent first last q) = grind (arith, nat_tests) in
    let r = child_reaches parent first last q k in
    (r.0, ap (λ l. p ∷ l) r.1 ∙ ap (λ s. s ∷ parent ++ r.0 ∷ []) (sym e), r.2, r.3)

-- and the other way round
pub reaches_child : (parent : List ℕ) (first last p : ℕ) → first ≤ p → p ≤ last → is_child_path parent first last (parent ++ p ∷ []) ≡ true
reaches_child [] first last p a b = grind (arith, nat_tests)
reaches_child (step ∷ parent) first last p a b = let h = reaches_child parent first last p a b in grind (arith, nat_tests)

abbrev pub Members : (List ℕ → Type 0) → List Interval → Type 0
Members P xs = AllByRecursion (λ x. (q : List ℕ) → IsTrue (has_member x q) → P q) xs

members-weaker : {P : List ℕ → Type 0} (Q : List ℕ → Type 0) (xs : List Interval) → ((q : List ℕ) → P q → Q q) → Members P xs → Members Q xs
members-weaker Q xs f a = weaker (λ x. (q : List ℕ) → IsTrue (has_member x q) → Q q) xs (λ x m q t. f q (m q t)) a

pub further : (path : List ℕ) (position low high : ℕ) (q : List ℕ) → Reaches (path ++ position ∷ []) low high q → (p : ℕ) × (rest : List ℕ) × (q ≡ path ++ position ∷ p ∷ rest)
further path position low high q r = (r.0, r.1, r.2 ∙ append_assoc path (position ∷ []) (r.0 ∷ r.1))

-- the members of the intervals below a node stand where the trees do
pub members_reach : (k : ℕ) (path : List ℕ) (position : ℕ) (c : CutForest) → AreParts k c → Members (Reaches path position (position + width c)) (intervals path position c)
members_reach k path position Bare h = tt
members_reach k path position (Grown n b s) h =
    both _ (intervals (path ++ position ∷ []) 0 b) (intervals path (position + 1) s)
    (members-weaker _ (intervals (path ++ position ∷ []) 0 b) (λ q r. let f = further path position 0 (0 + width b) q r in (position, f.0 ∷ f.1, f.2, omega arith, omega arith)) (members_reach k (path ++ position ∷ []) 0 b h.0))
    (members-weaker _ (intervals path (position + 1) s) (λ q r. (r.0, r.1, r.2, (let x = r.3 in omega arith), (let x = r.4 in omega arith))) (members_reach k path (position + 1) s h.1))
members_reach k path position (Kept u m s) h = (
  (λ q t. let r = child_reaches path position (position + width m - 1) q t in let w = h.0 in (r.0, [], r.1, r.2, (let x = r.3 in omega arith))),
  both _ (intervals path position m) (intervals path (position + width m) s)
      (members-weaker _ (intervals path position m) (λ q r. (r.0, r.1, r.2, r.3, (let x = r.4 in omega arith))) (members_reach k path position m h.3))
      (members-weaker _ (intervals path (position + width m) s) (λ q r. (r.0, r.1, r.2, (let x = r.3 in omega arith), (let x = r.4 in omega arith))) (members_reach k path (position + width m) s h.4)),
)

-- below free trees they stand deeper
pub free_deeper : (k : ℕ) (path : List ℕ) (position : ℕ) (c : CutForest) → AreParts k c → AreFree c → Members (λ q. (p : ℕ) × (next : ℕ) × (rest : List ℕ) × (q ≡ path ++ p ∷ next ∷ rest) × (position ≤ p)) (intervals path position c)
free_deeper k path position Bare h f = tt
free_deeper k path position (Grown n b s) h f =
    both _ (intervals (path ++ position ∷ []) 0 b) (intervals path (position + 1) s)
    (members-weaker _ (intervals (path ++ position ∷ []) 0 b) (λ q r. let g = further path position 0 (0 + width b) q r in (position, g.0, g.1, g.2, omega arith)) (members_reach k (path ++ position ∷ []) 0 b h.0))
    (members-weaker _ (intervals path (position + 1) s) (λ q r. (r.0, r.1, r.2, r.3, (let x = r.4 in omega arith))) (free_deeper k path (position + 1) s h.1 f))
free_deeper k path position (Kept u m s) h f = absurd f

pub length-intervals : (path : List ℕ) (position : ℕ) (c : CutForest) → length (intervals path position c) ≡ cuts c
length-intervals path position Bare = refl
length-intervals path position (Grown n b s) = omega (arith, length-append (intervals (path ++ position ∷ []) 0 b) (intervals path (position + 1) s), length-intervals (path ++ position ∷ []) 0 b, length-intervals path (position + 1) s)
length-intervals path position (Kept u m s) = omega (arith, length-append (intervals path position m) (intervals path (position + width m) s), length-intervals path position m, length-intervals path (position + width m) s)

-- the interval that has the path as a member, counted from a number on
abbrev pub from : List ℕ → ℕ → List Interval → Option ℕ
from q base xs = position_from (λ x. has_member x q) base xs

or_if : (b : Bool) (i : ℕ) (o p r : Option ℕ) → o ≡ option_or p r → (if b then Some i else o) ≡ option_or (if b then Some i else p) r
or_if true i o p r e = refl
or_if false i o p r e = e

from-append : (q : List ℕ) (base : ℕ) (xs ys : List Interval) → from q base (xs ++ ys) ≡ option_or (from q base xs) (from q (base + length xs) ys)
from-append q base [] ys = ap (λ i. from q i ys) (let e : base ≡ base + 0 = omega arith in e)
from-append q base (x ∷ xs) ys = or_if (has_member x q) base _ _ _ (from-append q (base + 1) xs ys ∙ ap (λ i. option_or (from q (base + 1) xs) (from q i ys)) (let e : base + 1 + length xs ≡ base + suc (length xs) = omega arith in e))

none_if : (b : Bool) (i : ℕ) (o : Option ℕ) → (b ≡ true → ⊥) → o ≡ None → (if b then Some i else o) ≡ None
none_if true i o n e = absurd (n refl)
none_if false i o n e = e

-- a path that no member has is held by none
from-none : (P : List ℕ → Type 0) (q : List ℕ) (base : ℕ) (xs : List Interval) → Members P xs → (P q → ⊥) → from q base xs ≡ None
from-none P q base [] a n = refl
from-none P q base (x ∷ xs) a n = none_if (has_member x q) base _ (λ t. n (a.0 q t)) (from-none P q (base + 1) xs a.1 n)

abbrev pub top : List ℕ → Option ℕ → Option ℕ
top [] here = here
top (p ∷ rest) here = None

-- Within these positions the intervals are those of the list, counted from a number on, and else the top trees are in one.
abbrev pub Agrees : (List ℕ → Option ℕ) → Option ℕ → ℕ → List ℕ → ℕ → CutForest → Type 0
Agrees h here base path position c = (p : ℕ) (rest : List ℕ) → position ≤ p → p < position + width c → h (path ++ p ∷ rest) ≡ option_or (from (path ++ p ∷ rest) base (intervals path position c)) (top rest here)

-- the same, tree by tree
abbrev pub IsDrawn : (List ℕ → Option ℕ) → Option ℕ → ℕ → List ℕ → ℕ → CutForest → Type 0
IsDrawn h here base path position Bare = Unit {0}
IsDrawn h here base path position (Grown n b s) = (h (path ++ position ∷ []) ≡ here) × IsDrawn h None base (path ++ position ∷ []) 0 b × IsDrawn h here (base + cuts b) path (position + 1) s
IsDrawn h here base path position (Kept u m s) = IsDrawn h (Some base) (base + 1) path position m × IsDrawn h here (base + 1 + cuts m) path (position + width m) s

-- what the interval with that number has
abbrev pub weight_at : ℕ → ℕ → CutForest → ℕ
weight_at index base Bare = 0
weight_at index base (Grown n b s) = weight_at index base b + weight_at index (base + cuts b) s
weight_at index base (Kept u m s) = (if base == index then part_weight m else 0) + weight_at index (base + 1) m + weight_at index (base + 1 + cuts m) s

abbrev pub trees : Forest → ℕ
trees Empty = 0
trees (Plant n b s) = 1 + trees s

owned-joined : (ps : List Interval) (index : ℕ) (above : Option ℕ) (path : List ℕ) (position : ℕ) (f g : Forest) → owned ps index above path position (joined f g) ≡ owned ps index above path position f + owned ps index above path (position + trees f) g
owned-joined ps index above path position Empty g = ap (λ i. owned ps index above path i g) (let e : position ≡ position + 0 = omega arith in e) ∙ (let e : owned ps index above path (position + 0) g ≡ 0 + owned ps index above path (position + 0) g = omega arith in e)
owned-joined ps index above path position (Plant n b s) g =
    let a = owned-joined ps index above path (position + 1) s g in
    let b' : owned ps index above path (position + 1 + trees s) g ≡ owned ps index above path (position + (1 + trees s)) g = ap (λ i. owned ps index above path i g) (let e : position + 1 + trees s ≡ position + (1 + trees s) = omega arith in e) in
    omega (arith, a, b')

pub trees-joined : (f g : Forest) → trees (joined f g) ≡ trees f + trees g
trees-joined Empty g = omega arith
trees-joined (Plant n b s) g = omega (arith, trees-joined s g)

pub trees-forest : (c : CutForest) → trees (forest c) ≡ width c
trees-forest Bare = refl
trees-forest (Grown n b s) = omega (arith, trees-forest s)
trees-forest (Kept u m s) = omega (arith, trees-joined (forest m) (forest s), trees-forest m, trees-forest s)

or_none : (o : Option ℕ) → option_or None o ≡ o
or_none o = refl

if_sum : (b : Bool) (x y z u v w : ℕ) → u ≡ (if b then x else 0) → v ≡ (if b then y else 0) → w ≡ (if b then z else 0) → u + v + w ≡ (if b then x + y + z else 0)
if_sum true x y z u v w a b c = omega arith
if_sum false x y z u v w a b c = omega arith

no_weight : (b : Bool) → ◌≡◌ {A = ℕ} (if b then 0 else 0) 0
no_weight true = refl
no_weight false = refl

-- what an interval owns of a forest: what is left at the top, where that is its own, and its part
pub owned-drawn : (ps : List Interval) (index : ℕ) (here above : Option ℕ) (base : ℕ) (path : List ℕ) (position : ℕ) (c : CutForest) → IsDrawn (holder ps) here base path position c
    → owned ps index above path position (forest c) ≡ (if is_place index (option_or here above) then part_weight c else 0) + weight_at index base c
owned-drawn ps index here above base path position Bare d = let e = no_weight (is_place index (option_or here above)) in omega (arith, e)
owned-drawn ps index here above base path position (Grown n b s) d =
    let mine : Bool = is_place index (option_or here above) in
    let x : (if is_place index (option_or (holder ps (path ++ position ∷ [])) above) then weight n else 0) ≡ (if is_place index (option_or here above) then weight n else 0) = ap (λ (o : Option ℕ). if is_place index (option_or o above) then weight n else 0) d.0 in
    let y : owned ps index (option_or (holder ps (path ++ position ∷ [])) above) (path ++ position ∷ []) 0 (forest b) ≡ (if is_place index (option_or here above) then part_weight b else 0) + weight_at index base b =
    ap (λ (o : Option ℕ). owned ps index (option_or o above) (path ++ position ∷ []) 0 (forest b)) d.0 ∙ owned-drawn ps index None (option_or here above) base (path ++ position ∷ []) 0 b d.1 in
    let z = owned-drawn ps index here above (base + cuts b) path (position + 1) s d.2 in
    let w = if_sum (is_place index (option_or here above)) (weight n) (part_weight b) (part_weight s) _ _ _ refl refl refl in
    omega (arith, x, y, z, w)
owned-drawn ps index here above base path position (Kept u m s) d =
    let x = owned-joined ps index above path position (forest m) (forest s) in
    let y : owned ps index above path position (forest m) ≡ (if base == index then part_weight m else 0) + weight_at index (base + 1) m = owned-drawn ps index (Some base) above (base + 1) path position m d.0 in
    let t : owned ps index above path (position + trees (forest m)) (forest s) ≡ owned ps index above path (position + width m) (forest s) = ap (λ i. owned ps index above path (position + i) (forest s)) (trees-forest m) in
    let z = owned-drawn ps index here above (base + 1 + cuts m) path (position + width m) s d.1 in
    omega (arith, x, y, t, z)

eq_if : (b : Bool) (x k : ℕ) → x ≤ k → (if b then x else 0) ≤ k
eq_if true x k h = h
eq_if false x k h = omega arith

pub other_if : (m n x : ℕ) → (m ≡ n → ⊥) → (if m == n then x else 0) ≡ 0
other_if m n x h = grind (arith, nat_tests)

pub weight-below : (index base : ℕ) (c : CutForest) → index < base → weight_at index base c ≡ 0
weight-below index base Bare h = refl
weight-below index base (Grown n b s) h = omega (arith, weight-below index base b h, weight-below index (base + cuts b) s (omega arith))
weight-below index base (Kept u m s) h = omega (arith, other_if base index (part_weight m) (λ e. omega arith), weight-below index (base + 1) m (omega arith), weight-below index (base + 1 + cuts m) s (omega arith))

pub weight-above : (index base : ℕ) (c : CutForest) → base + cuts c ≤ index → weight_at index base c ≡ 0
weight-above index base Bare h = refl
weight-above index base (Grown n b s) h = omega (arith, weight-above index base b (omega arith), weight-above index (base + cuts b) s (omega arith))
weight-above index base (Kept u m s) h = omega (arith, other_if base index (part_weight m) (λ e. omega arith), weight-above index (base + 1) m (omega arith), weight-above index (base + 1 + cuts m) s (omega arith))

pub le_or : (a b : ℕ) → (a < b) ⊎ (b ≤ a)
le_or a b = grind arith

pub weight-light : (k index base : ℕ) (c : CutForest) → AreParts k c → weight_at index base c ≤ k
weight-light k index base Bare h = omega arith
weight-light k index base (Grown n b s) h =
    elim (le_or index (base + cuts b)) [
      | inl l ↦ let x = weight-light k index base b h.0 in let y = weight-below index (base + cuts b) s l in omega (arith, x, y)
      | inr l ↦ let x = weight-above index base b l in let y = weight-light k index (base + cuts b) s h.1 in omega (arith, x, y)
    ]
weight-light k index base (Kept u m s) h =
    elim (le_or index base) [
      | inl l ↦ let x = weight-below index base (Kept u m s) l in omega (arith, x)
      | inr l ↦ elim (le_or index (base + 1)) [
        | inl e ↦ let x = eq_if (base == index) (part_weight m) k h.2 in let y = weight-below index (base + 1) m e in let z = weight-below index (base + 1 + cuts m) s (omega arith) in omega (arith, x, y, z)
        | inr e ↦ let x = other_if base index (part_weight m) (λ w. omega arith) in elim (le_or index (base + 1 + cuts m)) [
          | inl f ↦ let y = weight-light k index (base + 1) m h.3 in let z = weight-below index (base + 1 + cuts m) s f in omega (arith, x, y, z)
          | inr f ↦ let y = weight-above index (base + 1) m f in let z = weight-light k index (base + 1 + cuts m) s h.4 in omega (arith, x, y, z)
        ]
      ]
    ]

pub deeper : (path : List ℕ) (a b c : ℕ) (rest : List ℕ) → path ++ a ∷ [] ≡ path ++ b ∷ c ∷ rest → ⊥
deeper path a b c rest e = let f = append_cancel_left path (a ∷ []) (b ∷ c ∷ rest) e in cc

pub same_step : (path : List ℕ) (a b : ℕ) (r t : List ℕ) → path ++ a ∷ r ≡ path ++ b ∷ t → a ≡ b
same_step path a b r t e = let f = append_cancel_left path (a ∷ r) (b ∷ t) e in cc

pub or_nothing : (o : Option ℕ) → option_or o None ≡ o
or_nothing None = refl
or_nothing (Some x) = refl

pub top_nothing : (rest : List ℕ) → top rest None ≡ None
top_nothing [] = refl
top_nothing (p ∷ rest) = refl

false_if : (b : Bool) → (b ≡ true → ⊥) → b ≡ false
false_if true n = absurd (n refl)
false_if false n = refl

-- only the first of two lists has it
first_of_two : (P : List ℕ → Type 0) (q : List ℕ) (base : ℕ) (xs ys : List Interval) → Members P ys → (P q → ⊥) → from q base (xs ++ ys) ≡ from q base xs
first_of_two P q base xs ys m n = from-append q base xs ys ∙ ap (option_or (from q base xs)) (from-none P q (base + length xs) ys m n) ∙ or_nothing (from q base xs)

second_of_two : (P : List ℕ → Type 0) (q : List ℕ) (base n : ℕ) (xs ys : List Interval) → Members P xs → (P q → ⊥) → length xs ≡ n → from q base (xs ++ ys) ≡ from q (base + n) ys
second_of_two P q base n xs ys m f e = from-append q base xs ys ∙ ap (λ o. option_or o (from q (base + length xs) ys)) (from-none P q base xs m f) ∙ ap (λ i. from q (base + i) ys) e

drawn_top : (k : ℕ) (h : List ℕ → Option ℕ) (here : Option ℕ) (base : ℕ) (path : List ℕ) (position : ℕ) (n : Node) (b s : CutForest) → AreParts k b → AreParts k s
    → Agrees h here base path position (Grown n b s) → h (path ++ position ∷ []) ≡ here
drawn_top k h here base path position n b s hb hs a =
    let q = path ++ position ∷ [] in
    let x = second_of_two (Reaches (path ++ position ∷ []) 0 (0 + width b)) q base (cuts b) (intervals (path ++ position ∷ []) 0 b) (intervals path (position + 1) s) (members_reach k (path ++ position ∷ []) 0 b hb)
    (λ r. let f = further path position 0 (0 + width b) q r in deeper path position position f.0 f.1 f.2) (length-intervals (path ++ position ∷ []) 0 b) in
    let y = from-none (Reaches path (position + 1) (position + 1 + width s)) q (base + cuts b) (intervals path (position + 1) s) (members_reach k path (position + 1) s hs)
    (λ r. let e = same_step path position r.0 [] r.1 r.2 in let l = r.3 in omega arith) in
    a position [] (omega arith) (omega arith) ∙ ap (λ o. option_or o here) (x ∙ y)

drawn_below : (k : ℕ) (h : List ℕ → Option ℕ) (here : Option ℕ) (base : ℕ) (path : List ℕ) (position : ℕ) (n : Node) (b s : CutForest) → AreParts k s
    → Agrees h here base path position (Grown n b s) → Agrees h None base (path ++ position ∷ []) 0 b
drawn_below k h here base path position n b s hs a = λ p rest low high.
    let q = (path ++ position ∷ []) ++ p ∷ rest in
    let e : q ≡ path ++ position ∷ p ∷ rest = append_assoc path (position ∷ []) (p ∷ rest) in
    let x = first_of_two (Reaches path (position + 1) (position + 1 + width s)) q base (intervals (path ++ position ∷ []) 0 b) (intervals path (position + 1) s) (members_reach k path (position + 1) s hs)
    (λ r. let f = same_step path position r.0 (p ∷ rest) r.1 (sym e ∙ r.2) in let l = r.3 in omega arith) in
    ap h e ∙ a position (p ∷ rest) (omega arith) (omega arith) ∙ or_nothing _
    ∙ ap (λ w. from w base (intervals (path ++ position ∷ []) 0 b ++ intervals path (position + 1) s)) (sym e) ∙ x
    ∙ sym (ap (option_or (from q base (intervals (path ++ position ∷ []) 0 b))) (top_nothing rest) ∙ or_nothing (from q base (intervals (path ++ position ∷ []) 0 b)))

drawn_beside : (k : ℕ) (h : List ℕ → Option ℕ) (here : Option ℕ) (base : ℕ) (path : List ℕ) (position : ℕ) (n : Node) (b s : CutForest) → AreParts k b
    → Agrees h here base path position (Grown n b s) → Agrees h here (base + cuts b) path (position + 1) s
drawn_beside k h here base path position n b s hb a = λ p rest low high.
    let q = path ++ p ∷ rest in
    let x = second_of_two (Reaches (path ++ position ∷ []) 0 (0 + width b)) q base (cuts b) (intervals (path ++ position ∷ []) 0 b) (intervals path (position + 1) s) (members_reach k (path ++ position ∷ []) 0 b hb)
    (λ r. let f = further path position 0 (0 + width b) q r in let e = same_step path p position rest (f.0 ∷ f.1) f.2 in omega arith) (length-intervals (path ++ position ∷ []) 0 b) in
    a p rest (omega arith) (omega arith) ∙ ap (λ o. option_or o (top rest here)) x

skip : (b : Bool) (i : ℕ) (o : Option ℕ) → b ≡ false → (if b then Some i else o) ≡ o
skip true i o e = absurd (no_truth (sym e))
skip false i o e = refl

take_it : (b : Bool) (i : ℕ) (o : Option ℕ) → b ≡ true → (if b then Some i else o) ≡ Some i
take_it true i o e = refl
take_it false i o e = absurd (no_truth e)

kept_members : (k : ℕ) (h : List ℕ → Option ℕ) (here : Option ℕ) (base : ℕ) (path : List ℕ) (position : ℕ) (m s : CutForest) → AreParts k m → AreParts k s → AreFree m
    → Agrees h here base path position (Kept tt m s) → (p : ℕ) (rest : List ℕ) → position ≤ p → p < position + width m
    → h (path ++ p ∷ rest) ≡ option_or (from (path ++ p ∷ rest) (base + 1) (intervals path position m)) (top rest (Some base))
kept_members k h here base path position m s hm hs f a p [] low high =
    let q = path ++ p ∷ [] in
    let x = take_it (has_member (Run path position (position + width m - 1)) q) base (from q (base + 1) (intervals path position m ++ intervals path (position + width m) s)) (reaches_child path position (position + width m - 1) p low (omega arith)) in
    let y = from-none _ q (base + 1) (intervals path position m) (free_deeper k path position m hm f) (λ r. deeper path p r.0 r.1 r.2 r.3) in
    a p [] low (omega arith) ∙ ap (λ o. option_or o here) x ∙ sym (ap (λ o. option_or o (Some base)) y)
kept_members k h here base path position m s hm hs f a p (next ∷ rest) low high =
    let q = path ++ p ∷ next ∷ rest in
    let x = skip (has_member (Run path position (position + width m - 1)) q) base (from q (base + 1) (intervals path position m ++ intervals path (position + width m) s))
    (false_if (has_member (Run path position (position + width m - 1)) q) (λ t. let r = child_reaches path position (position + width m - 1) q t in deeper path r.0 p next rest (sym r.1))) in
    let y = first_of_two (Reaches path (position + width m) (position + width m + width s)) q (base + 1) (intervals path position m) (intervals path (position + width m) s) (members_reach k path (position + width m) s hs)
    (λ r. let e = same_step path p r.0 (next ∷ rest) r.1 r.2 in let l = r.3 in omega arith) in
    a p (next ∷ rest) low (omega arith) ∙ ap (λ o. option_or o None) (x ∙ y)

kept_beside : (k : ℕ) (h : List ℕ → Option ℕ) (here : Option ℕ) (base : ℕ) (path : List ℕ) (position : ℕ) (m s : CutForest) → AreParts k m → 1 ≤ width m
    → Agrees h here base path position (Kept tt m s) → Agrees h here (base + 1 + cuts m) path (position + width m) s
kept_beside k h here base path position m s hm w a = λ p rest low high.
    let q = path ++ p ∷ rest in
    let x = skip (has_member (Run path position (position + width m - 1)) q) base (from q (base + 1) (intervals path position m ++ intervals path (position + width m) s))
    (false_if (has_member (Run path position (position + width m - 1)) q) (λ t. let r = child_reaches path position (position + width m - 1) q t in let e = same_step path p r.0 rest [] r.1 in let l = r.3 in omega arith)) in
    let y = second_of_two (Reaches path position (position + width m)) q (base + 1) (cuts m) (intervals path position m) (intervals path (position + width m) s) (members_reach k path position m hm)
    (λ r. let e = same_step path p r.0 rest r.1 r.2 in let l = r.4 in omega arith) (length-intervals path position m) in
    a p rest (omega arith) (omega arith) ∙ ap (λ o. option_or o (top rest here)) (x ∙ y)

pub agrees-drawn : (k : ℕ) (h : List ℕ → Option ℕ) (here : Option ℕ) (base : ℕ) (path : List ℕ) (position : ℕ) (c : CutForest) → AreParts k c → Agrees h here base path position c → IsDrawn h here base path position c
agrees-drawn k h here base path position Bare w a = tt
agrees-drawn k h here base path position (Grown n b s) w a = (
  drawn_top k h here base path position n b s w.0 w.1 a,
  agrees-drawn k h None base (path ++ position ∷ []) 0 b w.0 (drawn_below k h here base path position n b s w.1 a),
  agrees-drawn k h here (base + cuts b) path (position + 1) s w.1 (drawn_beside k h here base path position n b s w.0 a),
)
agrees-drawn k h here base path position (Kept u m s) w a = (
  agrees-drawn k h (Some base) (base + 1) path position m w.3 (kept_members k h here base path position m s w.3 w.4 w.1 a),
  agrees-drawn k h here (base + 1 + cuts m) path (position + width m) s w.4 (kept_beside k h here base path position m s w.3 w.0 a),
)

light : (k index : ℕ) (t : CutTree) → weight t.node + part_weight t.below ≤ k → AreParts k t.below → (all below : ℕ)
    → all ≡ (if is_place index (Some 0) then weight t.node else 0) + below → below ≡ (if is_place index (Some 0) then part_weight t.below else 0) + weight_at index 1 t.below → all ≤ k
light k zero t w h all below x y = let z = weight-below 0 1 t.below (omega arith) in omega (arith, x, y, z)
light k (suc index) t w h all below x y =
    let a = other_if 0 (suc index) (weight t.node) (λ e. omega arith) in
    let b = other_if 0 (suc index) (part_weight t.below) (λ e. omega arith) in
    let z = weight-light k (suc index) 1 t.below h in
    omega (arith, x, y, z, a, b)

-- no part of a tree with its intervals drawn in outweighs k
pub drawn_light : (k : ℕ) (t : CutTree) → weight t.node + part_weight t.below ≤ k → AreParts k t.below → (index : ℕ) → parts.owned_weight (tree_of t) (parts_of t) index ≤ k
drawn_light k t w h index =
    let ps = parts_of t in
    let agrees : Agrees (holder ps) None 1 [] 0 t.below = λ p rest low high. position_from-zero (λ x. has_member x (p ∷ rest)) ps ∙ sym (ap (option_or (from (p ∷ rest) 1 (intervals [] 0 t.below))) (top_nothing rest) ∙ or_nothing (from (p ∷ rest) 1 (intervals [] 0 t.below))) in
    let root : holder ps [] ≡ Some 0 = position_from-zero (λ x. has_member x []) ps in
    let x : parts.owned_weight (tree_of t) ps index ≡ (if is_place index (Some 0) then weight t.node else 0) + owned ps index (Some 0) [] 0 (forest t.below) =
    owned_weight-walk (tree_of t) ps index ∙ ap (λ (o : Option ℕ). (if is_place index o then weight t.node else 0) + owned ps index o [] 0 (forest t.below)) root in
    let y = owned-drawn ps index None (Some 0) 1 [] 0 t.below (agrees-drawn k (holder ps) None 1 [] 0 t.below h agrees) in
    light k index t w h _ _ x y
