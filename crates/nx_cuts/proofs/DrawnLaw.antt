-- Each feasible partitioning of a tree can be drawn in.
use Rattle.std.proofs.Common.{◌≡◌, ℕ, zero, suc, ◌+◌, ◌<◌, ◌≤◌, ◌==◌, nat_le, nat_lt, if◌then◌else◌, Bool, false, IsTrue, List, [], ◌∷◌, ◌++◌, length, Option, None, Some, refl, sym, ap, subst, ◌∙◌, arith, IsPermutation, AllPairs, get_or, inl, inr}
use Rattle.std.specs.List.{AllByRecursion}
use Rattle.std.specs.Option.{option_map_or, option_or}
use Rattle.std.proofs.lemmas.Bool.Decides.{nat_tests}
use Rattle.std.proofs.lemmas.List.Sorted.{IsPermutation-refl, IsPermutation-trans, IsPermutation-cons, IsPermutation-middle}
use Rattle.std.proofs.lemmas.List.Elements.{recursion_from_All}
use Rattle.std.proofs.lemmas.Iterator.Adapters.{position_from-zero}
use Rattle.nx_tree.specs.Forest.{OrderedTree, trees_of}
use Rattle.nx_tree.specs.Edit.{at}
use Rattle.nx_weights.specs.Weight.{weight, total}
use Rattle.nx_parts.specs.declared.interval.Interval.{Interval}
use Rattle.nx_parts.specs.declared.interval.Interval.TheVariants.{Root, Run}
use Rattle.nx_parts.specs.Partitioning as parts
use Rattle.nx_parts.specs.Partitioning.{has_member, ShareMember, is_in_tree, holder, IsFeasible, IsPartitioning}
use Rattle.nx_parts.proofs.Owned.{is_place, owned}
use Rattle.nx_parts.proofs.OwnerLemmas.{owned_weight-walk}
use Rattle.nx_cuts.specs.Cut.{CutForest, Bare, Grown, Kept, CutTree, forest, intervals, cuts, part_weight, AreParts, tree_of, parts_of}
use Rattle.nx_cuts.specs.Law.{IsCut}
use Rattle.nx_cuts.proofs.FeasibleLemmas.{reaches_child, weight_at, weight-above, owned-drawn, agrees-drawn, Agrees, from, le_or, or_nothing, top_nothing, length-intervals}
use Rattle.nx_cuts.proofs.PartitionLemmas.{Pairs, drawn_feasible}
use Rattle.nx_cuts.proofs.FoldLemmas.{AreRuns, all_drawn, both_true, part-total}
use Rattle.nx_cuts.proofs.WeightLemmas.{AreDistinct, same_weight}

pairs_of : (xs : List Interval) → AllPairs (λ a b. ¬ ShareMember a b) xs → Pairs xs
pairs_of [] a = tt
pairs_of (x ∷ xs) a = (recursion_from_All (λ y. ¬ ShareMember x y) xs (λ k d h. a 0 (suc k) d (omega arith) (omega arith)), pairs_of xs (λ i j d low high. a (suc i) (suc j) d (omega arith) (omega arith)))

-- the intervals but the root's
abbrev pub runs_of : List Interval → List Interval
runs_of [] = []
runs_of (Root ∷ xs) = runs_of xs
runs_of (Run parent first last ∷ xs) = Run parent first last ∷ runs_of xs

runs_are : (xs : List Interval) → AreRuns (runs_of xs)
runs_are [] = tt
runs_are (Root ∷ xs) = runs_are xs
runs_are (Run parent first last ∷ xs) = runs_are xs

runs_all : (P : Interval → Type 0) (xs : List Interval) → AllByRecursion P xs → AllByRecursion P (runs_of xs)
runs_all P [] a = tt
runs_all P (Root ∷ xs) a = runs_all P xs a.1
runs_all P (Run parent first last ∷ xs) a = (a.0, runs_all P xs a.1)

runs_pairs : (xs : List Interval) → Pairs xs → Pairs (runs_of xs)
runs_pairs [] p = tt
runs_pairs (Root ∷ xs) p = runs_pairs xs p.1
runs_pairs (Run parent first last ∷ xs) p = (runs_all (λ y. ¬ ShareMember (Run parent first last) y) xs p.0, runs_pairs xs p.1)

no_more : (xs : List Interval) → AllByRecursion (λ y. ¬ ShareMember Root y) xs → runs_of xs ≡ xs
no_more [] a = refl
no_more (Root ∷ xs) a = absurd (a.0 ([], refl, refl))
no_more (Run parent first last ∷ xs) a = ap (λ l. Run parent first last ∷ l) (no_more xs a.1)

no_run : (parent : List ℕ) (first last : ℕ) → Run parent first last ≡ Root → ⊥
no_run parent first last e = cc

root_first : (xs : List Interval) → Pairs xs → (k : ℕ) → k < length xs → get_or xs k Root ≡ Root → IsPermutation (Root ∷ runs_of xs) xs
root_first [] p k h e = absurd (omega arith)
root_first (Root ∷ xs) p k h e = subst (λ l. IsPermutation (Root ∷ l) (Root ∷ xs)) (sym (no_more xs p.0)) (IsPermutation-refl (Root ∷ xs))
root_first (Run parent first last ∷ xs) p zero h e = absurd (no_run parent first last e)
root_first (Run parent first last ∷ xs) p (suc k) h e =
    IsPermutation-trans (Root ∷ Run parent first last ∷ runs_of xs) (Run parent first last ∷ Root ∷ runs_of xs) (Run parent first last ∷ xs)
    (IsPermutation-middle (Root ∷ []) (Run parent first last) (runs_of xs))
    (IsPermutation-cons (Run parent first last) (Root ∷ runs_of xs) xs (root_first xs p.1 k (omega arith) e))

-- an interval in a tree has a member
has_one : (tree : OrderedTree) (x : Interval) → IsTrue (is_in_tree tree x) → ShareMember x x
has_one tree Root h = ([], refl, refl)
has_one tree (Run parent first last) h =
    let b = both_true (nat_le first last) (option_map_or (λ (t : OrderedTree). nat_lt last (length (trees_of t.below))) (at tree parent) false) h in
    let le : first ≤ last = let x = b.0 in grind (arith, nat_tests) in
    let m = reaches_child parent first last first (omega arith) le in
    (parent ++ first ∷ [], m, m)

pub distinct : (tree : OrderedTree) (xs : List Interval) → IsPartitioning tree xs → AreDistinct xs
distinct tree xs p = record { apart = p.disjoint; some = λ i h. has_one tree (get_or xs i Root) (p.inside i Root h) }

equal_if : (n x : ℕ) → (if n == n then x else 0) ≡ x
equal_if n x = grind (arith, nat_tests)

-- where no interval has more, no part outweighs k
light_parts : (k big base : ℕ) (c : CutForest) → AreParts big c → ((index : ℕ) → weight_at index base c ≤ k) → AreParts k c
light_parts k big base Bare h w = tt
light_parts k big base (Grown n b s) h w =
    (light_parts k big base b h.0 (λ i. let x = w i in omega arith), light_parts k big (base + cuts b) s h.1 (λ i. let x = w i in omega arith))
light_parts k big base (Kept u m s) h w =
    let x = w base in
    let e = equal_if base (part_weight m) in
    (h.0, h.1, omega arith, light_parts k big (base + 1) m h.3 (λ i. let y = w i in omega arith), light_parts k big (base + 1 + cuts m) s h.4 (λ i. let y = w i in omega arith))

-- what the interval with a number owns
pub part_is : (k : ℕ) (t : CutTree) (index : ℕ) → AreParts k t.below
    → parts.owned_weight (tree_of t) (parts_of t) index ≡ (if is_place index (Some 0) then weight t.node else 0) + ((if is_place index (Some 0) then part_weight t.below else 0) + weight_at index 1 t.below)
part_is k t index h =
    let ps = parts_of t in
    let agrees : Agrees (holder ps) None 1 [] 0 t.below = λ p rest low high. position_from-zero (λ x. has_member x (p ∷ rest)) ps ∙ sym (ap (option_or (from (p ∷ rest) 1 (intervals [] 0 t.below))) (top_nothing rest) ∙ or_nothing (from (p ∷ rest) 1 (intervals [] 0 t.below))) in
    let root : holder ps [] ≡ Some 0 = position_from-zero (λ x. has_member x []) ps in
    owned_weight-walk (tree_of t) ps index ∙ ap (λ (o : Option ℕ). (if is_place index o then weight t.node else 0) + owned ps index o [] 0 (forest t.below)) root
    ∙ ap (λ n. (if is_place index (Some 0) then weight t.node else 0) + n) (owned-drawn ps index None (Some 0) 1 [] 0 t.below (agrees-drawn k (holder ps) None 1 [] 0 t.below h agrees))

below_part : (b c : Bool) (x y z w k : ℕ) → w ≡ (if b then x else 0) + ((if c then y else 0) + z) → w ≤ k → z ≤ k
below_part b c x y z w k e h = omega arith

cut_it : (k : ℕ) (tree : OrderedTree) (ps : List Interval) → IsFeasible k tree ps → (t : CutTree) (big : ℕ) → tree_of t ≡ tree → IsPermutation (parts_of t) ps → weight t.node + part_weight t.below ≤ big → AreParts big t.below → IsCut k tree ps
cut_it k tree ps f t big same perm heavy form =
    let qs = parts_of t in
    let dq : AreDistinct qs = distinct (tree_of t) qs (drawn_feasible big t heavy form).partitioning in
    let dp = distinct tree ps f.partitioning in
    let each : (index : ℕ) → index < length qs → parts.owned_weight (tree_of t) qs index ≤ k = λ index low.
    let w = same_weight tree qs ps dq dp perm index low in let l = f.light w.0 w.1 in
    subst (λ u. parts.owned_weight u qs index ≤ k) (sym same) (let e = w.2 in omega arith) in
    let n : length (intervals [] 0 t.below) ≡ cuts t.below = length-intervals [] 0 t.below in
    let all : (index : ℕ) → weight_at index 1 t.below ≤ k = λ index.
    elim (le_or index (1 + cuts t.below)) [
      | inl l ↦ let e = each index (omega arith) in let p = part_is big t index form in
          below_part (is_place index (Some 0)) (is_place index (Some 0)) (weight t.node) (part_weight t.below) (weight_at index 1 t.below) (parts.owned_weight (tree_of t) qs index) k p e
      | inr l ↦ let z = weight-above index 1 t.below l in omega (arith, z)
    ] in
    let node : weight t.node ≡ weight tree.node = ap (λ (u : OrderedTree). weight u.node) same in
    let r = each 0 (omega arith) in
    let p = part_is big t 0 form in
    record { document = t; tree_is = same; parts_are = perm; light = light_parts k big 1 t.below form all; root_light = omega arith }

-- the law: each feasible partitioning can be drawn in
pub feasible_drawn : (k : ℕ) (tree : OrderedTree) (ps : List Interval) → IsFeasible k tree ps → IsCut k tree ps
feasible_drawn k tree ps f =
    let p = f.partitioning in
    let pairs = pairs_of ps p.disjoint in
    let big = weight tree.node + total tree.below in
    let d = all_drawn big tree (runs_of ps) (omega arith) (runs_all (λ x. IsTrue (is_in_tree tree x)) ps (recursion_from_All (λ x. IsTrue (is_in_tree tree x)) ps p.inside)) (runs_pairs ps pairs) (runs_are ps) in
    let t : CutTree = record { node = tree.node; below = d.below } in
    let perm = IsPermutation-trans (parts_of t) (Root ∷ runs_of ps) ps (IsPermutation-cons Root (intervals [] 0 d.below) (runs_of ps) d.drawn) (root_first ps pairs p.rooted.0 p.rooted.1 p.rooted.2) in
    let w = part-total d.below in
    let e = ap total d.same in
    cut_it k tree ps f t big (ap (λ g. let z : OrderedTree = record { node = tree.node; below = g } in z) d.same) perm (omega arith) d.form
