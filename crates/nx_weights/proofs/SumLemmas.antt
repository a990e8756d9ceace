-- The sums of weights, and the list of them as it grows.
use Rattle.std.specs.Int.{div_ceil}
use Rattle.std.proofs.Common.{◌≡◌, ℕ, ◌+◌, ◌*◌, ◌<◌, ◌≤◌, nat_le, Bool, true, false, if◌then◌else◌, List, [], ◌∷◌, ◌++◌, length, drop, inl, inr, refl, sym, ap, ◌∙◌, subst, arith, append_assoc, slice_set}
use Rattle.std.proofs.lemmas.Bool.{cases_lt}
use Rattle.std.proofs.lemmas.Bool.Decides.{nat_tests}
use Rattle.std.proofs.lemmas.List.{append-nil, length-append}
use Rattle.std.proofs.Math.Seq.{set-append_seam}
use Rattle.nx_tree.specs.declared.node.Node.{Node}
use Rattle.nx_tree.specs.Forest.{OrderedTree, Forest, Empty, Plant, forest_of, nodes}
use Rattle.nx_weights.specs.Weight.{longest_near, counted, weight, weight_of, total, weights_in, tree_weight, tree_weights, IsShort, AreShort, IsWithinLimits}

-- a content counts for all of its bytes where it stands beside its node
pub counted_near : (content : ℕ) → content ≤ longest_near → counted content ≡ content
unfolding counted
counted_near content near =
    let e : nat_le content longest_near ≡ true = grind (arith, nat_tests) in
    subst (λ (b : Bool). (if b then content else 8) ≡ content) (sym e) refl

-- and else for 8
pub counted_far : (content : ℕ) → longest_near < content → counted content ≡ 8
unfolding counted
counted_far content far =
    let e : nat_le content longest_near ≡ false = grind (arith, nat_tests) in
    subst (λ (b : Bool). (if b then content else 8) ≡ 8) (sym e) refl

-- so for no more than its bytes
pub counted_most : (content : ℕ) → counted content ≤ content
counted_most content = elim (cases_lt longest_near content) [
  | inl far ↦ omega (arith, counted_far content far)
  | inr near ↦ omega (arith, counted_near content near)
]

-- a node counts for one slot at least
pub weight_least : (n : Node) → 1 ≤ weight n
weight_least n = omega arith

-- and no more than one and those that its name and its content fill together
pub weight_of_most : (name content : ℕ) → weight_of name content ≤ 1 + div_ceil (name + content) 8
weight_of_most name content = omega (arith, counted_most content)

pub weight_most : (n : Node) → IsShort n → weight n ≤ 131073
weight_most n h = omega (arith, weight_of_most (length n.name) (length n.content))

pub total_most : (f : Forest) → AreShort f → total f ≤ 131073 * nodes f
total_most Empty h = omega arith
total_most (Plant n b s) h = omega (arith, weight_most n h.0, total_most b h.1, total_most s h.2)

pub tree_weight_most : (t : OrderedTree) → IsWithinLimits t → tree_weight t ≤ 131073 * 524288
tree_weight_most t h = let few = h.few in omega (arith, weight_most t.node h.short, total_most t.below h.all_short)

-- the sum so far and the list so far, where the trees from an index on are left
pub record SumsUp (so_far i : ℕ) (now old : List ℕ) (ts : List OrderedTree) (tree : OrderedTree) : Type 0 where
  pub sum : so_far + total (forest_of (drop i ts)) ≡ tree_weight tree
  pub weights : now ++ weights_in (forest_of (drop i ts)) ≡ old ++ weight tree.node ∷ weights_in tree.below

pub sums_start : (w : ℕ) (old now : List ℕ) (ts : List OrderedTree) (tree : OrderedTree) → w ≡ weight tree.node → now ≡ old ++ w ∷ [] → forest_of ts ≡ tree.below → SumsUp w 0 now old ts tree
sums_start w old now ts tree is e f = record {
  sum = let t = ap total f in omega arith;
  weights = ap (λ (r : List ℕ). r ++ weights_in (forest_of ts)) e
      ∙ append_assoc old (w ∷ []) (weights_in (forest_of ts))
      ∙ ap (λ (r : List ℕ). old ++ w ∷ r) (ap weights_in f)
      ∙ ap (λ (v : ℕ). old ++ v ∷ weights_in tree.below) is;
}

-- the sum with the next tree's is still one that fits
pub next_most : (sum i s : ℕ) (now old : List ℕ) (ts : List OrderedTree) (tree t : OrderedTree) → SumsUp sum i now old ts tree → drop i ts ≡ t ∷ drop (i + 1) ts → s ≡ tree_weight t → IsWithinLimits tree → sum + s ≤ 131073 * 524288
next_most sum i s now old ts tree t h e is w =
    let d = ap (λ (xs : List OrderedTree). total (forest_of xs)) e in
    let own = h.sum in
    let most = tree_weight_most tree w in
    omega arith

pub sums_more : (sum i s : ℕ) (now next old : List ℕ) (ts : List OrderedTree) (tree t : OrderedTree) → SumsUp sum i now old ts tree → drop i ts ≡ t ∷ drop (i + 1) ts → s ≡ tree_weight t → next ≡ now ++ tree_weights t → SumsUp (sum + s) (i + 1) next old ts tree
sums_more sum i s now next old ts tree t h e is more = record {
  sum = let d = ap (λ (xs : List OrderedTree). total (forest_of xs)) e in let own = h.sum in omega arith;
  weights = ap (λ (r : List ℕ). r ++ weights_in (forest_of (drop (i + 1) ts))) more
      ∙ append_assoc now (tree_weights t) (weights_in (forest_of (drop (i + 1) ts)))
      ∙ sym (ap (λ (xs : List OrderedTree). now ++ weights_in (forest_of xs)) e)
      ∙ h.weights;
}

pub sum_end : (sum i : ℕ) (now old : List ℕ) (ts : List OrderedTree) (tree : OrderedTree) → SumsUp sum i now old ts tree → drop i ts ≡ [] → sum ≡ tree_weight tree
sum_end sum i now old ts tree h e = let d = ap (λ (xs : List OrderedTree). total (forest_of xs)) e in let own = h.sum in omega arith

weights_end : (sum i : ℕ) (now old : List ℕ) (ts : List OrderedTree) (tree : OrderedTree) → SumsUp sum i now old ts tree → drop i ts ≡ [] → now ≡ old ++ weight tree.node ∷ weights_in tree.below
weights_end sum i now old ts tree h e =
    sym (append-nil now) ∙ sym (ap (λ (xs : List OrderedTree). now ++ weights_in (forest_of xs)) e) ∙ h.weights

-- the tree's own place is in the list
pub place_within : (sum i : ℕ) (now old : List ℕ) (ts : List OrderedTree) (tree : OrderedTree) → SumsUp sum i now old ts tree → drop i ts ≡ [] → length old < length now
place_within sum i now old ts tree h e =
    let n = ap length (weights_end sum i now old ts tree h e) in
    omega (arith, length-append old (weight tree.node ∷ weights_in tree.below))

-- the sum put into its place
pub put_sum : (sum i place : ℕ) (now old : List ℕ) (ts : List OrderedTree) (tree : OrderedTree) → SumsUp sum i now old ts tree → drop i ts ≡ [] → place ≡ length old → slice_set now place sum ≡ old ++ tree_weights tree
put_sum sum i place now old ts tree h e is =
    ap (λ (p : ℕ). slice_set now p sum) is
    ∙ ap (λ (r : List ℕ). slice_set r (length old) sum) (weights_end sum i now old ts tree h e)
    ∙ set-append_seam old (weight tree.node) (weights_in tree.below) sum
    ∙ ap (λ (v : ℕ). old ++ v ∷ weights_in tree.below) (sum_end sum i now old ts tree h e)
