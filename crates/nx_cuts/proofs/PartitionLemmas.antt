-- A tree with its intervals drawn in is a partitioning.
use Rattle.std.proofs.Common.{◌≡◌, ℕ, zero, suc, ◌+◌, ◌-◌, ◌<◌, ◌≤◌, nat_lt, nat_le, true, false, IsTrue, List, [], ◌∷◌, ◌++◌, length, Option, None, Some, refl, sym, ap, ◌∙◌, arith}
use Rattle.std.specs.List.{AllByRecursion}
use Rattle.std.specs.Option.{option_map_or}
use Rattle.std.specs.Prelude.{option_and_then}
use Rattle.std.proofs.lemmas.Bool.Decides.{nat_tests}
use Rattle.std.proofs.lemmas.List.Elements.{All-from_recursion}
use Rattle.nx_tree.specs.declared.node.Node.{Node}
use Rattle.nx_tree.specs.Forest.{Forest, Empty, Plant, OrderedTree, trees_of}
use Rattle.nx_tree.specs.Edit.{at, child}
use Rattle.nx_weights.specs.Weight.{weight}
use Rattle.nx_parts.specs.declared.interval.Interval.{Interval}
use Rattle.nx_parts.specs.declared.interval.Interval.TheVariants.{Root, Run}
use Rattle.nx_parts.specs.Partitioning.{has_member, ShareMember, is_in_tree, IsFeasible}
use Rattle.nx_cuts.specs.Cut.{CutForest, Bare, Grown, Kept, CutTree, joined, forest, width, intervals, part_weight, AreParts, tree_of, parts_of}
use Rattle.nx_cuts.proofs.RowLemmas.{joined_assoc, joined_nothing}
use Rattle.nx_cuts.proofs.PairLemmas.{PairsBy, all_pairs, both, weaker, pairs-append}
use Rattle.nx_cuts.proofs.FeasibleLemmas.{Members, Reaches, members_reach, free_deeper, child_reaches, drawn_light, deeper, same_step, further, trees, trees-joined, trees-forest, no_truth}

-- no two of them share a member
abbrev pub Pairs : List Interval → Type 0
Pairs xs = PairsBy (λ a b. ¬ ShareMember a b) xs

one_apart : (P Q : List ℕ → Type 0) (x : Interval) (ys : List Interval) → ((q : List ℕ) → IsTrue (has_member x q) → P q) → Members Q ys → ((q : List ℕ) → P q → Q q → ⊥) → AllByRecursion (λ y. ¬ ShareMember x y) ys
one_apart P Q x ys a b n = weaker (λ y. ¬ ShareMember x y) ys (λ y m s. n s.0 (a s.0 s.1) (m s.0 s.2)) b

apart-append : {P Q : List ℕ → Type 0} (xs ys : List Interval) → Members P xs → Members Q ys → ((q : List ℕ) → P q → Q q → ⊥) → Pairs xs → Pairs ys → Pairs (xs ++ ys)
apart-append xs ys a b n c d = pairs-append (λ x y. ¬ ShareMember x y) xs ys a b (λ x y m o s. n s.0 (m s.0 s.1) (o s.0 s.2)) c d

drawn_pairs : (k : ℕ) (path : List ℕ) (position : ℕ) (c : CutForest) → AreParts k c → Pairs (intervals path position c)
drawn_pairs k path position Bare h = tt
drawn_pairs k path position (Grown n b s) h =
    apart-append (intervals (path ++ position ∷ []) 0 b) (intervals path (position + 1) s) (members_reach k (path ++ position ∷ []) 0 b h.0) (members_reach k path (position + 1) s h.1)
    (λ q r t. let f = further path position 0 (0 + width b) q r in let e = same_step path position t.0 (f.0 ∷ f.1) t.1 (sym f.2 ∙ t.2) in let l = t.3 in omega arith)
    (drawn_pairs k (path ++ position ∷ []) 0 b h.0) (drawn_pairs k path (position + 1) s h.1)
drawn_pairs k path position (Kept u m s) h =
    let x = Run path position (position + width m - 1) in
    let w = h.0 in (
      both _ (intervals path position m) (intervals path (position + width m) s)
          (one_apart (λ q. (p : ℕ) × (q ≡ path ++ p ∷ []) × (position ≤ p) × (p ≤ position + width m - 1)) _ x (intervals path position m) (λ q t. child_reaches path position (position + width m - 1) q t) (free_deeper k path position m h.3 h.1)
          (λ q r t. deeper path r.0 t.0 t.1 t.2 (sym r.1 ∙ t.3)))
          (one_apart (λ q. (p : ℕ) × (q ≡ path ++ p ∷ []) × (position ≤ p) × (p ≤ position + width m - 1)) _ x (intervals path (position + width m) s) (λ q t. child_reaches path position (position + width m - 1) q t) (members_reach k path (position + width m) s h.4)
          (λ q r t. let e = same_step path r.0 t.0 [] t.1 (sym r.1 ∙ t.2) in let a = r.3 in let b = t.3 in omega arith)),
      apart-append (intervals path position m) (intervals path (position + width m) s) (members_reach k path position m h.3) (members_reach k path (position + width m) s h.4)
          (λ q r t. let e = same_step path r.0 t.0 r.1 t.1 (sym r.2 ∙ t.2) in let a = r.4 in let b = t.3 in omega arith)
          (drawn_pairs k path position m h.3) (drawn_pairs k path (position + width m) s h.4),
    )

-- the intervals lie in the tree
child-joined : (prefix : Forest) (n : Node) (b s : Forest) (p : ℕ) → p ≡ trees prefix → child (joined prefix (Plant n b s)) p ≡ Some (record { node = n; below = b })
child-joined Empty n b s p e = ap (child (Plant n b s)) e
child-joined (Plant m d t) n b s zero e = absurd (omega arith)
child-joined (Plant m d t) n b s (suc p) e = child-joined t n b s p (omega arith)

all_some : (o : Option OrderedTree) → option_and_then (λ u. Some u) o ≡ o
all_some None = refl
all_some (Some x) = refl

none_some : (t : OrderedTree) → None ≡ Some t → ⊥
none_some t h = cc

at-longer : (tree t : OrderedTree) (path : List ℕ) (p : ℕ) → at tree path ≡ Some t → at tree (path ++ p ∷ []) ≡ child t.below p
at-longer tree t [] p e = let f : tree ≡ t = cc in ap (λ (x : OrderedTree). option_and_then (λ (u : OrderedTree). Some u) (child x.below p)) f ∙ all_some (child t.below p)
at-longer tree t (step ∷ path) p e =
    (elim (child tree.below step) as (λ o. option_and_then (λ (u : OrderedTree). at u path) o ≡ Some t → option_and_then (λ (u : OrderedTree). at u (path ++ p ∷ [])) o ≡ child t.below p) [
      | None ↦ λ h. absurd (none_some t h)
      | Some u ↦ λ h. at-longer u t path p h
    ]) e

pub length-trees : (f : Forest) → length (trees_of f) ≡ trees f
length-trees Empty = refl
length-trees (Plant n b s) = omega (arith, length-trees s)

lies : (tree t : OrderedTree) (path : List ℕ) (first last : ℕ) → at tree path ≡ Some t → first ≤ last → last < trees t.below → IsTrue (is_in_tree tree (Run path first last))
lies tree t path first last e a b =
    let f : option_map_or (λ (u : OrderedTree). nat_lt last (length (trees_of u.below))) (at tree path) false ≡ nat_lt last (length (trees_of t.below)) = ap (λ o. option_map_or (λ (u : OrderedTree). nat_lt last (length (trees_of u.below))) o false) e in
    let g = length-trees t.below in
    let x : nat_le first last ≡ true = grind (arith, nat_tests) in
    let y : nat_lt last (length (trees_of t.below)) ≡ true = grind (arith, nat_tests) in
    rw (x, f, y) refl

inside : (k : ℕ) (tree t : OrderedTree) (path : List ℕ) (position : ℕ) (prefix back : Forest) (c : CutForest) → AreParts k c
    → at tree path ≡ Some t → t.below ≡ joined prefix (joined (forest c) back) → position ≡ trees prefix → AllByRecursion (λ x. IsTrue (is_in_tree tree x)) (intervals path position c)
inside k tree t path position prefix back Bare h a b e = tt
inside k tree t path position prefix back (Grown n d s) h a b e =
    both _ (intervals (path ++ position ∷ []) 0 d) (intervals path (position + 1) s)
    (inside k tree (record { node = n; below = forest d }) (path ++ position ∷ []) 0 Empty Empty d h.0
    (at-longer tree t path position a ∙ ap (λ f. child f position) b ∙ child-joined prefix n (forest d) (joined (forest s) back) position e) (sym (joined_nothing (forest d))) refl)
    (inside k tree t path (position + 1) (joined prefix (Plant n (forest d) Empty)) back s h.1 a (b ∙ sym (joined_assoc prefix (Plant n (forest d) Empty) (joined (forest s) back))) (let x = trees-joined prefix (Plant n (forest d) Empty) in omega arith))
inside k tree t path position prefix back (Kept u m s) h a b e =
    let w = h.0 in
    let c1 : trees t.below ≡ trees prefix + (trees (joined (forest m) (forest s)) + trees back) = ap trees b ∙ trees-joined prefix (joined (joined (forest m) (forest s)) back) ∙ ap (λ i. trees prefix + i) (trees-joined (joined (forest m) (forest s)) back) in
    let c2 = trees-joined (forest m) (forest s) in let c3 = trees-forest m in (
      lies tree t path position (position + width m - 1) a (omega arith) (omega arith),
      both _ (intervals path position m) (intervals path (position + width m) s)
          (inside k tree t path position prefix (joined (forest s) back) m h.3 a (b ∙ ap (joined prefix) (joined_assoc (forest m) (forest s) back)) e)
          (inside k tree t path (position + width m) (joined prefix (forest m)) back s h.4 a (b ∙ ap (joined prefix) (joined_assoc (forest m) (forest s) back) ∙ sym (joined_assoc prefix (forest m) (joined (forest s) back))) (let x = trees-joined prefix (forest m) in omega arith)),
    )

is_root : (q : List ℕ) → IsTrue (has_member Root q) → q ≡ []
is_root [] t = refl
is_root (p ∷ rest) t = absurd (no_truth t)

no_cons : (p : ℕ) (rest : List ℕ) → [] ≡ p ∷ rest → ⊥
no_cons p rest e = cc

root_apart : (xs : List Interval) (path : List ℕ) (low high : ℕ) → Members (Reaches [] low high) xs → AllByRecursion (λ y. ¬ ShareMember Root y) xs
root_apart xs path low high m = one_apart (λ q. q ≡ []) (Reaches [] low high) Root xs (λ q t. is_root q t) m (λ q e r. let f : [] ≡ r.0 ∷ r.1 = sym e ∙ r.2 in no_cons r.0 r.1 f)

-- A tree with its intervals drawn in, none of whose parts outweighs k, is feasibly cut.
pub drawn_feasible : (k : ℕ) (t : CutTree) → weight t.node + part_weight t.below ≤ k → AreParts k t.below → IsFeasible k (tree_of t) (parts_of t)
drawn_feasible k t w h = record {
  partitioning = record {
    inside = All-from_recursion _ (parts_of t) (refl, inside k (tree_of t) (tree_of t) [] 0 Empty Empty t.below h refl (sym (joined_nothing (forest t.below))) refl);
    disjoint = all_pairs (λ a b. ¬ ShareMember a b) (parts_of t) (root_apart (intervals [] 0 t.below) [] 0 (0 + width t.below) (members_reach k [] 0 t.below h), drawn_pairs k [] 0 t.below h);
    rooted = (0, omega arith, refl);
  };
  light = λ index low. drawn_light k t w h index;
}
