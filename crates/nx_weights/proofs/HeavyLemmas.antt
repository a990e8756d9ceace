-- The first heavy node of a tree: where a search has come, and where the node stands.
use Rattle.std.proofs.Common.{◌≡◌, ℕ, suc, ◌+◌, ◌-◌, ◌<◌, ◌≤◌, Bool, true, false, cond, ◌⊎◌, inl, inr, List, [], ◌∷◌, ◌++◌, length, take, drop, Option, None, Some, refl, sym, ap, ◌∙◌, subst, arith, append_assoc}
use Rattle.std.specs.Prelude.{nat_lt, is_some}
use Rattle.std.specs.List.{find}
use Rattle.std.specs.Option.{option_map, option_or, option_and_then}
use Rattle.std.proofs.lemmas.Bool.{ltb-true, ltb-false, lt-ltb, le-ltb}
use Rattle.std.proofs.lemmas.List.{length-append}
use Rattle.std.proofs.lemmas.List.Folds.{find-append}
use Rattle.std.proofs.Math.Seq.{take-append_seam}
use Rattle.nx_lists.proofs.CaseLemmas.{none_head}
use Rattle.nx_tree.specs.declared.node.Node.{Node}
use Rattle.nx_tree.specs.Forest.{OrderedTree, Forest, Empty, Plant, forest_of}
use Rattle.nx_tree.specs.Edit.{child, at}
use Rattle.nx_weights.specs.Weight.{weight, listed_in, listed_from, is_heavy, first_heavy, weighed, AreAtMost, IsAtMost, IsHeavyAt}
use Rattle.nx_weights.specs.Search.{HasSearched}

-- the path is what it was, and what is found in the trees from a position on is found in the tree
pub record Passed (k i : ℕ) (now old : List ℕ) (ts : List OrderedTree) (tree : OrderedTree) : Type 0 where
  pub path : now ≡ old
  pub left : find (is_heavy k) (listed_in old i (forest_of (drop i ts))) ≡ find (is_heavy k) (listed_from old tree)

pub found_root : (k w : ℕ) (path : List ℕ) (tree : OrderedTree) → w ≡ weight tree.node → k < w → HasSearched k tree path path (Some w)
found_root k w path tree is more =
    let heavy : k < weight tree.node = omega arith in
    let passes : nat_lt k (weight tree.node) ≡ true = lt-ltb k (weight tree.node) heavy in
    ap (λ (b : Bool). option_map weighed (cond b (Some (path, tree.node)) (find (is_heavy k) (listed_in path 0 tree.below)))) passes
    ∙ ap (λ (v : ℕ). Some (path, v)) (sym is)

pub passed_start : (k w : ℕ) (path : List ℕ) (ts : List OrderedTree) (tree : OrderedTree) → w ≡ weight tree.node → w ≤ k → forest_of ts ≡ tree.below → Passed k 0 path path ts tree
passed_start k w path ts tree is light e =
    let low : weight tree.node ≤ k = omega arith in
    let fails : nat_lt k (weight tree.node) ≡ false = le-ltb k (weight tree.node) low in
    record {
      path = refl;
      left = ap (λ (f : Forest). find (is_heavy k) (listed_in path 0 f)) e
          ∙ sym (ap (λ (b : Bool). cond b (Some (path, tree.node)) (find (is_heavy k) (listed_in path 0 tree.below))) fails);
    }

mapped_prefix : (a b : Option (List ℕ × Node)) (w : List ℕ × ℕ) → option_map weighed a ≡ Some w → option_map weighed (option_or a b) ≡ Some w
mapped_prefix None b w e = absurd (cc)
mapped_prefix (Some x) b w e = e

-- what is left is the next tree's nodes and then the others'
left_parts : (k i : ℕ) (path old : List ℕ) (ts : List OrderedTree) (tree t : OrderedTree) → Passed k i path old ts tree → drop i ts ≡ t ∷ drop (i + 1) ts
    → option_or (find (is_heavy k) (listed_from (old ++ i ∷ []) t)) (find (is_heavy k) (listed_in old (i + 1) (forest_of (drop (i + 1) ts)))) ≡ find (is_heavy k) (listed_from old tree)
left_parts k i path old ts tree t h e =
    sym (find-append (is_heavy k) (listed_from (old ++ i ∷ []) t) (listed_in old (i + 1) (forest_of (drop (i + 1) ts))))
    ∙ sym (ap (λ (xs : List OrderedTree). find (is_heavy k) (listed_in old i (forest_of xs))) e)
    ∙ h.left

-- the path to the next tree
there : (k i : ℕ) (path old to : List ℕ) (ts : List OrderedTree) (tree : OrderedTree) → Passed k i path old ts tree → to ≡ path ++ i ∷ [] → to ≡ old ++ i ∷ []
there k i path old to ts tree h e = e ∙ ap (λ (r : List ℕ). r ++ i ∷ []) h.path

pub found_below : (k i : ℕ) (path old to now : List ℕ) (ts : List OrderedTree) (tree t : OrderedTree) (found : Option ℕ) → Passed k i path old ts tree → drop i ts ≡ t ∷ drop (i + 1) ts → to ≡ path ++ i ∷ [] → is_some found ≡ true → HasSearched k t to now found → HasSearched k tree old now found
found_below k i path old to now ts tree t None h e p is f = absurd (cc)
found_below k i path old to now ts tree t (Some w) h e p is f =
    ap (option_map weighed) (sym (left_parts k i path old ts tree t h e))
    ∙ mapped_prefix _ _ (now, w) (ap (λ (r : List ℕ). option_map weighed (find (is_heavy k) (listed_from r t))) (sym (there k i path old to ts tree h p)) ∙ f)

prefix_again : (old to : List ℕ) (i n : ℕ) → to ≡ old ++ i ∷ [] → n ≡ length to → take (n - 1) to ≡ old
prefix_again old to i n e is =
    let m : n - 1 ≡ length old = let l = ap length e in omega (arith, length-append old (i ∷ [])) in
    ap (λ (j : ℕ). take j to) m ∙ ap (take (length old)) e ∙ take-append_seam old (i ∷ [])

pub passed_more : (k i n : ℕ) (path old to now after : List ℕ) (ts : List OrderedTree) (tree t : OrderedTree) (found : Option ℕ) → Passed k i path old ts tree → drop i ts ≡ t ∷ drop (i + 1) ts → to ≡ path ++ i ∷ [] → is_some found ≡ false → HasSearched k t to now found → after ≡ take (n - 1) now → n ≡ length now → Passed k (i + 1) after old ts tree
passed_more k i n path old to now after ts tree t (Some w) h e p is f back len = absurd (cc)
passed_more k i n path old to now after ts tree t None h e p is f back len =
    let old_to = there k i path old to ts tree h p in
    record {
      path = back ∙ prefix_again old now i n (f.1 ∙ old_to) len;
      left = sym (ap (λ (o : Option (List ℕ × Node)). option_or o (find (is_heavy k) (listed_in old (i + 1) (forest_of (drop (i + 1) ts)))))
          (ap (λ (r : List ℕ). find (is_heavy k) (listed_from r t)) (sym old_to) ∙ f.0))
          ∙ left_parts k i path old ts tree t h e;
    }

pub passed_all : (k i : ℕ) (path old : List ℕ) (ts : List OrderedTree) (tree : OrderedTree) → Passed k i path old ts tree → drop i ts ≡ [] → HasSearched k tree old path None
passed_all k i path old ts tree h e = (sym h.left ∙ ap (λ (xs : List OrderedTree). find (is_heavy k) (listed_in old i (forest_of xs))) e, h.path)

-- where a found node stands:

either_found : {X : Type 0} (a b : Option X) (x : X) → option_or a b ≡ Some x → (a ≡ Some x) ⊎ (b ≡ Some x)
either_found None b x e = inr e
either_found (Some y) b x e = inl e

head_found : {X : Type 0} (b : Bool) (y : X) (o : Option X) (x : X) → cond b (Some y) o ≡ Some x → ((b ≡ true) × (y ≡ x)) ⊎ (o ≡ Some x)
head_found true y o x e = inl (refl, cc)
head_found false y o x e = inr e

-- the node stands in the forest, a step from the position on, and is heavy
record Leads (k i : ℕ) (prefix : List ℕ) (f : Forest) (placed : List ℕ × Node) : Type 0 where
  step : ℕ
  place : ℕ
  more : List ℕ
  place_is : place ≡ i + step
  path_is : placed.0 ≡ prefix ++ place ∷ more
  there_is : option_map (λ (t : OrderedTree). weight t.node) (option_and_then (λ (t : OrderedTree). at t more) (child f step)) ≡ Some (weight placed.1)
  heavy : k < weight placed.1

leads_here : (k i : ℕ) (prefix : List ℕ) (n : Node) (b s : Forest) (p : List ℕ × Node) → nat_lt k (weight n) ≡ true → (prefix ++ i ∷ [], n) ≡ p → Leads k i prefix (Plant n b s) p
leads_here k i prefix n b s p h e =
    subst (Leads k i prefix (Plant n b s)) e (record { step = 0; place = i; more = []; place_is = omega arith; path_is = refl; there_is = refl; heavy = ltb-true k (weight n) h })

leads_below : (k i : ℕ) (prefix : List ℕ) (n : Node) (b s : Forest) (p : List ℕ × Node) → Leads k 0 (prefix ++ i ∷ []) b p → Leads k i prefix (Plant n b s) p
leads_below k i prefix n b s p l = record {
  step = 0;
  place = i;
  more = l.place ∷ l.more;
  place_is = omega arith;
  path_is = l.path_is ∙ append_assoc prefix (i ∷ []) (l.place ∷ l.more);
  there_is = let same : l.place ≡ l.step = omega (arith, l.place_is) in
      ap (λ (j : ℕ). option_map (λ (t : OrderedTree). weight t.node) (option_and_then (λ (t : OrderedTree). at t l.more) (child b j))) same ∙ l.there_is;
  heavy = l.heavy;
}

leads_beside : (k i : ℕ) (prefix : List ℕ) (n : Node) (b s : Forest) (p : List ℕ × Node) → Leads k (i + 1) prefix s p → Leads k i prefix (Plant n b s) p
leads_beside k i prefix n b s p l = record {
  step = suc l.step;
  place = l.place;
  more = l.more;
  place_is = omega (arith, l.place_is);
  path_is = l.path_is;
  there_is = l.there_is;
  heavy = l.heavy;
}

leads : (k i : ℕ) (prefix : List ℕ) (f : Forest) (p : List ℕ × Node) → find (is_heavy k) (listed_in prefix i f) ≡ Some p → Leads k i prefix f p
leads k i prefix Empty p e = absurd (cc)
leads k i prefix (Plant n b s) p e =
    elim (head_found (nat_lt k (weight n)) (prefix ++ i ∷ [], n) (find (is_heavy k) (listed_in (prefix ++ i ∷ []) 0 b ++ listed_in prefix (i + 1) s)) p e) [
      | inl h ↦ leads_here k i prefix n b s p h.0 h.1
      | inr h ↦ elim (either_found (find (is_heavy k) (listed_in (prefix ++ i ∷ []) 0 b)) (find (is_heavy k) (listed_in prefix (i + 1) s)) p (sym (find-append (is_heavy k) (listed_in (prefix ++ i ∷ []) 0 b) (listed_in prefix (i + 1) s)) ∙ h)) [
        | inl g ↦ leads_below k i prefix n b s p (leads k 0 (prefix ++ i ∷ []) b p g)
        | inr g ↦ leads_beside k i prefix n b s p (leads k (i + 1) prefix s p g)
      ]
    ]

placed_at : (k : ℕ) (tree : OrderedTree) (p : List ℕ × Node) → first_heavy k tree ≡ Some p → IsHeavyAt k tree p.0 (weight p.1)
placed_at k tree p e =
    elim (head_found (nat_lt k (weight tree.node)) ([], tree.node) (find (is_heavy k) (listed_in [] 0 tree.below)) p e) [
      | inl h ↦ subst (λ (q : List ℕ × Node). IsHeavyAt k tree q.0 (weight q.1)) h.1 (record { there = refl; more = ltb-true k (weight tree.node) h.0 })
      | inr h ↦ let l = leads k 0 [] tree.below p h in
          let same : l.place ≡ l.step = omega (arith, l.place_is) in
          record {
            there = ap (λ (q : List ℕ). option_map (λ (t : OrderedTree). weight t.node) (at tree q)) l.path_is
                ∙ ap (λ (j : ℕ). option_map (λ (t : OrderedTree). weight t.node) (option_and_then (λ (t : OrderedTree). at t l.more) (child tree.below j))) same
                ∙ l.there_is;
            more = l.heavy;
          }
    ]

mapped_from : (o : Option (List ℕ × Node)) (w : List ℕ × ℕ) → option_map weighed o ≡ Some w → (p : List ℕ × Node) × (o ≡ Some p) × (weighed p ≡ w)
mapped_from None w e = absurd (cc)
mapped_from (Some p) w e = (p, refl, cc)

pub heavy_at : (k : ℕ) (tree : OrderedTree) (path : List ℕ) (slots : ℕ) → option_map weighed (first_heavy k tree) ≡ Some (path, slots) → IsHeavyAt k tree path slots
heavy_at k tree path slots e =
    let m = mapped_from (first_heavy k tree) (path, slots) e in
    subst (λ (w : List ℕ × ℕ). IsHeavyAt k tree w.0 w.1) m.2 (placed_at k tree m.0 m.1)

none_both : {X : Type 0} (a b : Option X) → option_or a b ≡ None → (a ≡ None) × (b ≡ None)
none_both None b e = (refl, e)
none_both (Some x) b e = absurd (cc)

none_in : (k i : ℕ) (prefix : List ℕ) (f : Forest) → find (is_heavy k) (listed_in prefix i f) ≡ None → AreAtMost k f
none_in k i prefix Empty e = tt
none_in k i prefix (Plant n b s) e =
    let h = none_head (nat_lt k (weight n)) (prefix ++ i ∷ [], n) (find (is_heavy k) (listed_in (prefix ++ i ∷ []) 0 b ++ listed_in prefix (i + 1) s)) e in
    let g = none_both (find (is_heavy k) (listed_in (prefix ++ i ∷ []) 0 b)) (find (is_heavy k) (listed_in prefix (i + 1) s)) (sym (find-append (is_heavy k) (listed_in (prefix ++ i ∷ []) 0 b) (listed_in prefix (i + 1) s)) ∙ h.1) in
    (ltb-false k (weight n) h.0, none_in k 0 (prefix ++ i ∷ []) b g.0, none_in k (i + 1) prefix s g.1)

pub none_heavy : (k : ℕ) (tree : OrderedTree) → first_heavy k tree ≡ None → IsAtMost k tree
none_heavy k tree e =
    let h = none_head (nat_lt k (weight tree.node)) ([], tree.node) (find (is_heavy k) (listed_in [] 0 tree.below)) e in
    (ltb-false k (weight tree.node) h.0, none_in k 0 [] tree.below h.1)

-- the same of a search that began at the empty path

pub none_found : (k : ℕ) (tree : OrderedTree) (start now : List ℕ) → start ≡ [] → HasSearched k tree start now None → IsAtMost k tree
none_found k tree start now e f = none_heavy k tree (ap (λ (r : List ℕ). find (is_heavy k) (listed_from r tree)) (sym e) ∙ f.0)

pub some_found : (k : ℕ) (tree : OrderedTree) (start now path : List ℕ) (slots : ℕ) → start ≡ [] → path ≡ now → HasSearched k tree start now (Some slots) → IsHeavyAt k tree path slots
some_found k tree start now path slots e p f =
    heavy_at k tree path slots (
    ap (λ (r : List ℕ). option_map weighed (find (is_heavy k) (listed_from r tree))) (sym e)
    ∙ f
    ∙ ap (λ (r : List ℕ). Some (r, slots)) (sym p)
    )
