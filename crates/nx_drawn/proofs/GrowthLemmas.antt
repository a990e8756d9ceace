-- How much heavier a part becomes by an insert or another content.
use Rattle.std.proofs.Common.{◌≡◌, ℕ, zero, suc, ◌+◌, ◌-◌, ◌<◌, ◌≤◌, nat_lt, if◌then◌else◌, Bool, true, false, List, [], ◌∷◌, Some, inl, inr, refl, ap, ◌∙◌, arith}
use Rattle.std.specs.Prelude.{◌⊎◌, option_and_then}
use Rattle.std.proofs.lemmas.Bool.Decides.{nat_tests}
use Rattle.nx_tree.specs.declared.node.Node.{Node}
use Rattle.nx_tree.specs.Forest.{OrderedTree, Forest}
use Rattle.nx_tree.specs.Edit.{at, child}
use Rattle.nx_weights.specs.Weight.{weight}
use Rattle.nx_matrix.specs.declared.rule.Entry.{Entry}
use Rattle.nx_matrix.specs.declared.rule.Entry.TheVariants.{Standalone, Cluster, Free}
use Rattle.nx_matrix.specs.declared.rule.Rule.{Rule}
use Rattle.nx_cuts.specs.Cut.{Cut, CutForest, Bare, Grown, Kept, CutTree, joined, forest, width, part_weight, AreFree, AreParts, tree_of}
use Rattle.nx_cuts.specs.Rows.{joined_row, first, behind, changed_row}
use Rattle.nx_cuts.proofs.RowLemmas.{width-joined_row, weight-joined_row, free-joined_row, parts-joined_row}
use Rattle.nx_cuts.proofs.DeepLemmas.{width-changed}
use Rattle.nx_cuts.proofs.FeasibleLemmas.{trees, trees-forest}
use Rattle.nx_cuts.proofs.FreeLemmas.{child_prefix, child_back}
use Rattle.nx_split.specs.Piece.{asked}
use Rattle.nx_drawn.specs.Edits.{placed_beside, placed_among, planted_row, inserted, retexted}
use Rattle.nx_drawn.specs.Splits.{whole_document}
use Rattle.nx_drawn.specs.Growth.{PartIsAtMost, MayBeHeavy, IsHeavyOnce, GrowsRow, PlantGrowsLittle, InsertGrowsLittle, RetextGrowsLittle}
use Rattle.nx_drawn.proofs.FormedLemmas.{width_first, width_behind, free_first, free_behind, free_changed}

-- no node weighs more than its part
pub nodes_light : {P : Type 0} (k : ℕ) (c : Cut Node P) → part_weight c ≤ k → PartIsAtMost k c
nodes_light k Bare light = tt
nodes_light k (Grown node below beside) light =
    let all : weight node + part_weight below + part_weight beside ≤ k = light in (omega (arith, all), nodes_light k below (omega (arith, all)), nodes_light k beside (omega (arith, all)))
nodes_light k (Kept mark members beside) light = nodes_light k beside light

-- each member weighs something
pub width_light : {P : Type 0} (c : Cut Node P) → AreFree c → width c ≤ part_weight c
width_light Bare f = omega arith
width_light (Grown n b s) f = omega (arith, width_light s f)
width_light (Kept u m s) f = absurd f

nodes-joined_row : {P : Type 0} (k : ℕ) (a b : Cut Node P) → PartIsAtMost k a → PartIsAtMost k b → PartIsAtMost k (joined_row a b)
nodes-joined_row k Bare b p q = q
nodes-joined_row k (Grown n d s) b p q = (p.0, p.1, nodes-joined_row k s b p.2 q)
nodes-joined_row k (Kept u m s) b p q = nodes-joined_row k s b p q

-- the first trees of a row of free ones, and those behind them
weight_parted : {P : Type 0} (p : ℕ) (m : Cut Node P) → AreFree m → part_weight (first p m) + part_weight (behind p m) ≡ part_weight m
weight_parted zero m f = omega arith
weight_parted (suc p) Bare f = omega arith
weight_parted (suc p) (Grown n b s) f = omega (arith, weight_parted p s f)
weight_parted (suc p) (Kept u m s) f = absurd f

parts_first : {P : Type 0} (k p : ℕ) (m : Cut Node P) → AreParts k m → AreParts k (first p m)
parts_first k zero m h = tt
parts_first k (suc p) Bare h = tt
parts_first k (suc p) (Grown n b s) h = (h.0, parts_first k p s h.1)
parts_first k (suc p) (Kept u m s) h = tt

parts_behind : {P : Type 0} (k p : ℕ) (m : Cut Node P) → AreParts k m → AreParts k (behind p m)
parts_behind k zero m h = h
parts_behind k (suc p) Bare h = tt
parts_behind k (suc p) (Grown n b s) h = parts_behind k p s h.1
parts_behind k (suc p) (Kept u m s) h = tt

module _ {P : Type 0} (k wide : ℕ) (alone second : P) (node : Node) (fits : weight node ≤ k) (big : k + 1 ≤ wide) where
  beside_grows : (entry : Entry) (c : Cut Node P) → AreParts k c → PartIsAtMost k c → GrowsRow k (weight node) wide c (placed_beside alone entry node c)
  beside_grows Standalone c h q = inl ((omega arith, tt, omega (arith, fits), (tt, tt), h), q, omega arith)
  beside_grows Cluster c h q = inl ((tt, h), (fits, tt, q), omega arith)
  beside_grows Free c h q = inl ((tt, h), (fits, tt, q), omega arith)

  -- a free node joins the members of an interval
  joins_members : (p : ℕ) (m : Cut Node P) → p ≤ width m → AreFree m → part_weight m ≤ k → AreParts k m → MayBeHeavy k (k + weight node) wide (joined_row (first p m) (Grown node Bare (behind p m)))
  joins_members p m high f light h =
      let w = weight_parted p m f in record {
        some = omega (arith, width-joined_row (first p m) (Grown node Bare (behind p m)));
        few = omega (arith, width-joined_row (first p m) (Grown node Bare (behind p m)), width_first p m f high, width_behind p m f high, width_light m f, light, big);
        free = free-joined_row (first p m) (Grown node Bare (behind p m)) (free_first p m f) (free_behind p m f);
        light = omega (arith, weight-joined_row (first p m) (Grown node Bare (behind p m)), w, light);
        nodes = nodes-joined_row k (first p m) (Grown node Bare (behind p m)) (nodes_light k (first p m) (omega (arith, w, light))) (fits, tt, nodes_light k (behind p m) (omega (arith, w, light)));
        parts = parts-joined_row k (first p m) (Grown node Bare (behind p m)) (parts_first k p m h) (tt, parts_behind k p m h);
      }

  among_grows : (entry : Entry) (p : ℕ) (u : P) (m s : Cut Node P) → 1 ≤ p → p < width m → AreParts k (Kept u m s) → PartIsAtMost k s → GrowsRow k (weight node) wide (Kept u m s) (placed_among alone second u entry node p m s)
  among_grows Free p u m s low high h q = inr (inl (joins_members p m (omega (arith, high)) h.1 h.2 h.3, h.4), omega arith)
  among_grows Standalone p u m s low high h q =
      let light : part_weight m ≤ k = h.2 in let w = weight_parted p m h.1 in let x = width_first p m h.1 (omega (arith, high)) in let y = width_behind p m h.1 (omega (arith, high)) in
      inl ((omega (arith, x, low), free_first p m h.1, omega (arith, w, light), parts_first k p m h.3, (omega arith, tt, omega (arith, fits), (tt, tt), (omega (arith, y, high), free_behind p m h.1, omega (arith, w, light), parts_behind k p m h.3, h.4))), q, omega arith)
  among_grows Cluster p u m s low high h q =
      let light : part_weight m ≤ k = h.2 in let w = weight_parted p m h.1 in let x = width_first p m h.1 (omega (arith, high)) in let y = width_behind p m h.1 (omega (arith, high)) in
      inl ((omega (arith, x, low), free_first p m h.1, omega (arith, w, light), parts_first k p m h.3, (tt, (omega (arith, y, high), free_behind p m h.1, omega (arith, w, light), parts_behind k p m h.3, h.4))), (fits, tt, q), omega arith)

  there_grows : (entry : Entry) (p : ℕ) (u : P) (m s : Cut Node P) (t : Bool) → nat_lt (suc p) (width m) ≡ t → AreParts k (Kept u m s) → PartIsAtMost k s
      → GrowsRow k (weight node) wide s (planted_row alone second entry node (suc p - width m) s)
      → GrowsRow k (weight node) wide (Kept u m s) (if t then placed_among alone second u entry node (suc p) m s else Kept u m (planted_row alone second entry node (suc p - width m) s))
  there_grows entry p u m s true e h q later = among_grows entry (suc p) u m s (omega arith) (let lt : suc p < width m = grind (arith, nat_tests) in lt) h q
  there_grows entry p u m s false e h q later =
      elim later [
        | inl g ↦ inl ((h.0, h.1, h.2, h.3, g.0), g.1, g.2)
        | inr g ↦ inr (inr (h.0, h.1, h.2, inr (h.3, g.0)), g.1)
      ]

  pub planted_grows : (entry : Entry) (p : ℕ) (c : Cut Node P) → AreParts k c → PartIsAtMost k c → GrowsRow k (weight node) wide c (planted_row alone second entry node p c)
  planted_grows entry zero c h q = beside_grows entry c h q
  planted_grows entry (suc p) Bare h q = inl (tt, tt, omega arith)
  planted_grows entry (suc p) (Grown n b s) h q =
      elim (planted_grows entry p s h.1 q.2) [
        | inl g ↦ inl ((h.0, g.0), (q.0, q.1, g.1), omega (arith, g.2))
        | inr g ↦ inr (inr (h.0, g.0), omega (arith, g.1))
      ]
  planted_grows entry (suc p) (Kept u m s) h q = there_grows entry p u m s (nat_lt (suc p) (width m)) refl h q (planted_grows entry (suc p - width m) s h.4 q)

-- the same of a tree, with the node that is its root
abbrev GrowsTree : (k more wide : ℕ) → (old new : CutTree) → Type 0
GrowsTree k more wide t u =
    (AreParts k u.below × (weight u.node ≤ k) × PartIsAtMost k u.below × (weight u.node + part_weight u.below ≤ weight t.node + part_weight t.below + more))
    ⊎ (IsHeavyOnce k (k + more) wide u.below × (weight u.node + part_weight u.below ≤ weight t.node + part_weight t.below))

-- what is said of the tree at a position
abbrev SaysAt : (OrderedTree → Type 0) → ℕ → Forest → Type 0
SaysAt Says p f = (v : OrderedTree) → child f p ≡ Some v → Says v

module _ (k more wide : ℕ) (big : k + 1 ≤ wide) (Says : OrderedTree → Type 0) (change : CutTree → CutTree)
    (keeps : (t : CutTree) → AreParts k t.below → weight t.node ≤ k → PartIsAtMost k t.below → Says (tree_of t) → GrowsTree k more wide t (change t)) where
  kept_grows : (p : ℕ) (u : Unit {0}) (m s : CutForest) (t : Bool) → AreParts k (Kept u m s) → PartIsAtMost k s → (t ≡ true → GrowsRow k more wide m (changed_row p change m)) → (t ≡ false → GrowsRow k more wide s (changed_row (p - width m) change s))
      → GrowsRow k more wide (Kept u m s) (if t then Kept u (changed_row p change m) s else Kept u m (changed_row (p - width m) change s))
  kept_grows p u m s true h q inside along =
      let some : 1 ≤ width m = h.0 in
      let light : part_weight m ≤ k = h.2 in
      let same = width-changed p change m in
      elim (inside refl) [
        | inl g ↦ inr (
          inl (
            record {
              some = omega (arith, some, same);
              few = omega (arith, same, width_light m h.1, light, big);
              free = free_changed change p m h.1;
              light = omega (arith, g.2, light);
              nodes = g.1;
              parts = g.0;
            },
            h.4,
          ),
          omega arith,
        )
        | inr g ↦ inr (inr (omega (arith, some, same), free_changed change p m h.1, omega (arith, g.1, light), inl (g.0, h.4)), omega arith)
      ]
  kept_grows p u m s false h q inside along =
      elim (along refl) [
        | inl g ↦ inl ((h.0, h.1, h.2, h.3, g.0), g.1, g.2)
        | inr g ↦ inr (inr (h.0, h.1, h.2, inr (h.3, g.0)), g.1)
      ]

  row_grows : (p : ℕ) (c : CutForest) → AreParts k c → PartIsAtMost k c → SaysAt Says p (forest c) → GrowsRow k more wide c (changed_row p change c)
  row_grows p Bare h q say = inl (tt, tt, omega arith)
  row_grows zero (Grown n b s) h q say =
      elim (keeps (record { node = n; below = b }) h.0 q.0 q.1 (say (tree_of (record { node = n; below = b })) refl)) [
        | inl g ↦ inl ((g.0, h.1), (g.1, g.2, q.2), omega (arith, g.3))
        | inr g ↦ inr (inl (g.0, h.1), omega (arith, g.1))
      ]
  row_grows (suc p) (Grown n b s) h q say =
      elim (row_grows p s h.1 q.2 say) [
        | inl g ↦ inl ((h.0, g.0), (q.0, q.1, g.1), omega (arith, g.2))
        | inr g ↦ inr (inr (h.0, g.0), omega (arith, g.1))
      ]
  row_grows p (Kept u m s) h q say =
      let wide_m = trees-forest m in
      kept_grows p u m s (nat_lt p (width m)) h q
      (λ e. let lt : p < width m = grind (arith, nat_tests) in row_grows p m h.3 (nodes_light k m h.2) (λ v is. say v (child_prefix (forest m) (forest s) p (omega (arith, lt, wide_m)) ∙ is)))
      (λ e. let le : width m ≤ p = grind (arith, nat_tests) in
      let at_p : p ≡ trees (forest m) + (p - width m) = omega (arith, le, wide_m) in
      row_grows (p - width m) s h.4 q (λ v is. say v (ap (child (joined (forest m) (forest s))) at_p ∙ child_back (forest m) (forest s) (p - width m) ∙ is)))

module _ (k wide : ℕ) (big : k + 1 ≤ wide) (rules : List Rule) (node : Node) (fits : weight node ≤ k) where
  grows_inserted : (path : List ℕ) (t : CutTree) → AreParts k t.below → weight t.node ≤ k → PartIsAtMost k t.below → GrowsTree k (weight node) wide t (inserted rules node path t)
  grows_inserted [] t h w q = inl (h, w, q, omega arith)
  grows_inserted (p ∷ []) t h w q =
      elim (planted_grows k wide tt tt node fits big (asked rules t.node node) p t.below h q) [
        | inl g ↦ inl (g.0, w, g.1, omega (arith, g.2))
        | inr g ↦ inr (g.0, omega (arith, g.1))
      ]
  grows_inserted (p ∷ next ∷ path) t h w q =
      elim (row_grows k (weight node) wide big (λ v. Unit {0}) (inserted rules node (next ∷ path)) (λ u parts light nodes say. grows_inserted (next ∷ path) u parts light nodes) p t.below h q (λ v is. tt)) [
        | inl g ↦ inl (g.0, w, g.1, omega (arith, g.2))
        | inr g ↦ inr (g.0, omega (arith, g.1))
      ]

module _ (k more wide : ℕ) (big : k + 1 ≤ wide) (content : List ℕ) (fits : more ≤ k) where
  -- the node at the path weighs no more than that with the other content
  abbrev WeighsAt : List ℕ → OrderedTree → Type 0
  WeighsAt path tree = (there : OrderedTree) → at tree path ≡ Some there → weight (record there.node { content = content }) ≤ more

  grows_retexted : (path : List ℕ) (t : CutTree) → AreParts k t.below → weight t.node ≤ k → PartIsAtMost k t.below → WeighsAt path (tree_of t) → GrowsTree k more wide t (retexted content path t)
  grows_retexted [] t h w q weighs =
      let new : weight (record t.node { content = content }) ≤ more = weighs (tree_of t) refl in inl (h, omega (arith, new, fits), q, omega (arith, new))
  grows_retexted (p ∷ path) t h w q weighs =
      elim (row_grows k more wide big (WeighsAt path) (retexted content path) (λ u parts light nodes say. grows_retexted path u parts light nodes say) p t.below h q
      (λ v is there found. weighs there (ap (option_and_then (λ (u : OrderedTree). at u path)) is ∙ found))) [
        | inl g ↦ inl (g.0, w, g.1, omega (arith, g.2))
        | inr g ↦ inr (g.0, omega (arith, g.1))
      ]

whole_heavy : (k more wide : ℕ) (t u : CutTree) → k + 1 ≤ wide → weight t.node + part_weight t.below ≤ k → GrowsTree k more wide t u → IsHeavyOnce k (k + more) wide (whole_document u)
whole_heavy k more wide t u big light grows =
    elim grows [
      | inl g ↦ inl (
        record {
          some = omega arith;
          few = omega (arith, big);
          free = tt;
          light = omega (arith, g.3, light);
          nodes = (g.1, g.2, tt);
          parts = (g.0, tt);
        },
        tt,
      )
      | inr g ↦ inr (omega arith, tt, omega (arith, g.1, light), inl (inl (g.0, tt), tt))
    ]

pub plant_grows_little : PlantGrowsLittle
plant_grows_little k entry node position row fits h q = planted_grows k (k + 1) tt tt node fits (omega arith) entry position row h q

pub insert_grows_little : InsertGrowsLittle
insert_grows_little k rules node path document fits h =
    let light : weight document.node + part_weight document.below + 0 ≤ k = h.2 in
    whole_heavy k (weight node) (k + 1) document (inserted rules node path document) (omega arith) (omega (arith, light))
    (grows_inserted k (k + 1) (omega arith) rules node fits path document h.3.0 (omega (arith, light)) (nodes_light k document.below (omega (arith, light))))

pub retext_grows_little : RetextGrowsLittle
retext_grows_little k more content path document fits weighs h =
    let light : weight document.node + part_weight document.below + 0 ≤ k = h.2 in
    whole_heavy k more (k + 1) document (retexted content path document) (omega arith) (omega (arith, light))
    (grows_retexted k more (k + 1) (omega arith) content fits path document h.3.0 (omega (arith, light)) (nodes_light k document.below (omega (arith, light))) weighs)
