-- An edit of a tree with its intervals drawn in is the edit of the tree.
use Rattle.std.proofs.Common.{◌≡◌, ℕ, zero, suc, ◌+◌, ◌-◌, ◌<◌, ◌≤◌, nat_lt, if◌then◌else◌, Bool, true, false, List, [], ◌∷◌, refl, ap, ◌∙◌, arith}
use Rattle.std.proofs.lemmas.Bool.Decides.{nat_tests}
use Rattle.nx_tree.specs.declared.node.Node.{Node}
use Rattle.nx_tree.specs.Forest.{Forest, Empty, Plant, OrderedTree}
use Rattle.nx_tree.specs.Edit.{planted_at, removed_at, changed_at, put, cut_at, retext}
use Rattle.nx_matrix.specs.declared.rule.Entry.{Entry}
use Rattle.nx_matrix.specs.declared.rule.Entry.TheVariants.{Standalone, Cluster, Free}
use Rattle.nx_matrix.specs.declared.rule.Rule.{Rule}
use Rattle.nx_cuts.specs.Cut.{CutForest, Bare, Grown, Kept, CutTree, joined, forest, width, AreParts, AreFree, tree_of}
use Rattle.nx_cuts.specs.Rows.{first, behind, changed_row}
use Rattle.nx_cuts.proofs.RowLemmas.{joined_assoc, forest-joined_row}
use Rattle.nx_split.specs.Piece.{asked}
use Rattle.nx_drawn.specs.Edits.{placed_beside, placed_among, planted_row, kept, removed_row, inserted, deleted, retexted}

abbrev pub leaf : Node → OrderedTree
leaf node = record { node = node; below = Empty }

forest-placed_beside : (entry : Entry) (node : Node) (s : CutForest) → forest (placed_beside tt entry node s) ≡ Plant node Empty (forest s)
forest-placed_beside Standalone node s = refl
forest-placed_beside Cluster node s = refl
forest-placed_beside Free node s = refl

-- a node put between the first trees and those behind them
between : (node : Node) (p : ℕ) (m : CutForest) (last : Forest) → AreFree m → p ≤ width m
    → joined (forest (first p m)) (Plant node Empty (joined (forest (behind p m)) last)) ≡ planted_at p (leaf node) (joined (forest m) last)
between node zero m last f h = refl
between node (suc p) Bare last f h = absurd (omega arith)
between node (suc p) (Grown n b s) last f h = ap (Plant n (forest b)) (between node p s last f (omega arith))
between node (suc p) (Kept u m s) last f h = absurd f

forest-placed_among : (entry : Entry) (node : Node) (p : ℕ) (m s : CutForest) → AreFree m → p ≤ width m → forest (placed_among tt tt tt entry node p m s) ≡ planted_at p (leaf node) (joined (forest m) (forest s))
forest-placed_among Free node p m s f h =
    ap (λ g. joined g (forest s)) (forest-joined_row (first p m) (Grown node Bare (behind p m)))
    ∙ joined_assoc (forest (first p m)) (Plant node Empty (forest (behind p m))) (forest s) ∙ between node p m (forest s) f h
forest-placed_among Standalone node p m s f h = between node p m (forest s) f h
forest-placed_among Cluster node p m s f h = between node p m (forest s) f h

-- a node put behind the trees of an interval
planted_past : (t : OrderedTree) (m : CutForest) (p : ℕ) (last : Forest) → AreFree m → joined (forest m) (planted_at p t last) ≡ planted_at (width m + p) t (joined (forest m) last)
planted_past t Bare p last f = ap (λ i. planted_at i t last) (let e : p ≡ 0 + p = omega arith in e)
planted_past t (Grown n b s) p last f =
    ap (Plant n (forest b)) (planted_past t s p last f)
    ∙ ap (λ i. planted_at i t (Plant n (forest b) (joined (forest s) last))) (let e : suc (width s + p) ≡ 1 + width s + p = omega arith in e)
planted_past t (Kept u m s) p last f = absurd f

put_there : (entry : Entry) (node : Node) (p : ℕ) (m s : CutForest) (t : Bool) → nat_lt (suc p) (width m) ≡ t → AreFree m
    → ((q : ℕ) → forest (planted_row tt tt entry node q s) ≡ planted_at q (leaf node) (forest s))
    → forest (if t then placed_among tt tt tt entry node (suc p) m s else Kept tt m (planted_row tt tt entry node (suc p - width m) s)) ≡ planted_at (suc p) (leaf node) (joined (forest m) (forest s))
put_there entry node p m s true e f ih = forest-placed_among entry node (suc p) m s f (let h : suc p < width m = grind (arith, nat_tests) in omega arith)
put_there entry node p m s false e f ih =
    let h : width m ≤ suc p = grind (arith, nat_tests) in
    ap (joined (forest m)) (ih (suc p - width m)) ∙ planted_past (leaf node) m (suc p - width m) (forest s) f
    ∙ ap (λ i. planted_at i (leaf node) (joined (forest m) (forest s))) (let g : width m + (suc p - width m) ≡ suc p = omega arith in g)

forest-planted_row : (k : ℕ) (entry : Entry) (node : Node) (p : ℕ) (c : CutForest) → AreParts k c → forest (planted_row tt tt entry node p c) ≡ planted_at p (leaf node) (forest c)
forest-planted_row k entry node zero c h = forest-placed_beside entry node c
forest-planted_row k entry node (suc p) Bare h = refl
forest-planted_row k entry node (suc p) (Grown n b s) h = ap (Plant n (forest b)) (forest-planted_row k entry node p s h.1)
forest-planted_row k entry node (suc p) (Kept u m s) h = put_there entry node p m s (nat_lt (suc p) (width m)) refl h.1 (λ q. forest-planted_row k entry node q s h.4)

forest-kept : (m s : CutForest) → forest (kept tt m s) ≡ joined (forest m) (forest s)
forest-kept Bare s = refl
forest-kept (Grown n b r) s = refl
forest-kept (Kept u m r) s = refl

removed_within : (p : ℕ) (m : CutForest) (last : Forest) → AreFree m → p < width m → joined (removed_at p (forest m)) last ≡ removed_at p (joined (forest m) last)
removed_within p Bare last f h = absurd (omega arith)
removed_within zero (Grown n b s) last f h = refl
removed_within (suc p) (Grown n b s) last f h = ap (Plant n (forest b)) (removed_within p s last f (omega arith))
removed_within p (Kept u m s) last f h = absurd f

removed_past : (p : ℕ) (m : CutForest) (last : Forest) → AreFree m → joined (forest m) (removed_at p last) ≡ removed_at (width m + p) (joined (forest m) last)
removed_past p Bare last f = ap (λ i. removed_at i last) (let e : p ≡ 0 + p = omega arith in e)
removed_past p (Grown n b s) last f =
    ap (Plant n (forest b)) (removed_past p s last f)
    ∙ ap (λ i. removed_at i (Plant n (forest b) (joined (forest s) last))) (let e : suc (width s + p) ≡ 1 + width s + p = omega arith in e)
removed_past p (Kept u m s) last f = absurd f

remove_there : (u : Unit {0}) (p : ℕ) (m s : CutForest) (t : Bool) → nat_lt p (width m) ≡ t → AreFree m → forest (removed_row p m) ≡ removed_at p (forest m)
    → ((q : ℕ) → forest (removed_row q s) ≡ removed_at q (forest s))
    → forest (if t then kept tt (removed_row p m) s else Kept u m (removed_row (p - width m) s)) ≡ removed_at p (joined (forest m) (forest s))
remove_there u p m s true e f a b = forest-kept (removed_row p m) s ∙ ap (λ g. joined g (forest s)) a ∙ removed_within p m (forest s) f (grind (arith, nat_tests))
remove_there u p m s false e f a b =
    let h : width m ≤ p = grind (arith, nat_tests) in
    ap (joined (forest m)) (b (p - width m)) ∙ removed_past (p - width m) m (forest s) f
    ∙ ap (λ i. removed_at i (joined (forest m) (forest s))) (let g : width m + (p - width m) ≡ p = omega arith in g)

forest-removed_row : (k p : ℕ) (c : CutForest) → AreParts k c → forest (removed_row p c) ≡ removed_at p (forest c)
forest-removed_row k p Bare h = refl
forest-removed_row k zero (Grown n b s) h = refl
forest-removed_row k (suc p) (Grown n b s) h = ap (Plant n (forest b)) (forest-removed_row k p s h.1)
forest-removed_row k p (Kept u m s) h = remove_there u p m s (nat_lt p (width m)) refl h.1 (forest-removed_row k p m h.3) (λ q. forest-removed_row k q s h.4)

module _ (k : ℕ) (change : CutTree → CutTree) (f : OrderedTree → OrderedTree) (same : (t : CutTree) → AreParts k t.below → tree_of (change t) ≡ f (tree_of t)) where
  changed_within : (p : ℕ) (m : CutForest) (last : Forest) → AreFree m → p < width m → joined (changed_at p f (forest m)) last ≡ changed_at p f (joined (forest m) last)
  changed_within p Bare last e h = absurd (omega arith)
  changed_within zero (Grown n b s) last e h = refl
  changed_within (suc p) (Grown n b s) last e h = ap (Plant n (forest b)) (changed_within p s last e (omega arith))
  changed_within p (Kept u m s) last e h = absurd e

  changed_past : (p : ℕ) (m : CutForest) (last : Forest) → AreFree m → joined (forest m) (changed_at p f last) ≡ changed_at (width m + p) f (joined (forest m) last)
  changed_past p Bare last e = ap (λ i. changed_at i f last) (let z : p ≡ 0 + p = omega arith in z)
  changed_past p (Grown n b s) last e =
      ap (Plant n (forest b)) (changed_past p s last e)
      ∙ ap (λ i. changed_at i f (Plant n (forest b) (joined (forest s) last))) (let z : suc (width s + p) ≡ 1 + width s + p = omega arith in z)
  changed_past p (Kept u m s) last e = absurd e

  change_there : (u : Unit {0}) (p : ℕ) (m s : CutForest) (t : Bool) → nat_lt p (width m) ≡ t → AreFree m → forest (changed_row p change m) ≡ changed_at p f (forest m)
      → ((q : ℕ) → forest (changed_row q change s) ≡ changed_at q f (forest s))
      → forest (if t then Kept u (changed_row p change m) s else Kept u m (changed_row (p - width m) change s)) ≡ changed_at p f (joined (forest m) (forest s))
  change_there u p m s true e free a b = ap (λ g. joined g (forest s)) a ∙ changed_within p m (forest s) free (grind (arith, nat_tests))
  change_there u p m s false e free a b =
      let h : width m ≤ p = grind (arith, nat_tests) in
      ap (joined (forest m)) (b (p - width m)) ∙ changed_past (p - width m) m (forest s) free
      ∙ ap (λ i. changed_at i f (joined (forest m) (forest s))) (let g : width m + (p - width m) ≡ p = omega arith in g)

  forest-changed_row : (p : ℕ) (c : CutForest) → AreParts k c → forest (changed_row p change c) ≡ changed_at p f (forest c)
  forest-changed_row p Bare h = refl
  forest-changed_row zero (Grown n b s) h = ap (λ (t : OrderedTree). Plant t.node t.below (forest s)) (same (record { node = n; below = b }) h.0)
  forest-changed_row (suc p) (Grown n b s) h = ap (Plant n (forest b)) (forest-changed_row p s h.1)
  forest-changed_row p (Kept u m s) h = change_there u p m s (nat_lt p (width m)) refl h.1 (forest-changed_row p m h.3) (λ q. forest-changed_row q s h.4)

-- other trees below the root of a tree
abbrev rooted : CutTree → Forest → OrderedTree
rooted t f = record { node = t.node; below = f }

pub tree-inserted : (k : ℕ) (rules : List Rule) (node : Node) (path : List ℕ) (t : CutTree) → AreParts k t.below → tree_of (inserted rules node path t) ≡ put node path (tree_of t)
tree-inserted k rules node [] t h = refl
tree-inserted k rules node (p ∷ []) t h = ap (λ (f : Forest). rooted t f) (forest-planted_row k (asked rules t.node node) node p t.below h)
tree-inserted k rules node (p ∷ q ∷ path) t h =
    ap (λ (f : Forest). rooted t f) (forest-changed_row k (inserted rules node (q ∷ path)) (put node (q ∷ path)) (λ u g. tree-inserted k rules node (q ∷ path) u g) p t.below h)

pub tree-deleted : (k : ℕ) (path : List ℕ) (t : CutTree) → AreParts k t.below → tree_of (deleted path t) ≡ cut_at path (tree_of t)
tree-deleted k [] t h = refl
tree-deleted k (p ∷ []) t h = ap (λ (f : Forest). rooted t f) (forest-removed_row k p t.below h)
tree-deleted k (p ∷ q ∷ path) t h =
    ap (λ (f : Forest). rooted t f) (forest-changed_row k (deleted (q ∷ path)) (cut_at (q ∷ path)) (λ u g. tree-deleted k (q ∷ path) u g) p t.below h)

pub tree-retexted : (k : ℕ) (content path : List ℕ) (t : CutTree) → AreParts k t.below → tree_of (retexted content path t) ≡ retext content path (tree_of t)
tree-retexted k content [] t h = refl
tree-retexted k content (p ∷ path) t h =
    ap (λ (f : Forest). rooted t f) (forest-changed_row k (retexted content path) (retext content path) (λ u g. tree-retexted k content path u g) p t.below h)
