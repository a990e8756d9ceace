-- Another tree in the place of one of a piece.
use Rattle.std.proofs.Common.{◌≡◌, ℕ, zero, suc, ◌+◌, ◌-◌, ◌≤◌, List, [], ◌∷◌, length, take, drop, set, refl, sym, ap, ap₂, ◌∙◌, subst, arith}
use Rattle.std.proofs.lemmas.List.{drop-drop}
use Rattle.std.specs.Prelude.{Option}
use Rattle.nx_piece.specs.declared.piece.Far.{Far}
use Rattle.nx_piece.specs.PieceNode.{MayBeFar, PieceNode, node_weight, item_slots}
use Rattle.nx_piece.specs.declared.piece.Item.{Item}
use Rattle.nx_piece.specs.declared.piece.Item.TheVariants.{Tree}
use Rattle.nx_piece.specs.declared.piece.Piece.{Piece}
use Rattle.nx_piece.specs.declared.piece.Proxy.{Proxy}
use Rattle.nx_piece.specs.Gapped.{Gapped, GappedTree, End, Grow, Gap, gapped_width, gapped_size, proxies_in, grown_of}
use Rattle.nx_piece.specs.Items.{gapped_of}
use Rattle.nx_piece.specs.Valid.{AreApart, AreFar, AreTrees, BeginsNoGap, IsBodyWithin}
use Rattle.nx_piece.specs.Locate.{PieceChild, Inside, roots_of, kept_from, children_of, reached_in}
use Rattle.nx_piece.specs.Found.{StandsAmong}
use Rattle.nx_piece_edits.specs.Taking.{led}
use Rattle.nx_piece_edits.specs.Shortening.{items_before, grown_before}
use Rattle.nx_piece_edits.specs.Setting.{with_tree, tree_with, with_content, IsWithContent}
use Rattle.nx_piece.proofs.SizeLemmas.{gapped_sum, sum_is_weight, sum_is_size}
use Rattle.nx_piece.proofs.LocateLemmas.{kept_length}
use Rattle.nx_piece_edits.proofs.TakeLemmas.{there_within, led_nowhere, stands_set}
use Rattle.nx_piece_edits.proofs.LeftLemmas.{all_kept, passes_kept, tree_reached}
use Rattle.nx_piece_edits.proofs.RootLemmas.{RootStands, root_there, grown_set}
use Rattle.nx_piece_edits.proofs.ShortLemmas.{item_set}

-- What stays of trees and gaps in which one tree is replaced, and how much more each measure of nodes says of them.
pub record KeepsForm (f g : Gapped) (t new : GappedTree) : Type 0 where
  pub sums : (measure : PieceNode → ℕ) → gapped_sum measure g + (measure t.node + gapped_sum measure t.below) ≡ gapped_sum measure f + (measure new.node + gapped_sum measure new.below)
  pub width : gapped_width g ≡ gapped_width f
  pub trees : AreTrees f → AreTrees g
  pub begins : BeginsNoGap f → BeginsNoGap g
  pub apart : AreApart f → (AreApart t.below → AreApart new.below) → AreApart g
  pub counted : proxies_in g + proxies_in t.below ≡ proxies_in f + proxies_in new.below
  pub far : AreFar f → MayBeFar new.node → (AreFar t.below → AreFar new.below) → AreFar g

form_here : (t new : GappedTree) (s : Gapped) → KeepsForm (Grow t.node t.below s) (Grow new.node new.below s) t new
form_here t new s = record {
  sums = λ measure. omega arith;
  width = refl;
  trees = λ h. h;
  begins = λ h. tt;
  apart = λ h k. (k h.0, h.1);
  far = λ h m k. (m, k h.1, h.2);
  counted = omega arith;
}

form_below : (n : PieceNode) (b g s : Gapped) (t new : GappedTree) → KeepsForm b g t new → KeepsForm (Grow n b s) (Grow n g s) t new
form_below n b g s t new h = record {
  sums = λ measure. let w = h.sums measure in omega arith;
  width = refl;
  trees = λ x. x;
  begins = λ x. tt;
  apart = λ x k. (h.apart x.0 k, x.1);
  far = λ x m k. (x.0, h.far x.1 m k, x.2);
  counted = let c = h.counted in omega arith;
}

form_beside : (n : PieceNode) (b s g : Gapped) (t new : GappedTree) → KeepsForm s g t new → KeepsForm (Grow n b s) (Grow n b g) t new
form_beside n b s g t new h = record {
  sums = λ measure. let w = h.sums measure in omega arith;
  width = ap (λ (w : ℕ). 1 + w) h.width;
  trees = λ x. h.trees x;
  begins = λ x. tt;
  apart = λ x k. (x.0, h.apart x.1 k);
  far = λ x m k. (x.0, x.1, h.far x.2 m k);
  counted = let c = h.counted in omega arith;
}

form_gap : (count : ℕ) (s g : Gapped) (t new : GappedTree) → KeepsForm s g t new → KeepsForm (Gap count s) (Gap count g) t new
form_gap count s g t new h = record {
  sums = h.sums;
  width = ap (λ (w : ℕ). 1 + w) h.width;
  trees = λ x. absurd x;
  begins = λ x. absurd x;
  apart = λ x k. (x.0, h.begins x.1, h.apart x.2 k);
  far = h.far;
  counted = let c = h.counted in omega arith;
}

pub set_keeps : (proxies : List Proxy) (first used position : ℕ) (path : List ℕ) (f : Gapped) (t : GappedTree) (before : ℕ) (new : GappedTree) → led proxies first f used position path ≡ Inside t before
    → KeepsForm f (with_tree position path new f (drop first proxies)) t new
set_keeps proxies first used position path End t before new e = absurd (led_nowhere proxies used path t before e)
set_keeps proxies first used zero [] (Grow n b s) t before new e =
    let own : GappedTree = record { node = n; below = b } in
    subst (λ (u : GappedTree). KeepsForm (Grow n b s) (Grow new.node new.below s) u new) (ap (tree_reached own) e) (form_here own new s)
set_keeps proxies first used zero (next ∷ path) (Grow n b s) t before new e =
    form_below n b (with_tree next path new b (drop first proxies)) s t new (set_keeps proxies first (used + 1) next path b t before new e)
set_keeps proxies first used (suc position) path (Grow n b s) t before new e =
    let h = set_keeps proxies (first + proxies_in b) used position path s t before new e in
    let d = ap (λ (ps : List Proxy). with_tree position path new s ps) (drop-drop (proxies_in b) first proxies) in
    form_beside n b s (with_tree position path new s (drop (proxies_in b) (drop first proxies))) t new (subst (λ g. KeepsForm s g t new) (sym d) h)
set_keeps proxies first used position path (Gap c s) t before new e =
    let kept : List PieceChild = kept_from first (take c (drop first proxies)) in
    let p = passes_kept proxies used path kept (children_of proxies (first + c) s) position t before (all_kept first (take c (drop first proxies))) e in
    let long : length kept ≡ roots_of (take c (drop first proxies)) = kept_length first (take c (drop first proxies)) in
    let q : position ≡ length kept + p.0 = p.1 in
    let left : position - roots_of (take c (drop first proxies)) ≡ p.0 = omega arith in
    let h = set_keeps proxies (first + c) used p.0 path s t before new p.2 in
    let d = ap₂ (λ (n : ℕ) (ps : List Proxy). with_tree n path new s ps) left (drop-drop c first proxies) in
    form_gap c s (with_tree (position - roots_of (take c (drop first proxies))) path new s (drop c (drop first proxies))) t new (subst (λ g. KeepsForm s g t new) (sym d) h)

-- A piece in which a node has another content:

pub content_within : {most_roots slots more : ℕ} {roots g : Gapped} {n : ℕ} {t new : GappedTree} → IsBodyWithin most_roots slots roots n → KeepsForm roots g t new → new.below ≡ t.below → MayBeFar new.node → gapped_size g ≤ more → IsBodyWithin most_roots more g n
content_within {most_roots} {slots} {more} {roots} {g} {n} {t} {new} h k same may small =
    let width = k.width in
    let counts = k.counted in
    let some = h.some in
    let few = h.few in
    let counted = h.counted in
    let below = ap proxies_in same in
    record {
      trees = k.trees h.trees;
      some = omega (arith, width, some);
      few = omega (arith, width, few);
      small = small;
      apart = k.apart h.apart (λ a. subst AreApart (sym same) a);
      far = k.far h.far may (λ a. subst AreFar (sym same) a);
      counted = omega (arith, counts, counted, below);
      few_proxies = h.few_proxies;
    }

pub within_more : {roots slots most more : ℕ} {f : Gapped} {n : ℕ} → IsBodyWithin roots slots f n → roots ≤ most → slots ≤ more → IsBodyWithin most more f n
within_more {roots} {slots} {most} {more} {f} {n} h wide large =
    let few = h.few in
    let small = h.small in
    record {
      trees = h.trees;
      some = h.some;
      few = omega (arith, few, wide);
      small = omega (arith, small, large);
      apart = h.apart;
      far = h.far;
      counted = h.counted;
      few_proxies = h.few_proxies;
    }

pub content_is : (piece : Piece) (member : ℕ) (path content : List ℕ) (far : Option Far) (roots : Gapped) (tree : GappedTree) (first : ℕ) → reached_in piece member path ≡ Inside tree first
    → roots ≡ with_tree member path (with_content content far tree) piece.body.roots piece.proxies → IsWithContent piece member path content far (record { body = record { roots = roots }; proxies = piece.proxies })
content_is piece member path content far roots tree first e is =
    let new : GappedTree = with_content content far tree in
    let k : KeepsForm piece.body.roots roots tree new = subst (λ g. KeepsForm piece.body.roots g tree new) (sym is) (set_keeps piece.proxies 0 0 member path piece.body.roots tree first new e) in
    let weights = k.sums node_weight in
    let sizes = k.sums item_slots in
    let sized : gapped_size roots + item_slots tree.node ≡ gapped_size piece.body.roots + item_slots new.node =
    omega (arith, sizes, sum_is_size roots, sum_is_size piece.body.roots) in
    record {
      tree = tree;
      first = first;
      leads = e;
      body = is;
      proxies = refl;
      weighs = omega (arith, weights, sum_is_weight roots, sum_is_weight piece.body.roots);
      sized = sized;
      large = λ v may most.
          let small = v.body.small in
          record { body = within_more (content_within {more = 512} v.body k refl may (omega (arith, sized, small, most))) (omega arith) (omega arith); ranged = v.ranged };
      valid = λ v may most. record { body = content_within v.body k refl may most; ranged = v.ranged };
    }

-- Where it was set:

abbrev pub pair : PieceNode → Gapped → GappedTree
pair node below = record { node = node; below = below }

with_first : (path : List ℕ) (new t : GappedTree) (s : Gapped) (proxies : List Proxy) → with_tree 0 path new (Grow t.node t.below s) proxies ≡ (let u : GappedTree = tree_with path new t proxies in Grow u.node u.below s)
with_first [] new t s proxies = refl
with_first (next ∷ path) new t s proxies = refl

pub tree_set : {items : List Item} {proxies : List Proxy} {first position before index : ℕ} {t : GappedTree} (path : List ℕ) (new other : GappedTree) → StandsAmong items proxies first position t before index
    → other ≡ tree_with path new t (drop before proxies) → gapped_of (set items index (Tree other)) ≡ with_tree position path new (gapped_of items) (drop first proxies)
tree_set {items} {proxies} {first} {position} {before} {index} {t} path new other h is =
    item_set items index (Tree other) (there_within items index (Tree t) h.there)
    ∙ ap (λ (u : GappedTree). items_before (take index items) (Grow u.node u.below (gapped_of (drop (index + 1) items)))) is
    ∙ ap (λ (f : Gapped). items_before (take index items) f) (sym (with_first path new t (gapped_of (drop (index + 1) items)) (drop before proxies)))
    ∙ ap (λ (xs : List Item). items_before (take index items) (with_tree 0 path new (gapped_of xs) (drop before proxies))) (sym h.there)
    ∙ sym (stands_set path new h)

pub root_set : {roots : List GappedTree} {proxies : List Proxy} {first member before : ℕ} {t : GappedTree} (path : List ℕ) (new other : GappedTree) → RootStands roots proxies first member t before
    → other ≡ tree_with path new t (drop before proxies) → grown_of (set roots member other) ≡ with_tree member path new (grown_of roots) (drop first proxies)
root_set {roots} {proxies} {first} {member} {before} {t} path new other h is =
    grown_set roots member other (there_within roots member t (root_there h))
    ∙ ap (λ (u : GappedTree). grown_before (take member roots) (Grow u.node u.below (grown_of (drop (suc member) roots)))) is
    ∙ ap (λ (f : Gapped). grown_before (take member roots) f) (sym (with_first path new t (grown_of (drop (suc member) roots)) (drop before proxies)))
    ∙ sym (h.set path new)
