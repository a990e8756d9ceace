-- A document stays one after an edit that isn't refused.
use Rattle.std.proofs.Common.{◌≡◌, ℕ, ◌+◌, ◌-◌, ◌≤◌, Bool, true, false, not, ◌&&◌, nat_lt, List, [], ◌∷◌, length, Option, None, Some, Result, Ok, Err, OnOk, OnErr, refl, sym, ap, ◌∙◌, subst, arith}
use Rattle.std.specs.Prelude.{◌≢◌, IfErr, if◌then◌else◌, IfSome, is_some, option_and_then}
use Rattle.std.specs.Option.{option_map_or, option_or}
use Rattle.std.specs.Result.{result_err}
use Rattle.std.specs.List.{insert}
use Rattle.std.proofs.lemmas.Bool.{or_parts, ltb-false, not-false}
use Rattle.nx_tree.specs.declared.node.Kind.{Kind}
use Rattle.nx_tree.specs.declared.node.Kind.TheVariants.{Doc, Element, Attribute, Text, Instruction}
use Rattle.nx_tree.specs.declared.node.Node.{Node}
use Rattle.nx_tree.specs.declared.error.TreeError.{TreeError}
use Rattle.nx_tree.specs.declared.error.TreeError.TheVariants.{NoNode, BadPlace, NoContent, Memory}
use Rattle.nx_tree.specs.Forest.{OrderedTree, Empty, forest_of, trees_of, nodes}
use Rattle.nx_tree.specs.Document.{is_doc, is_element, is_instruction, HasParts, depth, IsDocument, longest_node, deepest, most_nodes}
use Rattle.nx_tree.specs.Edit.{child, at, changed_at, planted_at, cut_at, retext, has_children, is_unordered, is_misplaced, is_root_element, cut_refusal, delete_refusal, retext_refusal}
use Rattle.nx_tree.proofs.PlaceLemmas.{forest_of-insert, nodes-planted_at}
use Rattle.nx_tree.proofs.ForestLemmas.{trees_of-forest_of}
use Rattle.nx_tree.proofs.EditLemmas.{nodes-retext}
use Rattle.nx_tree.proofs.OrderLemmas.{SameFace}
use Rattle.nx_tree.proofs.SoundLemmas.{IsTree, has_changed, has_removed, forest_changed, forest_removed, depth_child, depth_changed, depth_removed, top_changed, top_removed, elements_changed, elements_removed, nodes_removed, nodes_changed_less}

-- a document with one child of its root changed
pub document_changed : (tree : OrderedTree) (i : ℕ) (change : OrderedTree → OrderedTree) → IsDocument tree → ((t : OrderedTree) → SameFace t (change t)) → ((t : OrderedTree) → child tree.below i ≡ Some t → IsTree t → IsTree (change t))
    → depth (changed_at i change tree.below) ≤ deepest → 1 + nodes (changed_at i change tree.below) ≤ most_nodes → IsDocument (record tree { below = changed_at i change tree.below })
document_changed tree i change d same keeps low few = record {
  root = d.root;
  unnamed = d.unnamed;
  bare = d.bare;
  top = top_changed tree.below i change same d.top;
  one = elements_changed tree.below i change same ∙ d.one;
  forest = forest_changed tree.below i change d.forest keeps;
  shallow = low;
  small = few;
}

-- an edit that isn't refused makes a document, and a refused one leaves it
pub document_kept : (r : Result (Unit {0}) TreeError) (refusal : Option TreeError) (old new edited : OrderedTree) → OnOk r (new ≡ edited) → OnErr r (new ≡ old) → (OnOk r (refusal ≡ None)) → (refusal ≡ None → IsDocument edited) → IsDocument old → IsDocument new
document_kept (Ok x) refusal old new edited ok err none keeps d = subst IsDocument (sym ok) (keeps none)
document_kept (Err e) refusal old new edited ok err none keeps d = subst IsDocument (sym err) d

pub none_on_ok : (r : Result (Unit {0}) TreeError) (refusal : Option TreeError) → result_err r ≡ refusal → OnOk r (refusal ≡ None)
none_on_ok (Ok x) refusal e = sym e
none_on_ok (Err x) refusal e = tt

-- another content:

pub face_retext : (content path : List ℕ) (t : OrderedTree) → SameFace t (retext content path t)
face_retext content [] t = record { kind = refl; name = refl }
face_retext content (p ∷ path) t = record { kind = refl; name = refl }

-- what a path leads to from a child is what it leads to from the tree
at-child : (t x : OrderedTree) (p : ℕ) (path : List ℕ) → child t.below p ≡ Some x → at t (p ∷ path) ≡ at x path
at-child t x p path e = ap (option_and_then (λ y. at y path)) e

retext_refusal-child : (t x : OrderedTree) (p : ℕ) (path : List ℕ) → child t.below p ≡ Some x → retext_refusal (p ∷ path) t ≡ retext_refusal path x
retext_refusal-child t x p path e = ap (λ (o : Option OrderedTree). option_map_or (λ (y : OrderedTree). if has_children y.node.kind then Some NoContent else None) o (Some NoNode)) (at-child t x p path e)

parts_retext : (kind : Kind) (name content new : List ℕ) → (if has_children kind then Some NoContent else None) ≡ None → HasParts kind name content → HasParts kind name new
parts_retext Doc name content new e h = absurd (cc)
parts_retext Element name content new e h = absurd (cc)
parts_retext Attribute name content new e h = h
parts_retext Text name content new e h = h
parts_retext Instruction name content new e h = h

tree_retext : (content path : List ℕ) (t : OrderedTree) → retext_refusal path t ≡ None → IfSome (at t path) (λ x. length x.node.name + length content ≤ longest_node) → IsTree t → IsTree (retext content path t)
tree_retext content [] t e short h = record {
  node = record { parts = parts_retext t.node.kind t.node.name t.node.content content e h.node.parts; short = short };
  has = h.has;
  forest = h.forest;
}
tree_retext content (p ∷ path) t e short h = record {
  node = h.node;
  has = has_changed t.node.kind t.below p (retext content path) (face_retext content path) h.has;
  forest = forest_changed t.below p (retext content path) h.forest
      (λ x here tree. tree_retext content path x (sym (retext_refusal-child t x p path here) ∙ e)
      (subst (λ (o : Option OrderedTree). IfSome o (λ y. length y.node.name + length content ≤ longest_node)) (at-child t x p path here) short) tree);
}

depth_retext : (content path : List ℕ) (t : OrderedTree) (n : ℕ) → depth t.below ≤ n → depth (retext content path t).below ≤ n
depth_retext content [] t n h = h
depth_retext content (p ∷ path) t n h =
    depth_changed t.below p (retext content path) n
    (λ x here. let d = depth_child t.below p x here in let e = depth_retext content path x (n - 1) (omega arith) in omega arith) h

pub document_retext : (content path : List ℕ) (t : OrderedTree) → IfSome (at t path) (λ x. length x.node.name + length content ≤ longest_node) → IsDocument t → retext_refusal path t ≡ None → IsDocument (retext content path t)
document_retext content [] t short d e =
    let k = ap (λ (kind : Kind). if has_children kind then Some NoContent else None) d.root in absurd (cc)
document_retext content (p ∷ path) t short d e =
    document_changed t p (retext content path) d (face_retext content path)
    (λ x here tree. tree_retext content path x (sym (retext_refusal-child t x p path here) ∙ e)
    (subst (λ (o : Option OrderedTree). IfSome o (λ y. length y.node.name + length content ≤ longest_node)) (at-child t x p path here) short) tree)
    (depth_retext content (p ∷ path) t deepest d.shallow)
    (let m = nodes-retext content (p ∷ path) t in let s = d.small in omega arith)

-- a tree taken away:

pub face_cut : (path : List ℕ) (t : OrderedTree) → SameFace t (cut_at path t)
face_cut [] t = record { kind = refl; name = refl }
face_cut (p ∷ []) t = record { kind = refl; name = refl }
face_cut (p ∷ q ∷ path) t = record { kind = refl; name = refl }

tree_cut : (path : List ℕ) (t : OrderedTree) → IsTree t → IsTree (cut_at path t)
tree_cut [] t h = h
tree_cut (p ∷ []) t h = record { node = h.node; has = has_removed t.node.kind t.below p h.has; forest = forest_removed t.below p h.forest }
tree_cut (p ∷ q ∷ path) t h = record {
  node = h.node;
  has = has_changed t.node.kind t.below p (cut_at (q ∷ path)) (face_cut (q ∷ path)) h.has;
  forest = forest_changed t.below p (cut_at (q ∷ path)) h.forest (λ x here tree. tree_cut (q ∷ path) x tree);
}

depth_cut : (path : List ℕ) (t : OrderedTree) (n : ℕ) → depth t.below ≤ n → depth (cut_at path t).below ≤ n
depth_cut [] t n h = h
depth_cut (p ∷ []) t n h = omega (arith, depth_removed t.below p)
depth_cut (p ∷ q ∷ path) t n h =
    depth_changed t.below p (cut_at (q ∷ path)) n
    (λ x here. let d = depth_child t.below p x here in let e = depth_cut (q ∷ path) x (n - 1) (omega arith) in omega arith) h

nodes_cut : (path : List ℕ) (t : OrderedTree) → nodes (cut_at path t).below ≤ nodes t.below
nodes_cut [] t = omega arith
nodes_cut (p ∷ []) t = nodes_removed t.below p
nodes_cut (p ∷ q ∷ path) t = nodes_changed_less t.below p (cut_at (q ∷ path)) (nodes_cut (q ∷ path))

-- the child that is taken away is no element
cut_other : (t : OrderedTree) (p : ℕ) → delete_refusal (p ∷ []) t ≡ None → (x : OrderedTree) × (child t.below p ≡ Some x) × (is_element x.node.kind ≡ false)
cut_other t p e = go (child t.below p) refl e
  where
    go : (o : Option OrderedTree) → child t.below p ≡ o → option_or (if is_some (option_and_then (λ y. at y []) o) then None else Some NoNode) (if option_map_or (λ (y : OrderedTree). is_element y.node.kind) (option_and_then (λ y. at y []) o) false then Some BadPlace else None) ≡ None
        → (x : OrderedTree) × (child t.below p ≡ Some x) × (is_element x.node.kind ≡ false)
    go None here e = absurd (cc)
    go (Some x) here e = (x, here, other (is_element x.node.kind) e)
      where
        other : (b : Bool) → (if b then Some BadPlace else None) ≡ None → b ≡ false
        other true e = absurd (cc)
        other false e = refl

pub document_cut : (path : List ℕ) (t : OrderedTree) → IsDocument t → delete_refusal path t ≡ None → IsDocument (cut_at path t)
document_cut [] t d e = d
document_cut (p ∷ []) t d e =
    let x = cut_other t p e in
    record {
      root = d.root;
      unnamed = d.unnamed;
      bare = d.bare;
      top = top_removed t.below p d.top;
      one = elements_removed t.below p x.0 x.1 x.2 ∙ d.one;
      forest = forest_removed t.below p d.forest;
      shallow = (let s = d.shallow in omega (arith, depth_removed t.below p));
      small = (let s = d.small in omega (arith, nodes_removed t.below p));
    }
document_cut (p ∷ q ∷ path) t d e =
    document_changed t p (cut_at (q ∷ path)) d (face_cut (q ∷ path)) (λ x here tree. tree_cut (q ∷ path) x tree)
    (depth_cut (p ∷ q ∷ path) t deepest d.shallow)
    (let m = nodes_cut (p ∷ q ∷ path) t in let s = d.small in omega arith)

pub delete_goes : (path : List ℕ) (t : OrderedTree) → None ≡ cut_refusal path t → false ≡ is_root_element path t → delete_refusal path t ≡ None
delete_goes path t e r = rw (← e, ← r) refl

-- a node put:

-- The node may stand at that position below this parent.
pub record Fits (node : Node) (position : ℕ) (parent : OrderedTree) : Type 0 where
  pub parents : has_children parent.node.kind ≡ true
  pub rooted : (is_doc parent.node.kind && not (is_instruction node.kind)) ≡ false
  pub within : position ≤ length (trees_of parent.below)
  pub ordered : is_unordered node.kind position (trees_of parent.below) ≡ false

pub fits : (node : Node) (position : ℕ) (parent : OrderedTree) → is_misplaced node position parent ≡ false → Fits node position parent
fits node position parent e =
    let a = or_parts _ (is_unordered node.kind position (trees_of parent.below)) e in
    let b = or_parts _ (nat_lt (length (trees_of parent.below)) position) a.0 in
    let c = or_parts (not (has_children parent.node.kind)) (is_doc parent.node.kind && not (is_instruction node.kind)) b.0 in
    record { parents = not-false (has_children parent.node.kind) c.0; rooted = c.1; within = ltb-false (length (trees_of parent.below)) position b.1; ordered = a.1 }

-- the position is within the children
pub room : (node : Node) (position : ℕ) (tree : OrderedTree) (parent : Node) (items : List OrderedTree) → tree ≡ record { node = parent; below = forest_of items } → false ≡ is_misplaced node position tree → position ≤ length items
room node position tree parent items e placed =
    let w = (fits node position tree (sym placed)).within in
    let l = ap (λ (t : OrderedTree). length (trees_of t.below)) e ∙ ap length (trees_of-forest_of items) in
    omega arith

pub plants : (tree : OrderedTree) (node : Node) (items new : List OrderedTree) (i : ℕ) (t : OrderedTree) → tree ≡ record { node = node; below = forest_of items } → i ≤ length items → new ≡ insert items i t → record { node = node; below = forest_of new } ≡ record tree { below = planted_at i t tree.below }
plants tree node items new i t e within n = rw (n, e) (ap (λ f. record { node = node; below = f }) (forest_of-insert items i t within))

pub nodes-plants : (items new : List OrderedTree) (i n : ℕ) (t : OrderedTree) → i ≤ length items → new ≡ insert items i t → t.below ≡ Empty → n ≡ nodes (forest_of items) → n + 1 ≡ nodes (forest_of new)
nodes-plants items new i n t within e leaf count =
    let a = ap (λ (x : List OrderedTree). nodes (forest_of x)) e in
    let b = ap nodes (forest_of-insert items i t within) in
    let l = ap length (trees_of-forest_of items) in
    let d = nodes-planted_at (forest_of items) i t (omega arith) in
    let z = ap nodes leaf in
    omega arith

retext_named : (path : List ℕ) (t : OrderedTree) → retext_refusal path t ≡ Some Memory → ⊥
retext_named path t e = go (at t path) e
  where
    chosen : (b : Bool) → (if b then Some NoContent else None) ≡ Some Memory → ⊥
    chosen true e = cc
    chosen false e = cc

    go : (o : Option OrderedTree) → option_map_or (λ (x : OrderedTree). if has_children x.node.kind then Some NoContent else None) o (Some NoNode) ≡ Some Memory → ⊥
    go None e = cc
    go (Some x) e = chosen (has_children x.node.kind) e

cut_named : (path : List ℕ) (t : OrderedTree) → cut_refusal path t ≡ Some Memory → ⊥
cut_named [] t e = cc
cut_named (p ∷ path) t e = go (is_some (at t (p ∷ path))) e
  where
    go : (b : Bool) → (if b then None else Some NoNode) ≡ Some Memory → ⊥
    go true e = cc
    go false e = cc

-- no want of memory is among the refusals of another content
pub retext_spares : (r : Result (Unit {0}) TreeError) (path : List ℕ) (t : OrderedTree) → result_err r ≡ retext_refusal path t → IfErr r (λ e. e ≢ Memory)
retext_spares (Ok x) path t h = tt
retext_spares (Err e) path t h = λ m. retext_named path t (sym h ∙ ap (λ (x : TreeError). Some x) m)

-- nor among those of a removal
pub cut_spares : (r : Result (Unit {0}) TreeError) (e : TreeError) (path : List ℕ) (t : OrderedTree) → (y : TreeError) × (r ≡ Err y) × (y ≡ e) → Some e ≡ cut_refusal path t → IfErr r (λ x. x ≢ Memory)
cut_spares r e path t p h =
    subst (λ (o : Result (Unit {0}) TreeError). IfErr o (λ x. x ≢ Memory)) (sym p.1) (λ m. cut_named path t (sym h ∙ ap (λ (x : TreeError). Some x) (sym p.2 ∙ m)))
