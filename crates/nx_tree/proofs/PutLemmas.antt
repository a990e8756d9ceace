-- A node put at a path: what refuses it, and what it leaves of a document.
use Rattle.std.proofs.Common.{◌≡◌, ℕ, suc, ◌+◌, ◌-◌, ◌<◌, ◌≤◌, Bool, true, false, not, ◌&&◌, ◌||◌, ◌==◌, IsTrue, List, [], ◌∷◌, length, take, Option, None, Some, Result, Ok, Err, OnOk, refl, sym, ap, ◌∙◌, arith, slice_set}
use Rattle.std.specs.Prelude.{if◌then◌else◌, nat_lt, nat_le, slice_index, slice_get, option_and_then}
use Rattle.std.specs.Option.{option_map_or, option_or}
use Rattle.std.specs.List.{list_any}
use Rattle.std.specs.Str.{bytes_eq}
use Rattle.std.proofs.lemmas.Bool.{ltb-false, leb-false}
use Rattle.std.proofs.lemmas.Bool.Decides.{Decides-eqb}
use Rattle.nx_tree.specs.declared.node.Kind.{Kind}
use Rattle.nx_tree.specs.declared.node.Kind.TheVariants.{Doc, Element, Attribute, Text, Instruction}
use Rattle.nx_tree.specs.declared.node.Node.{Node}
use Rattle.nx_tree.specs.declared.error.TreeError.{TreeError}
use Rattle.nx_tree.specs.declared.error.TreeError.TheVariants.{NoNode, BadPlace, Twice, TooDeep, TooMany}
use Rattle.nx_tree.specs.Forest.{OrderedTree, Forest, Empty, Plant, forest_of, nodes}
use Rattle.nx_tree.specs.Document.{is_doc, is_element, is_attribute, is_instruction, attribute_names, AttributesComeFirst, MayHave, HasParts, IsNode, IsForest, IsTop, HasNoAttribute, depth, IsDocument, deepest, most_nodes}
use Rattle.nx_tree.specs.Edit.{child, at, changed_at, put, has_children, parent_path, last_position, is_misplaced, is_repeated, place_refusal, limit_refusal, put_refusal, insert_refusal, refusal_in}
use Rattle.nx_tree.proofs.PlaceLemmas.{nodes-planted_at, nodes-child}
use Rattle.nx_tree.proofs.EditLemmas.{IsStep, child-at, child-missing, changes, nodes-changes}
use Rattle.nx_tree.proofs.OrderLemmas.{SameFace, none_first}
use Rattle.nx_tree.proofs.SoundLemmas.{IsTree, child_tree, has_ordered, has_changed, has_planted, forest_changed, forest_planted, depth_child, depth_changed, depth_planted, top_planted, elements_planted, nodes_changed_more}
use Rattle.nx_tree.proofs.KeptLemmas.{document_changed, Fits, fits}

parent_path-more : (i p : ℕ) (path : List ℕ) → parent_path (i ∷ p ∷ path) ≡ i ∷ parent_path (p ∷ path)
parent_path-more i p path = let e : suc (suc (length path)) - 1 ≡ suc (suc (length path) - 1) = omega arith in ap (λ n. take n (i ∷ p ∷ path)) e

last_position-more : (i p : ℕ) (path : List ℕ) → last_position (i ∷ p ∷ path) ≡ last_position (p ∷ path)
last_position-more i p path = let e : suc (suc (length path)) - 1 ≡ suc (suc (length path) - 1) = omega arith in ap (slice_index (i ∷ p ∷ path)) e

-- why nothing can be put at that position below what stands here
abbrev put_below : Option TreeError → Node → ℕ → Option OrderedTree → Option TreeError
put_below limit node position parent = option_map_or (λ t. option_or (place_refusal node position t) limit) parent (Some NoNode)

put_refusal-step : (limit : Option TreeError) (node : Node) (i p : ℕ) (path : List ℕ) (tree : OrderedTree) →
    put_refusal limit node (i ∷ p ∷ path) tree ≡ put_below limit node (last_position (p ∷ path)) (option_and_then (λ t. at t (parent_path (p ∷ path))) (child tree.below i))
put_refusal-step limit node i p path tree =
    ap (λ n. put_below limit node n (at tree (parent_path (i ∷ p ∷ path)))) (last_position-more i p path)
    ∙ ap (λ q. put_below limit node (last_position (p ∷ path)) (at tree q)) (parent_path-more i p path)

-- it is refused below a child as below the tree
pub put_refusal-more : (limit : Option TreeError) (node : Node) (i p : ℕ) (path : List ℕ) (tree t : OrderedTree) → child tree.below i ≡ Some t → put_refusal limit node (p ∷ path) t ≡ put_refusal limit node (i ∷ p ∷ path) tree
put_refusal-more limit node i p path tree t e =
    sym
    (put_refusal-step limit node i p path tree
    ∙ ap (λ o. put_below limit node (last_position (p ∷ path)) (option_and_then (λ x. at x (parent_path (p ∷ path))) o)) e)

put_refusal-none : (limit : Option TreeError) (node : Node) (i p : ℕ) (path : List ℕ) (tree : OrderedTree) → child tree.below i ≡ None → Some NoNode ≡ put_refusal limit node (i ∷ p ∷ path) tree
put_refusal-none limit node i p path tree e =
    sym
    (put_refusal-step limit node i p path tree
    ∙ ap (λ o. put_below limit node (last_position (p ∷ path)) (option_and_then (λ x. at x (parent_path (p ∷ path))) o)) e)

-- where it isn't refused there is a child, below which it isn't either
pub put_goes : (limit : Option TreeError) (node : Node) (i p : ℕ) (path : List ℕ) (tree : OrderedTree) → put_refusal limit node (i ∷ p ∷ path) tree ≡ None → (t : OrderedTree) × (child tree.below i ≡ Some t) × (put_refusal limit node (p ∷ path) t ≡ None)
put_goes limit node i p path tree e = go (child tree.below i) refl
  where
    go : (o : Option OrderedTree) → child tree.below i ≡ o → (t : OrderedTree) × (child tree.below i ≡ Some t) × (put_refusal limit node (p ∷ path) t ≡ None)
    go None here = let n = put_refusal-none limit node i p path tree here in absurd (cc)
    go (Some t) here = (t, here, put_refusal-more limit node i p path tree t here ∙ e)

no_or : (a b : Option TreeError) → option_or a b ≡ None → (a ≡ None) × (b ≡ None)
no_or None b e = (refl, e)
no_or (Some x) b e = absurd (cc)

-- a place that isn't refused
placed : (node : Node) (position : ℕ) (parent : OrderedTree) → place_refusal node position parent ≡ None → Fits node position parent × (is_repeated node parent ≡ false)
placed node position parent e = let p = go (is_misplaced node position parent) (is_repeated node parent) e in (fits node position parent p.0, p.1)
  where
    go : (a b : Bool) → (if a then Some BadPlace else (if b then Some Twice else None)) ≡ None → (a ≡ false) × (b ≡ false)
    go true b e = absurd (cc)
    go false true e = absurd (cc)
    go false false e = (refl, refl)

unrepeated : (a b : Bool) → (a && b) ≡ false → a ≡ true → b ≡ false
unrepeated true b e h = e
unrepeated false b e h = absurd (cc)

pub nodes_put : (limit : Option TreeError) (node : Node) (path : List ℕ) (t : OrderedTree) → put_refusal limit node path t ≡ None → nodes (put node path t).below ≡ nodes t.below + 1
nodes_put limit node [] t e = absurd (cc)
nodes_put limit node (i ∷ []) t e =
    let p = placed node i t (no_or (place_refusal node i t) limit e).0 in
    omega (arith, nodes-planted_at t.below i (record { node = node; below = Empty }) p.0.within)
nodes_put limit node (i ∷ p ∷ path) t e =
    let x = put_goes limit node i p path t e in
    nodes_changed_more t.below i x.0 (put node (p ∷ path)) x.1 (nodes_put limit node (p ∷ path) x.0 x.2)

pub face_put : (node : Node) (path : List ℕ) (t : OrderedTree) → SameFace t (put node path t)
face_put node [] t = record { kind = refl; name = refl }
face_put node (i ∷ []) t = record { kind = refl; name = refl }
face_put node (i ∷ p ∷ path) t = record { kind = refl; name = refl }

leaf_has : (k : Kind) → MayHave k Empty
leaf_has Doc = refl
leaf_has Element = (tt, tt)
leaf_has Attribute = refl
leaf_has Text = refl
leaf_has Instruction = refl

leaf_tree : (node : Node) → IsNode node → IsTree (record { node = node; below = Empty })
leaf_tree node h = record { node = h; has = leaf_has node.kind; forest = tt }

-- what has children below the root is an element
element_parent : (k : Kind) (name content : List ℕ) → HasParts k name content → has_children k ≡ true → is_element k ≡ true
element_parent Doc name content h e = absurd h
element_parent Element name content h e = refl
element_parent Attribute name content h e = absurd (cc)
element_parent Text name content h e = absurd (cc)
element_parent Instruction name content h e = absurd (cc)

tree_put : (limit : Option TreeError) (node : Node) (path : List ℕ) (t : OrderedTree) → IsNode node → put_refusal limit node path t ≡ None → IsTree t → IsTree (put node path t)
tree_put limit node [] t is e h = h
tree_put limit node (i ∷ []) t is e h =
    let p = placed node i t (no_or (place_refusal node i t) limit e).0 in
    record {
      node = h.node;
      has = has_planted t.node.kind t.below i (record { node = node; below = Empty }) (element_parent t.node.kind t.node.name t.node.content h.node.parts p.0.parents) p.0.ordered
          (unrepeated (is_attribute node.kind) (list_any (bytes_eq node.name) (attribute_names t.below)) p.1) h.has;
      forest = forest_planted t.below i (record { node = node; below = Empty }) (leaf_tree node is) h.forest;
    }
tree_put limit node (i ∷ p ∷ path) t is e h = record {
  node = h.node;
  has = has_changed t.node.kind t.below i (put node (p ∷ path)) (face_put node (p ∷ path)) h.has;
  forest = forest_changed t.below i (put node (p ∷ path)) h.forest (λ x here tree. tree_put limit node (p ∷ path) x is (put_refusal-more limit node i p path t x here ∙ e) tree);
}

depth_put : (node : Node) (path : List ℕ) (t : OrderedTree) (n : ℕ) → length path ≤ n → depth t.below ≤ n → depth (put node path t).below ≤ n
depth_put node [] t n short h = h
depth_put node (i ∷ []) t n short h = depth_planted t.below i (record { node = node; below = Empty }) n (omega arith) h
depth_put node (i ∷ p ∷ path) t n short h =
    depth_changed t.below i (put node (p ∷ path)) n
    (λ x here. let d = depth_child t.below i x here in let e = depth_put node (p ∷ path) x (n - 1) (omega arith) (omega arith) in omega arith) h

-- the limits that a document keeps
within_limits : (path : List ℕ) (t : OrderedTree) → limit_refusal path t ≡ None → (length path ≤ deepest) × (1 + nodes t.below < most_nodes)
within_limits path t e = let p = go (nat_lt deepest (length path)) (nat_le most_nodes (1 + nodes t.below)) e in (ltb-false deepest (length path) p.0, leb-false most_nodes (1 + nodes t.below) p.1)
  where
    go : (a b : Bool) → (if a then Some TooDeep else (if b then Some TooMany else None)) ≡ None → (a ≡ false) × (b ≡ false)
    go true b e = absurd (cc)
    go false true e = absurd (cc)
    go false false e = (refl, refl)

-- what goes below the root is an instruction
rooted : (t : OrderedTree) (kind : Kind) → t.node.kind ≡ Doc → (is_doc t.node.kind && not (is_instruction kind)) ≡ false → is_instruction kind ≡ true
rooted t kind d e = go (is_instruction kind) (ap (λ (k : Kind). is_doc k && not (is_instruction kind)) (sym d) ∙ e)
  where
    go : (b : Bool) → not b ≡ false → b ≡ true
    go true e = refl
    go false e = absurd (cc)

instruction_top : (k : Kind) → is_instruction k ≡ true → IsTrue (is_element k || is_instruction k) × (is_element k ≡ false)
instruction_top Doc e = absurd (cc)
instruction_top Element e = absurd (cc)
instruction_top Attribute e = absurd (cc)
instruction_top Text e = absurd (cc)
instruction_top Instruction e = (refl, refl)

-- nothing but what the place and the limits refuse
limited : (node : Node) (i : ℕ) (path : List ℕ) (t : OrderedTree) → insert_refusal node (i ∷ path) t ≡ None → limit_refusal (i ∷ path) t ≡ None
limited node i path t e = go (at t (parent_path (i ∷ path))) e
  where
    go : (o : Option OrderedTree) → put_below (limit_refusal (i ∷ path) t) node (last_position (i ∷ path)) o ≡ None → limit_refusal (i ∷ path) t ≡ None
    go None e = absurd (cc)
    go (Some x) e = (no_or (place_refusal node (last_position (i ∷ path)) x) (limit_refusal (i ∷ path) t) e).1

pub document_put : (node : Node) (path : List ℕ) (t : OrderedTree) → IsNode node → IsDocument t → insert_refusal node path t ≡ None → IsDocument (put node path t)
document_put node [] t is d e = d
document_put node (i ∷ []) t is d e =
    let leaf : OrderedTree = record { node = node; below = Empty } in
    let p = placed node i t (no_or (place_refusal node i t) (limit_refusal (i ∷ []) t) e).0 in
    let k = instruction_top node.kind (rooted t node.kind d.root p.0.rooted) in
    let n = nodes_put (limit_refusal (i ∷ []) t) node (i ∷ []) t e in
    let w = within_limits (i ∷ []) t (limited node i [] t e) in
    record {
      root = d.root;
      unnamed = d.unnamed;
      bare = d.bare;
      top = top_planted t.below i leaf k.0 d.top;
      one = elements_planted t.below i leaf k.1 ∙ d.one;
      forest = forest_planted t.below i leaf (leaf_tree node is) d.forest;
      shallow = depth_put node (i ∷ []) t deepest w.0 d.shallow;
      small = omega arith;
    }
document_put node (i ∷ p ∷ path) t is d e =
    let n = nodes_put (limit_refusal (i ∷ p ∷ path) t) node (i ∷ p ∷ path) t e in
    let w = within_limits (i ∷ p ∷ path) t (limited node i (p ∷ path) t e) in
    document_changed t i (put node (p ∷ path)) d (face_put node (p ∷ path))
    (λ x here tree. tree_put (limit_refusal (i ∷ p ∷ path) t) node (p ∷ path) x is (put_refusal-more (limit_refusal (i ∷ p ∷ path) t) node i p path t x here ∙ e) tree)
    (depth_put node (i ∷ p ∷ path) t deepest w.0 d.shallow)
    (omega arith)

put-deeper : (node : Node) (tree : OrderedTree) (i : ℕ) (rest : List ℕ) → false ≡ (length rest == 0) → record tree { below = changed_at i (put node rest) tree.below } ≡ put node (i ∷ rest) tree
put-deeper node tree i [] more = absurd (cc)
put-deeper node tree i (p ∷ path) more = refl

more_refuses : (limit : Option TreeError) (node : Node) (i : ℕ) (rest : List ℕ) (tree t : OrderedTree) → false ≡ (length rest == 0) → child tree.below i ≡ Some t → put_refusal limit node rest t ≡ put_refusal limit node (i ∷ rest) tree
more_refuses limit node i [] tree t more e = absurd (cc)
more_refuses limit node i (p ∷ path) tree t more e = put_refusal-more limit node i p path tree t e

more_misses : (limit : Option TreeError) (node : Node) (i : ℕ) (rest : List ℕ) (tree : OrderedTree) → false ≡ (length rest == 0) → child tree.below i ≡ None → Some NoNode ≡ put_refusal limit node (i ∷ rest) tree
more_misses limit node i [] tree more e = absurd (cc)
more_misses limit node i (p ∷ path) tree more e = put_refusal-none limit node i p path tree e

-- at a path of one position the parent decides
pub last_refuses : (limit : Option TreeError) (node : Node) (i : ℕ) (path rest : List ℕ) (tree : OrderedTree) → path ≡ i ∷ rest → true ≡ (length rest == 0) → option_or (place_refusal node i tree) limit ≡ put_refusal limit node path tree
last_refuses limit node i path [] tree e last = rw e refl
last_refuses limit node i path (p ∷ rest) tree e last = absurd (let z : suc (length rest) ≡ 0 = (Decides-eqb (suc (length rest)) 0).0 (sym last) in omega arith)

module _ (tree : OrderedTree) (path : List ℕ) (parent : Node) (items : List OrderedTree) (i : ℕ) (rest : List ℕ) (s : IsStep tree path parent items i rest) (more : false ≡ (length rest == 0)) where
  pub puts : (t new : OrderedTree) (node : Node) → slice_get items i ≡ Some t → new ≡ put node rest t → record { node = parent; below = forest_of (slice_set items i new) } ≡ put node path tree
  puts t new node g n = changes tree path parent items i rest s t new (put node rest) g n ∙ put-deeper node tree i rest more ∙ ap (λ p. put node p tree) (sym s.path_is)

  pub put_refuses : (limit : Option TreeError) (t : OrderedTree) (node : Node) → slice_get items i ≡ Some t → put_refusal limit node rest t ≡ put_refusal limit node path tree
  put_refuses limit t node g =
      more_refuses limit node i rest tree t more (child-at tree path parent items i rest s t g) ∙ ap (λ p. put_refusal limit node p tree) (sym s.path_is)

  pub put_misses : (limit : Option TreeError) (node : Node) → slice_get items i ≡ None → Some NoNode ≡ put_refusal limit node path tree
  put_misses limit node g =
      more_misses limit node i rest tree more (child-missing tree path parent items i rest s g) ∙ ap (λ p. put_refusal limit node p tree) (sym s.path_is)

-- a child of a forest of a document is a tree of one, with fewer nodes
pub sound_child : (tree : OrderedTree) (path : List ℕ) (parent : Node) (items : List OrderedTree) (i : ℕ) (rest : List ℕ) (t : OrderedTree) → IsStep tree path parent items i rest → slice_get items i ≡ Some t → IsForest tree.below → nodes tree.below < most_nodes
    → AttributesComeFirst t.below × IsForest t.below × (nodes t.below < most_nodes)
sound_child tree path parent items i rest t s g sound few =
    let e = child-at tree path parent items i rest s t g in
    let h = child_tree tree.below i t sound e in
    let n = nodes-child tree.below i t e in
    (has_ordered t.node.kind t.below h.has, h.forest, omega arith)

-- with a node more below a child, a count has to grow by one
pub nodes_puts : (items : List OrderedTree) (i n : ℕ) (limit : Option TreeError) (node : Node) (rest : List ℕ) (t new : OrderedTree) → slice_get items i ≡ Some t → new ≡ put node rest t → None ≡ put_refusal limit node rest t → n ≡ nodes (forest_of items)
    → n + 1 ≡ nodes (forest_of (slice_set items i new))
nodes_puts items i n limit node rest t new g e none count =
    let a = nodes-changes items i t new g in
    let b = nodes_put limit node rest t (sym none) in
    let d = ap (λ (x : OrderedTree). nodes x.below) e in
    omega arith

-- an error that is passed on is the same refusal
pub refusal_passed : {T : Type 0} (r : Result T TreeError) (e : TreeError) → (y : TreeError) × (r ≡ Err y) × (y ≡ e) → refusal_in r ≡ refusal_in {T = T} (Err e)
refusal_passed {T} r e p = ap refusal_in p.1 ∙ ap (λ x. refusal_in {T = T} (Err x)) p.2

-- elements and instructions alone are in order
pub top_ordered : (f : Forest) → IsTop f → AttributesComeFirst f
top_ordered f h = none_first f (none f h)
  where
    other : (k : Kind) → IsTrue (is_element k || is_instruction k) → is_attribute k ≡ false
    other Doc h = absurd (cc)
    other Element h = refl
    other Attribute h = absurd (cc)
    other Text h = absurd (cc)
    other Instruction h = refl

    none : (f : Forest) → IsTop f → HasNoAttribute f
    none Empty h = tt
    none (Plant n b s) h = (other n.kind h.0, none s h.1)

pub goes_on_ok : (r : Result (Unit {0}) TreeError) (refusal : Option TreeError) → refusal_in r ≡ refusal → OnOk r (refusal ≡ None)
goes_on_ok (Ok x) refusal e = sym e
goes_on_ok (Err x) refusal e = tt
