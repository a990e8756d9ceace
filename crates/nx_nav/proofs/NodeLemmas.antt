-- Every node of a document is one that a document may have.
use Rattle.std.proofs.Common.{◌≡◌, ℕ, zero, suc, ◌+◌, ◌≤◌, ◌<◌, false, List, [], ◌∷◌, length, Option, None, Some, refl, sym, ap, ◌∙◌, subst, arith}
use Rattle.std.specs.Prelude.{◌||◌, IsTrue, option_and_then}
use Rattle.nx_tree.specs.declared.node.Kind.{Kind}
use Rattle.nx_tree.specs.declared.node.Kind.TheVariants.{Doc, Element, Attribute, Text, Instruction}
use Rattle.nx_tree.specs.declared.node.Node.{Node}
use Rattle.nx_tree.specs.Forest.{Forest, Empty, Plant, OrderedTree, nodes}
use Rattle.nx_tree.specs.Document.{HasParts, is_element, is_instruction, MayHave, IsTop, IsDocument, depth, deepest}
use Rattle.nx_tree.specs.Edit.{child, at, has_children}
use Rattle.nx_tree.proofs.PlaceLemmas.{nodes-child}
use Rattle.nx_tree.proofs.SoundLemmas.{IsTree, child_tree, depth_child}
use Rattle.nx_piece.specs.PieceNode.{content_length}
use Rattle.nx_cuts.specs.Cut.{joined}
use Rattle.nx_layouts.specs.Layout.{shown_with}
use Rattle.nx_hold.proofs.PieceLemmas.{some_same}
use Rattle.nx_nav.specs.Nodes.{CanBe, CanBeWith, MayHaveParts, AreRooted, CanStand}
use Rattle.nx_nav.proofs.ChildLemmas.{at_here}
use Rattle.nx_nav.proofs.TextLemmas.{joined_forests}

-- of a content a document asks no more than how many bytes it has
parts_with : (kind : Kind) (name content : List ℕ) → HasParts kind name content → MayHaveParts kind name (length content)
parts_with Doc name content h = h
parts_with Element name content h = (h.0, ap length h.1)
parts_with Attribute name content h = h
parts_with Text name content h = h
parts_with Instruction name content h = h

can_be_with : (depth : ℕ) (node : Node) → CanBe depth node → CanBeWith depth node.kind node.name (length node.content)
can_be_with depth node h = record {
  root = λ e. let root = h.root e in (root.0, root.1, ap length root.2);
  top = h.top;
  below = λ some. let is = h.below some in (parts_with node.kind node.name node.content is.parts, is.short);
}

-- and where a record has the node makes no difference
pub item_can_be : (depth : ℕ) (node : Node) (list : Option ℕ) → CanBe depth node → CanBeWith depth (shown_with node list).node.kind (shown_with node list).node.name (content_length (shown_with node list))
item_can_be depth node None h = can_be_with depth node h
item_can_be depth node (Some first) h = can_be_with depth node h

-- a document may have it at this depth, and what is below it
pub record HasCome (depth : ℕ) (node : Node) (below : Forest) : Type 0 where
  pub be : CanBe depth node
  pub have : has_children node.kind ≡ false → below ≡ Empty

none_below : (kind : Kind) (below : Forest) → MayHave kind below → has_children kind ≡ false → below ≡ Empty
none_below Doc below h e = absurd (cc)
none_below Element below h e = absurd (cc)
none_below Attribute below h e = h
none_below Text below h e = h
none_below Instruction below h e = h

root_has : (node : Node) (below : Forest) → node.kind ≡ Doc → has_children node.kind ≡ false → below ≡ Empty
root_has node below e none = absurd (let f : has_children Doc ≡ false = subst (λ (k : Kind). has_children k ≡ false) e none in cc)

rooted_joined : (f g : Forest) → AreRooted (joined f g) → AreRooted f × AreRooted g
rooted_joined Empty g h = (tt, h)
rooted_joined (Plant node below beside) g h = let r = rooted_joined beside g h.3 in ((h.0, h.1, h.2, r.0), r.1)

top_joined : (f g : Forest) → IsTop (joined f g) → IsTop f × IsTop g
top_joined Empty g h = (tt, h)
top_joined (Plant node below beside) g h = let r = top_joined beside g h.1 in ((h.0, r.0), r.1)

pub stands_joined : (depth : ℕ) (f g : Forest) → CanStand depth (joined f g) → CanStand depth f × CanStand depth g
stands_joined depth f g h = (
  record { rooted = λ e. (rooted_joined f g (h.rooted e)).0; top = λ e. (top_joined f g (h.top e)).0; forest = λ e. (joined_forests f g (h.forest e)).0 },
  record { rooted = λ e. (rooted_joined f g (h.rooted e)).1; top = λ e. (top_joined f g (h.top e)).1; forest = λ e. (joined_forests f g (h.forest e)).1 },
)

pub first_stands : (depth : ℕ) (node : Node) (below beside : Forest) → CanStand depth (Plant node below beside) → HasCome depth node below × CanStand (depth + 1) below
first_stands zero node below beside h =
    let rooted = h.rooted refl in (
      record { be = record { root = λ _. rooted.0; top = λ e. absurd (omega arith); below = λ e. absurd (omega arith) }; have = root_has node below (rooted.0).0 },
      record { rooted = λ e. absurd (omega arith); top = λ _. rooted.1; forest = λ _. rooted.2 },
    )
first_stands (suc depth) node below beside h =
    let forest = h.forest (omega arith) in (
      record { be = record { root = λ e. absurd (omega arith); top = λ e. (h.top e).0; below = λ _. forest.0 }; have = none_below node.kind below forest.1 },
      record { rooted = λ e. absurd (omega arith); top = λ e. absurd (omega arith); forest = λ _. forest.2 },
    )

pub document_stands : (tree : OrderedTree) → IsDocument tree → CanStand 0 (Plant tree.node tree.below Empty)
document_stands tree h = record { rooted = λ _. ((h.root, h.unnamed, h.bare), h.top, h.forest, tt); top = λ e. absurd (omega arith); forest = λ e. absurd (omega arith) }

-- a tree that is found at a path is one of a document where those at a position are
found_from : (P : OrderedTree → Type 0) (path : List ℕ) (o : Option OrderedTree) (found : OrderedTree) → ((t : OrderedTree) → o ≡ Some t → at t path ≡ Some found → P found) → option_and_then (λ t. at t path) o ≡ Some found → P found
found_from P path None found each e = absurd (cc)
found_from P path (Some t) found each e = each t refl e

tree_at : (tree : OrderedTree) (path : List ℕ) (found : OrderedTree) → IsTree tree → at tree path ≡ Some found → IsTree found
tree_at tree [] found h e = subst IsTree (some_same e) h
tree_at tree (position ∷ path) found h e =
    found_from IsTree path (child tree.below position) found (λ t is there. tree_at t path found (child_tree tree.below position t h.forest is) there) e

child_top : (f : Forest) (position : ℕ) (t : OrderedTree) → IsTop f → child f position ≡ Some t → IsTrue (is_element t.node.kind || is_instruction t.node.kind)
child_top Empty position t h e = absurd (cc)
child_top (Plant node below beside) zero t h e = let same : record { node = node; below = below } ≡ t = some_same e in subst (λ (x : OrderedTree). IsTrue (is_element x.node.kind || is_instruction x.node.kind)) same h.0
child_top (Plant node below beside) (suc position) t h e = child_top beside position t h.1 e

-- it is one below the root
tree_below : (tree : OrderedTree) (position : ℕ) (path : List ℕ) (found : OrderedTree) → IsDocument tree → at tree (position ∷ path) ≡ Some found → IsTree found
tree_below tree position path found h e = found_from IsTree path (child tree.below position) found (λ t is on. tree_at t path found (child_tree tree.below position t h.forest is) on) e

-- the node at a path has come
pub found_has_come : (tree : OrderedTree) (path : List ℕ) (found : OrderedTree) → IsDocument tree → at tree path ≡ Some found → HasCome (length path) found.node found.below
found_has_come tree [] found h e =
    subst (λ (t : OrderedTree). HasCome 0 t.node t.below) (some_same e) (first_stands 0 tree.node tree.below Empty (document_stands tree h)).0
found_has_come tree (position ∷ path) found h e =
    let there = tree_below tree position path found h e in
    record {
      be = record { root = λ e. absurd (omega arith); top = at_top path e; below = λ _. there.node };
      have = none_below found.node.kind found.below there.has;
    }
  where
    at_top : (path : List ℕ) → at tree (position ∷ path) ≡ Some found → length (position ∷ path) ≡ 1 → IsTrue (is_element found.node.kind || is_instruction found.node.kind)
    at_top [] there one = child_top tree.below position found h.top (sym (at_here (child tree.below position)) ∙ there)
    at_top (next ∷ path) there one = absurd (omega arith)

-- a document may have it there, with all below it
pub found_stands : (tree : OrderedTree) (path : List ℕ) (found : OrderedTree) → IsDocument tree → at tree path ≡ Some found → CanStand (length path) (Plant found.node found.below Empty)
found_stands tree [] found h e = subst (λ (t : OrderedTree). CanStand 0 (Plant t.node t.below Empty)) (some_same e) (document_stands tree h)
found_stands tree (position ∷ path) found h e =
    let there = tree_below tree position path found h e in
    let come = found_has_come tree (position ∷ path) found h e in
    record { rooted = λ e. absurd (omega arith); top = λ one. ((come.be).top one, tt); forest = λ _. (there.node, there.has, there.forest, tt) }

-- a path that leads to a node has no more positions than there are levels above those below it
pub path_within : (path : List ℕ) (tree found : OrderedTree) → at tree path ≡ Some found → length path + depth found.below ≤ depth tree.below
path_within [] tree found e = let same = ap (λ (t : OrderedTree). depth t.below) (some_same e) in omega arith
path_within (position ∷ path) tree found e =
    found_from (λ _. length (position ∷ path) + depth found.below ≤ depth tree.below) path (child tree.below position) found
    (λ t is there. let deeper = depth_child tree.below position t is in let rest = path_within path t found there in omega arith) e

-- and no more nodes stand below it than below the root
pub nodes_within : (path : List ℕ) (tree found : OrderedTree) → at tree path ≡ Some found → nodes found.below ≤ nodes tree.below
nodes_within [] tree found e = let same = ap (λ (t : OrderedTree). nodes t.below) (some_same e) in omega arith
nodes_within (position ∷ path) tree found e =
    found_from (λ _. nodes found.below ≤ nodes tree.below) path (child tree.below position) found
    (λ t is there. let fewer = nodes-child tree.below position t is in let rest = nodes_within path t found there in omega arith) e

none_found : {A : Type 0} (o : Option A) → ((x : A) → o ≡ Some x → ⊥) → o ≡ None
none_found None never = refl
none_found (Some x) never = absurd (never x refl)

-- a longer one leads nowhere
pub too_deep : (path : List ℕ) (tree : OrderedTree) → IsDocument tree → deepest < length path → at tree path ≡ None
too_deep path tree h deep =
    none_found (at tree path) (λ found there. let within = path_within path tree found there in let shallow : depth tree.below ≤ deepest = h.shallow in omega arith)

-- nor has any content that a document may have too many bytes for a number
pub content_fits : (depth : ℕ) (kind : Kind) (name : List ℕ) (long : ℕ) → CanBeWith depth kind name long → long ≤ 4294967295
content_fits zero kind name long can = let none : long ≡ 0 = (can.root refl).2 in omega arith
content_fits (suc depth) kind name long can =
    let most : length name + long ≤ 1048576 = (can.below (let some : 1 ≤ suc depth = omega arith in some)).1 in omega arith
