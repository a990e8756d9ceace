-- A stream stands for one document at most.
use Rattle.std.proofs.Common.{◌≡◌, ℕ, false, List, [], ◌∷◌, ◌++◌, map, Some, refl, ap, sym, ◌∙◌, subst, ⊎_elim, append_assoc}
use Rattle.nx_tree.specs.declared.node.Kind.{Kind}
use Rattle.nx_tree.specs.declared.node.Kind.TheVariants.{Doc, Element, Attribute, Text, Instruction}
use Rattle.nx_tree.specs.declared.node.Node.{Node}
use Rattle.nx_tree.specs.Forest as forest
use Rattle.nx_tree.specs.Forest.{OrderedTree, Forest, Plant}
use Rattle.nx_tree.specs.Document.{IsDocument, is_element, HasParts, IsForest}
use Rattle.nx_pyx.specs.Event.{Event, Start, End, Single, events}
use Rattle.nx_pyx.specs.Reading.{Reads}
use Rattle.nx_pyx.proofs.DocumentLemmas.{kind_cases, events_element, events_single, nothing_below, same_events}

-- no event, or an element's end first
abbrev pub Closes : List Event → Type 0
Closes [] = Unit {0}
Closes (Start name ∷ es) = ⊥
Closes (End name ∷ es) = Unit {0}
Closes (Single node ∷ es) = ⊥

-- an element has no content
no_content : (kind : Kind) (name content : List ℕ) → kind ≡ Element → HasParts kind name content → content ≡ []
no_content Doc name content is parts = absurd parts
no_content Element name content is parts = parts.1
no_content Attribute name content is parts = absurd (cc)
no_content Text name content is parts = absurd (cc)
no_content Instruction name content is parts = absurd (cc)

-- the node of these parts
abbrev node_of : Kind → List ℕ → List ℕ → Node
node_of kind name content = record { kind = kind; name = name; content = content }

-- the tree of these parts
abbrev tree_of : Node → Forest → OrderedTree
tree_of node below = record { node = node; below = below }

-- forests with equal parts
same_trees : (n m : Node) (b c s r : Forest) → n ≡ m → b ≡ c → s ≡ r → Plant n b s ≡ Plant m c r
same_trees n m b c s r p q k = cc

-- nodes with equal parts
same_node : (m n : Node) → m.kind ≡ n.kind → m.name ≡ n.name → m.content ≡ n.content → m ≡ n
same_node m n k a c =
    ap (λ (kind : Kind). node_of kind m.name m.content) k
    ∙ ap (λ (name : List ℕ). node_of n.kind name m.content) a
    ∙ ap (λ (content : List ℕ). node_of n.kind n.name content) c

-- the events of a forest whose first tree is an element, and more
element_first : (node : Node) (below beside : Forest) (more : List Event) → node.kind ≡ Element
    → events (Plant node below beside) ++ more ≡ Start node.name ∷ (events below ++ (End node.name ∷ (events beside ++ more)))
element_first node below beside more is =
    ap (λ (es : List Event). es ++ more) (events_element node below beside is)
    ∙ ap (λ (es : List Event). Start node.name ∷ es) (append_assoc (events below) (End node.name ∷ events beside) more)

-- the events of a forest whose first tree is no element, and more
single_first : (node : Node) (below beside : Forest) (more : List Event) → is_element node.kind ≡ false → events (Plant node below beside) ++ more ≡ Single node ∷ (events beside ++ more)
single_first node below beside more is = ap (λ (es : List Event). es ++ more) (events_single node below beside is)

-- a tree begins with no end
opens : (node : Node) (below beside : Forest) (more : List Event) → Closes (events (Plant node below beside) ++ more) → ⊥
opens node below beside more h =
    ⊎_elim
    (λ (k : node.kind ≡ Element). subst Closes (element_first node below beside more k) h)
    (λ (k : is_element node.kind ≡ false). subst Closes (single_first node below beside more k) h)
    (kind_cases node.kind)

-- events and what closes them determine a forest
pub one_forest : (f g : Forest) → IsForest f → IsForest g → (x y : List Event) → Closes x → Closes y → events f ++ x ≡ events g ++ y → (f ≡ g) × (x ≡ y)
one_forest forest.Empty forest.Empty is js x y cx cy h = (refl, h)
one_forest forest.Empty (Plant m c r) is js x y cx cy h = absurd (opens m c r y (subst Closes h cx))
one_forest (Plant n b s) forest.Empty is js x y cx cy h = absurd (opens n b s x (subst Closes (sym h) cy))
one_forest (Plant n b s) (Plant m c r) is js x y cx cy h =
    ⊎_elim
    (λ (k : n.kind ≡ Element).
    ⊎_elim
    (λ (l : m.kind ≡ Element).
    let e = sym (element_first n b s x k) ∙ h ∙ element_first m c r y l in
    let names : n.name ≡ m.name = cc in
    let belows : events b ++ (End n.name ∷ (events s ++ x)) ≡ events c ++ (End m.name ∷ (events r ++ y)) = cc in
    let p = one_forest b c is.2 js.2 (End n.name ∷ (events s ++ x)) (End m.name ∷ (events r ++ y)) tt tt belows in
    let besides : events s ++ x ≡ events r ++ y = cc in
    let q = one_forest s r is.3 js.3 x y cx cy besides in
    let node : n ≡ m = same_node n m (k ∙ sym l) names (no_content n.kind n.name n.content k is.0.parts ∙ sym (no_content m.kind m.name m.content l js.0.parts)) in
    (same_trees n m b c s r node p.0 q.0, q.1))
    (λ (l : is_element m.kind ≡ false).
    let e = sym (element_first n b s x k) ∙ h ∙ single_first m c r y l in absurd (cc))
    (kind_cases m.kind))
    (λ (k : is_element n.kind ≡ false).
    ⊎_elim
    (λ (l : m.kind ≡ Element).
    let e = sym (single_first n b s x k) ∙ h ∙ element_first m c r y l in absurd (cc))
    (λ (l : is_element m.kind ≡ false).
    let e = sym (single_first n b s x k) ∙ h ∙ single_first m c r y l in
    let node : n ≡ m = cc in
    let besides : events s ++ x ≡ events r ++ y = cc in
    let q = one_forest s r is.3 js.3 x y cx cy besides in
    (same_trees n m b c s r node (nothing_below n.kind b k is.1 ∙ sym (nothing_below m.kind c l js.1)) q.0, q.1))
    (kind_cases m.kind))
    (kind_cases n.kind)

-- the events of a document determine it
pub one_document : (t u : OrderedTree) → IsDocument t → IsDocument u → map (λ e. Some e) (events t.below) ≡ map (λ e. Some e) (events u.below) → t ≡ u
one_document t u a b says =
    let same : events t.below ≡ events u.below = same_events (events t.below) (events u.below) says in
    let p = one_forest t.below u.below a.forest b.forest [] [] tt tt (ap (λ (es : List Event). es ++ []) same) in
    let node : t.node ≡ u.node = same_node t.node u.node (a.root ∙ sym b.root) (a.unnamed ∙ sym b.unnamed) (a.bare ∙ sym b.bare) in
    ap (λ (n : Node). tree_of n t.below) node ∙ ap (tree_of u.node) p.0

-- a stream stands for one document at most
pub one_reading : (stream : List ℕ) (t u : OrderedTree) → Reads stream t → Reads stream u → t ≡ u
one_reading stream t u a b = one_document t u a.document b.document (sym a.lines_say ∙ b.lines_say)
