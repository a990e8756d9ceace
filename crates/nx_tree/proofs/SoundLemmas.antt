-- A forest of a document stays one after an edit at one position.
use Rattle.std.proofs.Common.{◌≡◌, ℕ, zero, suc, ◌+◌, ◌≤◌, true, false, ◌||◌, IsTrue, Some, refl, sym, ap, ◌∙◌, subst, arith}
use Rattle.std.specs.Prelude.{if◌then◌else◌}
use Rattle.std.specs.List.{list_any}
use Rattle.std.specs.Str.{bytes_eq}
use Rattle.nx_tree.specs.declared.node.Kind.{Kind}
use Rattle.nx_tree.specs.declared.node.Kind.TheVariants.{Doc, Element, Attribute, Text, Instruction}
use Rattle.nx_tree.specs.Forest.{OrderedTree, Forest, Empty, Plant, trees_of, nodes}
use Rattle.nx_tree.specs.Document.{is_element, is_attribute, is_instruction, attribute_names, AttributesComeFirst, AreDistinct, MayHave, IsNode, IsForest, IsTop, element_count, depth}
use Rattle.nx_tree.specs.Edit.{child, changed_at, planted_at, removed_at, is_unordered}
use Rattle.nx_tree.proofs.OrderLemmas.{SameFace, first_changed, names_changed, first_planted, distinct_planted, first_removed, distinct_removed}

-- a tree below the root of a document
pub record IsTree (t : OrderedTree) : Type 0 where
  pub node : IsNode t.node
  pub has : MayHave t.node.kind t.below
  pub forest : IsForest t.below

pub child_tree : (f : Forest) (i : ℕ) (t : OrderedTree) → IsForest f → child f i ≡ Some t → IsTree t
child_tree Empty i t h e = absurd (cc)
child_tree (Plant n b s) zero t h e =
    let same : record { node = n; below = b } ≡ t = cc in
    subst IsTree same (record { node = h.0; has = h.1; forest = h.2 })
child_tree (Plant n b s) (suc i) t h e = child_tree s i t h.3 e

-- what a node may have has its attributes first
pub has_ordered : (k : Kind) (f : Forest) → MayHave k f → AttributesComeFirst f
has_ordered Element f h = h.0
has_ordered Doc f h = subst AttributesComeFirst (sym h) tt
has_ordered Attribute f h = subst AttributesComeFirst (sym h) tt
has_ordered Text f h = subst AttributesComeFirst (sym h) tt
has_ordered Instruction f h = subst AttributesComeFirst (sym h) tt

pub has_changed : (k : Kind) (f : Forest) (i : ℕ) (change : OrderedTree → OrderedTree) → ((t : OrderedTree) → SameFace t (change t)) → MayHave k f → MayHave k (changed_at i change f)
has_changed Element f i change same h = (first_changed f i change same h.0, subst AreDistinct (sym (names_changed f i change same)) h.1)
has_changed Doc f i change same h = ap (changed_at i change) h
has_changed Attribute f i change same h = ap (changed_at i change) h
has_changed Text f i change same h = ap (changed_at i change) h
has_changed Instruction f i change same h = ap (changed_at i change) h

pub has_removed : (k : Kind) (f : Forest) (i : ℕ) → MayHave k f → MayHave k (removed_at i f)
has_removed Element f i h = (first_removed f i h.0, distinct_removed f i h.1)
has_removed Doc f i h = ap (removed_at i) h
has_removed Attribute f i h = ap (removed_at i) h
has_removed Text f i h = ap (removed_at i) h
has_removed Instruction f i h = ap (removed_at i) h

-- an element with one child more
pub has_planted : (k : Kind) (f : Forest) (i : ℕ) (t : OrderedTree) → is_element k ≡ true → is_unordered t.node.kind i (trees_of f) ≡ false
    → (is_attribute t.node.kind ≡ true → list_any (bytes_eq t.node.name) (attribute_names f) ≡ false) → MayHave k f → MayHave k (planted_at i t f)
has_planted Element f i t is allowed new h = (first_planted f i t allowed h.0, distinct_planted f i t new h.1)
has_planted Doc f i t is allowed new h = absurd (cc)
has_planted Attribute f i t is allowed new h = absurd (cc)
has_planted Text f i t is allowed new h = absurd (cc)
has_planted Instruction f i t is allowed new h = absurd (cc)

pub forest_changed : (f : Forest) (i : ℕ) (change : OrderedTree → OrderedTree) → IsForest f → ((t : OrderedTree) → child f i ≡ Some t → IsTree t → IsTree (change t)) → IsForest (changed_at i change f)
forest_changed Empty i change h keeps = tt
forest_changed (Plant n b s) zero change h keeps =
    let new = keeps (record { node = n; below = b }) refl (record { node = h.0; has = h.1; forest = h.2 }) in
    (new.node, new.has, new.forest, h.3)
forest_changed (Plant n b s) (suc i) change h keeps = (h.0, h.1, h.2, forest_changed s i change h.3 keeps)

pub forest_planted : (f : Forest) (i : ℕ) (t : OrderedTree) → IsTree t → IsForest f → IsForest (planted_at i t f)
forest_planted f zero t new h = (new.node, new.has, new.forest, h)
forest_planted Empty (suc i) t new h = tt
forest_planted (Plant n b s) (suc i) t new h = (h.0, h.1, h.2, forest_planted s i t new h.3)

pub forest_removed : (f : Forest) (i : ℕ) → IsForest f → IsForest (removed_at i f)
forest_removed Empty i h = tt
forest_removed (Plant n b s) zero h = h.3
forest_removed (Plant n b s) (suc i) h = (h.0, h.1, h.2, forest_removed s i h.3)

pub depth_child : (f : Forest) (i : ℕ) (t : OrderedTree) → child f i ≡ Some t → 1 + depth t.below ≤ depth f
depth_child Empty i t e = absurd (cc)
depth_child (Plant n b s) zero t e =
    let same : record { node = n; below = b } ≡ t = cc in
    let d = ap (λ (x : OrderedTree). depth x.below) same in
    omega arith
depth_child (Plant n b s) (suc i) t e = omega (arith, depth_child s i t e)

pub depth_changed : (f : Forest) (i : ℕ) (change : OrderedTree → OrderedTree) (n : ℕ) → ((t : OrderedTree) → child f i ≡ Some t → 1 + depth (change t).below ≤ n) → depth f ≤ n → depth (changed_at i change f) ≤ n
depth_changed Empty i change n low h = h
depth_changed (Plant m b s) zero change n low h =
    let d = low (record { node = m; below = b }) refl in
    omega arith
depth_changed (Plant m b s) (suc i) change n low h = omega (arith, depth_changed s i change n low (omega arith))

pub depth_planted : (f : Forest) (i : ℕ) (t : OrderedTree) (n : ℕ) → 1 + depth t.below ≤ n → depth f ≤ n → depth (planted_at i t f) ≤ n
depth_planted f zero t n low h = omega arith
depth_planted Empty (suc i) t n low h = h
depth_planted (Plant m b s) (suc i) t n low h = omega (arith, depth_planted s i t n low (omega arith))

pub depth_removed : (f : Forest) (i : ℕ) → depth (removed_at i f) ≤ depth f
depth_removed Empty i = omega arith
depth_removed (Plant n b s) zero = omega arith
depth_removed (Plant n b s) (suc i) = omega (arith, depth_removed s i)

pub top_changed : (f : Forest) (i : ℕ) (change : OrderedTree → OrderedTree) → ((t : OrderedTree) → SameFace t (change t)) → IsTop f → IsTop (changed_at i change f)
top_changed Empty i change same h = tt
top_changed (Plant n b s) zero change same h =
    (subst (λ (k : Kind). IsTrue (is_element k || is_instruction k)) (sym (same (record { node = n; below = b })).kind) h.0, h.1)
top_changed (Plant n b s) (suc i) change same h = (h.0, top_changed s i change same h.1)

pub top_planted : (f : Forest) (i : ℕ) (t : OrderedTree) → IsTrue (is_element t.node.kind || is_instruction t.node.kind) → IsTop f → IsTop (planted_at i t f)
top_planted f zero t is h = (is, h)
top_planted Empty (suc i) t is h = tt
top_planted (Plant n b s) (suc i) t is h = (h.0, top_planted s i t is h.1)

pub top_removed : (f : Forest) (i : ℕ) → IsTop f → IsTop (removed_at i f)
top_removed Empty i h = tt
top_removed (Plant n b s) zero h = h.1
top_removed (Plant n b s) (suc i) h = (h.0, top_removed s i h.1)

pub elements_changed : (f : Forest) (i : ℕ) (change : OrderedTree → OrderedTree) → ((t : OrderedTree) → SameFace t (change t)) → element_count (changed_at i change f) ≡ element_count f
elements_changed Empty i change same = refl
elements_changed (Plant n b s) zero change same =
    ap (λ (k : Kind). (if is_element k then 1 else 0) + element_count s) (same (record { node = n; below = b })).kind
elements_changed (Plant n b s) (suc i) change same = ap (λ (m : ℕ). (if is_element n.kind then 1 else 0) + m) (elements_changed s i change same)

pub elements_planted : (f : Forest) (i : ℕ) (t : OrderedTree) → is_element t.node.kind ≡ false → element_count (planted_at i t f) ≡ element_count f
elements_planted f zero t e = rw e (omega arith)
elements_planted Empty (suc i) t e = refl
elements_planted (Plant n b s) (suc i) t e = ap (λ (m : ℕ). (if is_element n.kind then 1 else 0) + m) (elements_planted s i t e)

pub elements_removed : (f : Forest) (i : ℕ) (t : OrderedTree) → child f i ≡ Some t → is_element t.node.kind ≡ false → element_count (removed_at i f) ≡ element_count f
elements_removed Empty i t e is = absurd (cc)
elements_removed (Plant n b s) zero t e is =
    let same : record { node = n; below = b } ≡ t = cc in
    let k : is_element n.kind ≡ false = ap (λ (x : OrderedTree). is_element x.node.kind) same ∙ is in
    rw k (omega arith)
elements_removed (Plant n b s) (suc i) t e is = ap (λ (m : ℕ). (if is_element n.kind then 1 else 0) + m) (elements_removed s i t e is)

pub nodes_removed : (f : Forest) (i : ℕ) → nodes (removed_at i f) ≤ nodes f
nodes_removed Empty i = omega arith
nodes_removed (Plant n b s) zero = omega arith
nodes_removed (Plant n b s) (suc i) = omega (arith, nodes_removed s i)

pub nodes_changed_less : (f : Forest) (i : ℕ) (change : OrderedTree → OrderedTree) → ((t : OrderedTree) → nodes (change t).below ≤ nodes t.below) → nodes (changed_at i change f) ≤ nodes f
nodes_changed_less Empty i change less = omega arith
nodes_changed_less (Plant n b s) zero change less = omega (arith, less (record { node = n; below = b }))
nodes_changed_less (Plant n b s) (suc i) change less = omega (arith, nodes_changed_less s i change less)

-- a change of one child that makes it a tree of a document with one node more
pub nodes_changed_more : (f : Forest) (i : ℕ) (t : OrderedTree) (change : OrderedTree → OrderedTree) → child f i ≡ Some t → nodes (change t).below ≡ nodes t.below + 1 → nodes (changed_at i change f) ≡ nodes f + 1
nodes_changed_more Empty i t change e more = absurd (cc)
nodes_changed_more (Plant n b s) zero t change e more =
    let same : record { node = n; below = b } ≡ t = cc in
    let d = ap (λ (x : OrderedTree). nodes x.below) same in
    let c = ap (λ (x : OrderedTree). nodes (change x).below) same in
    omega arith
nodes_changed_more (Plant n b s) (suc i) t change e more = omega (arith, nodes_changed_more s i t change e more)
