-- Trees found and edited by path.
use Rattle.std.specs.Prelude.{ℕ, zero, suc, ◌+◌, ◌-◌, Bool, false, not, ◌&&◌, ◌||◌, ◌==◌, nat_lt, nat_le, if◌then◌else◌, List, [], ◌∷◌, length, take, drop, slice_index, Option, None, Some, is_some, option_and_then, Result, Ok, Err}
use Rattle.std.specs.List.{list_any}
use Rattle.std.specs.Option.{option_map_or, option_or}
use Rattle.std.specs.Str.{bytes_eq}
use Rattle.nx_tree.specs.declared.node.Node.{Node}
use Rattle.nx_tree.specs.declared.node.Kind.{Kind}
use Rattle.nx_tree.specs.declared.error.TreeError.{TreeError}
use Rattle.nx_tree.specs.declared.error.TreeError.TheVariants.{NoNode, BadPlace, Twice, NoContent, TooDeep, TooMany, Memory}
use Rattle.nx_tree.specs.Forest.{OrderedTree, Forest, Empty, Plant, nodes, trees_of}
use Rattle.nx_tree.specs.Document.{is_doc, is_element, is_attribute, is_instruction, attribute_names, deepest, most_nodes}

-- the tree at a position
abbrev pub child : Forest → ℕ → Option OrderedTree
child Empty position = None
child (Plant node below beside) zero = Some (record { node = node; below = below })
child (Plant node below beside) (suc position) = child beside position

-- the tree at the end of a path
abbrev pub at : OrderedTree → List ℕ → Option OrderedTree
at tree [] = Some tree
at tree (position ∷ path) = option_and_then (λ t. at t path) (child tree.below position)

-- the forest with the tree at a position changed
abbrev pub changed_at : ℕ → (OrderedTree → OrderedTree) → Forest → Forest
changed_at position change Empty = Empty
changed_at zero change (Plant node below beside) = let t = change (record { node = node; below = below }) in Plant t.node t.below beside
changed_at (suc position) change (Plant node below beside) = Plant node below (changed_at position change beside)

-- the forest with one tree more, before the one at a position
abbrev pub planted_at : ℕ → OrderedTree → Forest → Forest
planted_at zero tree forest = Plant tree.node tree.below forest
planted_at (suc position) tree Empty = Empty
planted_at (suc position) tree (Plant node below beside) = Plant node below (planted_at position tree beside)

-- the forest without the tree at a position
abbrev pub removed_at : ℕ → Forest → Forest
removed_at position Empty = Empty
removed_at zero (Plant node below beside) = beside
removed_at (suc position) (Plant node below beside) = Plant node below (removed_at position beside)

-- the tree with a node more, which stands at the path and has no children
abbrev pub put : Node → List ℕ → OrderedTree → OrderedTree
put node [] tree = tree
put node (position ∷ []) tree = record tree { below = planted_at position (record { node = node; below = Empty }) tree.below }
put node (position ∷ next ∷ path) tree = record tree { below = changed_at position (put node (next ∷ path)) tree.below }

-- the tree without the tree that stands at the path
abbrev pub cut_at : List ℕ → OrderedTree → OrderedTree
cut_at [] tree = tree
cut_at (position ∷ []) tree = record tree { below = removed_at position tree.below }
cut_at (position ∷ next ∷ path) tree = record tree { below = changed_at position (cut_at (next ∷ path)) tree.below }

-- the tree with another content of the node at the path
abbrev pub retext : List ℕ → List ℕ → OrderedTree → OrderedTree
retext content [] tree = record tree { node = record tree.node { content = content } }
retext content (position ∷ path) tree = record tree { below = changed_at position (retext content path) tree.below }

-- a node of this kind may have children, and has no content
abbrev pub has_children : Kind → Bool
has_children kind = is_doc kind || is_element kind

-- the path without its last position
abbrev pub parent_path : List ℕ → List ℕ
parent_path path = take (length path - 1) path

abbrev pub last_position : List ℕ → ℕ
last_position path = slice_index path (length path - 1)

-- with a node of this kind at that position an attribute would stand behind another node
abbrev pub is_unordered : Kind → ℕ → List OrderedTree → Bool
is_unordered kind position children =
    if is_attribute kind then list_any (λ t. not (is_attribute t.node.kind)) (take position children)
    else list_any (λ t. is_attribute t.node.kind) (drop position children)

-- the node may not stand at that position below this parent: it has no children, it is the root of a document and the node no instruction, it has too few children, or the order forbids it
abbrev pub is_misplaced : Node → ℕ → OrderedTree → Bool
is_misplaced node position parent =
    not (has_children parent.node.kind)
    || (is_doc parent.node.kind && not (is_instruction node.kind))
    || nat_lt (length (trees_of parent.below)) position
    || is_unordered node.kind position (trees_of parent.below)

-- the node is an attribute, and one of its name is there
abbrev pub is_repeated : Node → OrderedTree → Bool
is_repeated node parent = is_attribute node.kind && list_any (bytes_eq node.name) (attribute_names parent.below)

-- why the node may not stand at that position below this parent
abbrev pub place_refusal : Node → ℕ → OrderedTree → Option TreeError
place_refusal node position parent =
    if is_misplaced node position parent then Some BadPlace
    else if is_repeated node parent then Some Twice
    else None

-- why no node at all may be put at the path
abbrev pub limit_refusal : List ℕ → OrderedTree → Option TreeError
limit_refusal path tree =
    if nat_lt deepest (length path) then Some TooDeep
    else if nat_le most_nodes (1 + nodes tree.below) then Some TooMany
    else None

-- why the node can't be put at the path: the first reason that applies, where the limit is the last one
abbrev pub put_refusal : Option TreeError → Node → List ℕ → OrderedTree → Option TreeError
put_refusal limit node [] tree = Some BadPlace
put_refusal limit node path tree =
    option_map_or (λ parent. option_or (place_refusal node (last_position path) parent) limit) (at tree (parent_path path)) (Some NoNode)

-- why the node can't be put at the path of a document
abbrev pub insert_refusal : Node → List ℕ → OrderedTree → Option TreeError
insert_refusal node path tree = put_refusal (limit_refusal path tree) node path tree

-- it is the path of an element below the root
abbrev pub is_root_element : List ℕ → OrderedTree → Bool
is_root_element path tree = (length path == 1) && option_map_or (λ t. is_element t.node.kind) (at tree path) false

-- why there is no tree at the path that could be taken away
abbrev pub cut_refusal : List ℕ → OrderedTree → Option TreeError
cut_refusal [] tree = Some BadPlace
cut_refusal path tree = if is_some (at tree path) then None else Some NoNode

-- why the tree at the path of a document can't be taken away: the first reason that applies
abbrev pub delete_refusal : List ℕ → OrderedTree → Option TreeError
delete_refusal path tree = option_or (cut_refusal path tree) (if is_root_element path tree then Some BadPlace else None)

-- why the node at the path can't get another content: the first reason that applies
abbrev pub retext_refusal : List ℕ → OrderedTree → Option TreeError
retext_refusal path tree = option_map_or (λ t. if has_children t.node.kind then Some NoContent else None) (at tree path) (Some NoNode)

-- the refusal that a call answered, which want of memory isn't
abbrev pub refusal_in : {T : Type 0} → Result T TreeError → Option TreeError
refusal_in (Ok t) = None
refusal_in (Err Memory) = None
refusal_in (Err error) = Some error
