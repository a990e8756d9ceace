-- What stands after some events is what the whole list of them says.
use Rattle.std.proofs.Common.{◌≡◌, ℕ, ◌+◌, ◌||◌, ◌&&◌, Bool, true, false, List, [], ◌∷◌, ◌++◌, Option, None, Some, drop, map, reverse, refl, ap, sym, ◌∙◌, subst, ⊎_elim, arith, append_assoc, append-nil, add-zero, cond, ◌↔◌, IsTrue}
use Rattle.std.specs.Prelude.{fold, if◌then◌else◌}
use Rattle.std.proofs.lemmas.Bool.{and_parts}
use Rattle.std.specs.List.{list_any, list_all, count_by}
use Rattle.std.specs.Option.{option_map}
use Rattle.std.proofs.lemmas.List.{map-append, reverse-append}
use Rattle.std.proofs.lemmas.List.Sums.{fold-append, sum_by-cons}
use Rattle.std.proofs.lemmas.List.Folds.{list_all-append}
use Rattle.nx_tree.specs.declared.node.Kind.TheVariants.{Element}
use Rattle.nx_tree.specs.declared.node.Node.{Node}
use Rattle.nx_tree.specs.Forest as forest
use Rattle.nx_tree.specs.Forest.{Forest, Plant}
use Rattle.nx_tree.specs.Document.{is_element, is_attribute}
use Rattle.nx_pyx.specs.declared.builder.Level.{Level}
use Rattle.nx_pyx.specs.Event.{Event, Start, End, Single, events}
use Rattle.nx_pyx.specs.Fault.{Standing, at_first, standing_after, attributes_after, standing, makes_node, events_of, first_fault}
use Rattle.nx_pyx.specs.Open.{OpenAre, is_start, EndWithAttributes}
use Rattle.nx_pyx.specs.Builder.{level_events, open_names_over}
use Rattle.nx_pyx.proofs.DocumentLemmas.{kind_cases, events_element, events_single}
use Rattle.nx_pyx.proofs.EventLemmas.{standing-more}
use Rattle.nx_pyx.proofs.Outcome.{form_of}

-- whole trees leave open what was open
trees_leave : (f : Forest) (s : Standing) → (fold standing_after s (events f)).open_names ≡ s.open_names
trees_leave forest.Empty s = refl
trees_leave (Plant node below beside) s =
    ⊎_elim
    (λ (is : node.kind ≡ Element).
    let inner : Standing = fold standing_after (standing_after s (Start node.name)) (events below) in
    ap (λ (es : List Event). (fold standing_after s es).open_names) (events_element node below beside is)
    ∙ ap (λ (t : Standing). t.open_names) (fold-append standing_after (standing_after s (Start node.name)) (events below) (End node.name ∷ events beside))
    ∙ trees_leave beside (standing_after inner (End node.name))
    ∙ ap (λ (names : List (List ℕ)). drop 1 names) (trees_leave below (standing_after s (Start node.name))))
    (λ (is : is_element node.kind ≡ false).
    ap (λ (es : List Event). (fold standing_after s es).open_names) (events_single node below beside is)
    ∙ trees_leave beside (standing_after s (Single node)))
    (kind_cases node.kind)

-- what is open is what stands open
open_stands : (names : List (List ℕ)) (es : List Event) → OpenAre names es → (standing es).open_names ≡ names
open_stands [] es are = ap (λ (xs : List Event). (standing xs).open_names) are.1 ∙ trees_leave are.0 at_first
open_stands (name ∷ names) es are =
    ap (λ (xs : List Event). (standing xs).open_names) are.3
    ∙ ap (λ (t : Standing). t.open_names) (fold-append standing_after at_first are.0 (Start name ∷ events are.2))
    ∙ trees_leave are.2 (standing_after (standing are.0) (Start name))
    ∙ ap (λ (ns : List (List ℕ)). name ∷ ns) (open_stands names are.0 are.1)

behind_start : (prefix before inner : List Event) (name : List ℕ) → (prefix ++ (before ++ Start name ∷ [])) ++ inner ≡ (prefix ++ before) ++ Start name ∷ inner
behind_start prefix before inner name = simp append_assoc

behind_level : (prefix before levels inner : List Event) (name : List ℕ) → (prefix ++ (before ++ Start name ∷ [])) ++ (levels ++ inner) ≡ prefix ++ ((before ++ Start name ∷ levels) ++ inner)
behind_level prefix before levels inner name = simp append_assoc

-- levels are open within what is open in front of them
levels_open : (levels : List Level) (names : List (List ℕ)) (prefix : List Event) (children : Forest) → ((trees : Forest) → OpenAre names (prefix ++ events trees))
    → OpenAre (open_names_over levels names) (prefix ++ (level_events levels ++ events children))
levels_open [] names prefix children are = are children
levels_open (level ∷ levels) names prefix children are =
    subst (OpenAre (open_names_over levels (level.name ∷ names))) (behind_level prefix (events level.before) (level_events levels) (events children) level.name)
    (levels_open levels (level.name ∷ names) (prefix ++ (events level.before ++ Start level.name ∷ [])) children
    (λ trees. (prefix ++ events level.before, are level.before, trees, behind_start prefix (events level.before) (events trees) level.name)))

-- what stands open after lines without a fault is open
stands_open : (ls : List (List ℕ)) → first_fault [] ls ≡ None → OpenAre (standing (events_of ls)).open_names (events_of ls)
stands_open ls sound =
    let form = form_of ls sound in
    subst (λ (names : List (List ℕ)). OpenAre names (events_of ls)) (sym (ap (λ (s : Standing). s.open_names) form.made.stands))
    (subst (OpenAre (open_names_over form.levels [])) (sym form.made.says) (levels_open form.levels [] [] form.children (λ trees. (trees, refl))))

-- after lines without a fault the open elements are those that stand open
pub open_are : (ls : List (List ℕ)) → first_fault [] ls ≡ None → (names : List (List ℕ)) → OpenAre names (events_of ls) ↔ ((standing (events_of ls)).open_names ≡ names)
open_are ls sound names = (
  open_stands names (events_of ls),
  λ is. subst (λ (ns : List (List ℕ)). OpenAre ns (events_of ls)) is (stands_open ls sound),
)

rooted_from : (s : Standing) (es : List Event) → (fold standing_after s es).rooted ≡ (s.rooted || list_any is_start es)
rooted_from s [] = or_false s.rooted
  where
    or_false : (b : Bool) → b ≡ (b || false)
    or_false true = refl
    or_false false = refl
rooted_from s (Start name ∷ es) = rooted_from (standing_after s (Start name)) es ∙ or_true s.rooted
  where
    or_true : (b : Bool) → true ≡ (b || true)
    or_true true = refl
    or_true false = refl
rooted_from s (End name ∷ es) = rooted_from (standing_after s (End name)) es
rooted_from s (Single node ∷ es) = rooted_from (standing_after s (Single node)) es

-- an element has come where one of the events starts it
pub rooted_is : (es : List Event) → (standing es).rooted ≡ list_any is_start es
rooted_is es = rooted_from at_first es

-- the nodes that one event makes, and those of the others
nodes_more : (n : ℕ) (e : Event) (es : List Event) → (n + cond (makes_node e) 1 0) + count_by makes_node es ≡ n + count_by makes_node (e ∷ es)
nodes_more n e es =
    let more : count_by makes_node (e ∷ es) ≡ cond (makes_node e) 1 0 + count_by makes_node es = sum_by-cons (λ x. cond (makes_node x) 1 0) e es in
    omega arith

nodes_from : (s : Standing) (es : List Event) → (fold standing_after s es).nodes ≡ s.nodes + count_by makes_node es
nodes_from s [] = omega arith
nodes_from s (Start name ∷ es) = nodes_from (standing_after s (Start name)) es ∙ nodes_more s.nodes (Start name) es
nodes_from s (End name ∷ es) = nodes_from (standing_after s (End name)) es ∙ ap (λ (n : ℕ). n + count_by makes_node es) (sym (add-zero s.nodes)) ∙ nodes_more s.nodes (End name) es
nodes_from s (Single node ∷ es) = nodes_from (standing_after s (Single node)) es ∙ nodes_more s.nodes (Single node) es

-- there are the document's root and as many nodes as events make
pub nodes_are : (es : List Event) → (standing es).nodes ≡ 1 + count_by makes_node es
nodes_are es = nodes_from at_first es

-- the names after one attribute more
attribute_after : (node : Node) (names : List (List ℕ)) → IsTrue (is_attribute node.kind) → attributes_after node (Some names) ≡ Some (node.name ∷ names)
attribute_after node names is = ap (λ (b : Bool). if b then Some (node.name ∷ names) else None) is

-- attributes behind others
attributes_from : (s : Standing) (names : List (List ℕ)) (nodes : List Node) → s.attributes ≡ Some names → IsTrue (list_all (λ node. is_attribute node.kind) nodes)
    → (fold standing_after s (map (λ node. Single node) nodes)).attributes ≡ Some (fold (λ names name. name ∷ names) names (map (λ node. node.name) nodes))
attributes_from s names [] so_far all = so_far
attributes_from s names (node ∷ nodes) so_far all =
    let parts = and_parts (is_attribute node.kind) (list_all (λ node. is_attribute node.kind) nodes) all in
    attributes_from (standing_after s (Single node)) (node.name ∷ names) nodes
    (ap (attributes_after node) so_far ∙ attribute_after node names parts.0) parts.1

-- what stands after attributes behind a start
ends_stands : (es : List Event) (names : List (List ℕ)) → EndWithAttributes es names → (standing es).attributes ≡ Some names
ends_stands es names ends =
    ap (λ (xs : List Event). (standing xs).attributes) ends.ends
    ∙ ap (λ (s : Standing). s.attributes) (fold-append standing_after at_first ends.before (Start ends.element ∷ map (λ node. Single node) ends.attributes))
    ∙ attributes_from (standing_after (standing ends.before) (Start ends.element)) [] ends.attributes refl ends.alone
    ∙ ap (λ (ns : List (List ℕ)). Some ns) (sym ends.named)

-- where an attribute may still come after a node, it is one, and the names grew by its own
attribute_by : (is : Bool) (name : List ℕ) (so_far : Option (List (List ℕ))) (names : List (List ℕ)) → (if is then option_map (λ ns. name ∷ ns) so_far else None) ≡ Some names
    → (is ≡ true) × ((others : List (List ℕ)) × (so_far ≡ Some others) × (names ≡ name ∷ others))
attribute_by false name so_far names h = absurd (cc)
attribute_by true name None names h = absurd (cc)
attribute_by true name (Some others) names h = (refl, (others, refl, cc))

-- one event more
ends_more : (es : List Event) (e : Event) → ((names : List (List ℕ)) → (standing es).attributes ≡ Some names → EndWithAttributes es names)
    → (names : List (List ℕ)) → (standing_after (standing es) e).attributes ≡ Some names → EndWithAttributes (es ++ e ∷ []) names
ends_more es (Start name) ends names is = record { before = es; element = name; attributes = []; ends = refl; alone = refl; named = cc }
ends_more es (End name) ends names is = absurd (cc)
ends_more es (Single node) ends names is =
    let parts = attribute_by (is_attribute node.kind) node.name (standing es).attributes names is in
    let was = ends parts.1.0 parts.1.1 in
    record {
      before = was.before;
      element = was.element;
      attributes = was.attributes ++ node ∷ [];
      ends = ap (λ (xs : List Event). xs ++ Single node ∷ []) was.ends
          ∙ append_assoc was.before (Start was.element ∷ map (λ node. Single node) was.attributes) (Single node ∷ [])
          ∙ ap (λ (xs : List Event). was.before ++ Start was.element ∷ xs) (sym (map-append (λ node. Single node) was.attributes (node ∷ [])));
      alone = list_all-append (λ node. is_attribute node.kind) was.attributes (node ∷ [])
          ∙ both (list_all (λ node. is_attribute node.kind) was.attributes) (is_attribute node.kind) was.alone parts.0;
      named = parts.1.2
          ∙ ap (λ (ns : List (List ℕ)). node.name ∷ ns) was.named
          ∙ sym (ap reverse (map-append (λ node. node.name) was.attributes (node ∷ [])) ∙ reverse-append (map (λ node. node.name) was.attributes) (node.name ∷ []));
    }
  where
    both : (b c : Bool) → b ≡ true → c ≡ true → (b && (c && true)) ≡ true
    both true true h k = refl
    both true false h k = absurd (cc)
    both false c h k = absurd (cc)

-- what stands after events that come behind others
stands_ends_from : (prefix es : List Event) → ((names : List (List ℕ)) → (standing prefix).attributes ≡ Some names → EndWithAttributes prefix names)
    → (names : List (List ℕ)) → (fold standing_after (standing prefix) es).attributes ≡ Some names → EndWithAttributes (prefix ++ es) names
stands_ends_from prefix [] ends names is = subst (λ (es : List Event). EndWithAttributes es names) (sym (append-nil prefix)) (ends names is)
stands_ends_from prefix (e ∷ es) ends names is =
    let more : standing (prefix ++ e ∷ []) ≡ standing_after (standing prefix) e = standing-more prefix e in
    subst (λ (xs : List Event). EndWithAttributes xs names) (append_assoc prefix (e ∷ []) es)
    (stands_ends_from (prefix ++ e ∷ []) es
    (λ ns at. ends_more prefix e ends ns (sym (ap (λ (s : Standing). s.attributes) more) ∙ at))
    names (ap (λ (s : Standing). (fold standing_after s es).attributes) more ∙ is))

-- where the next attribute may come, the names are those of the attributes behind the last start
pub attributes_are : (es : List Event) (names : List (List ℕ)) → EndWithAttributes es names ↔ ((standing es).attributes ≡ Some names)
attributes_are es names = (ends_stands es names, stands_ends_from [] es (λ ns is. absurd (cc)) names)
