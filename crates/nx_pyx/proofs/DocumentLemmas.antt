-- Documents, and lines without a fault.
use Rattle.std.proofs.Common.{◌≡◌, ℕ, ◌+◌, ◌≤◌, ◌<◌, Bool, true, false, List, [], ◌∷◌, ◌++◌, length, Option, None, Some, map, refl, ap, sym, ◌∙◌, subst, inl, inr, ⊎_elim, ◌⊎◌, arith, append_assoc}
use Rattle.std.specs.Prelude.{◌&&◌, ◌==◌, not, nat_le, if◌then◌else◌, unwrap_or, IsTrue, Contains}
use Rattle.std.specs.Bool.{MatchBool}
use Rattle.std.specs.List.{cons_option}
use Rattle.std.specs.Option.{option_map_or, option_map, is_none}
use Rattle.std.specs.Str.{bytes_eq}
use Rattle.std.proofs.lemmas.Bool.{or_from, and_left, and_right, ne_eqb, leb-false, lt-leb, le-ltb, not_from_true, false_from_ne_true}
use Rattle.std.proofs.lemmas.List.Elements.{Contains-append_right}
use Rattle.std.proofs.lemmas.Slice.Eq.{bytes_eq-Decides}
use Rattle.nx_tree.specs.declared.node.Kind.{Kind}
use Rattle.nx_tree.specs.declared.node.Kind.TheVariants.{Doc, Element, Attribute, Text, Instruction}
use Rattle.nx_tree.specs.declared.node.Node.{Node}
use Rattle.nx_tree.specs.Forest as forest
use Rattle.nx_tree.specs.Forest.{OrderedTree, Forest, Plant, nodes}
use Rattle.nx_tree.specs.Document.{is_element, is_attribute, is_name, HasParts, IsNode, attribute_names, HasNoAttribute, AttributesComeFirst, AreDistinct, MayHave, IsForest, IsTop, element_count, depth, IsDocument, deepest, most_nodes, longest_node}
use Rattle.nx_pyx.specs.declared.error.PyxError.{PyxError}
use Rattle.nx_pyx.specs.Lines.{lines}
use Rattle.nx_pyx.specs.Event.{Event, Start, End, Single, event_of, events}
use Rattle.nx_pyx.specs.Fault.{Standing, at_first, attributes_after, standing, is_outside, is_text, is_among, makes_node, fault_at_standing, events_of, fault_at, first_fault, end_fault, fault_at_end, fault_of}
use Rattle.nx_pyx.specs.Reading.{Reads}
use Rattle.nx_pyx.proofs.GoesLemmas.{Goes, Goes-append, Passes, unrefused, not_refused, sound_goes, goes_sound}

-- with these elements open, after the root element's start
abbrev pub within : List (List ℕ) → ℕ → Option (List (List ℕ)) → Standing
within names n attributes = record { open_names = names; rooted = true; nodes = n; attributes = attributes }

-- with no element open
abbrev pub outside : Bool → ℕ → Standing
outside rooted n = record { open_names = []; rooted = rooted; nodes = n; attributes = None }

-- an element or none
pub kind_cases : (k : Kind) → (k ≡ Element) ⊎ (is_element k ≡ false)
kind_cases Doc = inr refl
kind_cases Element = inl refl
kind_cases Attribute = inr refl
kind_cases Text = inr refl
kind_cases Instruction = inr refl

-- the events of a forest whose first tree is an element
pub events_element : (node : Node) (below beside : Forest) → node.kind ≡ Element
    → events (Plant node below beside) ≡ Start node.name ∷ (events below ++ (End node.name ∷ events beside))
events_element node below beside is =
    ap (λ (k : Kind). (if is_element k then Start node.name ∷ events below ++ End node.name ∷ [] else Single node ∷ []) ++ events beside) is
    ∙ ap (λ (es : List Event). Start node.name ∷ es) (append_assoc (events below) (End node.name ∷ []) (events beside))

-- the events of a forest whose first tree is no element
pub events_single : (node : Node) (below beside : Forest) → is_element node.kind ≡ false → events (Plant node below beside) ≡ Single node ∷ events beside
events_single node below beside is =
    ap (λ (b : Bool). (if b then Start node.name ∷ events below ++ End node.name ∷ [] else Single node ∷ []) ++ events beside) is

-- nothing stands below what is no element
pub nothing_below : (k : Kind) (below : Forest) → is_element k ≡ false → MayHave k below → below ≡ forest.Empty
nothing_below Doc below is h = h
nothing_below Element below is h = absurd (cc)
nothing_below Attribute below is h = h
nothing_below Text below is h = h
nothing_below Instruction below is h = h

-- these names of attributes differ from those so far and from each other
abbrev pub AreNew : List (List ℕ) → List (List ℕ) → Type 0
AreNew names [] = Unit {0}
AreNew names (name ∷ more) = (is_among name names ≡ false) × AreNew (name ∷ names) more

-- distinct names of which none is among those so far
pub AreNew_from : (names more : List (List ℕ)) → AreDistinct more → ((name : List ℕ) → Contains more name → is_among name names ≡ false) → AreNew names more
AreNew_from names [] distinct new = tt
AreNew_from names (first ∷ more) distinct new = (
  new first (0, omega arith, refl),
  AreNew_from (first ∷ names) more distinct.1
      (λ name here.
      or_from (bytes_eq name first) (is_among name names)
      (false_from_ne_true (bytes_eq name first) (λ same. distinct.0 (subst (λ (x : List ℕ). Contains more x) ((bytes_eq-Decides name first).0 same) here)))
      (new name (Contains-append_right (first ∷ []) more name here))),
)

-- a forest may follow within an element, where an attribute may come next or not
abbrev pub Suits : Option (List (List ℕ)) → Forest → Type 0
Suits None f = HasNoAttribute f
Suits (Some names) f = AttributesComeFirst f × AreNew names (attribute_names f)

-- what an element has below it may follow its start
pub suits_start : (kind : Kind) (below : Forest) → kind ≡ Element → MayHave kind below → Suits (Some []) below
suits_start kind below is may =
    let m = subst (λ (k : Kind). MayHave k below) is may in (m.0, AreNew_from [] (attribute_names below) m.1 (λ name here. refl))

-- the same of a forest with a first tree, which is an attribute or not
abbrev pub SuitsBy : Bool → List ℕ → Forest → Option (List (List ℕ)) → Type 0
SuitsBy is name beside None = (is ≡ false) × HasNoAttribute beside
SuitsBy is name beside (Some names) =
    MatchBool is (AttributesComeFirst beside) (HasNoAttribute beside) × AreNew names (if is then name ∷ attribute_names beside else attribute_names beside)

-- the first of them is no attribute that may not come, and the others may follow it
suits_by : (is : Bool) (name : List ℕ) (beside : Forest) (attributes : Option (List (List ℕ))) → SuitsBy is name beside attributes
    → ((is && is_none attributes) ≡ false) × ((is && is_among name (unwrap_or attributes [])) ≡ false) × Suits (if is then option_map (λ names. name ∷ names) attributes else None) beside
suits_by true name beside None h = absurd (cc)
suits_by false name beside None h = (refl, refl, h.1)
suits_by true name beside (Some names) h = (refl, h.1.0, (h.0, h.1.1))
suits_by false name beside (Some names) h = (refl, refl, h.0)

-- the first node is no attribute that may not come, and the others may follow it
pub suits_next : (node : Node) (below beside : Forest) (attributes : Option (List (List ℕ))) → Suits attributes (Plant node below beside)
    → ((is_attribute node.kind && is_none attributes) ≡ false) × ((is_attribute node.kind && is_among node.name (unwrap_or attributes [])) ≡ false) × Suits (attributes_after node attributes) beside
suits_next node below beside None h = suits_by (is_attribute node.kind) node.name beside None h
suits_next node below beside (Some names) h = suits_by (is_attribute node.kind) node.name beside (Some names) h

-- behind an element no attribute comes
pub suits_end : (node : Node) (below beside : Forest) (attributes : Option (List (List ℕ))) → node.kind ≡ Element → Suits attributes (Plant node below beside) → HasNoAttribute beside
suits_end node below beside attributes is h =
    let none : attributes_after node attributes ≡ None =
    ap (λ (k : Kind). if is_attribute k then option_map (λ names. node.name ∷ names) attributes else None) is in
    subst (λ (o : Option (List (List ℕ))). Suits o beside) none (suits_next node below beside attributes h).2

-- an element has a name and no content
element_parts : (kind : Kind) (name content : List ℕ) → kind ≡ Element → HasParts kind name content → IsTrue (is_name name)
element_parts kind name content is parts = (subst (λ (k : Kind). HasParts k name content) is parts).0

-- a node other than a text has a name
single_parts : (kind : Kind) (name content : List ℕ) → HasParts kind name content → (not (is_text kind) && not (is_name name)) ≡ false
single_parts Doc name content parts = absurd parts
single_parts Element name content parts = not_from_true (is_name name) parts.0
single_parts Attribute name content parts = not_from_true (is_name name) parts
single_parts Text name content parts = refl
single_parts Instruction name content parts = not_from_true (is_name name) parts

-- something is open
inside : (name : List ℕ) (names : List (List ℕ)) → (length (name ∷ names) == 0) ≡ false
inside name names = ne_eqb (length (name ∷ names)) 0 (λ h. omega arith)

-- the room that an event which makes a node has
room : (s : Standing) (e : Event) → makes_node e ≡ true → fault_at_standing s e ≡ None → (length s.open_names < deepest) × (s.nodes < most_nodes)
room s e made h =
    let p = unrefused s e h in (
      leb-false deepest (length s.open_names) (subst (λ (b : Bool). (b && nat_le deepest (length s.open_names)) ≡ false) made p.shallow),
      leb-false most_nodes s.nodes (subst (λ (b : Bool). (b && nat_le most_nodes s.nodes) ≡ false) made p.few),
    )

-- an element may start, where there is room
pub may_start : (node : Node) (s : Standing) → node.kind ≡ Element → IsNode node → (is_outside s && s.rooted) ≡ false → length s.open_names < deepest → s.nodes < most_nodes → fault_at_standing s (Start node.name) ≡ None
may_start node s is good placed deep many =
    let short = good.short in
    not_refused s (Start node.name) (record {
      short = le-ltb longest_node (length node.name) (omega arith);
      named = not_from_true (is_name node.name) (element_parts node.kind node.name node.content is good.parts);
      placed = placed;
      timely = refl;
      fresh = refl;
      shallow = lt-leb deepest (length s.open_names) deep;
      few = lt-leb most_nodes s.nodes many;
    })

-- a node without children may stand where its kind may, where there is room
pub may_come : (node : Node) (s : Standing) → IsNode node → (is_text node.kind && is_outside s) ≡ false
    → (is_attribute node.kind && is_none s.attributes) ≡ false → (is_attribute node.kind && is_among node.name (unwrap_or s.attributes [])) ≡ false
    → length s.open_names < deepest → s.nodes < most_nodes → fault_at_standing s (Single node) ≡ None
may_come node s good placed timely fresh deep many =
    not_refused s (Single node) (record {
      short = le-ltb longest_node (length node.name + length node.content) good.short;
      named = single_parts node.kind node.name node.content good.parts;
      placed = placed;
      timely = timely;
      fresh = fresh;
      shallow = lt-leb deepest (length s.open_names) deep;
      few = lt-leb most_nodes s.nodes many;
    })

-- the innermost element may end
pub may_end : (node : Node) (names : List (List ℕ)) (n : ℕ) (attributes : Option (List (List ℕ))) → IsNode node → fault_at_standing (within (node.name ∷ names) n attributes) (End node.name) ≡ None
may_end node names n attributes good =
    let short = good.short in
    not_refused (within (node.name ∷ names) n attributes) (End node.name) (record {
      short = le-ltb longest_node (length node.name) (omega arith);
      named = refl;
      placed = not_from_true (bytes_eq node.name node.name) ((bytes_eq-Decides node.name node.name).1 refl);
      timely = refl;
      fresh = refl;
      shallow = refl;
      few = refl;
    })

-- a forest within an element, where it may follow and there is room for it
pub forest_goes : (f : Forest) → IsForest f → (name : List ℕ) (names : List (List ℕ)) (n : ℕ) (attributes : Option (List (List ℕ))) → Suits attributes f
    → length names + 1 + depth f ≤ deepest → n + nodes f ≤ most_nodes
    → (left : Option (List (List ℕ))) × Goes (within (name ∷ names) n attributes) (events f) (within (name ∷ names) (n + nodes f) left)
forest_goes forest.Empty is name names n attributes suits deep many = (attributes, ap (λ (m : ℕ). within (name ∷ names) m attributes) (omega arith))
forest_goes (Plant node below beside) is name names n attributes suits deep many =
    ⊎_elim
    (λ (k : node.kind ≡ Element).
    let from_below = forest_goes below is.2 node.name (name ∷ names) (n + 1) (Some []) (suits_start node.kind below k is.1) (omega arith) (omega arith) in
    let from_beside = forest_goes beside is.3 name names (n + 1 + nodes below) None (suits_end node below beside attributes k suits) (omega arith) (omega arith) in
    let goes : Goes (within (name ∷ names) n attributes) (Start node.name ∷ (events below ++ (End node.name ∷ events beside))) (within (name ∷ names) (n + 1 + nodes below + nodes beside) from_beside.0) = (
      may_start node (within (name ∷ names) n attributes) k is.0 (and_left (length (name ∷ names) == 0) true (inside name names)) (omega arith) (omega arith),
      Goes-append (within (node.name ∷ name ∷ names) (n + 1) (Some [])) (events below) (within (node.name ∷ name ∷ names) (n + 1 + nodes below) from_below.0)
          (End node.name ∷ events beside) (within (name ∷ names) (n + 1 + nodes below + nodes beside) from_beside.0) from_below.1
          (may_end node (name ∷ names) (n + 1 + nodes below) from_below.0 is.0, from_beside.1),
    ) in
    let sum : n + 1 + nodes below + nodes beside ≡ n + (1 + nodes below + nodes beside) = omega arith in (
      from_beside.0,
      subst (λ (es : List Event). Goes (within (name ∷ names) n attributes) es (within (name ∷ names) (n + (1 + nodes below + nodes beside)) from_beside.0)) (sym (events_element node below beside k))
          (subst (λ (m : ℕ). Goes (within (name ∷ names) n attributes) (Start node.name ∷ (events below ++ (End node.name ∷ events beside))) (within (name ∷ names) m from_beside.0)) sum goes),
    ))
    (λ (k : is_element node.kind ≡ false).
    let next = suits_next node below beside attributes suits in
    let from_beside = forest_goes beside is.3 name names (n + 1) (attributes_after node attributes) next.2 (omega arith) (omega arith) in
    let none : nodes below ≡ 0 = ap nodes (nothing_below node.kind below k is.1) in
    let sum : n + 1 + nodes beside ≡ n + (1 + nodes below + nodes beside) = omega arith in
    let ok = may_come node (within (name ∷ names) n attributes) is.0 (and_right (is_text node.kind) (length (name ∷ names) == 0) (inside name names)) next.0 next.1 (omega arith) (omega arith) in (
      from_beside.0,
      subst (λ (es : List Event). Goes (within (name ∷ names) n attributes) es (within (name ∷ names) (n + (1 + nodes below + nodes beside)) from_beside.0)) (sym (events_single node below beside k))
          (subst (λ (m : ℕ). Goes (within (name ∷ names) n attributes) (Single node ∷ events beside) (within (name ∷ names) m from_beside.0)) sum (ok, from_beside.1)),
    ))
    (kind_cases node.kind)

-- a forest within an element has had room, and what comes after it goes on from its end
pub forest_fits : (f : Forest) → IsForest f → (name : List ℕ) (names : List (List ℕ)) (n : ℕ) (attributes : Option (List (List ℕ))) (more : List Event) (u : Standing)
    → length names + 1 ≤ deepest → n ≤ most_nodes → Goes (within (name ∷ names) n attributes) (events f ++ more) u
    → (length names + 1 + depth f ≤ deepest) × (n + nodes f ≤ most_nodes) × ((left : Option (List (List ℕ))) × Goes (within (name ∷ names) (n + nodes f) left) more u)
forest_fits forest.Empty is name names n attributes more u deep many goes =
    let sum : n ≡ n + 0 = omega arith in
    (omega arith, omega arith, (attributes, subst (λ (m : ℕ). Goes (within (name ∷ names) m attributes) more u) sum goes))
forest_fits (Plant node below beside) is name names n attributes more u deep many goes =
    ⊎_elim
    (λ (k : node.kind ≡ Element).
    let same : events (Plant node below beside) ++ more ≡ Start node.name ∷ (events below ++ (End node.name ∷ (events beside ++ more))) =
    ap (λ (es : List Event). es ++ more) (events_element node below beside k)
    ∙ ap (λ (es : List Event). Start node.name ∷ es) (append_assoc (events below) (End node.name ∷ events beside) more) in
    let h = subst (λ (es : List Event). Goes (within (name ∷ names) n attributes) es u) same goes in
    let free = room (within (name ∷ names) n attributes) (Start node.name) refl h.0 in
    let b = forest_fits below is.2 node.name (name ∷ names) (n + 1) (Some []) (End node.name ∷ (events beside ++ more)) u (omega arith) (omega arith) h.1 in
    let r = forest_fits beside is.3 name names (n + 1 + nodes below) None more u deep (omega arith) b.2.1.1 in
    let sum : n + 1 + nodes below + nodes beside ≡ n + (1 + nodes below + nodes beside) = omega arith in
    (omega arith, omega arith, (r.2.0, subst (λ (m : ℕ). Goes (within (name ∷ names) m r.2.0) more u) sum r.2.1)))
    (λ (k : is_element node.kind ≡ false).
    let same : events (Plant node below beside) ++ more ≡ Single node ∷ (events beside ++ more) =
    ap (λ (es : List Event). es ++ more) (events_single node below beside k) in
    let h = subst (λ (es : List Event). Goes (within (name ∷ names) n attributes) es u) same goes in
    let free = room (within (name ∷ names) n attributes) (Single node) refl h.0 in
    let r = forest_fits beside is.3 name names (n + 1) (attributes_after node attributes) more u deep (omega arith) h.1 in
    let none : nodes below ≡ 0 = ap nodes (nothing_below node.kind below k is.1) in
    let flat : depth below ≡ 0 = ap depth (nothing_below node.kind below k is.1) in
    let sum : n + 1 + nodes beside ≡ n + (1 + nodes below + nodes beside) = omega arith in
    (omega arith, omega arith, (r.2.0, subst (λ (m : ℕ). Goes (within (name ∷ names) m r.2.0) more u) sum r.2.1)))
    (kind_cases node.kind)

-- a tree on top is an element or an instruction
top_kinds : (kind : Kind) (name content : List ℕ) (below beside : Forest) → IsTop (Plant (record { kind = kind; name = name; content = content }) below beside) → (kind ≡ Element) ⊎ (kind ≡ Instruction)
top_kinds Doc name content below beside top = absurd (cc)
top_kinds Element name content below beside top = inl refl
top_kinds Attribute name content below beside top = absurd (cc)
top_kinds Text name content below beside top = absurd (cc)
top_kinds Instruction name content below beside top = inr refl

-- no attribute may come where none might
none_after : (node : Node) → attributes_after node None ≡ None
none_after node = either_none (is_attribute node.kind)
  where
    either_none : (b : Bool) → (if b then option_map (λ (names : List (List ℕ)). node.name ∷ names) None else None) ≡ None
    either_none true = refl
    either_none false = refl

-- a node without children outside leads on outside
goes_outside : (node : Node) (es : List Event) (rooted : Bool) (n : ℕ) (u : Standing) → fault_at_standing (outside rooted n) (Single node) ≡ None → Goes (outside rooted (n + 1)) es u → Goes (outside rooted n) (Single node ∷ es) u
goes_outside node es rooted n u ok goes =
    (ok, subst (λ (o : Option (List (List ℕ))). Goes (record { open_names = []; rooted = rooted; nodes = n + 1; attributes = o }) es u) (sym (none_after node)) goes)

-- an instruction may stand outside, where there is room
may_instruct : (node : Node) (rooted : Bool) (n : ℕ) → node.kind ≡ Instruction → IsNode node → n < most_nodes → fault_at_standing (outside rooted n) (Single node) ≡ None
may_instruct node rooted n is good many =
    may_come node (outside rooted n) good
    (ap (λ (k : Kind). is_text k && is_outside (outside rooted n)) is)
    (ap (λ (k : Kind). is_attribute k && is_none (outside rooted n).attributes) is)
    (ap (λ (k : Kind). is_attribute k && is_among node.name (unwrap_or (outside rooted n).attributes [])) is)
    (omega arith) many

-- one tree more
one_more : (n : ℕ) → 1 + n ≡ 0 → ⊥
one_more n h = omega arith

-- instructions outside, where there is room for them
pub rest_goes : (f : Forest) → IsForest f → IsTop f → element_count f ≡ 0 → (rooted : Bool) (n : ℕ) → n + nodes f ≤ most_nodes → Goes (outside rooted n) (events f) (outside rooted (n + nodes f))
rest_goes forest.Empty is top none rooted n many = ap (λ (m : ℕ). outside rooted m) (omega arith)
rest_goes (Plant node below beside) is top none rooted n many =
    ⊎_elim
    (λ (k : node.kind ≡ Element). absurd (one_more (element_count beside) (subst (λ (kind : Kind). (if is_element kind then 1 else 0) + element_count beside ≡ 0) k none)))
    (λ (k : node.kind ≡ Instruction).
    let single : is_element node.kind ≡ false = ap is_element k in
    let others : 0 + element_count beside ≡ 0 = subst (λ (kind : Kind). (if is_element kind then 1 else 0) + element_count beside ≡ 0) k none in
    let from_beside = rest_goes beside is.3 top.1 (omega arith) rooted (n + 1) (omega arith) in
    let empty : nodes below ≡ 0 = ap nodes (nothing_below node.kind below single is.1) in
    let sum : n + 1 + nodes beside ≡ n + (1 + nodes below + nodes beside) = omega arith in
    subst (λ (es : List Event). Goes (outside rooted n) es (outside rooted (n + (1 + nodes below + nodes beside)))) (sym (events_single node below beside single))
    (goes_outside node (events beside) rooted n (outside rooted (n + (1 + nodes below + nodes beside))) (may_instruct node rooted n k is.0 (omega arith))
    (subst (λ (m : ℕ). Goes (outside rooted (n + 1)) (events beside) (outside rooted m)) sum from_beside)))
    (top_kinds node.kind node.name node.content below beside top)

-- instructions and an element outside, within the limits
pub top_goes : (f : Forest) → IsForest f → IsTop f → element_count f ≡ 1 → depth f ≤ deepest → (n : ℕ) → n + nodes f ≤ most_nodes → Goes (outside false n) (events f) (outside true (n + nodes f))
top_goes forest.Empty is top one deep n many = absurd (omega arith)
top_goes (Plant node below beside) is top one deep n many =
    ⊎_elim
    (λ (k : node.kind ≡ Element).
    let others : 1 + element_count beside ≡ 1 = subst (λ (kind : Kind). (if is_element kind then 1 else 0) + element_count beside ≡ 1) k one in
    let from_below = forest_goes below is.2 node.name [] (n + 1) (Some []) (suits_start node.kind below k is.1) (omega arith) (omega arith) in
    let from_beside = rest_goes beside is.3 top.1 (omega arith) true (n + 1 + nodes below) (omega arith) in
    let goes : Goes (outside false n) (Start node.name ∷ (events below ++ (End node.name ∷ events beside))) (outside true (n + 1 + nodes below + nodes beside)) = (
      may_start node (outside false n) k is.0 refl (omega arith) (omega arith),
      Goes-append (within (node.name ∷ []) (n + 1) (Some [])) (events below) (within (node.name ∷ []) (n + 1 + nodes below) from_below.0)
          (End node.name ∷ events beside) (outside true (n + 1 + nodes below + nodes beside)) from_below.1
          (may_end node [] (n + 1 + nodes below) from_below.0 is.0, from_beside),
    ) in
    let sum : n + 1 + nodes below + nodes beside ≡ n + (1 + nodes below + nodes beside) = omega arith in
    subst (λ (es : List Event). Goes (outside false n) es (outside true (n + (1 + nodes below + nodes beside)))) (sym (events_element node below beside k))
    (subst (λ (m : ℕ). Goes (outside false n) (Start node.name ∷ (events below ++ (End node.name ∷ events beside))) (outside true m)) sum goes))
    (λ (k : node.kind ≡ Instruction).
    let single : is_element node.kind ≡ false = ap is_element k in
    let others : 0 + element_count beside ≡ 1 = subst (λ (kind : Kind). (if is_element kind then 1 else 0) + element_count beside ≡ 1) k one in
    let from_beside = top_goes beside is.3 top.1 (omega arith) (omega arith) (n + 1) (omega arith) in
    let empty : nodes below ≡ 0 = ap nodes (nothing_below node.kind below single is.1) in
    let sum : n + 1 + nodes beside ≡ n + (1 + nodes below + nodes beside) = omega arith in
    subst (λ (es : List Event). Goes (outside false n) es (outside true (n + (1 + nodes below + nodes beside)))) (sym (events_single node below beside single))
    (goes_outside node (events beside) false n (outside true (n + (1 + nodes below + nodes beside))) (may_instruct node false n k is.0 (omega arith))
    (subst (λ (m : ℕ). Goes (outside false (n + 1)) (events beside) (outside true m)) sum from_beside)))
    (top_kinds node.kind node.name node.content below beside top)

-- the lines of a document have no fault, and their end has none
pub document_goes : (ls : List (List ℕ)) (t : OrderedTree) → IsDocument t → map event_of ls ≡ map (λ e. Some e) (events t.below)
    → (first_fault [] ls ≡ None) × (end_fault (standing (events_of ls)) ≡ None)
document_goes ls t is says =
    let r = goes_sound ls (events t.below) (outside true (1 + nodes t.below)) says (top_goes t.below is.forest is.top is.one is.shallow 1 is.small) in
    (r.0, ap end_fault (ap standing r.1 ∙ r.2))

-- the bytes that stand for a document have no fault
pub no_fault : (stream : List ℕ) (t : OrderedTree) → Reads stream t → fault_of stream ≡ None
no_fault stream t reads =
    let r = document_goes (lines stream) t reads.document reads.lines_say in
    ap (λ (o : Option PyxError). option_map_or (λ e. Some e) o (fault_at_end (lines stream))) r.0 ∙ ap (option_map (fault_at (length (lines stream)))) r.1

-- a node without children that is not refused outside is an instruction
single_outside : (kind : Kind) (name content : List ℕ) (rooted : Bool) (n : ℕ) → is_element kind ≡ false → HasParts kind name content
    → Passes (outside rooted n) (Single (record { kind = kind; name = name; content = content })) → kind ≡ Instruction
single_outside Doc name content rooted n single parts p = absurd parts
single_outside Element name content rooted n single parts p = absurd (cc)
single_outside Attribute name content rooted n single parts p = absurd (let no : true ≡ false = p.timely in cc)
single_outside Text name content rooted n single parts p = absurd (let no : true ≡ false = p.placed in cc)
single_outside Instruction name content rooted n single parts p = refl

-- an element may stand on top
top_element : (kind : Kind) (name content : List ℕ) (below beside : Forest) → kind ≡ Element → IsTop beside → IsTop (Plant (record { kind = kind; name = name; content = content }) below beside)
top_element kind name content below beside is top =
    subst (λ (k : Kind). IsTop (Plant (record { kind = k; name = name; content = content }) below beside)) (sym is) (refl, top)

-- an instruction may stand on top
top_instruction : (kind : Kind) (name content : List ℕ) (below beside : Forest) → kind ≡ Instruction → IsTop beside → IsTop (Plant (record { kind = kind; name = name; content = content }) below beside)
top_instruction kind name content below beside is top =
    subst (λ (k : Kind). IsTop (Plant (record { kind = k; name = name; content = content }) below beside)) (sym is) (refl, top)

-- what comes outside from a node without children on
pub leads_outside : (node : Node) (es : List Event) (rooted : Bool) (n : ℕ) (u : Standing) → Goes (outside rooted n) (Single node ∷ es) u → Goes (outside rooted (n + 1)) es u
leads_outside node es rooted n u goes =
    subst (λ (o : Option (List (List ℕ))). Goes (record { open_names = []; rooted = rooted; nodes = n + 1; attributes = o }) es u) (none_after node) goes.1

-- a forest behind the root element is instructions
pub rest_fits : (f : Forest) → IsForest f → (n : ℕ) (u : Standing) → n ≤ most_nodes → Goes (outside true n) (events f) u
    → IsTop f × (element_count f ≡ 0) × (depth f ≤ deepest) × (n + nodes f ≤ most_nodes)
rest_fits forest.Empty is n u many goes = (tt, refl, omega arith, omega arith)
rest_fits (Plant node below beside) is n u many goes =
    ⊎_elim
    (λ (k : node.kind ≡ Element).
    let h = subst (λ (es : List Event). Goes (outside true n) es u) (events_element node below beside k) goes in
    absurd (let p = unrefused (outside true n) (Start node.name) h.0 in let no : true ≡ false = p.placed in cc))
    (λ (k : is_element node.kind ≡ false).
    let h = subst (λ (es : List Event). Goes (outside true n) es u) (events_single node below beside k) goes in
    let free = room (outside true n) (Single node) refl h.0 in
    let good = is.0 in
    let i = single_outside node.kind node.name node.content true n k good.parts (unrefused (outside true n) (Single node) h.0) in
    let r = rest_fits beside is.3 (n + 1) u (omega arith) (leads_outside node (events beside) true n u h) in
    let none : nodes below ≡ 0 = ap nodes (nothing_below node.kind below k is.1) in
    let flat : depth below ≡ 0 = ap depth (nothing_below node.kind below k is.1) in
    let count : element_count (Plant node below beside) ≡ 0 + element_count beside = ap (λ (kind : Kind). (if is_element kind then 1 else 0) + element_count beside) i in
    (top_instruction node.kind node.name node.content below beside i r.0, omega arith, omega arith, omega arith))
    (kind_cases node.kind)

-- the parts of a document from the way of its events
pub top_fits : (f : Forest) → IsForest f → (n : ℕ) (u : Standing) → n ≤ most_nodes → Goes (outside false n) (events f) u → end_fault u ≡ None
    → IsTop f × (element_count f ≡ 1) × (depth f ≤ deepest) × (n + nodes f ≤ most_nodes)
top_fits forest.Empty is n u many goes ended = absurd (let h : end_fault (outside false n) ≡ None = ap end_fault goes ∙ ended in cc)
top_fits (Plant node below beside) is n u many goes ended =
    ⊎_elim
    (λ (k : node.kind ≡ Element).
    let h = subst (λ (es : List Event). Goes (outside false n) es u) (events_element node below beside k) goes in
    let free = room (outside false n) (Start node.name) refl h.0 in
    let b = forest_fits below is.2 node.name [] (n + 1) (Some []) (End node.name ∷ events beside) u (omega arith) (omega arith) h.1 in
    let r = rest_fits beside is.3 (n + 1 + nodes below) u b.1 b.2.1.1 in
    let count : element_count (Plant node below beside) ≡ 1 + element_count beside = ap (λ (kind : Kind). (if is_element kind then 1 else 0) + element_count beside) k in
    (top_element node.kind node.name node.content below beside k r.0, omega arith, omega arith, omega arith))
    (λ (k : is_element node.kind ≡ false).
    let h = subst (λ (es : List Event). Goes (outside false n) es u) (events_single node below beside k) goes in
    let free = room (outside false n) (Single node) refl h.0 in
    let good = is.0 in
    let i = single_outside node.kind node.name node.content false n k good.parts (unrefused (outside false n) (Single node) h.0) in
    let r = top_fits beside is.3 (n + 1) u (omega arith) (leads_outside node (events beside) false n u h) ended in
    let none : nodes below ≡ 0 = ap nodes (nothing_below node.kind below k is.1) in
    let flat : depth below ≡ 0 = ap depth (nothing_below node.kind below k is.1) in
    let count : element_count (Plant node below beside) ≡ 0 + element_count beside = ap (λ (kind : Kind). (if is_element kind then 1 else 0) + element_count beside) i in
    (top_instruction node.kind node.name node.content below beside i r.0, omega arith, omega arith, omega arith))
    (kind_cases node.kind)

-- the events of two equal lists of answers are equal
pub same_events : (es gs : List Event) → map (λ e. Some e) es ≡ map (λ e. Some e) gs → es ≡ gs
same_events [] [] h = refl
same_events [] (g ∷ gs) h = absurd (cc)
same_events (e ∷ es) [] h = absurd (cc)
same_events (e ∷ es) (g ∷ gs) h =
    let head : e ≡ g = cc in
    let rest : es ≡ gs = same_events es gs (cc) in
    cc

-- a well-formed forest whose lines have no fault, and whose end has none, makes a document
pub document_from_goes : (ls : List (List ℕ)) (f : Forest) → IsForest f → map event_of ls ≡ map (λ e. Some e) (events f) → first_fault [] ls ≡ None → end_fault (standing (events f)) ≡ None
    → (t : OrderedTree) → t.node.kind ≡ Doc → t.node.name ≡ [] → t.node.content ≡ [] → t.below ≡ f → IsDocument t
document_from_goes ls f is says sound ended t root unnamed bare below =
    let g = sound_goes ls sound in
    let same : events_of ls ≡ events f = same_events (events_of ls) (events f) (sym g.0 ∙ says) in
    let goes : Goes at_first (events f) (standing (events f)) = subst (λ (es : List Event). Goes at_first es (standing es)) same g.1 in
    let p = top_fits f is 1 (standing (events f)) (omega arith) goes ended in
    record {
      root = root;
      unnamed = unnamed;
      bare = bare;
      top = subst IsTop (sym below) p.0;
      one = ap element_count below ∙ p.1;
      forest = subst IsForest (sym below) is;
      shallow = subst (λ (g : Forest). depth g ≤ deepest) (sym below) p.2;
      small = subst (λ (g : Forest). 1 + nodes g ≤ most_nodes) (sym below) p.3;
    }

-- lines that say these events have these events
pub said_events : (ls : List (List ℕ)) (es : List Event) → map event_of ls ≡ map (λ e. Some e) es → events_of ls ≡ es
said_events [] [] h = refl
said_events [] (e ∷ es) h = cc
said_events (l ∷ ls) [] h = cc
said_events (l ∷ ls) (e ∷ es) h =
    let first : event_of l ≡ Some e = cc in
    let others : map event_of ls ≡ map (λ e. Some e) es = cc in
    ap (λ (o : Option Event). cons_option o (events_of ls)) first ∙ ap (λ (r : List Event). e ∷ r) (said_events ls es others)
