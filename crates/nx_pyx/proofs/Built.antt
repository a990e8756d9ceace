-- A forest that lines without a fault say has its attributes where a document has them.
use Rattle.std.proofs.Common.{◌≡◌, ℕ, ◌+◌, Bool, true, false, List, [], ◌∷◌, ◌++◌, Option, None, Some, map, refl, ap, sym, ◌∙◌, subst, ⊎_elim, arith, append_assoc}
use Rattle.std.specs.Prelude.{◌&&◌, if◌then◌else◌, unwrap_or, Contains}
use Rattle.std.specs.Option.{option_map, is_none}
use Rattle.std.specs.Str.{bytes_eq}
use Rattle.std.proofs.lemmas.Bool.{or_parts, both_ways}
use Rattle.std.proofs.lemmas.Slice.Eq.{bytes_eq-Decides}
use Rattle.nx_lists.proofs.ListLemmas.{contains_parts}
use Rattle.nx_tree.proofs.ForestLemmas.{no_names}
use Rattle.nx_tree.specs.declared.node.Kind.{Kind}
use Rattle.nx_tree.specs.declared.node.Kind.TheVariants.{Doc, Element, Attribute, Text, Instruction}
use Rattle.nx_tree.specs.declared.node.Node.{Node}
use Rattle.nx_tree.specs.Forest as forest
use Rattle.nx_tree.specs.Forest.{Forest, Plant}
use Rattle.nx_tree.specs.Document.{is_element, is_attribute, attribute_names, HasNoAttribute, AreDistinct, MayHave, IsForest}
use Rattle.nx_pyx.specs.Builder.{IsBuilt}
use Rattle.nx_pyx.specs.Event.{Event, Start, End, Single, event_of, events}
use Rattle.nx_pyx.specs.Fault.{Standing, at_first, attributes_after, standing, is_among, first_fault}
use Rattle.nx_pyx.proofs.GoesLemmas.{Goes, unrefused, sound_goes}
use Rattle.nx_pyx.proofs.DocumentLemmas.{within, outside, kind_cases, events_element, events_single, AreNew, Suits, SuitsBy, leads_outside, said_events}

-- names that differ from those so far and from each other are distinct, and none is among those so far
pub AreNew_parts : (names more : List (List ℕ)) → AreNew names more → AreDistinct more × ((name : List ℕ) → Contains more name → is_among name names ≡ false)
AreNew_parts names [] new = (tt, λ name here. absurd (let low = here.1 in omega arith))
AreNew_parts names (first ∷ more) new =
    let p = AreNew_parts (first ∷ names) more new.1 in (
      (λ here. both_ways (bytes_eq first first) (or_parts (bytes_eq first first) (is_among first names) (p.1 first here)).0 ((bytes_eq-Decides first first).1 refl), p.0),
      λ name here.
          ⊎_elim
          (λ (same : first ≡ name). subst (λ (x : List ℕ). is_among x names ≡ false) same new.0)
          (λ (later : Contains more name). (or_parts (bytes_eq name first) (is_among name names) (p.1 name later)).1)
          (contains_parts first more name here),
    )

-- a first tree that may come, and others that may follow it
suited_by : (is : Bool) (name : List ℕ) (beside : Forest) (attributes : Option (List (List ℕ))) → (is && is_none attributes) ≡ false → (is && is_among name (unwrap_or attributes [])) ≡ false
    → Suits (if is then option_map (λ names. name ∷ names) attributes else None) beside → SuitsBy is name beside attributes
suited_by true name beside None timely fresh suits = absurd (cc)
suited_by false name beside None timely fresh suits = (refl, suits)
suited_by true name beside (Some names) timely fresh suits = (suits.0, (fresh, suits.1))
suited_by false name beside (Some names) timely fresh suits = (suits, subst (λ (more : List (List ℕ)). AreNew names more) (sym (no_names beside suits)) tt)

-- the same, by the node
suited : (node : Node) (below beside : Forest) (attributes : Option (List (List ℕ))) → (is_attribute node.kind && is_none attributes) ≡ false → (is_attribute node.kind && is_among node.name (unwrap_or attributes [])) ≡ false
    → Suits (attributes_after node attributes) beside → Suits attributes (Plant node below beside)
suited node below beside None timely fresh suits = suited_by (is_attribute node.kind) node.name beside None timely fresh suits
suited node below beside (Some names) timely fresh suits = suited_by (is_attribute node.kind) node.name beside (Some names) timely fresh suits

-- an element, and others without an attribute behind it
suited_element : (node : Node) (below beside : Forest) (attributes : Option (List (List ℕ))) → node.kind ≡ Element → HasNoAttribute beside → Suits attributes (Plant node below beside)
suited_element node below beside attributes is none =
    let same : attributes_after node attributes ≡ None =
    ap (λ (k : Kind). if is_attribute k then option_map (λ names. node.name ∷ names) attributes else None) is in
    suited node below beside attributes
    (ap (λ (k : Kind). is_attribute k && is_none attributes) is)
    (ap (λ (k : Kind). is_attribute k && is_among node.name (unwrap_or attributes [])) is)
    (subst (λ (o : Option (List (List ℕ))). Suits o beside) (sym same) none)

-- what an element may have below it
element_has : (kind : Kind) (below : Forest) → kind ≡ Element → Suits (Some []) below → MayHave kind below
element_has kind below is suits = subst (λ (k : Kind). MayHave k below) (sym is) (suits.0, (AreNew_parts [] (attribute_names below) suits.1).0)

-- what is no element has nothing below it
single_has : (kind : Kind) (below : Forest) → is_element kind ≡ false → below ≡ forest.Empty → MayHave kind below
single_has Doc below is empty = empty
single_has Element below is empty = absurd (cc)
single_has Attribute below is empty = empty
single_has Text below is empty = empty
single_has Instruction below is empty = empty

-- a forest within an element whose events are not refused has its attributes in their place
pub built_within : (f : Forest) → IsBuilt f → (name : List ℕ) (names : List (List ℕ)) (n : ℕ) (attributes : Option (List (List ℕ))) (more : List Event) (u : Standing)
    → Goes (within (name ∷ names) n attributes) (events f ++ more) u
    → IsForest f × Suits attributes f × ((m : ℕ) × (left : Option (List (List ℕ))) × Goes (within (name ∷ names) m left) more u)
built_within forest.Empty built name names n None more u goes = (tt, tt, (n, None, goes))
built_within forest.Empty built name names n (Some so_far) more u goes = (tt, (tt, tt), (n, Some so_far, goes))
built_within (Plant node below beside) built name names n attributes more u goes =
    ⊎_elim
    (λ (k : node.kind ≡ Element).
    let same : events (Plant node below beside) ++ more ≡ Start node.name ∷ (events below ++ (End node.name ∷ (events beside ++ more))) =
    ap (λ (es : List Event). es ++ more) (events_element node below beside k)
    ∙ ap (λ (es : List Event). Start node.name ∷ es) (append_assoc (events below) (End node.name ∷ events beside) more) in
    let h = subst (λ (es : List Event). Goes (within (name ∷ names) n attributes) es u) same goes in
    let b = built_within below built.2 node.name (name ∷ names) (n + 1) (Some []) (End node.name ∷ (events beside ++ more)) u h.1 in
    let r = built_within beside built.3 name names b.2.0 None more u b.2.2.1 in
    ((built.0, element_has node.kind below k b.1, b.0, r.0), suited_element node below beside attributes k r.1, r.2))
    (λ (k : is_element node.kind ≡ false).
    let same : events (Plant node below beside) ++ more ≡ Single node ∷ (events beside ++ more) =
    ap (λ (es : List Event). es ++ more) (events_single node below beside k) in
    let h = subst (λ (es : List Event). Goes (within (name ∷ names) n attributes) es u) same goes in
    let p = unrefused (within (name ∷ names) n attributes) (Single node) h.0 in
    let r = built_within beside built.3 name names (n + 1) (attributes_after node attributes) more u h.1 in
    let empty = built.1 k in
    ((built.0, single_has node.kind below k empty, subst IsForest (sym empty) tt, r.0), suited node below beside attributes p.timely p.fresh r.1, r.2))
    (kind_cases node.kind)

-- the same of a forest outside
pub built_outside : (f : Forest) → IsBuilt f → (rooted : Bool) (n : ℕ) (u : Standing) → Goes (outside rooted n) (events f) u → IsForest f
built_outside forest.Empty built rooted n u goes = tt
built_outside (Plant node below beside) built rooted n u goes =
    ⊎_elim
    (λ (k : node.kind ≡ Element).
    let h = subst (λ (es : List Event). Goes (outside rooted n) es u) (events_element node below beside k) goes in
    let b = built_within below built.2 node.name [] (n + 1) (Some []) (End node.name ∷ events beside) u h.1 in
    (built.0, element_has node.kind below k b.1, b.0, built_outside beside built.3 true b.2.0 u b.2.2.1))
    (λ (k : is_element node.kind ≡ false).
    let h = subst (λ (es : List Event). Goes (outside rooted n) es u) (events_single node below beside k) goes in
    let empty = built.1 k in
    (built.0, single_has node.kind below k empty, subst IsForest (sym empty) tt, built_outside beside built.3 rooted (n + 1) u (leads_outside node (events beside) rooted n u h)))
    (kind_cases node.kind)

-- a forest that lines without a fault say is well-formed
pub forest_from_goes : (ls : List (List ℕ)) (f : Forest) → IsBuilt f → map event_of ls ≡ map (λ e. Some e) (events f) → first_fault [] ls ≡ None → IsForest f
forest_from_goes ls f built says sound =
    let g = sound_goes ls sound in
    let goes : Goes at_first (events f) (standing (events f)) = subst (λ (es : List Event). Goes at_first es (standing es)) (said_events ls (events f) says) g.1 in
    built_outside f built false 1 (standing (events f)) goes
