-- What a builder's calls make of an event, and where they refuse it.
use Rattle.std.proofs.Common.{if◌then◌else◌, not, ◌&&◌, ◌==◌, nat_le, subst, ◌≡◌, ℕ, ◌+◌, ◌<◌, Bool, true, false, List, [], ◌∷◌, ◌++◌, length, Option, None, Some, IfSome, refl, ap, sym, ◌∙◌, add-zero}
use Rattle.std.proofs.lemmas.Slice.Eq.{bytes_eq-Decides}
use Rattle.std.proofs.lemmas.Bool.{lt-leb, ltb-false}
use Rattle.std.specs.Option.{option_map, is_some, is_none}
use Rattle.std.specs.Str.{bytes_eq}
use Rattle.std.specs.Prelude.{unwrap_or}
use Rattle.nx_tree.specs.declared.node.Kind.TheVariants.{Element, Attribute, Text, Instruction}
use Rattle.nx_tree.specs.declared.node.Node.{Node}
use Rattle.nx_tree.specs.Forest as forest
use Rattle.nx_tree.specs.Forest.{Forest, planted}
use Rattle.nx_tree.specs.Document.{IsNode, is_element, is_name, longest_node, most_nodes, deepest}
use Rattle.nx_pyx.specs.declared.error.PyxFault.{PyxFault}
use Rattle.nx_pyx.specs.declared.error.PyxFault.TheVariants.{BadNesting, BadAttribute, Twice, TooDeep, TooMany}
use Rattle.nx_pyx.specs.declared.error.ReadError.{ReadError}
use Rattle.nx_pyx.specs.declared.error.ReadError.TheVariants.{Pyx, Memory}
use Rattle.nx_pyx.specs.declared.names.Names.{Names}
use Rattle.nx_pyx.specs.declared.builder.Level.{Level}
use Rattle.nx_pyx.specs.declared.builder.Builder.{Builder}
use Rattle.nx_pyx.specs.Event.{Event, Start, End, Single}
use Rattle.nx_pyx.specs.Fault.{Standing, attributes_after, fault_at, fault_at_standing, makes_node, is_among, is_long, is_misnamed, is_misplaced_event, is_late, is_repeated_event, is_deep, is_surplus}
use Rattle.nx_pyx.specs.Names.{HoldsNames}
use Rattle.nx_pyx.specs.Line.{node_in}
use Rattle.nx_pyx.specs.Builder.{standing_at, standing_of, IsMade, Knows, Makes, RefusesEvent, Fails, Pushes, HasNoRoom}
use Rattle.nx_pyx.proofs.EventLemmas.{refused_place, refused_late, refused_twice, refused_room}
use Rattle.nx_pyx.proofs.BuilderLemmas.{length-open_names_over, is_outside-standing_at, is_innermost-more, made_start, made_single, made_end}

-- the fault that the code names is the event's
pub refuses : (builder : Builder) (e : Event) (error : ReadError) (f : PyxFault) → error ≡ Pyx (fault_at builder.lines f) →
    ((a : Option (List (List ℕ))) → Knows builder a → fault_at_standing (standing_of builder a) e ≡ Some f) → RefusesEvent builder builder.lines e error
refuses builder e error f is at =
    λ a known. subst (λ (x : ReadError). Fails x (option_map (fault_at builder.lines) (fault_at_standing (standing_of builder a) e))) (sym is)
    (ap (option_map (fault_at builder.lines)) (at a known))

-- want of memory refuses anything
pub memory_refuses : (builder : Builder) (n : ℕ) (e : Event) (error : ReadError) → error ≡ Memory → RefusesEvent builder n e error
memory_refuses builder n e error is =
    λ a known. subst (λ (x : ReadError). Fails x (option_map (fault_at n) (fault_at_standing (standing_of builder a) e))) (sym is) tt

-- nothing but room can be wanting
pub record IsFit (s : Standing) (e : Event) : Type 0 where
  pub short : is_long e ≡ false
  pub named : is_misnamed e ≡ false
  pub placed : is_misplaced_event s e ≡ false
  pub timely : is_late s e ≡ false
  pub fresh : is_repeated_event s e ≡ false

by_room : (deep surplus makes t u : Bool) → makes ≡ true → deep ≡ (makes && t) → surplus ≡ (makes && u) →
    (if deep then Some TooDeep else if surplus then Some TooMany else None) ≡ (if t then Some TooDeep else if u then Some TooMany else None)
by_room deep surplus makes t u h a b = simp (a, b, h)

-- the fault of an event that is fit otherwise
pub room_of : (builder : Builder) (a : Option (List (List ℕ))) (e : Event) → IsFit (standing_of builder a) e → makes_node e ≡ true →
    fault_at_standing (standing_of builder a) e ≡ (if nat_le deepest (length builder.levels.items) then Some TooDeep else if nat_le most_nodes builder.nodes then Some TooMany else None)
room_of builder a e fit makes =
    refused_room (standing_of builder a) e fit.short fit.named fit.placed fit.timely fit.fresh
    ∙ by_room (is_deep (standing_of builder a) e) (is_surplus (standing_of builder a) e) (makes_node e) (nat_le deepest (length builder.levels.items)) (nat_le most_nodes builder.nodes) makes
    (ap (λ n. makes_node e && nat_le deepest n) (length-open_names_over builder.levels.items [] ∙ add-zero (length builder.levels.items)))
    refl

-- the event has room
pub roomy : (builder : Builder) (a : Option (List (List ℕ))) (e : Event) → IsFit (standing_of builder a) e → makes_node e ≡ true →
    nat_le deepest (length builder.levels.items) ≡ false → builder.nodes < most_nodes → fault_at_standing (standing_of builder a) e ≡ None
roomy builder a e fit makes shallow few =
    room_of builder a e fit makes
    ∙ ap (λ t. if t then Some TooDeep else if nat_le most_nodes builder.nodes then Some TooMany else None) shallow
    ∙ ap (λ t. if t then Some TooMany else None) (lt-leb most_nodes builder.nodes few)

-- the event has no room
pub roomless : (builder tried : Builder) (e : Event) (error : ReadError) → tried.levels ≡ builder.levels → tried.nodes ≡ builder.nodes → tried.lines ≡ builder.lines →
    ((a : Option (List (List ℕ))) → Knows builder a → IsFit (standing_of builder a) e) → makes_node e ≡ true →
    HasNoRoom tried error → RefusesEvent builder builder.lines e error
roomless builder tried e error levels nodes lines fit makes full =
    refuses builder e error full.fault (full.says ∙ ap (λ (n : ℕ). Pyx (fault_at n full.fault)) lines)
    (λ a known. room_of builder a e (fit a known) makes
    ∙ ap (λ n. if nat_le deepest n then Some TooDeep else if nat_le most_nodes builder.nodes then Some TooMany else None) (sym (ap (λ (v : _). length v.items) levels))
    ∙ ap (λ n. if nat_le deepest (length tried.levels.items) then Some TooDeep else if nat_le most_nodes n then Some TooMany else None) (sym nodes)
    ∙ full.is)

-- a start

pub start_fit : (builder : Builder) (a : Option (List (List ℕ))) (name : List ℕ) → is_long (Start name) ≡ false → is_name name ≡ true →
    ((length builder.levels.items == 0) && builder.rooted) ≡ false → IsFit (standing_of builder a) (Start name)
start_fit builder a name short named beside =
    record {
      short = short;
      named = ap not named;
      placed = ap (λ t. t && builder.rooted) (is_outside-standing_at builder.levels.items builder.rooted builder.nodes a) ∙ beside;
      timely = refl;
      fresh = refl;
    }

pub start_misplaced : (builder : Builder) (a : Option (List (List ℕ))) (name : List ℕ) → is_long (Start name) ≡ false → is_name name ≡ true →
    ((length builder.levels.items == 0) && builder.rooted) ≡ true → fault_at_standing (standing_of builder a) (Start name) ≡ Some BadNesting
start_misplaced builder a name short named beside =
    refused_place (standing_of builder a) (Start name) short (ap not named) (ap (λ t. t && builder.rooted) (is_outside-standing_at builder.levels.items builder.rooted builder.nodes a) ∙ beside)

pub starts : (old new : Builder) (level : Level) (name : List ℕ) → is_long (Start name) ≡ false → is_name name ≡ true →
    ((length old.levels.items == 0) && old.rooted) ≡ false → nat_le deepest (length old.levels.items) ≡ false → old.nodes < most_nodes →
    new.levels.items ≡ old.levels.items ++ level ∷ [] → level.before ≡ old.children → level.name ≡ name →
    new.children ≡ forest.Empty → new.rooted ≡ true → new.nodes ≡ old.nodes + 1 → new.may_have ≡ true → HoldsNames new.attributes [] → new.lines ≡ old.lines →
    Makes old new (Start name)
starts old new level name short named beside shallow few levels before called children rooted nodes may holds lines =
    let same : level ≡ record { before = old.children; name = name } =
    ap (λ (f : Forest). let l : Level = record { before = f; name = level.name } in l) before
    ∙ ap (λ (n : List ℕ). let l : Level = record { before = old.children; name = n } in l) called in
    record {
      fine = λ a known. roomy old a (Start name) (start_fit old a name short named beside) refl shallow few;
      made = λ es a known made. (
        Some [],
        record { may_come = sym may; holds = holds },
        rw (levels ∙ ap (λ l. old.levels.items ++ l ∷ []) same, children, rooted, nodes)
            (made_start old.levels.items old.children old.rooted old.nodes a es name made named (ltb-false longest_node (length name) short) few),
      );
      lines = lines;
    }

-- an end

pub end_refused : (old : Builder) (levels : List Level) (level : Level) (name open_name : List ℕ) (a : Option (List (List ℕ))) → is_long (End name) ≡ false →
    old.levels.items ≡ levels ++ level ∷ [] → true ≡ not (bytes_eq name open_name) → open_name ≡ level.name →
    fault_at_standing (standing_of old a) (End name) ≡ Some BadNesting
end_refused old levels level name open_name a short is other called =
    refused_place (standing_of old a) (End name) short refl
    (ap (λ (l : List Level). is_misplaced_event (standing_at l old.rooted old.nodes a) (End name)) is ∙ ap not (is_innermost-more levels level name) ∙ sym (other ∙ ap (λ (o : List ℕ). not (bytes_eq name o)) called))

pub end_outside : (old : Builder) (name : List ℕ) (a : Option (List (List ℕ))) → is_long (End name) ≡ false → old.levels.items ≡ [] →
    fault_at_standing (standing_of old a) (End name) ≡ Some BadNesting
end_outside old name a short none =
    refused_place (standing_of old a) (End name) short refl (ap (λ (l : List Level). is_misplaced_event (standing_at l old.rooted old.nodes a) (End name)) none)

end_fine : (levels : List Level) (level : Level) (rooted : Bool) (nodes : ℕ) (a : Option (List (List ℕ))) (name : List ℕ) → is_long (End name) ≡ false →
    bytes_eq name level.name ≡ true → fault_at_standing (standing_at (levels ++ level ∷ []) rooted nodes a) (End name) ≡ None
end_fine levels level rooted nodes a name short equal =
    refused_room (standing_at (levels ++ level ∷ []) rooted nodes a) (End name) short refl (ap not (is_innermost-more levels level name ∙ equal)) refl refl

pub ends : (old new : Builder) (level : Level) (name open_name content : List ℕ) (before below : Forest) → is_long (End name) ≡ false →
    false ≡ not (bytes_eq name open_name) → open_name ≡ level.name →
    old.levels.items ≡ new.levels.items ++ level ∷ [] →
    new.children ≡ planted before (record { node = record { kind = Element; name = level.name; content = content }; below = below }) →
    before ≡ level.before → below ≡ old.children → content ≡ [] →
    new.rooted ≡ old.rooted → new.nodes ≡ old.nodes → new.may_have ≡ false → new.lines ≡ old.lines → Makes old new (End name)
ends old new level name open_name content before below short same called levels children back under bare rooted nodes may lines =
    let equal : bytes_eq name level.name ≡ true = not_not (bytes_eq name level.name) (same ∙ ap (λ (n : List ℕ). not (bytes_eq name n)) called) in
    let named : name ≡ level.name = (bytes_eq-Decides name level.name).0 equal in
    record {
      fine = λ a known. ap (λ (l : List Level). fault_at_standing (standing_at l old.rooted old.nodes a) (End name)) levels ∙ end_fine new.levels.items level old.rooted old.nodes a name short equal;
      made = λ es a known made.
          let P : List Level → Type 0 = λ l. IsMade l old.children old.rooted old.nodes a es in (
            None,
            record { may_come = sym may; holds = tt },
            rw (named, children, back, under, rooted, nodes)
                (made_end new.levels.items level old.children old.rooted old.nodes a es content (subst P levels made) bare),
          );
      lines = lines;
    }
  where
    not_not : (b : Bool) → false ≡ not b → b ≡ true
    not_not true h = refl
    not_not false h = cc

-- one node

pub singles : (old tried new : Builder) (node : Node) → Pushes tried new node →
    tried.levels ≡ old.levels → tried.children ≡ old.children → tried.rooted ≡ old.rooted → tried.nodes ≡ old.nodes → tried.lines ≡ old.lines →
    IsNode node → is_element node.kind ≡ false → nat_le deepest (length old.levels.items) ≡ false → old.nodes < most_nodes →
    ((a : Option (List (List ℕ))) → Knows old a → IsFit (standing_of old a) (Single node)) →
    ((a : Option (List (List ℕ))) → Knows old a → Knows new (attributes_after node a)) → Makes old new (Single node)
singles old tried new node pushed levels children rooted nodes lines formed other shallow few fit known =
    record {
      fine = λ a k. roomy old a (Single node) (fit a k) refl shallow few;
      made = λ es a k made. (
        attributes_after node a,
        known a k,
        rw (ap (λ v. v.items) (pushed.levels ∙ levels), pushed.children ∙ ap (λ f. planted f (record { node = node; below = forest.Empty })) children, pushed.rooted ∙ rooted, pushed.nodes ∙ ap (λ n. n + 1) nodes)
            (made_single old.levels.items old.children old.rooted old.nodes a es node made formed other few),
      );
      lines = pushed.lines ∙ lines;
    }

pub text_fit : (builder : Builder) (a : Option (List (List ℕ))) (content : List ℕ) → is_long (Single (node_in Text [] content)) ≡ false →
    (length builder.levels.items == 0) ≡ false → IsFit (standing_of builder a) (Single (node_in Text [] content))
text_fit builder a content short inside =
    record {
      short = short;
      named = refl;
      placed = is_outside-standing_at builder.levels.items builder.rooted builder.nodes a ∙ inside;
      timely = refl;
      fresh = refl;
    }

pub instruction_fit : (builder : Builder) (a : Option (List (List ℕ))) (name content : List ℕ) → is_long (Single (node_in Instruction name content)) ≡ false →
    is_name name ≡ true → IsFit (standing_of builder a) (Single (node_in Instruction name content))
instruction_fit builder a name content short named =
    record { short = short; named = ap not named; placed = refl; timely = refl; fresh = refl }

-- what a set of names says of one of them
abbrev pub Inserts : Names → Names → List ℕ → Bool → Type 0
Inserts old new name fresh = (names : List (List ℕ)) → HoldsNames old names → (fresh ≡ not (is_among name names)) × (fresh ≡ true → HoldsNames new (name ∷ names))

none_of_some : (a : Option (List (List ℕ))) → is_some a ≡ true → is_none a ≡ false
none_of_some None h = cc
none_of_some (Some names) h = refl

not_true : (b : Bool) → true ≡ not b → b ≡ false
not_true false h = refl
not_true true h = cc

among : (set new : Names) (a : Option (List (List ℕ))) (name : List ℕ) (fresh : Bool) → is_some a ≡ true → IfSome a (HoldsNames set) → Inserts set new name fresh →
    fresh ≡ not (is_among name (unwrap_or a []))
among set new None name fresh some holds inserts = absurd (let h : false ≡ true = some in cc h)
among set new (Some names) name fresh some holds inserts = (inserts names holds).0

pub attribute_fit : (builder : Builder) (new : Names) (a : Option (List (List ℕ))) (name content : List ℕ) → is_long (Single (node_in Attribute name content)) ≡ false →
    is_name name ≡ true → builder.may_have ≡ true → (fresh : Bool) → fresh ≡ true → Inserts builder.attributes new name fresh → Knows builder a →
    IsFit (standing_of builder a) (Single (node_in Attribute name content))
attribute_fit builder new a name content short named may fresh new_one inserts known =
    record {
      short = short;
      named = ap not named;
      placed = refl;
      timely = none_of_some a (known.may_come ∙ may);
      fresh = not_true (is_among name (unwrap_or a [])) (sym new_one ∙ among builder.attributes new a name fresh (known.may_come ∙ may) known.holds inserts);
    }

-- the element has the attribute
pub attribute_twice : (builder : Builder) (new : Names) (a : Option (List (List ℕ))) (name content : List ℕ) → is_long (Single (node_in Attribute name content)) ≡ false →
    is_name name ≡ true → builder.may_have ≡ true → Inserts builder.attributes new name false → Knows builder a → fault_at_standing (standing_of builder a) (Single (node_in Attribute name content)) ≡ Some Twice
attribute_twice builder new a name content short named may inserts known =
    refused_twice (standing_of builder a) (Single (node_in Attribute name content)) short (ap not named) refl (none_of_some a (known.may_come ∙ may))
    (not_false (is_among name (unwrap_or a [])) (among builder.attributes new a name false (known.may_come ∙ may) known.holds inserts))
  where
    not_false : (b : Bool) → false ≡ not b → b ≡ true
    not_false true h = refl
    not_false false h = cc

-- no attribute may come
pub attribute_late : (builder : Builder) (a : Option (List (List ℕ))) (name content : List ℕ) → is_long (Single (node_in Attribute name content)) ≡ false →
    is_name name ≡ true → builder.may_have ≡ false → Knows builder a → fault_at_standing (standing_of builder a) (Single (node_in Attribute name content)) ≡ Some BadAttribute
attribute_late builder a name content short named may known =
    refused_late (standing_of builder a) (Single (node_in Attribute name content)) short (ap not named) refl (none_there a (known.may_come ∙ may))
  where
    none_there : (a : Option (List (List ℕ))) → is_some a ≡ false → is_none a ≡ true
    none_there None h = refl
    none_there (Some names) h = cc

knows_more : (set new : Names) (a : Option (List (List ℕ))) (name : List ℕ) (fresh : Bool) → fresh ≡ true → is_some a ≡ true → IfSome a (HoldsNames set) → Inserts set new name fresh →
    (is_some (option_map (λ ns. name ∷ ns) a) ≡ true) × IfSome (option_map (λ ns. name ∷ ns) a) (HoldsNames new)
knows_more set new None name fresh new_one some holds inserts = absurd (let h : false ≡ true = some in cc h)
knows_more set new (Some names) name fresh new_one some holds inserts = (refl, (inserts names holds).1 new_one)

pub adds_text : (old tried new : Builder) (content : List ℕ) → is_long (Single (node_in Text [] content)) ≡ false → (length old.levels.items == 0) ≡ false →
    (nat_le deepest (length old.levels.items) ≡ false) × (old.nodes < most_nodes) → Pushes tried new (node_in Text [] content) →
    tried.levels ≡ old.levels → tried.children ≡ old.children → tried.rooted ≡ old.rooted → tried.nodes ≡ old.nodes → tried.lines ≡ old.lines → tried.may_have ≡ false →
    Makes old new (Single (node_in Text [] content))
adds_text old tried new content short inside room pushed levels children rooted nodes lines may =
    singles old tried new (node_in Text [] content) pushed levels children rooted nodes lines
    (record { parts = refl; short = ltb-false longest_node (0 + length (node_in Text [] content).content) short }) refl room.0 room.1
    (λ a known. text_fit old a content short inside)
    (λ a known. record { may_come = sym (pushed.may_have ∙ may); holds = tt })

pub adds_instruction : (old tried new : Builder) (name content : List ℕ) → is_long (Single (node_in Instruction name content)) ≡ false → is_name name ≡ true →
    (nat_le deepest (length old.levels.items) ≡ false) × (old.nodes < most_nodes) → Pushes tried new (node_in Instruction name content) →
    tried.levels ≡ old.levels → tried.children ≡ old.children → tried.rooted ≡ old.rooted → tried.nodes ≡ old.nodes → tried.lines ≡ old.lines → tried.may_have ≡ false →
    Makes old new (Single (node_in Instruction name content))
adds_instruction old tried new name content short named room pushed levels children rooted nodes lines may =
    singles old tried new (node_in Instruction name content) pushed levels children rooted nodes lines
    (record { parts = named; short = ltb-false longest_node (length name + length (node_in Instruction name content).content) short }) refl room.0 room.1
    (λ a known. instruction_fit old a name content short named)
    (λ a known. record { may_come = sym (pushed.may_have ∙ may); holds = tt })

pub adds_attribute : (old tried new : Builder) (name content : List ℕ) → is_long (Single (node_in Attribute name content)) ≡ false → is_name name ≡ true →
    old.may_have ≡ true → (fresh : Bool) → fresh ≡ true → Inserts old.attributes tried.attributes name fresh →
    (nat_le deepest (length old.levels.items) ≡ false) × (old.nodes < most_nodes) → Pushes tried new (node_in Attribute name content) →
    tried.levels ≡ old.levels → tried.children ≡ old.children → tried.rooted ≡ old.rooted → tried.nodes ≡ old.nodes → tried.lines ≡ old.lines → tried.may_have ≡ old.may_have →
    Makes old new (Single (node_in Attribute name content))
adds_attribute old tried new name content short named may fresh new_one inserts room pushed levels children rooted nodes lines may_still =
    singles old tried new (node_in Attribute name content) pushed levels children rooted nodes lines
    (record { parts = named; short = ltb-false longest_node (length name + length (node_in Attribute name content).content) short }) refl room.0 room.1
    (λ a known. attribute_fit old tried.attributes a name content short named may fresh new_one inserts known)
    (λ a known. let more = knows_more old.attributes tried.attributes a name fresh new_one (known.may_come ∙ may) known.holds inserts in
    record {
      may_come = more.0 ∙ sym (pushed.may_have ∙ may_still ∙ may);
      holds = subst (λ (n : Names). IfSome (option_map (λ ns. name ∷ ns) a) (HoldsNames n)) (sym pushed.attributes) more.1;
    })
