-- The levels of a builder, and what it makes of one event more.
use Rattle.std.proofs.Common.{if◌then◌else◌, min, map, ◌==◌, nat_le, ◌^◌, add-zero, drop, subst, ◌≡◌, ℕ, ◌+◌, ◌-◌, ◌*◌, ◌≤◌, ◌<◌, Bool, true, false, List, [], ◌∷◌, ◌++◌, length, Option, None, Some, refl, ap, sym, ◌∙◌, append_assoc, append-nil, arith, IsTrue, length-append}
use Rattle.std.proofs.lemmas.Bool.{eqb-true}
use Rattle.std.specs.List.{cons_option}
use Rattle.std.specs.Option.{option_map, option_map_or}
use Rattle.std.specs.Str.{bytes_eq}
use Rattle.nx_tree.specs.declared.node.Kind.TheVariants.{Doc, Element}
use Rattle.nx_tree.specs.declared.node.Node.{Node}
use Rattle.nx_tree.specs.Forest as forest
use Rattle.nx_tree.specs.Forest.{OrderedTree, Forest, Plant, planted}
use Rattle.nx_tree.specs.Document.{IsDocument, IsNode, is_element, is_name, longest_node, most_nodes, deepest}
use Rattle.nx_pyx.specs.declared.error.PyxFault.TheVariants as fault
use Rattle.nx_pyx.specs.declared.error.PyxFault.TheVariants.{BadCode, Unclosed}
use Rattle.nx_pyx.specs.declared.error.ReadError.{ReadError}
use Rattle.nx_pyx.specs.declared.error.ReadError.TheVariants.{Pyx}
use Rattle.nx_pyx.specs.declared.builder.Level.{Level}
use Rattle.nx_pyx.specs.declared.builder.Builder.{Builder}
use Rattle.nx_pyx.specs.Event.{Event, Start, End, Single, events, event_of}
use Rattle.nx_pyx.specs.Fault.{Standing, standing_after, attributes_after, standing, events_of, line_fault, first_fault, fault_at, fault_at_standing, is_outside, is_innermost, end_fault, fault_at_end}
use Rattle.nx_pyx.specs.Builder.{level_events, open_names_over, IsBuilt, AreLevels, standing_at, standing_of, IsMade, Knows, HasBuilt, Makes, RefusesEvent, Fails}
use Rattle.nx_pyx.proofs.GoesLemmas.{sound_goes}
use Rattle.nx_pyx.proofs.DocumentLemmas.{events_single, document_from_goes}
use Rattle.nx_pyx.proofs.Built.{forest_from_goes}
use Rattle.nx_pyx.proofs.ShownFaultLemmas.{first_fault-append}
use Rattle.nx_pyx.proofs.EventLemmas.{events-planted, IsBuilt-planted, standing-more, events_of-append, first_fault-next, first_fault-one}

pub level_events-more : (levels : List Level) (l : Level) → level_events (levels ++ l ∷ []) ≡ level_events levels ++ events l.before ++ Start l.name ∷ []
level_events-more [] l = refl
level_events-more (x ∷ levels) l =
    ap (λ r. events x.before ++ Start x.name ∷ r) (level_events-more levels l)
    ∙ sym (ap (λ r. r ++ Start l.name ∷ []) (append_assoc (events x.before) (Start x.name ∷ level_events levels) (events l.before))
    ∙ append_assoc (events x.before) (Start x.name ∷ (level_events levels ++ events l.before)) (Start l.name ∷ []))

pub open_names_over-more : (levels : List Level) (l : Level) (names : List (List ℕ)) → open_names_over (levels ++ l ∷ []) names ≡ l.name ∷ open_names_over levels names
open_names_over-more [] l names = refl
open_names_over-more (x ∷ levels) l names = open_names_over-more levels l (x.name ∷ names)

pub length-open_names_over : (levels : List Level) (names : List (List ℕ)) → length (open_names_over levels names) ≡ length levels + length names
length-open_names_over [] names = omega arith
length-open_names_over (x ∷ levels) names = omega (arith, length-open_names_over levels (x.name ∷ names))

pub AreLevels-more : (levels : List Level) (l : Level) → AreLevels levels → IsTrue (is_name l.name) → length l.name ≤ longest_node → IsBuilt l.before → AreLevels (levels ++ l ∷ [])
AreLevels-more [] l h name short built = (name, short, built, tt)
AreLevels-more (x ∷ levels) l h name short built = (h.0, h.1, h.2, AreLevels-more levels l h.3 name short built)

pub AreLevels-prefix : (levels : List Level) (l : Level) → AreLevels (levels ++ l ∷ []) → AreLevels levels × IsTrue (is_name l.name) × (length l.name ≤ longest_node) × IsBuilt l.before
AreLevels-prefix [] l h = (tt, h.0, h.1, h.2)
AreLevels-prefix (x ∷ levels) l h = let r = AreLevels-prefix levels l h.3 in ((h.0, h.1, h.2, r.0), r.1, r.2, r.3)

-- an element starts
pub made_start : (levels : List Level) (children : Forest) (rooted : Bool) (nodes : ℕ) (attributes : Option (List (List ℕ))) (es : List Event) (name : List ℕ) →
    IsMade levels children rooted nodes attributes es → IsTrue (is_name name) → length name ≤ longest_node → nodes < most_nodes →
    IsMade (levels ++ record { before = children; name = name } ∷ []) forest.Empty true (nodes + 1) (Some []) (es ++ Start name ∷ [])
made_start levels children rooted nodes attributes es name made named short room =
    let level : Level = record { before = children; name = name } in
    record {
      says = ap (λ r. r ++ Start name ∷ []) made.says ∙ sym (append-nil _ ∙ level_events-more levels level);
      stands = standing-more es (Start name) ∙ ap (λ s. standing_after s (Start name)) made.stands
          ∙ ap (λ (names : List (List ℕ)). let s : Standing = record { open_names = names; rooted = true; nodes = nodes + 1; attributes = Some [] } in s) (sym (open_names_over-more levels level []));
      levels_formed = AreLevels-more levels level made.levels_formed named short made.children_formed;
      children_formed = tt;
      few = let f : length es + length levels + 2 ≤ 2 * nodes = made.few in
          simp (length-append) (omega arith);
      within = omega arith;
    }

-- a node that is no element
pub made_single : (levels : List Level) (children : Forest) (rooted : Bool) (nodes : ℕ) (attributes : Option (List (List ℕ))) (es : List Event) (node : Node) →
    IsMade levels children rooted nodes attributes es → IsNode node → is_element node.kind ≡ false → nodes < most_nodes →
    IsMade levels (planted children (record { node = node; below = forest.Empty })) rooted (nodes + 1) (attributes_after node attributes) (es ++ Single node ∷ [])
made_single levels children rooted nodes attributes es node made formed other room =
    let tree : OrderedTree = record { node = node; below = forest.Empty } in
    record {
      says = ap (λ r. r ++ Single node ∷ []) made.says ∙ append_assoc (level_events levels) (events children) (Single node ∷ [])
          ∙ ap (λ r. level_events levels ++ r) (sym (events-planted children tree ∙ ap (λ r. events children ++ r) (events_single node forest.Empty forest.Empty other)));
      stands = standing-more es (Single node) ∙ ap (λ s. standing_after s (Single node)) made.stands;
      levels_formed = made.levels_formed;
      children_formed = IsBuilt-planted children tree made.children_formed (formed, (λ _. refl), tt, tt);
      few = let f : length es + length levels + 2 ≤ 2 * nodes = made.few in
          simp (length-append) (omega arith);
      within = omega arith;
    }

regrouped : (a b c : List Event) (x y : Event) → (((a ++ b) ++ x ∷ []) ++ c) ++ y ∷ [] ≡ a ++ (b ++ (((x ∷ c) ++ y ∷ []) ++ []))
regrouped a b c x y = simp (append_assoc, append-nil)

-- an element ends
pub made_end : (levels : List Level) (level : Level) (children : Forest) (rooted : Bool) (nodes : ℕ) (attributes : Option (List (List ℕ))) (es : List Event) (content : List ℕ) →
    IsMade (levels ++ level ∷ []) children rooted nodes attributes es → content ≡ [] →
    IsMade levels (planted level.before (record { node = record { kind = Element; name = level.name; content = content }; below = children })) rooted nodes None (es ++ End level.name ∷ [])
made_end levels level children rooted nodes attributes es content made bare =
    let tree : OrderedTree = record { node = record { kind = Element; name = level.name; content = content }; below = children } in
    let parts = AreLevels-prefix levels level made.levels_formed in
    record {
      says = ap (λ r. r ++ End level.name ∷ []) (made.says ∙ ap (λ r. r ++ events children) (level_events-more levels level))
          ∙ regrouped (level_events levels) (events level.before) (events children) (Start level.name) (End level.name)
          ∙ ap (λ r. level_events levels ++ r) (sym (events-planted level.before tree));
      stands = standing-more es (End level.name) ∙ ap (λ s. standing_after s (End level.name)) made.stands
          ∙ ap (λ (names : List (List ℕ)). let s : Standing = record { open_names = drop 1 names; rooted = rooted; nodes = nodes; attributes = None } in s) (open_names_over-more levels level []);
      levels_formed = parts.0;
      children_formed = IsBuilt-planted level.before tree parts.3 (
        record { parts = (parts.1, bare); short = let short : length level.name ≤ longest_node = parts.2 in rw bare (omega arith) },
        (λ no. let h : true ≡ false = no in cc h),
        made.children_formed,
        tt,
      );
      few = let f : length es + length (levels ++ level ∷ []) + 2 ≤ 2 * nodes = made.few in
          let g : length es + (length levels + 1) + 2 ≤ 2 * nodes = omega (arith, length-append levels (level ∷ [])) in
          simp (length-append) (omega arith);
      within = made.within;
    }

-- what the tests of the code say of a standing
pub is_outside-standing_at : (levels : List Level) (rooted : Bool) (nodes : ℕ) (attributes : Option (List (List ℕ))) → is_outside (standing_at levels rooted nodes attributes) ≡ (length levels == 0)
is_outside-standing_at levels rooted nodes attributes = ap (λ n. n == 0) (length-open_names_over levels [] ∙ add-zero (length levels))

pub is_deep-standing_at : (levels : List Level) → nat_le deepest (length (open_names_over levels [])) ≡ nat_le deepest (length levels)
is_deep-standing_at levels = ap (nat_le deepest) (length-open_names_over levels [] ∙ add-zero (length levels))

pub is_innermost-more : (levels : List Level) (level : Level) (name : List ℕ) → is_innermost name (open_names_over (levels ++ level ∷ []) []) ≡ bytes_eq name level.name
is_innermost-more levels level name = ap (is_innermost name) (open_names_over-more levels level [])

-- the builder takes one line more
pub taken_more : (old new : Builder) (ls : List (List ℕ)) (line : List ℕ) (e : Event) (n : ℕ) →
    HasBuilt old ls → event_of line ≡ Some e → ((attributes : Option (List (List ℕ))) → Knows old attributes → fault_at_standing (standing_of old attributes) e ≡ None) →
    ((es : List Event) (attributes : Option (List (List ℕ))) → Knows old attributes → IsMade old.levels.items old.children old.rooted old.nodes attributes es →
    (next : Option (List (List ℕ))) × Knows new next × IsMade new.levels.items new.children new.rooted new.nodes next (es ++ e ∷ [])) →
    new.lines ≡ length ls + 1 → HasBuilt new (ls ++ line ∷ [])
taken_more old new ls line e n taken says fine makes counted =
    let fault : line_fault ls line ≡ None =
    ap (λ o. option_map_or (fault_at_standing (standing (events_of ls))) o (Some BadCode)) says ∙ ap (λ s. fault_at_standing s e) taken.made.stands ∙ fine taken.attributes taken.known in
    let more : events_of (ls ++ line ∷ []) ≡ events_of ls ++ e ∷ [] =
    events_of-append ls (line ∷ []) ∙ ap (λ o. events_of ls ++ cons_option o []) says in
    let next = makes (events_of ls) taken.attributes taken.known taken.made in
    record {
      sound = first_fault-append [] ls (line ∷ []) ∙ ap (λ o. option_map_or (λ e. Some e) o (first_fault ls (line ∷ []))) taken.sound ∙ first_fault-next ls line [] fault;
      attributes = next.0;
      known = next.1;
      made = let P : List Event → Type 0 = λ es. IsMade new.levels.items new.children new.rooted new.nodes next.0 es in subst P (sym more) next.2;
      each = ap length more ∙ length-append (events_of ls) (e ∷ []) ∙ ap (λ n. n + 1) taken.each ∙ sym (length-append ls (line ∷ []));
      counted = counted ∙ sym (length-append ls (line ∷ []));
    }

-- the fault of a line that says an event
pub fault_next : (builder : Builder) (ls : List (List ℕ)) (line : List ℕ) (e : Event) (taken : HasBuilt builder ls) → event_of line ≡ Some e →
    first_fault ls (line ∷ []) ≡ option_map (fault_at (length ls + 1)) (fault_at_standing (standing_of builder taken.attributes) e)
fault_next builder ls line e taken says =
    first_fault-one ls line
    ∙ ap (option_map (fault_at (length ls + 1)))
    (ap (λ o. option_map_or (fault_at_standing (standing (events_of ls))) o (Some BadCode)) says ∙ ap (λ s. fault_at_standing s e) taken.made.stands)

-- how many lines a builder may have taken
pub few_lines : (builder : Builder) (ls : List (List ℕ)) → HasBuilt builder ls → length ls < 2 ^ 21
few_lines builder ls taken =
    let few : length (events_of ls) + length builder.levels.items + 2 ≤ 2 * builder.nodes = taken.made.few in
    let within : builder.nodes ≤ most_nodes = taken.made.within in
    let each : length (events_of ls) ≡ length ls = taken.each in
    omega arith

none_there : (levels : List Level) → (length levels == 0) ≡ true → levels ≡ []
none_there [] h = refl
none_there (level ∷ levels) h = absurd (let e : length (level ∷ levels) ≡ 0 = eqb-true (length (level ∷ levels)) 0 h in omega arith)

-- the end of the lines, with no element open
pub finished : (builder : Builder) (ls : List (List ℕ)) (tree : OrderedTree) → HasBuilt builder ls →
    (length builder.levels.items == 0) ≡ true → builder.rooted ≡ true →
    tree.node.kind ≡ Doc → tree.node.name ≡ [] → tree.node.content ≡ [] → tree.below ≡ builder.children →
    IsDocument tree × (map event_of ls ≡ map (λ e. Some e) (events tree.below))
finished builder ls tree taken outside rooted kind name content below =
    let empty : builder.levels.items ≡ [] = none_there builder.levels.items outside in
    let says : events_of ls ≡ events builder.children = taken.made.says ∙ ap (λ levels. level_events levels ++ events builder.children) empty in
    let all : map event_of ls ≡ map (λ e. Some e) (events builder.children) =
    (sound_goes ls taken.sound).0 ∙ ap (λ es. map (λ (e : Event). Some e) es) says in
    let end : end_fault (standing (events builder.children)) ≡ None =
    ap (λ es. end_fault (standing es)) (sym says) ∙ ap end_fault taken.made.stands
    ∙ ap (λ t. if t then (if builder.rooted then None else Some fault.Empty) else Some Unclosed) (is_outside-standing_at builder.levels.items builder.rooted builder.nodes taken.attributes ∙ outside)
    ∙ ap (λ t. if t then None else Some fault.Empty) rooted in (
      document_from_goes ls builder.children (forest_from_goes ls builder.children taken.made.children_formed all taken.sound) all taken.sound end tree kind name content below,
      all ∙ ap (λ f. map (λ (e : Event). Some e) (events f)) (sym below),
    )

-- the fault of the end within an element
pub unclosed : (builder : Builder) (ls : List (List ℕ)) (taken : HasBuilt builder ls) → (length builder.levels.items == 0) ≡ false → end_fault (standing (events_of ls)) ≡ Some Unclosed
unclosed builder ls taken inside =
    ap end_fault taken.made.stands
    ∙ ap (λ t. if t then (if builder.rooted then None else Some fault.Empty) else Some Unclosed) (is_outside-standing_at builder.levels.items builder.rooted builder.nodes taken.attributes ∙ inside)

-- the builder with this number of lines
abbrev pub with_lines : Builder → ℕ → Builder
with_lines builder n =
    record { alloc = builder.alloc; levels = builder.levels; children = builder.children; rooted = builder.rooted; nodes = builder.nodes; may_have = builder.may_have; attributes = builder.attributes; lines = n }

-- a line that says an event which the builder makes
pub takes_event : (builder new : Builder) (line : List ℕ) (e : Event) (n : ℕ) → event_of line ≡ Some e → n ≡ min (builder.lines + 1) (2 ^ 64 - 1) →
    Makes (with_lines builder n) new e → (ls : List (List ℕ)) → HasBuilt builder ls → HasBuilt new (ls ++ line ∷ [])
takes_event builder new line e n says counted makes ls taken =
    taken_more builder new ls line e n taken says (λ a k. makes.fine a (record { may_come = k.may_come; holds = k.holds })) (λ es a k m. makes.made es a (record { may_come = k.may_come; holds = k.holds }) m)
    (let few : length ls < 2 ^ 21 = few_lines builder ls taken in
    let is : builder.lines ≡ length ls = taken.counted in
    let lines : new.lines ≡ n = makes.lines in
    omega arith)

-- a line that says an event which is refused
pub refuses_event : (builder : Builder) (line : List ℕ) (e : Event) (n : ℕ) (error : ReadError) → event_of line ≡ Some e → n ≡ min (builder.lines + 1) (2 ^ 64 - 1) →
    RefusesEvent (with_lines builder n) n e error →
    (ls : List (List ℕ)) → HasBuilt builder ls → Fails error (first_fault ls (line ∷ []))
refuses_event builder line e n error says counted fails ls taken =
    let few : length ls < 2 ^ 21 = few_lines builder ls taken in
    let is : builder.lines ≡ length ls = taken.counted in
    let at : n ≡ length ls + 1 = omega arith in
    subst (Fails error) (ap (λ (m : ℕ). option_map (fault_at m) (fault_at_standing (standing_of builder taken.attributes) e)) at ∙ sym (fault_next builder ls line e taken says))
    (fails taken.attributes (record { may_come = taken.known.may_come; holds = taken.known.holds }))

-- the code says the fault of the end within an element
pub fails_unclosed : (builder : Builder) (error : ReadError) → error ≡ Pyx (fault_at builder.lines Unclosed) → (length builder.levels.items == 0) ≡ false →
    (ls : List (List ℕ)) → HasBuilt builder ls → Fails error (fault_at_end ls)
fails_unclosed builder error is inside ls taken =
    subst (λ (e : ReadError). Fails e (fault_at_end ls)) (sym is)
    (ap (option_map (fault_at (length ls))) (unclosed builder ls taken inside) ∙ ap (λ (n : ℕ). Some (fault_at n Unclosed)) (sym taken.counted))

-- the number of the line that comes next
pub next_line : (builder : Builder) (ls : List (List ℕ)) (n : ℕ) → HasBuilt builder ls → n ≡ min (builder.lines + 1) (2 ^ 64 - 1) → n ≡ length ls + 1
next_line builder ls n taken is =
    let few : length ls < 2 ^ 21 = few_lines builder ls taken in
    let counted : builder.lines ≡ length ls = taken.counted in
    omega arith
