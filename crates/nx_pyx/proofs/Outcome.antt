-- Each list of bytes stands for one document, or has one fault.
use Rattle.std.proofs.Common.{◌≡◌, ℕ, ◌+◌, ◌==◌, ◌&&◌, Bool, true, false, not, if◌then◌else◌, List, [], ◌∷◌, ◌++◌, length, Option, None, Some, map, refl, ap, sym, ◌∙◌, subst, inl, inr, ⊎_elim, ◌⊎◌, arith, append_assoc, append-nil}
use Rattle.std.specs.Option.{option_map, option_map_or}
use Rattle.std.proofs.lemmas.Bool.{leb-false, ltb-false, ne_eqb, not-false}
use Rattle.std.proofs.lemmas.Slice.Eq.{bytes_eq-Decides}
use Rattle.nx_tree.specs.declared.node.Kind.{Kind}
use Rattle.nx_tree.specs.declared.node.Kind.TheVariants.{Doc, Element, Attribute, Text, Instruction}
use Rattle.nx_tree.specs.Forest as forest
use Rattle.nx_tree.specs.Forest.{OrderedTree, Forest, planted}
use Rattle.nx_tree.specs.Document.{IsDocument, HasParts, is_element, is_name, longest_node, most_nodes}
use Rattle.nx_pyx.specs.declared.error.PyxFault.{PyxFault}
use Rattle.nx_pyx.specs.declared.error.PyxFault.TheVariants as fault
use Rattle.nx_pyx.specs.declared.error.PyxFault.TheVariants.{Unclosed}
use Rattle.nx_pyx.specs.declared.error.PyxError.{PyxError}
use Rattle.nx_pyx.specs.declared.builder.Level.{Level}
use Rattle.nx_pyx.specs.Lines.{lines}
use Rattle.nx_pyx.specs.Event.{Event, Start, End, Single, named_node, text_node, unescape, event_of, events}
use Rattle.nx_pyx.specs.Fault.{Standing, attributes_after, standing, is_text, fault_at_standing, events_of, fault_at, first_fault, end_fault, fault_of}
use Rattle.nx_pyx.specs.Reading.{Reads}
use Rattle.nx_pyx.specs.Outcome.{HasOneReading, HasOneFault}
use Rattle.nx_pyx.specs.Builder.{level_events, standing_at, IsMade}
use Rattle.nx_pyx.proofs.GoesLemmas.{Goes, Passes, unrefused, sound_goes}
use Rattle.nx_pyx.proofs.DocumentLemmas.{document_from_goes, no_fault}
use Rattle.nx_pyx.proofs.Built.{forest_from_goes}
use Rattle.nx_pyx.proofs.Reading.{one_reading}
use Rattle.nx_pyx.proofs.EventLemmas.{standing-more}
use Rattle.nx_pyx.proofs.BuilderLemmas.{made_start, made_single, made_end, is_innermost-more, is_outside-standing_at}

-- Something is made of the events: open levels, and children of the innermost element.
pub record IsForm (es : List Event) : Type 0 where
  pub levels : List Level
  pub children : Forest
  pub rooted : Bool
  pub nodes : ℕ
  pub attributes : Option (List (List ℕ))
  pub made : IsMade levels children rooted nodes attributes es

-- nothing is made of no event
no_form : IsForm []
no_form = record {
  levels = [];
  children = forest.Empty;
  rooted = false;
  nodes = 1;
  attributes = None;
  made = record { says = refl; stands = refl; levels_formed = tt; children_formed = tt; few = omega arith; within = omega arith };
}

-- which node a line may say
abbrev IsSaid : Kind → List ℕ → Type 0
IsSaid Doc name = ⊥
IsSaid Element name = ⊥
IsSaid Attribute name = Unit {0}
IsSaid Text name = name ≡ []
IsSaid Instruction name = Unit {0}

-- a line may say the event
abbrev IsSayable : Event → Type 0
IsSayable (Start name) = Unit {0}
IsSayable (End name) = Unit {0}
IsSayable (Single node) = IsSaid node.kind node.name

-- what a line says by the tests of its code
sayable_by : (start end attribute text instruction : Bool) (rest : List ℕ) (e : Event) →
    (if start then Some (Start rest)
    else if end then Some (End rest)
    else if attribute then Some (Single (named_node Attribute rest))
    else if text then Some (Single (text_node (unescape rest)))
    else if instruction then Some (Single (named_node Instruction rest))
    else None) ≡ Some e → IsSayable e
sayable_by true end attribute text instruction rest e h = let is : Start rest ≡ e = cc in subst IsSayable is tt
sayable_by false true attribute text instruction rest e h = let is : End rest ≡ e = cc in subst IsSayable is tt
sayable_by false false true text instruction rest e h = let is : Single (named_node Attribute rest) ≡ e = cc in subst IsSayable is tt
sayable_by false false false true instruction rest e h = let is : Single (text_node (unescape rest)) ≡ e = cc in subst IsSayable is refl
sayable_by false false false false true rest e h = let is : Single (named_node Instruction rest) ≡ e = cc in subst IsSayable is tt
sayable_by false false false false false rest e h = absurd (cc)

-- what a line says
sayable : (line : List ℕ) (e : Event) → event_of line ≡ Some e → IsSayable e
sayable [] e h = absurd (cc)
sayable (code ∷ rest) e h = sayable_by (code == 40) (code == 41) (code == 65) (code == 45) (code == 63) rest e h

-- a line says no element alone
said_other : (kind : Kind) (name : List ℕ) → IsSaid kind name → is_element kind ≡ false
said_other Doc name said = absurd said
said_other Element name said = absurd said
said_other Attribute name said = refl
said_other Text name said = refl
said_other Instruction name said = refl

-- a node that a line says has its parts, where its name is none that may not be
said_parts : (kind : Kind) (name content : List ℕ) → IsSaid kind name → (not (is_text kind) && not (is_name name)) ≡ false → HasParts kind name content
said_parts Doc name content said named = absurd said
said_parts Element name content said named = absurd said
said_parts Attribute name content said named = not-false (is_name name) named
said_parts Text name content said named = said
said_parts Instruction name content said named = not-false (is_name name) named

-- no level, or a last one
last_level : (levels : List Level) → (levels ≡ []) ⊎ ((prefix : List Level) × (level : Level) × (levels ≡ prefix ++ level ∷ []))
last_level [] = inl refl
last_level (first ∷ levels) =
    ⊎_elim
    (λ (none : levels ≡ []). inr ([], first, ap (λ (ls : List Level). first ∷ ls) none))
    (λ (some : (prefix : List Level) × (level : Level) × (levels ≡ prefix ++ level ∷ [])). inr (first ∷ some.0, some.1, ap (λ (ls : List Level). first ∷ ls) some.2))
    (last_level levels)

-- an end, by the level that is open innermost
form_end : (levels : List Level) (children : Forest) (rooted : Bool) (nodes : ℕ) (attributes : Option (List (List ℕ))) (es : List Event) (name : List ℕ) →
    IsMade levels children rooted nodes attributes es → Passes (standing_at levels rooted nodes attributes) (End name) → IsForm (es ++ End name ∷ [])
form_end levels children rooted nodes attributes es name made passes =
    ⊎_elim
    (λ (none : levels ≡ []).
    absurd (let p : Passes (standing_at [] rooted nodes attributes) (End name) = subst (λ (ls : List Level). Passes (standing_at ls rooted nodes attributes) (End name)) none passes in
    let no : true ≡ false = p.placed in cc))
    (λ (some : (prefix : List Level) × (level : Level) × (levels ≡ prefix ++ level ∷ [])).
    let p : Passes (standing_at (some.0 ++ some.1 ∷ []) rooted nodes attributes) (End name) =
    subst (λ (ls : List Level). Passes (standing_at ls rooted nodes attributes) (End name)) some.2 passes in
    let innermost = not-false _ p.placed in
    let same : name ≡ some.1.name = (bytes_eq-Decides name some.1.name).0 (sym (is_innermost-more some.0 some.1 name) ∙ innermost) in
    let m : IsMade (some.0 ++ some.1 ∷ []) children rooted nodes attributes es = subst (λ (ls : List Level). IsMade ls children rooted nodes attributes es) some.2 made in
    record {
      levels = some.0;
      children = planted some.1.before (record { node = record { kind = Element; name = some.1.name; content = [] }; below = children });
      rooted = rooted;
      nodes = nodes;
      attributes = None;
      made = subst
          (λ (n : List ℕ). IsMade some.0 (planted some.1.before (record { node = record { kind = Element; name = some.1.name; content = [] }; below = children })) rooted nodes None (es ++ End n ∷ []))
          (sym same) (made_end some.0 some.1 children rooted nodes attributes es [] m refl);
    })
    (last_level levels)

-- one event more, which a line may say and no test refuses
form_next : (es : List Event) (e : Event) → IsForm es → IsSayable e → fault_at_standing (standing es) e ≡ None → IsForm (es ++ e ∷ [])
form_next es (Start name) form said ok =
    let p = unrefused (standing_at form.levels form.rooted form.nodes form.attributes) (Start name) (subst (λ (s : Standing). fault_at_standing s (Start name) ≡ None) form.made.stands ok) in
    record {
      levels = form.levels ++ record { before = form.children; name = name } ∷ [];
      children = forest.Empty;
      rooted = true;
      nodes = form.nodes + 1;
      attributes = Some [];
      made = made_start form.levels form.children form.rooted form.nodes form.attributes es name form.made
          (not-false (is_name name) p.named) (ltb-false longest_node (length name) p.short) (leb-false most_nodes form.nodes p.few);
    }
form_next es (End name) form said ok =
    form_end form.levels form.children form.rooted form.nodes form.attributes es name form.made
    (unrefused (standing_at form.levels form.rooted form.nodes form.attributes) (End name) (subst (λ (s : Standing). fault_at_standing s (End name) ≡ None) form.made.stands ok))
form_next es (Single node) form said ok =
    let p = unrefused (standing_at form.levels form.rooted form.nodes form.attributes) (Single node) (subst (λ (s : Standing). fault_at_standing s (Single node) ≡ None) form.made.stands ok) in
    record {
      levels = form.levels;
      children = planted form.children (record { node = node; below = forest.Empty });
      rooted = form.rooted;
      nodes = form.nodes + 1;
      attributes = attributes_after node form.attributes;
      made = made_single form.levels form.children form.rooted form.nodes form.attributes es node form.made
          (record { parts = said_parts node.kind node.name node.content said p.named; short = ltb-false longest_node (length node.name + length node.content) p.short })
          (said_other node.kind node.name said) (leb-false most_nodes form.nodes p.few);
    }

-- something is made of events, and of those that lines say after them, where none is refused
form_from : (ls : List (List ℕ)) (es before : List Event) (t : Standing) → IsForm before → map event_of ls ≡ map (λ e. Some e) es → Goes (standing before) es t → IsForm (before ++ es)
form_from [] [] before t form says goes = subst IsForm (sym (append-nil before)) form
form_from [] (e ∷ es) before t form says goes = absurd (cc)
form_from (line ∷ ls) [] before t form says goes = absurd (cc)
form_from (line ∷ ls) (e ∷ es) before t form says goes =
    let is : event_of line ≡ Some e = cc in
    let rest : map event_of ls ≡ map (λ e. Some e) es = cc in
    subst IsForm (append_assoc before (e ∷ []) es)
    (form_from ls es (before ++ e ∷ []) t (form_next before e form (sayable line e is) goes.0) rest
    (subst (λ (s : Standing). Goes s es t) (sym (standing-more before e)) goes.1))

-- something is made of lines without a fault
pub form_of : (ls : List (List ℕ)) → first_fault [] ls ≡ None → IsForm (events_of ls)
form_of ls sound =
    let g = sound_goes ls sound in
    form_from ls (events_of ls) [] (standing (events_of ls)) no_form g.0 g.1

-- where the end has no fault, none is open
closed : (levels : List Level) (rooted : Bool) (nodes : ℕ) (attributes : Option (List (List ℕ))) → end_fault (standing_at levels rooted nodes attributes) ≡ None → levels ≡ []
closed [] rooted nodes attributes h = refl
closed (level ∷ levels) rooted nodes attributes h =
    let inside : (length (level ∷ levels) == 0) ≡ false = ne_eqb (length (level ∷ levels)) 0 (λ none. omega arith) in
    let unclosed : end_fault (standing_at (level ∷ levels) rooted nodes attributes) ≡ Some Unclosed =
    ap (λ t. if t then (if rooted then None else Some fault.Empty) else Some Unclosed) (is_outside-standing_at (level ∷ levels) rooted nodes attributes ∙ inside) in
    absurd (let no : None ≡ Some Unclosed = sym h ∙ unclosed in cc)

-- the document over these trees
abbrev document_over : Forest → OrderedTree
document_over f = record { node = record { kind = Doc; name = []; content = [] }; below = f }

-- lines without a fault, whose end has none, say a document
pub document_of : (ls : List (List ℕ)) → first_fault [] ls ≡ None → end_fault (standing (events_of ls)) ≡ None
    → (tree : OrderedTree) × IsDocument tree × (map event_of ls ≡ map (λ e. Some e) (events tree.below))
document_of ls sound ended =
    let form = form_of ls sound in
    let none : form.levels ≡ [] = closed form.levels form.rooted form.nodes form.attributes (sym (ap end_fault form.made.stands) ∙ ended) in
    let says : events_of ls ≡ events form.children = form.made.says ∙ ap (λ levels. level_events levels ++ events form.children) none in
    let all : map event_of ls ≡ map (λ e. Some e) (events form.children) = (sound_goes ls sound).0 ∙ ap (λ es. map (λ (e : Event). Some e) es) says in
    let end : end_fault (standing (events form.children)) ≡ None = ap (λ es. end_fault (standing es)) (sym says) ∙ ended in
    let tree = document_over form.children in
    (tree, document_from_goes ls form.children (forest_from_goes ls form.children form.made.children_formed all sound) all sound end tree refl refl refl refl, all)

-- where there is no fault, neither the lines nor their end have one
pub neither : (found : Option PyxError) (n : ℕ) (at_end : Option PyxFault) → option_map_or (λ e. Some e) found (option_map (fault_at n) at_end) ≡ None → (found ≡ None) × (at_end ≡ None)
neither None n None h = (refl, refl)
neither None n (Some fault) h = absurd (cc)
neither (Some error) n at_end h = absurd (cc)

-- by the fault of the bytes
outcome_by : (stream : List ℕ) (found : Option PyxError) → fault_of stream ≡ found → HasOneReading stream ⊎ HasOneFault stream
outcome_by stream None is =
    let parts = neither (first_fault [] (lines stream)) (length (lines stream)) (end_fault (standing (events_of (lines stream)))) is in
    let document = document_of (lines stream) parts.0 parts.1 in
    let reads : Reads stream document.0 = record { document = document.1; lines_say = document.2 } in
    inl (record {
      tree = document.0;
      reads = reads;
      only = λ other also. one_reading stream other document.0 also reads;
      faultless = is;
    })
outcome_by stream (Some error) is =
    inr (record {
      error = error;
      faulty = is;
      unread = λ tree reads. let no : None ≡ Some error = sym (no_fault stream tree reads) ∙ is in cc;
    })

-- each list of bytes stands for one document, or has one fault
pub one_outcome : (stream : List ℕ) → HasOneReading stream ⊎ HasOneFault stream
one_outcome stream = outcome_by stream (fault_of stream) refl
