-- What a command of a script holds could be read.
use Rattle.std.proofs.Common.{◌≡◌, ℕ, ◌+◌, ◌≤◌, Bool, true, false, List, [], ◌∷◌, ◌++◌, length, ⊎_elim, Option, None, Some, IfSome, refl, sym, subst, arith, take}
use Rattle.std.specs.Prelude.{if◌then◌else◌, ◌==◌, ◌&&◌, not, nat_lt, All, IsTrue, codes}
use Rattle.std.specs.Bool.{MatchBool}
use Rattle.std.specs.Option.{option_map, option_map_or, unwrap_or, is_none}
use Rattle.std.specs.Str.{bytes_eq}
use Rattle.std.proofs.lemmas.Bool.{cases_Bool, MatchBool-at_true, ltb-false, not-false}
use Rattle.std.proofs.lemmas.List.Elements.{All-nil, All-cons, All-append, All-head, All-tail}
use Rattle.nx_tree.specs.declared.node.Kind.{Kind}
use Rattle.nx_tree.specs.declared.node.Kind.TheVariants.{Doc, Element, Attribute, Text, Instruction}
use Rattle.nx_tree.specs.Document.{IsNode, HasParts, is_name, longest_node}
use Rattle.nx_pyx.specs.declared.error.PyxFault.{PyxFault}
use Rattle.nx_pyx.specs.declared.error.PyxFault.TheVariants.{BadCode, BadName, BadNesting, LongLine}
use Rattle.nx_pyx.specs.Event.{Event, Start, End, Single, event_by, event_of, unescape}
use Rattle.nx_pyx.specs.Fault.{is_long, is_misnamed, is_text, makes_node, fault_at}
use Rattle.nx_pyx.specs.Line.{node_of, event_fault}
use Rattle.nx_matrix.specs.declared.rule.Entry.{Entry}
use Rattle.nx_matrix.specs.declared.rule.Rule.{Rule}
use Rattle.nx_script.specs.declared.command.LoadBody.TheVariants as load
use Rattle.nx_script.specs.declared.command.LineBody.{LineBody}
use Rattle.nx_script.specs.declared.command.LineBody.TheVariants as line
use Rattle.nx_script.specs.declared.command.TextBody.TheVariants as content
use Rattle.nx_script.specs.declared.command.Command.{Command}
use Rattle.nx_script.specs.declared.command.Command.TheVariants.{Load, Discard, Rename, Names, Export, Insert, Delete, Retext, Get, Layout, SetRule, Rules, Checkpoint, Begin, Commit, Bad}
use Rattle.nx_script.specs.declared.script.Script.{Script}
use Rattle.nx_script.specs.Script.{HasGiven}
use Rattle.nx_script.proofs.ScriptLemmas.{HasLooked, looked}
use Rattle.nx_pyx.specs.Field.{field, behind_space}
use Rattle.nx_pyx.specs.DocumentName.{is_document_name}
use Rattle.nx_matrix.specs.RuleLabels.{HasLabels, is_parent_label, is_child_label}
use Rattle.nx_script.specs.Rule.{entry_named, rule_by, rule_of}
use Rattle.nx_script.specs.Line.{longest_line, line_body, place_said, ends_there, insert_at, retext_at, lone_command, rename_by, command_by, command_of}
use Rattle.nx_script.specs.Commands.{begins_load, has_dot, as_document_name, loaded_name, IsLoadCommand, IsWholeCommand, SplitsInto, cut_off, AreCommands, CanCome}

-- what holds of both ways holds of the one that is taken
either_way : {X : Type 0} (P : X → Type 0) (b : Bool) {x y : X} → P x → P y → P (if b then x else y)
either_way P b {x} {y} one other = elim b as (λ v. P (if v then x else y)) [ true ↦ one | false ↦ other ]

-- the same of an option
any_option : {X Y : Type 0} (P : Y → Type 0) (f : X → Y) (o : Option X) {y : Y} → ((x : X) → P (f x)) → P y → P (option_map_or f o y)
any_option P f None some none = none
any_option P f (Some x) some none = some x

-- a node that a line may say: an attribute, an instruction, or a text without a name
HasShape : Kind → List ℕ → Type 0
HasShape Text name = name ≡ []
HasShape Attribute name = Unit {0}
HasShape Instruction name = Unit {0}
HasShape Doc name = ⊥
HasShape Element name = ⊥

IsShaped : Event → Type 0
IsShaped (Start name) = Unit {0}
IsShaped (End name) = Unit {0}
IsShaped (Single node) = HasShape node.kind node.name

event_by_shaped : (code : ℕ) (rest : List ℕ) → IfSome (event_by code rest) IsShaped
unfolding HasShape IsShaped
event_by_shaped code rest =
    let P : Option Event → Type 0 = λ o. IfSome o IsShaped in
    either_way P (code == 40) tt
    (either_way P (code == 41) tt
    (either_way P (code == 65) tt
    (either_way P (code == 45) refl
    (either_way P (code == 63) tt tt))))

event_of_shaped : (bytes : List ℕ) → IfSome (event_of bytes) IsShaped
event_of_shaped [] = tt
event_of_shaped (code ∷ rest) = event_by_shaped code rest

-- a chain of faults that gives none
not_first : (b : Bool) (fault : PyxFault) (others : Option PyxFault) → (if b then Some fault else others) ≡ None → (b ≡ false) × (others ≡ None)
not_first true fault others is = cc is
not_first false fault others is = (refl, is)

makes : (b : Bool) → (if b then None else Some BadNesting) ≡ None → b ≡ true
makes true is = refl
makes false is = cc is

has_parts : (kind : Kind) (name bytes : List ℕ) → HasShape kind name → (not (is_text kind) && not (is_name name)) ≡ false → HasParts kind name bytes
unfolding HasShape
has_parts Doc name bytes shape named = shape
has_parts Element name bytes shape named = absurd shape
has_parts Attribute name bytes shape named = not-false (is_name name) named
has_parts Text name bytes shape named = shape
has_parts Instruction name bytes shape named = not-false (is_name name) named

-- a line without a fault that makes a node says a node of a document
node_said : (e : Event) → IsShaped e → is_long e ≡ false → is_misnamed e ≡ false → makes_node e ≡ true → IsNode (node_of e)
unfolding IsShaped
node_said (Start name) shaped short named one =
    let bound : length name ≤ longest_node = ltb-false longest_node (length name) short in
    record { parts = (not-false (is_name name) named, refl); short = omega arith }
node_said (End name) shaped short named one = cc one
node_said (Single node) shaped short named one =
    record { parts = has_parts node.kind node.name node.content shaped named; short = ltb-false longest_node (length node.name + length node.content) short }

LineCan : LineBody → Type 0
LineCan (line.Read node) = IsNode node
LineCan (line.Wrong error) = Unit {0}

faultless_node : (e : Event) → IsShaped e → event_fault e ≡ None → IsNode (node_of e)
faultless_node e shaped none =
    let long = not_first (is_long e) LongLine (if is_misnamed e then Some BadName else if makes_node e then None else Some BadNesting) none in
    let named = not_first (is_misnamed e) BadName (if makes_node e then None else Some BadNesting) long.1 in
    node_said e shaped long.0 named.0 (makes (makes_node e) named.1)

fault_can : (e : Event) (found : Option PyxFault) → IsShaped e → event_fault e ≡ found → LineCan (option_map_or (λ fault. line.Wrong (fault_at 1 fault)) found (line.Read (node_of e)))
unfolding LineCan
fault_can e None shaped is = faultless_node e shaped is
fault_can e (Some fault) shaped is = tt

line_can : (bytes : List ℕ) → LineCan (line_body bytes)
unfolding LineCan
line_can bytes = by_event (event_of bytes) (event_of_shaped bytes)
  where
    by_event : (o : Option Event) → IfSome o IsShaped →
        LineCan (option_map_or (λ e. option_map_or (λ fault. line.Wrong (fault_at 1 fault)) (event_fault e) (line.Read (node_of e))) o (line.Wrong (fault_at 1 BadCode)))
    by_event None shaped = tt
    by_event (Some e) shaped = fault_can e (event_fault e) shaped refl

insert_can : (name path : List ℕ) (body : LineBody) → LineCan body → CanCome (Insert name path body)
unfolding LineCan
insert_can name path (line.Read node) can = can
insert_can name path (line.Wrong error) can = tt

text_can : (name path bytes : List ℕ) (b : Bool) → nat_lt longest_node (length (unescape bytes)) ≡ b →
    CanCome (Retext name path (if b then content.Wrong (fault_at 1 LongLine) else content.Read (unescape bytes)))
text_can name path bytes true is = tt
text_can name path bytes false is = ltb-false longest_node (length (unescape bytes)) is

-- what is said is a rule for labels of a parent and a child
abbrev AreLabels : Option Rule → Type 0
AreLabels found = IfSome found HasLabels

rule_by-labels : (parent child word : List ℕ) → AreLabels (rule_by parent child word)
rule_by-labels parent child word = by_labels (is_parent_label parent) (is_child_label child) refl refl
  where
    with_entry : IsTrue (is_parent_label parent) → IsTrue (is_child_label child) → (found : Option Entry) →
        AreLabels (option_map (λ entry. record { parent = parent; child = child; entry = entry }) found)
    with_entry p c None = tt
    with_entry p c (Some entry) = (p, c)

    by_labels : (p c : Bool) → is_parent_label parent ≡ p → is_child_label child ≡ c →
        AreLabels (if p && c then option_map (λ entry. record { parent = parent; child = child; entry = entry }) (entry_named word) else None)
    by_labels true true p c = with_entry p c (entry_named word)
    by_labels true false p c = tt
    by_labels false true p c = tt
    by_labels false false p c = tt

rule_of-labels : (bytes : List ℕ) → AreLabels (rule_of bytes)
rule_of-labels bytes =
    any_option AreLabels (λ more. option_map_or (rule_by (field bytes) (field more)) (behind_space more) None) (behind_space bytes)
    (λ more. any_option AreLabels (rule_by (field bytes) (field more)) (behind_space more) (λ word. rule_by-labels (field bytes) (field more) word) tt) tt

rename_can : (rest : List ℕ) → CanCome (rename_by rest)
rename_can rest =
    any_option CanCome (λ new. if is_document_name (field rest) && is_document_name new then Rename (field rest) new else Bad) (behind_space rest)
    (λ new. by_names new (is_document_name (field rest)) (is_document_name new) refl) tt
  where
    by_names : (new : List ℕ) (a b : Bool) → is_document_name new ≡ b → CanCome (if a && b then Rename (field rest) new else Bad)
    by_names new true true is = is
    by_names new true false is = tt
    by_names new false b is = tt

-- what a line says could be read
pub command_can : (bytes : List ℕ) → CanCome (command_of bytes)
command_can bytes =
    either_way CanCome (nat_lt longest_line (length bytes)) (either_way CanCome (bytes_eq (take 6 bytes) (codes "begin ")) tt tt)
    (any_option CanCome (command_by (field bytes)) (behind_space bytes) (λ rest. by_word (field bytes) rest) (lone_can (field bytes)))
  where
    lone_can : (word : List ℕ) → CanCome (lone_command word)
    lone_can word =
        either_way CanCome (bytes_eq word (codes "names")) tt
        (either_way CanCome (bytes_eq word (codes "rules")) tt (either_way CanCome (bytes_eq word (codes "checkpoint")) tt
        (either_way CanCome (bytes_eq word (codes "begin")) tt (either_way CanCome (bytes_eq word (codes "commit")) tt tt))))

    rule_can : (found : Option Rule) → AreLabels found → CanCome (option_map_or SetRule found Bad)
    rule_can None labels = tt
    rule_can (Some rule) labels = labels

    by_word : (word rest : List ℕ) → CanCome (command_by word rest)
    by_word word rest =
        either_way CanCome (bytes_eq word (codes "drop")) (either_way CanCome (is_document_name rest) tt tt)
        (either_way CanCome (bytes_eq word (codes "rename")) (rename_can rest)
        (either_way CanCome (bytes_eq word (codes "export")) (either_way CanCome (is_document_name rest) tt tt)
        (either_way CanCome (bytes_eq word (codes "insert"))
        (any_option CanCome insert_at (place_said rest)
        (λ place. any_option CanCome (λ l. Insert place.name place.path (line_body l)) place.last (λ l. insert_can place.name place.path (line_body l) (line_can l)) tt) tt)
        (either_way CanCome (bytes_eq word (codes "delete"))
        (any_option CanCome (ends_there Delete) (place_said rest) (λ place. either_way CanCome (is_none place.last) tt tt) tt)
        (either_way CanCome (bytes_eq word (codes "retext"))
        (any_option CanCome retext_at (place_said rest)
        (λ place. text_can place.name place.path (unwrap_or place.last []) (nat_lt longest_node (length (unescape (unwrap_or place.last [])))) refl) tt)
        (either_way CanCome (bytes_eq word (codes "get"))
        (any_option CanCome (ends_there Get) (place_said rest) (λ place. either_way CanCome (is_none place.last) tt tt) tt)
        (either_way CanCome (bytes_eq word (codes "layout")) (either_way CanCome (is_document_name rest) tt tt)
        (either_way CanCome (bytes_eq word (codes "rule")) (rule_can (rule_of rest) (rule_of-labels rest))
        (either_way CanCome (bytes_eq word (codes "begin")) tt
        tt)))))))))

-- the name of a `load` line is one of a document
loaded_name-valid : (head name : List ℕ) → loaded_name head ≡ Some name → IsTrue (is_document_name name)
loaded_name-valid head name = by_length (nat_lt longest_line (length head))
  where
    by_test : (rest : List ℕ) (b : Bool) → is_document_name rest ≡ b → (if b then Some rest else None) ≡ Some name → IsTrue (is_document_name name)
    by_test rest true is same = let e : rest ≡ name = cc in subst (λ (n : List ℕ). IsTrue (is_document_name n)) e is
    by_test rest false is same = cc same

    by_rest : (o : Option (List ℕ)) → option_map_or as_document_name o None ≡ Some name → IsTrue (is_document_name name)
    by_rest None is = cc is
    by_rest (Some rest) is = by_test rest (is_document_name rest) refl is

    by_length : (b : Bool) → (if b then None else option_map_or as_document_name (behind_space head) None) ≡ Some name → IsTrue (is_document_name name)
    by_length true is = cc is
    by_length false is = by_rest (behind_space head) is

load_can : (head : List ℕ) (body : List (List ℕ)) (command : Command) → IsLoadCommand head body command → CanCome command
load_can head body (Load name (load.Read tree)) loads = (loaded_name-valid head name loads.0, loads.1.0)
load_can head body (Load name (load.Wrong error)) loads = (loaded_name-valid head name loads.0, tt)
load_can head body Bad loads = tt
load_can head body (Discard name) loads = tt
load_can head body (Rename old new) loads = absurd loads
load_can head body Names loads = tt
load_can head body (Export name) loads = tt
load_can head body (Insert name path said) loads = absurd loads
load_can head body (Delete name path) loads = tt
load_can head body (Retext name path said) loads = absurd loads
load_can head body (Get name path) loads = tt
load_can head body (Layout name) loads = tt
load_can head body (SetRule rule) loads = absurd loads
load_can head body Rules loads = tt
load_can head body Checkpoint loads = tt
load_can head body (Begin bare) loads = tt
load_can head body Commit loads = tt

whole_can : (own : List (List ℕ)) (command : Command) → IsWholeCommand own command → CanCome command
whole_can [] command whole = absurd whole
whole_can (head ∷ ls) command whole = by_head (begins_load head) whole
  where
    by_head : (b : Bool) →
        MatchBool b ((body : List (List ℕ)) × (ls ≡ body ++ codes "." ∷ []) × (has_dot body ≡ false) × IsLoadCommand head body command) ((ls ≡ []) × (command ≡ command_of head)) → CanCome command
    by_head true (body, is, dotless, loads) = load_can head body command loads
    by_head false (none, is) = subst CanCome (sym is) (command_can head)

-- what the commands of a script hold could be read
pub gives_can : (ls : List (List ℕ)) (commands : List Command) (rest : List (List ℕ)) → SplitsInto ls commands rest → All CanCome commands
gives_can ls [] rest gives = All-nil CanCome
gives_can ls (command ∷ commands) rest (own, others, is, whole, more) = All-cons CanCome command commands (whole_can own command whole) (gives_can others commands rest more)

pub commands_can : (bytes : List ℕ) (commands : List Command) → AreCommands bytes commands → All CanCome commands
commands_can bytes commands (whole, rest, gives, unended, is) =
    subst (λ cs. All CanCome cs) (sym is) (All-append CanCome whole (cut_off rest) (gives_can _ whole rest gives) (cut_can rest))
  where
    cut_can : (rest : List (List ℕ)) → All CanCome (cut_off rest)
    cut_can [] = All-nil CanCome
    cut_can (head ∷ body) = All-cons CanCome Bad [] tt (All-nil CanCome)

-- the last of them
pub last_can : (commands : List Command) (command : Command) → All CanCome (commands ++ command ∷ []) → CanCome command
last_can [] command all = All-head CanCome command [] all
last_can (c ∷ commands) command all = last_can commands command (All-tail CanCome c (commands ++ command ∷ []) all)

-- the commands that a script has given
pub all_can : (script : Script) (taken : List ℕ) (commands : List Command) → HasGiven script taken commands → All CanCome commands
all_can script taken commands given =
    ⊎_elim
    (λ (finished : script.finished ≡ true).
    commands_can taken commands (MatchBool-at_true (AreCommands taken commands) (HasLooked script taken commands) finished given.given))
    (λ (unfinished : script.finished ≡ false).
    let (seen, parts, parsed) = looked script taken commands unfinished given in gives_can _ commands parsed.rest parsed.gives)
    (cases_Bool script.finished)

-- one of them
pub given_can : (script : Script) (taken : List ℕ) (commands : List Command) (command : Command) → HasGiven script taken (commands ++ command ∷ []) → CanCome command
given_can script taken commands command given = last_can commands command (all_can script taken (commands ++ command ∷ []) given)
