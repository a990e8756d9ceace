-- The commands of a script.
use Rattle.std.specs.Prelude.{◌≡◌, ◌≤◌, ℕ, Bool, true, false, nat_lt, if◌then◌else◌, List, [], ◌∷◌, ◌++◌, ◌||◌, map, length, take, Option, None, Some, IsTrue, codes}
use Rattle.std.specs.Bool.{MatchBool}
use Rattle.std.specs.List.{list_any}
use Rattle.std.specs.Option.{option_map_or}
use Rattle.std.specs.Str.{bytes_eq}
use Rattle.nx_tree.specs.Document.{IsDocument, IsNode, longest_node}
use Rattle.nx_pyx.specs.Lines.{lines, ended_lines}
use Rattle.nx_pyx.specs.Event.{event_of, events}
use Rattle.nx_pyx.specs.Fault.{first_fault, fault_at_end}
use Rattle.nx_script.specs.declared.command.LoadBody.{LoadBody}
use Rattle.nx_script.specs.declared.command.LoadBody.TheVariants.{Read, Wrong}
use Rattle.nx_script.specs.declared.command.LineBody.TheVariants as line
use Rattle.nx_script.specs.declared.command.TextBody.TheVariants as content
use Rattle.nx_script.specs.declared.command.Command.{Command}
use Rattle.nx_script.specs.declared.command.Command.TheVariants.{Load, Rename, Insert, Retext, SetRule, Bad}
use Rattle.nx_pyx.specs.Field.{behind_space}
use Rattle.nx_pyx.specs.DocumentName.{is_document_name}
use Rattle.nx_matrix.specs.RuleLabels.{HasLabels}
use Rattle.nx_script.specs.Line.{longest_line, command_of}

-- a line that begins a document, whatever else it says: `load`, and then its end or a space
abbrev pub begins_load : List ℕ → Bool
begins_load line = bytes_eq line (codes "load") || bytes_eq (take 5 line) (codes "load ")

-- the line that ends a document
abbrev pub is_dot : List ℕ → Bool
is_dot line = bytes_eq line (codes ".")

abbrev pub has_dot : List (List ℕ) → Bool
has_dot ls = list_any is_dot ls

abbrev pub as_document_name : List ℕ → Option (List ℕ)
as_document_name name = if is_document_name name then Some name else None

-- the name under which a `load` line has a document kept
abbrev pub loaded_name : List ℕ → Option (List ℕ)
loaded_name line = if nat_lt longest_line (length line) then None else option_map_or as_document_name (behind_space line) None

-- these lines say this document, or have this fault
abbrev pub SaysBody : List (List ℕ) → LoadBody → Type 0
SaysBody ls (Read tree) = IsDocument tree × (map event_of ls ≡ map (λ e. Some e) (events tree.below))
SaysBody ls (Wrong error) = option_map_or (λ e. Some e) (first_fault [] ls) (fault_at_end ls) ≡ Some error

-- a `load` line with these lines behind it is this command
abbrev pub IsLoadCommand : List ℕ → List (List ℕ) → Command → Type 0
IsLoadCommand line body (Load name said) = (loaded_name line ≡ Some name) × SaysBody body said
IsLoadCommand line body Bad = loaded_name line ≡ None
IsLoadCommand line body _ = ⊥

-- these lines are one whole command
abbrev pub IsWholeCommand : List (List ℕ) → Command → Type 0
IsWholeCommand [] command = ⊥
IsWholeCommand (line ∷ ls) command =
    MatchBool (begins_load line)
    ((body : List (List ℕ)) × (ls ≡ body ++ codes "." ∷ []) × (has_dot body ≡ false) × IsLoadCommand line body command)
    ((ls ≡ []) × (command ≡ command_of line))

-- the first of these lines are these whole commands, and these lines are left
abbrev pub SplitsInto : List (List ℕ) → List Command → List (List ℕ) → Type 0
SplitsInto ls [] rest = ls ≡ rest
SplitsInto ls (command ∷ commands) rest =
    (own : List (List ℕ)) × (others : List (List ℕ)) × (ls ≡ own ++ others) × IsWholeCommand own command × SplitsInto others commands rest

-- no line, or a `load` whose document isn't ended
abbrev pub IsUnended : List (List ℕ) → Type 0
IsUnended [] = Unit {0}
IsUnended (line ∷ body) = (begins_load line ≡ true) × (has_dot body ≡ false)

-- what is left at the end of the input is no command
abbrev pub cut_off : List (List ℕ) → List Command
cut_off [] = []
cut_off (line ∷ body) = Bad ∷ []

-- the commands of which the bytes hold every line up to its LF
abbrev pub AreWhole : List ℕ → List Command → Type 0
AreWhole bytes commands = (rest : List (List ℕ)) × SplitsInto (ended_lines bytes) commands rest × IsUnended rest

-- the commands of a whole script
abbrev pub AreCommands : List ℕ → List Command → Type 0
AreCommands bytes commands =
    (whole : List Command) × (rest : List (List ℕ)) × SplitsInto (lines bytes) whole rest × IsUnended rest × (commands ≡ whole ++ cut_off rest)

-- what the lines of a document say could be read
abbrev pub CanLoad : LoadBody → Type 0
CanLoad (Read tree) = IsDocument tree
CanLoad (Wrong error) = Unit {0}

-- a command that a script can give: what it holds could be read
abbrev pub CanCome : Command → Type 0
CanCome (Load name body) = IsTrue (is_document_name name) × CanLoad body
CanCome (Rename old new) = IsTrue (is_document_name new)
CanCome (Insert name path (line.Read node)) = IsNode node
CanCome (Retext name path (content.Read bytes)) = length bytes ≤ longest_node
CanCome (SetRule rule) = HasLabels rule
CanCome _ = Unit {0}
