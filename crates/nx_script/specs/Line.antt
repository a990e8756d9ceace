-- What a line of a script says that no other lines belong to.
use Rattle.std.specs.Prelude.{ℕ, true, false, ◌&&◌, nat_lt, if◌then◌else◌, List, [], Option, None, Some, length, take, codes}
use Rattle.std.specs.Option.{option_map, option_map_or, unwrap_or, is_none}
use Rattle.std.specs.Str.{bytes_eq}
use Rattle.nx_tree.specs.Document.{longest_node}
use Rattle.nx_pyx.specs.declared.error.PyxFault.TheVariants.{BadCode, LongLine}
use Rattle.nx_pyx.specs.Event.{event_of, unescape}
use Rattle.nx_pyx.specs.Fault.{fault_at}
use Rattle.nx_pyx.specs.Line.{node_of, event_fault}
use Rattle.nx_script.specs.declared.command.LineBody.{LineBody}
use Rattle.nx_script.specs.declared.command.LineBody.TheVariants as in_line
use Rattle.nx_script.specs.declared.command.TextBody.{TextBody}
use Rattle.nx_script.specs.declared.command.TextBody.TheVariants as in_text
use Rattle.nx_script.specs.declared.command.Command.{Command}
use Rattle.nx_script.specs.declared.command.Command.TheVariants.{Discard, Rename, Names, Export, Insert, Delete, Retext, Get, Layout, SetRule, Rules, Checkpoint, Begin, Commit, Bad}
use Rattle.nx_script.specs.declared.line.Place as code
use Rattle.nx_pyx.specs.Field.{field, behind_space, is_path, positions_of}
use Rattle.nx_pyx.specs.DocumentName.{is_document_name}
use Rattle.nx_script.specs.Rule.{rule_of}

-- the greatest number of bytes of a line that isn't part of a document
abbrev pub longest_line : ℕ
longest_line = 4194304

-- the node that a line of a document says, or its fault
abbrev pub line_body : List ℕ → LineBody
line_body line = option_map_or (λ e. option_map_or (λ fault. in_line.Wrong (fault_at 1 fault)) (event_fault e) (in_line.Read (node_of e))) (event_of line)
    (in_line.Wrong (fault_at 1 BadCode))

-- the content that the bytes stand for, where a node may have as many
abbrev pub text_body : List ℕ → TextBody
text_body bytes =
    if nat_lt longest_node (length (unescape bytes)) then in_text.Wrong (fault_at 1 LongLine) else in_text.Read (unescape bytes)

-- a place in a document: its name, a path, and what stands behind the path and a space, where there is one
pub record SaidPlace : Type 0 where
  pub name : List ℕ
  pub path : List ℕ
  pub last : Option (List ℕ)

-- the place that the fields behind a word say
abbrev pub place_said : List ℕ → Option SaidPlace
place_said bytes = option_map_or (λ more.
    if is_document_name (field bytes) && is_path (field more)
    then Some (record { name = field bytes; path = positions_of (field more); last = behind_space more })
    else None) (behind_space bytes) None

-- a place as the code has it
abbrev pub place_in : code.Place → SaidPlace
place_in place = record { name = place.name; path = place.path; last = option_map (λ bytes. bytes.now) place.last }

-- a command at a place behind which nothing stands
abbrev pub ends_there : (List ℕ → List ℕ → Command) → SaidPlace → Command
ends_there command place = if is_none place.last then command place.name place.path else Bad

abbrev pub insert_at : SaidPlace → Command
insert_at place = option_map_or (λ line. Insert place.name place.path (line_body line)) place.last Bad

abbrev pub retext_at : SaidPlace → Command
retext_at place = Retext place.name place.path (text_body (unwrap_or place.last []))

-- two fields that are names of documents, and nothing behind them
abbrev pub rename_by : List ℕ → Command
rename_by rest =
    option_map_or (λ new. if is_document_name (field rest) && is_document_name new then Rename (field rest) new else Bad) (behind_space rest) Bad

-- what a word and the bytes behind its space say
abbrev pub command_by : List ℕ → List ℕ → Command
command_by word rest =
    if bytes_eq word (codes "drop") then (if is_document_name rest then Discard rest else Bad)
    else if bytes_eq word (codes "rename") then rename_by rest
    else if bytes_eq word (codes "export") then (if is_document_name rest then Export rest else Bad)
    else if bytes_eq word (codes "insert") then option_map_or insert_at (place_said rest) Bad
    else if bytes_eq word (codes "delete") then option_map_or (ends_there Delete) (place_said rest) Bad
    else if bytes_eq word (codes "retext") then option_map_or retext_at (place_said rest) Bad
    else if bytes_eq word (codes "get") then option_map_or (ends_there Get) (place_said rest) Bad
    else if bytes_eq word (codes "layout") then (if is_document_name rest then Layout rest else Bad)
    else if bytes_eq word (codes "rule") then option_map_or SetRule (rule_of rest) Bad
    else if bytes_eq word (codes "begin") then Begin false
    else Bad

-- what a word alone says
abbrev pub lone_command : List ℕ → Command
lone_command word =
    if bytes_eq word (codes "names") then Names
    else if bytes_eq word (codes "rules") then Rules
    else if bytes_eq word (codes "checkpoint") then Checkpoint
    else if bytes_eq word (codes "begin") then Begin true
    else if bytes_eq word (codes "commit") then Commit
    else Bad

-- what a line that is too long says: it may begin a transaction, as it may a document, and is no command else
abbrev pub said_at_length : List ℕ → Command
said_at_length line = if bytes_eq (take 6 line) (codes "begin ") then Begin false else Bad

-- what a line says
abbrev pub command_of : List ℕ → Command
command_of line =
    if nat_lt longest_line (length line) then said_at_length line
    else option_map_or (command_by (field line)) (behind_space line) (lone_command (field line))
