-- What a parser has made of the bytes that it took.
use Rattle.std.specs.Prelude.{◌≡◌, ℕ, true, false, List, [], ◌∷◌, ◌++◌, take, Option, None, Some}
use Rattle.nx_pyx.specs.Lines.{cut, ended_lines}
use Rattle.nx_script.specs.declared.command.Command.{Command}
use Rattle.nx_script.specs.declared.parser.Load.{Load}
use Rattle.nx_script.specs.declared.parser.Parser.{Parser}
use Rattle.nx_script.specs.Line.{command_of}
use Rattle.nx_script.specs.Commands.{begins_load, loaded_name, SplitsInto}
use Rattle.nx_script.specs.Body.{AwaitsDot}

-- the greatest number of bytes of a line that a parser holds
abbrev pub most_held : ℕ
most_held = 4194306

-- the commands, with one more where there is one
abbrev pub with_command : List Command → Option Command → List Command
with_command commands None = commands
with_command commands (Some command) = commands ++ command ∷ []

-- The lines that are left are those of a document, which has come as far as these bytes.
pub record IsLoading (load : Load) (seen : List ℕ) (head : List ℕ) (ls : List (List ℕ)) : Type 0 where
  pub begins : begins_load head ≡ true
  pub named : load.name ≡ loaded_name head
  pub stream : List ℕ
  pub lines_are : ended_lines stream ≡ ls
  pub same_rest : (cut stream).rest ≡ (cut seen).rest
  pub within : AwaitsDot load.body stream

-- what is left of the bytes behind the whole commands, and how the parser keeps it
abbrev pub HoldsRest : Option Load → List ℕ → List ℕ → List (List ℕ) → Type 0
HoldsRest None held seen rest = (rest ≡ []) × (held ≡ take most_held (cut seen).rest)
HoldsRest (Some load) held seen [] = ⊥
HoldsRest (Some load) held seen (head ∷ ls) = (held ≡ []) × IsLoading load seen head ls

-- The parser has looked at these bytes and given these commands, all that are whole in them.
pub record HasParsed (parser : Parser) (seen : List ℕ) (commands : List Command) : Type 0 where
  pub rest : List (List ℕ)
  pub gives : SplitsInto (ended_lines seen) commands rest
  pub keeps : HoldsRest parser.load parser.held seen rest

-- what comes of a line outside a document: the command that it says, or a document that begins
abbrev pub AddsLine : List ℕ → Parser → Option Command → Type 0
AddsLine line parser (Some command) = (begins_load line ≡ false) × (command ≡ command_of line) × (parser.load ≡ None)
AddsLine line parser None = (begins_load line ≡ true) × (load : Load) × (parser.load ≡ Some load) × (load.name ≡ loaded_name line) × AwaitsDot load.body []

-- what is said of one line is said of the other
pub record MeansSame (a b : List ℕ) : Type 0 where
  pub begins : begins_load a ≡ begins_load b
  pub name : loaded_name a ≡ loaded_name b
  pub command : command_of a ≡ command_of b
