-- What a script has given of its input where it is asked for lines, whatever they say.
use Rattle.std.specs.Prelude.{◌≡◌, ℕ, ◌<◌, ◌≤◌, true, nat_lt, if◌then◌else◌, List, [], ◌∷◌, ◌++◌, length, take, map, Option, None, Some}
use Rattle.std.specs.Bool.{MatchBool}
use Rattle.nx_host.specs.Host.{Takes, IsAtEnd}
use Rattle.nx_host.specs.Input.{HasTaken, most_input}
use Rattle.nx_pyx.specs.Lines.{cut, ended_lines, lines}
use Rattle.nx_script.specs.declared.whole.Line.{Line}
use Rattle.nx_script.specs.declared.whole.Line.TheVariants.{Bytes, TooLong}
use Rattle.nx_script.specs.declared.parser.Parser.{Parser}
use Rattle.nx_script.specs.declared.script.Script.{Script}
use Rattle.nx_script.specs.declared.error.ScriptError.{ScriptError}
use Rattle.nx_script.specs.declared.error.ScriptError.TheVariants.{Read, TooMuch, Memory}
use Rattle.nx_script.specs.Line.{longest_line}
use Rattle.nx_script.specs.Parser.{most_held}
use Rattle.nx_script.specs.Script.{unread, IsDrained}

-- a line as it is given
abbrev pub as_line : List ℕ → Line
as_line line = if nat_lt longest_line (length line) then TooLong else Bytes line

-- these are all lines of the bytes
abbrev pub AreLines : List ℕ → List Line → Type 0
AreLines taken given = given ≡ map as_line (lines taken)

-- these are the lines of the bytes that an LF ended
abbrev pub AreEnded : List ℕ → List Line → Type 0
AreEnded taken given = given ≡ map as_line (ended_lines taken)

-- the lines, with one more where there is one
abbrev pub with_line : List Line → Option Line → List Line
with_line given None = given
with_line given (Some line) = given ++ line ∷ []

-- The parser has looked at these bytes, and these lines were given, all that an LF ended in them. It holds the first bytes of what stands behind.
pub record HasHeld (parser : Parser) (seen : List ℕ) (given : List Line) : Type 0 where
  pub gives : AreEnded seen given
  pub keeps : parser.held ≡ take most_held (cut seen).rest

-- The script has taken these bytes and given these lines of them.
pub record HasCut (script : Script) (taken : List ℕ) (told : List Line) : Type 0 where
  pub counted : script.input.taken ≡ length taken
  pub ended : script.finished ≡ true → script.ended ≡ true
  pub drained : script.finished ≡ true → IsDrained script
  pub given : MatchBool script.finished
      (AreLines taken told)
      ((seen : List ℕ) × (taken ≡ seen ++ unread script) × HasHeld script.parser seen told)

-- The same, of an input that the host told at first and tells now.
pub record HasCutIn (script : Script) (taken : List ℕ) (told : List Line) (first now : Option (List ℕ)) : Type 0 where
  pub given : HasCut script taken told
  pub takes : Takes taken first now
  pub end : script.ended ≡ true → IsAtEnd now × (length taken < most_input)

-- These bytes were taken to the input's end, and these are their lines.
pub record EndsCut (taken : List ℕ) (given : List Line) (first now : Option (List ℕ)) : Type 0 where
  pub takes : Takes taken first now
  pub end : IsAtEnd now
  pub few : length taken < most_input
  pub lines_are : AreLines taken given

-- These bytes were taken, and these are the lines that an LF ended in them.
pub record StopsCut (taken : List ℕ) (given : List Line) (first now : Option (List ℕ)) : Type 0 where
  pub takes : Takes taken first now
  pub whole : AreEnded taken given

-- what has come of a script that had taken these bytes and given these lines: one line more, or its end
abbrev pub CutsNext : Option Line → Script → List ℕ → List Line → Option (List ℕ) → Option (List ℕ) → Type 0
CutsNext (Some line) script taken given first now = (more : List ℕ) × HasCutIn script (taken ++ more) (given ++ line ∷ []) first now
CutsNext None script taken given first now = (more : List ℕ) × HasCutIn script (taken ++ more) given first now × EndsCut (taken ++ more) given first now

-- how such a script stops, and what it has given then
abbrev pub StopsCutting : ScriptError → Script → List ℕ → List Line → Option (List ℕ) → Option (List ℕ) → Type 0
StopsCutting Read script taken given first now =
    (more : List ℕ) × HasCutIn script (taken ++ more) given first now × (length (taken ++ more) < most_input) × StopsCut (taken ++ more) given first now
StopsCutting TooMuch script taken given first now =
    (more : List ℕ) × HasCutIn script (taken ++ more) given first now × (length (taken ++ more) ≡ most_input) × StopsCut (taken ++ more) given first now
StopsCutting Memory script taken given first now = (more : List ℕ) × HasTaken script.input (taken ++ more) first now × (length (taken ++ more) ≤ most_input)
