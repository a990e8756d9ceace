-- What a script has given of its input.
use Rattle.std.specs.Prelude.{◌≡◌, ℕ, ◌+◌, ◌<◌, ◌≤◌, if◌then◌else◌, true, List, [], ◌∷◌, ◌++◌, length, drop, Option, None, Some}
use Rattle.std.specs.Bool.{MatchBool}
use Rattle.nx_host.specs.declared.input.InputError.{InputError}
use Rattle.nx_host.specs.declared.input.InputError.TheVariants as input
use Rattle.nx_host.specs.Host.{Takes, IsAtEnd}
use Rattle.nx_host.specs.Input.{HasTaken, block_of, most_input}
use Rattle.nx_script.specs.declared.command.Command.{Command}
use Rattle.nx_script.specs.declared.script.Script.{Script}
use Rattle.nx_script.specs.declared.error.ScriptError.{ScriptError}
use Rattle.nx_script.specs.declared.error.ScriptError.TheVariants.{Read, TooMuch, Memory}
use Rattle.nx_script.specs.Commands.{AreCommands, AreWhole}
use Rattle.nx_script.specs.Parser.{HasParsed}

-- why a script gives no further command, where its input gives no further bytes
abbrev pub error_of : InputError → ScriptError
error_of input.Read = Read
error_of input.TooMuch = TooMuch

-- the bytes that were taken and not looked at yet
abbrev pub unread : Script → List ℕ
unread script = drop script.start (block_of script.input)

-- every byte that was taken was looked at
abbrev pub IsDrained : Script → Type 0
IsDrained script = unread script ≡ []

-- how much there is to do before more input is asked for: the bytes to look at, and the end
abbrev pub work_left : Script → ℕ
work_left script = length (unread script) + (if script.finished then 0 else 1)

-- The script has taken these bytes and given these commands of them.
pub record HasGiven (script : Script) (taken : List ℕ) (commands : List Command) : Type 0 where
  pub counted : script.input.taken ≡ length taken
  pub ended : script.finished ≡ true → script.ended ≡ true
  pub drained : script.finished ≡ true → IsDrained script
  pub given : MatchBool script.finished
      (AreCommands taken commands)
      ((seen : List ℕ) × (taken ≡ seen ++ unread script) × HasParsed script.parser seen commands)

-- The same, of an input that the host told at first and tells now.
pub record HasGivenIn (script : Script) (taken : List ℕ) (commands : List Command) (first now : Option (List ℕ)) : Type 0 where
  pub given : HasGiven script taken commands
  pub takes : Takes taken first now
  pub end : script.ended ≡ true → IsAtEnd now × (length taken < most_input)

-- These bytes were taken to the input's end, and these are their commands.
pub record EndsIn (taken : List ℕ) (commands : List Command) (first now : Option (List ℕ)) : Type 0 where
  pub takes : Takes taken first now
  pub end : IsAtEnd now
  pub few : length taken < most_input
  pub commands_are : AreCommands taken commands

-- These bytes were taken, and these are the commands that are whole in them.
pub record StopsIn (taken : List ℕ) (commands : List Command) (first now : Option (List ℕ)) : Type 0 where
  pub takes : Takes taken first now
  pub whole : AreWhole taken commands

-- what has come of a script that had taken these bytes and given these commands: one command more, or its end
abbrev pub GivesNext : Option Command → Script → List ℕ → List Command → Option (List ℕ) → Option (List ℕ) → Type 0
GivesNext (Some command) script taken commands first now = (more : List ℕ) × HasGivenIn script (taken ++ more) (commands ++ command ∷ []) first now
GivesNext None script taken commands first now = (more : List ℕ) × HasGivenIn script (taken ++ more) commands first now × EndsIn (taken ++ more) commands first now

-- how such a script stops, and what it has given then
abbrev pub Stops : ScriptError → Script → List ℕ → List Command → Option (List ℕ) → Option (List ℕ) → Type 0
Stops Read script taken commands first now =
    (more : List ℕ) × HasGivenIn script (taken ++ more) commands first now × (length (taken ++ more) < most_input) × StopsIn (taken ++ more) commands first now
Stops TooMuch script taken commands first now =
    (more : List ℕ) × HasGivenIn script (taken ++ more) commands first now × (length (taken ++ more) ≡ most_input) × StopsIn (taken ++ more) commands first now
Stops Memory script taken commands first now = (more : List ℕ) × HasTaken script.input (taken ++ more) first now × (length (taken ++ more) ≤ most_input)
