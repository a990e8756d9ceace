-- The requests of a script, and what has been given of them.
use Rattle.std.specs.Prelude.{◌≡◌, ◌⊎◌, ◌≤◌, ◌<◌, ℕ, ◌+◌, ◌*◌, Bool, true, false, if◌then◌else◌, List, [], ◌∷◌, ◌++◌, length, Option, None, Some, IsSome, MatchOption, All}
use Rattle.std.specs.List.{list_any}
use Rattle.std.specs.Option.{is_some}
use Rattle.nx_host.specs.Host.{Takes, IsAtEnd}
use Rattle.nx_host.specs.Input.{HasTaken, most_input}
use Rattle.nx_script.specs.declared.command.Command.{Command}
use Rattle.nx_script.specs.declared.command.Command.TheVariants.{Begin, Commit, Bad}
use Rattle.nx_script.specs.declared.request.Request.{Request}
use Rattle.nx_script.specs.declared.request.Request.TheVariants.{Single, Transaction}
use Rattle.nx_script.specs.declared.requests.Begun.{Begun}
use Rattle.nx_script.specs.declared.requests.Requests.{Requests}
use Rattle.nx_script.specs.declared.error.ScriptError.{ScriptError}
use Rattle.nx_script.specs.declared.error.ScriptError.TheVariants.{Read, TooMuch, Memory}
use Rattle.nx_script.specs.Commands.{AreCommands, AreWhole, CanCome}
use Rattle.nx_script.specs.Script.{HasGiven, work_left}

-- the command begins a transaction, and whether nothing stands behind its word
abbrev pub beginning : Command → Option Bool
beginning (Begin bare) = Some bare
beginning _ = None

-- the command ends a transaction
abbrev pub is_commit : Command → Bool
is_commit Commit = true
is_commit _ = false

abbrev pub has_commit : List Command → Bool
has_commit commands = list_any is_commit commands

-- the request of these commands in a transaction: where words stand behind its `begin` it is none
abbrev pub closed : Bool → List Command → Request
closed true body = Transaction body
closed false body = Single Bad

-- These commands are one whole request: a transaction up to its first `commit`, or a command of its own.
abbrev pub IsWholeRequest : List Command → Request → Type 0
IsWholeRequest [] request = ⊥
IsWholeRequest (command ∷ commands) request =
    MatchOption (beginning command) ((commands ≡ []) × (request ≡ Single command))
    (λ bare. (body : List Command) × (commands ≡ body ++ Commit ∷ []) × (has_commit body ≡ false) × (request ≡ closed bare body))

-- the first of these commands are these whole requests, and these commands are left
abbrev pub SplitsIntoRequests : List Command → List Request → List Command → Type 0
SplitsIntoRequests commands [] rest = commands ≡ rest
SplitsIntoRequests commands (request ∷ requests) rest =
    (own : List Command) × (others : List Command) × (commands ≡ own ++ others) × IsWholeRequest own request × SplitsIntoRequests others requests rest

-- no command, or a transaction that no `commit` has ended
abbrev pub IsUncommitted : List Command → Type 0
IsUncommitted [] = Unit {0}
IsUncommitted (command ∷ commands) = IsSome (beginning command) × (has_commit commands ≡ false)

-- what is left at the end of the input is no command, and its commands are none
abbrev pub cut_off_request : List Command → List Request
cut_off_request [] = []
cut_off_request (command ∷ commands) = Single Bad ∷ []

-- the requests of which the bytes hold every line up to its LF
abbrev pub AreWholeRequests : List ℕ → List Request → Type 0
AreWholeRequests bytes requests =
    (commands : List Command) × (rest : List Command) × AreWhole bytes commands × SplitsIntoRequests commands requests rest × IsUncommitted rest

-- the requests of a whole script
abbrev pub AreRequests : List ℕ → List Request → Type 0
AreRequests bytes requests =
    (commands : List Command) × (whole : List Request) × (rest : List Command)
    × AreCommands bytes commands × SplitsIntoRequests commands whole rest × IsUncommitted rest × (requests ≡ whole ++ cut_off_request rest)

-- a request that a script can give: what its commands hold could be read
abbrev pub CanComeRequest : Request → Type 0
CanComeRequest (Single command) = CanCome command
CanComeRequest (Transaction commands) = All CanCome commands

-- what is left of the commands behind the whole requests, and how it is kept
abbrev pub HoldsBegun : Option Begun → List Command → Type 0
HoldsBegun None rest = rest ≡ []
HoldsBegun (Some begun) rest = (rest ≡ Begin begun.bare ∷ begun.commands) × (has_commit begun.commands ≡ false)

-- the requests, with one more where there is one
abbrev pub with_request : List Request → Option Request → List Request
with_request given None = given
with_request given (Some request) = given ++ request ∷ []

-- These commands came, these requests are all that are whole in them, and what is left is kept.
pub record HasGrouped (begun : Option Begun) (commands : List Command) (given : List Request) : Type 0 where
  pub rest : List Command
  pub gives : SplitsIntoRequests commands given rest
  pub keeps : HoldsBegun begun rest

-- The input has ended, and all its requests were given.
pub record HasGivenAll (requests : Requests) (taken : List ℕ) (given : List Request) : Type 0 where
  pub finished : (requests.script).finished ≡ true
  pub none : requests.begun ≡ None
  pub all : AreRequests taken given

-- These bytes were taken, and these requests given of them.
pub record HasGivenRequests (requests : Requests) (taken : List ℕ) (given : List Request) : Type 0 where
  pub commands : List Command
  pub script : HasGiven requests.script taken commands
  pub grouped : HasGrouped requests.begun commands given ⊎ HasGivenAll requests taken given

-- The same, of an input that the host told at first and tells now.
pub record HasGivenRequestsIn (requests : Requests) (taken : List ℕ) (told : List Request) (first now : Option (List ℕ)) : Type 0 where
  pub given : HasGivenRequests requests taken told
  pub takes : Takes taken first now
  pub end : (requests.script).ended ≡ true → IsAtEnd now × (length taken < most_input)

-- how much there is to do before more input is asked for
abbrev pub requests_left : Requests → ℕ
requests_left requests = 2 * work_left requests.script + (if is_some requests.begun then 1 else 0)

-- These bytes were taken to the input's end, and these are their requests.
pub record EndsInRequests (taken : List ℕ) (given : List Request) (first now : Option (List ℕ)) : Type 0 where
  pub takes : Takes taken first now
  pub end : IsAtEnd now
  pub few : length taken < most_input
  pub requests_are : AreRequests taken given

-- These bytes were taken, and these are the requests that are whole in them.
pub record StopsInRequests (taken : List ℕ) (given : List Request) (first now : Option (List ℕ)) : Type 0 where
  pub takes : Takes taken first now
  pub whole : AreWholeRequests taken given

-- what has come where these bytes had been taken and these requests given: one request more, or the end
abbrev pub GivesNextRequest : Option Request → Requests → List ℕ → List Request → Option (List ℕ) → Option (List ℕ) → Type 0
GivesNextRequest (Some request) requests taken given first now = (more : List ℕ) × HasGivenRequestsIn requests (taken ++ more) (given ++ request ∷ []) first now
GivesNextRequest None requests taken given first now =
    (more : List ℕ) × HasGivenRequestsIn requests (taken ++ more) given first now × EndsInRequests (taken ++ more) given first now

-- how the requests stop, and what was given then
abbrev pub StopsRequests : ScriptError → Requests → List ℕ → List Request → Option (List ℕ) → Option (List ℕ) → Type 0
StopsRequests Read requests taken given first now =
    (more : List ℕ) × HasGivenRequestsIn requests (taken ++ more) given first now × (length (taken ++ more) < most_input) × StopsInRequests (taken ++ more) given first now
StopsRequests TooMuch requests taken given first now =
    (more : List ℕ) × HasGivenRequestsIn requests (taken ++ more) given first now × (length (taken ++ more) ≡ most_input) × StopsInRequests (taken ++ more) given first now
StopsRequests Memory requests taken given first now =
    (more : List ℕ) × HasTaken (requests.script).input (taken ++ more) first now × (length (taken ++ more) ≤ most_input)
