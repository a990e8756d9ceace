-- The one list of commands, and of requests, that bytes are.
use Rattle.std.specs.Prelude.{◌≡◌, ℕ, List}
use Rattle.nx_script.specs.declared.command.Command.{Command}
use Rattle.nx_script.specs.declared.request.Request.{Request}
use Rattle.nx_script.specs.Commands.{AreCommands}
use Rattle.nx_script.specs.Requests.{AreRequests}

-- the bytes are these commands, and no others
pub record HasOneList (bytes : List ℕ) : Type 0 where
  pub commands : List Command
  pub are : AreCommands bytes commands
  pub only : (others : List Command) → AreCommands bytes others → others ≡ commands

-- the bytes are these requests, and no others
pub record HasOneRequestList (bytes : List ℕ) : Type 0 where
  pub requests : List Request
  pub are : AreRequests bytes requests
  pub only : (others : List Request) → AreRequests bytes others → others ≡ requests
