use Rattle.std.proofs.Common.{◌≡◌, ℕ, List, [], ◌∷◌, ◌++◌, Option, Some, subst}
use Rattle.nx_script.specs.declared.command.Command.{Command}
use Rattle.nx_script.specs.declared.script.Script.{Script}
use Rattle.nx_script.specs.Commands.{CanCome}
use Rattle.nx_script.specs.Script.{GivesNext}
use Rattle.nx_script.proofs.CanComeLemmas.{given_can}
use Rattle.nx_store_tests.proofs.stores.command_of.Goals as goal

-- the first command that a script gives
first_can : (next : Option Command) (command : Command) (script : Script) (first now : Option (List ℕ)) → next ≡ Some command → GivesNext next script [] [] first now → CanCome command
first_can next command script first now is given =
    let (more, has) = subst (λ (o : Option Command). GivesNext o script [] [] first now) is given in
    given_can script more [] command has.given

pub returns-in-Some : goal.returns-in-Some
returns-in-Some c = first_can _ c.in-Some.command _ _ _ c.in-Some.is (c.in_ok-command.ensures.given _ [] [] (c.in_ok-script.ensures.ok _))
