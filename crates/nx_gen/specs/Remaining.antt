-- The commands that remain.
use Rattle.std.specs.Prelude.{if◌then◌else◌, ◌==◌, ℕ, List, [], ◌∷◌, ◌++◌}
use Rattle.nx_script.specs.declared.command.Command.{Command}
use Rattle.nx_script.specs.declared.command.Command.TheVariants.{Export, Delete}
use Rattle.nx_gen.specs.declared.generator.Stage.{Stage}
use Rattle.nx_gen.specs.declared.generator.Stage.TheVariants.{Begins, Draws, Deletes, Ends}
use Rattle.nx_gen.specs.Commands.{all_drawn, commands, gen_name, second_in}

-- those that remain at a stage, of the commands for a number, where the generator is in a state
abbrev pub remaining_at : Stage → ℕ → ℕ → List Command
remaining_at Begins n state = commands state n
remaining_at (Draws many) n state = all_drawn n many state ++ Export gen_name ∷ []
remaining_at (Deletes element many) n state = Delete gen_name (second_in element) ∷ all_drawn n many state ++ Export gen_name ∷ []
remaining_at Ends n state = []

-- the commands of a kind at an element behind the first of them
abbrev pub follow_up : ℕ → ℕ → List Command
follow_up element kind = if kind == 3 then Delete gen_name (second_in element) ∷ [] else []
