-- Lines in groups, each of which is one whole command.
use Rattle.std.proofs.Common.{◌≡◌, ℕ, true, false, List, [], ◌∷◌, ◌++◌, refl, ap, ◌∙◌, append_assoc}
use Rattle.std.specs.Prelude.{codes}
use Rattle.nx_script.specs.declared.command.Command.{Command}
use Rattle.nx_script.specs.Line.{command_of}
use Rattle.nx_script.specs.Commands.{begins_load, has_dot, IsLoadCommand, IsWholeCommand, SplitsInto}
use Rattle.nx_lists.proofs.CaseLemmas.{match_true, match_false}

-- more lines behind
pub gives_longer : (ls : List (List ℕ)) (commands : List Command) (rest more : List (List ℕ)) → SplitsInto ls commands rest → SplitsInto (ls ++ more) commands (rest ++ more)
gives_longer ls [] rest more is = ap (λ (l : List (List ℕ)). l ++ more) is
gives_longer ls (command ∷ commands) rest more (own, others, is, whole, gives) = (
  own,
  others ++ more,
  ap (λ (l : List (List ℕ)). l ++ more) is ∙ append_assoc own others more,
  whole,
  gives_longer others commands rest more gives,
)

-- one whole command more at the end
pub gives_then : (ls : List (List ℕ)) (commands : List Command) (own more : List (List ℕ)) (command : Command) → SplitsInto ls commands (own ++ more) → IsWholeCommand own command →
    SplitsInto ls (commands ++ command ∷ []) more
gives_then ls [] own more command is whole = (own, more, is, whole, refl)
gives_then ls (first ∷ commands) own more command (prefix, others, is, begun, gives) whole = (prefix, others, is, begun, gives_then others commands own more command gives whole)

-- a line alone
pub whole_line : (line : List ℕ) (command : Command) → begins_load line ≡ false → command ≡ command_of line → IsWholeCommand (line ∷ []) command
whole_line line command begins is =
    match_false ((body : List (List ℕ)) × ([] ≡ body ++ codes "." ∷ []) × (has_dot body ≡ false) × IsLoadCommand line body command) (([] ≡ []) × (command ≡ command_of line))
    (begins_load line) begins (refl, is)

-- a `load` and its document's lines
pub whole_load : (line : List ℕ) (body : List (List ℕ)) (command : Command) → begins_load line ≡ true → has_dot body ≡ false → IsLoadCommand line body command →
    IsWholeCommand (line ∷ (body ++ codes "." ∷ [])) command
whole_load line body command begins undotted loads =
    match_true ((said : List (List ℕ)) × (body ++ codes "." ∷ [] ≡ said ++ codes "." ∷ []) × (has_dot said ≡ false) × IsLoadCommand line said command)
    ((body ++ codes "." ∷ [] ≡ []) × (command ≡ command_of line)) (begins_load line) begins (body, refl, undotted, loads)
