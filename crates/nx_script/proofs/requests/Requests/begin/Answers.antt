use Rattle.std.proofs.Common.{List, [], ◌∷◌, ◌++◌, Option, None, Some, refl, sym, subst}
use Rattle.nx_script.specs.declared.command.Command.{Command}
use Rattle.nx_script.specs.declared.request.Request.{Request}
use Rattle.nx_script.specs.declared.request.Request.TheVariants.{Single}
use Rattle.nx_script.specs.declared.requests.Begun.{Begun}
use Rattle.nx_script.specs.Requests.{HasGrouped}
use Rattle.nx_script.proofs.RequestLemmas.{groups_begin, groups_single, not_begin}
use Rattle.nx_script.proofs.requests.Requests.begin.Goals as goal

pub returns-in-Begin-clause-grouped : goal.returns-in-Begin-clause-grouped
returns-in-Begin-clause-grouped c = λ commands given grouped.
    let begun : Begun = record { bare = c.in-Begin.bare; commands = c.new-commands.result } in
    subst (λ (k : Command). HasGrouped (Some begun) (commands ++ k ∷ []) given) (sym c.in-Begin.is) (groups_begin begun c.new-commands.ensures commands given grouped)

pub returns-in_default : goal.returns-in_default
returns-in_default c = record {
  grouped = subst (λ (o : Option Begun). (commands : List Command) (given : List Request) → HasGrouped None commands given →
      HasGrouped o (commands ++ c.args.command ∷ []) (given ++ Single c.args.command ∷ []))
      (sym c.requires) (groups_single c.args.command (not_begin c.args.command c.in_default.not-Begin));
  script = refl;
}
