use Rattle.std.proofs.Common.{[], ◌∷◌, ◌++◌, Option, None, refl, sym, subst}
use Rattle.nx_script.specs.declared.command.Command.{Command}
use Rattle.nx_script.specs.declared.command.Command.TheVariants.{Commit}
use Rattle.nx_script.specs.declared.request.Request.{Request}
use Rattle.nx_script.specs.declared.requests.Begun.{Begun}
use Rattle.nx_script.specs.Requests.{HasGrouped}
use Rattle.nx_script.proofs.RequestLemmas.{groups_commit, groups_part, not_commit}
use Rattle.nx_script.proofs.requests.Requests.go_on.Goals as goal

pub returns-in-Commit-clause-grouped : goal.returns-in-Commit-clause-grouped
returns-in-Commit-clause-grouped c = λ commands given grouped.
    subst (λ (o : Option Begun). HasGrouped o (commands ++ c.args.command ∷ []) (given ++ c.closed.result ∷ [])) (sym c.requires)
    (subst (λ (k : Command). HasGrouped None (commands ++ k ∷ []) (given ++ c.closed.result ∷ [])) (sym c.in-Commit.is)
    (subst (λ (q : Request). HasGrouped None (commands ++ Commit ∷ []) (given ++ q ∷ [])) (sym c.closed.ensures) (groups_commit c.args.begun commands given grouped)))

pub returns-in_ok-push-in_default : goal.returns-in_ok-push-in_default
returns-in_ok-push-in_default c = record {
  grouped = groups_part c.args.begun (record c.args.begun { commands = c.push.new.self }) c.args.command (not_commit c.args.command c.in_default.not-Commit) refl
      c.in_ok-push-in_default.ensures.ok;
  script = refl;
}
