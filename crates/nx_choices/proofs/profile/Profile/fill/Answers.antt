use Rattle.std.proofs.Common.{◌∷◌, ◌++◌, [], sym, ap, subst, ◌∙◌, arith}
use Rattle.nx_choices.specs.Profile.{IsProfile}
use Rattle.nx_choices.proofs.FitLemmas.{profile_filled, profile_empty}
use Rattle.nx_choices.proofs.profile.Profile.fill.Goals as goal

pub returns-in_ok-push : goal.returns-in_ok-push
returns-in_ok-push c = λ k room children all is fits small.
    let items = c.in_ok-push.ensures.items ∙ ap (λ xs. xs ++ c.args.total ∷ []) c.reset.ensures.lefts in
    subst (λ n. IsProfile k room children n c.push.new.self.items) (sym c.reset.ensures.base)
    (subst (λ xs. IsProfile k room children 0 xs) (sym items) (profile_filled k room children c.args.total all (omega arith) is fits small))

pub returns-else-total-gt0 : goal.returns-else-total-gt0
returns-else-total-gt0 c = λ k room children all is fits small.
    subst (λ n. IsProfile k room children n c.reset.new.self.lefts.items) (sym c.reset.ensures.base)
    (subst (λ xs. IsProfile k room children 0 xs) (sym c.reset.ensures.lefts) (profile_empty k room children c.args.total all (omega arith) is))
