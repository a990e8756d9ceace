use Rattle.std.proofs.Common.{[], ◌∷◌, sym, subst}
use Rattle.std.proofs.lemmas.List.{reverse-append}
use Rattle.nx_reach.specs.declared.step.Step.TheVariants.{Child, Below}
use Rattle.nx_reach.specs.Reach.{MatchesBack}
use Rattle.nx_reach.proofs.laws.matches_by_last.Goals as goal

pub returns-clause-none : goal.returns-clause-none
returns-clause-none c = λ tree path. ((λ m. m), (λ m. m))

pub returns-clause-child : goal.returns-clause-child
returns-clause-child c = λ tree path before name.
    ((λ m. subst (MatchesBack tree path) (reverse-append before (Child name ∷ [])) m), (λ m. subst (MatchesBack tree path) (sym (reverse-append before (Child name ∷ []))) m))

pub returns-clause-below : goal.returns-clause-below
returns-clause-below c = λ tree path before name.
    ((λ m. subst (MatchesBack tree path) (reverse-append before (Below name ∷ [])) m), (λ m. subst (MatchesBack tree path) (sym (reverse-append before (Below name ∷ []))) m))
