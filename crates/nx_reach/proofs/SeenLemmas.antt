-- What is shown one thing after another.
use Rattle.std.proofs.Common.{◌≡◌, List, [], ◌∷◌, ◌++◌, refl, sym, ap, ◌∙◌, subst}
use Rattle.nx_reach.specs.declared.step.Step.{Step}
use Rattle.nx_reach.specs.declared.finder.Finder.{Finder}
use Rattle.nx_reach.specs.Seen.{Seen, Progress, progress_after, progress_after_all, HasComeTo, Goes}

pub moved_append : (steps : List Step) (place : Progress) (xs ys : List Seen) → progress_after_all steps place (xs ++ ys) ≡ progress_after_all steps (progress_after_all steps place xs) ys
moved_append steps place [] ys = refl
moved_append steps place (x ∷ xs) ys = moved_append steps (progress_after steps place x) xs ys

-- nothing was shown, and what was shown first and then
pub goes_nothing : (finder : Finder) → Goes finder [] finder
goes_nothing finder = record { same = refl; moves = λ place is. is }

pub goes_on : (old mid new : Finder) (xs ys : List Seen) → Goes old xs mid → Goes mid ys new → Goes old (xs ++ ys) new
goes_on old mid new xs ys first second = record {
  same = second.same ∙ first.same;
  moves = λ place is. subst (HasComeTo new)
      (ap (λ (steps : List Step). progress_after_all steps (progress_after_all old.state.steps.now place xs) ys) first.same ∙ sym (moved_append old.state.steps.now place xs ys))
      (second.moves (progress_after_all old.state.steps.now place xs) (first.moves place is));
}
