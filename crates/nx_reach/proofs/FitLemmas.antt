-- Which steps are open at the root.
use Rattle.std.proofs.Common.{◌≡◌, ◌≤◌, List, [], ◌∷◌, length, refl, arith}
use Rattle.nx_reach.specs.declared.step.Step.{Step}
use Rattle.nx_reach.specs.declared.step.Step.TheVariants.{Child, Below}
use Rattle.nx_reach.specs.Fit.{open_bits}

-- no step behind the first
pub none_open : (step : Step) (before steps : List Step) → open_bits (step ∷ before) steps [] ≡ 0
none_open step before [] = refl
none_open step before (Child name ∷ steps) = omega (arith, none_open (Child name) (step ∷ before) steps)
none_open step before (Below name ∷ steps) = omega (arith, none_open (Below name) (step ∷ before) steps)

pub first_open : (steps : List Step) → 1 ≤ length steps → 1 ≡ open_bits [] steps []
first_open [] some = absurd (omega arith)
first_open (Child name ∷ steps) some = omega (arith, none_open (Child name) [] steps)
first_open (Below name ∷ steps) some = omega (arith, none_open (Below name) [] steps)
