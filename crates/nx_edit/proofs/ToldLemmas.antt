-- What is said of a refusal by the words in which another call tells it.
use Rattle.std.proofs.Common.{◌≡◌, Option, None, Some, refl, subst}
use Rattle.std.specs.Prelude.{IsSome}
use Rattle.std.specs.Option.{IsSomeAnd}

pub told_so : {T : Type 0} (o : Option T) (P : T → Type 0) (told : T) → o ≡ Some told → IsSomeAnd o P → P told
told_so o P told is h = subst (λ x. IsSomeAnd x P) is h

pub tells : {T : Type 0} (o : Option T) (P : T → Type 0) → IsSomeAnd o P → IsSome o
tells None P h = absurd h
tells (Some told) P h = refl
