-- What is known of a choice by a `Bool`, and of an option.
use Rattle.std.proofs.Common.{◌≡◌, Bool, true, false, Option, None, Some, cond, refl}
use Rattle.std.specs.Bool.{MatchBool}
use Rattle.std.specs.Option.{is_some}

-- a bool that is known picks one of two facts
pub match_true : (P Q : Type 0) (b : Bool) → b ≡ true → P → MatchBool b P Q
match_true P Q true e p = p
match_true P Q false e p = absurd (cc)

pub match_false : (P Q : Type 0) (b : Bool) → b ≡ false → Q → MatchBool b P Q
match_false P Q true e q = absurd (cc)
match_false P Q false e q = q

pub some_value : {X : Type 0} (o : Option X) → is_some o ≡ true → (x : X) × (o ≡ Some x)
some_value None e = absurd (cc)
some_value (Some x) e = (x, refl)

-- neither a value nor another option
pub none_head : {X : Type 0} (b : Bool) (y : X) (o : Option X) → cond b (Some y) o ≡ None → (b ≡ false) × (o ≡ None)
none_head true y o e = absurd (cc)
none_head false y o e = (refl, e)
