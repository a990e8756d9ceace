-- That a command line was carried out, from what was said of its parts.
use Rattle.std.proofs.Common.{◌≡◌, ◌⊎◌, inr, ℕ, List, Result, Ok, Err, IfOk, subst}
use Rattle.nx_filters.specs.declared.status.Status.{Status}
use Rattle.nx_filters.specs.declared.status.Status.TheVariants.{NoMemory}
use Rattle.nx_program.specs.Command.{RanOver}

pub ran_over : {A E H : Type 0} (arguments : Result A E) (texts : A → List (List ℕ)) (words : List (List ℕ))
    (made : List (List ℕ) → H → Type 0) (ends : List (List ℕ) → H → Status → Type 0) (host : H) (status : Status)
    → IfOk arguments (λ given. words ≡ texts given) → made words host → ends words host status
    → IfOk arguments (λ given. (status ≡ NoMemory) ⊎ RanOver made ends (texts given) status)
ran_over (Ok given) texts words made ends host status same is ended =
    inr (subst (λ (w : List (List ℕ)). RanOver made ends w status) same (record { host = host; is_made = is; ended = ended }))
ran_over (Err e) texts words made ends host status same is ended = same

-- what follows of an answer that has both
pub both_ok : {A E : Type 0} (r : Result A E) (P Q S : A → Type 0) → IfOk r P → IfOk r Q → ((a : A) → P a → Q a → S a) → IfOk r S
both_ok (Ok a) P Q S p q both = both a p q
both_ok (Err e) P Q S p q both = tt
