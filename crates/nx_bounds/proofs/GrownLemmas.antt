-- Bytes stand behind those that there were.
use Rattle.std.proofs.Common.{◌≡◌, ℕ, List, [], ◌++◌, take, Result, Ok, Err, OnOk, OnErr, sym, ap, ◌∙◌, append_assoc, append-nil}
use Rattle.nx_bounds.specs.PlanWriter.{HasMoreBytes}

pub grown_none : (old new : List ℕ) → new ≡ old → HasMoreBytes old new
grown_none old new same = ([], same ∙ sym (append-nil old))

-- by a prefix of what was to be added
pub grown_prefix : (old new all : List ℕ) → (n : ℕ) × (new ≡ old ++ take n all) → HasMoreBytes old new
grown_prefix old new all h = (take h.0 all, h.1)

-- by all of it, or by nothing
pub grown_or_not : {T E : Type 0} (old new more : List ℕ) (result : Result T E) → OnOk result (new ≡ old ++ more) → OnErr result (new ≡ old) → HasMoreBytes old new
grown_or_not old new more (Ok value) ok err = (more, ok)
grown_or_not old new more (Err error) ok err = grown_none old new err

pub grown_then : (old mid new : List ℕ) → HasMoreBytes old mid → HasMoreBytes mid new → HasMoreBytes old new
grown_then old mid new first second = (first.0 ++ second.0, second.1 ∙ ap (λ (t : List ℕ). t ++ second.0) first.1 ∙ append_assoc old first.0 second.0)
