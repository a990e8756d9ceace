-- What the state of a walk stands for.
use Rattle.std.specs.Prelude.{◌≡◌, ℕ, Bool, List, [], ◌∷◌, ◌++◌}
use Rattle.nx_reach.specs.declared.state.State.{State}
use Rattle.nx_reach.specs.Fit.{fits, open_bits, opens_above, turned}

-- the labels along the path of the node that the walk is in, the last one first
pub record IsStateAt (state : State) (labels : List (List ℕ)) : Type 0 where
  pub here : state.bits ≡ open_bits [] state.steps.now labels
  pub around : state.above ≡ opens_above state.steps.now labels

-- a node of this label begins
pub record OpensTo (old : State) (name : List ℕ) (new : State) (matches : Bool) : Type 0 where
  pub same : new.steps ≡ old.steps
  pub around : new.above ≡ old.above ++ old.bits ∷ []
  pub stands : (labels : List (List ℕ)) → IsStateAt old labels → IsStateAt new (name ∷ labels) × (matches ≡ fits (turned [] old.steps.now) (name ∷ labels))

-- the node ends that began last
pub record ClosesTo (old new : State) : Type 0 where
  pub same : new.steps ≡ old.steps
  pub around : old.above ≡ new.above ++ new.bits ∷ []
  pub stands : (name : List ℕ) (labels : List (List ℕ)) → IsStateAt old (name ∷ labels) → IsStateAt new labels
