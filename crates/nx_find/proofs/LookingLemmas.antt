-- What a looker for steps is shown.
use Rattle.std.proofs.Common.{◌≡◌, ◌≤◌, ℕ, zero, suc, ◌-◌, Some, List, [], ◌∷◌, ◌++◌, length, refl, ap, arith}
use Rattle.std.specs.List.{slice_get}
use Rattle.nx_tree.specs.declared.node.Kind.{Kind}
use Rattle.nx_tree.specs.declared.node.Kind.TheVariants.{Doc, Element, Attribute, Text, Instruction}
use Rattle.nx_matrix.specs.Label.{label_by}
use Rattle.nx_reach.specs.declared.step.Step.{Step}
use Rattle.nx_reach.specs.Reach.{label_of}
use Rattle.nx_reach.specs.Seen.{Opened, Closed}
use Rattle.nx_names.specs.Look.{NodeBegins, NodeEnds, seen_of}
use Rattle.nx_find.specs.Over.{last_label}

-- Some steps have a last one.
pub record HasLast (steps : List Step) : Type 0 where
  pub before : List Step
  pub last : Step
  pub is : steps ≡ before ++ last ∷ []
  pub asks : last_label steps ≡ label_of last

pub has_last : (steps : List Step) → 1 ≤ length steps → HasLast steps
has_last [] some = absurd (omega arith)
has_last (step ∷ []) some = record { before = []; last = step; is = refl; asks = refl }
has_last (step ∷ next ∷ more) some =
    let rest = has_last (next ∷ more) (omega arith) in
    record { before = step ∷ rest.before; last = rest.last; is = ap (λ steps. step ∷ steps) rest.is; asks = rest.asks }

-- a finder begins below the root
pub begins_root : (kind : Kind) (name : List ℕ) → kind ≡ Doc → seen_of (NodeBegins kind name ∷ []) ≡ []
begins_root kind name is = ap (λ (k : Kind). seen_of (NodeBegins k name ∷ [])) is

pub begins_other : (kind : Kind) (name : List ℕ) → (kind ≡ Doc → ⊥) → seen_of (NodeBegins kind name ∷ []) ≡ Opened (label_by kind name) ∷ []
begins_other Doc name isnt = absurd (isnt refl)
begins_other Element name isnt = refl
begins_other Attribute name isnt = refl
begins_other Text name isnt = refl
begins_other Instruction name isnt = refl

pub ends_root : (kind : Kind) → kind ≡ Doc → seen_of (NodeEnds kind ∷ []) ≡ []
ends_root kind is = ap (λ (k : Kind). seen_of (NodeEnds k ∷ [])) is

pub ends_other : (kind : Kind) → (kind ≡ Doc → ⊥) → seen_of (NodeEnds kind ∷ []) ≡ Closed ∷ []
ends_other Doc isnt = absurd (isnt refl)
ends_other Element isnt = refl
ends_other Attribute isnt = refl
ends_other Text isnt = refl
ends_other Instruction isnt = refl

-- the last step is the one that is asked for
last_at : (steps : List Step) (k : ℕ) (step : Step) → suc k ≡ length steps → slice_get steps k ≡ Some step → last_label steps ≡ label_of step
last_at [] k step n e = absurd (cc)
last_at (x ∷ []) zero step n e = let same : x ≡ step = cc in ap label_of same
last_at (x ∷ []) (suc k) step n e = absurd (omega arith)
last_at (x ∷ y ∷ more) zero step n e = absurd (omega arith)
last_at (x ∷ y ∷ more) (suc k) step n e = last_at (y ∷ more) k step (omega arith) e

pub last_asks : (steps : List Step) (step : Step) → slice_get steps (length steps - 1) ≡ Some step → last_label steps ≡ label_of step
last_asks [] step e = absurd (cc)
last_asks (x ∷ steps) step e = last_at (x ∷ steps) (length (x ∷ steps) - 1) step (let some : 1 ≤ length (x ∷ steps) = omega arith in omega arith) e
