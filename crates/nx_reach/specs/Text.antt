-- Steps as text.
use Rattle.std.specs.Prelude.{◌≡◌, ℕ, ◌≤◌, Bool, true, false, IsTrue, if◌then◌else◌, List, [], ◌∷◌, ◌++◌, length}
use Rattle.nx_matrix.specs.RuleLabels.{is_child_label}
use Rattle.nx_reach.specs.declared.step.Step.{Step}
use Rattle.nx_reach.specs.declared.step.Step.TheVariants.{Child, Below}
use Rattle.nx_reach.specs.Reach.{label_of}

-- as many steps as are asked for at most
abbrev pub most_steps : ℕ
most_steps = 64

-- one slash and the label, or two
abbrev pub name_step_text : Step → List ℕ
name_step_text (Child name) = 47 ∷ name
name_step_text (Below name) = 47 ∷ 47 ∷ name

abbrev pub name_steps_text : List Step → List ℕ
name_steps_text [] = []
name_steps_text (step ∷ steps) = name_step_text step ++ name_steps_text steps

-- each step asks for a label that a child may have: #text, a name, or a name behind @ or ?, of 1,024 bytes at most
abbrev pub AreLabelled : List Step → Type 0
AreLabelled [] = Unit {0}
AreLabelled (step ∷ steps) = IsTrue (is_child_label (label_of step)) × AreLabelled steps

-- the text says these steps
pub record SaysSteps (text : List ℕ) (steps : List Step) : Type 0 where
  pub some : 1 ≤ length steps
  pub few : length steps ≤ most_steps
  pub labels : AreLabelled steps
  pub is : text ≡ name_steps_text steps

abbrev pub is_below : Step → Bool
is_below (Child name) = false
is_below (Below name) = true

abbrev pub step_of : Bool → List ℕ → Step
step_of below name = if below then Below name else Child name

abbrev pub HasNoSlash : List ℕ → Type 0
HasNoSlash [] = Unit {0}
HasNoSlash (b ∷ bytes) = (b ≡ 47 → ⊥) × HasNoSlash bytes

abbrev pub EndsOrSlash : List ℕ → Type 0
EndsOrSlash [] = Unit {0}
EndsOrSlash (b ∷ bytes) = b ≡ 47

abbrev pub BeginsNoSlash : List ℕ → Type 0
BeginsNoSlash [] = Unit {0}
BeginsNoSlash (b ∷ bytes) = b ≡ 47 → ⊥

-- the bytes behind one slash or two
abbrev pub slashed : Bool → List ℕ → List ℕ
slashed below bytes = 47 ∷ ((if below then 47 ∷ [] else []) ++ bytes)

-- one slash or two, what stands before the next slash, and the rest
pub record SplitsStep (text : List ℕ) (below : Bool) (name more : List ℕ) : Type 0 where
  pub is : text ≡ slashed below (name ++ more)
  pub plain : HasNoSlash name
  pub ends : EndsOrSlash more
  pub single : below ≡ false → BeginsNoSlash (name ++ more)

-- These steps have been read of the text, and this is left. They are the first ones of any that the text says.
pub record HasReadSteps (text : List ℕ) (steps : List Step) (rest : List ℕ) : Type 0 where
  pub is : text ≡ name_steps_text steps ++ rest
  pub labels : AreLabelled steps
  pub few : length steps ≤ most_steps
  pub only : (other : List Step) → SaysSteps text other → (more : List Step) × (other ≡ steps ++ more) × (rest ≡ name_steps_text more) × AreLabelled more
