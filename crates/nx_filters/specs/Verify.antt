-- What `verify` makes of its input: the lines of a document, a dot, and the lines of a plan.
use Rattle.std.specs.Prelude.{◌≡◌, ℕ, ◌<◌, ◌^◌, true, List, [], ◌∷◌, ◌++◌, length, None, Some, Result, Ok, Err, codes, decimal}
use Rattle.nx_tree.specs.Forest.{OrderedTree}
use Rattle.nx_pyx.specs.Fault.{fault_of}
use Rattle.nx_pyx.specs.Lines.{ended_lines}
use Rattle.nx_pyx.specs.Reading.{Reads}
use Rattle.nx_script.specs.Commands.{has_dot}
use Rattle.nx_script.specs.BeforeDot.{before_dot, after_dot, shown_before_dot}
use Rattle.nx_parts.specs.declared.plan.Plan.{Plan}
use Rattle.nx_bounds.specs.declared.error.BoundsError.{BoundsError}
use Rattle.nx_bounds.specs.declared.error.BoundsError.TheVariants.{BadPlanLine, Memory}
use Rattle.nx_bounds.specs.Refusal.{IsSoundPlan, IsCertified, IsNotCertified}
use Rattle.nx_bounds.specs.PlanText.{ReadsAs, IsNoPlan}
use Rattle.nx_filters.specs.declared.refusal.Refusal.{Refusal}
use Rattle.nx_filters.specs.declared.refusal.Refusal.TheVariants.{Pyx, TooHeavy, Bounds}
use Rattle.nx_filters.specs.Refusal.{line_of_fields}
use Rattle.nx_filters.specs.Outcome.{Meaning}

-- the line for a plan of so many intervals that is certified
abbrev pub certified_line : ℕ → List ℕ
certified_line intervals = line_of_fields (codes "certified" ∷ decimal intervals ∷ [])

-- The text is that of a plan which is certified for the tree.
pub record IsCertifiedText (k : ℕ) (tree : OrderedTree) (text : List ℕ) (intervals : ℕ) : Type 0 where
  pub plan : Plan
  pub says : ReadsAs text plan
  pub certified : IsCertified k tree plan
  pub count : intervals ≡ length plan.parts

-- why the text isn't that of a plan which is certified for the tree
abbrev pub IsRefusedText : ℕ → OrderedTree → List ℕ → BoundsError → Type 0
IsRefusedText k tree text (BadPlanLine line) = IsNoPlan text (BadPlanLine line)
IsRefusedText k tree text Memory = ⊥
IsRefusedText k tree text error = (plan : Plan) × ReadsAs text plan × IsNotCertified k tree plan error

-- The input's plan is certified for its document.
pub record IsCertifiedInput (k : ℕ) (input : List ℕ) (intervals : ℕ) : Type 0 where
  pub tree : OrderedTree
  pub reads : Reads (before_dot input) tree
  pub certified : IsCertifiedText k tree (after_dot input) intervals

-- The input's plan is sound for its document.
pub record IsSoundInput (k : ℕ) (input : List ℕ) : Type 0 where
  pub tree : OrderedTree
  pub reads : Reads (before_dot input) tree
  pub plan : Plan
  pub says : ReadsAs (after_dot input) plan
  pub sound : IsSoundPlan k tree plan

-- why the input is refused: by its document first, then by its plan
abbrev pub IsRefusedInput : ℕ → List ℕ → Refusal → Type 0
IsRefusedInput k input (Pyx error) = fault_of (before_dot input) ≡ Some error
IsRefusedInput k input (TooHeavy path slots) = ⊥
IsRefusedInput k input (Bounds error) = (tree : OrderedTree) × Reads (before_dot input) tree × IsRefusedText k tree (after_dot input) error

-- what is said of the text as that of a plan for the tree
abbrev pub JudgesText : ℕ → OrderedTree → List ℕ → Result ℕ BoundsError → Type 0
JudgesText k tree text (Ok intervals) = IsCertifiedText k tree text intervals
JudgesText k tree text (Err Memory) = Unit {0}
JudgesText k tree text (Err error) = IsRefusedText k tree text error

-- no list of the plan is longer than a certificate's may be
pub record AreFew (plan : Plan) : Type 0 where
  pub parts : length plan.parts < 2 ^ 32
  pub weights : length plan.weights < 2 ^ 32
  pub bounds : length plan.bounds < 2 ^ 32

-- the bytes so far show no fault of the document, and where its dot has come, it has none; or they show this one
abbrev pub ShowsClaim : List ℕ → Result (List ℕ) Refusal → Type 0
ShowsClaim taken (Ok shown) = (shown ≡ []) × (shown_before_dot taken ≡ None) × (has_dot (ended_lines taken) ≡ true → fault_of (before_dot taken) ≡ None)
ShowsClaim taken (Err (Pyx error)) = (more : List ℕ) → fault_of (before_dot (taken ++ more)) ≡ Some error
ShowsClaim taken (Err (TooHeavy path slots)) = ⊥
ShowsClaim taken (Err (Bounds error)) = ⊥

-- the plan's number of intervals, where it is certified for the document
abbrev pub verify : ℕ → Meaning
verify k = record { Answer = ℕ; text_of = certified_line; says = IsCertifiedInput k; refuses = IsRefusedInput k; shows = ShowsClaim }
