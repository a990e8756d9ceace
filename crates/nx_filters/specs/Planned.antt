-- What was read of the lines of a document, and of what stands behind their dot.
use Rattle.std.specs.Prelude.{◌≡◌, ℕ, List, [], ◌++◌, Some, Ok}
use Rattle.nx_tree.specs.Forest.{OrderedTree}
use Rattle.nx_pyx.specs.Fault.{fault_of}
use Rattle.nx_pyx.specs.Reading.{Reads}
use Rattle.nx_script.specs.declared.body.Body.{Body}
use Rattle.nx_script.specs.BeforeDot.{before_dot, after_dot}
use Rattle.nx_script.specs.Body.{AwaitsDot, IsEndedBy}
use Rattle.nx_filters.specs.declared.take_error.TakeError.{TakeError}
use Rattle.nx_filters.specs.declared.take_error.TakeError.TheVariants.{Refused, NoMemory}
use Rattle.nx_filters.specs.declared.refusal.Refusal.TheVariants.{Pyx}
use Rattle.nx_filters.specs.Verify.{ShowsClaim}

-- The lines before the dot of these bytes say this tree, and this text stands behind it.
pub record IsPlanned (tree : OrderedTree) (plan taken : List ℕ) : Type 0 where
  pub reads : Reads (before_dot taken) tree
  pub behind : plan ≡ after_dot taken

-- These bytes were read, and are lines of a document without a fault so far.
pub record HasLines (body : Body) (behind taken : List ℕ) : Type 0 where
  pub within : AwaitsDot body taken
  pub shows : ShowsClaim taken (Ok [])
  pub none : behind ≡ []

-- These bytes were read, and a dot is among them, behind which these stand.
pub record HasDot (body : Body) (behind taken : List ℕ) : Type 0 where
  pub prefix : List ℕ
  pub parts : taken ≡ prefix ++ behind
  pub ended : IsEndedBy body prefix

-- The bytes hold the dot: the lines before it say this tree, and this text stands behind it so far.
pub record HasDocumentBeforeDot (tree : OrderedTree) (plan taken : List ℕ) : Type 0 where
  pub before : (more : List ℕ) → Reads (before_dot (taken ++ more)) tree
  pub after : (more : List ℕ) → after_dot (taken ++ more) ≡ plan ++ more
  pub shows : ShowsClaim taken (Ok [])

-- why the lines before the dot of a whole input say no document
abbrev pub StopsWhole : TakeError → List ℕ → Type 0
StopsWhole (Refused (Pyx error)) taken = fault_of (before_dot taken) ≡ Some error
StopsWhole NoMemory taken = Unit {0}
StopsWhole _ taken = ⊥
