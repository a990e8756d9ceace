-- What comes of bytes: one document that they stand for, or one fault, and when a line is too long whatever follows.
use Rattle.std.specs.Prelude.{◌≡◌, ℕ, true, false, List, ◌++◌, Some, None}
use Rattle.std.specs.Option.{option_map_or}
use Rattle.nx_tree.specs.Forest.{OrderedTree}
use Rattle.nx_pyx.specs.declared.error.PyxError.{PyxError}
use Rattle.nx_pyx.specs.Event.{event_of}
use Rattle.nx_pyx.specs.Fault.{fault_of, is_long}
use Rattle.nx_pyx.specs.Lines.{has_lf, without_cr}
use Rattle.nx_pyx.specs.Reading.{Reads}

-- the bytes stand for this document and for no other, and have no fault
pub record HasOneReading (stream : List ℕ) : Type 0 where
  pub tree : OrderedTree
  pub reads : Reads stream tree
  pub only : (other : OrderedTree) → Reads stream other → other ≡ tree
  pub faultless : fault_of stream ≡ None

-- the bytes have this fault, and stand for no document
pub record HasOneFault (stream : List ℕ) : Type 0 where
  pub error : PyxError
  pub faulty : fault_of stream ≡ Some error
  pub unread : (tree : OrderedTree) → ¬ Reads stream tree

-- whatever bytes without an LF come behind these, the line that they make is too long
abbrev pub StaysTooLong : List ℕ → Type 0
StaysTooLong bytes = (more : List ℕ) → has_lf more ≡ false → option_map_or is_long (event_of (without_cr (bytes ++ more))) false ≡ true
