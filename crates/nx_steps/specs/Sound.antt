-- What holds of each state of a store.
use Rattle.std.specs.Prelude.{◌≡◌, ℕ, List, Some, All, IsTrue}
use Rattle.std.specs.FinMap.{get}
use Rattle.nx_tree.specs.Document.{IsDocument}
use Rattle.nx_cuts.specs.Cut.{CutTree, AreParts, tree_of}
use Rattle.nx_matrix.specs.Rules.{AreRules}
use Rattle.nx_pyx.specs.DocumentName.{is_document_name}
use Rattle.nx_matrix.specs.RuleLabels.{HasLabels}
use Rattle.nx_drawn.specs.Splits.{whole_document}
use Rattle.nx_state.specs.State.{State}

-- this holds of each document and its name
abbrev pub OfEachDocument : (List ℕ → CutTree → Type 0) → State → Type 0
OfEachDocument P state = (name : List ℕ) (document : CutTree) → get state.documents name ≡ Some document → P name document

-- each document is cut into parts none of which weighs more than k, each interval with members of its own
abbrev pub AreFeasible : State → Type 0
AreFeasible state = OfEachDocument (λ name document. AreParts (state.settings).k (whole_document document)) state

-- Its documents have names that they may have, satisfy the rules of documents and are cut into parts that aren't too heavy. Its rules are in the order of
-- their labels, none is free, and their labels are some that nodes have. (Documents are in the order of their names by their map.)
pub record IsSound (state : State) : Type 0 where
  pub named : OfEachDocument (λ name document. IsTrue (is_document_name name)) state
  pub documents : OfEachDocument (λ name document. IsDocument (tree_of document)) state
  pub drawn : AreFeasible state
  pub rules : AreRules state.rules
  pub labels : All HasLabels state.rules
