-- What a store has.
use Rattle.std.specs.Prelude.{ℕ, ◌+◌, List, [], map}
use Rattle.std.specs.FinMap.{FinMap, empty, values}
use Rattle.std.specs.List.{sum}
use Rattle.nx_tree.specs.Forest.{nodes}
use Rattle.nx_matrix.specs.declared.rule.Rule.{Rule}
use Rattle.nx_records.specs.Words.{Settings}
use Rattle.nx_cuts.specs.Cut.{CutTree, forest, tree_of}
use Rattle.nx_hold.specs.Contents.{tree_pages}
use Rattle.nx_pyx.specs.DocumentName.{name_order}

-- Its settings, the rules of its matrix in their order, and its documents by their names, each with its intervals drawn in.
pub record State : Type 0 where
  pub settings : Settings
  pub rules : List Rule
  pub documents : FinMap name_order CutTree

-- a new store has its settings alone
abbrev pub new_state : Settings → State
new_state settings = record { settings = settings; rules = []; documents = empty }

-- how many nodes a document has, its root counted
abbrev pub document_size : CutTree → ℕ
document_size document = 1 + nodes (forest document.below)

-- how many nodes all documents have
abbrev pub all_nodes : State → ℕ
all_nodes state = sum (map document_size (values state.documents))

-- how many chain pages the long contents of all documents take, where each of them is far
abbrev pub all_pages : State → ℕ
all_pages state = sum (map (λ document. tree_pages (tree_of document)) (values state.documents))
