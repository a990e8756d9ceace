-- The documents that a map of trees keeps.
use Rattle.std.specs.Prelude.{ℕ, All}
use Rattle.std.specs.Global.{Vec}
use Rattle.std.specs.Coded.{Coded, coded_list, coded_ℕ}
use Rattle.std.specs.BTreeMap.{BTreeMap, IsOrdered, values}
use Rattle.std.specs.FinMap.{from_sorted, code}
use Rattle.nx_tree.specs.Forest.{OrderedTree, tree_code}
use Rattle.nx_tree.specs.Document.{IsDocument}
use Rattle.nx_pyx.specs.DocumentName.{name_order, by_bytes, vector_order}
use Rattle.nx_engine.specs.Documents.{Documents}

abbrev pub documents_in : BTreeMap (Vec ℕ) OrderedTree → Documents
documents_in trees = from_sorted {R = name_order} (by_bytes trees.entries)

-- the names are in order, and each tree is a document
pub record AreDocuments (trees : BTreeMap (Vec ℕ) OrderedTree) : Type 0 where
  pub ordered : IsOrdered vector_order trees
  pub documents : All IsDocument (values trees)

abbrev pub documents_code : Coded Documents
documents_code = code (coded_list coded_ℕ) tree_code
