-- Documents by their names.
use Rattle.std.specs.FinMap.{FinMap}
use Rattle.nx_tree.specs.Forest.{OrderedTree}
use Rattle.nx_pyx.specs.DocumentName.{name_order}

-- a finite map from names to trees
abbrev pub Documents : Type 0
Documents = FinMap name_order OrderedTree
