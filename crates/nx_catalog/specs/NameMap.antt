-- A map by names, as a tree of vectors keeps it.
use Rattle.std.specs.Prelude.{ℕ}
use Rattle.std.specs.Global.{Vec}
use Rattle.std.specs.BTreeMap.{BTreeMap}
use Rattle.std.specs.FinMap.{FinMap, from_sorted}
use Rattle.nx_pyx.specs.DocumentName.{name_order, by_bytes}

abbrev pub map_in : {X : Type 0} → BTreeMap (Vec ℕ) X → FinMap name_order X
map_in m = from_sorted {R = name_order} (by_bytes m.entries)
