-- What becomes of a catalog whose rules were lent.
use Rattle.std.specs.Prelude.{List}
use Rattle.std.specs.Borrow.{Lends, MutBor, Fml}
use Rattle.nx_matrix.specs.declared.rule.Rule.{Rule}
use Rattle.nx_matrix.specs.contracts.matrix.Matrix as matrix
use Rattle.nx_catalog.specs.Catalog.{Contents}
use Rattle.nx_catalog.specs.contracts.catalog.Catalog.{the_row}

-- the catalog ends with its documents and the last rules behind the reference
abbrev pub LendsRules : MutBor Contents → MutBor (List Rule) → Fml
LendsRules catalog rules = Lends the_row matrix.the_row catalog rules (λ last. record { documents = (catalog.now).documents; rules = last })
