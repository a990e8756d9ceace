use Rattle.std.proofs.Common.{ap, ◌∙◌, arith}
use Rattle.std.specs.FinMap.{remove}
use Rattle.nx_catalog.specs.Catalog.{Entries}
use Rattle.nx_catalog.proofs.NameMap.{map_in-remove}
use Rattle.nx_catalog.proofs.InsideLemmas.{less_documents}
use Rattle.nx_catalog.proofs.saving.others.Goals as goal

pub returns-clause-are : goal.returns-clause-are
returns-clause-are c = less_documents c.remove.new.self _ c.in_ok-left.ensures.are c.remove.ensures.entries c.remove.ensures.ordered (let h = c.remove.ensures.len in omega (arith, h))

pub returns-clause-left : goal.returns-clause-left
returns-clause-left c =
    map_in-remove c.args.name.now c.in_ok-left.left c.remove.new.self (c.in_ok-left.ensures.are).ordered c.remove.ensures.ordered c.remove.ensures.updates ∙ ap (λ (d : Entries). remove d c.args.name.now) c.in_ok-left.ensures.same
