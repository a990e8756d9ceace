use Rattle.std.proofs.Common.{sym, subst}
use Rattle.std.proofs.Math.ListN.{replicate}
use Rattle.nx_records.specs.Changes.{nothing_held}
use Rattle.nx_catalog.specs.Catalog.{Contents, IsCatalog}
use Rattle.nx_catalog.proofs.CatalogLemmas.{first_is}
use Rattle.nx_state.proofs.FirstLemmas.{new_is_held}
use Rattle.nx_store.proofs.store.Store.create.Goals as goal

pub returns-clause-ok : goal.returns-clause-ok
returns-clause-ok g c was now settled told =
    let made = c.in-Ok.ensures.ok was now settled told in (
      record {
        held = nothing_held c.args.settings;
        stands = made.0;
        none_waits = c.in-Ok.ensures.fresh.1;
        state_is = new_is_held c.args.settings;
        catalog = subst (λ (k : Contents). IsCatalog (replicate 8 0) k) (sym c.new.ensures) first_is;
      },
      (made.1).settled,
      made.2,
    )
