use Rattle.nx_catalog.proofs.catalog.Catalog.find_places.Goals as goal

pub invariant_of-self : goal.invariant_of-self
invariant_of-self c = (c.self.invariant.0, λ name at there. (c.in_ok-self-inside.ensures name at there, c.rules.ensures.rules))
