-- Where two addresses are one.
use Rattle.std.proofs.Common.{◌≡◌, true, ap, eqb-true}
use Rattle.nx_cache.specs.declared.address.Address.{Address}
use Rattle.nx_cache.specs.declared.address.Address.TheVariants.{InPages, InLog}
use Rattle.nx_cache.specs.Addresses.{same_address}

pub are_one : (a b : Address) → same_address a b ≡ true → a ≡ b
are_one (InPages a) (InPages b) h = ap (λ n. InPages n) (eqb-true a b h)
are_one (InLog a) (InLog b) h = ap (λ n. InLog n) (eqb-true a b h)
are_one (InPages a) (InLog b) h = cc
are_one (InLog a) (InPages b) h = cc
