-- Where the bytes of pages stand.
use Rattle.std.specs.Prelude.{Bool}
use Rattle.nx_cache.specs.declared.address.Address.{Address}
use Rattle.nx_cache.specs.contracts.address.AddressPartialEq.TheImpl as equality

-- whether they are one
abbrev pub same_address : Address → Address → Bool
same_address = equality.ghosts.eq
