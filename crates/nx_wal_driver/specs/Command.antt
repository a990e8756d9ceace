-- The limits of a command's numbers.
use Rattle.std.specs.Prelude.{◌≤◌}
use Rattle.nx_wal_driver.specs.declared.commands.Command.{Command}
use Rattle.nx_wal_driver.specs.declared.commands.Command.TheVariants.{Create, Fill, Dump, Open}

-- A store, and a group, is to have a page at least, and no more than there may be.
abbrev pub HasAllowedPages : Command → Type 0
HasAllowedPages (Create c) = (1 ≤ c.pages) × (c.pages ≤ 16777216)
HasAllowedPages (Fill c) = (1 ≤ c.pages) × (c.pages ≤ 16777216)
HasAllowedPages Dump = Unit {0}
HasAllowedPages Open = Unit {0}
