-- A write to one area, and what the history has of it.
use Rattle.std.specs.Prelude.{◌≡◌, ℕ, List, [], ◌∷◌, ◌++◌, length, take, drop}
use Rattle.nx_host.specs.Disk.{Written}
use Rattle.nx_host.specs.declared.disk.Area.{Area}
use Rattle.nx_memory.specs.declared.history.Change.TheVariants.{Write}
use Rattle.nx_memory.specs.declared.history.History.{History}
use Rattle.nx_memory.specs.declared.reserved.Reserved.{Reserved}
use Rattle.nx_memory.specs.History.{covers}

-- These bytes were written to an area at an offset, and the history has the change and what it wrote over.
pub record Wrote (area : Area) (at : ℕ) (bytes : List ℕ) (old new : Reserved) (was now : History) : Type 0 where
  pub written : Written at bytes old.bytes.items new.bytes.items
  pub change : now.changes.items ≡ was.changes.items ++ Write area at (length bytes) (length old.bytes.items) ∷ []
  pub covered : now.covered.items ≡ was.covered.items ++ take (covers at (length bytes) (length old.bytes.items)) (drop at old.bytes.items)
