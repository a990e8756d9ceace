use Rattle.std.proofs.Common.{◌≡◌, ◌++◌, List, length}
use Rattle.std.specs.Vec.Iter.{into_iter_items}
use Rattle.nx_script.specs.declared.command.Command.{Command}
use Rattle.nx_store.proofs.TransactLemmas.{IsPreparing}
use Rattle.nx_store.proofs.store.Store.prepare_all.Given as goal

abbrev pub invariant-loop-done : goal.invariant-loop-done
invariant-loop-done g l =
    (made : List Command) × (l.fn.commands ≡ made ++ into_iter_items l.rest) × (length made ≡ l.done) × IsPreparing g.D.Disk made l.fn.text l.text l.fn.self l.self l.fn.disk l.disk
