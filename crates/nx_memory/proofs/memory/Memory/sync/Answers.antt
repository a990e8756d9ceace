use Rattle.std.proofs.Common.{List, ℕ, ◌∙◌, ap}
use Rattle.nx_memory.specs.History.{Present}
use Rattle.nx_memory.specs.Memory.{areas_of}
use Rattle.nx_memory.specs.declared.history.Change.TheVariants.{Sync}
use Rattle.nx_memory.proofs.MemoryLemmas.{one_more, history_more, sync_undone}
use Rattle.nx_memory.proofs.memory.Memory.sync.Goals as goal

pub invariant_of-self : goal.invariant_of-self
invariant_of-self c =
    let m = c.args.self.now in
    let pushed = one_more m.history.changes.items c.add.new.self.changes.items (Sync c.args.area) c.add.ensures.changes in
    let now : List ℕ → Present = λ l. record { areas = areas_of m; output = m.output.bytes.items; covered = l } in
    let undone = ap now c.add.ensures.covered ∙ sync_undone (areas_of m) m.output.bytes.items m.history.covered.items in
    record { sound = history_more {change = Sync c.args.area} _ pushed undone (record { pages = m.pages.are_bytes; log = m.log.are_bytes }) tt m.sound }
