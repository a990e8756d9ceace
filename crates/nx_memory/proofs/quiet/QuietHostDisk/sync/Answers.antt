use Rattle.std.proofs.Common.{ap}
use Rattle.nx_host.specs.Disk.{IsDurable}
use Rattle.nx_memory.specs.History.{Present, MayLeave}
use Rattle.nx_memory.specs.declared.history.Change.TheVariants.{Sync}
use Rattle.nx_memory.specs.Memory.{changes_of, present_of, areas_of, output_of}
use Rattle.nx_memory.proofs.HistoryLemmas.{sync_left, sync_durable, same_output}
use Rattle.nx_memory.proofs.QuietLemmas.{quiet_changed, if_told, still_told}
use Rattle.nx_memory.proofs.quiet.QuietHostDisk.sync.Goals as goal

pub returns-then-sync-clause-durable : goal.returns-then-sync-clause-durable
returns-then-sync-clause-durable c =
    let now = c.sync.new.self in
    if_told (IsDurable c.args.area (MayLeave (changes_of now) (present_of now))) c.args.self.now.full (areas_of now) (sync_durable (present_of now) (c.sync.ensures.adds c.if-sync.true).changes)

pub returns-then-sync-clause-images : goal.returns-then-sync-clause-images
returns-then-sync-clause-images c = let adds = c.sync.ensures.adds c.if-sync.true in sync_left (present_of c.sync.new.self) adds.changes adds.before

pub returns-then-sync-clause-time : goal.returns-then-sync-clause-time
returns-then-sync-clause-time c =
    let was = c.args.self.now.memory in
    let now = c.sync.new.self in
    let adds = c.sync.ensures.adds c.if-sync.true in
    let time = quiet_changed (Sync c.args.area) c.if-self.false adds.changes adds.before
    (λ s here. (
      still_told (output_of was) s.output c.if-self.false (same_output (output_of was) (output_of now) s.output here.output (ap (λ (p : Present). p.output) adds.before)),
      sync_left (present_of now) adds.changes adds.before s.image here.image,
    )) in
    record { later = time.later; nothing_else = time.nothing_else; keeps = time.keeps }
