use Rattle.std.proofs.Common.{ap}
use Rattle.nx_memory.specs.History.{Present}
use Rattle.nx_memory.specs.declared.history.Change.TheVariants.{Sync}
use Rattle.nx_memory.specs.Memory.{present_of, output_of}
use Rattle.nx_memory.proofs.HistoryLemmas.{changed, sync_left, sync_durable, same_output}
use Rattle.nx_memory.proofs.host.MemoryHostDisk.sync.Goals as goal

pub returns-clause-durable : goal.returns-clause-durable
returns-clause-durable c = sync_durable (present_of c.sync.new.self) (c.sync.ensures.adds c.if-not-sync.false).changes

pub returns-clause-images : goal.returns-clause-images
returns-clause-images c = let adds = c.sync.ensures.adds c.if-not-sync.false in sync_left (present_of c.sync.new.self) adds.changes adds.before

pub returns-clause-time : goal.returns-clause-time
returns-clause-time c =
    let now = c.sync.new.self in
    let adds = c.sync.ensures.adds c.if-not-sync.false in
    let time = changed (Sync c.args.area) adds.changes adds.before
    (λ s here. (
      same_output (output_of c.args.self.now.memory) (output_of now) s.output here.output (ap (λ (p : Present). p.output) adds.before),
      sync_left (present_of now) adds.changes adds.before s.image here.image,
    )) in
    record { later = time.later; nothing_else = time.nothing_else; keeps = time.keeps }
