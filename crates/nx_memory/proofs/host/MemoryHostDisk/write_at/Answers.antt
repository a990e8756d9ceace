use Rattle.std.proofs.Common.{ap, length}
use Rattle.nx_host.specs.Disk.{area_of}
use Rattle.nx_memory.specs.History.{Present}
use Rattle.nx_memory.specs.declared.history.Change.TheVariants.{Write}
use Rattle.nx_memory.specs.Memory.{areas_of, present_of, output_of}
use Rattle.nx_memory.proofs.HistoryLemmas.{changed, write_left, same_output}
use Rattle.nx_memory.proofs.host.MemoryHostDisk.write_at.Goals as goal

pub returns-clause-images : goal.returns-clause-images
returns-clause-images c = let adds = c.write.ensures.adds c.if-not-write.false in write_left (present_of c.write.new.self) adds.changes adds.before

pub returns-clause-time : goal.returns-clause-time
returns-clause-time c =
    let was = c.args.self.now.memory in
    let now = c.write.new.self in
    let adds = c.write.ensures.adds c.if-not-write.false in
    let change = Write c.args.area c.args.at (length c.args.bytes.now) (length (area_of c.args.area (areas_of was))) in
    let time = changed change adds.changes adds.before
    (λ s here. (
      same_output (output_of was) (output_of now) s.output here.output (ap (λ (p : Present). p.output) adds.before),
      write_left (present_of now) adds.changes adds.before s.image here.image,
    )) in
    record { later = time.later; nothing_else = time.nothing_else; keeps = time.keeps }
