use Rattle.std.proofs.Common.{length}
use Rattle.nx_memory.specs.declared.history.Change.TheVariants.{Emit}
use Rattle.nx_memory.specs.Memory.{present_of, output_of}
use Rattle.nx_memory.proofs.HistoryLemmas.{changed, emit_left, longer_output}
use Rattle.nx_memory.proofs.host.MemoryHostHost.emit.Goals as goal

pub returns-clause-images : goal.returns-clause-images
returns-clause-images c = let adds = c.emit.ensures.adds c.if-not-emit.false in emit_left (present_of c.emit.new.self) adds.changes adds.before

pub returns-clause-time : goal.returns-clause-time
returns-clause-time c =
    let was = c.args.self.now.memory in
    let now = c.emit.new.self in
    let adds = c.emit.ensures.adds c.if-not-emit.false in
    let time = changed (Emit (length (output_of was))) adds.changes adds.before
    (λ s here. (
      longer_output (output_of was) (output_of now) c.args.bytes.now s.output here.output (c.emit.ensures.output c.if-not-emit.false),
      (emit_left (present_of now) adds.changes adds.before s.image).0 here.image,
    )) in
    record { later = time.later; nothing_else = time.nothing_else; keeps = time.keeps }
