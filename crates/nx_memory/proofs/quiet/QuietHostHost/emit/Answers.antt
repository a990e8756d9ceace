use Rattle.std.proofs.Common.{length}
use Rattle.nx_memory.specs.declared.history.Change.TheVariants.{Emit}
use Rattle.nx_memory.specs.Memory.{present_of, output_of}
use Rattle.nx_memory.proofs.HistoryLemmas.{emit_left, longer_output}
use Rattle.nx_memory.proofs.QuietLemmas.{quiet_changed, still_longer}
use Rattle.nx_memory.proofs.quiet.QuietHostHost.emit.Goals as goal

pub returns-then-emit-clause-images : goal.returns-then-emit-clause-images
returns-then-emit-clause-images c = let adds = c.emit.ensures.adds c.if-emit.true in emit_left (present_of c.emit.new.self) adds.changes adds.before

pub returns-then-emit-clause-time : goal.returns-then-emit-clause-time
returns-then-emit-clause-time c =
    let was = c.args.self.now.memory in
    let now = c.emit.new.self in
    let bytes = c.args.bytes.now in
    let adds = c.emit.ensures.adds c.if-emit.true in
    let time = quiet_changed (Emit (length (output_of was))) c.if-self.false adds.changes adds.before
    (λ s here. (
      still_longer (output_of was) bytes s.output c.if-self.false (longer_output (output_of was) (output_of now) bytes s.output here.output (c.emit.ensures.output c.if-emit.true)),
      (emit_left (present_of now) adds.changes adds.before s.image).0 here.image,
    )) in
    record { later = time.later; nothing_else = time.nothing_else; keeps = time.keeps }
