use Rattle.std.proofs.Common.{◌+◌, ◌*◌, ◌/◌, ◌≤◌, length, subst, arith}
use Rattle.std.specs.Prelude.{Option, IfSome}
use Rattle.std.proofs.lemmas.Result.{IfOk-weaker, IfErr-weaker}
use Rattle.nx_host.specs.Disk.{Image}
use Rattle.nx_numbers.specs.Sizes.{entry_size}
use Rattle.nx_replay.specs.Log.{replay}
use Rattle.nx_ask.proofs.SnapshotLemmas.{counted_some, not_taken}
use Rattle.nx_ask.proofs.snapshot.Snapshot.take.Goals as goal

pub returns-in-Ok-clause-pages : goal.returns-in-Ok-clause-pages
returns-in-Ok-clause-pages g c =
    IfOk-weaker c.keep.result _ _ (λ snapshot h. λ was settled. (let begun = c.in-Ok.ensures.ok was settled in (begun.1, h was begun.0))) c.keep.ensures.pages

pub returns-in-Ok-clause-refused : goal.returns-in-Ok-clause-refused
returns-in-Ok-clause-refused g c =
    IfErr-weaker c.keep.result _ _ (λ e h. not_taken g.D.Disk e c.in-Ok.wal c.args.disk.now c.open_to_read.new.disk c.keep.new.disk c.open_to_read.ensures.still c.in-Ok.ensures.ok h) c.keep.ensures.refused

pub returns-in-Ok-clause-reads : goal.returns-in-Ok-clause-reads
returns-in-Ok-clause-reads g c was settled =
    let d = g.D.Disk in
    let opened = subst (λ (o : Option Image). IfSome o (λ image. d.reads c.open_to_read.new.disk ≤ d.reads c.args.disk.now + (3 * (length image.log / entry_size + 1) + 1))) settled.here c.in-Ok.ensures.reads in
    let begun = c.in-Ok.ensures.ok was settled in
    let kept = c.keep.ensures.reads was begun.0 in
    record {
      below = λ number said. (let read = kept.below number said in omega (arith, opened, read));
      there = λ count is. (let read = kept.there count is in let some = counted_some (replay was) count is begun.1 in omega (arith, opened, read, some));
    }
