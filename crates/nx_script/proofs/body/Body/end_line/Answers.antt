use Rattle.std.proofs.Common.{ℕ, List, take, ap, arith}
use Rattle.nx_script.specs.declared.body.Body.{Body}
use Rattle.nx_script.proofs.DocumentLines.{HoldsMore, ends_read, ends_dot, stands_ended, reads_ended, holds_ended}
use Rattle.nx_script.proofs.body.Body.end_line.Goals as goal
use Rattle.nx_script.proofs.body.Body.end_line.Goals.{then-not-ended+in_ok-read_on, else-not-ended}

pub returns : goal.returns
returns c =
    let line : List ℕ = c.requires.0 in
    let more : HoldsMore c.args.self.now c.hold.new.self line =
    record { unbroken = c.requires.2; holds = holds_ended line (omega arith) c.requires.1 c.in_ok-hold.ensures.held; reader_stays = c.in_ok-hold.ensures.reader } in
    elim c.if-not-ended.branch [
      | then-not-ended+in_ok-read_on w ↦
          stands_ended _ c.is_at_dot-ended.result line c.requires.1
          (ends_read more c.clear.ensures c.is_at_dot-ended.ensures.held w.if-not-ended.true
          c.unread_len-unread.result c.unread_len-unread.ensures.len
          (reads_ended (take c.unread_len-unread.result c.hold.new.self.held) line w.self-is c.requires.1
          w.in_ok-read_on.ensures.read))
      | else-not-ended w ↦
          stands_ended _ c.is_at_dot-ended.result line c.requires.1
          (ends_dot more _ (ap (λ (b : Body). b.reader) w.self-is) c.is_at_dot-ended.ensures.held w.if-not-ended.false)
    ]
