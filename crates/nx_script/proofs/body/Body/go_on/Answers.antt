use Rattle.std.proofs.lemmas.Result.{on_ok_weaker}
use Rattle.nx_script.proofs.DocumentLines.{HoldsMore, goes_on_read, goes_on_dotted}
use Rattle.nx_script.proofs.body.Body.go_on.Goals as goal

pub returns-then-is_at_dot : goal.returns-then-is_at_dot
returns-then-is_at_dot c =
    let more : HoldsMore c.args.self.now c.hold.new.self c.args.bytes.now =
    record { unbroken = c.requires.unbroken; holds = c.in_ok-hold.ensures.held; reader_stays = c.in_ok-hold.ensures.reader } in
    goes_on_dotted more
    c.is_at_dot.ensures.held c.if-is_at_dot.true

pub returns : goal.returns
returns c =
    let more : HoldsMore c.args.self.now c.hold.new.self c.args.bytes.now =
    record { unbroken = c.requires.unbroken; holds = c.in_ok-hold.ensures.held; reader_stays = c.in_ok-hold.ensures.reader } in
    on_ok_weaker c.read_on.result
    (goes_on_read more
    c.read_on.ensures.held c.is_at_dot.ensures.held c.if-is_at_dot.false c.unread_len-unread.result c.unread_len-unread.ensures.len)
    c.read_on.ensures.read
