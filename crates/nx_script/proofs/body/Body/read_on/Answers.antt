use Rattle.std.proofs.Common.{take, ap}
use Rattle.std.proofs.lemmas.Result.{on_ok_weaker}
use Rattle.nx_script.proofs.DocumentLines.{reads_both}
use Rattle.nx_script.proofs.body.Body.read_on.Goals as goal

pub returns-clause-read : goal.returns-clause-read
returns-clause-read c =
    on_ok_weaker c.feed-2.result
    (reads_both c.args.self.now.held c.args.unread
    (ap (take c.args.unread) c.as_slice.ensures) c.in_ok-feed.ensures)
    c.feed-2.ensures
