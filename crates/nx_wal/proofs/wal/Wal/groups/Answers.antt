use Rattle.std.proofs.Common.{◌≡◌, ◌∙◌, rules, length}
use Rattle.nx_wal.proofs.WalLemmas.{group_counted}
use Rattle.nx_wal.proofs.wal.Wal.groups.Goals as goal

pub returns-clause-count : goal.returns-clause-count
returns-clause-count c log follows =
    let same : c.len.result ≡ length c.args.self.now.starts.items = search rules in
    same ∙ group_counted c.args.self.now log follows
