use Rattle.nx_wal.proofs.PageLemmas.{lent_page}
use Rattle.nx_wal.proofs.wal.Wal.waiting.Goals as goal

pub returns : goal.returns
returns c = lent_page c.args.self.now.waiting.pages.entries c.args.page c.get.result c.get.ensures
