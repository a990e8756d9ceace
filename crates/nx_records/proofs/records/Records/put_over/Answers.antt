use Rattle.std.proofs.Common.{List, ℕ, inr, sym, subst}
use Rattle.nx_records.specs.Pages.{PutsPage}
use Rattle.nx_records.proofs.StandLemmas.{on_ok_then}
use Rattle.nx_records.proofs.RewritingLemmas.{differ}
use Rattle.nx_records.proofs.records.Records.put_over.Goals as goal

pub returns-clause-ok : goal.returns-clause-ok
returns-clause-ok c = on_ok_then c.store.result c.store.ensures.puts (λ puts. inr (
  λ same. differ c.args.had.now c.args.content.now (sym c.if-eq.ensures) (sym same),
  subst (λ (b : List ℕ). PutsPage c.args.page b c.args.self.now c.store.new.self) c.chain_page-bytes.ensures puts,
))
