use Rattle.std.proofs.Common.{List, ℕ, subst}
use Rattle.nx_host.specs.Phase.{GivesAlone}
use Rattle.nx_filters.specs.Outcome.{Given}
use Rattle.nx_filters.proofs.give.give_text.Goals as goal

pub returns-clause-given : goal.returns-clause-given
returns-clause-given g c =
    let h = g.H.Disk in
    subst (λ (t : List ℕ). Given t c.give_all.result (h.beside c.args.host.now) (h.beside c.give_all.new.host)) c.in_ok-writer.ensures c.give_all.ensures.given

pub returns-clause-alone : goal.returns-clause-alone
returns-clause-alone g c =
    subst (λ (t : List ℕ). GivesAlone g.H.Disk t c.args.host.now c.give_all.new.host) c.in_ok-writer.ensures c.give_all.ensures.alone
