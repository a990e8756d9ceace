use Rattle.std.proofs.Common.{List, ℕ, ◌++◌, ap, subst}
use Rattle.nx_host.specs.Phase.{GivesAlone}
use Rattle.nx_filters.specs.Outcome.{Given}
use Rattle.nx_filters.proofs.GiveLemmas.{gave_rest, alone_rest}
use Rattle.nx_filters.proofs.give.give_all.Goals as goal

pub returns-clause-given : goal.returns-clause-given
returns-clause-given g c =
    let h = g.H.Disk in
    subst (λ (t : List ℕ). Given t c.give_block.result (h.beside c.args.host.now) (h.beside c.give_block.new.host)) (ap (λ b. b ++ g.W.Writes.left c.args.writer.now) c.new-block.ensures)
    (gave_rest c.give_block.result (h.beside c.give_block.new.host) c.give_written.ensures.alone.areas.out_faults_later c.in_ok-give_written.ensures.given c.give_block.ensures.given)

pub returns-clause-alone : goal.returns-clause-alone
returns-clause-alone g c =
    subst (λ (t : List ℕ). GivesAlone g.H.Disk t c.args.host.now c.give_block.new.host) (ap (λ b. b ++ g.W.Writes.left c.args.writer.now) c.new-block.ensures)
    (alone_rest c.in_ok-give_written.ensures.given c.give_written.ensures.alone c.give_block.ensures.alone)
