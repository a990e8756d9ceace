use Rattle.std.proofs.Common.{◌++◌, Err, Ok, ap, refl, sym, subst}
use Rattle.std.proofs.lemmas.Result.{err_from_is_err_and}
use Rattle.nx_host.proofs.PhaseLemmas.{none_given}
use Rattle.nx_filters.specs.declared.give.GiveError.TheVariants.{NoMemory}
use Rattle.nx_filters.specs.Outcome.{Given}
use Rattle.nx_filters.proofs.GiveLemmas.{less, given_nothing, gave_rest, left_is, all_left, giving_more, giving_stops, giving_alone}
use Rattle.nx_filters.proofs.give.give_written.Goals as goal

pub loop-host-init : goal.loop-host-init
loop-host-init g c =
    let all = c.args.block.now ++ g.W.Writes.left c.args.writer.now in
    record { gave = all_left all all (g.H.Disk.beside c.args.host.now) refl; alone = none_given all }

pub loop-host-preserved : goal.loop-host-preserved
loop-host-preserved g c =
    let rest = g.W.Writes.left c.fill_block.new.self in
    let filled = left_is (c.fill_block.new.block ++ rest) c.loop-host.invariant.gave (sym c.fill_block.ensures.text) in
    record {
      gave = left_is (c.give_block.new.block ++ rest)
          (giving_more c.fill_block.new.block rest (g.H.Disk.beside c.give_block.new.host) filled c.in_ok-give_block.ensures.given)
          (ap (λ b. b ++ rest) (sym c.in_ok-give_block.ensures.empty));
      alone = giving_alone c.fill_block.new.block rest filled c.loop-host.invariant.alone c.give_block.ensures.alone;
    }

pub loop-host-smaller : goal.loop-host-smaller
loop-host-smaller g c =
    less c.loop-host.block (g.W.Writes.left c.loop-host.writer) c.fill_block.new.block (g.W.Writes.left c.fill_block.new.self) c.give_block.new.block c.fill_block.ensures.text
    c.in_ok-give_block.ensures.empty (c.in_ok-fill_block.ensures.more (ap Ok c.if-branch.true))

pub returns-in_err-fill_block-clause-given : goal.returns-in_err-fill_block-clause-given
returns-in_err-fill_block-clause-given g c =
    let here = g.H.Disk.beside c.loop-host.host in
    let p = err_from_is_err_and c.from_residual.result c.from_residual.ensures.1 in
    rw (p.1, p.2)
    (gave_rest (Err NoMemory) here c.loop-host.invariant.alone.areas.out_faults_later c.loop-host.invariant.gave
    (given_nothing (c.loop-host.block ++ g.W.Writes.left c.loop-host.writer) here))

pub returns-in_err-give_block-clause-given : goal.returns-in_err-give_block-clause-given
returns-in_err-give_block-clause-given g c =
    let rest = g.W.Writes.left c.fill_block.new.self in
    let filled = left_is (c.fill_block.new.block ++ rest) c.loop-host.invariant.gave (sym c.fill_block.ensures.text) in
    let p = err_from_is_err_and c.from_residual-in_err-give_block.result c.from_residual-in_err-give_block.ensures.1 in
    rw p.1
    (giving_stops c.fill_block.new.block rest _ (g.H.Disk.beside c.give_block.new.host) c.loop-host.invariant.alone.areas.out_faults_later filled
    (subst (λ e. Given c.fill_block.new.block (Err e) (g.H.Disk.beside c.loop-host.host) (g.H.Disk.beside c.give_block.new.host)) (sym p.2) c.in_err-give_block.ensures.given))

pub returns-in_err-give_block-clause-alone : goal.returns-in_err-give_block-clause-alone
returns-in_err-give_block-clause-alone g c =
    let rest = g.W.Writes.left c.fill_block.new.self in
    let filled = left_is (c.fill_block.new.block ++ rest) c.loop-host.invariant.gave (sym c.fill_block.ensures.text) in
    giving_alone c.fill_block.new.block rest filled c.loop-host.invariant.alone c.give_block.ensures.alone
