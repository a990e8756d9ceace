use Rattle.std.proofs.Common.{◌≤◌, ◌+◌, ◌*◌, ◌/◌, length, sym, subst, arith}
use Rattle.std.specs.Prelude.{Option, IfSome}
use Rattle.std.proofs.lemmas.Result.{IfOk-weaker, IfErr-weaker}
use Rattle.nx_host.specs.Disk.{Image}
use Rattle.nx_numbers.specs.Sizes.{entry_size}
use Rattle.nx_check.specs.declared.error.CheckError.{CheckError}
use Rattle.nx_check.specs.Refusals.{NotChecked}
use Rattle.nx_check.proofs.BetweenLemmas.{not_opened, gives_up, end_later}
use Rattle.nx_check.proofs.checking.check.Goals as goal

pub returns-in-Ok-clause-verdict : goal.returns-in-Ok-clause-verdict
returns-in-Ok-clause-verdict g c =
    IfOk-weaker c.verdict_of.result _ _ (λ found h. λ was settled. (let on = c.in-Ok.ensures.ok was settled in (on.1, h was on.0 on.1))) c.verdict_of.ensures.verdict

pub returns-in-Ok-clause-reads : goal.returns-in-Ok-clause-reads
returns-in-Ok-clause-reads g c =
    IfOk-weaker c.verdict_of.result _ _
    (λ found h. λ was settled sound.
    let on = c.in-Ok.ensures.ok was settled in
    let at = h was on.0 sound in
    let opening : g.D.Disk.reads c.open_to_read.new.disk ≤ g.D.Disk.reads c.args.disk.now + (3 * (length was.log / entry_size + 1) + 1) =
    subst (λ (o : Option Image). IfSome o (λ w. g.D.Disk.reads c.open_to_read.new.disk ≤ g.D.Disk.reads c.args.disk.now + (3 * (length w.log / entry_size + 1) + 1))) settled.here c.open_to_read.ensures.reads in
    (at.0, end_later g.D.Disk c.verdict_of.new.disk was (g.D.Disk.reads c.open_to_read.new.disk + 2) (g.D.Disk.reads c.args.disk.now + (3 * (length was.log / entry_size + 1) + 1) + 2) at.0 (omega (arith, opening)) at.1))
    c.verdict_of.ensures.reads

pub returns-in-Ok-clause-refused : goal.returns-in-Ok-clause-refused
returns-in-Ok-clause-refused g c =
    IfErr-weaker c.verdict_of.result _ _ (λ e h. gives_up g.D.Disk c.args.disk.now c.open_to_read.new.disk c.verdict_of.new.disk e c.open_to_read.ensures.still.faults_later h) c.verdict_of.ensures.refused

pub returns-in-Err-clause-refused : goal.returns-in-Err-clause-refused
returns-in-Err-clause-refused g c =
    subst (λ (e : CheckError). NotChecked g.D.Disk e c.args.disk.now c.open_to_read.new.disk) (sym c.refusal_of.ensures) (not_opened g.D.Disk c.in-Err.error c.args.disk.now c.open_to_read.new.disk c.in-Err.ensures.refused)
