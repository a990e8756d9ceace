use Rattle.std.proofs.Common.{◌≡◌, sym, subst}
use Rattle.std.specs.Prelude.{◌+◌, Result, IfOk, IfErr}
use Rattle.std.proofs.lemmas.Result.{IfOk-weaker}
use Rattle.nx_host.specs.Disk.{Image}
use Rattle.nx_replay.specs.Log.{replay, HasMark}
use Rattle.nx_wal.specs.Wal.{IsInStep}
use Rattle.nx_rules.specs.declared.verdict.Verdict.{Verdict}
use Rattle.nx_rules.specs.declared.verdict.Verdict.TheVariants.{Sound}
use Rattle.nx_rules.specs.Tour.{Tour}
use Rattle.nx_rules.specs.Verdict.{IsVerdict}
use Rattle.nx_check.specs.declared.error.CheckError.{CheckError}
use Rattle.nx_check.specs.Between.{HasComeToEnd}
use Rattle.nx_check.specs.Refusals.{HasNoVerdict, told_of_stop}
use Rattle.nx_check.proofs.BetweenLemmas.{told_verdict, told_refusal, told_wrong}
use Rattle.nx_check.proofs.checking.verdict_of.Goals as goal

pub returns-in-Ok-clause-verdict : goal.returns-in-Ok-clause-verdict
returns-in-Ok-clause-verdict g c = λ was step mark. (let at = c.in-Ok.ensures.ok was step in (at.0, at.1.whole))

pub returns-in-Ok-clause-reads : goal.returns-in-Ok-clause-reads
returns-in-Ok-clause-reads g c = λ was step same. c.in-Ok.ensures.ok was step

pub returns-in-Err-clause-verdict : goal.returns-in-Err-clause-verdict
returns-in-Err-clause-verdict g c =
    subst (λ (r : Result Verdict CheckError). IfOk r (λ found. (was : Image) → IsInStep g.D.Disk c.args.wal c.args.disk.now was → HasMark (replay was) → IsVerdict (replay was) found)) (sym c.told_by.ensures)
    (IfOk-weaker (told_of_stop c.in-Err.stop) _ _ (λ found h. λ was step mark. h was (step, mark))
    (told_verdict g.D.Disk c.args.disk.now c.walk_all.new.disk (λ was. IsInStep g.D.Disk c.args.wal c.args.disk.now was × HasMark (replay was)) c.in-Err.stop c.in-Err.ensures.refused))

pub returns-in-Err-clause-reads : goal.returns-in-Err-clause-reads
returns-in-Err-clause-reads g c =
    subst (λ (r : Result Verdict CheckError). IfOk r (λ found. (was : Image) → IsInStep g.D.Disk c.args.wal c.args.disk.now was → found ≡ Sound → (tour : Tour) × HasComeToEnd g.D.Disk c.walk_all.new.disk was (g.D.Disk.reads c.args.disk.now + 2) tour)) (sym c.told_by.ensures)
    (IfOk-weaker (told_of_stop c.in-Err.stop) _ _ (λ found wrong. λ was step same. absurd (wrong same)) (told_wrong c.in-Err.stop))

pub returns-in-Err-clause-refused : goal.returns-in-Err-clause-refused
returns-in-Err-clause-refused g c =
    subst (λ (r : Result Verdict CheckError). IfErr r (λ e. HasNoVerdict g.D.Disk e c.args.disk.now c.walk_all.new.disk)) (sym c.told_by.ensures)
    (told_refusal g.D.Disk c.args.disk.now c.walk_all.new.disk (λ was. IsInStep g.D.Disk c.args.wal c.args.disk.now was × HasMark (replay was)) c.in-Err.stop c.in-Err.ensures.refused)
