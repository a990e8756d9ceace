use Rattle.std.proofs.lemmas.Result.{err_from_is_err_and}
use Rattle.nx_front.proofs.ClockLemmas.{HasClock}
use Rattle.nx_front.proofs.ServeLemmas.{quiet_answers, quiet_pushless, quiet_begins, export_answers, export_begins, written_takes, stopped_applying}
use Rattle.nx_front.proofs.serve.answer_behind.Given.{Over}
use Rattle.nx_front.proofs.serve.answer_behind.Goals as goal

clock : (g : Over) → HasClock g.H.Disk
clock g = record { stands_now = g.met.H.Disk.stands_now; only_now = g.met.H.Disk.only_now }

pub returns-in-Err-clause-err : goal.returns-in-Err-clause-err
returns-in-Err-clause-err g c = rw c.status_of.ensures (export_begins c.args.command c.in-Err.error (clock g) c.in-Export.is c.as_slice.ensures c.in-Err.ensures.exports)

pub returns-in_default-export_into-clause-ok : goal.returns-in_default-export_into-clause-ok
returns-in_default-export_into-clause-ok g c = export_answers c.args.command c.in-Export.is c.as_slice.ensures c.export_into.ensures.areas c.in_default-export_into.ensures.exports

pub returns-in-Err-apply : goal.returns-in-Err-apply
returns-in-Err-apply g c =
    let e = c.in-Err-apply.error in
    record {
      ok = tt;
      err = rw c.status_of-in-Err-apply.ensures (quiet_begins c.apply.new.self c.args.command e (clock g) c.requires.leaves c.in-Err-apply.ensures.applies);
      cause = rw c.status_of-in-Err-apply.ensures (stopped_applying g.H.Disk c.args.host.now c.apply.new.disk c.args.store.now c.apply.new.self e c.in-Err-apply.ensures.refused);
      beside = written_takes c.apply.ensures.areas;
      holds = λ one. tt;
      reads = λ one. c.apply.ensures.reads;
    }

pub returns-in_err-push_reply-in_default : goal.returns-in_err-push_reply-in_default
returns-in_err-push_reply-in_default g c =
    let p = err_from_is_err_and c.from_residual.result c.from_residual.ensures.1 in
    record {
      ok = rw p.1 tt;
      err = rw (p.1, p.2) (quiet_pushless c.args.command c.in-Ok.reply (clock g) c.requires.leaves c.in-Ok.ensures.applies);
      cause = rw (p.1, p.2) tt;
      beside = written_takes c.apply.ensures.areas;
      holds = λ one. rw p.1 tt;
      reads = λ one. c.apply.ensures.reads;
    }

pub returns-in_ok-push_reply-in_default : goal.returns-in_ok-push_reply-in_default
returns-in_ok-push_reply-in_default g c =
    record {
      ok = quiet_answers c.args.command c.in-Ok.reply c.requires.leaves c.in_ok-push_reply-in_default.ensures.ok c.apply.ensures.areas c.in-Ok.ensures.applies;
      err = tt;
      cause = tt;
      beside = written_takes c.apply.ensures.areas;
      holds = λ one. c.in-Ok.ensures.holds c.requires.leaves;
      reads = λ one. c.apply.ensures.reads;
    }
