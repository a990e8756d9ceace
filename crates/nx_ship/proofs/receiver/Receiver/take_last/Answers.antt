use Rattle.std.proofs.Common.{◌∷◌, ◌++◌, [], ℕ, ap, subst}
use Rattle.std.proofs.lemmas.Result.{err_from_is_err_and}
use Rattle.nx_replay.proofs.SettledLemmas.{on_ok2}
use Rattle.nx_ship.specs.Reading.{page_of}
use Rattle.nx_ship.specs.declared.reader.Reader.{Reader}
use Rattle.nx_ship.specs.Receiving.{Receives}
use Rattle.nx_ship.proofs.SendLemmas.{if_err2}
use Rattle.nx_ship.proofs.ReceivingLemmas.{leaves_none, leaves_then}
use Rattle.nx_ship.proofs.CallLemmas.{fault_later}
use Rattle.nx_ship.proofs.TakingLemmas.{refused_number, number_fault, unkept, kept_last, refused_base, applied_last, uncommitted, next_kept, if_err_map}
use Rattle.nx_ship.proofs.receiver.Receiver.take_last.Goals as goal

pub returns-in_err-check_number-clause-err : goal.returns-in_err-check_number-clause-err
returns-in_err-check_number-clause-err g c =
    let p = err_from_is_err_and c.from_residual.result c.from_residual.ensures.1 in
    rw (p.1, p.2) (λ start first taken groups es has behind. refused_number c.in_err-check_number.field-0.0 c.in_err-check_number.ensures has behind)

pub returns-in_err-check_number-clause-leaves : goal.returns-in_err-check_number-clause-leaves
returns-in_err-check_number-clause-leaves g c = leaves_none c.args.host.now

pub returns-in_err-check_number-clause-cause : goal.returns-in_err-check_number-clause-cause
returns-in_err-check_number-clause-cause g c =
    let self = c.args.self.now in
    let p = err_from_is_err_and c.from_residual.result c.from_residual.ensures.1 in
    rw (p.1, p.2) (number_fault g.H.Disk c.args.host.now c.args.host.now self.last self.reader.number c.in_err-check_number.field-0.0 c.in_err-check_number.ensures)

pub returns-in_err-keep-clause-err : goal.returns-in_err-keep-clause-err
returns-in_err-keep-clause-err g c =
    let p = err_from_is_err_and c.from_residual-in_err-keep.result c.from_residual-in_err-keep.ensures.1 in
    rw (p.1, p.2) (λ start first taken groups es has behind. unkept c.in_err-keep.field-0.0 c.in_err-keep.ensures.cut c.keep.ensures.moves has behind)

pub returns-in_err-keep-clause-cause : goal.returns-in_err-keep-clause-cause
returns-in_err-keep-clause-cause g c =
    let p = err_from_is_err_and c.from_residual-in_err-keep.result c.from_residual-in_err-keep.ensures.1 in
    rw (p.1, p.2) c.in_err-keep.ensures.cause

pub returns-in_err-keep-clause-leaves : goal.returns-in_err-keep-clause-leaves
returns-in_err-keep-clause-leaves g c = c.keep.ensures.leaves

pub returns-then-is_baseless-clause-err : goal.returns-then-is_baseless-clause-err
returns-then-is_baseless-clause-err g c start first taken groups es has behind =
    refused_base (c.is_baseless.ensures.yes c.if-is_baseless.true) (kept_last c.keep.ensures.stays (c.in_ok-keep.ensures.ok c.in_ok-check_number.ensures) has) behind

pub returns-then-is_baseless-clause-leaves : goal.returns-then-is_baseless-clause-leaves
returns-then-is_baseless-clause-leaves g c = c.keep.ensures.leaves

pub returns-clause-ok : goal.returns-clause-ok
returns-clause-ok g c =
    let d = g.H.Disk in
    let old = c.args.self.now in
    let kept = c.keep.new.self in
    on_ok2 c.commit.result c.commit.ensures.ok c.commit.ensures.offset (λ commits offset start first taken groups es has.
    subst (λ (n : ℕ). Receives d start first c.commit.new.self taken (groups ++ record { number = n; entries = es ++ page_of c.args.page c.args.self.now.reader ∷ [] } ∷ []) [] c.commit.new.host)
    (ap (λ (x : Reader). x.number) c.keep.ensures.stays.reader)
    (applied_last (kept_last c.keep.ensures.stays (c.in_ok-keep.ensures.ok c.in_ok-check_number.ensures) has) (next_kept old kept c.keep.ensures.stays c.in_ok-check_number.ensures) (c.is_baseless.ensures.no c.if-is_baseless.false)
    c.commit.ensures.reader offset commits))

pub returns-clause-err : goal.returns-clause-err
returns-clause-err g c =
    let old = c.args.self.now in
    let kept = c.keep.new.self in
    if_err2 c.commit.result c.commit.ensures.cut c.commit.ensures.err (λ e cut stops start first taken groups es has behind.
    uncommitted e cut (kept_last c.keep.ensures.stays (c.in_ok-keep.ensures.ok c.in_ok-check_number.ensures) has) (next_kept old kept c.keep.ensures.stays c.in_ok-check_number.ensures) (c.is_baseless.ensures.no c.if-is_baseless.false)
    stops behind)

pub returns-clause-leaves : goal.returns-clause-leaves
returns-clause-leaves g c = leaves_then c.keep.ensures.leaves c.commit.ensures.leaves

pub returns-clause-cause : goal.returns-clause-cause
returns-clause-cause g c =
    if_err_map c.commit.result c.commit.ensures.cause (λ e fault. fault_later g.H.Disk c.args.host.now c.keep.new.disk c.commit.new.host e c.keep.ensures.leaves fault)
