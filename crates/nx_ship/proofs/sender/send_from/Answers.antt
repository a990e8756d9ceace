use Rattle.std.proofs.Common.{◌≡◌, [], List, ℕ, sym, subst, ◌∙◌, arith}
use Rattle.std.proofs.lemmas.Result.{err_from_is_err_and}
use Rattle.nx_ship.specs.Sent.{StopsAtGroups, SendsGroups, SendsMore}
use Rattle.nx_ship.proofs.SendLemmas.{more_now, fault_since}
use Rattle.nx_ship.proofs.FromLemmas.{from_stopped, from_ungiven, from_given, from_next, from_nowhere}
use Rattle.nx_ship.proofs.sender.send_from.Goals as goal

pub returns-in_err-send_groups-clause-ends : goal.returns-in_err-send_groups-clause-ends
returns-in_err-send_groups-clause-ends g c =
    let d = g.H.Disk in
    let p = err_from_is_err_and c.from_residual.result c.from_residual.ensures.1 in
    let e = c.in_err-send_groups.field-0.0 in
    rw (p.1, p.2)
    (from_stopped c.args.number c.args.last e (subst (λ (l : List ℕ). StopsAtGroups d c.args.number c.args.wal.now e l c.args.host.now c.send_groups.new.host) c.requires c.in_err-send_groups.ensures.err))

pub returns-in_err-send_groups-clause-cause : goal.returns-in_err-send_groups-clause-cause
returns-in_err-send_groups-clause-cause g c =
    let p = err_from_is_err_and c.from_residual.result c.from_residual.ensures.1 in
    rw (p.1, p.2) c.in_err-send_groups.ensures.cause

pub returns-in_err-give-clause-ends : goal.returns-in_err-give-clause-ends
returns-in_err-give-clause-ends g c =
    let d = g.H.Disk in
    let p = err_from_is_err_and c.from_residual-in_err-give.result c.from_residual-in_err-give.ensures.1 in
    let e = c.in_err-give.field-0.0 in
    rw (p.1, p.2)
    (from_ungiven c.args.number c.args.last e c.in_err-give.ensures.cut
    (subst (λ (l : List ℕ). SendsGroups d c.args.number c.args.wal.now c.in_ok-send_groups.field-0 l c.send_groups.new.block.items c.args.host.now c.send_groups.new.host) c.requires c.in_ok-send_groups.ensures.ok)
    c.in_err-give.ensures.err)

pub returns-in_err-give-clause-cause : goal.returns-in_err-give-clause-cause
returns-in_err-give-clause-cause g c =
    let p = err_from_is_err_and c.from_residual-in_err-give.result c.from_residual-in_err-give.ensures.1 in
    let sent = (c.in_ok-send_groups.ensures.ok).sent in
    rw (p.1, p.2) (fault_since _ c.args.host.now c.send_groups.new.host c.give.new.host c.in_err-give.field-0.0 (more_now sent.bytes sent.sends) c.in_err-give.ensures.cause)

pub returns-then-branch-clause-ends : goal.returns-then-branch-clause-ends
returns-then-branch-clause-ends g c =
    let d = g.H.Disk in
    let gave = c.in_ok-give.ensures.ok in
    from_given c.args.number c.args.last c.if-branch.true
    (subst (λ (l : List ℕ). SendsGroups d c.args.number c.args.wal.now c.in_ok-send_groups.field-0 l c.send_groups.new.block.items c.args.host.now c.send_groups.new.host) c.requires c.in_ok-send_groups.ensures.ok)
    (subst (λ (l : List ℕ). SendsMore d [] c.send_groups.new.block.items l c.send_groups.new.host c.give.new.host) gave.1 gave.0)

pub returns-then-number-following-clause-ends : goal.returns-then-number-following-clause-ends
returns-then-number-following-clause-ends g c =
    let same : c.args.number ≡ c.following.result = omega (arith, c.if-number-following.true) in
    from_next c.args.number c.args.last c.if-branch.false (same ∙ c.following.ensures) c.in_ok-send_groups.ensures.ok

pub returns-clause-ends : goal.returns-clause-ends
returns-clause-ends g c =
    from_nowhere c.args.number c.args.last c.if-branch.false
    (λ same. let is : c.args.number ≡ c.following.result = same ∙ sym c.following.ensures in absurd (omega (arith, is, c.if-number-following.false))) c.in_ok-send_groups.ensures.ok
