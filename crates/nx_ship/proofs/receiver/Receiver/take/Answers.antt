use Rattle.std.proofs.Common.{◌≤◌, ◌<◌, List, ℕ, length, take, drop, subst, arith, length-drop}
use Rattle.std.proofs.lemmas.Result.{err_from_is_err_and}
use Rattle.nx_ship.proofs.ReceivingLemmas.{leaves_none, leaves_then}
use Rattle.nx_ship.proofs.CallLemmas.{fault_later}
use Rattle.nx_ship.proofs.PieceLemmas.{so_far_none, so_far_more, so_far_stops, so_far_all, rest_of}
use Rattle.nx_ship.specs.Receiving.{ReceivesMore, TakesSome, StopsReceiving}
use Rattle.nx_ship.proofs.receiver.Receiver.take.Goals as goal

pub loop-count-init : goal.loop-count-init
loop-count-init g c = record { within = omega arith; leaves = leaves_none c.args.host.now; so_far = so_far_none {d = g.H.Disk} c.args.piece.now c.args.self.now c.args.host.now }

pub loop-count-preserved : goal.loop-count-preserved
loop-count-preserved g c =
    let i = c.loop-count.invariant in
    let piece = c.args.piece.now in
    let at = c.loop-count.at in
    let n = c.in_ok-at.field-0 in
    let within : at ≤ length piece = i.within in
    let left : at < length piece = omega (arith, within, c.if-at-piece.false) in
    let rest = rest_of at piece in
    let part : n ≤ length (drop at piece) = subst (λ (l : List ℕ). n ≤ length l) rest c.in_ok-at.ensures.within in
    let d = g.H.Disk in
    record {
      within = omega (arith, within, part, length-drop at piece);
      leaves = leaves_then i.leaves c.step.ensures.leaves;
      so_far = so_far_more piece c.loop-count.count at n left i.so_far
          (subst (λ (l : List ℕ). ReceivesMore d (take n l) c.loop-count.self c.step.new.self c.loop-count.host c.step.new.host) rest c.in_ok-at.ensures.ok)
          (subst (λ (l : List ℕ). TakesSome d n l c.loop-count.self c.loop-count.host) rest c.in_ok-at.ensures.some);
    }

pub returns-in_err-at-clause-err : goal.returns-in_err-at-clause-err
returns-in_err-at-clause-err g c =
    let i = c.loop-count.invariant in
    let p = err_from_is_err_and c.from_residual.result c.from_residual.ensures.1 in
    let e = c.in_err-at.field-0.0 in
    let stops = subst (λ (l : List ℕ). StopsReceiving g.H.Disk l e c.loop-count.self c.loop-count.host c.step.new.host) (rest_of c.loop-count.at c.args.piece.now) c.in_err-at.ensures.err in
    rw (p.1, p.2) (so_far_stops c.args.piece.now c.loop-count.count c.loop-count.at e i.so_far stops)

pub returns-in_err-at-clause-leaves : goal.returns-in_err-at-clause-leaves
returns-in_err-at-clause-leaves g c = leaves_then (c.loop-count.invariant).leaves c.step.ensures.leaves

pub returns-in_err-at-clause-cause : goal.returns-in_err-at-clause-cause
returns-in_err-at-clause-cause g c =
    let p = err_from_is_err_and c.from_residual.result c.from_residual.ensures.1 in
    rw (p.1, p.2) (fault_later g.H.Disk c.args.host.now c.loop-count.host c.step.new.host c.in_err-at.field-0.0 (c.loop-count.invariant).leaves c.in_err-at.ensures.cause)

pub returns-after-loop-count-clause-ok : goal.returns-after-loop-count-clause-ok
returns-after-loop-count-clause-ok g c =
    let i = c.loop-count.invariant in
    so_far_all c.args.piece.now c.loop-count.count c.loop-count.at (λ enough. omega (arith, enough, c.loop-count-test.false)) i.so_far

pub returns-after-loop-count-clause-leaves : goal.returns-after-loop-count-clause-leaves
returns-after-loop-count-clause-leaves g c = (c.loop-count.invariant).leaves

pub returns-then-at-piece-clause-ok : goal.returns-then-at-piece-clause-ok
returns-then-at-piece-clause-ok g c =
    let i = c.loop-count.invariant in
    so_far_all c.args.piece.now c.loop-count.count c.loop-count.at (λ enough. omega (arith, c.if-at-piece.true)) i.so_far

pub returns-then-at-piece-clause-leaves : goal.returns-then-at-piece-clause-leaves
returns-then-at-piece-clause-leaves g c = (c.loop-count.invariant).leaves
