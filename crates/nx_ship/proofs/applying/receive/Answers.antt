use Rattle.std.proofs.Common.{◌≡◌, List, ℕ, sym, ap, subst, ◌∙◌, arith}
use Rattle.std.specs.Prelude.{Err}
use Rattle.std.proofs.lemmas.Result.{err_from_is_err_and}
use Rattle.nx_host.specs.Input.{block_of}
use Rattle.nx_ship.specs.Receiving.{ReceivesMore, StopsReceiving}
use Rattle.nx_ship.proofs.EntryLemmas.{no_bytes}
use Rattle.nx_ship.proofs.ReceivingLemmas.{leaves_none}
use Rattle.nx_ship.proofs.OpenLemmas.{takes_none}
use Rattle.nx_ship.proofs.PieceLemmas.{input_begun, has_filled, input_more, input_takes, filled_takes, ends_lost, ends_unbegun, stops_filled, ends_stopped, ends_refused, ends_all, stopped_cause, ends_cause, take_cause}
use Rattle.nx_ship.proofs.SendLemmas.{rose_since}
use Rattle.nx_ship.proofs.applying.receive.Goals as goal

pub returns-in_err-input-clause-ends : goal.returns-in_err-input-clause-ends
returns-in_err-input-clause-ends g c =
    let p = err_from_is_err_and c.from_residual.result c.from_residual.ensures.1 in
    rw (p.1, p.2) (ends_unbegun {d = g.H.Disk} {r = c.args.receiver.now} {a = c.args.host.now})

pub returns-in_err-input-clause-takes : goal.returns-in_err-input-clause-takes
returns-in_err-input-clause-takes g c = takes_none c.args.host.now

pub loop-count-init : goal.loop-count-init
loop-count-init g c = input_begun {d = g.H.Disk} c.in_ok-input.ensures.none

pub returns-in_err-filled-clause-ends : goal.returns-in_err-filled-clause-ends
returns-in_err-filled-clause-ends g c =
    let p = err_from_is_err_and c.from_residual-in_err-filled.result c.from_residual-in_err-filled.ensures.1 in
    let e = c.in_err-filled.field-0.0 in
    rw (p.1, p.2) (ends_stopped e c.in_err-filled.ensures.stopped (stops_filled e c.loop-count.invariant c.fill.ensures.alone c.in_err-filled.ensures.err c.in_err-filled.ensures.stopped))

pub returns-in_err-filled-clause-takes : goal.returns-in_err-filled-clause-takes
returns-in_err-filled-clause-takes g c =
    let e = c.in_err-filled.field-0.0 in
    input_takes (stops_filled e c.loop-count.invariant c.fill.ensures.alone c.in_err-filled.ensures.err c.in_err-filled.ensures.stopped)

pub returns-in_err-filled-clause-cause : goal.returns-in_err-filled-clause-cause
returns-in_err-filled-clause-cause g c =
    let d = g.H.Disk in
    let p = err_from_is_err_and c.from_residual-in_err-filled.result c.from_residual-in_err-filled.ensures.1 in
    let e = c.in_err-filled.field-0.0 in
    let was = stops_filled e c.loop-count.invariant c.fill.ensures.alone c.in_err-filled.ensures.err c.in_err-filled.ensures.stopped in
    rw (p.1, p.2)
    (stopped_cause d c.args.host.now c.fill.new.host c.fill.new.self c.args.receiver.now c.loop-count.receiver e
    (λ is. rose_since (d.beside c.args.host.now).in_faults (d.beside c.loop-count.host).in_faults (d.beside c.fill.new.host).in_faults (c.loop-count.invariant).in_faults_later
    (c.fill.ensures.cause (c.in_err-filled.was ∙ ap (λ e. Err e) is)))
    c.in_err-filled.ensures.stopped was)

pub returns-then-filled-eq0-clause-ends : goal.returns-then-filled-eq0-clause-ends
returns-then-filled-eq0-clause-ends g c =
    let filled = has_filled c.loop-count.invariant c.fill.ensures.alone c.in_ok-filled.ensures.ok c.fill.new.self.few in
    let none : c.in_ok-filled.filled ≡ 0 = omega (arith, c.if-filled-eq0.true) in
    let low = c.in_ok-filled.ensures.below in
    let taken = c.in_ok-filled.ensures.taken in
    ends_all c.end.result (no_bytes (block_of c.fill.new.self) (sym c.in_ok-filled.ensures.count ∙ none)) (omega (arith, low, taken, none)) (c.in_ok-filled.ensures.end none) filled c.end.ensures.ends

pub returns-then-filled-eq0-clause-takes : goal.returns-then-filled-eq0-clause-takes
returns-then-filled-eq0-clause-takes g c =
    let filled = has_filled c.loop-count.invariant c.fill.ensures.alone c.in_ok-filled.ensures.ok c.fill.new.self.few in
    filled_takes filled (leaves_none c.fill.new.host)

pub returns-then-filled-eq0-clause-cause : goal.returns-then-filled-eq0-clause-cause
returns-then-filled-eq0-clause-cause g c =
    let filled = has_filled c.loop-count.invariant c.fill.ensures.alone c.in_ok-filled.ensures.ok c.fill.new.self.few in
    let none : c.in_ok-filled.filled ≡ 0 = omega (arith, c.if-filled-eq0.true) in
    let low = c.in_ok-filled.ensures.below in
    let taken = c.in_ok-filled.ensures.taken in
    ends_cause c.end.result (no_bytes (block_of c.fill.new.self) (sym c.in_ok-filled.ensures.count ∙ none)) (omega (arith, low, taken, none)) (c.in_ok-filled.ensures.end none) filled c.end.ensures.stream

pub loop-count-preserved : goal.loop-count-preserved
loop-count-preserved g c =
    let d = g.H.Disk in
    let filled = has_filled c.loop-count.invariant c.fill.ensures.alone c.in_ok-filled.ensures.ok c.fill.new.self.few in
    input_more filled
    (subst (λ (l : List ℕ). ReceivesMore d l c.loop-count.receiver c.take.new.self c.fill.new.host c.take.new.host) c.block.ensures c.in_ok-take.ensures.ok) c.take.ensures.leaves

pub returns-in_err-take-clause-ends : goal.returns-in_err-take-clause-ends
returns-in_err-take-clause-ends g c =
    let d = g.H.Disk in
    let p = err_from_is_err_and c.from_residual-in_err-take.result c.from_residual-in_err-take.ensures.1 in
    let e = c.in_err-take.field-0.0 in
    let filled = has_filled c.loop-count.invariant c.fill.ensures.alone c.in_ok-filled.ensures.ok c.fill.new.self.few in
    rw (p.1, p.2)
    (ends_refused e filled (subst (λ (l : List ℕ). StopsReceiving d l e c.loop-count.receiver c.fill.new.host c.take.new.host) c.block.ensures c.in_err-take.ensures.err) c.take.ensures.leaves)

pub returns-in_err-take-clause-takes : goal.returns-in_err-take-clause-takes
returns-in_err-take-clause-takes g c =
    let filled = has_filled c.loop-count.invariant c.fill.ensures.alone c.in_ok-filled.ensures.ok c.fill.new.self.few in
    filled_takes filled c.take.ensures.leaves

pub returns-in_err-take-clause-cause : goal.returns-in_err-take-clause-cause
returns-in_err-take-clause-cause g c =
    let p = err_from_is_err_and c.from_residual-in_err-take.result c.from_residual-in_err-take.ensures.1 in
    let filled = has_filled c.loop-count.invariant c.fill.ensures.alone c.in_ok-filled.ensures.ok c.fill.new.self.few in
    rw (p.1, p.2) (take_cause g.H.Disk c.args.host.now c.fill.new.host c.take.new.host c.in_err-take.field-0.0 filled.faults_later filled.out_faults_later c.in_err-take.ensures.cause)

pub returns-clause-ends : goal.returns-clause-ends
returns-clause-ends g c = ends_lost c.loop-count.invariant

pub returns-clause-takes : goal.returns-clause-takes
returns-clause-takes g c = input_takes c.loop-count.invariant
