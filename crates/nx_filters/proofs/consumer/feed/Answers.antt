use Rattle.std.proofs.Common.{◌≡◌, ℕ, List, ◌++◌, MatchBool, Err, ap, subst, arith}
use Rattle.std.proofs.lemmas.Bool.{MatchBool-at_true, MatchBool-at_false}
use Rattle.std.proofs.lemmas.Result.{err_from_is_err_and}
use Rattle.nx_host.specs.Input.{block_of}
use Rattle.nx_host.proofs.PhaseLemmas.{none_taken, takes_then}
use Rattle.nx_filters.specs.Consumer.{StopsAt}
use Rattle.nx_filters.proofs.OutcomeLemmas.{rose_since}
use Rattle.nx_filters.proofs.ConsumerLemmas.{came_none, came_more, came_still, came_taken, came_end, came_enough, stops_input, stops_taking}
use Rattle.nx_filters.proofs.consumer.feed.Goals as goal

pub loop-consumer-init : goal.loop-consumer-init
loop-consumer-init g c = record { came = came_none; alone = none_taken }

pub loop-consumer-preserved : goal.loop-consumer-preserved
loop-consumer-preserved g c =
    record {
      came = came_more (block_of c.fill.new.self) c.loop-consumer.invariant.came c.in_ok-fill.ensures.ok
          (λ s knew. MatchBool-at_true (g.C.Consumer.has_read c.take.new.self (s ++ block_of c.fill.new.self)) (g.C.Consumer.has_enough c.take.new.self (s ++ block_of c.fill.new.self)) c.if-not-branch.false
          (subst (λ (b : List ℕ). MatchBool c.in_ok-take.field-0 (g.C.Consumer.has_read c.take.new.self (s ++ b)) (g.C.Consumer.has_enough c.take.new.self (s ++ b))) c.block.ensures
          (c.in_ok-take.ensures.ok s knew)));
      alone = takes_then c.loop-consumer.invariant.alone c.fill.ensures.alone;
    }

pub returns-then-not-branch-clause-ok : goal.returns-then-not-branch-clause-ok
returns-then-not-branch-clause-ok g c = λ taken first had knew.
    came_enough {knows = g.C.Consumer.has_enough c.take.new.self} (came_more (block_of c.fill.new.self) c.loop-consumer.invariant.came c.in_ok-fill.ensures.ok
    (λ s reads. MatchBool-at_false (g.C.Consumer.has_read c.take.new.self (s ++ block_of c.fill.new.self)) (g.C.Consumer.has_enough c.take.new.self (s ++ block_of c.fill.new.self)) c.if-not-branch.true
    (subst (λ (b : List ℕ). MatchBool c.in_ok-take.field-0 (g.C.Consumer.has_read c.take.new.self (s ++ b)) (g.C.Consumer.has_enough c.take.new.self (s ++ b))) c.block.ensures
    (c.in_ok-take.ensures.ok s reads)))) taken first had knew

pub returns-then-not-branch-clause-alone : goal.returns-then-not-branch-clause-alone
returns-then-not-branch-clause-alone g c = takes_then c.loop-consumer.invariant.alone c.fill.ensures.alone

pub returns-clause-alone : goal.returns-clause-alone
returns-clause-alone g c = takes_then c.loop-consumer.invariant.alone c.fill.ensures.alone

pub returns-in_err-fill-clause-alone : goal.returns-in_err-fill-clause-alone
returns-in_err-fill-clause-alone g c = takes_then c.loop-consumer.invariant.alone c.fill.ensures.alone

pub returns-in_err-take-clause-alone : goal.returns-in_err-take-clause-alone
returns-in_err-take-clause-alone g c = takes_then c.loop-consumer.invariant.alone c.fill.ensures.alone

pub returns-then-not-branch-clause-taken : goal.returns-then-not-branch-clause-taken
returns-then-not-branch-clause-taken g c =
    came_taken (came_more {then_ = λ (s : List ℕ). Unit {0}} (block_of c.fill.new.self) c.loop-consumer.invariant.came c.in_ok-fill.ensures.ok (λ s reads. tt))

pub returns-clause-taken : goal.returns-clause-taken
returns-clause-taken g c =
    came_taken (came_more {then_ = λ (s : List ℕ). Unit {0}} (block_of c.fill.new.self) c.loop-consumer.invariant.came c.in_ok-fill.ensures.ok (λ s reads. tt))

pub returns-in_err-take-clause-taken : goal.returns-in_err-take-clause-taken
returns-in_err-take-clause-taken g c =
    came_taken (came_more {then_ = λ (s : List ℕ). Unit {0}} (block_of c.fill.new.self) c.loop-consumer.invariant.came c.in_ok-fill.ensures.ok (λ s reads. tt))

pub returns-in_err-fill-clause-taken : goal.returns-in_err-fill-clause-taken
returns-in_err-fill-clause-taken g c = came_taken (came_still c.loop-consumer.invariant.came c.in_err-fill.ensures.err)

pub returns-clause-ok : goal.returns-clause-ok
returns-clause-ok g c =
    let none : c.in_ok-fill.field-0 ≡ 0 = let past = c.if-branch-gt0.false in omega arith in
    came_end c.in_ok-fill.field-0 c.loop-consumer.invariant.came c.in_ok-fill.ensures.ok none c.in_ok-fill.ensures.count (c.in_ok-fill.ensures.end none) c.in_ok-fill.ensures.below

pub returns-in_err-fill-clause-err : goal.returns-in_err-fill-clause-err
returns-in_err-fill-clause-err g c =
    let h = g.H.Disk in
    let was = h.beside c.args.host.now in
    let now = h.beside c.fill.new.host in
    let p = err_from_is_err_and c.from_residual.result c.from_residual.ensures.1 in
    rw (p.1, p.2)
    (stops_input g.C.Consumer.shows c.in_err-fill.field-0.0 was now (came_still c.loop-consumer.invariant.came c.in_err-fill.ensures.err) c.in_err-fill.ensures.stopped
    (λ e. rose_since was.in_faults (h.beside c.loop-consumer.host).in_faults now.in_faults c.loop-consumer.invariant.alone.areas.in_faults_later
    (c.in_err-fill.ensures.cause (ap (λ v. Err v) e)))
    (g.met.C.Consumer.shows_none c.loop-consumer.consumer))

pub returns-in_err-take-clause-err : goal.returns-in_err-take-clause-err
returns-in_err-take-clause-err g c =
    let h = g.H.Disk in
    let p = err_from_is_err_and c.from_residual-in_err-take.result c.from_residual-in_err-take.ensures.1 in
    rw (p.1, p.2)
    (stops_taking g.C.Consumer.shows c.in_err-take.field-0.0 (h.beside c.args.host.now) (h.beside c.fill.new.host)
    (came_more (block_of c.fill.new.self) c.loop-consumer.invariant.came c.in_ok-fill.ensures.ok
    (λ s reads. subst (λ (b : List ℕ). StopsAt g.C.Consumer.shows c.in_err-take.field-0.0 (s ++ b)) c.block.ensures (c.in_err-take.ensures.err s reads))))
