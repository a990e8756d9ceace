use Rattle.std.proofs.Common.{◌≡◌, ℕ, List, OnOk, length, subst, rules}
use Rattle.std.specs.Prelude.{codes}
use Rattle.std.proofs.lemmas.List.{length_push}
use Rattle.std.proofs.lemmas.Slice.Zip.{zip_turn, zip_end}
use Rattle.nx_script.proofs.ReplyLemmas.{parts_more, parts_ended}
use Rattle.nx_script.proofs.write.push_parts.Goals as goal

pub loop-interval-preserved : goal.loop-interval-preserved
loop-interval-preserved c =
    let parts = c.args.parts.now in
    let weights = c.args.weights.now in
    let interval = c.in-Some.interval.now in
    let weight = c.in-Some.weight.now in
    let t = zip_turn parts weights c.loop-interval.yielded c.into_iter-interval-iterator.result c.loop-interval.interval-iterator
    c.next.new.self c.next.result (search rules) (search rules)
    c.loop-interval.yielded_by _ c.in-Some.is c.next.ensures.steps in
    rw length_push (
    parts_more parts weights c.args.block.now c.loop-interval.block c.push_part.new.block (length c.loop-interval.yielded) interval weight
    (t.0, t.2 interval) (t.1, t.3 weight) c.loop-interval.invariant c.in_ok-push_part.ensures.ok
    )

pub returns-clause-ok : goal.returns-clause-ok
returns-clause-ok c =
    let parts = c.args.parts.now in
    let weights = c.args.weights.now in
    let all = zip_end parts weights c.loop-interval.yielded c.into_iter-interval-iterator.result c.loop-interval.interval-iterator
    c.next.new.self c.next.result (search rules) (search rules)
    c.loop-interval.yielded_by c.in-None.is c.next.ensures.steps in
    subst (λ (text : List ℕ). OnOk c.extend_from_slice.result (c.extend_from_slice.new.self ≡ text))
    (parts_ended parts weights c.args.block.now c.loop-interval.block (codes ".\n") (length c.loop-interval.yielded) all c.loop-interval.invariant) c.extend_from_slice.ensures.ok
