use Rattle.std.proofs.Common.{◌≡◌, ℕ, ◌≤◌, ◌<◌, List, length, get_or, sym, ap, subst, arith, rules}
use Rattle.std.proofs.lemmas.List.Elements.{All-get_or}
use Rattle.nx_pyx.specs.Field.{greatest_position}
use Rattle.std.proofs.lemmas.List.{length_push}
use Rattle.std.proofs.lemmas.Slice.Zip.{zip_turn}
use Rattle.nx_parts.specs.declared.bounds.Bound.{Bound}
use Rattle.nx_bounds.proofs.Pushed.{part_written, bound_written, all_written, written_reads}
use Rattle.nx_bounds.proofs.text.write.write_plan.Goals as goal

pub loop-interval-preserved : goal.loop-interval-preserved
loop-interval-preserved c =
    let plan = c.args.plan.now in
    let t = zip_turn plan.parts plan.weights c.loop-interval.yielded c.into_iter-interval-iterator.result c.loop-interval.interval-iterator
    c.next.new.self c.next.result (search rules) (search rules)
    c.loop-interval.yielded_by _ c.in-Some.is c.next.ensures.steps in
    rw length_push (
    part_written plan (length c.loop-interval.yielded) c.loop-interval.text c.push_part.new.text c.in-Some.interval.now c.in-Some.interval.now c.in-Some.weight.now
    c.loop-interval.invariant t.0 t.1 (t.2 c.in-Some.interval.now) (t.3 0) c.in_ok-push_part.ensures.text
    (c.in_ok-push_part.ensures.fits (subst (λ (w : ℕ). w ≤ greatest_position) (sym (t.3 0)) (All-get_or (λ (w : ℕ). w ≤ greatest_position) plan.weights (length c.loop-interval.yielded) 0 t.1 c.requires.light)))
    )

pub loop-node-preserved : goal.loop-node-preserved
loop-node-preserved c =
    let plan = c.args.plan.now in
    let none : Bound = record { least = 0; lean = 0; nearly = 0 } in
    let bounds : c.as_slice-bound-items.result.now ≡ plan.bounds = c.as_slice-bound-items.ensures in
    let inside : c.loop-node.node < length plan.bounds = subst (λ (bs : List Bound). c.loop-node.node < length bs) bounds c.loop-node-test.true in
    bound_written plan c.loop-node.node c.loop-node.text c.push_claim.new.text (get_or c.as_slice-bound-items.result.now c.loop-node.node none) none
    c.loop-node.invariant inside (ap (λ (bs : List Bound). get_or bs c.loop-node.node none) bounds) c.in_ok-push_claim.ensures.text
    (c.in_ok-push_claim.ensures.fits (let few = c.requires.few in omega (arith, few, inside)))

pub returns-clause-reads : goal.returns-clause-reads
returns-clause-reads c =
    let plan = c.args.plan.now in
    let all : length plan.bounds ≤ c.loop-node.node = (let e = c.loop-node-test.false in let f = ap length c.as_slice-bound-items.ensures in omega (arith, e, f)) in
    written_reads plan c.loop-node.text c.requires (all_written plan c.loop-node.node c.loop-node.text c.loop-node.invariant all)
