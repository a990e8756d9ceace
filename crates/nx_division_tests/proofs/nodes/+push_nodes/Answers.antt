use Rattle.std.proofs.Common.{◌≡◌, [], ◌∷◌, ◌++◌, length, vec_len, ap, ◌∙◌, arith}
use Rattle.nx_sketch.specs.Sketch.{placed_in}
use Rattle.nx_division.proofs.SpotLemmas.{below_flat, beside_flat}
use Rattle.nx_division.proofs.DrawnLemmas.{pop_path}
use Rattle.nx_division_tests.proofs.SketchLemmas.{no_nodes, more_nodes}
use Rattle.nx_division_tests.proofs.nodes.+push_nodes.Goals as goal

pub push_nodes-requires : goal.push_nodes-requires
push_nodes-requires t c =
    let flat = c.requires in
    let shorter = c.in-Some.ensures.shorter in
    (omega arith, below_flat c.in-Some.spot.now c.in-Some.below.now c.in-Some.beside.now flat.sketch (c.in-Some.ensures.cases flat.sketch flat.is) flat.small)

pub push_nodes-requires-2 : goal.push_nodes-requires-2
push_nodes-requires-2 t c =
    let flat = c.requires in
    let shorter = c.in-Some.ensures.shorter in
    (omega arith, beside_flat c.in-Some.spot.now c.in-Some.below.now c.in-Some.beside.now flat.sketch (c.in-Some.ensures.cases flat.sketch flat.is) flat.small)

pub returns-in_default-clause-found : goal.returns-in_default-clause-found
returns-in_default-clause-found t c = no_nodes c.args.spots.now c.args.path.now.items c.args.found.now.items c.in_default.ensures.cases

pub returns-clause-path : goal.returns-clause-path
returns-clause-path t c =
    let path = c.push_nodes.new.path in
    let len : vec_len path ≡ length path.items = omega (arith, path.ok.0) in
    let popped = pop_path c.args.path.now.items path.items c.pop.new.self.items c.in-Some.spot.now.position (vec_len path) (c.in_ok-push_nodes.ensures.path ∙ c.in_ok-push.ensures.items) c.pop.ensures.rest len in
    c.in_ok-push_nodes-2.ensures.path ∙ popped

pub returns-clause-found : goal.returns-clause-found
returns-clause-found t c = λ s is.
    let old = c.args.path.now.items in
    let pushed = c.in_ok-push.ensures.items in
    let whole = c.push_nodes.new.path in
    let len : vec_len whole ≡ length whole.items = omega (arith, whole.ok.0) in
    let popped = pop_path old whole.items c.pop.new.self.items c.in-Some.spot.now.position (vec_len whole) (c.in_ok-push_nodes.ensures.path ∙ pushed) c.pop.ensures.rest len in
    let path = c.in_ok-from_slice.ensures ∙ c.as_slice.ensures.value ∙ pushed in
    let here = c.in_ok-push-2.ensures.items ∙ (λ i. c.args.found.now.items ++ record { path = path i; weight = c.in-Some.spot.now.weight; entry = c.in-Some.spot.now.entry } ∷ []) in
    more_nodes c.in-Some.spot.now {below = c.in-Some.below.now} {beside = c.in-Some.beside.now} old c.args.found.now.items c.push_nodes.new.found.items c.push_nodes-2.new.found.items
    (λ b e. c.in_ok-push_nodes.ensures.found b e ∙ (λ i. here i ++ placed_in (pushed i) b))
    (λ u e. c.in_ok-push_nodes-2.ensures.found u e ∙ ap (λ q. c.push_nodes.new.found.items ++ placed_in q u) popped)
    s (c.in-Some.ensures.cases s is)
