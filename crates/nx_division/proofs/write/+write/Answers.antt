use Rattle.std.proofs.Common.{◌≡◌, ◌+◌, ◌≤◌, ◌++◌, length, get_or, vec_len, ap, ◌∙◌, arith}
use Rattle.nx_division.specs.declared.cut.Cut.TheVariants.{Stays}
use Rattle.nx_division.specs.Drawn.{drawn, drawn_intervals, run_of}
use Rattle.nx_division.proofs.SpotLemmas.{below_flat, beside_flat, mid_len, rest_len}
use Rattle.nx_division.proofs.DrawnLemmas.{cut_apart, cuts_below, cuts_beside, write_none, write_parts, pop_path}
use Rattle.nx_division.proofs.write.+write.Goals as goal

pub push_run-requires : goal.push_run-requires
push_run-requires t c =
    let flat = c.requires.flat in
    let shorter = c.in-Some.ensures.shorter in
    record {
      flat = beside_flat c.in-Some.spot.now c.in-Some.below.now c.in-Some.beside.now flat.sketch (c.in-Some.ensures.cases flat.sketch flat.is) flat.small;
      len = rest_len c.args.cuts.now (length c.in-Some.below.now) (length c.in-Some.beside.now) (c.requires.len ∙ shorter);
    }

pub write-requires : goal.write-requires
write-requires t c =
    let flat = c.requires.flat in
    let shorter = c.in-Some.ensures.shorter in
    (omega arith, (below_flat c.in-Some.spot.now c.in-Some.below.now c.in-Some.beside.now flat.sketch (c.in-Some.ensures.cases flat.sketch flat.is) flat.small, mid_len c.args.cuts.now (length c.in-Some.below.now) (length c.in-Some.beside.now) (c.requires.len ∙ shorter)))

pub write-requires-2 : goal.write-requires-2
write-requires-2 t c =
    let flat = c.requires.flat in
    let shorter = c.in-Some.ensures.shorter in
    (omega arith, (beside_flat c.in-Some.spot.now c.in-Some.below.now c.in-Some.beside.now flat.sketch (c.in-Some.ensures.cases flat.sketch flat.is) flat.small, rest_len c.args.cuts.now (length c.in-Some.below.now) (length c.in-Some.beside.now) (c.requires.len ∙ shorter)))

pub returns-in_default-clause-found : goal.returns-in_default-clause-found
returns-in_default-clause-found t c = write_none c.args.spots.now c.args.cuts.now c.args.path.now.items c.args.found.now c.in_default.ensures.cases

pub returns-clause-path : goal.returns-clause-path
returns-clause-path t c =
    let path = c.write.new.path in
    let len : vec_len path ≡ length path.items = omega (arith, path.ok.0) in
    let popped = pop_path c.args.path.now.items path.items c.pop.new.self.items c.in-Some.spot.now.position (vec_len path) (c.in_ok-write.ensures.path ∙ c.in_ok-push.ensures.items) c.pop.ensures.rest len in
    c.in_ok-write-2.ensures.path ∙ popped

pub returns-clause-found : goal.returns-clause-found
returns-clause-found t c = λ s is.
    let shorter = c.in-Some.ensures.shorter in
    let len = c.requires.len in
    let within : 1 + length c.in-Some.below.now ≤ length c.args.cuts.now = omega arith in
    let apart = cut_apart c.args.cuts.now Stays c.in-Some.below.now within in
    let old = c.args.path.now.items in
    let pushed = c.in_ok-push.ensures.items in
    let whole = c.write.new.path in
    let whole_len : vec_len whole ≡ length whole.items = omega (arith, whole.ok.0) in
    let popped = pop_path old whole.items c.pop.new.self.items c.in-Some.spot.now.position (vec_len whole) (c.in_ok-write.ensures.path ∙ pushed) c.pop.ensures.rest whole_len in
    write_parts c.in-Some.spot.now c.in-Some.below.now c.in-Some.beside.now c.args.cuts.now (get_or c.args.cuts.now 0 Stays) (cuts_below c.args.cuts.now c.in-Some.below.now) (cuts_beside c.args.cuts.now c.in-Some.below.now) apart
    old c.args.found.now c.push_run.new.found c.write.new.found c.write-2.new.found
    (λ u e. c.in_ok-push_run.ensures u e ∙ ap (λ q. c.args.found.now ++ run_of q c.in-Some.spot.now.position (get_or c.args.cuts.now 0 Stays) (drawn u (cuts_beside c.args.cuts.now c.in-Some.below.now))) c.deref.ensures.value)
    (λ u e. c.in_ok-write.ensures.found u e ∙ ap (λ q. c.push_run.new.found ++ drawn_intervals q (drawn u (cuts_below c.args.cuts.now c.in-Some.below.now))) pushed)
    (λ u e. c.in_ok-write-2.ensures.found u e ∙ ap (λ q. c.write.new.found ++ drawn_intervals q (drawn u (cuts_beside c.args.cuts.now c.in-Some.below.now))) popped)
    s (c.in-Some.ensures.cases s is)
