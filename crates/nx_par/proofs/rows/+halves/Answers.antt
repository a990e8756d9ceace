use Rattle.std.proofs.Crossing.{crosses}
use denote.Param.Send.{sendable}
use Rattle.std.proofs.Common.{◌≡◌, List, ◌++◌, length, vec_len, sym, ap, ◌∙◌, subst, arith}
use Rattle.rayon.proofs.ListFacts.{IfOk-then}
use Rattle.nx_parts.specs.declared.bounds.Bound.{Bound}
use Rattle.nx_par.specs.Adding.{CanBound}
use Rattle.nx_par.proofs.AddLemmas.{can_bound_children, two_to_bound, fewer_front, fewer_back, extends_joined, rows_joined, grown_at_once, place_there, minima_behind, settled}
use Rattle.std.proofs.lemmas.Result.{err_from_is_err_and}
use Rattle.nx_partition.specs.Bounding.{AreBoundsRefused}
use Rattle.nx_partition.proofs.LightLemmas.{front_refused, back_refused, back_refused_by, refusal_passed}
use Rattle.nx_tree.specs.Forest.{OrderedTree, forest_of}
use Rattle.nx_par.proofs.rows.+halves.Goals as goal

abbrev none : Bound
none = record { least = 0; lean = 0; nearly = 0 }

pub bound_one-bound_rows-requires-after_bounds : goal.bound_one-bound_rows-requires-after_bounds
bound_one-bound_rows-requires-after_bounds g t c κs within =
    let forest = c.as_slice.ensures.forest ∙ ap (λ (x : OrderedTree). x.below) c.tree.view_is in
    can_bound_children c.args.k c.args.share c.args.tree.now c.as_slice.result.now forest c.requires.some c.requires.bound c.requires.workers c.requires.counted c.requires.numbers c.requires.limits

pub bound_one-settle-requires-clause-place : goal.bound_one-settle-requires-clause-place
bound_one-settle-requires-clause-place g t c =
    let forest = c.as_slice.ensures.forest ∙ ap (λ (x : OrderedTree). x.below) c.tree.view_is in
    let len : vec_len c.args.list ≡ length c.args.list.items = omega (arith, c.args.list.ok.0) in
    let grown = grown_at_once forest c.in_ok-push.ensures.items c.in_ok-list.ensures.ok in
    place_there c.args.list.items none c.len-place.result grown (c.len-place.ensures ∙ len)

pub bound_one-settle-requires-clause-minima : goal.bound_one-settle-requires-clause-minima
bound_one-settle-requires-clause-minima g t c =
    let forest = c.as_slice.ensures.forest ∙ ap (λ (x : OrderedTree). x.below) c.tree.view_is in
    let len : vec_len c.args.list ≡ length c.args.list.items = omega (arith, c.args.list.ok.0) in
    let grown = grown_at_once forest c.in_ok-push.ensures.items c.in_ok-list.ensures.ok in
    minima_behind c.args.list.items none c.len-place.result grown (c.len-place.ensures ∙ len)

pub bound_one-returns-clause-ok : goal.bound_one-returns-clause-ok
bound_one-returns-clause-ok g t c =
    let forest = c.as_slice.ensures.forest ∙ ap (λ (x : OrderedTree). x.below) c.tree.view_is in
    let len : vec_len c.args.list ≡ length c.args.list.items = omega (arith, c.args.list.ok.0) in
    let grown = grown_at_once forest c.in_ok-push.ensures.items c.in_ok-list.ensures.ok in
    settled c.args.list.items none c.len-place.result grown (c.len-place.ensures ∙ len) c.in_ok-settle.ensures

pub bound_rows-bound_at_once-requires-after_bounds : goal.bound_rows-bound_at_once-requires-after_bounds
bound_rows-bound_at_once-requires-after_bounds g t c κs within = two_to_bound c.requires c.two_rows-two.ensures

pub bound_rows-bound_in_turn-requires-after_bounds : goal.bound_rows-bound_in_turn-requires-after_bounds
bound_rows-bound_in_turn-requires-after_bounds g t c κs within = two_to_bound c.requires c.two_rows-two.ensures

pub bound_in_turn-bound_rows-requires : goal.bound_in_turn-bound_rows-requires
bound_in_turn-bound_rows-requires g t c κs within =
    let can = subst (CanBound c.args.k c.args.two.front) (sym c.split_at.ensures.front) c.requires.front in
    let fewer = fewer_front c.args.trees.now c.split_at.result.0.now c.args.two.at c.split_at.ensures.front c.requires.more in
    (omega (arith, fewer), (within.0, (within.1, (search (sendable, crosses) depth 40, (search (sendable, crosses) depth 40, can)))))

pub bound_in_turn-bound_rows-requires-2 : goal.bound_in_turn-bound_rows-requires-2
bound_in_turn-bound_rows-requires-2 g t c κs within =
    let can = subst (CanBound c.args.k c.args.two.back) (sym c.split_at.ensures.back) c.requires.back in
    let fewer = fewer_back c.args.trees.now c.split_at.result.1.now c.args.two.at c.split_at.ensures.back c.requires.some c.requires.more in
    (omega (arith, fewer), (within.0, (within.1, (search (sendable, crosses) depth 40, (search (sendable, crosses) depth 40, can)))))

pub bound_in_turn-returns-clause-ok : goal.bound_in_turn-returns-clause-ok
bound_in_turn-returns-clause-ok g t c =
    IfOk-then c.bound_rows-2.result _ _ c.bound_rows-2.ensures.ok (λ new e. extends_joined c.args.trees.now c.args.two.at c.split_at.ensures.front c.split_at.ensures.back c.in_ok-list.ensures.ok e)

pub bound_at_once-join-high-requires-after_bounds : goal.bound_at_once-join-high-requires-after_bounds
bound_at_once-join-high-requires-after_bounds g t c κs within =
    let front = subst (CanBound c.args.k c.args.two.front) (sym c.split_at.ensures.front) c.requires.front in
    let fewer = fewer_front c.args.trees.now c.split_at.result.0.now c.args.two.at c.split_at.ensures.front c.requires.more in
    let back = subst (CanBound c.args.k c.args.two.back) (sym c.split_at.ensures.back) c.requires.back in
    let less = fewer_back c.args.trees.now c.split_at.result.1.now c.args.two.at c.split_at.ensures.back c.requires.some c.requires.more in (
      (omega (arith, less), (λ a m. m, (λ a m. m, ((search (sendable, crosses) depth 40, search (sendable, crosses) depth 40, back, c.in_ok-more.ensures.items), (search (sendable, crosses) depth 40, search (sendable, crosses) depth 40))))),
      (omega (arith, fewer), (λ a m. m, (λ a m. m, ((search (sendable, crosses) depth 40, search (sendable, crosses) depth 40, front), (search (sendable, crosses) depth 40, search (sendable, crosses) depth 40))))),
    )

pub bound_at_once-returns-clause-ok : goal.bound_at_once-returns-clause-ok
bound_at_once-returns-clause-ok g t c =
    let front = rw c.in_ok-list.was at c.join-high.ensures.second.0 in
    let back = rw c.in_ok-high.was at c.join-high.ensures.first.0 in
    rows_joined c.args.trees.now c.args.two.at c.in_ok-high.field-0.items c.split_at.ensures.front c.split_at.ensures.back front back
    (c.in_ok-extend_from_slice.ensures.items ∙ ap (λ (l : List Bound). c.in_ok-list.list.items ++ l) c.as_slice.ensures.value)

pub bound_in_turn-returns-clause-refused : goal.bound_in_turn-returns-clause-refused
bound_in_turn-returns-clause-refused g t c =
    back_refused_by c.args.k c.args.two.at c.args.trees.now c.split_at.result.1.now c.bound_rows-2.result c.split_at.ensures.back c.bound_rows-2.ensures.refused

pub bound_in_turn-returns-in_err-list-clause-refused : goal.bound_in_turn-returns-in_err-list-clause-refused
bound_in_turn-returns-in_err-list-clause-refused g t c =
    let passed = err_from_is_err_and c.from_residual.result c.from_residual.ensures.1 in
    let row = subst (λ (row : List OrderedTree). AreBoundsRefused c.args.k (forest_of row) c.in_err-list.field-0.0) c.split_at.ensures.front c.in_err-list.ensures.refused in
    refusal_passed (AreBoundsRefused c.args.k (forest_of c.args.trees.now)) c.from_residual.result c.in_err-list.field-0.0 passed
    (front_refused c.args.k c.args.two.at c.args.trees.now c.in_err-list.field-0.0 row)

pub bound_at_once-returns-in_err-list-clause-refused : goal.bound_at_once-returns-in_err-list-clause-refused
bound_at_once-returns-in_err-list-clause-refused g t c =
    let passed = err_from_is_err_and c.from_residual-in_err-list.result c.from_residual-in_err-list.ensures.1 in
    let refused = rw c.in_err-list.was at c.join-high.ensures.second.1 in
    let row = subst (λ (row : List OrderedTree). AreBoundsRefused c.args.k (forest_of row) c.in_err-list.field-0.0) c.split_at.ensures.front refused in
    refusal_passed (AreBoundsRefused c.args.k (forest_of c.args.trees.now)) c.from_residual-in_err-list.result c.in_err-list.field-0.0 passed
    (front_refused c.args.k c.args.two.at c.args.trees.now c.in_err-list.field-0.0 row)

pub bound_at_once-returns-in_err-high-clause-refused : goal.bound_at_once-returns-in_err-high-clause-refused
bound_at_once-returns-in_err-high-clause-refused g t c =
    let passed = err_from_is_err_and c.from_residual-in_err-high.result c.from_residual-in_err-high.ensures.1 in
    let refused = rw c.in_err-high.was at c.join-high.ensures.first.1 in
    let row = subst (λ (row : List OrderedTree). AreBoundsRefused c.args.k (forest_of row) c.in_err-high.field-0.0) c.split_at.ensures.back refused in
    refusal_passed (AreBoundsRefused c.args.k (forest_of c.args.trees.now)) c.from_residual-in_err-high.result c.in_err-high.field-0.0 passed
    (back_refused c.args.k c.args.two.at c.args.trees.now c.in_err-high.field-0.0 row)
