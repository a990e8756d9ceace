use Rattle.std.proofs.Common.{◌≡◌, ◌++◌, ◌∷◌, [], List, ℕ, rules, sym, ap, ◌∙◌, append_assoc}
use Rattle.std.specs.Prelude.{Option}
use Rattle.std.specs.Map.Iter.{deref_pair}
use Rattle.std.proofs.lemmas.Cmp.{nat_cmp_total}
use Rattle.std.proofs.lemmas.Map.Iter.{rest_more, btree_map_turn}
use Rattle.nx_wal.proofs.MovingLemmas.{moves_none, moved_none, moves_more, moved_push}
use Rattle.nx_wal.proofs.moving.move_pages.Goals as goal

pub loop-page-init : goal.loop-page-init
loop-page-init g c = record {
  passed = [];
  split = search rules;
  moves = moves_none c.args.disk.now;
  moved = moved_none c.args.disk.now;
}

pub returns-in_err-move_from-clause-moves : goal.returns-in_err-move_from-clause-moves
returns-in_err-move_from-clause-moves g c =
    let start : c.into_iter-page-iterator.result ≡ c.args.places.now.entries = search rules in
    let here = btree_map_turn deref_pair c.loop-page.yielded c.into_iter-page-iterator.result c.loop-page.page-iterator c.next.new.self c.next.result (c.in-Some.page, c.in-Some.place)
    c.loop-page.yielded_by c.in-Some.is c.next.ensures.steps nat_cmp_total c.args.places.now start c.iter-page-items.ensures.ordered in
    moves_more here.1 c.move_from.ensures.none c.move_from.ensures.writes
    c.loop-page.invariant.moves

pub loop-page-preserved : goal.loop-page-preserved
loop-page-preserved g c =
    let so_far = c.loop-page.invariant in
    let start : c.into_iter-page-iterator.result ≡ c.args.places.now.entries = search rules in
    let here = btree_map_turn deref_pair c.loop-page.yielded c.into_iter-page-iterator.result c.loop-page.page-iterator c.next.new.self c.next.result (c.in-Some.page, c.in-Some.place)
    c.loop-page.yielded_by c.in-Some.is c.next.ensures.steps nat_cmp_total c.args.places.now start c.iter-page-items.ensures.ordered in
    let more = rest_more deref_pair c.loop-page.page-iterator c.next.new.self c.next.result (c.in-Some.page, c.in-Some.place) c.in-Some.is c.next.ensures.steps in
    let item : ℕ × Option ℕ = (c.in-Some.page.now, c.in-Some.place.now) in
    record {
      passed = so_far.passed ++ item ∷ [];
      split = append_assoc so_far.passed (item ∷ []) c.next.new.self ∙ ap (λ (es : List (ℕ × Option ℕ)). so_far.passed ++ es) (sym more) ∙ so_far.split;
      moves = moves_more here.1 c.move_from.ensures.none c.move_from.ensures.writes
          so_far.moves;
      moved = moved_push here.1 c.move_from.ensures.none c.move_from.ensures.writes so_far.moved c.in_ok-move_from.ensures.moved;
    }
