use Rattle.std.proofs.Common.{◌≡◌, ◌+◌, ◌≤◌, ◌++◌, ◌∷◌, [], List, ℕ, Some, rules, arith, sym, ap, subst, refl, ◌∙◌, append_assoc, inl, inr}
use Rattle.std.specs.Prelude.{Option, min}
use Rattle.std.specs.Map.Iter.{deref_pair}
use Rattle.std.specs.Map.{lookup}
use Rattle.std.specs.BTreeMap.{is_at}
use Rattle.std.specs.Ordering.{nat_cmp}
use Rattle.std.proofs.lemmas.Cmp.{nat_cmp_total}
use Rattle.std.proofs.lemmas.Map.Iter.{rest_more, btree_map_turn}
use Rattle.nx_wal.proofs.ListLemmas.{all_push, all_weaker, all_at, all_gone}
use Rattle.nx_wal.proofs.places.logged_count.Goals as goal

pub loop-page-init : goal.loop-page-init
loop-page-init c = record {
  gone = [];
  split = search rules;
  above = tt;
  last = λ some. absurd (omega (arith, some));
}

pub loop-page-preserved : goal.loop-page-preserved
loop-page-preserved c =
    let so_far = c.loop-page.invariant in
    let start : c.into_iter-page-iterator.result ≡ c.args.places.now.entries = search rules in
    let here = btree_map_turn deref_pair c.loop-page.yielded c.into_iter-page-iterator.result c.loop-page.page-iterator c.next.new.self c.next.result (c.in-Some.page, c.in-Some.place)
    c.loop-page.yielded_by c.in-Some.is c.next.ensures.steps nat_cmp_total c.args.places.now start c.iter-page-items.ensures.ordered in
    let more = rest_more deref_pair c.loop-page.page-iterator c.next.new.self c.next.result (c.in-Some.page, c.in-Some.place) c.in-Some.is c.next.ensures.steps in
    let item : ℕ × Option ℕ = (c.in-Some.page.now, c.in-Some.place.now) in
    let count = c.count_with-count.result in
    let counts = λ (n : ℕ) (e : ℕ × Option ℕ). (at : ℕ) → e.1 ≡ Some at → min (e.0 + 1) 4294967295 ≤ n in
    record {
      gone = so_far.gone ++ item ∷ [];
      split = append_assoc so_far.gone (item ∷ []) c.next.new.self ∙ ap (λ (es : List (ℕ × Option ℕ)). so_far.gone ++ es) (sym more) ∙ so_far.split;
      above = all_push (counts count) so_far.gone item
          (all_weaker (counts c.loop-page.count) (counts count) so_far.gone (λ e low at is. let was = low at is in omega (arith, was, c.count_with-count.ensures.least)) so_far.above)
          c.count_with-count.ensures.some;
      last = λ some. elim c.count_with-count.ensures.last [
        | inl same ↦ let was = so_far.last (omega (arith, some, same)) in (was.0, was.1, was.2, same ∙ was.3)
        | inr this ↦ (item.0, (this.1).0, here.1 ∙ ap (λ (o : Option ℕ). Some o) (this.1).1, this.0)
      ];
    }

pub returns-clause-above : goal.returns-clause-above
returns-clause-above c p at is =
    let so_far = c.loop-page.invariant in
    let all = all_gone so_far.gone c.loop-page.page-iterator c.args.places.now.entries (c.in-None.ensures.steps).0 so_far.split in
    let counts = λ (e : ℕ × Option ℕ). (at : ℕ) → e.1 ≡ Some at → min (e.0 + 1) 4294967295 ≤ c.loop-page.count in
    all_at counts so_far.gone p (Some at) so_far.above (subst (λ (es : List (ℕ × Option ℕ)). lookup (is_at (nat_cmp p)) es ≡ Some (Some at)) (sym all) is) at refl
