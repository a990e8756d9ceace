use Rattle.std.proofs.Common.{rules, List, length, sym, ap, ◌∙◌, subst, true≢false, arith}
use Rattle.std.specs.Prelude.{◌&&◌}
use Rattle.std.specs.List.Sorted.{IsPermutation}
use Rattle.std.proofs.lemmas.List.Sorted.{IsNonDecreasingBy-from_sort_by_key, list_any-IsPermutation}
use Rattle.nx_names.specs.declared.noted.Noted.{Noted}
use Rattle.nx_names.specs.Serials.{AreNumbered, HaveSmallSlots, PlacesRise, has_noted, is_in, is_noted_at, noted_from, noted_key, serials_at}
use Rattle.nx_names.proofs.NotedLemmas.{noted_by, noted-length}
use Rattle.nx_names.proofs.SortLemmas.{small_noted, sorted_rise, sorted_small}
use Rattle.nx_names.proofs.HolderLemmas.{are_numbered}
use Rattle.nx_names.proofs.gatherer.Gatherer.finish.Goals as goal

pub returns-then-not-rise : goal.returns-then-not-rise
returns-then-not-rise c = λ g is once.
    let sorted = c.sort_by_key.new.self.items in
    let kept = c.in_ok-placed.ensures.items ∙ c.as_slice.ensures.value ∙ c.shrink_to_fit.ensures.items in
    let same = subst (λ (rs : List Noted). IsPermutation rs sorted) (kept ∙ is.noted) c.in_ok-sort_by_key.ensures.permutation in
    let up = IsNonDecreasingBy-from_sort_by_key noted_key sorted c.in_ok-sort_by_key.ensures.sorted (λ a r q k. search rules) in
    let rises = subst PlacesRise (sym c.as_slice-2.ensures.value) (sorted_rise g.places sorted is.small once same up) in
    true≢false (sym (c.rise.ensures.1 rises) ∙ c.if-not-rise.true)

pub invariant_of-result : goal.invariant_of-result
invariant_of-result c =
    let g = c.requires.0 in
    let is = c.requires.1 in
    let sorted = c.sort_by_key.new.self.items in
    let shrunk = c.shrink_to_fit.ensures.items in
    let kept = c.in_ok-placed.ensures.items ∙ c.as_slice.ensures.value ∙ shrunk in
    let all = shrunk ∙ is.noted in
    let same = subst (λ (rs : List Noted). IsPermutation rs sorted) (kept ∙ is.noted) c.in_ok-sort_by_key.ensures.permutation in
    record {
      numbered = subst (AreNumbered 0) (sym all) (are_numbered 0 g.places);
      low = subst HaveSmallSlots (sym all) (small_noted 0 g.places is.small);
      small = sorted_small g.places sorted is.small same;
      rise = subst PlacesRise c.as_slice-2.ensures.value (c.rise.ensures.0 c.if-not-rise.false);
      same = λ place test. sym (list_any-IsPermutation (λ (r : Noted). is_noted_at place r && test r.serial) (noted_from 0 g.places) sorted same) ∙ ap (λ (rs : List Noted). has_noted rs place test) (sym all);
      ascend = is.ascend;
      known = λ name serial among. let low = is.known name serial among in let n = noted-length 0 g.places in let e = ap length all in omega arith;
    }

pub returns : goal.returns
returns c = λ g is place name.
    let test = is_in (serials_at c.args.self.serials name) in
    let kept = c.in_ok-placed.ensures.items ∙ c.as_slice.ensures.value ∙ c.shrink_to_fit.ensures.items in
    sym (list_any-IsPermutation (λ (r : Noted). is_noted_at place r && test r.serial) c.in_ok-placed.placed.items c.sort_by_key.new.self.items c.in_ok-sort_by_key.ensures.permutation)
    ∙ ap (λ (rs : List Noted). has_noted rs place test) (kept ∙ is.noted) ∙ noted_by (noted_from 0 g.places) place test (g.heard name) (is.heard name)
