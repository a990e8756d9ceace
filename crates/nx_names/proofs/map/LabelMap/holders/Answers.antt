use Rattle.std.proofs.Common.{rules, ◌≡◌, ◌<◌, ℕ, true, List, length, sym, ap, ◌∙◌, subst}
use Rattle.std.specs.Prelude.{◌&&◌}
use Rattle.std.proofs.lemmas.List.Sorted.{IsNonDecreasingBy-from_sort_by_key, list_any-IsPermutation}
use Rattle.nx_names.specs.declared.noted.Noted.{Noted}
use Rattle.nx_names.specs.Serials.{HaveSmallSlots, has_noted, is_in, is_noted_at, noted_key, serials_at}
use Rattle.nx_names.proofs.HolderLemmas.{those_stand, those_small, small_permuted}
use Rattle.nx_names.proofs.map.LabelMap.holders.Goals as goal

pub records_of-requires : goal.records_of-requires
records_of-requires c = λ serial among. c.args.self.now.known c.args.label.now serial (sym (ap (λ (xs : List ℕ). is_in xs serial) c.at.ensures) ∙ among)

pub invariant_of-result : goal.invariant_of-result
invariant_of-result c =
    let map = c.args.self.now in
    let known : (serial : ℕ) → is_in c.at.result.now serial ≡ true → serial < length map.noted.items = λ serial among. map.known c.args.label.now serial (sym (ap (λ (xs : List ℕ). is_in xs serial) c.at.ensures) ∙ among) in
    record {
      small = small_permuted c.in_ok-records.records.items c.sort_by_key.new.self.items (subst HaveSmallSlots (sym c.in_ok-records.ensures) (those_small map.noted.items c.at.result.now map.low known)) c.in_ok-sort_by_key.ensures.permutation;
      rise = IsNonDecreasingBy-from_sort_by_key noted_key c.sort_by_key.new.self.items c.in_ok-sort_by_key.ensures.sorted (λ a r q k. search rules);
    }

pub returns : goal.returns
returns c = λ place.
    let map = c.args.self.now in
    let serials = c.at.result.now in
    let known : (serial : ℕ) → is_in c.at.result.now serial ≡ true → serial < length map.noted.items = λ serial among. map.known c.args.label.now serial (sym (ap (λ (xs : List ℕ). is_in xs serial) c.at.ensures) ∙ among) in
    sym (list_any-IsPermutation (λ (r : Noted). is_noted_at place r && true) c.in_ok-records.records.items c.sort_by_key.new.self.items c.in_ok-sort_by_key.ensures.permutation)
    ∙ ap (λ (rs : List Noted). has_noted rs place (λ n. true)) c.in_ok-records.ensures ∙ those_stand map.noted.items serials place map.numbered known
    ∙ ap (λ (xs : List ℕ). has_noted map.noted.items place (is_in xs)) c.at.ensures ∙ sym (map.same place (is_in (serials_at map.serials c.args.label.now)))
