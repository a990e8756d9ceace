use Rattle.std.proofs.Common.{◌≡◌, ◌≤◌, ◌<◌, ℕ, List, [], length, get_or, sym, ap, ◌∙◌, subst, arith}
use Rattle.std.specs.List.{between}
use Rattle.std.proofs.lemmas.List.{get_or_default}
use Rattle.nx_reach.specs.Parts.{AreEnds, begin_of, parts_from}
use Rattle.nx_reach.proofs.PartLemmas.{parts-length, part_at, part_within}
use Rattle.nx_reach.proofs.paths.Paths.path.Goals as goal

pub begin_of-begin-requires : goal.begin_of-begin-requires
begin_of-begin-requires c =
    let ends = c.self.inside.ends.items in
    let few : length ends ≡ length c.args.self.now = sym (parts-length 0 ends c.self.inside.positions.items) ∙ ap length c.self.view_is in
    let same = ap length c.as_slice.ensures.value in omega (arith, c.requires)

pub index-requires : goal.index-requires
index-requires c =
    let ends = c.self.inside.ends.items in
    let few : length ends ≡ length c.args.self.now = sym (parts-length 0 ends c.self.inside.positions.items) ∙ ap length c.self.view_is in
    let len = c.self.inside.ends.ok.0 in omega (arith, c.requires)

-- where the path begins and ends among the positions, and that it stands there
record IsPart (begin end : ℕ) (xs : List ℕ) (path : List ℕ) : Type 0 where
  pub low : begin ≤ end
  pub high : end ≤ length xs
  pub is : between begin end xs ≡ path

is_part : (begin end d : ℕ) (given ends xs : List ℕ) (paths : List (List ℕ)) (index : ℕ) → parts_from 0 ends xs ≡ paths → begin ≡ begin_of 0 given index → given ≡ ends → end ≡ get_or ends index d
    → index < length paths → AreEnds 0 ends (length xs) → IsPart begin end xs (get_or paths index [])
is_part begin end d given ends xs paths index view begins same closes low are =
    let few : length ends ≡ length paths = sym (parts-length 0 ends xs) ∙ ap length view in
    let inside : index < length ends = omega (arith, low) in
    let parts = part_within 0 ends (length xs) index are inside in
    let from : begin ≡ begin_of 0 ends index = begins ∙ ap (λ (es : List ℕ). begin_of 0 es index) same in
    let to : end ≡ get_or ends index 0 = closes ∙ get_or_default ends index d 0 inside in
    record {
      low = omega (arith, parts.0);
      high = omega (arith, parts.1);
      is = ap (λ (n : ℕ). between n end xs) from ∙ ap (λ (n : ℕ). between (begin_of 0 ends index) n xs) to ∙ sym (part_at 0 ends xs index inside) ∙ ap (λ (ps : List (List ℕ)). get_or ps index []) view;
    }

pub slice_bounds-result-count : goal.slice_bounds-result-count
slice_bounds-result-count c =
    let inside = c.self.inside in
    (is_part _ _ c.index.result.now c.as_slice.result.now inside.ends.items inside.positions.items c.args.self.now c.args.index c.self.view_is c.begin_of-begin.ensures c.as_slice.ensures.value c.index.ensures c.requires c.self.invariant).low

pub slice_bounds-result-start : goal.slice_bounds-result-start
slice_bounds-result-start c =
    let inside = c.self.inside in
    let part = is_part _ _ c.index.result.now c.as_slice.result.now inside.ends.items inside.positions.items c.args.self.now c.args.index c.self.view_is c.begin_of-begin.ensures c.as_slice.ensures.value c.index.ensures c.requires c.self.invariant in
    part.low

pub slice_bounds-result-end : goal.slice_bounds-result-end
slice_bounds-result-end c =
    let inside = c.self.inside in
    let part = is_part _ _ c.index.result.now c.as_slice.result.now inside.ends.items inside.positions.items c.args.self.now c.args.index c.self.view_is c.begin_of-begin.ensures c.as_slice.ensures.value c.index.ensures c.requires c.self.invariant in
    subst (λ (xs : List ℕ). c.index.result.now ≤ length xs) (sym c.deref.ensures.value) part.high

pub offset_bounds-deref-begin : goal.offset_bounds-deref-begin
offset_bounds-deref-begin c =
    let inside = c.self.inside in
    let part = is_part _ _ c.index.result.now c.as_slice.result.now inside.ends.items inside.positions.items c.args.self.now c.args.index c.self.view_is c.begin_of-begin.ensures c.as_slice.ensures.value c.index.ensures c.requires c.self.invariant in
    omega (arith, part.low, part.high, inside.positions.ok, c.deref.type_inv, c.deref.ensures.len)

pub returns : goal.returns
returns c =
    let inside = c.self.inside in
    let part = is_part _ _ c.index.result.now c.as_slice.result.now inside.ends.items inside.positions.items c.args.self.now c.args.index c.self.view_is c.begin_of-begin.ensures c.as_slice.ensures.value c.index.ensures c.requires c.self.invariant in
    ap (between c.begin_of-begin.result c.index.result.now) c.deref.ensures.value ∙ part.is
