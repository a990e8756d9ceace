-- How positions among the children of a piece fall in a row.
use Rattle.std.proofs.Common.{◌≡◌, ℕ, zero, suc, ◌+◌, ◌-◌, ◌≤◌, List, ◌++◌, length, Some, refl, sym, ap, ◌∙◌, subst, arith, inl, inr, length-append}
use Rattle.std.specs.List.{slice_get}
use Rattle.nx_piece.specs.declared.piece.Proxy.{Proxy}
use Rattle.nx_piece.specs.Gapped.{proxies_in}
use Rattle.nx_piece.specs.Locate.{PieceChild, Own, Kept as Away, roots_from, children_of}
use Rattle.nx_piece.proofs.LocateLemmas.{roots_length}
use Rattle.nx_piece_edits.proofs.LeftLemmas.{not_less}
use Rattle.nx_cuts.specs.Cut.{Bare, Grown, Kept, width}
use Rattle.nx_cuts.proofs.FeasibleLemmas.{le_or}
use Rattle.nx_layouts.specs.Layout.{Layout, piece_body, proxies_of, proxy_of}
use Rattle.nx_layouts.specs.Replace.{kept_at}
use Rattle.nx_layouts.specs.Planting.{FallsBetween, FallsInto, IsInInterval, IsFallOf, FallIsThere}
use Rattle.nx_layouts.specs.Cutting.{LeadsInto}
use Rattle.nx_layouts.proofs.LayoutLemmas.{proxies_counted}
use Rattle.nx_layouts.proofs.PathLemmas.{StandBehind, beside_behind, behind_one, children_kept, child_here, child_later}

children_counted : (all : List Proxy) (first : ℕ) (row : Layout) → StandBehind all first row → length (children_of all first (piece_body row)) ≡ width row
children_counted all first Bare h = refl
children_counted all first (Grown n b s) h =
    let e = children_counted all (first + proxies_in (piece_body b)) s (beside_behind b s h.back h.front h.is h.long) in omega (arith, e)
children_counted all first (Kept p m s) h =
    let e = children_counted all (first + 1) s (behind_one (proxy_of p (width m)) s h.back h.front h.is h.long) in
    let c = ap (λ (xs : List PieceChild). length xs) (children_kept p m s h) in
    let l = length-append (roots_from first 0 (width m)) (children_of all (first + 1) (piece_body s)) in
    let r = roots_length first 0 (width m) in
    omega (arith, e, c, l, r)

falls_between : (all : List Proxy) (first position : ℕ) (row : Layout) → StandBehind all first row → position ≤ width row
    → ((index member : ℕ) → slice_get (children_of all first (piece_body row)) position ≡ Some (Away index member) → member ≡ 0) → FallsBetween position row
falls_between all first zero row h most none = tt
falls_between all first (suc position) Bare h most none = absurd (omega (arith, most))
falls_between all first (suc position) (Grown n b s) h most none =
    falls_between all (first + proxies_in (piece_body b)) position s (beside_behind b s h.back h.front h.is h.long) (omega (arith, most)) none
falls_between all first (suc position) (Kept p m s) h most none = elim (le_or (suc position) (width m)) [
  | inl less ↦ let e = none first (suc position) (child_here p m s (suc position) h less) in absurd (omega (arith, e))
  | inr behind ↦ (
    behind,
    falls_between all (first + 1) (suc position - width m) s (behind_one (proxy_of p (width m)) s h.back h.front h.is h.long) (omega (arith, most, behind))
        (λ index member e. none index member (child_later p m s (suc position) h behind ∙ e)),
  )
]

abbrev index_of : PieceChild → ℕ
index_of (Own tree first) = 0
index_of (Away index member) = index

abbrev member_of : PieceChild → ℕ
member_of (Own tree first) = 0
member_of (Away index member) = member

same_child : (a b : PieceChild) → Some a ≡ Some b → a ≡ b
same_child a b e = cc

-- the first child is the first member where it is one
first_member : (all : List Proxy) (first : ℕ) (row : Layout) (at member : ℕ) → StandBehind all first row → slice_get (children_of all first (piece_body row)) 0 ≡ Some (Away at member) → member ≡ 0
first_member all first Bare at member h e = absurd (cc)
first_member all first (Grown n b s) at member h e = absurd (cc)
first_member all first (Kept p m s) at member h e = elim (le_or 0 (width m)) [
  | inl less ↦ sym (ap member_of (same_child (Away first 0) (Away at member) (sym (child_here p m s 0 h less) ∙ e)))
  | inr none ↦
      let back : 0 - width m ≡ 0 = omega arith in
      first_member all (first + 1) s at member (behind_one (proxy_of p (width m)) s h.back h.front h.is h.long)
      (ap (λ (i : ℕ). slice_get (children_of all (first + 1) (piece_body s)) i) (sym back) ∙ sym (child_later p m s 0 h none) ∙ e)
]

falls_into : (all : List Proxy) (first position : ℕ) (row : Layout) (at member : ℕ) → StandBehind all first row → slice_get (children_of all first (piece_body row)) position ≡ Some (Away at member) → 1 ≤ member
    → IsInInterval first position row at member
falls_into all first zero row at member h e some = let none = first_member all first row at member h e in absurd (omega (arith, none, some))
falls_into all first (suc position) Bare at member h e some = absurd (cc)
falls_into all first (suc position) (Grown n b s) at member h e some =
    let r = falls_into all (first + proxies_in (piece_body b)) position s at member (beside_behind b s h.back h.front h.is h.long) e some in
    let c = proxies_counted b in
    let i = r.at_is in
    let index : ℕ = length (proxies_of b) + r.index in
    let most : length (proxies_of b) ≤ index = omega arith in
    let back : r.index ≡ index - length (proxies_of b) = omega arith in
    record {
      index = index;
      at_is = omega (arith, c, i);
      inside = r.inside;
      falls = (most, subst (λ (j : ℕ). FallsInto j member r.inside position s) back r.falls);
      leads = λ path. (most, subst (λ (j : ℕ). LeadsInto j member path r.inside position path s) back (r.leads path));
      kept = not_less index (length (proxies_of b)) (kept_at index b) (kept_at (index - length (proxies_of b)) s) most ∙ ap (λ (j : ℕ). kept_at j s) (sym back) ∙ r.kept;
    }
falls_into all first (suc position) (Kept p m s) at member h e some = elim (le_or (suc position) (width m)) [
  | inl less ↦
      let is : Away first (suc position) ≡ Away at member = same_child (Away first (suc position)) (Away at member) (sym (child_here p m s (suc position) h less) ∙ e) in
      let i : first ≡ at = ap index_of is in
      let j : suc position ≡ member = ap member_of is in
      record {
        index = zero;
        at_is = omega (arith, i);
        inside = m;
        falls = (less, sym j, refl);
        leads = λ path. (less, sym j, refl, refl);
        kept = refl;
      }
  | inr behind ↦
      let r = falls_into all (first + 1) (suc position - width m) s at member (behind_one (proxy_of p (width m)) s h.back h.front h.is h.long) (sym (child_later p m s (suc position) h behind) ∙ e) some in
      let i = r.at_is in
      record {
        index = suc r.index;
        at_is = omega (arith, i);
        inside = r.inside;
        falls = (behind, r.falls);
        leads = λ path. (behind, r.leads path);
        kept = r.kept;
      }
]

pub row_falls : (all : List Proxy) (first position : ℕ) (row : Layout) → StandBehind all first row → IsFallOf first position row (children_of all first (piece_body row))
row_falls all first position row h =
    let long = children_counted all first row h in
    record {
      long = long;
      between = λ most none. falls_between all first position row h (omega (arith, long, most)) none;
      into = λ at member e some. falls_into all first position row at member h e some;
    }

pub fall_is_there : FallIsThere
fall_is_there position row front more =
    row_falls (front ++ (proxies_of row ++ more)) (length front) position row (record { front = front; back = more; is = refl; long = refl })
