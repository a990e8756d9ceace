-- Rows in which an interval is replaced.
use Rattle.std.proofs.Common.{ℕ, zero, suc, ◌-◌, ◌≤◌, nat_lt, if◌then◌else◌, true, false, List, ◌++◌, length, ◌≡◌, refl, sym, ap, ◌∙◌, subst, arith}
use Rattle.std.specs.Option.{option_to_list}
use Rattle.nx_cuts.specs.Cut.{Bare, Grown, Kept}
use Rattle.nx_piece.specs.declared.piece.Far.{Far}
use Rattle.nx_piece.specs.Gapped.{Gapped, End, Grow, Gap}
use Rattle.nx_piece.specs.Contents.{fars_in}
use Rattle.nx_layouts.specs.Layout.{Layout, in_record, AreLaidParts, gap_more, piece_body, proxies_of}
use Rattle.nx_layouts.specs.Replace.{replaced_at}
use Rattle.nx_layouts.specs.Cutting.{RowIsFilled, IntervalIsLight}
use Rattle.nx_layouts.proofs.DrawnLemmas.{drawn_wide, drawn_free, free_drawn}
use Rattle.nx_layouts.proofs.ReplaceLemmas.{held_filled, held_hole, light_joined, light_filled, free_filled, wide_filled, heavy_filled, weight_filled}

-- what is light without the interval and of what comes is so together
pub parts_filled : (k index : ℕ) (left row : Layout) → AreLaidParts k (replaced_at index Bare row) → AreLaidParts k left → AreLaidParts k (replaced_at index left row)
parts_filled k index left Bare h e = h
parts_filled k index left (Grown n b s) h e =
    (elim (nat_lt index (length (proxies_of b))) as (λ t. AreLaidParts k (if t then Grown n (replaced_at index Bare b) s else Grown n b (replaced_at (index - length (proxies_of b)) Bare s)) → AreLaidParts k (if t then Grown n (replaced_at index left b) s else Grown n b (replaced_at (index - length (proxies_of b)) left s))) [
      | true ↦ λ g. (parts_filled k index left b g.0 e, g.1)
      | false ↦ λ g. (g.0, parts_filled k (index - length (proxies_of b)) left s g.1 e)
    ]) h
parts_filled k zero left (Kept p m s) h e = light_joined k left s e h
parts_filled k (suc index) left (Kept p m s) h e = (h.0, h.1, h.2, h.3, parts_filled k index left s h.4 e)

-- one proxy more is no content
pub fars-gap_more : (g : Gapped) → fars_in (gap_more g) ≡ fars_in g
fars-gap_more End = refl
fars-gap_more (Grow node below beside) = refl
fars-gap_more (Gap count beside) = refl

own_filled : (index : ℕ) (row : Layout) → fars_in (piece_body (replaced_at index Bare row)) ≡ fars_in (piece_body row)
own_filled index Bare = refl
own_filled index (Grown n b s) =
    elim (nat_lt index (length (proxies_of b))) as (λ t. fars_in (piece_body (if t then Grown n (replaced_at index Bare b) s else Grown n b (replaced_at (index - length (proxies_of b)) Bare s))) ≡ fars_in (Grow (in_record n) (piece_body b) (piece_body s))) [
      | true ↦ ap (λ (fs : List Far). own ++ (fs ++ fars_in (piece_body s))) (own_filled index b)
      | false ↦ ap (λ (fs : List Far). own ++ (fars_in (piece_body b) ++ fs)) (own_filled (index - length (proxies_of b)) s)
    ]
  where
    own : List Far
    own = option_to_list (in_record n).far
own_filled zero (Kept p m s) = sym (fars-gap_more (piece_body s))
own_filled (suc index) (Kept p m s) = fars-gap_more (piece_body (replaced_at index Bare s)) ∙ own_filled index s ∙ sym (fars-gap_more (piece_body s))

pub row_is_filled : RowIsFilled
row_is_filled k index left row = record {
  held = λ stock. held_filled stock index left row;
  hole = λ stock. held_hole stock index row;
  light = parts_filled k index left row;
  hole_light = λ h. light_filled k index Bare row h tt;
  free = free_filled index left row;
  wide = wide_filled index left row;
  heavy = heavy_filled index left row;
  own = own_filled index row;
}

pub interval_is_light : IntervalIsLight
interval_is_light k index place new left members h e room =
    let free = drawn_free members h.1 in
    let now : Layout = replaced_at index left members in (
      subst (λ (w : ℕ). 1 ≤ w) (sym (drawn_wide now ∙ wide_filled index left members free ∙ sym (drawn_wide members))) h.0,
      free_drawn now (free_filled index left members free),
      (let w = weight_filled index left members in omega (arith, w, room)),
      light_filled k index left members h.3 e,
      tt,
    )
