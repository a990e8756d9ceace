-- A tree is taken away below an interval whose record the path leads into.
use Rattle.std.proofs.Common.{◌≡◌, ℕ, ◌+◌, ◌-◌, ◌*◌, ◌<◌, ◌≤◌, List, [], ◌∷◌, ◌++◌, length, take, drop, Option, None, Some, inl, inr, refl, sym, ap, ap₂, ◌∙◌, subst, arith, append-nil, append_assoc, length-append}
use Rattle.std.specs.Prelude.{◌⊎◌, false}
use Rattle.std.specs.Option.{option_to_list}
use Rattle.nx_tree.specs.Forest.{nodes}
use Rattle.nx_holdings.specs.Holdings.{Held, chain_count}
use Rattle.nx_piece.specs.declared.piece.Far.{Far}
use Rattle.nx_piece.specs.declared.piece.Piece.{Piece}
use Rattle.nx_piece.specs.declared.piece.Proxy.{Proxy}
use Rattle.nx_piece.specs.Gapped as gapped
use Rattle.nx_piece.specs.Gapped.{Gapped}
use Rattle.nx_cuts.specs.Cut.{CutForest, Bare, Grown, Kept, width, AreFree}
use Rattle.nx_layouts.specs.Layout.{RecordPlace, LaidNode, Layout, laid_near, laid_forest, laid_weight, piece_of, proxies_of, proxy_of, without_places}
use Rattle.nx_layouts.proofs.DrawnLemmas.{drawn_wide, drawn_free}
use Rattle.nx_layouts.specs.Replace.{replaced_at}
use Rattle.nx_layouts.proofs.ReplaceLemmas.{replaces}
use Rattle.nx_hold.specs.Changes.{place_named}
use Rattle.nx_hold.specs.Contents.{near_pages}
use Rattle.nx_hold.specs.Pieces.{IsTidy, PieceMap}
use Rattle.nx_cuts.specs.Rows.{changed_row}
use Rattle.nx_drawn.specs.Edits.{kept, removed_row, deleted}
use Rattle.nx_edit.specs.Editing.{places_off, nodes_off}
use Rattle.nx_edit.specs.Passing.{PutsOrStays, put_needs}
use Rattle.nx_layouts.specs.Cutting.{LeadsInto}
use Rattle.nx_edit.specs.Rows.{row_nodes, IsHeldInterval, IsReplaced, IsLeftOf, left_of, left_needs, with_left}
use Rattle.nx_edit.proofs.CountLemmas.{proxies_few}
use Rattle.nx_edit.proofs.CutLemmas.{interval_inside, nodes_inside, if_less}
use Rattle.nx_edit.proofs.FarLemmas.{near-append, near_none}
use Rattle.nx_layouts.proofs.RunLemmas.{runs_after}
use Rattle.nx_edit.proofs.FillLemmas.{left_is_interval}
use Rattle.nx_edit.proofs.OwnLemmas.{nodes_alone}
use Rattle.nx_edit.proofs.PassedLemmas.{into_member, piece_same, less_index, there, place_inside, off_around, near_suffice, replaced_above}

-- a layout of each row, whatever the places
abbrev pub marked : CutForest → Layout
marked Bare = Bare
marked (Grown n b s) = Grown (laid_near n) (marked b) (marked s)
marked (Kept m c s) = Kept (record { page = 0; slot = 0 }) (marked c) (marked s)

pub marked_is : (c : CutForest) → without_places (marked c) ≡ c
marked_is Bare = refl
marked_is (Grown n b s) = ap₂ (λ (x y : CutForest). Grown n x y) (marked_is b) (marked_is s)
marked_is (Kept m c s) = ap₂ (λ (x y : CutForest). Kept tt x y) (marked_is c) (marked_is s)

-- the proxy of what is left of an interval, which is one interval or nothing
abbrev pub IsOne : Layout → Option Proxy → Type 0
IsOne Bare None = Unit {0}
IsOne Bare (Some q) = ⊥
IsOne (Grown n b s) o = ⊥
IsOne (Kept p m Bare) None = ⊥
IsOne (Kept p m Bare) (Some q) = q ≡ proxy_of p (width m)
IsOne (Kept p m (Grown n b s)) o = ⊥
IsOne (Kept p m (Kept q t s)) o = ⊥

abbrev IsOneProxy : CutForest → Type 0
IsOneProxy c = (c ≡ Bare) ⊎ ((m : CutForest) × (c ≡ Kept tt m Bare))

alone_kept : (c : CutForest) → IsOneProxy (kept tt c Bare)
alone_kept Bare = inl refl
alone_kept (Grown n b s) = inr (Grown n b s, refl)
alone_kept (Kept m c s) = inr (Kept m c s, refl)

left_alone : (position : ℕ) (path : List ℕ) (members : Layout) → position < width members → IsOneProxy (left_of position path members)
left_alone position [] members less =
    subst IsOneProxy
    (sym (if_less position (width (without_places members)) (kept tt (removed_row position (without_places members)) Bare) (Kept tt (without_places members) (removed_row (position - width (without_places members)) Bare))
    (subst (λ (w : ℕ). position < w) (sym (drawn_wide members)) less)))
    (alone_kept (removed_row position (without_places members)))
left_alone position (q ∷ path) members less =
    inr (
      changed_row position (deleted (q ∷ path)) (without_places members),
      if_less position (width (without_places members)) (Kept tt (changed_row position (deleted (q ∷ path)) (without_places members)) Bare) (Kept tt (without_places members) (changed_row (position - width (without_places members)) (deleted (q ∷ path)) Bare))
          (subst (λ (w : ℕ). position < w) (sym (drawn_wide members)) less),
    )

first_same : (a b : Proxy) (ps : List Proxy) → a ∷ [] ≡ b ∷ ps → a ≡ b
first_same a b ps e = cc

one_left : (left : Layout) (o : Option Proxy) → IsOneProxy (without_places left) → option_to_list o ≡ proxies_of left → IsOne left o
one_left Bare None h e = tt
one_left Bare (Some q) h e = absurd (cc)
one_left (Grown n b s) o (inl h) e = absurd (cc)
one_left (Grown n b s) o (inr h) e = let g = h.1 in absurd (cc)
one_left (Kept p m Bare) None h e = absurd (cc)
one_left (Kept p m Bare) (Some q) h e = first_same q (proxy_of p (width m)) [] e
one_left (Kept p m (Grown n b s)) o (inl h) e = absurd (cc)
one_left (Kept p m (Grown n b s)) o (inr h) e = let g = h.1 in absurd (cc)
one_left (Kept p m (Kept q t s)) o (inl h) e = absurd (cc)
one_left (Kept p m (Kept q t s)) o (inr h) e = let g = h.1 in absurd (cc)

few_left : (left : Layout) (o : Option Proxy) → IsOne left o → length (proxies_of left) ≤ 1
few_left Bare o h = omega arith
few_left (Grown n b s) o h = absurd h
few_left (Kept p m Bare) o h = omega arith
few_left (Kept p m (Grown n b s)) o h = absurd h
few_left (Kept p m (Kept q t s)) o h = absurd h

-- the piece above it is that of the row with what is left
left_piece : (index : ℕ) (members left : Layout) (o : Option Proxy) → index < length (proxies_of members) → IsOne left o → with_left index o (piece_of members) ≡ piece_of (replaced_at index left members)
left_piece index members Bare None less h =
    piece_same (with_left index None (piece_of members)) (piece_of (replaced_at index Bare members)) (sym (runs_after index members less).none) (ap (λ (ps : List Proxy). ps ++ drop (index + 1) (proxies_of members)) (sym (append-nil (take index (proxies_of members)))) ∙ sym (replaces index members Bare less).proxies_are)
left_piece index members Bare (Some q) less h = absurd h
left_piece index members (Grown n b s) o less h = absurd h
left_piece index members (Kept p m Bare) None less h = absurd h
left_piece index members (Kept p m Bare) (Some q) less h =
    ap (λ (x : Proxy). with_left index (Some x) (piece_of members)) h
    ∙ piece_same (with_left index (Some (proxy_of p (width m))) (piece_of members)) (piece_of (replaced_at index (Kept p m Bare) members)) (sym ((runs_after index members less).one p m))
    (sym (append_assoc (take index (proxies_of members)) (proxy_of p (width m) ∷ []) (drop (index + 1) (proxies_of members))) ∙ sym (replaces index members (Kept p m Bare) less).proxies_are)
left_piece index members (Kept p m (Grown n b s)) o less h = absurd h
left_piece index members (Kept p m (Kept q t s)) o less h = absurd h

module _ (was : Held) (pieces : PieceMap was) (known : Option Piece) (place : RecordPlace) (position : ℕ) (path : List ℕ) (limit : ℕ) (members : Layout) (i : IsHeldInterval was pieces known place position path limit members)
    (index next : ℕ) (rest : List ℕ) (inside : Layout) (into : LeadsInto index next rest inside position path members) where
  abbrev k : ℕ
  k = (was.settings).k

  less : index < length (proxies_of members)
  less = less_index was pieces known place position path limit members i index next rest inside into

  within : next < width inside
  within = into_member index next rest inside position path members into

  members_free : AreFree members
  members_free = drawn_free members (i.light).1

  -- no more nodes are below than in all
  inside_few : (left : Layout) → nodes (laid_forest (replaced_at index left members)) + nodes (laid_forest inside) ≡ nodes (laid_forest members) + nodes (laid_forest left)
  inside_few left = (there was pieces known place position path limit members i index next rest inside into).counted left

  -- what is left below, in this row
  module _ (left : Layout) (left_is : without_places left ≡ left_of next rest inside) where
    abbrev row : Layout
    row = replaced_at index left members

    row_is : (new : RecordPlace) → without_places (Kept new row Bare) ≡ left_of position path members
    row_is new = interval_inside index next rest inside left position path new members members_free into left_is

    -- how many nodes are left
    row_count : row_nodes (left_of position path members) ≡ nodes (laid_forest row)
    row_count = sym (ap row_nodes (row_is place)) ∙ nodes_alone place row

    left_count : row_nodes (left_of next rest inside) ≡ nodes (laid_forest left)
    left_count = sym (ap row_nodes left_is)

    -- what is needed below is no more than what is needed here
    pub needs_below : left_needs next rest inside ≤ left_needs position path members
    needs_below =
        let n = nodes_inside false index next rest inside position path members into in
        let near = ap (λ (ns : List LaidNode). near_pages ns) n.off in
        let front = near-append n.before (nodes_off false (next ∷ rest) inside ++ n.behind) in
        let middle = near-append (nodes_off false (next ∷ rest) inside) n.behind in
        let r = row_count in let l = left_count in let c = inside_few left in let h = inside_few Bare in
        omega (arith, near, front, middle, r, l, c, h)

    becomes : (new : RecordPlace) (gone : ℕ) → IsLeftOf next rest gone inside (without_places left) → IsLeftOf position path gone members (without_places (Kept new row Bare))
    becomes new gone h = (
      row_is new,
      let down = h.1 in
          let r : row_nodes (without_places (Kept new row Bare)) ≡ nodes (laid_forest row) = nodes_alone new row in
          let c = inside_few left in
          omega (arith, down, r, c),
    )

    module _ (o : Option Proxy) (one : IsOne left o) where
      -- the piece above
      pub row_piece : (piece : Piece) → piece ≡ piece_of members → with_left index o piece ≡ piece_of row
      row_piece piece is = ap (λ (p : Piece). with_left index o p) is ∙ left_piece index members left o less one

      -- how many pages it may need besides
      pub row_needs : (row_nodes (without_places inside) + 2 * row_nodes (without_places left)) + (1 + chain_count (8 * length (proxies_of row))) ≤ row_nodes (without_places members) + 2 * row_nodes (left_of position path members)
      row_needs =
          let hole = replaces index members Bare less in
          let all = replaces index members left less in
          let least : 1 ≤ width (without_places members) = (i.light).0 in
          let as_wide = drawn_wide members in
          let wide : width (replaced_at index Bare members) ≡ width members = hole.wide members_free in
          let many = proxies_few k (replaced_at index Bare members) (hole.light k (i.light).3 tt) (hole.free members_free) in
          let front : List Proxy = take index (proxies_of members) in
          let back : List Proxy = drop (index + 1) (proxies_of members) in
          let proxies = ap (λ (ps : List Proxy). length ps) hole.proxies_are ∙ length-append (front ++ []) back in
          let none = length-append front [] in
          let with_more = ap (λ (ps : List Proxy). length ps) all.proxies_are ∙ length-append (front ++ proxies_of left) back in
          let inner = length-append front (proxies_of left) in
          let single = few_left left o one in
          let r = row_count in let c = inside_few left in let h = inside_few Bare in
          omega (arith, least, as_wide, wide, many, proxies, none, with_more, inner, single, r, c, h)

  -- the interval below was replaced, and then the record above
  module _ {mid : Held} (tidy : IsTidy was) (gone_nodes : ℕ) (o : Option Proxy) (fars : List Far)
      (r : IsReplaced k (IsLeftOf next rest gone_nodes inside) (place_inside was pieces known place position path limit members i index next rest inside into) inside (nodes_off false (next ∷ rest) inside) [] (places_off false (next ∷ rest) inside)
      (option_to_list o) fars was mid) where
    abbrev left : Layout
    left = r.row

    one : IsOne left o
    one = one_left left o (subst IsOneProxy (sym (r.becomes).0) (left_alone next rest inside within)) r.proxies_are

    weightless : laid_weight left ≡ 0
    weightless = left_is_interval next rest inside left within (r.becomes).0

    -- fewer pages were free at first than may be needed, where fewer are free in between than the piece above may need
    pub few_before : (piece : Piece) → piece ≡ piece_of members → mid.free < put_needs (with_left index o piece) → was.free < left_needs position path members
    few_before piece is few =
        let same : put_needs (with_left index o piece) ≡ put_needs (piece_of (replaced_at index left members)) = ap put_needs (row_piece left (r.becomes).0 o one piece is) in
        let all = row_needs left (r.becomes).0 o one in
        let near =
        near_suffice was pieces known place position path limit members i index next rest inside into path rest into tidy false r (off_around was pieces known place position path limit members i index next rest inside into false path rest into) (near_none left weightless) in
        let moved : was.free ≤ mid.free + (row_nodes (without_places inside) + 2 * row_nodes (without_places left) + near_pages (nodes_off false (next ∷ rest) inside)) = (r.moves).free in
        omega (arith, same, all, near, moved, few)

    pub away_replaced : {now : Held} (tidier : IsTidy mid) (piece : Piece) → piece ≡ piece_of members → (proxy : Proxy) → proxy.roots ≡ gapped.gapped_width (with_left index o piece).body.roots
        → PutsOrStays place (place_named proxy) (with_left index o piece) mid now
        → IsReplaced k (IsLeftOf position path gone_nodes members) place members (nodes_off false (position ∷ path) members) [] (places_off false (position ∷ path) members) (proxy ∷ []) fars was now
    away_replaced tidier piece piece_is proxy roots puts =
        let here : Layout = replaced_at index left members in
        let new : RecordPlace = place_named proxy in
        let here_is : with_left index o piece ≡ piece_of here = row_piece left (r.becomes).0 o one piece piece_is in
        let n : row_nodes (without_places (Kept new here Bare)) ≡ row_nodes (left_of position path members) = ap row_nodes (row_is left (r.becomes).0 new) in
        let all = row_needs left (r.becomes).0 o one in
        let around_it = off_around was pieces known place position path limit members i index next rest inside into false path rest into in
        let near = near_suffice was pieces known place position path limit members i index next rest inside into path rest into tidy false r around_it (near_none left weightless) in
        let light : laid_weight members ≤ k = (i.light).2 in
        let none = weightless in
        (replaced_above was pieces known place position path limit members i index next rest inside into path rest into tidy false r tidier (with_left index o piece) here_is proxy roots puts (omega (arith, none, light))
        around_it (IsLeftOf position path gone_nodes members) (becomes left (r.becomes).0 new gone_nodes r.becomes) (row_nodes (without_places inside) + 2 * row_nodes (without_places left) + near_pages (nodes_off false (next ∷ rest) inside))
        (r.moves).free (omega (arith, n, all, near))).0
