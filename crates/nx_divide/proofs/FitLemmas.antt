-- What a division leaves of a piece is a row that the piece above may have.
use Rattle.std.proofs.Common.{◌≡◌, ℕ, ◌≤◌, List, length, Option, sym, ap, subst, ◌∙◌, arith}
use Rattle.std.specs.Prelude.{Result, Ok, Err, IfOk}
use Rattle.nx_host.specs.declared.disk.Disk.{Ghosts}
use Rattle.nx_parts.specs.declared.interval.Interval.{Interval}
use Rattle.nx_cuts.specs.Cut.{AreParts}
use Rattle.nx_records.specs.Words.{Settings}
use Rattle.nx_records.specs.declared.records.Records.{Records}
use Rattle.nx_records.specs.declared.error.StoreError.{StoreError}
use Rattle.nx_piece.specs.declared.piece.Piece.{Piece}
use Rattle.nx_piece.specs.declared.piece.Proxy.{Proxy}
use Rattle.nx_piece.specs.Gapped.{Gapped, End, Grow, Gap, gapped_weight, gapped_width, proxies_in}
use Rattle.nx_piece.specs.Valid.{IsPiece, AreApart, AreFar, AreNear, HaveRoots}
use Rattle.nx_layouts.specs.Layout.{RecordPlace, Layout, without_places, laid_weight, AreLaidParts, gap_more, piece_body, proxies_of}
use Rattle.nx_layouts.proofs.LayoutLemmas.{proxies_counted}
use Rattle.nx_layouts.proofs.SizeLemmas.{body_weight}
use Rattle.nx_layouts.proofs.ValidLemmas.{body_apart}
use Rattle.nx_drawn.specs.Splits.{Divides}
use Rattle.nx_drawn.proofs.RoomLemmas.{raised_has_room}
use Rattle.nx_drafts.specs.Draft.{Draft, Ends, Grows, Stands, Comes, drawn_forest, layout_before, layout_after, draft_count}
use Rattle.nx_drafts.proofs.PlacesLemmas.{count-layout_after, drawn_forest-layout_after}
use Rattle.nx_drafts.proofs.SomeLemmas.{piece_has_members}
use Rattle.nx_divide.specs.declared.dividing.Row.{Row}
use Rattle.nx_divide.specs.Marked.{AreWritten, many}
use Rattle.nx_divide.specs.Dividing.{IsDivisionOf, IsRowWithin, PutsRowAt}
use Rattle.nx_divide.proofs.RowLemmas.{count-unmarked, count_few, drawn_forest-unmarked}
use Rattle.nx_divide.proofs.WrittenLemmas.{written_after, written_far, written_near}
use Rattle.nx_divide.proofs.HeavyLemmas.{rooted}
use Rattle.nx_divide.proofs.TopLemmas.{Rows, some_divides, some_draft, some_marked, some_written, row_before, row_put}

wide_gap : (g : Gapped) → 1 ≤ gapped_width (gap_more g)
wide_gap End = omega arith
wide_gap (Grow n b s) = omega arith
wide_gap (Gap count s) = omega arith

-- of members some are left
some_left : (c : Draft RecordPlace) → 1 ≤ gapped_width (piece_body (layout_before c)) → 1 ≤ gapped_width (piece_body (layout_after c))
some_left Ends some = some
some_left (Grows n b s) some = omega arith
some_left (Stands r m s) some = wide_gap (piece_body (layout_after s))
some_left (Comes u m s) some = wide_gap (piece_body (layout_after s))

module _ {D : Type 0} (d : Ghosts D) (settings : Settings) (most : settings.k ≤ 256) (piece : Piece) (parts : List Interval) (raised : Option ℕ) (division : IsDivisionOf settings piece parts raised) (valid : IsPiece piece) (near : AreNear piece.body.roots) (place : RecordPlace) (r0 r1 : Records) (x0 x1 : D)
    (few : many piece.body.roots ≤ 524288) where
  module _ (row : Row) (p : PutsRowAt d place r0 r1 x0 x1 (some_draft settings most piece parts raised division valid near).draft row) where
    abbrev left : Layout
    left = layout_after p.draft

    before : piece_body (layout_before p.draft) ≡ piece.body.roots
    before = row_before d settings most piece parts raised division valid near place r0 r1 x0 x1 row p

    bare : without_places left ≡ drawn_forest (some_draft settings most piece parts raised division valid near).draft
    bare = drawn_forest-layout_after p.draft ∙ sym (drawn_forest-unmarked p.draft) ∙ ap drawn_forest p.same

    light : AreLaidParts 256 left
    light = subst (AreParts 256) (sym bare) (some_draft settings most piece parts raised division valid near).light

    written : AreWritten (piece_body left)
    written = written_after p.draft (subst AreWritten (sym before) (some_written settings most piece parts raised division valid near))

    some : 1 ≤ gapped_width (piece_body left)
    some = some_left p.draft (let e : gapped_width (piece_body (layout_before p.draft)) ≡ gapped_width piece.body.roots = ap gapped_width before in omega (arith, e, valid.body.some))

    fewer : length (proxies_of left) ≤ 524288
    fewer =
        let n : length (proxies_of left) ≡ draft_count p.draft = count-layout_after p.draft in
        let same : draft_count (some_draft settings most piece parts raised division valid near).draft ≡ draft_count p.draft = ap draft_count (sym p.same) ∙ count-unmarked p.draft in
        let less = count_few 256 (some_draft settings most piece parts raised division valid near).draft (some_draft settings most piece parts raised division valid near).light in
        let items : many (piece_body (layout_before (some_draft settings most piece parts raised division valid near).draft)) ≡ many piece.body.roots = ap many (some_marked settings most piece parts raised division valid near).items_are in
        omega (arith, n, same, less, items, few)

    fits : laid_weight left ≤ division.room
    fits =
        raised_has_room settings division.rules division.room division.above (without_places (piece_has_members piece valid).members) (without_places left) 256 (piece_has_members piece valid).light
        (subst (Divides settings division.rules division.room division.above (without_places (piece_has_members piece valid).members)) (sym bare) (some_divides settings most piece parts raised division valid near))

    weighs : gapped_weight (piece_body left) ≤ division.room
    weighs = let e = body_weight left in let f = fits in omega (arith, e, f)

    is_row : IsRowWithin division.room row
    is_row = record {
      some = subst (λ (g : Gapped). 1 ≤ gapped_width g) (sym p.items_are) some;
      apart = subst AreApart (sym p.items_are) (body_apart left);
      counted = ap proxies_in p.items_are ∙ sym (proxies_counted left) ∙ ap length (sym p.proxies_are);
      few = subst (λ (l : List Proxy). length l ≤ 524288) (sym p.proxies_are) fewer;
      ranged = subst HaveRoots (sym p.proxies_are) (rooted left light);
      near = subst AreNear (sym p.items_are) (written_near (piece_body left) written);
      far = subst AreFar (sym p.items_are) (written_far (piece_body left) written);
      light = subst (λ (g : Gapped). gapped_weight g ≤ division.room) (sym p.items_are) weighs;
    }

  pub parts_fit : (r : Result Row StoreError) → IfOk r (Rows d settings most piece parts raised division valid near place r0 r1 x0 x1) → IfOk r (IsRowWithin division.room)
  parts_fit (Err e) puts = tt
  parts_fit (Ok row) puts = is_row row (row_put d settings most piece parts raised division valid near place r0 r1 x0 x1 row puts)
