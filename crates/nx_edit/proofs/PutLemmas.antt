-- A piece that came in the place of a record, with its long contents in lists of their own, or stays there: what its row is then.
use Rattle.std.proofs.Common.{◌≡◌, ℕ, ◌+◌, ◌≤◌, List, [], ◌∷◌, ◌++◌, length, None, inl, inr, refl, sym, ap, ◌∙◌, subst, arith, append-nil, IsPermutation, ◌*◌}
use Rattle.std.specs.Prelude.{Contains, IsSome}
use Rattle.std.proofs.lemmas.List.Sorted.{IsPermutation-refl}
use Rattle.nx_holdings.specs.Holdings.{Held, chain_count}
use Rattle.nx_holdings.specs.declared.header.Settings.{Settings}
use Rattle.nx_piece.specs.declared.piece.Piece.{Piece}
use Rattle.nx_piece.specs.declared.piece.Proxy.{Proxy}
use Rattle.nx_piece.specs.Gapped.{gapped_size}
use Rattle.nx_piece.specs.Valid.{AreFar, AreNear}
use Rattle.nx_cuts.specs.Cut.{CutForest, width, part_weight}
use Rattle.nx_layouts.specs.Layout.{RecordPlace, Layout, IsHeldAt, AreHeld, AreOnce, laid_weight, piece_body, piece_of, places_of, proxies_of, contents_of, without_places}
use Rattle.nx_layouts.proofs.BodyLemmas.{bodies_are_of_rows}
use Rattle.nx_layouts.proofs.DrawnLemmas.{drawn_wide}
use Rattle.nx_layouts.proofs.PlaceLemmas.{no_place, one_place}
use Rattle.nx_hold.specs.Changes.{piece_needs}
use Rattle.nx_hold.specs.Contents.{near_in}
use Rattle.nx_hold.specs.Pieces.{record_at, HoldsPiece, MayName, PieceMap, held_by}
use Rattle.nx_hold.specs.Documents.{MovesRecords}
use Rattle.nx_hold.proofs.MapLemmas.{piece_map, told_some}
use Rattle.nx_hold.proofs.MoveLemmas.{moves_none, moves_add_up, moves_beside, update_moves}
use Rattle.nx_hold.proofs.RecordsLemmas.{record_there, none_named}
use Rattle.nx_edit.specs.Making.{IsRowMadeFar, PutsFar}
use Rattle.nx_edit.proofs.CountLemmas.{pages_few}
use Rattle.nx_edit.proofs.HeldLemmas.{held_through}

-- the far contents of a piece that a record has are as they may be
pub far_held : (held : Held) (place : RecordPlace) (piece : Piece) → HoldsPiece held place piece → AreFar piece.body.roots
far_held held place piece (inl h) = ((h.valid).body).far
far_held held place piece (inr h) = (((h.stored).valid).body).far

-- The piece of a row stands in the place of a record, under this place. It is that of this row, drawn as the other, with the same records below it, which names these lists besides.
pub record IsPutAs (place new : RecordPlace) (row : Layout) (mid now : Held) : Type 0 where
  pub made : Layout
  pub same : without_places made ≡ without_places row
  pub places : places_of made ≡ places_of row
  pub more : List ℕ
  pub then : ℕ
  pub moves : MovesRecords (place ∷ []) (new ∷ []) [] more then mid now
  pub few : then ≤ near_in (piece_body row) + (1 + chain_count (8 * length (proxies_of row)))
  pub came : IsPermutation (contents_of made) (contents_of row ++ more)
  pub once : AreOnce more
  pub fresh : (first : ℕ) → Contains more first → mid.lists first ≡ None
  pub at : (after : PieceMap now) → IsHeldAt (held_by after) new made
  pub held : (after : PieceMap now) → AreHeld (held_by after) made

pub made_wide : {place new : RecordPlace} {row : Layout} {mid now : Held} (p : IsPutAs place new row mid now) → width p.made ≡ width row
made_wide {place} {new} {row} p = sym (drawn_wide p.made) ∙ ap (λ (c : CutForest). width c) p.same ∙ drawn_wide row

-- A piece that was made far and came:

module _ {mid now : Held} {place new : RecordPlace} {piece : Piece} (puts : PutsFar place new piece mid now) (row : Layout) (is : piece ≡ piece_of row) (there : IsSome (record_at mid place)) (pieces : PieceMap mid) (held : AreHeld (held_by pieces) row)
    (apart : Contains (places_of row) place → ⊥) (light : laid_weight row ≤ (mid.settings).k) where
  made_row : IsRowMadeFar row puts.made mid puts.mid
  made_row = (puts.makes).rows row (sym is)

  update : MovesRecords (place ∷ []) (new ∷ []) [] [] (piece_needs puts.made) puts.mid now
  update = update_moves place new puts.made puts.mid now puts.updates

  -- the record moved, and lists came
  put_moves : MovesRecords (place ∷ []) (new ∷ []) [] made_row.brought (made_row.needs + piece_needs puts.made) mid now
  put_moves =
      let beside : MovesRecords (place ∷ []) (place ∷ []) [] made_row.brought made_row.needs mid puts.mid =
      moves_beside (place ∷ []) [] [] [] made_row.brought made_row.needs mid puts.mid (λ other among. subst (λ (p : RecordPlace). IsSome (record_at mid p)) (sym (one_place place other among)) there) (λ other none among. no_place other none) made_row.moves in
      subst (λ (l : List ℕ). MovesRecords (place ∷ []) (new ∷ []) [] l (made_row.needs + piece_needs puts.made) mid now) (append-nil made_row.brought)
      (moves_add_up (place ∷ []) (place ∷ []) (new ∷ []) [] [] made_row.brought [] made_row.needs (piece_needs puts.made) mid puts.mid now beside update)

  holds : HoldsPiece now new (piece_of made_row.row)
  holds = subst (λ (p : Piece). HoldsPiece now new p) (sym made_row.is) (puts.updates).holds

  settled : (now.settings).k ≡ (mid.settings).k
  settled = ap (λ (s : Settings). s.k) put_moves.settings

  put_fits : gapped_size (piece_body made_row.row) ≤ (now.settings).k
  put_fits =
      let body = bodies_are_of_rows made_row.row in
      let near : AreNear (piece_body made_row.row) = subst (λ (p : Piece). AreNear p.body.roots) (sym made_row.is) (puts.far).near in
      let small = body.sized near (far_held now new (piece_of made_row.row) holds) in
      let weighs = body.weighs in
      let drawn : laid_weight made_row.row ≡ laid_weight row = ap (λ (c : CutForest). part_weight c) made_row.same in
      let same = settled in
      omega (arith, small, weighs, drawn, light, same)

  pub put_as : IsPutAs place new row mid now
  put_as = record {
    made = made_row.row;
    same = made_row.same;
    places = made_row.places;
    more = made_row.brought;
    then = made_row.needs + piece_needs puts.made;
    moves = put_moves;
    few =
        let few = made_row.few in
        let own = pages_few puts.made in
        let same = ap (λ (ps : List Proxy). chain_count (8 * length ps)) (puts.far).proxies in
        let all = ap (λ (p : Piece). chain_count (8 * length p.proxies)) is in
        omega (arith, few, own, same, all);
    came = made_row.came;
    once = made_row.once;
    fresh = λ first among. (made_row.moves).lists_fresh first (inr among) (none_named mid first);
    at = λ after. record { there = told_some now new (piece_of made_row.row) (after.piece_at new) (after.are new) holds; fits = put_fits };
    held = λ after.
        held_through puts.tidy update (piece_map puts.mid) after made_row.row (made_row.held pieces (piece_map puts.mid) held) (subst (λ (p : Piece). MayName puts.mid p.body.roots) (sym made_row.is) (puts.makes).may)
        (λ other among one. apart (subst (λ (p : RecordPlace). Contains (places_of row) p) (one_place place other one) (subst (λ (ps : List RecordPlace). Contains ps other) made_row.places among)));
  }

-- the record has the piece of the row, and stays
pub stays_as : (held : Held) (place : RecordPlace) (row : Layout) → HoldsPiece held place (piece_of row) → gapped_size (piece_body row) ≤ (held.settings).k → ((after : PieceMap held) → AreHeld (held_by after) row) → IsPutAs place place row held held
stays_as held place row holds fits are = record {
  made = row;
  same = refl;
  places = refl;
  more = [];
  then = 0;
  moves = moves_beside (place ∷ []) [] [] [] [] 0 held held (λ other among. subst (λ (p : RecordPlace). IsSome (record_at held p)) (sym (one_place place other among)) (record_there held place (piece_of row) holds)) (λ other none among. no_place other none) (moves_none held);
  few = omega arith;
  came = subst (λ (l : List ℕ). IsPermutation (contents_of row) l) (sym (append-nil (contents_of row))) (IsPermutation-refl (contents_of row));
  once = tt;
  fresh = λ first among. absurd (no_place first among);
  at = λ after. record { there = told_some held place (piece_of row) (after.piece_at place) (after.are place) holds; fits = fits };
  held = are;
}
