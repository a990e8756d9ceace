-- A piece that is put in the place of a record, above records that stay: what holds however many come, and where one does.
use Rattle.std.proofs.Common.{◌≡◌, ℕ, ◌+◌, ◌*◌, ◌≤◌, List, [], ◌∷◌, ◌++◌, length, Option, inl, sym, ap, ◌∙◌, subst, arith, append-nil, IsPermutation}
use Rattle.std.specs.Prelude.{Contains, false}
use Rattle.std.proofs.lemmas.List.Sorted.{IsPermutation-refl, IsPermutation-sym, Contains-permutation}
use Rattle.nx_host.specs.declared.disk.Disk.{Ghosts}
use Rattle.nx_tree.specs.declared.node.Node.{Node}
use Rattle.nx_holdings.specs.declared.header.Settings.{Settings}
use Rattle.nx_holdings.specs.Holdings.{Held}
use Rattle.nx_records.specs.declared.records.Records.{Records}
use Rattle.nx_records.specs.declared.error.StoreError.{StoreError}
use Rattle.nx_records.specs.declared.error.StoreError.TheVariants as store
use Rattle.nx_records.specs.Records.{has_ended, settings_of, StandsFor}
use Rattle.nx_records.specs.Refusals.{NotStored}
use Rattle.nx_piece.specs.declared.piece.Far.{Far}
use Rattle.nx_piece.specs.declared.piece.Piece.{Piece}
use Rattle.nx_piece.specs.declared.piece.Proxy.{Proxy}
use Rattle.nx_piece.specs.Gapped as gapped
use Rattle.nx_piece.specs.Gapped.{Gapped, gapped_weight, gapped_size, proxies_in}
use Rattle.nx_piece.specs.Valid.{AreApart, AreFar, AreNear, HaveRoots, IsPiece}
use Rattle.nx_piece.proofs.SizeLemmas.{size_is_weight}
use Rattle.nx_matrix.specs.declared.rule.Rule.{Rule}
use Rattle.nx_cuts.specs.Cut.{Bare, Kept, width}
use Rattle.nx_layouts.specs.Layout.{RecordPlace, Layout, AreHeld, AreLaidParts, ArePlacedOnce, contents_of, laid_weight, nodes_in, piece_body, piece_of, places_of, proxies_of, without_places}
use Rattle.nx_layouts.proofs.PlaceLemmas.{no_place, one_place, once-append, AreDisjoint}
use Rattle.nx_layouts.proofs.HeldLemmas.{layout_held}
use Rattle.nx_hold.specs.Changes.{place_named, piece_needs, ComesTidyWhere, UpdatesPiece}
use Rattle.nx_hold.specs.Pieces.{record_at, HoldsPiece, HoldsNone, MayName, NamesList, IsTidy, PieceMap, held_by}
use Rattle.nx_hold.specs.Contents.{near_pages}
use Rattle.nx_hold.specs.Documents.{HaveSame, MovesRecords}
use Rattle.nx_hold.proofs.MapLemmas.{held_at, told_some}
use Rattle.nx_hold.proofs.MoveLemmas.{moves_same, moves_beside, same_self, pieces_stay_around, update_moves}
use Rattle.nx_hold.proofs.RecordsLemmas.{not_none, record_there}
use Rattle.nx_hold.proofs.RefusalLemmas.{no_end}
use Rattle.nx_layouts.proofs.DrawnLemmas.{drawn_free, drawn_wide}
use Rattle.nx_layouts.proofs.NodeLemmas.{lists-append}
use Rattle.nx_layouts.proofs.SizeLemmas.{body_weight}
use Rattle.nx_drafts.proofs.RowLemmas.{light_row_stays}
use Rattle.nx_divide.specs.declared.dividing.Row.{Row}
use Rattle.nx_divide.specs.Dividing.{IsRowWithin}
use Rattle.nx_edit.specs.Changing.{AreSplitOf, IsReplacedByRow}
use Rattle.nx_edit.specs.Growing.{IsGrownMembers, PutsGrown, NotGrown}
use Rattle.nx_edit.specs.RowPut.{IsOneProxy}
use Rattle.nx_edit.specs.Rows.{row_nodes}
use Rattle.nx_edit.specs.Removing.{fars_of}
use Rattle.nx_edit.proofs.HeldLemmas.{held_through}
use Rattle.nx_edit.proofs.CountLemmas.{piece_few, proxies_few}
use Rattle.nx_edit.proofs.ThroughLemmas.{same_swapped}
use Rattle.nx_edit.proofs.OwnLemmas.{nodes_alone, free_wide}
use Rattle.nx_edit.proofs.OrderLemmas.{once_permuted}

-- a row that has room has room where there is more
pub row_is_more : {room more : ℕ} (row : Row) → IsRowWithin room row → room ≤ more → IsRowWithin more row
row_is_more row r most = record {
  some = r.some;
  apart = r.apart;
  counted = r.counted;
  few = r.few;
  ranged = r.ranged;
  near = r.near;
  far = r.far;
  light = let low = r.light in omega (arith, low, most);
}

alone_counts : (row : Row) (proxy : Proxy) → IsOneProxy row proxy → length row.proxies ≡ 1
alone_counts row proxy alone = ap (λ (ps : List Proxy). length ps) alone.1

-- one proxy alone may come in the place of another, whatever room there is
pub row_alone_is : (row : Row) (proxy : Proxy) → IsOneProxy row proxy → (1 ≤ proxy.roots) × (proxy.roots ≤ 256) → IsRowWithin 0 row
row_alone_is row proxy alone ranged =
    let one = alone_counts row proxy alone in
    record {
      some = subst (λ (g : Gapped). 1 ≤ gapped.gapped_width g) (sym alone.0) (omega arith);
      apart = subst AreApart (sym alone.0) (omega arith, tt, tt);
      counted = ap proxies_in alone.0 ∙ sym one;
      few = omega (arith, one);
      ranged = subst HaveRoots (sym alone.1) (ranged.0, ranged.1, tt);
      near = subst AreNear (sym alone.0) tt;
      far = subst AreFar (sym alone.0) tt;
      light = subst (λ (g : Gapped). gapped_weight g ≤ 0) (sym alone.0) (omega arith);
    }

-- it names no far content
pub alone_names : (now : Held) (row : Row) (proxy : Proxy) → IsOneProxy row proxy → MayName now row.items
alone_names now row proxy alone = subst (MayName now) (sym alone.0) (λ far among. absurd (no_place far among))

-- what is held has the settings that the records have
pub settings_there : {D : Type 0} (d : Ghosts D) (records : Records) (disk : D) (saved now : Held) → StandsFor d records disk saved now → now.settings ≡ settings_of records
settings_there d records disk saved now stands = ((stands.holds).behind).settings

module _ (was : Held) (pieces : PieceMap was) (piece : Piece) (place : RecordPlace) (members : Layout) (g : IsGrownMembers was pieces piece place members) where
  below_there : (other : RecordPlace) → Contains (places_of members) other → (p : Piece) × HoldsPiece was other p
  below_there other among = let found = layout_held (held_by pieces) members other g.held among in (found.0, held_at was pieces other found.0 found.1)

  not_here : (other : RecordPlace) → Contains (places_of members) other → Contains (place ∷ []) other → ⊥
  not_here other among here = (g.once).0 (subst (λ (p : RecordPlace). Contains (places_of members) p) (one_place place other here) among)

  module _ {now : Held} (tidy : IsTidy was) {come : List RecordPlace} {brought : List ℕ} {needs : ℕ} (moves : MovesRecords (place ∷ []) come [] brought needs was now) where
    -- the records below stay
    pub below_stays : (other : RecordPlace) → Contains (places_of members) other → (record_at now other ≡ record_at was other) × ((count chain : ℕ) → NamesList was other count chain → now.lists chain ≡ was.lists chain)
    below_stays other among =
        let found = below_there other among in
        let stays = pieces_stay_around (place ∷ []) come [] brought needs was now tidy moves other found.0 found.1 (not_here other among) in
        (stays.0, λ count chain names. stays.2 chain (inl (count, names)))

    pub below_held : (after : PieceMap now) → AreHeld (held_by after) members
    below_held after = held_through tidy moves pieces after members g.held g.may (λ other among here. not_here other among here)

    come_apart : AreDisjoint come (places_of members)
    come_apart other came among =
        let found = below_there other among in
        not_none (record_at was other) (record_there was other found.0 found.1) (moves.fresh other came (not_here other among))

    module _ (rows : List RecordPlace) (are : IsPermutation rows (come ++ places_of members)) where
      pub once_beside : ArePlacedOnce come → ArePlacedOnce rows
      once_beside once = once_permuted rows (come ++ places_of members) are (once-append come (places_of members) once (g.once).1 come_apart)

      same_rows : HaveSame (places_of members ++ come) rows
      same_rows other = (
        λ among. Contains-permutation (come ++ places_of members) rows other (IsPermutation-sym rows (come ++ places_of members) are) ((same_swapped (places_of members) come other).0 among),
        λ among. (same_swapped (places_of members) come other).1 (Contains-permutation rows (come ++ places_of members) other are among),
      )

      pub moved_beside : (more : ℕ) → needs ≤ more → MovesRecords (place ∷ places_of members) rows [] brought more was now
      moved_beside more most =
          moves_same (places_of members ++ place ∷ []) (place ∷ places_of members) (places_of members ++ come) rows [] [] brought brought needs more was now (same_swapped (places_of members) (place ∷ [])) same_rows (same_self []) (same_self brought) most
          (moves_beside (places_of members) (place ∷ []) come [] brought needs was now (λ other among. let found = below_there other among in record_there was other found.0 found.1)
          (λ other here among. not_here other among here) moves)

  parts_light : laid_weight members ≤ (was.settings).k → (at : RecordPlace) → AreLaidParts (was.settings).k (Kept at members Bare)
  parts_light light at = ((g.heavy).some, (g.heavy).free, light, (g.heavy).parts, tt)

  -- its record takes no more pages than it has nodes
  pub piece_needs_few : piece_needs piece ≤ row_nodes (without_places members)
  piece_needs_few =
      let few : piece_needs piece ≤ 1 + length (proxies_of members) = subst (λ (p : Piece). piece_needs piece ≤ 1 + length p.proxies) (sym g.is) (piece_few piece) in
      let many = proxies_few (was.settings).k members (g.heavy).parts (drawn_free members (g.heavy).free) in
      let some : 1 ≤ width (without_places members) = (g.heavy).some in
      let wide = drawn_wide members in
      omega (arith, few, many, some, wide)

  -- an interval has a node
  some_nodes : 1 ≤ row_nodes (without_places members)
  some_nodes =
      let many = proxies_few (was.settings).k members (g.heavy).parts (drawn_free members (g.heavy).free) in
      let some : 1 ≤ width (without_places members) = (g.heavy).some in
      let wide = drawn_wide members in
      omega (arith, many, some, wide)

  -- nothing is dropped, and no list of a content comes
  pub kept_all : IsPermutation (fars_of (nodes_in members) ++ []) (fars_of (nodes_in members))
  kept_all = subst (λ (fs : List Far). IsPermutation fs (fars_of (nodes_in members))) (sym (append-nil (fars_of (nodes_in members)))) (IsPermutation-refl (fars_of (nodes_in members)))

  pub light_put : {now : Held} (rules : List Rule) (room : ℕ) (above : Option Node) (row : Row) (proxy : Proxy) → IsOneProxy row proxy → IsTidy was → AreNear piece.body.roots → AreFar piece.body.roots → gapped_weight piece.body.roots ≤ (was.settings).k
      → proxy.roots ≡ gapped.gapped_width piece.body.roots → UpdatesPiece place (place_named proxy) piece was now
      → (r : IsReplacedByRow (was.settings).k (AreSplitOf was.settings rules room above (Kept tt (without_places members) Bare)) place members (nodes_in members) [] (places_of members) row [] was now)
      × (was.free + length row.proxies ≤ now.free + (2 * row_nodes (without_places (r.0).row) + near_pages (nodes_in members)))
  light_put {now} rules room above row proxy alone tidy near far light roots updates =
      let new : RecordPlace = place_named proxy in
      let weighs : gapped_weight (piece_of members).body.roots ≡ gapped_weight piece.body.roots = ap (λ (p : Piece). gapped_weight p.body.roots) g.is in
      let part = body_weight members in
      let parts = parts_light (omega (arith, light, weighs, part)) new in
      let two = update_moves place new piece was now updates in
      let are : IsPermutation (new ∷ (places_of members ++ [])) ((new ∷ []) ++ places_of members) =
      subst (λ (ps : List RecordPlace). IsPermutation (new ∷ ps) (new ∷ places_of members)) (sym (append-nil (places_of members))) (IsPermutation-refl (new ∷ places_of members)) in
      let needs = piece_needs_few in
      let some = some_nodes in
      let counted : row_nodes (without_places (Kept new members Bare)) ≡ row_nodes (without_places members) = nodes_alone new members in
      let size = size_is_weight piece.body.roots near far in
      let k_same : (now.settings).k ≡ (was.settings).k = ap (λ (t : Settings). t.k) two.settings in (
        (
          record {
            row = Kept new members Bare;
            becomes = (light_row_stays was.settings rules room above (Kept tt (without_places members) Bare) parts, omega arith);
            proxies_are =
                alone.1
                ∙ ap (λ (r : ℕ). let q : Proxy = record { page = proxy.page; slot = proxy.slot; roots = r } in q ∷ [])
                (roots ∙ ap (λ (p : Piece). gapped.gapped_width p.body.roots) (sym g.is) ∙ free_wide members (drawn_free members (g.heavy).free));
            held = λ after. (
              record {
                there = told_some now new (piece_of members) (after.piece_at new) (after.are new) (subst (λ (p : Piece). HoldsPiece now new p) (sym g.is) updates.holds);
                fits = let own : gapped_size (piece_body members) ≡ gapped_size piece.body.roots = ap (λ (p : Piece). gapped_size p.body.roots) g.is in omega (arith, own, size, light, k_same);
              },
              below_held tidy two after,
              tt,
            );
            once = once_beside tidy two (new ∷ (places_of members ++ [])) are (no_place new, tt);
            light = parts;
            brought = [];
            moves = moved_beside tidy two (new ∷ (places_of members ++ [])) are (row_nodes (without_places members) + 2 * row_nodes (without_places (Kept new members Bare)) + near_pages (nodes_in members)) (omega (arith, needs));
            contents_went = kept_all;
            contents_came = subst (λ (ls : List ℕ). IsPermutation ls (contents_of members ++ [])) (sym (one_row new)) (IsPermutation-refl (contents_of members ++ []));
            brought_once = tt;
            records_stay = λ other among. (below_stays tidy two other among).0;
            lists_stay = λ other count chain among. (below_stays tidy two other among).1 count chain;
          },
          alone.0,
        ),
        let free = two.free in let one = alone_counts row proxy alone in omega (arith, needs, some, counted, free, one),
      )
    where
      -- a row of this interval alone names what the members name
      one_row : (at : RecordPlace) → contents_of (Kept at members Bare) ≡ contents_of members ++ []
      one_row at = lists-append (nodes_in members) []

module _ {D : Type 0} (d : Ghosts D) (piece : Piece) (place : RecordPlace) (r0 r1 : Records) (x0 x1 : D) where
  pub light_done : (proxy : Proxy) → IsPiece piece → AreNear piece.body.roots → gapped_weight piece.body.roots ≤ (settings_of r0).k → proxy.roots ≡ gapped.gapped_width piece.body.roots → ComesTidyWhere d r0 r1 x0 x1 (λ was. MayName was piece.body.roots) (λ was now. UpdatesPiece place (place_named proxy) piece was now)
      → (row : Row) → IsOneProxy row proxy → (rules : List Rule) (room : ℕ) (above : Option Node) → ComesTidyWhere d r0 r1 x0 x1 (λ was. MayName was piece.body.roots) (PutsGrown rules room above piece place row)
  light_done proxy is near light roots updates row alone rules room above saved was stands tidy may =
      let now = updates saved was stands tidy may in
      let most : gapped_weight piece.body.roots ≤ (was.settings).k = subst (λ (s : Settings). gapped_weight piece.body.roots ≤ s.k) (sym (settings_there d r0 x0 saved was stands)) light in
      (now.0, now.1, now.2, (alone_names now.0 row proxy alone, λ pieces members g. light_put was pieces piece place members g rules room above row proxy alone tidy near is.body.far most roots now.3))

  pub light_refused : (page : ℕ) (e : StoreError) → has_ended r0 ≡ false → NotStored d (λ was. piece_needs piece) (λ was. HoldsNone was place) page e r0 r1 x0 x1 → NotGrown d piece place e r0 r1 x0 x1
  light_refused page store.Disk runs refused = refused
  light_refused page store.Full runs refused = record {
    runs = refused.runs;
    keeps = refused.keeps;
    none_free = refused.none_free;
    few = λ saved now pieces members stands tidy g.
        let few = refused.few saved now stands in
        let needs = piece_needs_few now pieces piece place members g in
        omega (arith, few, needs);
  }
  light_refused page (store.Damaged other) runs refused = (refused.ends, λ saved now pieces members stands tidy g. refused.lacks saved now stands (g.there).0 (g.there).1)
  light_refused page store.Ended runs refused = absurd (no_end r0 runs refused.0)
  light_refused page store.Memory runs refused = refused
  light_refused page store.Exists runs refused = absurd refused
  light_refused page store.NotAStore runs refused = absurd refused
