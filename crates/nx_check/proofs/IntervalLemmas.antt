-- The record of an interval is read and judged.
use Rattle.std.proofs.Common.{◌≡◌, ◌≢◌, ℕ, ◌+◌, ◌<◌, ◌≤◌, min, Bool, List, [], ◌∷◌, ◌++◌, true, false, refl, sym, subst}
use Rattle.std.specs.Prelude.{Contains}
use Rattle.std.specs.Bool.{MatchBool}
use Rattle.nx_host.specs.Disk.{Image}
use Rattle.nx_host.specs.declared.disk.Disk.{Ghosts}
use Rattle.nx_replay.specs.Log.{replay}
use Rattle.nx_holdings.specs.Holdings.{Link, pages_of_links}
use Rattle.nx_tree.specs.declared.node.Kind.TheVariants.{Doc}
use Rattle.nx_tree.specs.Forest.{Forest}
use Rattle.nx_piece.specs.declared.piece.Piece.{Piece}
use Rattle.nx_piece.specs.declared.piece.Proxy.{Proxy}
use Rattle.nx_piece.specs.Gapped.{Gapped, gapped_width, gapped_size, gapped_nodes}
use Rattle.nx_piece.specs.Valid.{AreTrees}
use Rattle.nx_cuts.specs.Cut.{Bare, Kept, joined}
use Rattle.nx_layouts.specs.Layout.{RecordPlace}
use Rattle.nx_hold.specs.Changes.{place_named}
use Rattle.nx_rules.specs.declared.verdict.PageRule.{PageRule}
use Rattle.nx_rules.specs.declared.verdict.PageRule.TheVariants as rule
use Rattle.nx_rules.specs.Walked.{Reached, Waits, Walked, walked_forest, walked_body, walked_proxies, links_behind, ByRecord, Named, named_place, naming_page, IsRecordAt}
use Rattle.nx_rules.specs.Tour.{Visit, all_reached, Tour, used_in}
use Rattle.nx_rules.specs.Broken.{ComesNext, IsReadFirst, MayStand, IsFirstBroken}
use Rattle.nx_rules.specs.Places.{Behind, filled_around, before_there, level_of, MayBeBelow}
use Rattle.nx_check.specs.declared.reading.Walk.{Walk}
use Rattle.nx_check.specs.declared.siblings.Siblings.{Siblings}
use Rattle.nx_check.specs.declared.walking.Tally.{Tally}
use Rattle.nx_check.specs.Heads.{heads}
use Rattle.nx_check.specs.Shown.{AreShownBy}
use Rattle.nx_check.specs.Siblings.{StandAround}
use Rattle.nx_check.specs.Come.{HasCome}
use Rattle.nx_check.specs.AtRecord.{BreaksAt}
use Rattle.nx_check.specs.Standing.{tour_at, HasWalked, StandsThere, IsPieceRow, HasSiblings}
use Rattle.nx_check.proofs.FitLemmas.{match_true, match_false}
use Rattle.nx_check.proofs.LaidLemmas.{laid_row, laid_shown}
use Rattle.nx_check.proofs.ReachLemmas.{breaks_first, visit_at, here_waits, here_reached, named_here, so_far_at, comes_next, stands_there, reach, forest_behind, StandsAmong, stands_among, never_there, goes_there, siblings_joined, found_joined, nodes_reached, has_roots, other_roots}

module _ {D : Type 0} (d : Ghosts D) (walk : Walk) (tally : Tally) (disk : D) (page levels k : ℕ) (proxy : Proxy) (siblings : Siblings) (was : Image)
    (s : StandsThere d walk tally disk page levels k (λ beside. Kept (Waits proxy) Bare beside) (HasSiblings siblings) was) where
  abbrev pub tour_here : Tour
  tour_here = tour_at s.stage (here_waits s.around proxy s.row)

  abbrev pub visit_here : Visit
  visit_here = visit_at s.stage (here_waits s.around proxy s.row)

  abbrev pub named_one : Named
  named_one = named_here (ByRecord page) proxy

  comes : ComesNext tour_here visit_here named_one
  comes = comes_next s.stage k s.around (ByRecord page) proxy s.row s.place.among s.place.come s.place.namer

  pub record_breaks : (r : PageRule) (blamed : ℕ) → ((base : ℕ) (free used : List ℕ) (tour : Tour) (visit : Visit) (named : Named) → HasCome d walk disk was base free used (all_reached tour.visits) → naming_page named.by ≡ page → named_place named ≡ place_named proxy
      → BreaksAt (replay was) tour visit named r blamed) → IsFirstBroken (replay was) r blamed
  record_breaks r blamed says = breaks_first (replay was) tour_here visit_here named_one r blamed s.walked.kept comes (says s.base s.stage.tour.free (used_in tour_here) tour_here visit_here named_one s.walked.come refl refl)

  pub here_breaks : (r : PageRule) (blamed : ℕ) → BreaksAt (replay was) tour_here visit_here named_one r blamed → IsFirstBroken (replay was) r blamed
  here_breaks r blamed h = breaks_first (replay was) tour_here visit_here named_one r blamed s.walked.kept comes h

  -- what was read of the record
  pub record IsRead (walk_ : Walk) (disk_ : D) (piece : Piece) : Type 0 where
    pub chains : List (List Link)
    pub new : Walked
    pub read : IsReadFirst (replay was) tour_here named_one chains new
    pub body : walked_body new ≡ piece.body.roots
    pub proxies : walked_proxies new ≡ piece.proxies
    pub come : HasCome d walk_ disk_ was s.base s.stage.tour.free (used_in tour_here ++ pages_of_links (links_behind chains)) (all_reached tour_here.visits ++ place_named proxy ∷ [])

  pub interval_read : (mid walk_ : Walk) (disk_mid disk_ : D) (own bytes : List ℕ) (piece : Piece) → bytes ≡ own
      → IsRecordAt (replay was) (place_named proxy) own × (Contains (all_reached tour_here.visits) (place_named proxy) → ⊥) × HasCome d mid disk_mid was s.base s.stage.tour.free (used_in tour_here) (all_reached tour_here.visits ++ place_named proxy ∷ [])
      → ((base : ℕ) (tour : Tour) (named : Named) → HasCome d mid disk_mid was base tour.free (used_in tour) (all_reached tour.visits ++ named_place named ∷ []) → named_place named ≡ place_named proxy → IsRecordAt (replay was) (named_place named) bytes
      → (Contains (all_reached tour.visits) (named_place named) → ⊥) → (chains : List (List Link)) × (new : Walked) × IsReadFirst (replay was) tour named chains new × (walked_body new ≡ piece.body.roots) × (walked_proxies new ≡ piece.proxies)
      × HasCome d walk_ disk_ was base tour.free (used_in tour ++ pages_of_links (links_behind chains)) (all_reached tour.visits ++ named_place named ∷ []))
      → IsRead walk_ disk_ piece
  interval_read mid walk_ disk_mid disk_ own bytes piece e first ok =
      let r = ok s.base tour_here named_one first.2 refl (subst (λ (b : List ℕ). IsRecordAt (replay was) (place_named proxy) b) (sym e) first.0) first.1 in
      record { chains = r.0; new = r.1; read = r.2; body = r.3; proxies = r.4; come = r.5 }

  pub piece_breaks : (mid : Walk) (disk_mid : D) (own bytes : List ℕ) (r : PageRule) (blamed : ℕ) → bytes ≡ own
      → IsRecordAt (replay was) (place_named proxy) own × (Contains (all_reached tour_here.visits) (place_named proxy) → ⊥) × HasCome d mid disk_mid was s.base s.stage.tour.free (used_in tour_here) (all_reached tour_here.visits ++ place_named proxy ∷ [])
      → ((base : ℕ) (tour : Tour) (visit : Visit) (named : Named) → HasCome d mid disk_mid was base tour.free (used_in tour) (all_reached tour.visits ++ named_place named ∷ []) → named_place named ≡ place_named proxy → IsRecordAt (replay was) (named_place named) bytes
      → (Contains (all_reached tour.visits) (named_place named) → ⊥) → BreaksAt (replay was) tour visit named r blamed)
      → IsFirstBroken (replay was) r blamed
  piece_breaks mid disk_mid own bytes r blamed e first says =
      here_breaks r blamed (says s.base tour_here visit_here named_one first.2 refl (subst (λ (b : List ℕ). IsRecordAt (replay was) (place_named proxy) b) (sym e) first.0) first.1)

  module _ (walk_ : Walk) (disk_ : D) (piece : Piece) (trees : AreTrees piece.body.roots) (is : IsRead walk_ disk_ piece) where
    laid : IsPieceRow piece s.around is.new
    laid = laid_row (replay was) is.new piece.body.roots piece.proxies is.read.wait is.read.read is.body is.proxies

    shown : AreShownBy piece.body.roots (walked_forest is.new)
    shown = laid_shown piece.body.roots piece.proxies is.new laid

    among : StandsAmong siblings tally.element s.around s.row
    among = stands_among siblings tally.element s.around proxy s.row s.begins (so_far_at (replay was) s.stage (here_waits s.around proxy s.row) s.walked.kept) s.walked.found

    abbrev pub row_with : Forest
    row_with = joined (joined (before_there s.around) (walked_forest is.new)) (forest_behind s.around s.row)

    pub roots_break : (gapped_width piece.body.roots ≡ proxy.roots → ⊥) → IsFirstBroken (replay was) rule.Roots proxy.page
    roots_break never = here_breaks rule.Roots proxy.page (refl, (is.chains, is.new, is.read, other_roots page proxy is.new piece.body.roots is.body trees never))

    -- whether its roots may join the siblings
    abbrev pub Joins : Siblings → Bool → Bool → Type 0
    Joins t element fit =
        MatchBool fit (MayBeBelow siblings.kind (level_of s.around) row_with × StandAround t element (heads (joined (before_there s.around) (walked_forest is.new))) (heads (forest_behind s.around s.row))) (MayBeBelow siblings.kind (level_of s.around) row_with → ⊥)

    pub joins : (t : Siblings) (element fit : Bool) (g : Gapped) → g ≡ piece.body.roots
        → ((before behind new : Forest) (level : ℕ) → level + levels ≡ 257 → StandAround siblings tally.element (heads before) (heads behind) → MayBeBelow siblings.kind level (joined before behind) → AreShownBy g new
        → MatchBool fit (MayBeBelow siblings.kind level (joined (joined before new) behind) × StandAround t element (heads (joined before new)) (heads behind)) (MayBeBelow siblings.kind level (joined (joined before new) behind) → ⊥))
        → Joins t element fit
    joins t element fit g e judged = judged (before_there s.around) (forest_behind s.around s.row) (walked_forest is.new) (level_of s.around) s.place.level among.stand among.there
        (subst (λ (f : Gapped). AreShownBy f (walked_forest is.new)) (sym e) shown)

    pub document_breaks : (t : Siblings) (element fit : Bool) → gapped_width piece.body.roots ≡ proxy.roots → fit ≡ false → Joins t element fit → IsFirstBroken (replay was) rule.Document proxy.page
    document_breaks t element fit wide not_fit h = here_breaks rule.Document proxy.page (
      refl,
      (
        is.chains,
        is.new,
        is.read,
        has_roots page proxy is.new piece.body.roots is.body trees wide,
        λ may. never_there siblings s.around proxy is.chains is.new s.row s.begins (match_false _ _ fit not_fit h) ((stands_there (replay was) s.stage s.around (ByRecord page) proxy s.row is.chains is.new s.place.come s.walked.kept).0 may),
      ),
    )

    stands : (t : Siblings) (element fit : Bool) → fit ≡ true → Joins t element fit → MayStand named_one visit_here is.chains is.new
    stands t element fit may h =
        (stands_there (replay was) s.stage s.around (ByRecord page) proxy s.row is.chains is.new s.place.come s.walked.kept).1 (goes_there siblings s.around proxy is.chains is.new s.row s.begins (match_true _ _ fit may h).0)

    pub weight_breaks : (t : Siblings) (element fit : Bool) → gapped_width piece.body.roots ≡ proxy.roots → fit ≡ true → Joins t element fit → k < gapped_size piece.body.roots → IsFirstBroken (replay was) rule.Weight proxy.page
    weight_breaks t element fit wide may h heavy = here_breaks rule.Weight proxy.page (
      refl,
      (
        is.chains,
        is.new,
        is.read,
        has_roots page proxy is.new piece.body.roots is.body trees wide,
        stands t element fit may h,
        subst (λ (n : ℕ). n < gapped_size (walked_body is.new)) (sym s.place.among.most) (subst (λ (g : Gapped). k < gapped_size g) (sym is.body) heavy),
      ),
    )

    -- it is reached
    pub interval_reached : (t : Siblings) (now : Tally) (fit : Bool) → gapped_width piece.body.roots ≡ proxy.roots → fit ≡ true → t.kind ≡ siblings.kind → (siblings.kind ≢ Doc → now.element ≡ tally.element) → Joins t now.element fit
        → gapped_size piece.body.roots ≤ k → now.nodes ≡ min (tally.nodes + gapped_nodes piece.body.roots) 4294967295
        → (chains : List (List Link)) × (new : Walked) × IsPieceRow piece s.around new × HasSiblings t (Behind (Kept (Reached (place_named proxy) chains) new Bare) s.around) s.row
        × HasWalked d walk_ now disk_ was s.base s.stage (filled_around s.around (Kept (Reached (place_named proxy) chains) new s.row))
    interval_reached t now fit wide may same other h light counted =
        let next = reach (replay was) s.stage k s.around (ByRecord page) proxy s.row is.chains is.new s.place.among s.place.come s.place.namer s.walked.kept is.read
        (has_roots page proxy is.new piece.body.roots is.body trees wide) (stands t now.element fit may h) (subst (λ (g : Gapped). gapped_size g ≤ k) (sym is.body) light) in
        let stand = (match_true _ _ fit may h).1 in
        let so_far = so_far_at (replay was) s.stage (here_waits s.around proxy s.row) s.walked.kept in (
          is.chains,
          is.new,
          laid,
          siblings_joined siblings t now.element s.around (place_named proxy) is.chains is.new s.row same s.begins stand,
          record {
            come = subst (λ (l : List ℕ). HasCome d walk_ disk_ was s.base s.stage.tour.free l (all_reached (tour_at s.stage (here_reached s.around (place_named proxy) is.chains is.new s.row)).visits)) (sym next.used)
                (subst (λ (l : List RecordPlace). HasCome d walk_ disk_ was s.base s.stage.tour.free (used_in tour_here ++ pages_of_links (links_behind is.chains)) l) (sym next.reached) is.come);
            kept = next.kept;
            counted = nodes_reached s.around proxy (place_named proxy) is.chains is.new s.row piece.body.roots tally.nodes now.nodes shown s.walked.counted counted;
            found = found_joined siblings t tally.element now.element s.around proxy is.chains is.new s.row same s.begins so_far s.walked.found other stand;
          },
        )
