use Rattle.std.proofs.Common.{◌≡◌, ◌+◌, ◌≤◌, List, [], ◌∷◌, length, drop, get_or, refl, sym, ap, ◌∙◌, subst, arith, inl, inr}
use Rattle.std.specs.Prelude.{◌⊎◌}
use Rattle.std.proofs.lemmas.Result.{err_from_is_err_and, on_ok_weaker, on_err_weaker, IfErr-weaker}
use Rattle.std.proofs.lemmas.List.{drop_all}
use Rattle.nx_host.proofs.DiskLemmas.{none_still, still_then}
use Rattle.nx_records.proofs.LeaveLemmas.{leaves_same, leaves_add_up}
use Rattle.nx_piece.specs.declared.piece.Piece.{Piece}
use Rattle.nx_piece.specs.declared.piece.Proxy.{Proxy}
use Rattle.nx_piece.specs.declared.viewing.ItemView.{ItemView}
use Rattle.nx_piece.specs.Gapped.{Gapped, Grow, Gap, proxies_in}
use Rattle.nx_piece.specs.Viewing.{seen_items, seen_tree, begun_with}
use Rattle.nx_piece.specs.Valid.{AreTrees}
use Rattle.nx_piece.proofs.WalkLemmas.{next_at}
use Rattle.nx_hold.specs.Changes.{place_of}
use Rattle.nx_nav.specs.Refusals.{IsRefused}
use Rattle.nx_nav.specs.Walk.{IsIntervalAt, IsTreeOf, AreOf, AreIntervalsOf}
use Rattle.nx_nav.proofs.RefusalLemmas.{is_damaged}
use Rattle.nx_nav.proofs.SplitLemmas.{enough_left, dropped_twice}
use Rattle.nx_names.specs.Look.{RecordEnds, looks_of}
use Rattle.nx_find.specs.Wanted.{is_wanted}
use Rattle.nx_find.specs.Walked.{looks_entering, ShowsWhole, StopsShowing, IsNoSuch}
use Rattle.nx_find.proofs.WalkLemmas.{IsLooker, IsOnWay, stops_at_once, way_begins, way_goes_on, way_stops, way_refused, way_ends, row_shown, stops_behind, split_tree, split_row, split_interval, row_ends, items_end, no_room, tree_stops, tree_refused, tree_shown, interval_stops, interval_not_read, interval_begins, wanted_shown, wanted_stops, wanted_refused, passed_shown}
use Rattle.nx_find.proofs.walking.+walk.Given.{Over}
use Rattle.nx_find.proofs.walking.+walk.Goals as goal
use Rattle.nx_find.proofs.walking.+walk.Goals.{show_tree-then-spot-eq0-via-then-spot-eq0, show_tree-then-spot-eq0-via-else-spot-eq0+then-walk-eq0}

looker : (g : Over) → IsLooker g.T.Looks.Shown
looker g = record { nothing = g.met.T.Looks.nothing; join = g.met.T.Looks.then }

abbrev no_proxy : Proxy
no_proxy = record { page = 0; slot = 0; roots = 0 }

-- an interval
pub show_interval-returns-in_err-piece-clause-stops : goal.show_interval-returns-in_err-piece-clause-stops
show_interval-returns-in_err-piece-clause-stops g t c =
    let p = err_from_is_err_and c.from_residual.result c.from_residual.ensures.1 in
    rw p.1 (interval_stops (is_wanted c.args.wanted.now) c.args.records.now c.piece_at.new.records c.args.disk.now c.piece_at.new.disk (place_of c.args.rid) c.args.roots c.piece_at.ensures.still c.piece_at.ensures.reads)

pub show_interval-returns-in_err-piece-clause-refused : goal.show_interval-returns-in_err-piece-clause-refused
show_interval-returns-in_err-piece-clause-refused g t c =
    let p = err_from_is_err_and c.from_residual.result c.from_residual.ensures.1 in
    rw (p.1, p.2) (interval_not_read (is_wanted c.args.wanted.now) c.args.records.now c.piece_at.new.records c.args.disk.now c.piece_at.new.disk (place_of c.args.rid) c.args.roots c.piece_at.ensures.still c.requires.runs c.args.levels c.args.walk.now.left c.in_err-piece.field-0.0 c.in_err-piece.ensures.refused)

pub show_interval-returns-in_err-enter-clause-stops : goal.show_interval-returns-in_err-enter-clause-stops
show_interval-returns-in_err-enter-clause-stops g t c =
    let p = err_from_is_err_and c.from_residual-in_err-enter.result c.from_residual-in_err-enter.ensures.1 in
    rw p.1 (interval_stops (is_wanted c.args.wanted.now) c.args.records.now c.piece_at.new.records c.args.disk.now c.piece_at.new.disk (place_of c.args.rid) c.args.roots c.piece_at.ensures.still c.piece_at.ensures.reads)

pub show_interval-returns-in_err-proxies-clause-stops : goal.show_interval-returns-in_err-proxies-clause-stops
show_interval-returns-in_err-proxies-clause-stops g t c =
    let root = seen_tree c.in-Tree.root in
    let items = seen_items c.in-Some.beside in
    let e : seen_items c.loop-item.items ≡ Grow root.node root.below items = c.in-Some.ensures ∙ ap (λ (item : ItemView). begun_with item items) c.in-Tree.is in
    let p = err_from_is_err_and c.from_residual-in_err-proxies.result c.from_residual-in_err-proxies.ensures.1 in
    rw p.1
    (way_stops (looker g) {r1 = c.loop-item.records} c.loop-item.invariant.way c.loop-item.invariant.stays c.loop-item.invariant.still (λ l p. refl)
    (AreOf g.D.Disk c.loop-item.records c.loop-item.disk items (drop (proxies_in root.below) c.loop-item.proxies.now)) c.show_tree.new.disk c.in_err-proxies.ensures.stops
    (λ l is. split_tree g.D.Disk c.loop-item.records c.loop-item.records c.loop-item.disk c.loop-item.disk (leaves_same refl) none_still root items c.loop-item.proxies.now l
    (subst (λ f. AreOf g.D.Disk c.loop-item.records c.loop-item.disk f c.loop-item.proxies.now l) e is)))

pub show_interval-returns-in_err-proxies-clause-refused : goal.show_interval-returns-in_err-proxies-clause-refused
show_interval-returns-in_err-proxies-clause-refused g t c =
    let root = seen_tree c.in-Tree.root in
    let items = seen_items c.in-Some.beside in
    let e : seen_items c.loop-item.items ≡ Grow root.node root.below items = c.in-Some.ensures ∙ ap (λ (item : ItemView). begun_with item items) c.in-Tree.is in
    let p = err_from_is_err_and c.from_residual-in_err-proxies.result c.from_residual-in_err-proxies.ensures.1 in
    rw (p.1, p.2)
    (way_refused (looker g) {r1 = c.loop-item.records} c.loop-item.invariant.way c.loop-item.invariant.stays c.loop-item.invariant.still (λ l p. refl)
    (AreOf g.D.Disk c.loop-item.records c.loop-item.disk items (drop (proxies_in root.below) c.loop-item.proxies.now)) c.show_tree.new.records c.show_tree.new.disk c.args.levels c.requires.runs
    (λ l is. split_tree g.D.Disk c.loop-item.records c.loop-item.records c.loop-item.disk c.loop-item.disk (leaves_same refl) none_still root items c.loop-item.proxies.now l
    (subst (λ f. AreOf g.D.Disk c.loop-item.records c.loop-item.disk f c.loop-item.proxies.now l) e is)) c.in_err-proxies.field-0.0 c.in_err-proxies.ensures.refused)

pub show_interval-returns-clause-shown : goal.show_interval-returns-clause-shown
show_interval-returns-clause-shown g t c =
    way_ends (looker g) c.loop-item.invariant.way (λ l is. items_end (is_wanted c.args.wanted.now) (seen_items c.loop-item.items) c.loop-item.proxies.now l is (rw c.in_default.is at c.split_first.ensures)) c.leave.new.self c.leave.ensures refl refl

pub show_interval-show_tree-requires : goal.show_interval-show_tree-requires
show_interval-show_tree-requires g t c =
    let items = seen_items c.in-Some.beside in
    let root = seen_tree c.in-Tree.root in
    let e : seen_items c.loop-item.items ≡ Grow root.node root.below items = c.in-Some.ensures ∙ ap (λ (item : ItemView). begun_with item items) c.in-Tree.is in
    let same = ap proxies_in e in
    let fits = c.loop-item.invariant.fits in
    λ κs le. (omega arith, (le.0, (le.1, ((c.loop-item.invariant.stays).ended_stays ∙ c.requires.runs, omega arith))))

pub show_interval-loop-item-init : goal.show_interval-loop-item-init
show_interval-loop-item-init g t c =
    let roots : seen_items c.roots-items.result ≡ c.in_ok-piece.piece.body.roots = c.roots-items.ensures ∙ ap (λ (p : Piece). p.body.roots) c.piece-2.view_is in
    let proxies : c.as_slice-proxies.result.now ≡ c.in_ok-piece.piece.proxies = c.as_slice-proxies.ensures ∙ ap (λ (p : Piece). p.proxies) c.piece-2.view_is in
    let valid = c.in_ok-piece.ensures.valid in
    record {
      still = c.piece_at.ensures.still;
      stays = c.in_ok-piece.ensures.stays.1;
      trees = subst AreTrees (sym roots) valid.body.trees;
      fits = let counted : proxies_in c.in_ok-piece.piece.body.roots ≡ length c.in_ok-piece.piece.proxies = valid.body.counted in let a = ap proxies_in roots in let b = ap length proxies in omega arith;
      way = subst (λ (f : Gapped). IsOnWay g.D.Disk g.T.Looks.Shown (is_wanted c.args.wanted.now) (IsIntervalAt g.D.Disk c.args.records.now c.args.disk.now (place_of c.args.rid) c.args.roots) (looks_entering (is_wanted c.args.wanted.now)) (RecordEnds ∷ []) (AreOf g.D.Disk c.piece_at.new.records c.piece_at.new.disk f c.as_slice-proxies.result.now) c.args.records.now c.args.walk.now.looks c.args.disk.now c.args.walk.now.left c.enter.new.self c.piece_at.new.disk c.args.walk.now.left) (sym roots)
          (subst (λ (ps : List Proxy). IsOnWay g.D.Disk g.T.Looks.Shown (is_wanted c.args.wanted.now) (IsIntervalAt g.D.Disk c.args.records.now c.args.disk.now (place_of c.args.rid) c.args.roots) (looks_entering (is_wanted c.args.wanted.now)) (RecordEnds ∷ []) (AreOf g.D.Disk c.piece_at.new.records c.piece_at.new.disk c.in_ok-piece.piece.body.roots ps) c.args.records.now c.args.walk.now.looks c.args.disk.now c.args.walk.now.left c.enter.new.self c.piece_at.new.disk c.args.walk.now.left) (sym proxies)
          (interval_begins (is_wanted c.args.wanted.now) c.args.records.now c.piece_at.new.records c.args.disk.now c.piece_at.new.disk (place_of c.args.rid) c.args.roots c.piece_at.ensures.still c.args.walk.now.left c.in_ok-piece.piece c.args.walk.now.looks c.enter.new.self c.piece_at.ensures.reads c.in_ok-piece.ensures.stays.1 c.in_ok-piece.ensures.ok c.in_ok-enter.ensures));
    }

pub show_interval-loop-item-preserved-in_ok-proxies : goal.show_interval-loop-item-preserved-in_ok-proxies
show_interval-loop-item-preserved-in_ok-proxies g t c =
    let root = seen_tree c.in-Tree.root in
    let items = seen_items c.in-Some.beside in
    let e : seen_items c.loop-item.items ≡ Grow root.node root.below items = c.in-Some.ensures ∙ ap (λ (item : ItemView). begun_with item items) c.in-Tree.is in
    let behind : drop (proxies_in root.below) c.loop-item.proxies.now ≡ c.in_ok-proxies.proxies.now = sym c.in_ok-proxies.ensures.behind in
    record {
      still = still_then c.loop-item.invariant.still c.show_tree.ensures.still;
      stays = leaves_add_up c.loop-item.invariant.stays c.in_ok-proxies.ensures.stays;
      trees = let trees : AreTrees (Grow root.node root.below items) = subst AreTrees e c.loop-item.invariant.trees in trees;
      fits = let fits : proxies_in (seen_items c.loop-item.items) ≤ length c.loop-item.proxies.now = c.loop-item.invariant.fits in
          enough_left c.loop-item.proxies.now c.in_ok-proxies.proxies.now (proxies_in root.below) (proxies_in items) (proxies_in (seen_items c.loop-item.items)) (sym behind) (sym (ap proxies_in e)) fits;
      way = subst (λ (ps : List Proxy). IsOnWay g.D.Disk g.T.Looks.Shown (is_wanted c.args.wanted.now) (IsIntervalAt g.D.Disk c.args.records.now c.args.disk.now (place_of c.args.rid) c.args.roots) (looks_entering (is_wanted c.args.wanted.now)) (RecordEnds ∷ []) (AreOf g.D.Disk c.show_tree.new.records c.show_tree.new.disk items ps)
          c.args.records.now c.args.walk.now.looks c.args.disk.now c.args.walk.now.left c.show_tree.new.walk.looks c.show_tree.new.disk c.show_tree.new.walk.left) behind
          (way_goes_on (looker g) {r1 = c.loop-item.records} c.loop-item.invariant.way c.loop-item.invariant.stays c.loop-item.invariant.still (λ l p. refl)
          (AreOf g.D.Disk c.show_tree.new.records c.show_tree.new.disk items (drop (proxies_in root.below) c.loop-item.proxies.now)) c.show_tree.new.walk.looks c.show_tree.new.disk c.show_tree.new.walk.left c.in_ok-proxies.ensures.shown
          (λ l is. split_tree g.D.Disk c.loop-item.records c.show_tree.new.records c.loop-item.disk c.show_tree.new.disk c.in_ok-proxies.ensures.stays c.show_tree.ensures.still root items c.loop-item.proxies.now l
          (subst (λ f. AreOf g.D.Disk c.loop-item.records c.loop-item.disk f c.loop-item.proxies.now l) e is)));
    }

-- items
pub show_items-loop-item-init : goal.show_items-loop-item-init
show_items-loop-item-init g t c = record { still = none_still; stays = leaves_same refl; passed = (0, refl, omega arith); way = way_begins (looker g) }

pub show_items-show_tree-requires : goal.show_items-show_tree-requires
show_items-show_tree-requires g t c =
    let items = seen_items c.in-Some.beside in
    let passed = c.loop-item.invariant.passed in
    let tree = seen_tree c.in-Tree.tree in
    let e : seen_items c.loop-item.left ≡ Grow tree.node tree.below items = c.in-Some.ensures ∙ ap (λ (item : ItemView). begun_with item items) c.in-Tree.is in
    let fits : proxies_in (seen_items c.loop-item.left) ≤ length c.loop-item.rest.now =
    enough_left c.args.proxies.now c.loop-item.rest.now passed.0 (proxies_in (seen_items c.loop-item.left)) (proxies_in (seen_items c.args.items)) passed.1 passed.2 c.requires.fits in
    let same = ap proxies_in e in
    λ κs le. (omega arith, (le.0, (le.1, ((c.loop-item.invariant.stays).ended_stays ∙ c.requires.runs, omega arith))))

pub show_items-returns-in_err-rest-in-Tree-clause-stops : goal.show_items-returns-in_err-rest-in-Tree-clause-stops
show_items-returns-in_err-rest-in-Tree-clause-stops g t c =
    let items = seen_items c.in-Some.beside in
    let tree = seen_tree c.in-Tree.tree in
    let e : seen_items c.loop-item.left ≡ Grow tree.node tree.below items = c.in-Some.ensures ∙ ap (λ (item : ItemView). begun_with item items) c.in-Tree.is in
    let p = err_from_is_err_and c.from_residual.result c.from_residual.ensures.1 in
    rw p.1
    (way_stops (looker g) {r1 = c.loop-item.records} c.loop-item.invariant.way c.loop-item.invariant.stays c.loop-item.invariant.still (λ l p. refl)
    (AreOf g.D.Disk c.loop-item.records c.loop-item.disk items (drop (proxies_in tree.below) c.loop-item.rest.now)) c.show_tree.new.disk c.in_err-rest-in-Tree.ensures.stops
    (λ l is. split_tree g.D.Disk c.loop-item.records c.loop-item.records c.loop-item.disk c.loop-item.disk (leaves_same refl) none_still tree items c.loop-item.rest.now l
    (subst (λ f. AreOf g.D.Disk c.loop-item.records c.loop-item.disk f c.loop-item.rest.now l) e is)))

pub show_items-returns-in_err-rest-in-Tree-clause-refused : goal.show_items-returns-in_err-rest-in-Tree-clause-refused
show_items-returns-in_err-rest-in-Tree-clause-refused g t c =
    let items = seen_items c.in-Some.beside in
    let tree = seen_tree c.in-Tree.tree in
    let e : seen_items c.loop-item.left ≡ Grow tree.node tree.below items = c.in-Some.ensures ∙ ap (λ (item : ItemView). begun_with item items) c.in-Tree.is in
    let p = err_from_is_err_and c.from_residual.result c.from_residual.ensures.1 in
    rw (p.1, p.2)
    (way_refused (looker g) {r1 = c.loop-item.records} c.loop-item.invariant.way c.loop-item.invariant.stays c.loop-item.invariant.still (λ l p. refl)
    (AreOf g.D.Disk c.loop-item.records c.loop-item.disk items (drop (proxies_in tree.below) c.loop-item.rest.now)) c.show_tree.new.records c.show_tree.new.disk c.args.spot.levels c.requires.runs
    (λ l is. split_tree g.D.Disk c.loop-item.records c.loop-item.records c.loop-item.disk c.loop-item.disk (leaves_same refl) none_still tree items c.loop-item.rest.now l
    (subst (λ f. AreOf g.D.Disk c.loop-item.records c.loop-item.disk f c.loop-item.rest.now l) e is)) c.in_err-rest-in-Tree.field-0.0 c.in_err-rest-in-Tree.ensures.refused)

pub show_items-loop-item-preserved-in_ok-rest-in-Tree : goal.show_items-loop-item-preserved-in_ok-rest-in-Tree
show_items-loop-item-preserved-in_ok-rest-in-Tree g t c =
    let items = seen_items c.in-Some.beside in
    let passed = c.loop-item.invariant.passed in
    let tree = seen_tree c.in-Tree.tree in
    let e : seen_items c.loop-item.left ≡ Grow tree.node tree.below items = c.in-Some.ensures ∙ ap (λ (item : ItemView). begun_with item items) c.in-Tree.is in
    let behind : drop (proxies_in tree.below) c.loop-item.rest.now ≡ c.in_ok-rest-in-Tree.rest.now = sym c.in_ok-rest-in-Tree.ensures.behind in
    let same = ap proxies_in e in
    let sum = passed.2 in
    record {
      still = still_then c.loop-item.invariant.still c.show_tree.ensures.still;
      stays = leaves_add_up c.loop-item.invariant.stays c.in_ok-rest-in-Tree.ensures.stays;
      passed = (passed.0 + proxies_in tree.below, sym behind ∙ dropped_twice c.args.proxies.now c.loop-item.rest.now passed.0 (proxies_in tree.below) passed.1, omega arith);
      way = subst (λ (ps : List Proxy). IsOnWay g.D.Disk g.T.Looks.Shown (is_wanted c.args.wanted.now) (AreOf g.D.Disk c.args.records.now c.args.disk.now (seen_items c.args.items) c.args.proxies.now) (looks_of (is_wanted c.args.wanted.now)) [] (AreOf g.D.Disk c.show_tree.new.records c.show_tree.new.disk items ps)
          c.args.records.now c.args.walk.now.looks c.args.disk.now c.args.walk.now.left c.show_tree.new.walk.looks c.show_tree.new.disk c.show_tree.new.walk.left) behind
          (way_goes_on (looker g) {r1 = c.loop-item.records} c.loop-item.invariant.way c.loop-item.invariant.stays c.loop-item.invariant.still (λ l p. refl)
          (AreOf g.D.Disk c.show_tree.new.records c.show_tree.new.disk items (drop (proxies_in tree.below) c.loop-item.rest.now)) c.show_tree.new.walk.looks c.show_tree.new.disk c.show_tree.new.walk.left c.in_ok-rest-in-Tree.ensures.shown
          (λ l is. split_tree g.D.Disk c.loop-item.records c.show_tree.new.records c.loop-item.disk c.show_tree.new.disk c.in_ok-rest-in-Tree.ensures.stays c.show_tree.ensures.still tree items c.loop-item.rest.now l
          (subst (λ f. AreOf g.D.Disk c.loop-item.records c.loop-item.disk f c.loop-item.rest.now l) e is)));
    }

pub show_items-returns-in_err-show_row-in-Run-clause-stops : goal.show_items-returns-in_err-show_row-in-Run-clause-stops
show_items-returns-in_err-show_row-in-Run-clause-stops g t c =
    let items = seen_items c.in-Some.beside in
    let e : seen_items c.loop-item.left ≡ Gap c.in-Run.count items = c.in-Some.ensures ∙ ap (λ (item : ItemView). begun_with item items) c.in-Run.is in
    let p = err_from_is_err_and c.from_residual-in_err-show_row-in-Run.result c.from_residual-in_err-show_row-in-Run.ensures.1 in
    let stops = subst (λ (ps : List Proxy). StopsShowing g.D.Disk (AreIntervalsOf g.D.Disk c.loop-item.records c.loop-item.disk ps) (looks_of (is_wanted c.args.wanted.now)) c.loop-item.records c.loop-item.disk c.show_row.new.disk) c.split_at.ensures.front c.in_err-show_row-in-Run.ensures.stops in
    rw p.1
    (way_stops (looker g) {r1 = c.loop-item.records} c.loop-item.invariant.way c.loop-item.invariant.stays c.loop-item.invariant.still (λ l p. refl)
    (AreOf g.D.Disk c.loop-item.records c.loop-item.disk items (drop c.in-Run.count c.loop-item.rest.now)) c.show_row.new.disk stops
    (λ l is. split_row g.D.Disk c.loop-item.records c.loop-item.records c.loop-item.disk c.loop-item.disk (leaves_same refl) none_still c.in-Run.count items c.loop-item.rest.now l
    (subst (λ f. AreOf g.D.Disk c.loop-item.records c.loop-item.disk f c.loop-item.rest.now l) e is)))

pub show_items-returns-in_err-show_row-in-Run-clause-refused : goal.show_items-returns-in_err-show_row-in-Run-clause-refused
show_items-returns-in_err-show_row-in-Run-clause-refused g t c =
    let items = seen_items c.in-Some.beside in
    let e : seen_items c.loop-item.left ≡ Gap c.in-Run.count items = c.in-Some.ensures ∙ ap (λ (item : ItemView). begun_with item items) c.in-Run.is in
    let p = err_from_is_err_and c.from_residual-in_err-show_row-in-Run.result c.from_residual-in_err-show_row-in-Run.ensures.1 in
    rw (p.1, p.2)
    (way_refused (looker g) {r1 = c.loop-item.records} c.loop-item.invariant.way c.loop-item.invariant.stays c.loop-item.invariant.still (λ l p. refl)
    (AreOf g.D.Disk c.loop-item.records c.loop-item.disk items (drop c.in-Run.count c.loop-item.rest.now)) c.show_row.new.records c.show_row.new.disk c.args.spot.levels c.requires.runs
    (λ l is. split_row g.D.Disk c.loop-item.records c.loop-item.records c.loop-item.disk c.loop-item.disk (leaves_same refl) none_still c.in-Run.count items c.loop-item.rest.now l
    (subst (λ f. AreOf g.D.Disk c.loop-item.records c.loop-item.disk f c.loop-item.rest.now l) e is)) c.in_err-show_row-in-Run.field-0.0
    (subst (λ (ps : List Proxy). IsRefused g.D.Disk ⊥ ⊥ (IsNoSuch (AreIntervalsOf g.D.Disk c.loop-item.records c.loop-item.disk ps) (looks_of (is_wanted c.args.wanted.now)) c.args.spot.levels c.loop-item.walk.left) c.in_err-show_row-in-Run.field-0.0
    c.loop-item.records c.show_row.new.records c.loop-item.disk c.show_row.new.disk) c.split_at.ensures.front c.in_err-show_row-in-Run.ensures.refused))

pub show_items-loop-item-preserved : goal.show_items-loop-item-preserved
show_items-loop-item-preserved g t c =
    let items = seen_items c.in-Some.beside in
    let passed = c.loop-item.invariant.passed in
    let e : seen_items c.loop-item.left ≡ Gap c.in-Run.count items = c.in-Some.ensures ∙ ap (λ (item : ItemView). begun_with item items) c.in-Run.is in
    let shown = subst (λ (ps : List Proxy). ShowsWhole g.D.Disk g.T.Looks.Shown (AreIntervalsOf g.D.Disk c.loop-item.records c.loop-item.disk ps) (looks_of (is_wanted c.args.wanted.now)) c.loop-item.records c.loop-item.walk.looks c.loop-item.disk c.loop-item.walk.left c.show_row.new.walk.looks c.show_row.new.disk c.show_row.new.walk.left)
    c.split_at.ensures.front c.in_ok-show_row-in-Run.ensures.shown in
    let behind : drop c.in-Run.count c.loop-item.rest.now ≡ c.split_at.result.1.now = sym c.split_at.ensures.back in
    let same = ap proxies_in e in
    let sum = passed.2 in
    record {
      still = still_then c.loop-item.invariant.still c.show_row.ensures.still;
      stays = leaves_add_up c.loop-item.invariant.stays c.in_ok-show_row-in-Run.ensures.stays;
      passed = (passed.0 + c.in-Run.count, sym behind ∙ dropped_twice c.args.proxies.now c.loop-item.rest.now passed.0 c.in-Run.count passed.1, omega arith);
      way = subst (λ (ps : List Proxy). IsOnWay g.D.Disk g.T.Looks.Shown (is_wanted c.args.wanted.now) (AreOf g.D.Disk c.args.records.now c.args.disk.now (seen_items c.args.items) c.args.proxies.now) (looks_of (is_wanted c.args.wanted.now)) [] (AreOf g.D.Disk c.show_row.new.records c.show_row.new.disk items ps)
          c.args.records.now c.args.walk.now.looks c.args.disk.now c.args.walk.now.left c.show_row.new.walk.looks c.show_row.new.disk c.show_row.new.walk.left) behind
          (way_goes_on (looker g) {r1 = c.loop-item.records} c.loop-item.invariant.way c.loop-item.invariant.stays c.loop-item.invariant.still (λ l p. refl)
          (AreOf g.D.Disk c.show_row.new.records c.show_row.new.disk items (drop c.in-Run.count c.loop-item.rest.now)) c.show_row.new.walk.looks c.show_row.new.disk c.show_row.new.walk.left shown
          (λ l is. split_row g.D.Disk c.loop-item.records c.show_row.new.records c.loop-item.disk c.show_row.new.disk c.in_ok-show_row-in-Run.ensures.stays c.show_row.ensures.still c.in-Run.count items c.loop-item.rest.now l
          (subst (λ f. AreOf g.D.Disk c.loop-item.records c.loop-item.disk f c.loop-item.rest.now l) e is)));
    }

pub show_items-returns-clause-shown : goal.show_items-returns-clause-shown
show_items-returns-clause-shown g t c = row_shown (looker g) c.loop-item.invariant.way (λ l is. items_end (is_wanted c.args.wanted.now) (seen_items c.loop-item.left) c.loop-item.rest.now l is (rw c.in_default.is at c.split_first.ensures))

-- a row
pub show_row-loop-proxy-init : goal.show_row-loop-proxy-init
show_row-loop-proxy-init g t c = record { still = none_still; stays = leaves_same refl; way = way_begins (looker g) }

pub show_row-show_proxy-requires : goal.show_row-show_proxy-requires
show_row-show_proxy-requires g t c = λ κs le. (omega arith, (le.0, (le.1, (c.loop-proxy.invariant.stays).ended_stays ∙ c.requires.runs)))

pub show_row-returns-in_err-show_proxy-clause-stops : goal.show_row-returns-in_err-show_proxy-clause-stops
show_row-returns-in_err-show_proxy-clause-stops g t c =
    let i = c.loop-proxy.proxy-index in
    let proxy = get_or c.args.proxies.now i no_proxy in
    let d : drop i c.args.proxies.now ≡ proxy ∷ drop (i + 1) c.args.proxies.now = next_at c.args.proxies.now i no_proxy c.loop-proxy-test.true in
    let p = err_from_is_err_and c.from_residual.result c.from_residual.ensures.1 in
    rw p.1
    (way_stops (looker g) {r1 = c.loop-proxy.records} c.loop-proxy.invariant.way c.loop-proxy.invariant.stays c.loop-proxy.invariant.still (λ l p. refl)
    (AreIntervalsOf g.D.Disk c.loop-proxy.records c.loop-proxy.disk (drop (i + 1) c.args.proxies.now)) c.show_proxy.new.disk c.in_err-show_proxy.ensures.stops
    (λ l is. split_interval g.D.Disk c.loop-proxy.records c.loop-proxy.records c.loop-proxy.disk c.loop-proxy.disk (leaves_same refl) none_still proxy (drop (i + 1) c.args.proxies.now) l (subst (λ (ps : List Proxy). AreIntervalsOf g.D.Disk c.loop-proxy.records c.loop-proxy.disk ps l) d is)))

pub show_row-returns-in_err-show_proxy-clause-refused : goal.show_row-returns-in_err-show_proxy-clause-refused
show_row-returns-in_err-show_proxy-clause-refused g t c =
    let i = c.loop-proxy.proxy-index in
    let proxy = get_or c.args.proxies.now i no_proxy in
    let d : drop i c.args.proxies.now ≡ proxy ∷ drop (i + 1) c.args.proxies.now = next_at c.args.proxies.now i no_proxy c.loop-proxy-test.true in
    let p = err_from_is_err_and c.from_residual.result c.from_residual.ensures.1 in
    rw (p.1, p.2)
    (way_refused (looker g) {r1 = c.loop-proxy.records} c.loop-proxy.invariant.way c.loop-proxy.invariant.stays c.loop-proxy.invariant.still (λ l p. refl)
    (AreIntervalsOf g.D.Disk c.loop-proxy.records c.loop-proxy.disk (drop (i + 1) c.args.proxies.now)) c.show_proxy.new.records c.show_proxy.new.disk c.args.levels c.requires.runs
    (λ l is. split_interval g.D.Disk c.loop-proxy.records c.loop-proxy.records c.loop-proxy.disk c.loop-proxy.disk (leaves_same refl) none_still proxy (drop (i + 1) c.args.proxies.now) l (subst (λ (ps : List Proxy). AreIntervalsOf g.D.Disk c.loop-proxy.records c.loop-proxy.disk ps l) d is))
    c.in_err-show_proxy.field-0.0 c.in_err-show_proxy.ensures.refused)

pub show_row-loop-proxy-preserved : goal.show_row-loop-proxy-preserved
show_row-loop-proxy-preserved g t c =
    let i = c.loop-proxy.proxy-index in
    let proxy = get_or c.args.proxies.now i no_proxy in
    let d : drop i c.args.proxies.now ≡ proxy ∷ drop (i + 1) c.args.proxies.now = next_at c.args.proxies.now i no_proxy c.loop-proxy-test.true in
    record {
      still = still_then c.loop-proxy.invariant.still c.show_proxy.ensures.still;
      stays = leaves_add_up c.loop-proxy.invariant.stays c.in_ok-show_proxy.ensures.stays;
      way = way_goes_on (looker g) {r1 = c.loop-proxy.records} c.loop-proxy.invariant.way c.loop-proxy.invariant.stays c.loop-proxy.invariant.still (λ l p. refl)
          (AreIntervalsOf g.D.Disk c.show_proxy.new.records c.show_proxy.new.disk (drop (i + 1) c.args.proxies.now)) c.show_proxy.new.walk.looks c.show_proxy.new.disk c.show_proxy.new.walk.left c.in_ok-show_proxy.ensures.shown
          (λ l is. split_interval g.D.Disk c.loop-proxy.records c.show_proxy.new.records c.loop-proxy.disk c.show_proxy.new.disk c.in_ok-show_proxy.ensures.stays c.show_proxy.ensures.still proxy (drop (i + 1) c.args.proxies.now) l
          (subst (λ (ps : List Proxy). AreIntervalsOf g.D.Disk c.loop-proxy.records c.loop-proxy.disk ps l) d is));
    }

pub show_row-returns-clause-shown : goal.show_row-returns-clause-shown
show_row-returns-clause-shown g t c =
    row_shown (looker g) c.loop-proxy.invariant.way (λ l is. row_ends (is_wanted c.args.wanted.now) (drop c.loop-proxy.proxy-index c.args.proxies.now) l is (drop_all c.loop-proxy.proxy-index c.args.proxies.now (let end = c.loop-proxy-test.false in omega arith)))

-- a proxy
pub show_proxy-returns-then-wants-clause-shown : goal.show_proxy-returns-then-wants-clause-shown
show_proxy-returns-then-wants-clause-shown g t c =
    on_ok_weaker c.show_interval.result (λ has. wanted_shown g.D.Disk (is_wanted c.args.wanted.now) c.args.records.now c.args.disk.now (place_of c.args.rid) c.args.roots (sym c.wants.ensures ∙ c.if-wants.true) has) c.show_interval.ensures.shown

pub show_proxy-returns-then-wants-clause-stops : goal.show_proxy-returns-then-wants-clause-stops
show_proxy-returns-then-wants-clause-stops g t c =
    on_err_weaker c.show_interval.result (λ has. wanted_stops g.D.Disk (is_wanted c.args.wanted.now) c.args.records.now c.args.disk.now (place_of c.args.rid) c.args.roots (sym c.wants.ensures ∙ c.if-wants.true) has) c.show_interval.ensures.stops

pub show_proxy-returns-then-wants-clause-refused : goal.show_proxy-returns-then-wants-clause-refused
show_proxy-returns-then-wants-clause-refused g t c =
    IfErr-weaker c.show_interval.result _ _ (λ e refused. wanted_refused g.D.Disk (is_wanted c.args.wanted.now) c.args.records.now c.args.disk.now (place_of c.args.rid) c.args.roots (sym c.wants.ensures ∙ c.if-wants.true) c.requires.runs
    c.show_interval.new.records c.show_interval.new.disk c.args.levels c.args.walk.now.left e refused) c.show_interval.ensures.refused

pub show_proxy-returns-clause-shown : goal.show_proxy-returns-clause-shown
show_proxy-returns-clause-shown g t c =
    passed_shown g.D.Disk (is_wanted c.args.wanted.now) c.args.records.now c.args.disk.now (place_of c.args.rid) c.args.roots (sym c.wants.ensures ∙ c.if-wants.false) c.in_ok-pass.ensures

pub show_proxy-returns-in_err-pass-clause-stops : goal.show_proxy-returns-in_err-pass-clause-stops
show_proxy-returns-in_err-pass-clause-stops g t c =
    let p = err_from_is_err_and c.from_residual.result c.from_residual.ensures.1 in
    rw p.1 (stops_at_once g.D.Disk (is_wanted c.args.wanted.now) (IsIntervalAt g.D.Disk c.args.records.now c.args.disk.now (place_of c.args.rid) c.args.roots) (looks_of (is_wanted c.args.wanted.now)) c.args.records.now c.args.disk.now)

-- a tree
pub show_tree-returns-then-spot-eq0-clause-stops : goal.show_tree-returns-then-spot-eq0-clause-stops
show_tree-returns-then-spot-eq0-clause-stops g t c = stops_at_once g.D.Disk (is_wanted c.args.wanted.now) (IsTreeOf g.D.Disk c.args.records.now c.args.disk.now (seen_tree c.args.tree) c.args.proxies.now) (looks_of (is_wanted c.args.wanted.now)) c.args.records.now c.args.disk.now

pub show_tree-returns-then-spot-eq0-clause-refused : goal.show_tree-returns-then-spot-eq0-clause-refused
show_tree-returns-then-spot-eq0-clause-refused g t c =
    let none : (c.args.spot.levels ≡ 0) ⊎ (c.args.walk.now.left ≡ 0) = elim c.then-spot-eq0.branch [
      | show_tree-then-spot-eq0-via-then-spot-eq0 w ↦ inl w.if-spot-eq0.true
      | show_tree-then-spot-eq0-via-else-spot-eq0+then-walk-eq0 w ↦ inr w.if-walk-eq0.true
    ] in
    is_damaged g.D.Disk ⊥ ⊥ (IsNoSuch (IsTreeOf g.D.Disk c.args.records.now c.args.disk.now (seen_tree c.args.tree) c.args.proxies.now) (looks_of (is_wanted c.args.wanted.now)) c.args.spot.levels c.args.walk.now.left)
    {r0 = c.args.records.now} {r1 = c.args.records.now} {r2 = c.damaged.new.records} c.args.disk.now c.args.disk.now c.damaged.result c.damaged.ensures.result c.requires.runs (leaves_same refl) c.damaged.ensures.ends
    (no_room g.D.Disk (is_wanted c.args.wanted.now) c.args.records.now c.args.disk.now (seen_tree c.args.tree) c.args.proxies.now c.args.spot.levels c.args.walk.now.left none)

pub show_tree-returns-in_err-begin-clause-stops : goal.show_tree-returns-in_err-begin-clause-stops
show_tree-returns-in_err-begin-clause-stops g t c =
    let p = err_from_is_err_and c.from_residual.result c.from_residual.ensures.1 in
    rw p.1 (stops_at_once g.D.Disk (is_wanted c.args.wanted.now) (IsTreeOf g.D.Disk c.args.records.now c.args.disk.now (seen_tree c.args.tree) c.args.proxies.now) (looks_of (is_wanted c.args.wanted.now)) c.args.records.now c.args.disk.now)

pub show_tree-returns-in_err-behind-clause-stops : goal.show_tree-returns-in_err-behind-clause-stops
show_tree-returns-in_err-behind-clause-stops g t c =
    let p = err_from_is_err_and c.from_residual-in_err-behind.result c.from_residual-in_err-behind.ensures.1 in
    rw p.1 (tree_stops g.D.Disk (is_wanted c.args.wanted.now) c.args.records.now c.args.disk.now (seen_tree c.args.tree) c.args.proxies.now c.show_items.new.disk c.in_err-behind.ensures.stops)

pub show_tree-returns-in_err-behind-clause-refused : goal.show_tree-returns-in_err-behind-clause-refused
show_tree-returns-in_err-behind-clause-refused g t c =
    let p = err_from_is_err_and c.from_residual-in_err-behind.result c.from_residual-in_err-behind.ensures.1 in
    rw (p.1, p.2) (tree_refused g.D.Disk (is_wanted c.args.wanted.now) c.args.records.now c.args.disk.now (seen_tree c.args.tree) c.args.proxies.now c.args.spot.levels c.args.walk.now.left c.requires.runs c.show_items.new.records c.show_items.new.disk c.in_err-behind.field-0.0 c.in_err-behind.ensures.refused)

pub show_tree-returns-in_err-end-clause-stops : goal.show_tree-returns-in_err-end-clause-stops
show_tree-returns-in_err-end-clause-stops g t c =
    let p = err_from_is_err_and c.from_residual-in_err-end.result c.from_residual-in_err-end.ensures.1 in
    rw p.1 (tree_stops g.D.Disk (is_wanted c.args.wanted.now) c.args.records.now c.args.disk.now (seen_tree c.args.tree) c.args.proxies.now c.show_items.new.disk (stops_behind c.in_ok-behind.ensures.shown))

pub show_tree-returns-clause-shown : goal.show_tree-returns-clause-shown
show_tree-returns-clause-shown g t c =
    tree_shown g.D.Disk (is_wanted c.args.wanted.now) c.args.records.now c.args.disk.now (seen_tree c.args.tree) c.args.proxies.now (looker g) c.args.walk.now.left c.show_items.new.walk.left c.args.walk.now.looks c.begin.new.self c.show_items.new.walk.looks c.end.new.self c.show_items.new.disk
    c.in_ok-begin.ensures c.in_ok-behind.ensures.shown c.in_ok-end.ensures (omega arith)
