use Rattle.std.proofs.Common.{◌≡◌, ◌+◌, ◌-◌, ◌≤◌, List, [], ◌∷◌, ◌++◌, length, take, drop, get_or, refl, sym, ap, ◌∙◌, subst, arith, inl, inr}
use Rattle.std.specs.Prelude.{◌⊎◌, Contains, IsSome}
use Rattle.std.proofs.lemmas.Result.{err_from_is_err_and}
use Rattle.std.proofs.lemmas.List.{drop_all}
use Rattle.nx_host.proofs.DiskLemmas.{none_still}
use Rattle.nx_records.proofs.LeaveLemmas.{leaves_same, leaves_add_up}
use Rattle.nx_piece.specs.declared.piece.Piece.{Piece}
use Rattle.nx_piece.specs.declared.piece.Proxy.{Proxy}
use Rattle.nx_piece.specs.declared.viewing.ItemView.{ItemView}
use Rattle.nx_piece.specs.Gapped.{Gapped, Grow, Gap, gapped_size, gapped_weight, proxies_in}
use Rattle.nx_piece.specs.Viewing.{seen_items, seen_tree, begun_with}
use Rattle.nx_piece.specs.Valid.{AreFar, AreTrees, HaveRoots}
use Rattle.nx_piece.proofs.LocateLemmas.{ranged_drop, ranged_take}
use Rattle.nx_piece.proofs.WalkLemmas.{next_at}
use Rattle.nx_layouts.specs.Layout.{Layout}
use Rattle.nx_hold.specs.Changes.{place_of, place_named}
use Rattle.nx_nav.specs.Refusals.{IsRefused}
use Rattle.nx_nav.specs.Visited.{HasVisited}
use Rattle.nx_nav.specs.Walk.{Visits, HasTold, HasStopped, IsNone, IsIntervalAt, IsTreeOf, AreOf, AreIntervalsOf}
use Rattle.nx_nav.specs.Steps.{Close}
use Rattle.nx_nav.proofs.EarlyLemmas.{IsNearing, below_root, interval_unread, interval_read, roots_tree, roots_goes, roots_read, roots_near, items_tree, items_tree_goes, items_row, items_row_goes, items_read, row_interval, row_goes, row_read, row_near, tree_first, tree_near}
use Rattle.nx_nav.proofs.WayLemmas.{IsTeller, IsSplit, IsOnWay, told_stands, way_begins, way_goes_on, way_stops, way_refused, way_ends}
use Rattle.nx_nav.proofs.RefusalLemmas.{is_damaged}
use Rattle.nx_nav.proofs.VisitLemmas.{was_new, was_old}
use Rattle.nx_nav.proofs.TellLemmas.{no_room, no_such_tree, no_other_interval, stops_at_once, node_stops, node_refused, tree_told, tree_stops, tree_not_closed, tree_refused, asked_on, interval_reads, interval_not_read, interval_begins}
use Rattle.nx_nav.proofs.SplitLemmas.{split_tree, split_row, split_interval, row_ends, items_end, enough_left, dropped_twice}
use Rattle.nx_nav.proofs.walking.+walk.Given.{Over}
use Rattle.nx_nav.proofs.walking.+walk.Goals as goal
use Rattle.nx_nav.proofs.walking.+walk.Goals.{tell_tree-then-spot-eq0-via-then-spot-eq0, tell_tree-then-spot-eq0-via-else-spot-eq0+then-walk-eq0}

teller : (g : Over) → IsTeller g.D.Disk g.T.Tells.Told g.T.Tells.Unwritten
teller g = record {
  asked = g.met.T.Tells.asked;
  join = g.met.T.Tells.then;
  keeps = g.met.T.Tells.keeps;
  fewer = g.met.T.Tells.fewer_images;
  faults = g.met.T.Tells.faults_later;
  unwritten = g.met.T.Tells.unwritten_later;
}

nearing : (g : Over) → IsNearing g.D.Disk g.T.Tells.Told g.T.Tells.Near
nearing g = record { grows = g.met.T.Tells.output_grows; nearer = g.met.T.Tells.near_later }

abbrev no_proxy : Proxy
no_proxy = record { page = 0; slot = 0; roots = 0 }

pub tell_interval-returns-in_err-pause-clause-stops : goal.tell_interval-returns-in_err-pause-clause-stops
tell_interval-returns-in_err-pause-clause-stops g t c =
    let p = err_from_is_err_and c.from_residual.result c.from_residual.ensures.1 in
    let last = c.in_err-pause.ensures.err.2 in
    rw p.1 (stops_at_once g.T.Tells.Contents (teller g) (IsIntervalAt g.D.Disk c.args.records.now c.args.disk.now (place_of c.args.rid) c.args.roots) last.0 c.pause.new.disk last.1 (λ seen l is. let same = c.pause.ensures.unread in omega (arith, same)))

pub tell_interval-returns-in_err-piece-clause-stops : goal.tell_interval-returns-in_err-piece-clause-stops
tell_interval-returns-in_err-piece-clause-stops g t c =
    let paused = c.in_ok-pause.ensures.ok in
    let p = err_from_is_err_and c.from_residual-in_err-piece.result c.from_residual-in_err-piece.ensures.1 in
    rw p.1 (stops_at_once g.T.Tells.Contents (teller g) (IsIntervalAt g.D.Disk c.args.records.now c.args.disk.now (place_of c.args.rid) c.args.roots) c.pause.new.self c.piece_at.new.disk (asked_on g.T.Tells.Contents (teller g) c.args.records.now c.piece_at.new.records (place_of c.args.rid) c.args.roots paused c.piece_at.ensures.still) (interval_reads g.T.Tells.Contents (teller g) c.args.records.now c.piece_at.new.records (place_of c.args.rid) c.args.roots paused c.piece_at.ensures.still c.pause.ensures.unread c.piece_at.ensures.reads))

pub tell_interval-returns-in_err-piece-clause-refused : goal.tell_interval-returns-in_err-piece-clause-refused
tell_interval-returns-in_err-piece-clause-refused g t c =
    let paused = c.in_ok-pause.ensures.ok in
    let p = err_from_is_err_and c.from_residual-in_err-piece.result c.from_residual-in_err-piece.ensures.1 in
    rw (p.1, p.2) (interval_not_read g.T.Tells.Contents (teller g) c.args.records.now c.piece_at.new.records (place_of c.args.rid) c.args.roots paused c.piece_at.ensures.still c.requires.runs c.args.depth c.args.walk.now.left c.args.walk.now.visited c.in_err-piece.field-0.0 c.in_err-piece.ensures.refused)

pub tell_interval-returns-in_err-begin-clause-stops : goal.tell_interval-returns-in_err-begin-clause-stops
tell_interval-returns-in_err-begin-clause-stops g t c =
    let paused = c.in_ok-pause.ensures.ok in
    let p = err_from_is_err_and c.from_residual-in_err-begin.result c.from_residual-in_err-begin.ensures.1 in
    rw p.1 (stops_at_once g.T.Tells.Contents (teller g) (IsIntervalAt g.D.Disk c.args.records.now c.args.disk.now (place_of c.args.rid) c.args.roots) c.pause.new.self c.piece_at.new.disk (asked_on g.T.Tells.Contents (teller g) c.args.records.now c.piece_at.new.records (place_of c.args.rid) c.args.roots paused c.piece_at.ensures.still) (interval_reads g.T.Tells.Contents (teller g) c.args.records.now c.piece_at.new.records (place_of c.args.rid) c.args.roots paused c.piece_at.ensures.still c.pause.ensures.unread c.piece_at.ensures.reads))

pub tell_interval-returns-in_err-proxies-clause-stops : goal.tell_interval-returns-in_err-proxies-clause-stops
tell_interval-returns-in_err-proxies-clause-stops g t c =
    let root = seen_tree c.in-Tree.root in
    let items = seen_items c.in-Some.beside in
    let e : seen_items c.loop-item.items ≡ Grow root.node root.below items = c.in-Some.ensures ∙ ap (λ (item : ItemView). begun_with item items) c.in-Tree.is in
    let split : (l : Layout) → AreOf g.D.Disk c.loop-item.records c.loop-item.disk (seen_items c.loop-item.items) c.loop-item.proxies.now l
    → IsSplit g.T.Tells.Contents (IsTreeOf g.D.Disk c.loop-item.records c.loop-item.disk root c.loop-item.proxies.now) (AreOf g.D.Disk c.loop-item.records c.loop-item.disk items (drop (proxies_in root.below) c.loop-item.proxies.now)) l =
    λ l is. split_tree g.D.Disk c.loop-item.records c.loop-item.records c.loop-item.disk c.loop-item.disk (λ x h. h) root items c.loop-item.proxies.now l
    (subst (λ f. AreOf g.D.Disk c.loop-item.records c.loop-item.disk f c.loop-item.proxies.now l) e is) in
    let p = err_from_is_err_and c.from_residual-in_err-proxies.result c.from_residual-in_err-proxies.ensures.1 in
    rw p.1 (way_stops (teller g) c.loop-item.invariant.way (AreOf g.D.Disk c.loop-item.records c.loop-item.disk items (drop (proxies_in root.below) c.loop-item.proxies.now)) c.tell_tree.new.disk c.in_err-proxies.ensures.stops split)

pub tell_interval-returns-in_err-proxies-clause-refused : goal.tell_interval-returns-in_err-proxies-clause-refused
tell_interval-returns-in_err-proxies-clause-refused g t c =
    let root = seen_tree c.in-Tree.root in
    let items = seen_items c.in-Some.beside in
    let e : seen_items c.loop-item.items ≡ Grow root.node root.below items = c.in-Some.ensures ∙ ap (λ (item : ItemView). begun_with item items) c.in-Tree.is in
    let split : (l : Layout) → AreOf g.D.Disk c.loop-item.records c.loop-item.disk (seen_items c.loop-item.items) c.loop-item.proxies.now l
    → IsSplit g.T.Tells.Contents (IsTreeOf g.D.Disk c.loop-item.records c.loop-item.disk root c.loop-item.proxies.now) (AreOf g.D.Disk c.loop-item.records c.loop-item.disk items (drop (proxies_in root.below) c.loop-item.proxies.now)) l =
    λ l is. split_tree g.D.Disk c.loop-item.records c.loop-item.records c.loop-item.disk c.loop-item.disk (λ x h. h) root items c.loop-item.proxies.now l
    (subst (λ f. AreOf g.D.Disk c.loop-item.records c.loop-item.disk f c.loop-item.proxies.now l) e is) in
    let p = err_from_is_err_and c.from_residual-in_err-proxies.result c.from_residual-in_err-proxies.ensures.1 in
    rw (p.1, p.2)
    (way_refused (teller g) c.loop-item.invariant.way (AreOf g.D.Disk c.loop-item.records c.loop-item.disk items (drop (proxies_in root.below) c.loop-item.proxies.now)) c.args.records.now c.loop-item.records c.tell_tree.new.records c.tell_tree.new.disk c.args.depth c.requires.runs c.loop-item.invariant.stays c.in_err-proxies.ensures.stops split c.in_err-proxies.field-0.0
    c.in_err-proxies.ensures.refused)

pub tell_interval-returns-clause-told : goal.tell_interval-returns-clause-told
tell_interval-returns-clause-told g t c =
    way_ends (teller g) c.loop-item.invariant.way
    (λ l is. items_end g.T.Tells.Contents (seen_items c.loop-item.items) c.loop-item.proxies.now l is
    (rw c.in_default.is at c.split_first.ensures))

pub tell_interval-tell_tree-requires : goal.tell_interval-tell_tree-requires
tell_interval-tell_tree-requires g t c =
    let items = seen_items c.in-Some.beside in
    let root = seen_tree c.in-Tree.root in
    let e : seen_items c.loop-item.items ≡ Grow root.node root.below items = c.in-Some.ensures ∙ ap (λ (item : ItemView). begun_with item items) c.in-Tree.is in
    let same = ap proxies_in e in
    let sizes = ap gapped_size e in
    let small = c.loop-item.invariant.small in
    let fits = c.loop-item.invariant.fits in
    let far : AreFar (Grow root.node root.below items) = subst AreFar e c.loop-item.invariant.far in
    λ κs le. (omega arith, (le.0, (le.1, ((c.loop-item.invariant.stays).ended_stays ∙ c.requires.runs, (c.requires.levels, ((far.0, far.1), (omega arith, (omega arith, c.loop-item.invariant.rooted))))))))

pub tell_items-tell_tree-requires : goal.tell_items-tell_tree-requires
tell_items-tell_tree-requires g t c =
    let items = seen_items c.in-Some.beside in
    let passed = c.loop-item.invariant.passed in
    let tree = seen_tree c.in-Tree.tree in
    let e : seen_items c.loop-item.left ≡ Grow tree.node tree.below items = c.in-Some.ensures ∙ ap (λ (item : ItemView). begun_with item items) c.in-Tree.is in
    let fits : proxies_in (seen_items c.loop-item.left) ≤ length c.loop-item.rest.now =
    enough_left c.args.proxies.now c.loop-item.rest.now passed.0 (proxies_in (seen_items c.loop-item.left)) (proxies_in (seen_items c.args.items)) passed.1 passed.2 c.requires.fits in
    let same = ap proxies_in e in
    let sizes = ap gapped_size e in
    let small = c.loop-item.invariant.small in
    let far : AreFar (Grow tree.node tree.below items) = subst AreFar e c.loop-item.invariant.far in
    let rooted : HaveRoots c.loop-item.rest.now = subst HaveRoots (sym passed.1) (ranged_drop passed.0 c.args.proxies.now c.requires.rooted) in
    let levels = c.requires.levels in
    λ κs le. (omega arith, (le.0, (le.1, ((c.loop-item.invariant.stays).ended_stays ∙ c.requires.runs, (omega (arith, levels), ((far.0, far.1), (omega arith, (omega arith, rooted))))))))

pub tell_items-returns-in_err-rest-in-Tree-clause-stops : goal.tell_items-returns-in_err-rest-in-Tree-clause-stops
tell_items-returns-in_err-rest-in-Tree-clause-stops g t c =
    let items = seen_items c.in-Some.beside in
    let passed = c.loop-item.invariant.passed in
    let tree = seen_tree c.in-Tree.tree in
    let e : seen_items c.loop-item.left ≡ Grow tree.node tree.below items = c.in-Some.ensures ∙ ap (λ (item : ItemView). begun_with item items) c.in-Tree.is in
    let split : (l : Layout) → AreOf g.D.Disk c.loop-item.records c.loop-item.disk (seen_items c.loop-item.left) c.loop-item.rest.now l
    → IsSplit g.T.Tells.Contents (IsTreeOf g.D.Disk c.loop-item.records c.loop-item.disk tree c.loop-item.rest.now) (AreOf g.D.Disk c.loop-item.records c.loop-item.disk items (drop (proxies_in tree.below) c.loop-item.rest.now)) l =
    λ l is. split_tree g.D.Disk c.loop-item.records c.loop-item.records c.loop-item.disk c.loop-item.disk (λ x h. h) tree items c.loop-item.rest.now l
    (subst (λ f. AreOf g.D.Disk c.loop-item.records c.loop-item.disk f c.loop-item.rest.now l) e is) in
    let p = err_from_is_err_and c.from_residual.result c.from_residual.ensures.1 in
    rw p.1 (way_stops (teller g) c.loop-item.invariant.way (AreOf g.D.Disk c.loop-item.records c.loop-item.disk items (drop (proxies_in tree.below) c.loop-item.rest.now)) c.tell_tree.new.disk c.in_err-rest-in-Tree.ensures.stops split)

pub tell_items-returns-in_err-rest-in-Tree-clause-refused : goal.tell_items-returns-in_err-rest-in-Tree-clause-refused
tell_items-returns-in_err-rest-in-Tree-clause-refused g t c =
    let items = seen_items c.in-Some.beside in
    let passed = c.loop-item.invariant.passed in
    let tree = seen_tree c.in-Tree.tree in
    let e : seen_items c.loop-item.left ≡ Grow tree.node tree.below items = c.in-Some.ensures ∙ ap (λ (item : ItemView). begun_with item items) c.in-Tree.is in
    let split : (l : Layout) → AreOf g.D.Disk c.loop-item.records c.loop-item.disk (seen_items c.loop-item.left) c.loop-item.rest.now l
    → IsSplit g.T.Tells.Contents (IsTreeOf g.D.Disk c.loop-item.records c.loop-item.disk tree c.loop-item.rest.now) (AreOf g.D.Disk c.loop-item.records c.loop-item.disk items (drop (proxies_in tree.below) c.loop-item.rest.now)) l =
    λ l is. split_tree g.D.Disk c.loop-item.records c.loop-item.records c.loop-item.disk c.loop-item.disk (λ x h. h) tree items c.loop-item.rest.now l
    (subst (λ f. AreOf g.D.Disk c.loop-item.records c.loop-item.disk f c.loop-item.rest.now l) e is) in
    let p = err_from_is_err_and c.from_residual.result c.from_residual.ensures.1 in
    rw (p.1, p.2)
    (way_refused (teller g) c.loop-item.invariant.way (AreOf g.D.Disk c.loop-item.records c.loop-item.disk items (drop (proxies_in tree.below) c.loop-item.rest.now)) c.args.records.now c.loop-item.records c.tell_tree.new.records c.tell_tree.new.disk c.args.spot.depth c.requires.runs c.loop-item.invariant.stays c.in_err-rest-in-Tree.ensures.stops split c.in_err-rest-in-Tree.field-0.0
    c.in_err-rest-in-Tree.ensures.refused)

pub tell_items-tell_row-requires : goal.tell_items-tell_row-requires
tell_items-tell_row-requires g t c =
    let items = seen_items c.in-Some.beside in
    let passed = c.loop-item.invariant.passed in
    let rooted : HaveRoots c.loop-item.rest.now = subst HaveRoots (sym passed.1) (ranged_drop passed.0 c.args.proxies.now c.requires.rooted) in
    λ κs le. (omega arith, (le.0, (le.1, ((c.loop-item.invariant.stays).ended_stays ∙ c.requires.runs, (c.requires.levels, subst HaveRoots (sym c.split_at.ensures.front) (ranged_take c.in-Run.count c.loop-item.rest.now rooted))))))

pub tell_items-returns-in_err-tell_row-in-Run-clause-stops : goal.tell_items-returns-in_err-tell_row-in-Run-clause-stops
tell_items-returns-in_err-tell_row-in-Run-clause-stops g t c =
    let items = seen_items c.in-Some.beside in
    let passed = c.loop-item.invariant.passed in
    let e : seen_items c.loop-item.left ≡ Gap c.in-Run.count items = c.in-Some.ensures ∙ ap (λ (item : ItemView). begun_with item items) c.in-Run.is in
    let split : (l : Layout) → AreOf g.D.Disk c.loop-item.records c.loop-item.disk (seen_items c.loop-item.left) c.loop-item.rest.now l
    → IsSplit g.T.Tells.Contents (AreIntervalsOf g.D.Disk c.loop-item.records c.loop-item.disk (take c.in-Run.count c.loop-item.rest.now)) (AreOf g.D.Disk c.loop-item.records c.loop-item.disk items (drop c.in-Run.count c.loop-item.rest.now)) l =
    λ l is. split_row g.D.Disk c.loop-item.records c.loop-item.records c.loop-item.disk c.loop-item.disk (λ x h. h) c.in-Run.count items c.loop-item.rest.now l
    (subst (λ f. AreOf g.D.Disk c.loop-item.records c.loop-item.disk f c.loop-item.rest.now l) e is) in
    let p = err_from_is_err_and c.from_residual-in_err-tell_row-in-Run.result c.from_residual-in_err-tell_row-in-Run.ensures.1 in
    let stops : HasStopped g.D.Disk g.T.Tells.Contents g.T.Tells.Told (AreIntervalsOf g.D.Disk c.loop-item.records c.loop-item.disk (take c.in-Run.count c.loop-item.rest.now)) c.loop-item.walk.teller c.loop-item.disk c.tell_row.new.disk =
    subst (λ (ps : List Proxy). HasStopped g.D.Disk g.T.Tells.Contents g.T.Tells.Told (AreIntervalsOf g.D.Disk c.loop-item.records c.loop-item.disk ps) c.loop-item.walk.teller c.loop-item.disk c.tell_row.new.disk) c.split_at.ensures.front c.in_err-tell_row-in-Run.ensures.stops in
    rw p.1 (way_stops (teller g) c.loop-item.invariant.way (AreOf g.D.Disk c.loop-item.records c.loop-item.disk items (drop c.in-Run.count c.loop-item.rest.now)) c.tell_row.new.disk stops split)

pub tell_items-returns-in_err-tell_row-in-Run-clause-refused : goal.tell_items-returns-in_err-tell_row-in-Run-clause-refused
tell_items-returns-in_err-tell_row-in-Run-clause-refused g t c =
    let items = seen_items c.in-Some.beside in
    let passed = c.loop-item.invariant.passed in
    let e : seen_items c.loop-item.left ≡ Gap c.in-Run.count items = c.in-Some.ensures ∙ ap (λ (item : ItemView). begun_with item items) c.in-Run.is in
    let split : (l : Layout) → AreOf g.D.Disk c.loop-item.records c.loop-item.disk (seen_items c.loop-item.left) c.loop-item.rest.now l
    → IsSplit g.T.Tells.Contents (AreIntervalsOf g.D.Disk c.loop-item.records c.loop-item.disk (take c.in-Run.count c.loop-item.rest.now)) (AreOf g.D.Disk c.loop-item.records c.loop-item.disk items (drop c.in-Run.count c.loop-item.rest.now)) l =
    λ l is. split_row g.D.Disk c.loop-item.records c.loop-item.records c.loop-item.disk c.loop-item.disk (λ x h. h) c.in-Run.count items c.loop-item.rest.now l
    (subst (λ f. AreOf g.D.Disk c.loop-item.records c.loop-item.disk f c.loop-item.rest.now l) e is) in
    let p = err_from_is_err_and c.from_residual-in_err-tell_row-in-Run.result c.from_residual-in_err-tell_row-in-Run.ensures.1 in
    let stops : HasStopped g.D.Disk g.T.Tells.Contents g.T.Tells.Told (AreIntervalsOf g.D.Disk c.loop-item.records c.loop-item.disk (take c.in-Run.count c.loop-item.rest.now)) c.loop-item.walk.teller c.loop-item.disk c.tell_row.new.disk =
    subst (λ (ps : List Proxy). HasStopped g.D.Disk g.T.Tells.Contents g.T.Tells.Told (AreIntervalsOf g.D.Disk c.loop-item.records c.loop-item.disk ps) c.loop-item.walk.teller c.loop-item.disk c.tell_row.new.disk) c.split_at.ensures.front c.in_err-tell_row-in-Run.ensures.stops in
    rw (p.1, p.2)
    (way_refused (teller g) c.loop-item.invariant.way (AreOf g.D.Disk c.loop-item.records c.loop-item.disk items (drop c.in-Run.count c.loop-item.rest.now)) c.args.records.now c.loop-item.records c.tell_row.new.records c.tell_row.new.disk c.args.spot.depth c.requires.runs c.loop-item.invariant.stays stops split c.in_err-tell_row-in-Run.field-0.0
    (subst (λ (ps : List Proxy). IsRefused g.D.Disk ⊥ (g.T.Tells.Unwritten c.loop-item.disk c.tell_row.new.disk) (IsNone g.D.Disk c.tell_row.new.disk (AreIntervalsOf g.D.Disk c.loop-item.records c.loop-item.disk ps) c.args.spot.depth c.loop-item.walk.left c.loop-item.walk.visited) c.in_err-tell_row-in-Run.field-0.0
    c.loop-item.records c.tell_row.new.records c.loop-item.disk c.tell_row.new.disk) c.split_at.ensures.front c.in_err-tell_row-in-Run.ensures.refused))

pub tell_items-returns-clause-told : goal.tell_items-returns-clause-told
tell_items-returns-clause-told g t c = way_ends (teller g) c.loop-item.invariant.way (λ l is. items_end g.T.Tells.Contents (seen_items c.loop-item.left) c.loop-item.rest.now l is (rw c.in_default.is at c.split_first.ensures))

pub tell_row-loop-proxy-init : goal.tell_row-loop-proxy-init
tell_row-loop-proxy-init g t c = record { stays = leaves_same refl; way = way_begins (teller g); read = λ left begins. inl (refl, omega arith) }

pub tell_row-tell_interval-requires : goal.tell_row-tell_interval-requires
tell_row-tell_interval-requires g t c =
    let i = c.loop-proxy.proxy-index in
    let proxy = get_or c.args.proxies.now i no_proxy in
    let d : drop i c.args.proxies.now ≡ proxy ∷ drop (i + 1) c.args.proxies.now = next_at c.args.proxies.now i no_proxy c.loop-proxy-test.true in
    let rooted : HaveRoots (proxy ∷ drop (i + 1) c.args.proxies.now) = subst HaveRoots d (ranged_drop i c.args.proxies.now c.requires.rooted) in
    let levels = c.requires.levels in
    λ κs le. (omega arith, (le.0, (le.1, ((c.loop-proxy.invariant.stays).ended_stays ∙ c.requires.runs, (omega (arith, levels), (rooted.0, λ deep. absurd (omega (arith, deep, levels))))))))

pub tell_row-returns-in_err-tell_interval-clause-stops : goal.tell_row-returns-in_err-tell_interval-clause-stops
tell_row-returns-in_err-tell_interval-clause-stops g t c =
    let i = c.loop-proxy.proxy-index in
    let proxy = get_or c.args.proxies.now i no_proxy in
    let d : drop i c.args.proxies.now ≡ proxy ∷ drop (i + 1) c.args.proxies.now = next_at c.args.proxies.now i no_proxy c.loop-proxy-test.true in
    let split : (l : Layout) → AreIntervalsOf g.D.Disk c.loop-proxy.records c.loop-proxy.disk (drop i c.args.proxies.now) l
    → IsSplit g.T.Tells.Contents (IsIntervalAt g.D.Disk c.loop-proxy.records c.loop-proxy.disk (place_named proxy) proxy.roots) (AreIntervalsOf g.D.Disk c.loop-proxy.records c.loop-proxy.disk (drop (i + 1) c.args.proxies.now)) l =
    λ l is. split_interval g.D.Disk c.loop-proxy.records c.loop-proxy.records c.loop-proxy.disk c.loop-proxy.disk (λ x h. h) proxy (drop (i + 1) c.args.proxies.now) l (subst (λ (ps : List Proxy). AreIntervalsOf g.D.Disk c.loop-proxy.records c.loop-proxy.disk ps l) d is) in
    let p = err_from_is_err_and c.from_residual.result c.from_residual.ensures.1 in
    rw p.1 (way_stops (teller g) c.loop-proxy.invariant.way (AreIntervalsOf g.D.Disk c.loop-proxy.records c.loop-proxy.disk (drop (i + 1) c.args.proxies.now)) c.tell_interval.new.disk c.in_err-tell_interval.ensures.stops split)

pub tell_row-returns-in_err-tell_interval-clause-refused : goal.tell_row-returns-in_err-tell_interval-clause-refused
tell_row-returns-in_err-tell_interval-clause-refused g t c =
    let i = c.loop-proxy.proxy-index in
    let proxy = get_or c.args.proxies.now i no_proxy in
    let d : drop i c.args.proxies.now ≡ proxy ∷ drop (i + 1) c.args.proxies.now = next_at c.args.proxies.now i no_proxy c.loop-proxy-test.true in
    let split : (l : Layout) → AreIntervalsOf g.D.Disk c.loop-proxy.records c.loop-proxy.disk (drop i c.args.proxies.now) l
    → IsSplit g.T.Tells.Contents (IsIntervalAt g.D.Disk c.loop-proxy.records c.loop-proxy.disk (place_named proxy) proxy.roots) (AreIntervalsOf g.D.Disk c.loop-proxy.records c.loop-proxy.disk (drop (i + 1) c.args.proxies.now)) l =
    λ l is. split_interval g.D.Disk c.loop-proxy.records c.loop-proxy.records c.loop-proxy.disk c.loop-proxy.disk (λ x h. h) proxy (drop (i + 1) c.args.proxies.now) l (subst (λ (ps : List Proxy). AreIntervalsOf g.D.Disk c.loop-proxy.records c.loop-proxy.disk ps l) d is) in
    let p = err_from_is_err_and c.from_residual.result c.from_residual.ensures.1 in
    rw (p.1, p.2)
    (way_refused (teller g) c.loop-proxy.invariant.way (AreIntervalsOf g.D.Disk c.loop-proxy.records c.loop-proxy.disk (drop (i + 1) c.args.proxies.now)) c.args.records.now c.loop-proxy.records c.tell_interval.new.records c.tell_interval.new.disk c.args.depth c.requires.runs c.loop-proxy.invariant.stays c.in_err-tell_interval.ensures.stops split c.in_err-tell_interval.field-0.0
    c.in_err-tell_interval.ensures.refused)

pub tell_row-loop-proxy-preserved : goal.tell_row-loop-proxy-preserved
tell_row-loop-proxy-preserved g t c =
    let i = c.loop-proxy.proxy-index in
    let proxy = get_or c.args.proxies.now i no_proxy in
    let d : drop i c.args.proxies.now ≡ proxy ∷ drop (i + 1) c.args.proxies.now = next_at c.args.proxies.now i no_proxy c.loop-proxy-test.true in
    let told = c.in_ok-tell_interval.ensures.told in
    let split : IsSome (g.D.Disk.contents c.tell_interval.new.disk) → (l : Layout) → AreIntervalsOf g.D.Disk c.loop-proxy.records c.loop-proxy.disk (drop i c.args.proxies.now) l
    → IsSplit g.T.Tells.Contents (IsIntervalAt g.D.Disk c.loop-proxy.records c.loop-proxy.disk (place_named proxy) proxy.roots) (AreIntervalsOf g.D.Disk c.tell_interval.new.records c.tell_interval.new.disk (drop (i + 1) c.args.proxies.now)) l =
    λ seen l is. split_interval g.D.Disk c.loop-proxy.records c.tell_interval.new.records c.loop-proxy.disk c.tell_interval.new.disk (told_stands (teller g) {r0 = c.loop-proxy.records} {r1 = c.tell_interval.new.records} told.goes c.in_ok-tell_interval.ensures.stays seen) proxy (drop (i + 1) c.args.proxies.now) l (subst (λ (ps : List Proxy). AreIntervalsOf g.D.Disk c.loop-proxy.records c.loop-proxy.disk ps l) d is) in
    record {
      stays = leaves_add_up c.loop-proxy.invariant.stays c.in_ok-tell_interval.ensures.stays;
      way = way_goes_on (teller g) c.loop-proxy.invariant.way (AreIntervalsOf g.D.Disk c.tell_interval.new.records c.tell_interval.new.disk (drop (i + 1) c.args.proxies.now)) c.tell_interval.new.walk.teller c.tell_interval.new.disk c.tell_interval.new.walk.left c.tell_interval.new.walk.visited told split;
      read = row_goes (teller g) (nearing g) {r0 = c.args.records.now} {r1 = c.loop-proxy.records} i c.args.proxies.now (c.loop-proxy.invariant.way).goes told.goes c.loop-proxy.invariant.stays c.loop-proxy.invariant.read c.args.depth c.requires.levels proxy (drop (i + 1) c.args.proxies.now) d c.tell_interval.ensures.first c.in_ok-tell_interval.ensures.near;
    }

pub tell_row-returns-clause-told : goal.tell_row-returns-clause-told
tell_row-returns-clause-told g t c =
    way_ends (teller g) c.loop-proxy.invariant.way (λ l is. row_ends g.T.Tells.Contents (drop c.loop-proxy.proxy-index c.args.proxies.now) l is (drop_all c.loop-proxy.proxy-index c.args.proxies.now (omega arith)))

pub tell_tree-returns-then-spot-eq0-clause-stops : goal.tell_tree-returns-then-spot-eq0-clause-stops
tell_tree-returns-then-spot-eq0-clause-stops g t c = stops_at_once g.T.Tells.Contents (teller g) (IsTreeOf g.D.Disk c.args.records.now c.args.disk.now (seen_tree c.args.tree) c.args.proxies.now) c.args.walk.now.teller c.args.disk.now (g.met.T.Tells.asked c.args.walk.now.teller c.args.disk.now c.args.disk.now none_still) (λ seen l is. omega arith)

pub tell_tree-returns-in_err-begin_node-clause-stops : goal.tell_tree-returns-in_err-begin_node-clause-stops
tell_tree-returns-in_err-begin_node-clause-stops g t c =
    let p = err_from_is_err_and c.from_residual.result c.from_residual.ensures.1 in
    rw p.1 (node_stops g.T.Tells.Contents (teller g) c.args.records.now (seen_tree c.args.tree) c.args.proxies.now c.begin_node.new.disk c.in_err-begin_node.ensures.stops c.begin_node.ensures.reads)

pub tell_tree-returns-in_err-begin_node-clause-refused : goal.tell_tree-returns-in_err-begin_node-clause-refused
tell_tree-returns-in_err-begin_node-clause-refused g t c =
    let p = err_from_is_err_and c.from_residual.result c.from_residual.ensures.1 in
    rw (p.1, p.2)
    (node_refused g.D.Disk (g.T.Tells.Unwritten c.args.disk.now c.begin_node.new.disk) c.args.records.now c.begin_node.new.records c.args.disk.now c.begin_node.new.disk (seen_tree c.args.tree) c.args.proxies.now c.args.spot.depth c.args.walk.now.left c.args.walk.now.visited c.requires.runs c.in_err-begin_node.field-0.0 c.in_err-begin_node.ensures.refused)

pub tell_tree-tell_items-requires : goal.tell_tree-tell_items-requires
tell_tree-tell_items-requires g t c =
    let small = c.requires.small in
    λ κs le. (omega arith, (le.0, (le.1, ((c.in_ok-begin_node.ensures.stays).ended_stays ∙ c.requires.runs, (omega arith, (c.requires.far.1, (omega arith, (c.requires.fits, c.requires.rooted))))))))

pub tell_tree-returns-in_err-behind-clause-stops : goal.tell_tree-returns-in_err-behind-clause-stops
tell_tree-returns-in_err-behind-clause-stops g t c =
    let begun = c.in_ok-begin_node.ensures in
    let p = err_from_is_err_and c.from_residual-in_err-behind.result c.from_residual-in_err-behind.ensures.1 in
    rw p.1 (tree_stops g.T.Tells.Contents (teller g) c.args.records.now c.begin_node.new.records (seen_tree c.args.tree) c.args.proxies.now c.begin_node.new.teller c.begin_node.new.disk begun.stays begun.told c.args.walk.now.visited c.tell_items.new.disk c.in_err-behind.ensures.stops c.begin_node.ensures.reads)

pub tell_tree-returns-in_err-behind-clause-refused : goal.tell_tree-returns-in_err-behind-clause-refused
tell_tree-returns-in_err-behind-clause-refused g t c =
    let begun = c.in_ok-begin_node.ensures in
    let p = err_from_is_err_and c.from_residual-in_err-behind.result c.from_residual-in_err-behind.ensures.1 in
    rw (p.1, p.2)
    (tree_refused g.T.Tells.Contents (teller g) c.args.records.now c.begin_node.new.records (seen_tree c.args.tree) c.args.proxies.now c.begin_node.new.teller c.begin_node.new.disk begun.stays begun.told c.args.walk.now.visited c.args.spot.depth c.args.walk.now.left (omega arith) c.requires.runs c.tell_items.new.records c.tell_items.new.disk
    c.in_err-behind.ensures.stops c.in_err-behind.field-0.0 c.in_err-behind.ensures.refused)

pub tell_tree-returns-in_err-close-clause-stops : goal.tell_tree-returns-in_err-close-clause-stops
tell_tree-returns-in_err-close-clause-stops g t c =
    let begun = c.in_ok-begin_node.ensures in
    let has = c.in_ok-behind.ensures.told in
    let p = err_from_is_err_and c.from_residual-in_err-close.result c.from_residual-in_err-close.ensures.1 in
    rw p.1 (tree_not_closed g.T.Tells.Contents (teller g) c.args.records.now c.begin_node.new.records (seen_tree c.args.tree) c.args.proxies.now c.begin_node.new.teller c.begin_node.new.disk begun.stays begun.told c.args.walk.now.visited (c.args.walk.now.left - 1) c.tell_items.new.walk.left c.tell_items.new.walk.teller c.tell_items.new.disk c.tell_items.new.walk.visited has c.begin_node.ensures.reads)

pub tell_tree-returns-in_err-close-clause-refused : goal.tell_tree-returns-in_err-close-clause-refused
tell_tree-returns-in_err-close-clause-refused g t c =
    let p = err_from_is_err_and c.from_residual-in_err-close.result c.from_residual-in_err-close.ensures.1 in
    rw (p.1, p.2) (c.requires.runs, leaves_add_up c.in_ok-begin_node.ensures.stays c.in_ok-behind.ensures.stays)

pub tell_tree-returns-clause-stays : goal.tell_tree-returns-clause-stays
tell_tree-returns-clause-stays g t c = leaves_add_up c.in_ok-begin_node.ensures.stays c.in_ok-behind.ensures.stays

pub tell_tree-returns-clause-told : goal.tell_tree-returns-clause-told
tell_tree-returns-clause-told g t c =
    let begun = c.in_ok-begin_node.ensures in
    let has = c.in_ok-behind.ensures.told in
    let closed = c.in_ok-close.ensures c.tell_items.new.disk in
    tree_told g.T.Tells.Contents (teller g) c.args.records.now c.begin_node.new.records (seen_tree c.args.tree) c.args.proxies.now c.begin_node.new.teller c.begin_node.new.disk begun.stays begun.told c.args.walk.now.visited c.args.walk.now.left c.tell_items.new.walk.left c.tell_items.new.walk.teller c.close.new.self
    c.tell_items.new.disk c.tell_items.new.walk.visited has closed (omega arith) c.begin_node.ensures.reads

pub tell_interval-loop-item-init : goal.tell_interval-loop-item-init
tell_interval-loop-item-init g t c =
    let paused = c.in_ok-pause.ensures.ok in
    let roots : seen_items c.roots-items.result ≡ c.in_ok-piece.piece.body.roots = c.roots-items.ensures ∙ ap (λ (p : Piece). p.body.roots) c.piece.view_is in
    let proxies : c.as_slice-proxies.result.now ≡ c.in_ok-piece.piece.proxies = c.as_slice-proxies.ensures ∙ ap (λ (p : Piece). p.proxies) c.piece.view_is in
    let valid = c.in_ok-piece.ensures.valid in
    let visits : Visits c.args.walk.now.visited (place_of c.args.rid ∷ []) c.visit.new.self = λ earlier were. was_new (HasVisited c.visit.new.self (earlier ++ place_of c.args.rid ∷ [])) (Contains earlier (place_of c.args.rid)) c.if-not-branch.false (c.in_ok-visit.ensures earlier were) in
    record {
      stays = c.in_ok-piece.ensures.stays.1;
      trees = subst AreTrees (sym roots) valid.body.trees;
      far = subst AreFar (sym roots) valid.body.far;
      small = let few : gapped_size c.in_ok-piece.piece.body.roots ≤ 256 = valid.body.small in let a = ap gapped_size roots in omega arith;
      fits = let counted : proxies_in c.in_ok-piece.piece.body.roots ≡ length c.in_ok-piece.piece.proxies = valid.body.counted in let a = ap proxies_in roots in let b = ap length proxies in omega arith;
      rooted = subst HaveRoots (sym proxies) valid.ranged;
      way = subst (λ (f : Gapped). IsOnWay g.D.Disk g.T.Tells.Contents g.T.Tells.Told (IsIntervalAt g.D.Disk c.args.records.now c.args.disk.now (place_of c.args.rid) c.args.roots) (AreOf g.D.Disk c.piece_at.new.records c.piece_at.new.disk f c.as_slice-proxies.result.now) c.args.walk.now.teller c.args.disk.now c.args.walk.now.left c.args.walk.now.visited c.begin.new.self c.piece_at.new.disk c.args.walk.now.left c.visit.new.self) (sym roots)
          (subst (λ (ps : List Proxy). IsOnWay g.D.Disk g.T.Tells.Contents g.T.Tells.Told (IsIntervalAt g.D.Disk c.args.records.now c.args.disk.now (place_of c.args.rid) c.args.roots) (AreOf g.D.Disk c.piece_at.new.records c.piece_at.new.disk c.in_ok-piece.piece.body.roots ps) c.args.walk.now.teller c.args.disk.now c.args.walk.now.left c.args.walk.now.visited c.begin.new.self c.piece_at.new.disk c.args.walk.now.left c.visit.new.self) (sym proxies)
          (interval_begins g.T.Tells.Contents (teller g) c.args.records.now c.piece_at.new.records (place_of c.args.rid) c.args.roots paused c.piece_at.ensures.still c.args.walk.now.left _ c.args.walk.now.visited c.visit.new.self c.in_ok-piece.piece c.begin.new.self visits c.in_ok-piece.ensures.stays.1 c.in_ok-piece.ensures.ok (ap (λ (p : Piece). gapped_weight p.body.roots) c.piece.view_is) (c.in_ok-begin.ensures.told c.piece_at.new.disk) c.pause.ensures.unread c.piece_at.ensures.reads));
      read = interval_read (teller g) (nearing g) {r = c.args.records.now} {roots = c.args.roots} c.args.depth paused c.in_ok-pause.ensures.gives c.pause.ensures.unread c.piece_at.ensures.still c.piece_at.ensures.reads (seen_items c.roots-items.result) c.as_slice-proxies.result.now c.in_ok-piece.piece
          c.in_ok-piece.ensures.ok valid c.in_ok-piece.ensures.roots roots proxies c.in_ok-begin.ensures.near;
    }

pub tell_interval-loop-item-preserved-in_ok-proxies : goal.tell_interval-loop-item-preserved-in_ok-proxies
tell_interval-loop-item-preserved-in_ok-proxies g t c =
    let root = seen_tree c.in-Tree.root in
    let items = seen_items c.in-Some.beside in
    let e : seen_items c.loop-item.items ≡ Grow root.node root.below items = c.in-Some.ensures ∙ ap (λ (item : ItemView). begun_with item items) c.in-Tree.is in
    let told = c.in_ok-proxies.ensures.told in
    let behind : drop (proxies_in root.below) c.loop-item.proxies.now ≡ c.in_ok-proxies.proxies.now = sym c.in_ok-proxies.ensures.behind in
    let split : IsSome (g.D.Disk.contents c.tell_tree.new.disk) → (l : Layout) → AreOf g.D.Disk c.loop-item.records c.loop-item.disk (seen_items c.loop-item.items) c.loop-item.proxies.now l
    → IsSplit g.T.Tells.Contents (IsTreeOf g.D.Disk c.loop-item.records c.loop-item.disk root c.loop-item.proxies.now) (AreOf g.D.Disk c.tell_tree.new.records c.tell_tree.new.disk items (drop (proxies_in root.below) c.loop-item.proxies.now)) l =
    λ seen l is. split_tree g.D.Disk c.loop-item.records c.tell_tree.new.records c.loop-item.disk c.tell_tree.new.disk (told_stands (teller g) {r0 = c.loop-item.records} {r1 = c.tell_tree.new.records} told.goes c.in_ok-proxies.ensures.stays seen) root items c.loop-item.proxies.now l
    (subst (λ f. AreOf g.D.Disk c.loop-item.records c.loop-item.disk f c.loop-item.proxies.now l) e is) in
    record {
      stays = leaves_add_up c.loop-item.invariant.stays c.in_ok-proxies.ensures.stays;
      trees = let trees : AreTrees (Grow root.node root.below items) = subst AreTrees e c.loop-item.invariant.trees in trees;
      far = let far : AreFar (Grow root.node root.below items) = subst AreFar e c.loop-item.invariant.far in far.2;
      small = let small = c.loop-item.invariant.small in let sizes = ap gapped_size e in omega arith;
      fits = let fits : proxies_in (seen_items c.loop-item.items) ≤ length c.loop-item.proxies.now = c.loop-item.invariant.fits in
          enough_left c.loop-item.proxies.now c.in_ok-proxies.proxies.now (proxies_in root.below) (proxies_in items) (proxies_in (seen_items c.loop-item.items)) (sym behind) (sym (ap proxies_in e)) fits;
      rooted = subst HaveRoots behind (ranged_drop (proxies_in root.below) c.loop-item.proxies.now c.loop-item.invariant.rooted);
      way = subst (λ (ps : List Proxy). IsOnWay g.D.Disk g.T.Tells.Contents g.T.Tells.Told (IsIntervalAt g.D.Disk c.args.records.now c.args.disk.now (place_of c.args.rid) c.args.roots) (AreOf g.D.Disk c.tell_tree.new.records c.tell_tree.new.disk items ps) c.args.walk.now.teller c.args.disk.now c.args.walk.now.left c.args.walk.now.visited
          c.tell_tree.new.walk.teller c.tell_tree.new.disk c.tell_tree.new.walk.left c.tell_tree.new.walk.visited) behind
          (way_goes_on (teller g) c.loop-item.invariant.way (AreOf g.D.Disk c.tell_tree.new.records c.tell_tree.new.disk items (drop (proxies_in root.below) c.loop-item.proxies.now)) c.tell_tree.new.walk.teller c.tell_tree.new.disk c.tell_tree.new.walk.left c.tell_tree.new.walk.visited told split);
      read = roots_goes (teller g) (nearing g) {r0 = c.args.records.now} {r1 = c.loop-item.records} (place_of c.args.rid) c.args.roots c.args.depth (seen_items c.loop-item.items) c.loop-item.proxies.now (c.loop-item.invariant.way).goes told.goes c.loop-item.invariant.stays c.loop-item.invariant.read root items e
          c.tell_tree.ensures.first c.requires.levels c.requires.one c.in_ok-proxies.proxies.now c.in_ok-proxies.ensures.near;
    }

pub tell_items-loop-item-init : goal.tell_items-loop-item-init
tell_items-loop-item-init g t c = record { stays = leaves_same refl; far = c.requires.far; small = c.requires.small; passed = (0, refl, omega arith); way = way_begins (teller g); read = λ left begins. inl (omega arith, refl, λ gap. gap) }

pub tell_items-loop-item-preserved-in_ok-rest-in-Tree : goal.tell_items-loop-item-preserved-in_ok-rest-in-Tree
tell_items-loop-item-preserved-in_ok-rest-in-Tree g t c =
    let items = seen_items c.in-Some.beside in
    let passed = c.loop-item.invariant.passed in
    let tree = seen_tree c.in-Tree.tree in
    let e : seen_items c.loop-item.left ≡ Grow tree.node tree.below items = c.in-Some.ensures ∙ ap (λ (item : ItemView). begun_with item items) c.in-Tree.is in
    let told = c.in_ok-rest-in-Tree.ensures.told in
    let behind : drop (proxies_in tree.below) c.loop-item.rest.now ≡ c.in_ok-rest-in-Tree.rest.now = sym c.in_ok-rest-in-Tree.ensures.behind in
    let same = ap proxies_in e in
    let sum = passed.2 in
    let split : IsSome (g.D.Disk.contents c.tell_tree.new.disk) → (l : Layout) → AreOf g.D.Disk c.loop-item.records c.loop-item.disk (seen_items c.loop-item.left) c.loop-item.rest.now l
    → IsSplit g.T.Tells.Contents (IsTreeOf g.D.Disk c.loop-item.records c.loop-item.disk tree c.loop-item.rest.now) (AreOf g.D.Disk c.tell_tree.new.records c.tell_tree.new.disk items (drop (proxies_in tree.below) c.loop-item.rest.now)) l =
    λ seen l is. split_tree g.D.Disk c.loop-item.records c.tell_tree.new.records c.loop-item.disk c.tell_tree.new.disk (told_stands (teller g) {r0 = c.loop-item.records} {r1 = c.tell_tree.new.records} told.goes c.in_ok-rest-in-Tree.ensures.stays seen) tree items c.loop-item.rest.now l
    (subst (λ f. AreOf g.D.Disk c.loop-item.records c.loop-item.disk f c.loop-item.rest.now l) e is) in
    record {
      stays = leaves_add_up c.loop-item.invariant.stays c.in_ok-rest-in-Tree.ensures.stays;
      far = let far : AreFar (Grow tree.node tree.below items) = subst AreFar e c.loop-item.invariant.far in far.2;
      small = let small = c.loop-item.invariant.small in let sizes = ap gapped_size e in omega arith;
      passed = (passed.0 + proxies_in tree.below, sym behind ∙ dropped_twice c.args.proxies.now c.loop-item.rest.now passed.0 (proxies_in tree.below) passed.1, omega arith);
      way = subst (λ (ps : List Proxy). IsOnWay g.D.Disk g.T.Tells.Contents g.T.Tells.Told (AreOf g.D.Disk c.args.records.now c.args.disk.now (seen_items c.args.items) c.args.proxies.now) (AreOf g.D.Disk c.tell_tree.new.records c.tell_tree.new.disk items ps)
          c.args.walk.now.teller c.args.disk.now c.args.walk.now.left c.args.walk.now.visited c.tell_tree.new.walk.teller c.tell_tree.new.disk c.tell_tree.new.walk.left c.tell_tree.new.walk.visited) behind
          (way_goes_on (teller g) c.loop-item.invariant.way (AreOf g.D.Disk c.tell_tree.new.records c.tell_tree.new.disk items (drop (proxies_in tree.below) c.loop-item.rest.now)) c.tell_tree.new.walk.teller c.tell_tree.new.disk c.tell_tree.new.walk.left c.tell_tree.new.walk.visited told split);
      read = items_tree_goes (teller g) (nearing g) {r0 = c.args.records.now} {r1 = c.loop-item.records} (seen_items c.args.items) (seen_items c.loop-item.left) c.args.proxies.now c.loop-item.rest.now (c.loop-item.invariant.way).goes told.goes c.loop-item.invariant.stays c.loop-item.invariant.read
          c.args.spot.depth c.requires.levels _ c.tell_tree.ensures.first c.in_ok-rest-in-Tree.ensures.near items c.in_ok-rest-in-Tree.rest.now;
    }

pub tell_items-loop-item-preserved : goal.tell_items-loop-item-preserved
tell_items-loop-item-preserved g t c =
    let items = seen_items c.in-Some.beside in
    let passed = c.loop-item.invariant.passed in
    let e : seen_items c.loop-item.left ≡ Gap c.in-Run.count items = c.in-Some.ensures ∙ ap (λ (item : ItemView). begun_with item items) c.in-Run.is in
    let told = subst (λ (ps : List Proxy). HasTold g.D.Disk g.T.Tells.Contents g.T.Tells.Told (AreIntervalsOf g.D.Disk c.loop-item.records c.loop-item.disk ps) c.loop-item.walk.teller c.loop-item.disk c.loop-item.walk.left c.loop-item.walk.visited c.tell_row.new.walk.teller c.tell_row.new.disk c.tell_row.new.walk.left c.tell_row.new.walk.visited)
    c.split_at.ensures.front c.in_ok-tell_row-in-Run.ensures.told in
    let behind : drop c.in-Run.count c.loop-item.rest.now ≡ c.split_at.result.1.now = sym c.split_at.ensures.back in
    let same = ap proxies_in e in
    let sum = passed.2 in
    let split : IsSome (g.D.Disk.contents c.tell_row.new.disk) → (l : Layout) → AreOf g.D.Disk c.loop-item.records c.loop-item.disk (seen_items c.loop-item.left) c.loop-item.rest.now l
    → IsSplit g.T.Tells.Contents (AreIntervalsOf g.D.Disk c.loop-item.records c.loop-item.disk (take c.in-Run.count c.loop-item.rest.now)) (AreOf g.D.Disk c.tell_row.new.records c.tell_row.new.disk items (drop c.in-Run.count c.loop-item.rest.now)) l =
    λ seen l is. split_row g.D.Disk c.loop-item.records c.tell_row.new.records c.loop-item.disk c.tell_row.new.disk (told_stands (teller g) {r0 = c.loop-item.records} {r1 = c.tell_row.new.records} told.goes c.in_ok-tell_row-in-Run.ensures.stays seen) c.in-Run.count items c.loop-item.rest.now l
    (subst (λ f. AreOf g.D.Disk c.loop-item.records c.loop-item.disk f c.loop-item.rest.now l) e is) in
    record {
      stays = leaves_add_up c.loop-item.invariant.stays c.in_ok-tell_row-in-Run.ensures.stays;
      far = let far : AreFar (Gap c.in-Run.count items) = subst AreFar e c.loop-item.invariant.far in far;
      small = let small = c.loop-item.invariant.small in let sizes = ap gapped_size e in omega arith;
      passed = (passed.0 + c.in-Run.count, sym behind ∙ dropped_twice c.args.proxies.now c.loop-item.rest.now passed.0 c.in-Run.count passed.1, omega arith);
      way = subst (λ (ps : List Proxy). IsOnWay g.D.Disk g.T.Tells.Contents g.T.Tells.Told (AreOf g.D.Disk c.args.records.now c.args.disk.now (seen_items c.args.items) c.args.proxies.now) (AreOf g.D.Disk c.tell_row.new.records c.tell_row.new.disk items ps)
          c.args.walk.now.teller c.args.disk.now c.args.walk.now.left c.args.walk.now.visited c.tell_row.new.walk.teller c.tell_row.new.disk c.tell_row.new.walk.left c.tell_row.new.walk.visited) behind
          (way_goes_on (teller g) c.loop-item.invariant.way (AreOf g.D.Disk c.tell_row.new.records c.tell_row.new.disk items (drop c.in-Run.count c.loop-item.rest.now)) c.tell_row.new.walk.teller c.tell_row.new.disk c.tell_row.new.walk.left c.tell_row.new.walk.visited told split);
      read = items_row_goes (teller g) (nearing g) {r0 = c.args.records.now} {r1 = c.loop-item.records} (seen_items c.args.items) (seen_items c.loop-item.left) c.args.proxies.now c.loop-item.rest.now (c.loop-item.invariant.way).goes told.goes c.loop-item.invariant.stays c.loop-item.invariant.read
          c.in-Run.count items c.split_at.result.0.now c.split_at.result.1.now e c.split_at.ensures.front c.split_at.ensures.back c.tell_row.ensures.first c.in_ok-tell_row-in-Run.ensures.near;
    }

pub tell_interval-returns-in_err-visit-clause-stops : goal.tell_interval-returns-in_err-visit-clause-stops
tell_interval-returns-in_err-visit-clause-stops g t c =
    let p = err_from_is_err_and c.from_residual-in_err-visit.result c.from_residual-in_err-visit.ensures.1 in
    rw p.1 (stops_at_once g.T.Tells.Contents (teller g) (IsIntervalAt g.D.Disk c.args.records.now c.args.disk.now (place_of c.args.rid) c.args.roots) c.pause.new.self c.pause.new.disk c.in_ok-pause.ensures.ok (λ seen l is. let same = c.pause.ensures.unread in omega (arith, same)))

pub tell_interval-returns-then-not-branch-clause-stops : goal.tell_interval-returns-then-not-branch-clause-stops
tell_interval-returns-then-not-branch-clause-stops g t c =
    stops_at_once g.T.Tells.Contents (teller g) (IsIntervalAt g.D.Disk c.args.records.now c.args.disk.now (place_of c.args.rid) c.args.roots) c.pause.new.self c.pause.new.disk c.in_ok-pause.ensures.ok (λ seen l is. let same = c.pause.ensures.unread in omega (arith, same))

pub tell_interval-returns-then-not-branch-clause-refused : goal.tell_interval-returns-then-not-branch-clause-refused
tell_interval-returns-then-not-branch-clause-refused g t c =
    is_damaged g.D.Disk ⊥ (g.T.Tells.Unwritten c.args.disk.now c.pause.new.disk)
    (IsNone g.D.Disk c.pause.new.disk (IsIntervalAt g.D.Disk c.args.records.now c.args.disk.now (place_of c.args.rid) c.args.roots) c.args.depth c.args.walk.now.left c.args.walk.now.visited)
    {r0 = c.args.records.now} {r1 = c.args.records.now} {r2 = c.damaged.new.records} c.args.disk.now c.pause.new.disk c.damaged.result c.damaged.ensures.result c.requires.runs (leaves_same refl) c.damaged.ensures.ends
    (no_other_interval c.args.records.now (place_of c.args.rid) c.args.roots c.args.depth c.args.walk.now.left c.args.walk.now.visited c.pause.new.disk (λ places were. was_old (HasVisited c.visit.new.self (places ++ place_of c.args.rid ∷ [])) (Contains places (place_of c.args.rid)) c.if-not-branch.true (c.in_ok-visit.ensures places were)))

pub tell_tree-returns-then-spot-eq0-clause-refused : goal.tell_tree-returns-then-spot-eq0-clause-refused
tell_tree-returns-then-spot-eq0-clause-refused g t c =
    let none : (c.args.spot.depth ≡ 0) ⊎ (c.args.walk.now.left ≡ 0) = elim c.then-spot-eq0.branch [
      | tell_tree-then-spot-eq0-via-then-spot-eq0 w ↦ inl w.if-spot-eq0.true
      | tell_tree-then-spot-eq0-via-else-spot-eq0+then-walk-eq0 w ↦ inr w.if-walk-eq0.true
    ] in
    is_damaged g.D.Disk ⊥ (g.T.Tells.Unwritten c.args.disk.now c.args.disk.now)
    (IsNone g.D.Disk c.args.disk.now (IsTreeOf g.D.Disk c.args.records.now c.args.disk.now (seen_tree c.args.tree) c.args.proxies.now) c.args.spot.depth c.args.walk.now.left c.args.walk.now.visited)
    {r0 = c.args.records.now} {r1 = c.args.records.now} {r2 = c.damaged.new.records} c.args.disk.now c.args.disk.now c.damaged.result c.damaged.ensures.result c.requires.runs (leaves_same refl) c.damaged.ensures.ends
    (no_room c.args.records.now (seen_tree c.args.tree) c.args.proxies.now c.args.spot.depth c.args.walk.now.left c.args.walk.now.visited c.args.disk.now none)

pub tell_tree-returns-then-not-is_possible-clause-stops : goal.tell_tree-returns-then-not-is_possible-clause-stops
tell_tree-returns-then-not-is_possible-clause-stops g t c =
    stops_at_once g.T.Tells.Contents (teller g) (IsTreeOf g.D.Disk c.args.records.now c.args.disk.now (seen_tree c.args.tree) c.args.proxies.now) c.args.walk.now.teller c.args.disk.now ((teller g).asked c.args.walk.now.teller c.args.disk.now c.args.disk.now none_still) (λ seen l is. omega arith)

pub tell_tree-returns-then-not-is_possible-clause-refused : goal.tell_tree-returns-then-not-is_possible-clause-refused
tell_tree-returns-then-not-is_possible-clause-refused g t c =
    is_damaged g.D.Disk ⊥ (g.T.Tells.Unwritten c.args.disk.now c.args.disk.now)
    (IsNone g.D.Disk c.args.disk.now (IsTreeOf g.D.Disk c.args.records.now c.args.disk.now (seen_tree c.args.tree) c.args.proxies.now) c.args.spot.depth c.args.walk.now.left c.args.walk.now.visited)
    {r0 = c.args.records.now} {r1 = c.args.records.now} {r2 = c.damaged-then-not-is_possible.new.records} c.args.disk.now c.args.disk.now c.damaged-then-not-is_possible.result c.damaged-then-not-is_possible.ensures.result c.requires.runs (leaves_same refl)
    c.damaged-then-not-is_possible.ensures.ends
    (no_such_tree c.args.records.now (seen_tree c.args.tree) c.args.proxies.now c.args.spot.depth c.args.walk.now.left c.args.walk.now.visited c.args.disk.now
    (λ can. absurd (let yes = c.is_possible.ensures.1 can in let no = c.if-not-is_possible.true in cc)))

-- What was read while nothing was given:

pub tell_interval-returns-in_err-piece-clause-first : goal.tell_interval-returns-in_err-piece-clause-first
tell_interval-returns-in_err-piece-clause-first g t c = λ left some.
    interval_unread (teller g) (nearing g) {r = c.args.records.now} {roots = c.args.roots} c.args.depth c.in_ok-pause.ensures.ok c.in_ok-pause.ensures.gives c.pause.ensures.unread c.piece_at.ensures.still c.piece_at.ensures.reads left

pub tell_interval-returns-in_err-begin-clause-first : goal.tell_interval-returns-in_err-begin-clause-first
tell_interval-returns-in_err-begin-clause-first g t c = λ left some.
    interval_unread (teller g) (nearing g) {r = c.args.records.now} {roots = c.args.roots} c.args.depth c.in_ok-pause.ensures.ok c.in_ok-pause.ensures.gives c.pause.ensures.unread c.piece_at.ensures.still c.piece_at.ensures.reads left

pub tell_interval-returns-in_err-proxies-clause-first : goal.tell_interval-returns-in_err-proxies-clause-first
tell_interval-returns-in_err-proxies-clause-first g t c =
    let root = seen_tree c.in-Tree.root in
    let items = seen_items c.in-Some.beside in
    let e : seen_items c.loop-item.items ≡ Grow root.node root.below items = c.in-Some.ensures ∙ ap (λ (item : ItemView). begun_with item items) c.in-Tree.is in
    roots_tree (teller g) (nearing g) {r0 = c.args.records.now} {r1 = c.loop-item.records} (place_of c.args.rid) c.args.roots c.args.depth (seen_items c.loop-item.items) c.loop-item.proxies.now (c.loop-item.invariant.way).goes c.in_err-proxies.ensures.stops.goes c.loop-item.invariant.stays
    c.loop-item.invariant.read root items e c.tell_tree.ensures.first

pub tell_interval-returns-clause-first : goal.tell_interval-returns-clause-first
tell_interval-returns-clause-first g t c = λ left some.
    roots_read g.D.Disk g.T.Tells.Near c.args.records.now c.args.disk.now c.loop-item.disk c.args.walk.now.teller c.loop-item.walk.teller (place_of c.args.rid) c.args.roots c.args.depth (seen_items c.loop-item.items) c.loop-item.proxies.now (c.loop-item.invariant.read left some)

pub tell_interval-returns-clause-near : goal.tell_interval-returns-clause-near
tell_interval-returns-clause-near g t c = λ left some shallow.
    roots_near g.D.Disk g.T.Tells.Near c.args.records.now c.args.disk.now c.loop-item.disk c.args.walk.now.teller c.loop-item.walk.teller (place_of c.args.rid) c.args.roots c.args.depth (seen_items c.loop-item.items) c.loop-item.proxies.now (rw c.in_default.is at c.split_first.ensures) c.requires.some (c.loop-item.invariant.read left some) shallow

pub tell_items-returns-in_err-rest-in-Tree-clause-first : goal.tell_items-returns-in_err-rest-in-Tree-clause-first
tell_items-returns-in_err-rest-in-Tree-clause-first g t c =
    items_tree (teller g) (nearing g) {r0 = c.args.records.now} {r1 = c.loop-item.records} (seen_items c.args.items) (seen_items c.loop-item.left) c.args.proxies.now c.loop-item.rest.now (c.loop-item.invariant.way).goes c.in_err-rest-in-Tree.ensures.stops.goes c.loop-item.invariant.stays
    c.loop-item.invariant.read c.args.spot.depth c.requires.levels _ c.tell_tree.ensures.first

pub tell_items-returns-in_err-tell_row-in-Run-clause-first : goal.tell_items-returns-in_err-tell_row-in-Run-clause-first
tell_items-returns-in_err-tell_row-in-Run-clause-first g t c =
    let items = seen_items c.in-Some.beside in
    let e : seen_items c.loop-item.left ≡ Gap c.in-Run.count items = c.in-Some.ensures ∙ ap (λ (item : ItemView). begun_with item items) c.in-Run.is in
    items_row (teller g) (nearing g) {r0 = c.args.records.now} {r1 = c.loop-item.records} (seen_items c.args.items) (seen_items c.loop-item.left) c.args.proxies.now c.loop-item.rest.now (c.loop-item.invariant.way).goes c.in_err-tell_row-in-Run.ensures.stops.goes c.loop-item.invariant.stays
    c.loop-item.invariant.read c.in-Run.count items c.split_at.result.0.now e c.split_at.ensures.front c.tell_row.ensures.first

pub tell_items-returns-clause-first : goal.tell_items-returns-clause-first
tell_items-returns-clause-first g t c = λ left begins.
    items_read g.D.Disk g.T.Tells.Near c.args.records.now c.args.disk.now c.loop-item.disk c.args.walk.now.teller c.loop-item.walk.teller (seen_items c.args.items) (seen_items c.loop-item.left) c.args.proxies.now c.loop-item.rest.now (c.loop-item.invariant.read left begins)

pub tell_row-returns-in_err-tell_interval-clause-first : goal.tell_row-returns-in_err-tell_interval-clause-first
tell_row-returns-in_err-tell_interval-clause-first g t c =
    let i = c.loop-proxy.proxy-index in
    let proxy = get_or c.args.proxies.now i no_proxy in
    let d : drop i c.args.proxies.now ≡ proxy ∷ drop (i + 1) c.args.proxies.now = next_at c.args.proxies.now i no_proxy c.loop-proxy-test.true in
    row_interval (teller g) (nearing g) {r0 = c.args.records.now} {r1 = c.loop-proxy.records} i c.args.proxies.now (c.loop-proxy.invariant.way).goes c.in_err-tell_interval.ensures.stops.goes c.loop-proxy.invariant.stays c.loop-proxy.invariant.read c.args.depth c.requires.levels proxy
    (drop (i + 1) c.args.proxies.now) d c.tell_interval.ensures.first

pub tell_row-returns-clause-first : goal.tell_row-returns-clause-first
tell_row-returns-clause-first g t c = λ left begins. row_read g.D.Disk g.T.Tells.Near c.args.records.now c.args.disk.now c.loop-proxy.disk c.args.walk.now.teller c.loop-proxy.walk.teller c.loop-proxy.proxy-index c.args.proxies.now (c.loop-proxy.invariant.read left begins)

pub tell_row-returns-clause-near : goal.tell_row-returns-clause-near
tell_row-returns-clause-near g t c = λ left begins.
    row_near g.D.Disk g.T.Tells.Near c.args.records.now c.args.disk.now c.loop-proxy.disk c.args.walk.now.teller c.loop-proxy.walk.teller c.loop-proxy.proxy-index c.args.proxies.now (omega arith) (c.loop-proxy.invariant.read left begins)

pub tell_tree-returns-in_err-behind-clause-first : goal.tell_tree-returns-in_err-behind-clause-first
tell_tree-returns-in_err-behind-clause-first g t c =
    let begun = c.in_ok-begin_node.ensures in
    let can = c.is_possible.ensures.0 c.if-not-is_possible.false in
    tree_first (teller g) (nearing g) {r0 = c.args.records.now} {r1 = c.begin_node.new.records} begun.told.goes c.in_err-behind.ensures.stops.goes begun.stays c.args.spot.depth c.requires.levels (seen_items c.args.tree.children) c.args.proxies.now
    c.begin_node.ensures.unread (λ left two shallow. begun.near left (below_root c.args.spot.depth (seen_tree c.args.tree) shallow can) two) c.tell_items.ensures.first

pub tell_tree-returns-in_err-close-clause-first : goal.tell_tree-returns-in_err-close-clause-first
tell_tree-returns-in_err-close-clause-first g t c =
    let begun = c.in_ok-begin_node.ensures in
    let can = c.is_possible.ensures.0 c.if-not-is_possible.false in
    tree_first (teller g) (nearing g) {r0 = c.args.records.now} {r1 = c.begin_node.new.records} begun.told.goes c.in_ok-behind.ensures.told.goes begun.stays c.args.spot.depth c.requires.levels (seen_items c.args.tree.children) c.args.proxies.now
    c.begin_node.ensures.unread (λ left two shallow. begun.near left (below_root c.args.spot.depth (seen_tree c.args.tree) shallow can) two) c.tell_items.ensures.first

pub tell_tree-returns-clause-first : goal.tell_tree-returns-clause-first
tell_tree-returns-clause-first g t c =
    let begun = c.in_ok-begin_node.ensures in
    let can = c.is_possible.ensures.0 c.if-not-is_possible.false in
    tree_first (teller g) (nearing g) {r0 = c.args.records.now} {r1 = c.begin_node.new.records} begun.told.goes c.in_ok-behind.ensures.told.goes begun.stays c.args.spot.depth c.requires.levels (seen_items c.args.tree.children) c.args.proxies.now
    c.begin_node.ensures.unread (λ left two shallow. begun.near left (below_root c.args.spot.depth (seen_tree c.args.tree) shallow can) two) c.tell_items.ensures.first

pub tell_tree-returns-clause-near : goal.tell_tree-returns-clause-near
tell_tree-returns-clause-near g t c =
    let begun = c.in_ok-begin_node.ensures in
    let can = c.is_possible.ensures.0 c.if-not-is_possible.false in
    let has = c.in_ok-behind.ensures.told in
    let end = Close c.args.tree.node.kind c.args.tree.node.name.now ∷ [] in
    tree_near (teller g) (nearing g) {r0 = c.args.records.now} {r1 = c.begin_node.new.records} begun.told.goes
    ((teller g).join c.begin_node.new.teller c.tell_items.new.walk.teller c.close.new.self c.begin_node.new.disk c.tell_items.new.disk c.tell_items.new.disk has.told end has.goes (c.in_ok-close.ensures c.tell_items.new.disk)) begun.stays c.args.spot.depth c.requires.levels
    (seen_items c.args.tree.children) c.args.proxies.now (λ left two shallow. begun.near left (below_root c.args.spot.depth (seen_tree c.args.tree) shallow can) two)
