use Rattle.std.proofs.Common.{◌≡◌, ◌+◌, ◌≤◌, ◌||◌, Bool, false, List, ◌∷◌, Some, length, drop, get_or, refl, sym, ap, ◌∙◌, subst, arith}
use Rattle.std.proofs.lemmas.Result.{err_from_is_err_and}
use Rattle.std.proofs.lemmas.List.{drop_all}
use Rattle.nx_host.proofs.DiskLemmas.{none_still, still_then}
use Rattle.nx_tree.specs.declared.node.Kind.TheVariants.{Element}
use Rattle.nx_piece.specs.declared.piece.Piece.{Piece}
use Rattle.nx_piece.specs.declared.piece.Proxy.{Proxy}
use Rattle.nx_piece.specs.declared.viewing.ItemView.{ItemView}
use Rattle.nx_piece.specs.Gapped.{Gapped, End, Grow, Gap, proxies_in}
use Rattle.nx_piece.specs.Valid.{AreTrees}
use Rattle.nx_piece.specs.Viewing.{seen_items, seen_tree, begun_with}
use Rattle.nx_piece.proofs.WalkLemmas.{next_at}
use Rattle.nx_cuts.specs.Cut.{Bare, Grown, Kept}
use Rattle.nx_cuts.specs.Rows.{joined_row}
use Rattle.nx_hold.specs.Changes.{place_named}
use Rattle.nx_rules.specs.Walked.{Reached, Walked, walked_forest}
use Rattle.nx_rules.specs.Broken.{waits}
use Rattle.nx_rules.specs.Places.{Inside}
use Rattle.nx_check.specs.declared.walking.Spot.{Spot}
use Rattle.nx_check.specs.Heads.{Head, heads, item_heads}
use Rattle.nx_check.specs.Shown.{gapped_depth}
use Rattle.nx_check.specs.Siblings.{AreAround}
use Rattle.nx_check.specs.Standing.{IsLaidRow}
use Rattle.nx_check.proofs.LaidLemmas.{node_shown}
use Rattle.nx_check.proofs.ReachLemmas.{stops_later}
use Rattle.nx_check.proofs.WalkLemmas.{HasPassed, HasRun, done_more, siblings_begin, siblings_below, tree_stands, tree_passed, heads_kept, tree_before, gap_stands, gap_passed, gap_before, proxy_stands, proxy_run, enough_left, dropped_twice}
use Rattle.nx_check.proofs.walking.+walk.Goals as goal

abbrev no_proxy : Proxy
no_proxy = record { page = 0; slot = 0; roots = 0 }

-- The roots of a piece:

pub walk_piece-loop-item-init : goal.walk_piece-loop-item-init
walk_piece-loop-item-init g t c =
    let roots : seen_items c.roots-left.result ≡ c.args.piece.now.body.roots = c.roots-left.ensures ∙ ap (λ (p : Piece). p.body.roots) c.piece.view_is in
    let proxies : c.as_slice-proxies.result.now ≡ c.args.piece.now.proxies = c.as_slice-proxies.ensures ∙ ap (λ (p : Piece). p.proxies) c.piece.view_is in
    let body = c.requires.body in
    record {
      still = none_still;
      same = refl;
      trees = subst AreTrees (sym roots) body.trees;
      fits = let counted : proxies_in c.args.piece.now.body.roots ≡ length c.args.piece.now.proxies = body.counted in let a = ap proxies_in roots in let b = ap length proxies in omega (arith, counted, a, b);
      low = subst (λ (f : Gapped). gapped_depth f ≤ c.args.spot.levels) (sym roots) c.requires.low;
      on = λ was s.
          let laid : IsLaidRow (seen_items c.roots-left.result) c.as_slice-proxies.result.now s.row =
          subst (λ (f : Gapped). IsLaidRow f c.as_slice-proxies.result.now s.row) (sym roots) (subst (λ (ps : List Proxy). IsLaidRow c.args.piece.now.body.roots ps s.row) (sym proxies) s.begins) in
          (record { done = Bare; todo = s.row; none = refl; laid = laid; walked = s.walked }, refl);
    }

pub walk_piece-returns-in_err-proxies-clause-refused : goal.walk_piece-returns-in_err-proxies-clause-refused
walk_piece-returns-in_err-proxies-clause-refused g t c =
    let beside = seen_items c.in-Some.beside in
    let root = seen_tree c.in-Tree.root in
    let ps = c.loop-item.proxies.now in
    let e : seen_items c.loop-item.left ≡ Grow root.node root.below beside = c.in-Some.ensures ∙ ap (λ (item : ItemView). begun_with item beside) c.in-Tree.is in
    let spot = c.below.result in
    let deep = ap gapped_depth e in
    let low = c.loop-item.invariant.low in
    let levels : spot.levels + 1 ≡ c.args.spot.levels = let l = ap (λ (x : Spot). x.levels) c.below.ensures in omega (arith, l, deep, low) in
    let p = err_from_is_err_and c.from_residual.result c.from_residual.ensures.1 in
    rw (p.1, p.2)
    (stops_later g.D.Disk c.args.disk.now c.loop-item.disk c.walk_below.new.disk _ _ c.in_err-proxies.field-0.0 c.loop-item.invariant.still c.in_err-proxies.ensures.refused
    (λ was s.
    let h = subst (λ (f : Gapped). HasPassed g.D.Disk c.loop-item.walk c.loop-item.tally c.loop-item.disk was s.base s.stage s.around f ps) e (c.loop-item.invariant.on was s).0 in
    tree_stands g.D.Disk c.loop-item.walk c.loop-item.tally c.loop-item.disk was s.base s.stage s.around root.node root.below beside ps h c.args.spot.page c.args.spot.levels c.args.spot.k spot.page spot.levels spot.k
    (ap (λ (x : Spot). x.page) c.below.ensures) levels (ap (λ (x : Spot). x.k) c.below.ensures) s.place))

pub walk_piece-loop-item-preserved-in_ok-proxies : goal.walk_piece-loop-item-preserved-in_ok-proxies
walk_piece-loop-item-preserved-in_ok-proxies g t c =
    let beside = seen_items c.in-Some.beside in
    let root = seen_tree c.in-Tree.root in
    let ps = c.loop-item.proxies.now in
    let e : seen_items c.loop-item.left ≡ Grow root.node root.below beside = c.in-Some.ensures ∙ ap (λ (item : ItemView). begun_with item beside) c.in-Tree.is in
    let spot = c.below.result in
    let deep = ap gapped_depth e in
    let low = c.loop-item.invariant.low in
    let levels : spot.levels + 1 ≡ c.args.spot.levels = let l = ap (λ (x : Spot). x.levels) c.below.ensures in omega (arith, l, deep, low) in
    let behind : c.in_ok-proxies.proxies.now ≡ drop (proxies_in root.below) ps = c.in_ok-proxies.ensures.behind in
    record {
      still = still_then c.loop-item.invariant.still c.walk_below.ensures.still;
      same = c.in_ok-proxies.ensures.same ∙ c.loop-item.invariant.same;
      trees = let trees : AreTrees (Grow root.node root.below beside) = subst AreTrees e c.loop-item.invariant.trees in trees;
      fits = enough_left ps c.in_ok-proxies.proxies.now (proxies_in root.below) (proxies_in beside) (proxies_in (seen_items c.loop-item.left)) behind (sym (ap proxies_in e)) c.loop-item.invariant.fits;
      low = omega (arith, deep, low);
      on = λ was s.
          let old = subst (λ (f : Gapped). (h : HasPassed g.D.Disk c.loop-item.walk c.loop-item.tally c.loop-item.disk was s.base s.stage s.around f ps) × (heads (walked_forest (joined_row h.done h.todo)) ≡ heads (walked_forest s.row))) e (c.loop-item.invariant.on was s) in
          let h : HasPassed g.D.Disk c.loop-item.walk c.loop-item.tally c.loop-item.disk was s.base s.stage s.around (Grow root.node root.below beside) ps = old.0 in
          let r = c.in_ok-proxies.ensures.ok was
          (tree_stands g.D.Disk c.loop-item.walk c.loop-item.tally c.loop-item.disk was s.base s.stage s.around root.node root.below beside ps h c.args.spot.page c.args.spot.levels c.args.spot.k spot.page spot.levels spot.k
          (ap (λ (x : Spot). x.page) c.below.ensures) levels (ap (λ (x : Spot). x.k) c.below.ensures) s.place) in
          let kept : heads (walked_forest (joined_row h.done (Grown h.laid.0 h.laid.1 h.laid.2))) ≡ heads (walked_forest s.row) = subst (λ (w : Walked). heads (walked_forest (joined_row h.done w)) ≡ heads (walked_forest s.row)) h.laid.3 old.1 in
          subst (λ (l : List Proxy). (h : HasPassed g.D.Disk c.walk_below.new.walk c.walk_below.new.tally c.walk_below.new.disk was s.base s.stage s.around beside l) × (heads (walked_forest (joined_row h.done h.todo)) ≡ heads (walked_forest s.row))) (sym behind) (
            tree_passed g.D.Disk c.loop-item.walk c.loop-item.tally c.loop-item.disk was s.base s.stage s.around root.node root.below beside ps h c.walk_below.new.walk c.walk_below.new.tally c.walk_below.new.disk r.0 r.1 r.2,
            heads_kept g.D.Disk h.done h.laid.0 h.laid.1 r.0 h.laid.2 s.row kept,
          );
    }

pub walk_piece-returns-clause-ok : goal.walk_piece-returns-clause-ok
walk_piece-returns-clause-ok g t c = λ was s.
    let ps = c.loop-item.proxies.now in
    let old = subst (λ (f : Gapped). (h : HasPassed g.D.Disk c.loop-item.walk c.loop-item.tally c.loop-item.disk was s.base s.stage s.around f ps) × (heads (walked_forest (joined_row h.done h.todo)) ≡ heads (walked_forest s.row))) c.in_default.ensures (c.loop-item.invariant.on was s) in
    let h : HasPassed g.D.Disk c.loop-item.walk c.loop-item.tally c.loop-item.disk was s.base s.stage s.around End ps = old.0 in
    (joined_row h.done h.todo, done_more h.done h.todo h.none (ap waits h.laid), old.1, h.walked)

-- What is below a node:

pub walk_below-loop-item-init : goal.walk_below-loop-item-init
walk_below-loop-item-init g t c = record {
  still = none_still;
  same = refl;
  kind = c.new-siblings.ensures.kind;
  passed = (0, refl, omega arith);
  low = c.requires.low;
  on = λ was s. (record { done = Bare; todo = s.row; none = refl; laid = s.begins.3; walked = s.walked }, λ k. c.new-siblings.ensures.around);
}

pub walk_below-returns-in_err-rest-in-Tree-clause-refused : goal.walk_below-returns-in_err-rest-in-Tree-clause-refused
walk_below-returns-in_err-rest-in-Tree-clause-refused g t c =
    let beside = seen_items c.in-Some.beside in
    let child = seen_tree c.in-Tree.child in
    let ps = c.loop-item.rest.now in
    let e : seen_items c.loop-item.left ≡ Grow child.node child.below beside = c.in-Some.ensures ∙ ap (λ (item : ItemView). begun_with item beside) c.in-Tree.is in
    let spot = c.below.result in
    let deep = ap gapped_depth e in
    let low = c.loop-item.invariant.low in
    let levels : spot.levels + 1 ≡ c.args.spot.levels = let l = ap (λ (x : Spot). x.levels) c.below.ensures in omega (arith, l, deep, low) in
    let p = err_from_is_err_and c.from_residual.result c.from_residual.ensures.1 in
    rw (p.1, p.2)
    (stops_later g.D.Disk c.args.disk.now c.loop-item.disk c.walk_below.new.disk _ _ c.in_err-rest-in-Tree.field-0.0 c.loop-item.invariant.still c.in_err-rest-in-Tree.ensures.refused
    (λ was s.
    let h = subst (λ (f : Gapped). HasPassed g.D.Disk c.loop-item.walk c.loop-item.tally c.loop-item.disk was s.base s.stage s.around f ps) e (c.loop-item.invariant.on was s).0 in
    tree_stands g.D.Disk c.loop-item.walk c.loop-item.tally c.loop-item.disk was s.base s.stage s.around child.node child.below beside ps h c.args.spot.page c.args.spot.levels c.args.spot.k spot.page spot.levels spot.k
    (ap (λ (x : Spot). x.page) c.below.ensures) levels (ap (λ (x : Spot). x.k) c.below.ensures) s.place))

pub walk_below-loop-item-preserved-in_ok-rest-in-Tree : goal.walk_below-loop-item-preserved-in_ok-rest-in-Tree
walk_below-loop-item-preserved-in_ok-rest-in-Tree g t c =
    let beside = seen_items c.in-Some.beside in
    let child = seen_tree c.in-Tree.child in
    let ps = c.loop-item.rest.now in
    let e : seen_items c.loop-item.left ≡ Grow child.node child.below beside = c.in-Some.ensures ∙ ap (λ (item : ItemView). begun_with item beside) c.in-Tree.is in
    let spot = c.below.result in
    let deep = ap gapped_depth e in
    let low = c.loop-item.invariant.low in
    let levels : spot.levels + 1 ≡ c.args.spot.levels = let l = ap (λ (x : Spot). x.levels) c.below.ensures in omega (arith, l, deep, low) in
    let behind : c.in_ok-rest-in-Tree.rest.now ≡ drop (proxies_in child.below) ps = c.in_ok-rest-in-Tree.ensures.behind in
    let passed = c.loop-item.invariant.passed in
    let old_kind = c.loop-item.siblings.kind in
    let head : Head = record { kind = child.node.node.kind; name = child.node.node.name } in
    record {
      still = still_then c.loop-item.invariant.still c.walk_below.ensures.still;
      same = c.in_ok-rest-in-Tree.ensures.same ∙ c.loop-item.invariant.same;
      kind = c.pass.ensures.same ∙ c.loop-item.invariant.kind;
      passed = (passed.0 + proxies_in child.below, behind ∙ dropped_twice c.args.proxies.now ps passed.0 (proxies_in child.below) passed.1, (let sum = passed.2 in let all = ap proxies_in e in omega (arith, sum, all)));
      low = omega (arith, deep, low);
      on = λ was s.
          let old = subst (λ (f : Gapped). (h : HasPassed g.D.Disk c.loop-item.walk c.loop-item.tally c.loop-item.disk was s.base s.stage s.around f ps) × (old_kind ≡ Element → AreAround c.loop-item.siblings (heads (walked_forest h.done)) (item_heads f))) e (c.loop-item.invariant.on was s) in
          let h : HasPassed g.D.Disk c.loop-item.walk c.loop-item.tally c.loop-item.disk was s.base s.stage s.around (Grow child.node child.below beside) ps = old.0 in
          let r = c.in_ok-rest-in-Tree.ensures.ok was
          (tree_stands g.D.Disk c.loop-item.walk c.loop-item.tally c.loop-item.disk was s.base s.stage s.around child.node child.below beside ps h c.args.spot.page c.args.spot.levels c.args.spot.k spot.page spot.levels spot.k
          (ap (λ (x : Spot). x.page) c.below.ensures) levels (ap (λ (x : Spot). x.k) c.below.ensures) s.place) in
          let same_heads = tree_before g.D.Disk h.done h.laid.0 r.0 child.node (node_shown h.laid.0 child.node h.laid.4) in
          subst (λ (l : List Proxy). (h : HasPassed g.D.Disk c.walk_below.new.walk c.walk_below.new.tally c.walk_below.new.disk was s.base s.stage s.around beside l) × (c.pass.new.self.kind ≡ Element → AreAround c.pass.new.self (heads (walked_forest h.done)) (item_heads beside))) (sym behind) (
            tree_passed g.D.Disk c.loop-item.walk c.loop-item.tally c.loop-item.disk was s.base s.stage s.around child.node child.below beside ps h c.walk_below.new.walk c.walk_below.new.tally c.walk_below.new.disk r.0 r.1 r.2,
            λ k. subst (λ (l : List Head). AreAround c.pass.new.self l (item_heads beside)) (sym same_heads) (c.pass.ensures.around (heads (walked_forest h.done)) (item_heads beside) head refl (old.1 (sym c.pass.ensures.same ∙ k))),
          );
    }

pub walk_below-returns-in_err-walk_row-in-Run-clause-refused : goal.walk_below-returns-in_err-walk_row-in-Run-clause-refused
walk_below-returns-in_err-walk_row-in-Run-clause-refused g t c =
    let beside = seen_items c.in-Some.beside in
    let count = c.in-Run.count in
    let ps = c.loop-item.rest.now in
    let e : seen_items c.loop-item.left ≡ Gap count beside = c.in-Some.ensures ∙ ap (λ (item : ItemView). begun_with item beside) c.in-Run.is in
    let siblings = c.come.new.self in
    let same_kind = c.come.ensures.same in
    let p = err_from_is_err_and c.from_residual-in_err-walk_row-in-Run.result c.from_residual-in_err-walk_row-in-Run.ensures.1 in
    rw (p.1, p.2)
    (stops_later g.D.Disk c.args.disk.now c.loop-item.disk c.walk_row.new.disk _ _ c.in_err-walk_row-in-Run.field-0.0 c.loop-item.invariant.still c.in_err-walk_row-in-Run.ensures.refused
    (λ was s.
    let old = subst (λ (f : Gapped). (h : HasPassed g.D.Disk c.loop-item.walk c.loop-item.tally c.loop-item.disk was s.base s.stage s.around f ps) × (c.loop-item.siblings.kind ≡ Element → AreAround c.loop-item.siblings (heads (walked_forest h.done)) (item_heads f))) e (c.loop-item.invariant.on was s) in
    let h : HasPassed g.D.Disk c.loop-item.walk c.loop-item.tally c.loop-item.disk was s.base s.stage s.around (Gap count beside) ps = old.0 in
    gap_stands g.D.Disk siblings c.loop-item.walk c.loop-item.tally c.loop-item.disk was s.base s.stage s.around count beside ps h (s.begins.0 ∙ ap Some (sym (same_kind ∙ c.loop-item.invariant.kind))) s.begins.1 s.begins.2
    c.split_at.result.0.now c.args.spot.page c.args.spot.levels c.args.spot.k c.split_at.ensures.front s.place (λ k. c.come.ensures.around (heads (walked_forest h.done)) (old.1 (sym same_kind ∙ k)))))

pub walk_below-loop-item-preserved : goal.walk_below-loop-item-preserved
walk_below-loop-item-preserved g t c =
    let beside = seen_items c.in-Some.beside in
    let count = c.in-Run.count in
    let ps = c.loop-item.rest.now in
    let e : seen_items c.loop-item.left ≡ Gap count beside = c.in-Some.ensures ∙ ap (λ (item : ItemView). begun_with item beside) c.in-Run.is in
    let siblings = c.come.new.self in
    let later = c.walk_row.new.siblings in
    let same_kind = c.come.ensures.same in
    let behind : c.split_at.result.1.now ≡ drop count ps = c.split_at.ensures.back in
    let passed = c.loop-item.invariant.passed in
    record {
      still = still_then c.loop-item.invariant.still c.walk_row.ensures.still;
      same = c.in_ok-walk_row-in-Run.ensures.same ∙ c.loop-item.invariant.same;
      kind = c.in_ok-walk_row-in-Run.ensures.kind ∙ same_kind ∙ c.loop-item.invariant.kind;
      passed = (passed.0 + count, behind ∙ dropped_twice c.args.proxies.now ps passed.0 count passed.1, (let sum = passed.2 in let all = ap proxies_in e in omega (arith, sum, all)));
      low = let deep = ap gapped_depth e in let low = c.loop-item.invariant.low in omega (arith, deep, low);
      on = λ was s.
          let old = subst (λ (f : Gapped). (h : HasPassed g.D.Disk c.loop-item.walk c.loop-item.tally c.loop-item.disk was s.base s.stage s.around f ps) × (c.loop-item.siblings.kind ≡ Element → AreAround c.loop-item.siblings (heads (walked_forest h.done)) (item_heads f))) e (c.loop-item.invariant.on was s) in
          let h : HasPassed g.D.Disk c.loop-item.walk c.loop-item.tally c.loop-item.disk was s.base s.stage s.around (Gap count beside) ps = old.0 in
          let above = s.begins.0 ∙ ap Some (sym (same_kind ∙ c.loop-item.invariant.kind)) in
          let r = c.in_ok-walk_row-in-Run.ensures.ok was
          (gap_stands g.D.Disk siblings c.loop-item.walk c.loop-item.tally c.loop-item.disk was s.base s.stage s.around count beside ps h above s.begins.1 s.begins.2
          c.split_at.result.0.now c.args.spot.page c.args.spot.levels c.args.spot.k c.split_at.ensures.front s.place (λ k. c.come.ensures.around (heads (walked_forest h.done)) (old.1 (sym same_kind ∙ k)))) in
          subst (λ (l : List Proxy). (h : HasPassed g.D.Disk c.walk_row.new.walk c.walk_row.new.tally c.walk_row.new.disk was s.base s.stage s.around beside l) × (later.kind ≡ Element → AreAround later (heads (walked_forest h.done)) (item_heads beside))) (sym behind) (
            gap_passed g.D.Disk siblings c.loop-item.walk c.loop-item.tally c.loop-item.disk was s.base s.stage s.around count beside ps h above s.begins.1 s.begins.2 c.walk_row.new.walk c.walk_row.new.tally c.walk_row.new.disk r.0 r.1 r.3,
            gap_before g.D.Disk siblings c.loop-item.walk c.loop-item.tally c.loop-item.disk was s.base s.stage s.around count beside ps h above s.begins.1 s.begins.2 later r.0 r.2,
          );
    }

pub walk_below-returns-clause-ok : goal.walk_below-returns-clause-ok
walk_below-returns-clause-ok g t c = λ was s.
    let h = subst (λ (f : Gapped). HasPassed g.D.Disk c.loop-item.walk c.loop-item.tally c.loop-item.disk was s.base s.stage s.around f c.loop-item.rest.now) c.in_default.ensures (c.loop-item.invariant.on was s).0 in
    (joined_row h.done h.todo, done_more h.done h.todo h.none (ap waits h.laid), h.walked)

-- A row of records:

pub walk_row-loop-proxy-init : goal.walk_row-loop-proxy-init
walk_row-loop-proxy-init g t c = record {
  still = none_still;
  same = refl;
  kind = refl;
  on = λ was s. record { done = Bare; none = refl; has = siblings_begin c.args.siblings.now s.around s.row s.begins; walked = s.walked };
}

pub walk_row-returns-in_err-walk_interval-clause-refused : goal.walk_row-returns-in_err-walk_interval-clause-refused
walk_row-returns-in_err-walk_interval-clause-refused g t c =
    let i = c.loop-proxy.proxy-index in
    let ps = c.args.proxies.now in
    let proxy = get_or ps i no_proxy in
    let d : drop i ps ≡ proxy ∷ drop (i + 1) ps = next_at ps i no_proxy c.loop-proxy-test.true in
    let siblings = c.loop-proxy.siblings in
    let p = err_from_is_err_and c.from_residual.result c.from_residual.ensures.1 in
    rw (p.1, p.2)
    (stops_later g.D.Disk c.args.disk.now c.loop-proxy.disk c.walk_interval.new.disk _ _ c.in_err-walk_interval.field-0.0 c.loop-proxy.invariant.still c.in_err-walk_interval.ensures.refused
    (λ was s.
    let h = subst (λ (l : List Proxy). HasRun g.D.Disk siblings c.loop-proxy.walk c.loop-proxy.tally c.loop-proxy.disk was s.base s.stage s.around s.row l) d (c.loop-proxy.invariant.on was s) in
    proxy_stands g.D.Disk siblings c.loop-proxy.walk c.loop-proxy.tally c.loop-proxy.disk was s.base s.stage s.around s.row proxy (drop (i + 1) ps) h c.args.spot.page c.args.spot.levels c.args.spot.k s.place))

pub walk_row-loop-proxy-preserved : goal.walk_row-loop-proxy-preserved
walk_row-loop-proxy-preserved g t c =
    let i = c.loop-proxy.proxy-index in
    let ps = c.args.proxies.now in
    let proxy = get_or ps i no_proxy in
    let d : drop i ps ≡ proxy ∷ drop (i + 1) ps = next_at ps i no_proxy c.loop-proxy-test.true in
    let siblings = c.loop-proxy.siblings in
    record {
      still = still_then c.loop-proxy.invariant.still c.walk_interval.ensures.still;
      same = c.in_ok-walk_interval.ensures.same ∙ c.loop-proxy.invariant.same;
      kind = c.in_ok-walk_interval.ensures.kind ∙ c.loop-proxy.invariant.kind;
      on = λ was s.
          let h = subst (λ (l : List Proxy). HasRun g.D.Disk siblings c.loop-proxy.walk c.loop-proxy.tally c.loop-proxy.disk was s.base s.stage s.around s.row l) d (c.loop-proxy.invariant.on was s) in
          let r = c.in_ok-walk_interval.ensures.ok was
          (proxy_stands g.D.Disk siblings c.loop-proxy.walk c.loop-proxy.tally c.loop-proxy.disk was s.base s.stage s.around s.row proxy (drop (i + 1) ps) h c.args.spot.page c.args.spot.levels c.args.spot.k s.place) in
          proxy_run g.D.Disk siblings c.loop-proxy.walk c.loop-proxy.tally c.loop-proxy.disk was s.base s.stage s.around s.row proxy (drop (i + 1) ps) h c.walk_interval.new.siblings c.walk_interval.new.walk c.walk_interval.new.tally c.walk_interval.new.disk r.0 r.1 r.2 r.3;
    }

pub walk_row-returns-clause-ok : goal.walk_row-returns-clause-ok
walk_row-returns-clause-ok g t c = λ was s.
    let h = subst (λ (l : List Proxy). HasRun g.D.Disk c.loop-proxy.siblings c.loop-proxy.walk c.loop-proxy.tally c.loop-proxy.disk was s.base s.stage s.around s.row l) (drop_all c.loop-proxy.proxy-index c.args.proxies.now (omega arith)) (c.loop-proxy.invariant.on was s) in
    (h.done, h.none, h.has, h.walked)

-- An interval:

pub walk_interval-returns-in_err-walk_piece-clause-refused : goal.walk_interval-returns-in_err-walk_piece-clause-refused
walk_interval-returns-in_err-walk_piece-clause-refused g t c =
    let place = place_named c.args.proxy in
    let p = err_from_is_err_and c.from_residual-in_err-walk_piece.result c.from_residual-in_err-walk_piece.ensures.1 in
    rw (p.1, p.2)
    (stops_later g.D.Disk c.args.disk.now c.reach_interval.new.disk c.walk_piece.new.disk _ _ c.in_err-walk_piece.field-0.0 c.reach_interval.ensures.still c.in_err-walk_piece.ensures.refused
    (λ was s.
    let r = c.in_ok-piece.ensures.ok was s in
    record {
      base = s.base;
      stage = s.stage;
      around = Inside place r.0 s.row s.around;
      row = r.1;
      place = record { among = s.place.among; come = s.place.come; namer = refl; level = s.place.level };
      begins = r.2;
      walked = r.4;
    }))

pub walk_interval-returns-clause-ok : goal.walk_interval-returns-clause-ok
walk_interval-returns-clause-ok g t c = λ was s.
    let place = place_named c.args.proxy in
    let r = c.in_ok-piece.ensures.ok was s in
    let w = c.in_ok-walk_piece.ensures.ok was
    (record {
      base = s.base;
      stage = s.stage;
      around = Inside place r.0 s.row s.around;
      row = r.1;
      place = record { among = s.place.among; come = s.place.come; namer = refl; level = s.place.level };
      begins = r.2;
      walked = r.4;
    }) in
    (Kept (Reached place r.0) w.0 Bare, ap (λ (b : Bool). b || false) w.1, siblings_below c.reach_interval.new.siblings s.around place r.0 r.1 w.0 s.row w.2 r.3, w.3)
