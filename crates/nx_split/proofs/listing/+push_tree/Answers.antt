use Rattle.std.proofs.Common.{rules, arith, ◌≡◌, ◌+◌, ◌-◌, ◌<◌, ◌≤◌, ◌^◌, ◌++◌, ℕ, List, suc, length, drop, take, refl, sym, ap, subst, ◌∙◌, vec_len}
use Rattle.std.specs.List.{sum_by}
use Rattle.std.proofs.lemmas.List.{drop_all}
use Rattle.nx_matrix.specs.declared.rule.Entry.{Entry}
use Rattle.nx_piece.specs.declared.piece.Item.{Item}
use Rattle.nx_piece.specs.declared.piece.Proxy.{Proxy}
use Rattle.nx_piece.specs.PieceNode.{item_slots}
use Rattle.nx_piece.specs.Gapped.{GappedTree, item_count, gapped_size, gapped_weight, proxies_in}
use Rattle.nx_piece.specs.Valid.{AreFar}
use Rattle.nx_piece.specs.Items.{gapped_of}
use Rattle.nx_piece.proofs.SizeLemmas.{item_bound, weight_within}
use Rattle.nx_piece.proofs.WalkLemmas.{next_tree, next_run, next_falls}
use Rattle.nx_piece.proofs.LocateLemmas.{none_counted, tree_counted, gap_counted, counted_few}
use Rattle.nx_sketch.specs.declared.spot.Spot.{Spot}
use Rattle.nx_sketch.specs.Sketch.{spots_of}
use Rattle.nx_split.specs.Piece.{asked, tree_sketch}
use Rattle.nx_split.proofs.ListLemmas.{AreListed, are_listed, none_listed, tree_listed, gap_listed, listed_few, told}
use Rattle.nx_split.proofs.listing.+push_tree.Goals as goal
use Rattle.nx_split.proofs.listing.+push_tree.Goals.{in-Tree+in_ok-passed-in-Tree, in-Run}

pub push_tree-requires : goal.push_tree-requires
push_tree-requires t c =
    let d = next_tree c.as_slice-item-items.result.now c.loop-item.item-index c.item-item.result c.in-Tree.child c.loop-item-test.true c.item-item.is c.in-Tree.is in
    let falls : suc (item_count c.in-Tree.child.below) ≤ item_count c.args.tree.now.below =
    next_falls c.args.tree.now.below c.as_slice-item-items.result.now c.loop-item.item-index c.in-Tree.child (c.as_slice-item-items.ensures ∙ ap (λ (x : GappedTree). x.below) c.tree.view_is) d in
    let p = ap (λ (xs : List Item). proxies_in (gapped_of xs)) d in
    let w = ap (λ (xs : List Item). gapped_size (gapped_of xs)) d in
    let f = c.loop-item.invariant.counted.fits in
    let s = c.loop-item.invariant.small in
    let room : c.args.first + proxies_in c.args.tree.now.below ≤ length c.args.proxies.now = c.requires.fits in
    let far = subst AreFar (ap gapped_of d) c.loop-item.invariant.far in
    (search rules, (omega arith, (c.requires.few, (c.requires.ranged, ((far.0, far.1), omega arith)))))

pub loop-item-init : goal.loop-item-init
loop-item-init t c =
    let same = c.as_slice-item-items.ensures ∙ ap (λ (x : GappedTree). x.below) c.tree.view_is in
    record {
      counted = none_counted c.args.proxies.now c.args.first c.args.tree.now.below _ same;
      light = omega (arith, item_bound c.args.tree.now.node c.requires.far.0, weight_within c.args.tree.now.below c.requires.far.1, c.requires.small);
      far = subst AreFar (sym same) c.requires.far.1;
      small = omega (arith, ap gapped_size same, c.requires.small);
      weighed = omega (arith, ap gapped_weight same, c.weight-weight.ensures);
      listed = none_listed same refl;
    }

pub overflow_add-next : goal.overflow_add-next
overflow_add-next t c =
    let room : c.args.first + proxies_in c.args.tree.now.below ≤ length c.args.proxies.now = c.requires.fits in
    let few : length c.args.proxies.now ≤ 524288 = c.requires.few in
    let small : item_slots c.args.tree.now.node + gapped_size c.args.tree.now.below ≤ 512 = c.requires.small in
    let most = counted_few c.loop-item.invariant.counted c.requires.ranged (omega arith) (omega arith) in
    omega arith

pub roots_of-next-requires : goal.roots_of-next-requires
roots_of-next-requires t c =
    let d = next_run c.as_slice-item-items.result.now c.loop-item.item-index c.item-item.result c.in-Run.count c.loop-item-test.true c.item-item.is c.in-Run.is in
    let span : c.loop-item.before + c.in-Run.count - c.loop-item.before ≡ c.in-Run.count = omega arith in
    let room : c.args.first + proxies_in c.args.tree.now.below ≤ length c.args.proxies.now = c.requires.fits in
    let few : length c.args.proxies.now ≤ 524288 = c.requires.few in
    let small : item_slots c.args.tree.now.node + gapped_size c.args.tree.now.below ≤ 512 = c.requires.small in
    let most = counted_few (gap_counted c.loop-item.invariant.counted d refl) c.requires.ranged (omega arith) (omega arith) in
    subst (λ (n : ℕ). sum_by (λ (p : Proxy). p.roots) (take n (drop c.loop-item.before c.args.proxies.now)) < 2 ^ 32) (sym span) (omega arith)

pub overflow_add-next-in-Run : goal.overflow_add-next-in-Run
overflow_add-next-in-Run t c =
    let d = next_run c.as_slice-item-items.result.now c.loop-item.item-index c.item-item.result c.in-Run.count c.loop-item-test.true c.item-item.is c.in-Run.is in
    let span : c.loop-item.before + c.in-Run.count - c.loop-item.before ≡ c.in-Run.count = omega arith in
    let room : c.args.first + proxies_in c.args.tree.now.below ≤ length c.args.proxies.now = c.requires.fits in
    let few : length c.args.proxies.now ≤ 524288 = c.requires.few in
    let small : item_slots c.args.tree.now.node + gapped_size c.args.tree.now.below ≤ 512 = c.requires.small in
    let next = gap_counted c.loop-item.invariant.counted d
    (c.roots_of-next.ensures ∙ ap (λ (n : ℕ). sum_by (λ (p : Proxy). p.roots) (take n (drop c.loop-item.before c.args.proxies.now))) span) in
    let most = counted_few next c.requires.ranged (omega arith) (omega arith) in
    omega arith

pub loop-item-preserved : goal.loop-item-preserved
loop-item-preserved t c =
    elim c.match-item.branch [
      | in-Tree+in_ok-passed-in-Tree w ↦
          let d = next_tree c.as_slice-item-items.result.now c.loop-item.item-index c.item-item.result w.in-Tree.child c.loop-item-test.true c.item-item.is w.in-Tree.is in
          let child : GappedTree = w.in-Tree.child in
          let passed = w.in_ok-passed-in-Tree.ensures in
          let entry : w.entry-entry.result ≡ asked c.args.matrix.now c.args.tree.now.node.node child.node.node =
          w.entry-entry.ensures ∙ (λ i. asked c.args.matrix.now (ap (λ (x : GappedTree). x.node.node) c.tree.view_is i) (ap (λ (x : GappedTree). x.node.node) w.child.view_is i)) in
          let listed : w.push_tree.new.spots.items ≡ c.loop-item.spots.items ++ spots_of (tree_sketch c.args.matrix.now c.args.proxies.now (asked c.args.matrix.now c.args.tree.now.node.node child.node.node) c.loop-item.before c.loop-item.next child) =
          passed.spots ∙ ap (λ (e : Entry). c.loop-item.spots.items ++ spots_of (tree_sketch c.args.matrix.now c.args.proxies.now e c.loop-item.before c.loop-item.next child)) entry in
          rw (w.spots-is, w.within-is, w.before-is ∙ passed.proxies, w.next-is) (record {
            counted = tree_counted child (proxies_in child.below) c.loop-item.invariant.counted (ap gapped_of d) refl;
            light = c.loop-item.invariant.light;
            far = (subst AreFar (ap gapped_of d) c.loop-item.invariant.far).2;
            small = omega (arith, ap (λ (xs : List Item). gapped_size (gapped_of xs)) d, c.loop-item.invariant.small);
            weighed = omega (arith, ap (λ (xs : List Item). gapped_weight (gapped_of xs)) d, c.loop-item.invariant.weighed, passed.weight);
            listed = tree_listed child w.push_tree.new.spots.items c.loop-item.invariant.listed (ap gapped_of d) listed;
          })
      | in-Run w ↦
          let d = next_run c.as_slice-item-items.result.now c.loop-item.item-index c.item-item.result w.in-Run.count c.loop-item-test.true c.item-item.is w.in-Run.is in
          let span : c.loop-item.before + w.in-Run.count - c.loop-item.before ≡ w.in-Run.count = omega arith in
          let more = w.roots_of-next.ensures ∙ ap (λ (n : ℕ). sum_by (λ (p : Proxy). p.roots) (take n (drop c.loop-item.before c.args.proxies.now))) span in
          rw (w.spots-is, w.within-is, w.before-is, w.next-is, more) (record {
            counted = gap_counted c.loop-item.invariant.counted d refl;
            light = c.loop-item.invariant.light;
            far = subst AreFar d c.loop-item.invariant.far;
            small = omega (arith, ap gapped_size d, c.loop-item.invariant.small);
            weighed = omega (arith, ap gapped_weight d, c.loop-item.invariant.weighed);
            listed = gap_listed w.in-Run.count c.loop-item.invariant.listed d;
          })
    ]

pub overflow_cast-own : goal.overflow_cast-own
overflow_cast-own t c =
    let old : vec_len c.args.spots.now ≡ length c.args.spots.now.items = omega (arith, c.args.spots.now.ok.0) in
    let now : vec_len c.loop-item.spots ≡ length c.loop-item.spots.items = omega (arith, c.loop-item.spots.ok.0) in
    let none = drop_all c.loop-item.item-index c.as_slice-item-items.result.now c.loop-item-test.false in
    let own : Spot = record { position = c.args.position; weight = c.weight-weight.result; within = c.weight-weight.result; entry = c.args.entry; below = 0 } in
    let listed : AreListed c.args.matrix.now c.args.proxies.now c.args.first c.args.tree.now c.args.spots.now.items own c.loop-item.spots.items =
    are_listed c.in_ok-push.ensures.items c.loop-item.invariant.listed (ap gapped_of none) in
    let few = listed_few c.args.tree.now listed c.loop-item.invariant.light in
    let place = c.len-place.ensures in
    let len = c.len.ensures in
    let f = few.1 in
    omega arith

pub returns-clause-spots : goal.returns-clause-spots
returns-clause-spots t c =
    let old : vec_len c.args.spots.now ≡ length c.args.spots.now.items = omega (arith, c.args.spots.now.ok.0) in
    let now : vec_len c.loop-item.spots ≡ length c.loop-item.spots.items = omega (arith, c.loop-item.spots.ok.0) in
    let none = drop_all c.loop-item.item-index c.as_slice-item-items.result.now c.loop-item-test.false in
    let own : Spot = record { position = c.args.position; weight = c.weight-weight.result; within = c.weight-weight.result; entry = c.args.entry; below = 0 } in
    let listed : AreListed c.args.matrix.now c.args.proxies.now c.args.first c.args.tree.now c.args.spots.now.items own c.loop-item.spots.items =
    are_listed c.in_ok-push.ensures.items c.loop-item.invariant.listed (ap gapped_of none) in
    told c.args.tree.now c.len-place.result
    (record { position = c.args.position; weight = c.weight-weight.result; within = c.loop-item.within; entry = c.args.entry; below = c.len.result - c.len-place.result - 1 })
    listed (c.len-place.ensures ∙ old)
    (record {
      weight_is = c.weight-weight.ensures;
      within_is = omega (arith, ap (λ (xs : List Item). gapped_weight (gapped_of xs)) none, c.loop-item.invariant.weighed);
      below_is = ap (λ (n : ℕ). n - c.len-place.result - 1) (c.len.ensures ∙ now);
    })
