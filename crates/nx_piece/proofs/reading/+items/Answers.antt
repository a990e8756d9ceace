use Rattle.std.proofs.Common.{arith, refl, sym, ap, subst, ◌≡◌, ◌∙◌, length, Bool, ◌||◌}
use Rattle.nx_piece.specs.Flat.{seen_node}
use Rattle.nx_piece.specs.Gapped.{End}
use Rattle.nx_piece.specs.Reading.{BeginsNoRun}
use Rattle.nx_piece.proofs.ReadLemmas.{lone_node, no_tree}
use Rattle.nx_piece.proofs.BodyLemmas.{no_items}
use Rattle.nx_piece.proofs.PushLemmas.{leaf_pushed, no_item_pushed, node_stays, tree_item, run_item, left_few, pushed_length, tree_taken}
use Rattle.nx_piece.proofs.reading.+items.Goals as goal
use Rattle.nx_piece.proofs.reading.+items.Goals.{read_items-then-are_roots, read_items-else-are_roots, read_items-in-Some, read_items-in_default+in-Some-read_tree}

pub read_items-loop-init : goal.read_items-loop-init
read_items-loop-init t c = record {
  seen = no_item_pushed c.args.flat.now.items c.args.bytes.now c.args.left c.args.are_roots;
  few = c.requires.few;
  less = omega arith;
  room = c.requires.room;
  capacity = refl;
}

pub read_items-returns-in_default-read_tree-clause-items : goal.read_items-returns-in_default-read_tree-clause-items
read_items-returns-in_default-read_tree-clause-items t c =
    let asked : c.if-are_roots.take_run ≡ (c.args.are_roots || c.loop.after_run) =
    elim c.if-are_roots.branch [
      | read_items-then-are_roots w ↦ w.take_run-is ∙ w.if-are_roots.true ∙ sym (ap (λ (b : Bool). b || c.loop.after_run) w.if-are_roots.true)
      | read_items-else-are_roots w ↦ w.take_run-is ∙ sym (ap (λ (b : Bool). b || c.loop.after_run) w.if-are_roots.false)
    ] in
    no_items c.loop.invariant.seen.read c.requires.few c.loop-test.true c.in_default-read_tree.ensures.tree
    (subst (λ (b : Bool). BeginsNoRun c.loop.rest.now c.loop.left b) asked c.in_default.ensures)

pub read_items-loop-preserved : goal.read_items-loop-preserved
read_items-loop-preserved t c =
    let so_far = c.loop.invariant.seen in
    let room = c.loop.invariant.room in let less = c.loop.invariant.less in let same = c.loop.invariant.capacity in
    let asked : c.if-are_roots.take_run ≡ (c.args.are_roots || c.loop.after_run) =
    elim c.if-are_roots.branch [
      | read_items-then-are_roots w ↦ w.take_run-is ∙ w.if-are_roots.true ∙ sym (ap (λ (b : Bool). b || c.loop.after_run) w.if-are_roots.true)
      | read_items-else-are_roots w ↦ w.take_run-is ∙ sym (ap (λ (b : Bool). b || c.loop.after_run) w.if-are_roots.false)
    ] in
    elim c.match-take_run.branch [
      | read_items-in-Some w ↦
          let taken = w.in-Some.ensures.1 in
          let slots = taken.room in let items = taken.items in
          let long = w.push_reserved.ensures.len in let capacity = w.push_reserved.ensures.capacity in
          rw (w.flat-is, w.rest-is, w.left-is, w.after_run-is)
          (record {
            seen = run_item so_far (sym asked ∙ w.in-Some.ensures.0, taken) w.push_reserved.ensures.items;
            few = left_few taken c.loop.invariant.few;
            less = omega arith;
            room = omega arith;
            capacity = capacity ∙ same;
          })
      | read_items-in_default+in-Some-read_tree w ↦
          let tree = w.in-Some-read_tree.ensures.tree in
          let taken = tree.2 in
          let slots = taken.room in let items = taken.items in
          let long = pushed_length tree.1 in
          let before = c.loop.flat.ok.0 in let now = w.read_tree.new.flat.ok.0 in
          let capacity = w.in-Some-read_tree.ensures.capacity in
          rw (w.flat-is, w.rest-is, w.left-is, w.after_run-is)
          (record {
            seen = tree_item so_far tree;
            few = left_few taken c.loop.invariant.few;
            less = omega arith;
            room = omega arith;
            capacity = capacity ∙ same;
          })
    ]

pub read_tree-returns-then-count-eq0-clause-tree : goal.read_tree-returns-then-count-eq0-clause-tree
read_tree-returns-then-count-eq0-clause-tree t c =
    let head = c.in-Some.ensures.node in
    (record { node = seen_node head.0; below = End }, leaf_pushed head.0 head.1, lone_node head.2 c.if-count-eq0.true)

pub read_tree-returns-in_default-read_items-clause-tree : goal.read_tree-returns-in_default-read_items-clause-tree
read_tree-returns-in_default-read_items-clause-tree t c =
    let head = c.in-Some.ensures.node in
    no_tree head.2 c.requires.few head.3 c.in_default-read_items.ensures.items

pub read_tree-returns-clause-tree : goal.read_tree-returns-clause-tree
read_tree-returns-clause-tree t c =
    let head = c.in-Some.ensures.node in
    let read = c.in-Some-read_items.ensures.items in
    let place : c.len-place.result ≡ length c.args.flat.now.items = c.len-place.ensures ∙ c.args.flat.now.ok.0 in
    tree_taken head.0
    head.2 head.1 read.1 read.2 read.4 place refl (c.set_below.ensures.below head.0 (node_stays c.args.flat.now.items head.0 c.len-place.result head.1 read.1 place))
