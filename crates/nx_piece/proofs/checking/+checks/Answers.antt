use Rattle.std.proofs.Common.{arith, refl, sym, ap, subst, ◌≡◌, ◌∙◌, Bool, ◌||◌}
use Rattle.nx_piece.specs.Flat.{seen_node}
use Rattle.nx_piece.specs.Reading.{BeginsNoRun}
use Rattle.nx_piece.proofs.ReadLemmas.{no_tree}
use Rattle.nx_piece.proofs.BodyLemmas.{no_items}
use Rattle.nx_piece.proofs.PushLemmas.{left_few}
use Rattle.nx_piece.proofs.SizeLemmas.{item_bound}
use Rattle.nx_piece.proofs.CheckLemmas.{no_item_checked, tree_checked, run_checked, tree_whole, leaf_whole, few_weighed}
use Rattle.nx_piece.proofs.checking.+checks.Goals as goal
use Rattle.nx_piece.proofs.checking.+checks.Goals.{check_items-then-are_roots, check_items-else-are_roots, check_items-in-Some, check_items-in_default+in-Some-check_tree}

pub check_items-loop-init : goal.check_items-loop-init
check_items-loop-init t c = record { seen = no_item_checked c.args.bytes.now c.args.left c.args.are_roots; few = c.requires; less = omega arith; little = omega arith }

pub check_items-returns-in_default-check_tree : goal.check_items-returns-in_default-check_tree
check_items-returns-in_default-check_tree t c =
    let asked : c.if-are_roots.take_run ≡ (c.args.are_roots || c.loop.after_run) =
    elim c.if-are_roots.branch [
      | check_items-then-are_roots w ↦ w.take_run-is ∙ w.if-are_roots.true ∙ sym (ap (λ (b : Bool). b || c.loop.after_run) w.if-are_roots.true)
      | check_items-else-are_roots w ↦ w.take_run-is ∙ sym (ap (λ (b : Bool). b || c.loop.after_run) w.if-are_roots.false)
    ] in
    no_items c.loop.invariant.seen.read c.requires c.loop-test.true c.in_default-check_tree.ensures
    (subst (λ (b : Bool). BeginsNoRun c.loop.rest.now c.loop.left b) asked c.in_default.ensures)

pub check_items-overflow_add-weight : goal.check_items-overflow_add-weight
check_items-overflow_add-weight t c =
    let tree = c.in-Some-check_tree.ensures in
    let few = few_weighed tree.1 in let is = tree.2 in
    let little = c.loop.invariant.little in let room = c.requires.room in
    omega arith

pub check_items-loop-preserved : goal.check_items-loop-preserved
check_items-loop-preserved t c =
    let so_far = c.loop.invariant.seen in
    let less = c.loop.invariant.less in let little = c.loop.invariant.little in
    let asked : c.if-are_roots.take_run ≡ (c.args.are_roots || c.loop.after_run) =
    elim c.if-are_roots.branch [
      | check_items-then-are_roots w ↦ w.take_run-is ∙ w.if-are_roots.true ∙ sym (ap (λ (b : Bool). b || c.loop.after_run) w.if-are_roots.true)
      | check_items-else-are_roots w ↦ w.take_run-is ∙ sym (ap (λ (b : Bool). b || c.loop.after_run) w.if-are_roots.false)
    ] in
    elim c.match-take_run.branch [
      | check_items-in-Some w ↦
          let taken = w.in-Some.ensures.1 in
          let slots = taken.room in
          rw (w.rest-is, w.left-is, w.weight-is, w.after_run-is)
          (record {
            seen = run_checked so_far (sym asked ∙ w.in-Some.ensures.0, taken);
            few = left_few taken c.loop.invariant.few;
            less = omega arith;
            little = omega arith;
          })
      | check_items-in_default+in-Some-check_tree w ↦
          let tree = w.in-Some-check_tree.ensures in
          let slots = tree.1.room in
          let few = few_weighed tree.1 in let is = tree.2 in
          rw (w.rest-is, w.left-is, w.weight-is, w.after_run-is)
          (record {
            seen = tree_checked so_far tree;
            few = left_few tree.1 c.loop.invariant.few;
            less = omega arith;
            little = omega arith;
          })
    ]

pub check_tree-returns-then-count-eq0 : goal.check_tree-returns-then-count-eq0
check_tree-returns-then-count-eq0 t c = leaf_whole c.in-Some.ensures.0 c.if-count-eq0.true c.weight-own.ensures

pub check_tree-returns-in_default-check_items : goal.check_tree-returns-in_default-check_items
check_tree-returns-in_default-check_items t c = no_tree c.in-Some.ensures.0 c.requires c.in-Some.ensures.1 c.in_default-check_items.ensures

pub check_tree-overflow_add-result : goal.check_tree-overflow_add-result
check_tree-overflow_add-result t c =
    let head = c.in-Some.ensures.0 in
    let read = c.in-Some-check_items.ensures in
    let few = few_weighed read.1 in let below = read.4 in
    let own = c.weight-own.ensures in let bound = item_bound (seen_node c.in-Some.node) head.far in
    let slots = head.room in let room = c.requires.room in
    omega arith

pub check_tree-returns : goal.check_tree-returns
check_tree-returns t c =
    let read = c.in-Some-check_items.ensures in
    tree_whole c.in-Some.ensures.0 read.1 read.3 c.weight-own.ensures read.4
