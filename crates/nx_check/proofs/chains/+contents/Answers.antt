use Rattle.std.proofs.Common.{◌≡◌, ◌++◌, List, [], refl, sym, ap, ◌∙◌, subst, arith, append_assoc, append-nil}
use Rattle.std.proofs.lemmas.Result.{err_from_is_err_and}
use Rattle.nx_host.proofs.DiskLemmas.{none_still, still_then}
use Rattle.nx_piece.specs.declared.piece.Far.{Far}
use Rattle.nx_piece.specs.declared.viewing.ItemView.{ItemView}
use Rattle.nx_piece.specs.Gapped.{Gapped, item_count}
use Rattle.nx_piece.specs.Contents.{fars_in}
use Rattle.nx_piece.specs.Flat.{seen_node}
use Rattle.nx_piece.specs.Valid.{AreFar}
use Rattle.nx_piece.specs.Viewing.{seen_items, begun_with}
use Rattle.std.specs.Option.{option_to_list}
use Rattle.nx_check.specs.declared.error.Stop.{Stop}
use Rattle.nx_check.specs.Come.{StopsSo}
use Rattle.nx_check.specs.Lists.{fars_of_item, WalksLists, SaysLists}
use Rattle.nx_check.proofs.ComeLemmas.{stops_later, same_then, err_passed}
use Rattle.nx_check.proofs.RecordingLemmas.{no_lists, both_walk, front_says, back_says, item_fars, far_item, item_less}
use Rattle.nx_check.proofs.chains.+contents.Goals as goal

pub walk_contents-loop-item-init : goal.walk_contents-loop-item-init
walk_contents-loop-item-init g t c = record {
  still = none_still;
  same = refl;
  far = c.requires.far;
  few = omega arith;
  walked = ([], refl, no_lists g.D.Disk c.args.walk.now c.args.disk.now);
}

pub walk_contents-loop-item-preserved : goal.walk_contents-loop-item-preserved
walk_contents-loop-item-preserved g t c =
    let rest : Gapped = seen_items c.in-Some.beside in
    let e : seen_items c.loop-item.left ≡ begun_with c.in-Some.item rest = c.in-Some.ensures in
    let far : AreFar (begun_with c.in-Some.item rest) = subst (λ (f : Gapped). AreFar f) e c.loop-item.invariant.far in
    let before : List Far = c.loop-item.invariant.walked.0 in
    record {
      still = still_then c.loop-item.invariant.still c.walk_item.ensures.still;
      same = same_then c.args.walk.now c.loop-item.walk c.walk_item.new.walk c.loop-item.invariant.same c.in_ok-walk_item.ensures.same;
      far = (far_item c.in-Some.item rest far).1;
      few = (let few = c.loop-item.invariant.few in let less = item_less c.in-Some.item rest in let same = ap item_count e in omega (arith, few, less, same));
      walked = (
        before ++ fars_of_item c.in-Some.item,
        append_assoc before (fars_of_item c.in-Some.item) (fars_in rest) ∙ ap (λ (l : List Far). before ++ l) (sym (item_fars c.in-Some.item rest) ∙ ap fars_in (sym e)) ∙ c.loop-item.invariant.walked.1,
        both_walk g.D.Disk c.args.walk.now c.loop-item.walk c.walk_item.new.walk c.args.disk.now c.loop-item.disk c.walk_item.new.disk before (fars_of_item c.in-Some.item) c.loop-item.invariant.walked.2 c.in_ok-walk_item.ensures.ok,
      );
    }

pub walk_contents-loop-item-smaller : goal.walk_contents-loop-item-smaller
walk_contents-loop-item-smaller g t c =
    let e : seen_items c.loop-item.left ≡ begun_with c.in-Some.item (seen_items c.in-Some.beside) = c.in-Some.ensures in
    let less = item_less c.in-Some.item (seen_items c.in-Some.beside) in
    let same = ap item_count e in
    omega (arith, less, same)

pub walk_contents-returns-in_err-walk_item-clause-refused : goal.walk_contents-returns-in_err-walk_item-clause-refused
walk_contents-returns-in_err-walk_item-clause-refused g t c =
    let rest : Gapped = seen_items c.in-Some.beside in
    let e : seen_items c.loop-item.left ≡ begun_with c.in-Some.item rest = c.in-Some.ensures in
    let before : List Far = c.loop-item.invariant.walked.0 in
    let own : List Far = fars_of_item c.in-Some.item in
    let all : before ++ (own ++ fars_in rest) ≡ fars_in (seen_items c.args.items) = ap (λ (l : List Far). before ++ l) (sym (item_fars c.in-Some.item rest) ∙ ap fars_in (sym e)) ∙ c.loop-item.invariant.walked.1 in
    err_passed c.from_residual.result (λ (e : Stop). StopsSo g.D.Disk c.args.disk.now c.walk_item.new.disk (SaysLists g.D.Disk c.args.walk.now c.args.disk.now c.args.by (fars_in (seen_items c.args.items))) e) c.in_err-walk_item.field-0.0
    (err_from_is_err_and c.from_residual.result c.from_residual.ensures.1)
    (stops_later g.D.Disk c.args.disk.now c.loop-item.disk c.walk_item.new.disk (SaysLists g.D.Disk c.loop-item.walk c.loop-item.disk c.args.by own) (SaysLists g.D.Disk c.args.walk.now c.args.disk.now c.args.by (fars_in (seen_items c.args.items)))
    c.in_err-walk_item.field-0.0 c.loop-item.invariant.still.faults_later
    (λ rule page h. subst (λ (l : List Far). SaysLists g.D.Disk c.args.walk.now c.args.disk.now c.args.by l rule page) all
    (back_says g.D.Disk c.args.walk.now c.loop-item.walk c.args.disk.now c.loop-item.disk c.args.by before (own ++ fars_in rest) c.loop-item.invariant.walked.2 rule page
    (front_says g.D.Disk c.loop-item.walk c.loop-item.disk c.args.by own (fars_in rest) rule page h)))
    c.in_err-walk_item.ensures.refused)

pub walk_contents-returns-clause-ok : goal.walk_contents-returns-clause-ok
walk_contents-returns-clause-ok g t c =
    let before : List Far = c.loop-item.invariant.walked.0 in
    let all : before ≡ fars_in (seen_items c.args.items) = sym (append-nil before) ∙ ap (λ (f : Gapped). before ++ fars_in f) (sym c.in_default.ensures) ∙ c.loop-item.invariant.walked.1 in
    subst (λ (l : List Far). WalksLists g.D.Disk c.args.walk.now c.args.disk.now c.loop-item.walk c.loop-item.disk l) all c.loop-item.invariant.walked.2

pub walk_item-returns-in_err-pass_far-in-Tree-clause-refused : goal.walk_item-returns-in_err-pass_far-in-Tree-clause-refused
walk_item-returns-in_err-pass_far-in-Tree-clause-refused g t c =
    let own : List Far = option_to_list (seen_node c.in-Tree.tree.node).far in
    let below : List Far = fars_in (seen_items c.in-Tree.tree.children) in
    err_passed c.from_residual.result (λ (e : Stop). StopsSo g.D.Disk c.args.disk.now c.pass_far.new.disk (SaysLists g.D.Disk c.args.walk.now c.args.disk.now c.args.by (fars_of_item c.args.item)) e) c.in_err-pass_far-in-Tree.field-0.0
    (err_from_is_err_and c.from_residual.result c.from_residual.ensures.1)
    (subst (λ (item : ItemView). StopsSo g.D.Disk c.args.disk.now c.pass_far.new.disk (SaysLists g.D.Disk c.args.walk.now c.args.disk.now c.args.by (fars_of_item item)) c.in_err-pass_far-in-Tree.field-0.0) (sym c.in-Tree.is)
    (stops_later g.D.Disk c.args.disk.now c.args.disk.now c.pass_far.new.disk (SaysLists g.D.Disk c.args.walk.now c.args.disk.now c.args.by own) (SaysLists g.D.Disk c.args.walk.now c.args.disk.now c.args.by (own ++ below))
    c.in_err-pass_far-in-Tree.field-0.0 (omega arith) (front_says g.D.Disk c.args.walk.now c.args.disk.now c.args.by own below) c.in_err-pass_far-in-Tree.ensures.refused))

pub walk_item-returns-in_err-walk_contents-in-Tree-clause-refused : goal.walk_item-returns-in_err-walk_contents-in-Tree-clause-refused
walk_item-returns-in_err-walk_contents-in-Tree-clause-refused g t c =
    let own : List Far = option_to_list (seen_node c.in-Tree.tree.node).far in
    let below : List Far = fars_in (seen_items c.in-Tree.tree.children) in
    err_passed c.from_residual-in_err-walk_contents-in-Tree.result (λ (e : Stop). StopsSo g.D.Disk c.args.disk.now c.walk_contents.new.disk (SaysLists g.D.Disk c.args.walk.now c.args.disk.now c.args.by (fars_of_item c.args.item)) e) c.in_err-walk_contents-in-Tree.field-0.0
    (err_from_is_err_and c.from_residual-in_err-walk_contents-in-Tree.result c.from_residual-in_err-walk_contents-in-Tree.ensures.1)
    (subst (λ (item : ItemView). StopsSo g.D.Disk c.args.disk.now c.walk_contents.new.disk (SaysLists g.D.Disk c.args.walk.now c.args.disk.now c.args.by (fars_of_item item)) c.in_err-walk_contents-in-Tree.field-0.0) (sym c.in-Tree.is)
    (stops_later g.D.Disk c.args.disk.now c.pass_far.new.disk c.walk_contents.new.disk (SaysLists g.D.Disk c.pass_far.new.walk c.pass_far.new.disk c.args.by below) (SaysLists g.D.Disk c.args.walk.now c.args.disk.now c.args.by (own ++ below))
    c.in_err-walk_contents-in-Tree.field-0.0 c.pass_far.ensures.still.faults_later
    (back_says g.D.Disk c.args.walk.now c.pass_far.new.walk c.args.disk.now c.pass_far.new.disk c.args.by own below c.in_ok-pass_far-in-Tree.ensures.ok) c.in_err-walk_contents-in-Tree.ensures.refused))

pub walk_item-returns-in_ok-walk_contents-in-Tree-clause-ok : goal.walk_item-returns-in_ok-walk_contents-in-Tree-clause-ok
walk_item-returns-in_ok-walk_contents-in-Tree-clause-ok g t c =
    let own : List Far = option_to_list (seen_node c.in-Tree.tree.node).far in
    let below : List Far = fars_in (seen_items c.in-Tree.tree.children) in
    subst (λ (item : ItemView). WalksLists g.D.Disk c.args.walk.now c.args.disk.now c.walk_contents.new.walk c.walk_contents.new.disk (fars_of_item item)) (sym c.in-Tree.is)
    (both_walk g.D.Disk c.args.walk.now c.pass_far.new.walk c.walk_contents.new.walk c.args.disk.now c.pass_far.new.disk c.walk_contents.new.disk own below c.in_ok-pass_far-in-Tree.ensures.ok c.in_ok-walk_contents-in-Tree.ensures.ok)
