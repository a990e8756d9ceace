use Rattle.std.proofs.Common.{◌≡◌, ◌∙◌, ap, subst, arith}
use Rattle.std.proofs.lemmas.Bool.{false≢true}
use Rattle.nx_piece.specs.declared.viewing.ItemView.{ItemView}
use Rattle.nx_piece.specs.Flat.{seen_node}
use Rattle.nx_piece.specs.Gapped.{Gapped, Grow}
use Rattle.nx_piece.specs.Viewing.{seen_items, begun_with}
use Rattle.nx_check.specs.Shown.{AreShownBy, gapped_depth}
use Rattle.nx_check.proofs.ShownLemmas.{first_stands}
use Rattle.nx_check.proofs.judging.+stand.Goals as goal

pub stand_at-returns-then-not-stands-clause-stands : goal.stand_at-returns-then-not-stands-clause-stands
stand_at-returns-then-not-stands-clause-stands t c =
    let beside = seen_items c.in-Some.beside in
    let node = seen_node c.in-Tree.tree.node in
    let below = seen_items c.in-Tree.tree.children in
    let e : seen_items c.loop-item.left ≡ Grow node below beside = c.in-Some.ensures ∙ ap (λ (item : ItemView). begun_with item beside) c.in-Tree.is in
    λ trees shown.
    let inv = c.loop-item.invariant.stand trees shown in
    let first = first_stands node below beside inv.0 c.args.levels c.stands.result (subst (λ (g : Gapped). AreShownBy g inv.0) e inv.1) c.stands.ensures.stands in
    (λ f. absurd (false≢true f), λ h. absurd (first.never c.if-not-stands.true (inv.2.0 h)))

pub stand_at-loop-item-preserved-else-not-stands : goal.stand_at-loop-item-preserved-else-not-stands
stand_at-loop-item-preserved-else-not-stands t c =
    let beside = seen_items c.in-Some.beside in
    let node = seen_node c.in-Tree.tree.node in
    let below = seen_items c.in-Tree.tree.children in
    let e : seen_items c.loop-item.left ≡ Grow node below beside = c.in-Some.ensures ∙ ap (λ (item : ItemView). begun_with item beside) c.in-Tree.is in
    record {
      stand = λ trees shown.
          let inv = c.loop-item.invariant.stand trees shown in
          let first = first_stands node below beside inv.0 c.args.levels c.stands.result (subst (λ (g : Gapped). AreShownBy g inv.0) e inv.1) c.stands.ensures.stands in
          let goes = first.goes c.if-not-stands.false in
          (first.rest, first.shown, (λ h. goes.0 (inv.2.0 h), λ h. inv.2.1 (goes.1 h)));
      low = λ k. let d = ap gapped_depth e in let here = c.stands.ensures.low c.if-not-stands.false in c.loop-item.invariant.low (omega (arith, d, here, k));
    }
