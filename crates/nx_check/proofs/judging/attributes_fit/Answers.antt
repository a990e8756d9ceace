use Rattle.std.proofs.Common.{◌≡◌, ◌↔◌, Bool, false, List, ◌∷◌, sym, ap, ◌∙◌, subst}
use Rattle.std.proofs.lemmas.Bool.{false≢true}
use Rattle.nx_tree.specs.declared.node.Kind.TheVariants.{Element}
use Rattle.nx_piece.specs.declared.viewing.ItemView.{ItemView}
use Rattle.nx_piece.specs.Flat.{seen_node}
use Rattle.nx_piece.specs.Gapped.{Grow}
use Rattle.nx_piece.specs.Viewing.{seen_items, begun_with}
use Rattle.nx_check.specs.Heads.{Head, item_heads, MayHaveHeads}
use Rattle.nx_check.proofs.RowLemmas.{MayFollow, follow_other, follow_attribute, not_behind, not_twice}
use Rattle.nx_check.proofs.judging.attributes_fit.Goals as goal
use Rattle.nx_check.proofs.judging.attributes_fit.Goals.{then-begun-via-then-begun, then-begun-via-else-begun+then-has_attribute_named}

pub returns-then-begun : goal.returns-then-begun
returns-then-begun c =
    let beside = seen_items c.in-Some.beside in
    let node = seen_node c.in-Tree.tree.node in
    let head : Head = record { kind = node.node.kind; name = node.node.name } in
    let rest = item_heads beside in
    let e : seen_items c.loop-item.left ≡ Grow node (seen_items c.in-Tree.tree.children) beside = c.in-Some.ensures ∙ ap (λ (item : ItemView). begun_with item beside) c.in-Tree.is in
    let is = sym c.is_attribute.ensures ∙ c.if-not-is_attribute.false in (
      λ f. absurd (false≢true f),
      λ h.
          let m : MayFollow c.loop-item.begun (head ∷ rest) = subst (λ (hs : List Head). MayFollow c.loop-item.begun hs) (ap item_heads e) (c.loop-item.invariant.0 h) in
          absurd (elim c.then-begun.branch [
            | then-begun-via-then-begun w ↦ not_behind head rest is (subst (λ (b : Bool). MayFollow b (head ∷ rest)) w.if-begun.true m)
            | then-begun-via-else-begun+then-has_attribute_named w ↦ not_twice c.loop-item.begun head rest is (sym w.has_attribute_named.ensures ∙ w.if-has_attribute_named.true) m
          ]),
    )

pub loop-item-preserved-then-not-is_attribute : goal.loop-item-preserved-then-not-is_attribute
loop-item-preserved-then-not-is_attribute c =
    let beside = seen_items c.in-Some.beside in
    let node = seen_node c.in-Tree.tree.node in
    let head : Head = record { kind = node.node.kind; name = node.node.name } in
    let rest = item_heads beside in
    let all = item_heads (seen_items c.args.items) in
    let e : seen_items c.loop-item.left ≡ Grow node (seen_items c.in-Tree.tree.children) beside = c.in-Some.ensures ∙ ap (λ (item : ItemView). begun_with item beside) c.in-Tree.is in
    let inv : MayHaveHeads Element all ↔ MayFollow c.loop-item.begun (head ∷ rest) = subst (λ (hs : List Head). MayHaveHeads Element all ↔ MayFollow c.loop-item.begun hs) (ap item_heads e) c.loop-item.invariant in
    let step = follow_other c.loop-item.begun head rest (sym c.is_attribute.ensures ∙ c.if-not-is_attribute.true) in
    (λ h. step.0 (inv.0 h), λ m. inv.1 (step.1 m))

pub loop-item-preserved-else-has_attribute_named : goal.loop-item-preserved-else-has_attribute_named
loop-item-preserved-else-has_attribute_named c =
    let beside = seen_items c.in-Some.beside in
    let node = seen_node c.in-Tree.tree.node in
    let head : Head = record { kind = node.node.kind; name = node.node.name } in
    let rest = item_heads beside in
    let all = item_heads (seen_items c.args.items) in
    let e : seen_items c.loop-item.left ≡ Grow node (seen_items c.in-Tree.tree.children) beside = c.in-Some.ensures ∙ ap (λ (item : ItemView). begun_with item beside) c.in-Tree.is in
    let inv : MayHaveHeads Element all ↔ MayFollow c.loop-item.begun (head ∷ rest) = subst (λ (hs : List Head). MayHaveHeads Element all ↔ MayFollow c.loop-item.begun hs) (ap item_heads e) c.loop-item.invariant in
    let at_first : MayHaveHeads Element all ↔ MayFollow false (head ∷ rest) = subst (λ (b : Bool). MayHaveHeads Element all ↔ MayFollow b (head ∷ rest)) c.if-begun.false inv in
    let step = follow_attribute head rest (sym c.is_attribute.ensures ∙ c.if-not-is_attribute.false) (sym c.has_attribute_named.ensures ∙ c.if-has_attribute_named.false) in
    subst (λ (b : Bool). MayHaveHeads Element all ↔ MayFollow b rest) (sym c.if-begun.false) (λ h. step.0 (at_first.0 h), λ m. at_first.1 (step.1 m))
