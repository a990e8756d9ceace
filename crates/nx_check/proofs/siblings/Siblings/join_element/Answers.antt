use Rattle.std.proofs.Common.{◌≡◌, ◌++◌, ◌∷◌, [], ◌||◌, List, Bool, refl, sym, ap, ◌∙◌, subst, append-nil, append_assoc}
use Rattle.std.specs.Str.{bytes_eq}
use Rattle.nx_tree.specs.declared.node.Kind.TheVariants.{Element}
use Rattle.nx_pyx.specs.Fault.{is_among}
use Rattle.nx_piece.specs.declared.viewing.ItemView.{ItemView}
use Rattle.nx_piece.specs.declared.viewing.ItemsView.{ItemsView}
use Rattle.nx_piece.specs.Flat.{seen_node}
use Rattle.nx_piece.specs.Gapped.{Grow}
use Rattle.nx_piece.specs.Viewing.{seen_items, begun_with}
use Rattle.nx_check.specs.declared.siblings.Siblings.{Siblings}
use Rattle.nx_check.specs.Heads.{Head, item_heads, names_among, MayBeRow}
use Rattle.nx_check.specs.Siblings.{far_names}
use Rattle.nx_check.proofs.SiblingLemmas.{HaveJoined, none_joined, other_joins, attribute_joins, never_behind, never_twice, ends_joined, whole_with, done_with, not_true, not_false, or_swap, begun_names}
use Rattle.nx_check.proofs.siblings.Siblings.join_element.Goals as goal
use Rattle.nx_check.proofs.siblings.Siblings.join_element.Goals.{then-self-via-then-self, then-self-via-else-self+in_ok-add_name+then-not-branch}

pub loop-item-init : goal.loop-item-init
loop-item-init c = record {
  same = refl;
  joined = λ before behind around row. ([], refl, subst (λ (l : List Head). HaveJoined c.args.self.now l behind) (sym (append-nil before)) (none_joined c.args.self.now before behind around row));
}

pub returns-then-self-clause-ok : goal.returns-then-self-clause-ok
returns-then-self-clause-ok c = λ before behind around row whole.
    let beside = seen_items c.in-Some.beside in
    let node = seen_node c.in-Tree.tree.node in
    let head : Head = record { kind = node.node.kind; name = node.node.name } in
    let rest = item_heads beside in
    let hs = item_heads (seen_items c.args.roots) in
    let e : seen_items c.loop-item.left ≡ Grow node (seen_items c.in-Tree.tree.children) beside = c.in-Some.ensures ∙ ap (λ (item : ItemView). begun_with item beside) c.in-Tree.is in
    let is = sym c.is_attribute.ensures ∙ c.if-not-is_attribute.false in
    let inv = c.loop-item.invariant.joined before behind around row in
    let are : hs ≡ inv.0 ++ head ∷ rest = inv.1 ∙ ap (λ (l : List Head). inv.0 ++ l) (ap item_heads e) in
    let all = subst (λ (l : List Head). MayBeRow Element l) (whole_with before inv.0 behind hs rest head are) whole in
    elim c.then-self.branch [
      | then-self-via-then-self w ↦ never_behind c.loop-item.self (before ++ inv.0) behind rest head is inv.2 w.if-self.true all
      | then-self-via-else-self+in_ok-add_name+then-not-branch w ↦
          never_twice c.loop-item.self (before ++ inv.0) behind rest head is inv.2
          (not_false (is_among head.name (names_among (item_heads (seen_items c.loop-item.self.items))) || is_among head.name (far_names c.loop-item.self)) (sym w.in_ok-add_name.ensures.new ∙ w.if-not-branch.true)) all
    ]

pub loop-item-preserved-then-not-is_attribute : goal.loop-item-preserved-then-not-is_attribute
loop-item-preserved-then-not-is_attribute c =
    let beside = seen_items c.in-Some.beside in
    let node = seen_node c.in-Tree.tree.node in
    let head : Head = record { kind = node.node.kind; name = node.node.name } in
    let rest = item_heads beside in
    let hs = item_heads (seen_items c.args.roots) in
    let e : seen_items c.loop-item.left ≡ Grow node (seen_items c.in-Tree.tree.children) beside = c.in-Some.ensures ∙ ap (λ (item : ItemView). begun_with item beside) c.in-Tree.is in
    record {
      same = ap (λ (s : Siblings). s.kind) c.begin.ensures ∙ c.loop-item.invariant.same;
      joined = λ before behind around row.
          let inv = c.loop-item.invariant.joined before behind around row in
          let are : hs ≡ inv.0 ++ head ∷ rest = inv.1 ∙ ap (λ (l : List Head). inv.0 ++ l) (ap item_heads e) in (
            inv.0 ++ head ∷ [],
            done_with inv.0 hs rest head are,
            subst (λ (l : List Head). HaveJoined c.begin.new.self l behind) (append_assoc before inv.0 (head ∷ []))
                (other_joins c.loop-item.self c.begin.new.self (before ++ inv.0) behind head (sym c.is_attribute.ensures ∙ c.if-not-is_attribute.true) inv.2 (sym inv.2.around.attribute ∙ sym (ap (λ (s : Siblings). s.behind) c.begin.ensures))
                (ap (λ (s : Siblings). s.begun) c.begin.ensures) (λ q. begun_names c.loop-item.self c.begin.new.self q c.begin.ensures)),
          );
    }

pub loop-item-preserved-else-not-branch : goal.loop-item-preserved-else-not-branch
loop-item-preserved-else-not-branch c =
    let beside = seen_items c.in-Some.beside in
    let node = seen_node c.in-Tree.tree.node in
    let head : Head = record { kind = node.node.kind; name = node.node.name } in
    let rest = item_heads beside in
    let hs = item_heads (seen_items c.args.roots) in
    let e : seen_items c.loop-item.left ≡ Grow node (seen_items c.in-Tree.tree.children) beside = c.in-Some.ensures ∙ ap (λ (item : ItemView). begun_with item beside) c.in-Tree.is in
    let s = c.loop-item.self in
    let t = c.add_name.new.self in
    let same = c.in_ok-add_name.ensures.same in
    let own = is_among head.name (names_among (item_heads (seen_items s.items))) || is_among head.name (far_names s) in
    let items : t.items ≡ s.items = ap (λ (x : Siblings). x.items) same in
    record {
      same = ap (λ (x : Siblings). x.kind) same ∙ c.loop-item.invariant.same;
      joined = λ before behind around row.
          let inv = c.loop-item.invariant.joined before behind around row in
          let are : hs ≡ inv.0 ++ head ∷ rest = inv.1 ∙ ap (λ (l : List Head). inv.0 ++ l) (ap item_heads e) in (
            inv.0 ++ head ∷ [],
            done_with inv.0 hs rest head are,
            subst (λ (l : List Head). HaveJoined t l behind) (append_assoc before inv.0 (head ∷ []))
                (attribute_joins s t (before ++ inv.0) behind head (sym c.is_attribute.ensures ∙ c.if-not-is_attribute.false) inv.2
                (sym inv.2.around.attribute ∙ sym (ap (λ (x : Siblings). x.behind) same)) (ap (λ (x : Siblings). x.begun) same ∙ c.if-self.false) c.if-self.false
                (not_true own (sym c.in_ok-add_name.ensures.new ∙ c.if-not-branch.false))
                (λ q. ap (λ (v : ItemsView). is_among q (names_among (item_heads (seen_items v))) || is_among q (far_names t)) items
                ∙ ap (λ (b : Bool). is_among q (names_among (item_heads (seen_items s.items))) || b) (c.in_ok-add_name.ensures.added c.if-not-branch.false q)
                ∙ or_swap (is_among q (names_among (item_heads (seen_items s.items)))) (bytes_eq q head.name) (is_among q (far_names s)))),
          );
    }

pub returns-clause-ok : goal.returns-clause-ok
returns-clause-ok c = λ before behind around row.
    let inv = c.loop-item.invariant.joined before behind around row in
    ends_joined c.loop-item.self before inv.0 behind (item_heads (seen_items c.args.roots)) c.is_apart.result (inv.1 ∙ ap (λ (l : List Head). inv.0 ++ l) (ap item_heads c.in_default.ensures) ∙ append-nil inv.0) inv.2 c.is_apart.ensures
