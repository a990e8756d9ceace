-- The nodes of rows, and what a record has of one.
use Rattle.std.proofs.Common.{◌≡◌, ℕ, List, [], ◌∷◌, ◌++◌, length, Option, None, Some, inl, inr, refl, sym, ap, ◌∙◌, subst, append_assoc, append-nil}
use Rattle.std.specs.Prelude.{Contains}
use Rattle.std.specs.Option.{option_to_list}
use Rattle.std.proofs.lemmas.List.Elements.{Contains-append_left, Contains-append_right, Contains-append_cases}
use Rattle.nx_tree.specs.declared.node.Kind.{Kind}
use Rattle.nx_tree.specs.declared.node.Node.{Node}
use Rattle.nx_weights.specs.Weight.{weight}
use Rattle.nx_piece.specs.declared.piece.Far.{Far}
use Rattle.nx_piece.specs.PieceNode.{PieceNode, node_weight, content_length}
use Rattle.nx_layouts.specs.Layout.{LaidNode, shown_with, in_record, lists_of, IsReadIn}
use Rattle.nx_layouts.specs.Nodes.{NodesChange, ItemsShowNodes, OneNode}
use Rattle.nx_layouts.proofs.PlaceLemmas.{no_place, one_place, first_among}

-- One node:

abbrev far_of : PieceNode → Option Far
far_of n = n.far

none_some : {A B : Type 0} {x : A} → None ≡ Some x → B
none_some e = absurd (cc)

some_same : {A : Type 0} {x y : A} → Some x ≡ Some y → x ≡ y
some_same e = cc

built : Kind → List ℕ → List ℕ → Node
built kind name content = record { kind = kind; name = name; content = content }

same_node : (n m : Node) → n.kind ≡ m.kind → n.name ≡ m.name → n.content ≡ m.content → n ≡ m
unfolding built
same_node n m kind name content = ap (λ (x : Kind). built x n.name n.content) kind ∙ ap (λ (x : List ℕ). built m.kind x n.content) name ∙ ap (λ (x : List ℕ). built m.kind m.name x) content

one_shown : (lists : ℕ → Option (List ℕ)) (n m : Node) (l k : Option ℕ) → shown_with n l ≡ shown_with m k → IsReadIn lists (record { node = n; list = l }) → IsReadIn lists (record { node = m; list = k }) → (n ≡ m) × (l ≡ k)
one_shown lists n m None None e r s = (ap (λ (p : PieceNode). p.node) e, refl)
one_shown lists n m None (Some k) e r s = none_some (ap far_of e)
one_shown lists n m (Some l) None e r s = none_some (sym (ap far_of e))
one_shown lists n m (Some l) (Some k) e r s =
    let far : Some (record { first = l; length = length n.content }) ≡ Some (record { first = k; length = length m.content }) = ap far_of e in
    let first : l ≡ k = ap (λ (f : Far). f.first) (some_same far) in
    let content : n.content ≡ m.content = some_same (sym (r l refl) ∙ ap lists first ∙ s k refl) in
    let kind : n.kind ≡ m.kind = ap (λ (p : PieceNode). p.node.kind) e in
    let name : n.name ≡ m.name = ap (λ (p : PieceNode). p.node.name) e in
    (same_node n m kind name content, ap Some first)

pub one_node : OneNode
one_node lists n m e r s =
    let h = one_shown lists n.node m.node n.list m.list e r s in
    ap (λ (w : Node × Option ℕ). let z : LaidNode = record { node = w.0; list = w.1 } in z) (pair h.0 h.1)
  where
    pair : {a b : Node} {c d : Option ℕ} → a ≡ b → c ≡ d → ◌≡◌ {A = Node × Option ℕ} (a, c) (b, d)
    pair e f = cc

-- An item:

weighs_shown : (n : Node) (list : Option ℕ) → node_weight (shown_with n list) ≡ weight n
weighs_shown n None = refl
weighs_shown n (Some first) = refl

kind_shown : (n : Node) (list : Option ℕ) → (shown_with n list).node.kind ≡ n.kind
kind_shown n None = refl
kind_shown n (Some first) = refl

name_shown : (n : Node) (list : Option ℕ) → (shown_with n list).node.name ≡ n.name
name_shown n None = refl
name_shown n (Some first) = refl

length_shown : (n : Node) (list : Option ℕ) → content_length (shown_with n list) ≡ length n.content
length_shown n None = refl
length_shown n (Some first) = refl

pub item_weighs : (n : LaidNode) → node_weight (in_record n) ≡ weight n.node
item_weighs n = weighs_shown n.node n.list

pub items_show_nodes : ItemsShowNodes
items_show_nodes n = record {
  weighs = item_weighs n;
  kind = kind_shown n.node n.list;
  name = name_shown n.node n.list;
  long = length_shown n.node n.list;
}

-- Lists of contents:

pub lists-append : (a b : List LaidNode) → lists_of (a ++ b) ≡ lists_of a ++ lists_of b
lists-append [] b = refl
lists-append (n ∷ a) b = ap (λ (l : List ℕ). option_to_list n.list ++ l) (lists-append a b) ∙ sym (append_assoc (option_to_list n.list) (lists_of a) (lists_of b))

-- the list of one of these nodes is among theirs
pub list_among : (ns : List LaidNode) (n : LaidNode) (first : ℕ) → Contains ns n → n.list ≡ Some first → Contains (lists_of ns) first
list_among [] n first among far = absurd (no_place n among)
list_among (m ∷ ns) n first among far =
    elim (Contains-append_cases (m ∷ []) ns n among) [
      | inl here ↦
          let own : option_to_list m.list ≡ first ∷ [] = ap (λ (o : Option ℕ). option_to_list o) (ap (λ (x : LaidNode). x.list) (sym (one_place m n here)) ∙ far) in
          Contains-append_left (option_to_list m.list) (lists_of ns) first (subst (λ (l : List ℕ). Contains l first) (sym own) (first_among first []))
      | inr later ↦ Contains-append_right (option_to_list m.list) (lists_of ns) first (list_among ns n first later far)
    ]

-- ... and each of these lists is one of theirs
pub node_of_list : (ns : List LaidNode) (first : ℕ) → Contains (lists_of ns) first → (n : LaidNode) × Contains ns n × (n.list ≡ Some first)
node_of_list [] first among = absurd (no_place first among)
node_of_list (m ∷ ns) first among =
    elim (Contains-append_cases (option_to_list m.list) (lists_of ns) first among) [
      | inl own ↦ (m, first_among m ns, named m.list own)
      | inr later ↦ let r = node_of_list ns first later in (r.0, Contains-append_right (m ∷ []) ns r.0 r.1, r.2)
    ]
  where
    named : (list : Option ℕ) → Contains (option_to_list list) first → list ≡ Some first
    named None own = absurd (no_place first own)
    named (Some other) own = ap Some (sym (one_place other first own))

-- Nodes that go and come:

pub no_change : (nodes : List LaidNode) → NodesChange nodes nodes [] []
no_change nodes = record { before = []; behind = nodes; were = refl; are = refl }

-- all of a row goes, and another comes
pub all_change : (gone come : List LaidNode) → NodesChange gone come gone come
all_change gone come = record { before = []; behind = []; were = sym (append-nil gone); are = sym (append-nil come) }

module _ {was now gone come : List LaidNode} (h : NodesChange was now gone come) where
  -- with the same nodes in front
  pub change_behind : (front : List LaidNode) → NodesChange (front ++ was) (front ++ now) gone come
  change_behind front = record {
    before = front ++ h.before;
    behind = h.behind;
    were = ap (λ (l : List LaidNode). front ++ l) h.were ∙ sym (append_assoc front h.before (gone ++ h.behind));
    are = ap (λ (l : List LaidNode). front ++ l) h.are ∙ sym (append_assoc front h.before (come ++ h.behind));
  }

  -- ... or behind
  pub change_front : (back : List LaidNode) → NodesChange (was ++ back) (now ++ back) gone come
  change_front back = record {
    before = h.before;
    behind = h.behind ++ back;
    were = ap (λ (l : List LaidNode). l ++ back) h.were ∙ around gone;
    are = ap (λ (l : List LaidNode). l ++ back) h.are ∙ around come;
  }
    where
      around : (mid : List LaidNode) → (h.before ++ (mid ++ h.behind)) ++ back ≡ h.before ++ (mid ++ (h.behind ++ back))
      around mid = append_assoc h.before (mid ++ h.behind) back ∙ ap (λ (l : List LaidNode). h.before ++ l) (append_assoc mid h.behind back)

  -- with a node in front of all, as that above a row
  pub change_below : (above : LaidNode) (beside : List LaidNode) → NodesChange (above ∷ was ++ beside) (above ∷ now ++ beside) gone come
  change_below above beside =
      let c = change_front beside in
      record {
        before = above ∷ c.before;
        behind = c.behind;
        were = ap (λ (l : List LaidNode). above ∷ l) c.were;
        are = ap (λ (l : List LaidNode). above ∷ l) c.are;
      }
