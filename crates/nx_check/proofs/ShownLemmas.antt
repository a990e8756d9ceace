-- What items show of trees.
use Rattle.std.proofs.Common.{◌≡◌, ◌↔◌, ℕ, ◌+◌, ◌≤◌, Bool, true, false, ◌||◌, max, List, [], ◌∷◌, refl, sym, ap, ◌∙◌, subst, arith}
use Rattle.std.specs.Prelude.{if◌then◌else◌}
use Rattle.std.specs.Bool.{MatchBool}
use Rattle.nx_tree.specs.declared.node.Kind.{Kind}
use Rattle.nx_tree.specs.declared.node.Kind.TheVariants.{Doc, Element, Attribute, Text, Instruction}
use Rattle.nx_tree.specs.declared.node.Node.{Node}
use Rattle.nx_tree.specs.Forest.{Forest, Empty, Plant, nodes}
use Rattle.nx_tree.specs.Document.{is_attribute, IsNode, attribute_names, HasNoAttribute, AttributesComeFirst, AreDistinct, MayHave, IsForest, IsTop, element_count, depth}
use Rattle.nx_piece.specs.PieceNode.{PieceNode}
use Rattle.nx_piece.specs.Gapped.{Gapped, End, Grow, Gap, gapped_nodes}
use Rattle.nx_check.specs.Heads.{Head, heads, item_heads, names_among, has_attribute, HaveAttributesFirst, AreTopHeads, elements_among, MayHaveHeads}
use Rattle.nx_check.specs.Shown.{IsShownBy, AreShownBy, gapped_depth}

pub shown_heads : (g : Gapped) (f : Forest) → AreShownBy g f → heads f ≡ item_heads g
shown_heads End Empty h = refl
shown_heads End (Plant n b s) h = absurd h
shown_heads (Grow i below beside) Empty h = absurd h
shown_heads (Grow i below beside) (Plant n b s) h =
    let kind : n.kind ≡ i.node.kind = h.0.kind in
    let name : n.name ≡ i.node.name = h.0.name in
    let head : record { kind = n.kind; name = n.name } ≡ record { kind = i.node.kind; name = i.node.name } = (λ j. record { kind = kind j; name = name j }) in
    ap (λ (x : Head). x ∷ heads s) head ∙ ap (λ (l : List Head). record { kind = i.node.kind; name = i.node.name } ∷ l) (shown_heads beside s h.2)
shown_heads (Gap c beside) f h = shown_heads beside f h

pub shown_depth : (g : Gapped) (f : Forest) → AreShownBy g f → depth f ≡ gapped_depth g
shown_depth End Empty h = refl
shown_depth End (Plant n b s) h = absurd h
shown_depth (Grow i below beside) Empty h = absurd h
shown_depth (Grow i below beside) (Plant n b s) h = let x = shown_depth below b h.1 in let y = shown_depth beside s h.2 in ap (λ (d : ℕ). max (1 + d) (depth s)) x ∙ ap (λ (d : ℕ). max (1 + gapped_depth below) d) y
shown_depth (Gap c beside) f h = shown_depth beside f h

pub shown_nodes : (g : Gapped) (f : Forest) → AreShownBy g f → nodes f ≡ gapped_nodes g
shown_nodes End Empty h = refl
shown_nodes End (Plant n b s) h = absurd h
shown_nodes (Grow i below beside) Empty h = absurd h
shown_nodes (Grow i below beside) (Plant n b s) h = let x = shown_nodes below b h.1 in let y = shown_nodes beside s h.2 in omega (arith, x, y)
shown_nodes (Gap c beside) f h = shown_nodes beside f h

-- What stands in a row is said by its heads:

names_heads : (f : Forest) → attribute_names f ≡ names_among (heads f)
names_heads Empty = refl
names_heads (Plant n b s) = ap (λ (l : List (List ℕ)). if is_attribute n.kind then n.name ∷ l else l) (names_heads s)

attribute_heads : (f : Forest) → HasNoAttribute f ↔ (has_attribute (heads f) ≡ false)
attribute_heads Empty = (λ h. refl, λ h. tt)
attribute_heads (Plant n b s) = by (is_attribute n.kind) (attribute_heads s) where
  by : (is : Bool) → HasNoAttribute s ↔ (has_attribute (heads s) ≡ false) → ((is ≡ false) × HasNoAttribute s) ↔ ((is || has_attribute (heads s)) ≡ false)
  by true r = (λ h. absurd (let e = h.0 in cc), λ h. absurd (cc))
  by false r = (λ h. r.0 h.1, λ h. (refl, r.1 h))

first_heads : (f : Forest) → AttributesComeFirst f ↔ HaveAttributesFirst (heads f)
first_heads Empty = (λ h. h, λ h. h)
first_heads (Plant n b s) = by (is_attribute n.kind) (first_heads s) (attribute_heads s) where
  by : (is : Bool) → AttributesComeFirst s ↔ HaveAttributesFirst (heads s) → HasNoAttribute s ↔ (has_attribute (heads s) ≡ false)
      → MatchBool is (AttributesComeFirst s) (HasNoAttribute s) ↔ MatchBool is (HaveAttributesFirst (heads s)) (has_attribute (heads s) ≡ false)
  by true r q = r
  by false r q = q

empty_heads : (f : Forest) → (f ≡ Empty) ↔ (heads f ≡ [])
empty_heads Empty = (λ e. refl, λ e. refl)
empty_heads (Plant n b s) = (λ e. absurd (cc), λ e. absurd (cc))

pub have_heads : (kind : Kind) (f : Forest) → MayHave kind f ↔ MayHaveHeads kind (heads f)
have_heads Doc f = empty_heads f
have_heads Element f = (
  λ h. ((first_heads f).0 h.0, subst AreDistinct (names_heads f) h.1),
  λ h. ((first_heads f).1 h.0, subst AreDistinct (sym (names_heads f)) h.1),
)
have_heads Attribute f = empty_heads f
have_heads Text f = empty_heads f
have_heads Instruction f = empty_heads f

pub top_heads : (f : Forest) → IsTop f ↔ AreTopHeads (heads f)
top_heads Empty = (λ h. tt, λ h. tt)
top_heads (Plant n b s) = let r = top_heads s in (λ h. (h.0, r.0 h.1), λ h. (h.0, r.1 h.1))

pub elements_heads : (f : Forest) → element_count f ≡ elements_among (heads f)
elements_heads Empty = refl
elements_heads (Plant n b s) = let e = elements_heads s in omega (arith, e)

-- no tree without items, and those beside a gap
pub shown_end : (f : Forest) → AreShownBy End f → f ≡ Empty
shown_end Empty h = refl
shown_end (Plant n b s) h = absurd h

-- a first tree and those beside it
pub record FirstShown (item : PieceNode) (below beside : Gapped) (trees : Forest) : Type 0 where
  pub node : Node
  pub inner : Forest
  pub outer : Forest
  pub are : trees ≡ Plant node inner outer
  pub here : IsShownBy item node
  pub under : AreShownBy below inner
  pub rest : AreShownBy beside outer

pub first_shown : (item : PieceNode) (below beside : Gapped) (f : Forest) → AreShownBy (Grow item below beside) f → FirstShown item below beside f
first_shown item below beside Empty h = absurd h
first_shown item below beside (Plant n b s) h = record { node = n; inner = b; outer = s; are = refl; here = h.0; under = h.1; rest = h.2 }

-- whether a first tree may stand, where one knows it of its root and of what is below
pub record FirstStands (item : PieceNode) (below beside : Gapped) (trees : Forest) (levels : ℕ) (r : Bool) : Type 0 where
  pub rest : Forest
  pub shown : AreShownBy beside rest
  pub goes : r ≡ true → (IsForest trees × (depth trees ≤ levels)) ↔ (IsForest rest × (depth rest ≤ levels))
  pub never : r ≡ false → IsForest trees × (depth trees ≤ levels) → ⊥

pub first_stands : (item : PieceNode) (below beside : Gapped) (f : Forest) (levels : ℕ) (r : Bool) → AreShownBy (Grow item below beside) f
    → ((node : Node) (trees : Forest) → IsShownBy item node → AreShownBy below trees → (r ≡ true) ↔ (IsNode node × MayHaveHeads node.kind (item_heads below) × IsForest trees × (1 + depth trees ≤ levels)))
    → FirstStands item below beside f levels r
first_stands item below beside Empty levels r h judged = absurd h
first_stands item below beside (Plant n b s) levels r h judged =
    let is = judged n b h.0 h.1 in
    let same = shown_heads below b h.1 in
    record {
      rest = s;
      shown = h.2;
      goes = λ yes.
          let here = is.0 yes in
          let deep : 1 + depth b ≤ levels = here.3 in (
            λ f. let low : max (1 + depth b) (depth s) ≤ levels = f.1 in (f.0.3, omega (arith, low)),
            λ f. let low : depth s ≤ levels = f.1 in ((here.0, (have_heads n.kind b).1 (subst (λ (hs : List Head). MayHaveHeads n.kind hs) (sym same) here.1), here.2, f.0), omega (arith, low, deep)),
          );
      never = λ no f.
          let low : max (1 + depth b) (depth s) ≤ levels = f.1 in
          let yes : r ≡ true = is.1 (f.0.0, subst (λ (hs : List Head). MayHaveHeads n.kind hs) same ((have_heads n.kind b).0 f.0.1), f.0.2, omega (arith, low)) in
          (let x = sym no ∙ yes in cc x);
    }
