-- What may stand below a node, where trees of another record come between others.
use Rattle.std.proofs.Common.{◌≡◌, ◌↔◌, ℕ, ◌+◌, ◌≤◌, max, Bool, true, false, List, [], ◌∷◌, ◌++◌, refl, sym, ap, ◌∙◌, subst, arith}
use Rattle.std.specs.Bool.{MatchBool}
use Rattle.nx_tree.specs.declared.node.Kind.{Kind}
use Rattle.nx_tree.specs.declared.node.Kind.TheVariants.{Doc, Element, Attribute, Text, Instruction}
use Rattle.nx_tree.specs.declared.node.Node.{Node}
use Rattle.nx_tree.specs.Forest.{Forest, Empty, Plant}
use Rattle.nx_tree.specs.Document.{IsForest, IsTop, element_count, depth}
use Rattle.nx_piece.specs.PieceNode.{PieceNode}
use Rattle.nx_piece.specs.Gapped.{Gapped, Grow}
use Rattle.nx_cuts.specs.Cut.{joined}
use Rattle.nx_rules.specs.Walked.{IsSoFar}
use Rattle.nx_rules.specs.Tour.{top_elements}
use Rattle.nx_rules.specs.Places.{MayBeBelow}
use Rattle.nx_rules.proofs.PlaceLemmas.{forest_parts, forest_join}
use Rattle.nx_check.specs.Heads.{Head, heads, item_heads, AreTopHeads, one_if, elements_among, MayBeRow}
use Rattle.nx_check.specs.Shown.{IsShownBy, AreShownBy}
use Rattle.nx_check.proofs.ShownLemmas.{shown_heads, have_heads, top_heads, elements_heads}

pub match_true : (A B : Type 0) (b : Bool) → b ≡ true → MatchBool b A B → A
match_true A B true e h = h
match_true A B false e h = absurd (cc)

pub match_false : (A B : Type 0) (b : Bool) → b ≡ false → MatchBool b A B → B
match_false A B true e h = absurd (cc)
match_false A B false e h = h

pub heads-joined : (f g : Forest) → heads (joined f g) ≡ heads f ++ heads g
heads-joined Empty g = refl
heads-joined (Plant n b s) g = ap (λ (l : List Head). record { kind = n.kind; name = n.name } ∷ l) (heads-joined s g)

pub heads_three : (f r b : Forest) → heads (joined (joined f r) b) ≡ (heads f ++ heads r) ++ heads b
heads_three f r b = heads-joined (joined f r) b ∙ ap (λ (l : List Head). l ++ heads b) (heads-joined f r)

pub depth-joined : (f g : Forest) → depth (joined f g) ≡ max (depth f) (depth g)
depth-joined Empty g = omega arith
depth-joined (Plant n b s) g = let r = depth-joined s g in omega (arith, r)

-- by the heads of the row
pub below_row : (kind : Kind) (level : ℕ) (f : Forest) → MayBeBelow kind level f ↔ (MayBeRow kind (heads f) × IsForest f × (level + depth f ≤ 257))
below_row Doc level f = (
  λ h. (((top_heads f).0 h.0, subst (λ (n : ℕ). n ≤ 1) (elements_heads f) h.1), h.2, h.3),
  λ h. ((top_heads f).1 h.0.0, subst (λ (n : ℕ). n ≤ 1) (sym (elements_heads f)) h.0.1, h.1, h.2),
)
below_row Element level f = (λ h. ((have_heads Element f).0 h.0, h.1, h.2), λ h. ((have_heads Element f).1 h.0, h.1, h.2))
below_row Attribute level f = (λ h. ((have_heads Attribute f).0 h.0, h.1, h.2), λ h. ((have_heads Attribute f).1 h.0, h.1, h.2))
below_row Text level f = (λ h. ((have_heads Text f).0 h.0, h.1, h.2), λ h. ((have_heads Text f).1 h.0, h.1, h.2))
below_row Instruction level f = (λ h. ((have_heads Instruction f).0 h.0, h.1, h.2), λ h. ((have_heads Instruction f).1 h.0, h.1, h.2))

-- the row that stands there, by its heads
pub row_there : (kind : Kind) (level : ℕ) (f b : Forest) → MayBeBelow kind level (joined f b) → MayBeRow kind (heads f ++ heads b)
row_there kind level f b h = subst (λ (l : List Head). MayBeRow kind l) (heads-joined f b) ((below_row kind level (joined f b)).0 h).0

-- the trees between may not stand there by their row
pub row_never : (kind : Kind) (level : ℕ) (f r b : Forest) (hs : List Head) → heads r ≡ hs → (MayBeRow kind ((heads f ++ hs) ++ heads b) → ⊥) → MayBeBelow kind level (joined (joined f r) b) → ⊥
row_never kind level f r b hs e never h =
    never (subst (λ (l : List Head). MayBeRow kind ((heads f ++ l) ++ heads b)) e (subst (λ (l : List Head). MayBeRow kind l) (heads_three f r b) ((below_row kind level (joined (joined f r) b)).0 h).0))

-- ... or by what is below them
pub row_stands : (kind : Kind) (level levels : ℕ) (f r b : Forest) (hs : List Head) (stand : Bool) → level + levels ≡ 257 → heads r ≡ hs → MayBeBelow kind level (joined f b) → MayBeRow kind ((heads f ++ hs) ++ heads b)
    → ((stand ≡ true) ↔ (IsForest r × (depth r ≤ levels))) → MatchBool stand (MayBeBelow kind level (joined (joined f r) b)) (MayBeBelow kind level (joined (joined f r) b) → ⊥)
row_stands kind level levels f r b hs stand sum e there row is = by stand is where
  was : MayBeRow kind (heads (joined f b)) × IsForest (joined f b) × (level + depth (joined f b) ≤ 257)
  was = (below_row kind level (joined f b)).0 there

  parts : IsForest f × IsForest b
  parts = forest_parts f b was.1

  deep : depth (joined (joined f r) b) ≡ max (max (depth f) (depth r)) (depth b)
  deep = depth-joined (joined f r) b ∙ ap (λ (d : ℕ). max d (depth b)) (depth-joined f r)

  all : MayBeRow kind (heads (joined (joined f r) b))
  all = subst (λ (l : List Head). MayBeRow kind l) (sym (heads_three f r b)) (subst (λ (l : List Head). MayBeRow kind ((heads f ++ l) ++ heads b)) (sym e) row)

  by : (stand : Bool) → ((stand ≡ true) ↔ (IsForest r × (depth r ≤ levels))) → MatchBool stand (MayBeBelow kind level (joined (joined f r) b)) (MayBeBelow kind level (joined (joined f r) b) → ⊥)
  by true is =
      let new = is.0 refl in
      let here : depth r ≤ levels = new.1 in
      let low : level + depth (joined f b) ≤ 257 = was.2 in
      let old = depth-joined f b in
      (below_row kind level (joined (joined f r) b)).1 (all, forest_join (joined f r) b (forest_join f r parts.0 new.0) parts.1, omega (arith, here, low, old, deep, sum))
  by false is = λ h.
      let new = (below_row kind level (joined (joined f r) b)).0 h in
      let low : level + depth (joined (joined f r) b) ≤ 257 = new.2 in
      let inner = forest_parts f r (forest_parts (joined f r) b new.1).0 in
      (let yes = is.1 (inner.1, omega (arith, low, deep, sum)) in cc yes)

-- The root of a document:

pub record RootShown (item : PieceNode) (below beside : Gapped) (trees : Forest) : Type 0 where
  pub node : Node
  pub inner : Forest
  pub here : IsShownBy item node
  pub under : AreShownBy below inner
  pub alone : item_heads beside ≡ [] → trees ≡ Plant node inner Empty
  pub not_alone : (item_heads beside ≡ [] → ⊥) → IsSoFar trees → ⊥
  pub node_is : IsSoFar trees → (node.kind ≡ Doc) × (node.name ≡ []) × (node.content ≡ [])
  pub below_is : IsSoFar trees → IsTop inner × (element_count inner ≤ 1) × IsForest inner × (depth inner ≤ 256)

no_heads : (g : Gapped) (f : Forest) → AreShownBy g f → item_heads g ≡ [] → f ≡ Empty
no_heads g Empty h e = refl
no_heads g (Plant n b s) h e = absurd (let x = shown_heads g (Plant n b s) h ∙ e in cc x)

pub root_shown : (item : PieceNode) (below beside : Gapped) (f : Forest) → AreShownBy (Grow item below beside) f → RootShown item below beside f
root_shown item below beside Empty h = absurd h
root_shown item below beside (Plant n b s) h = record {
  node = n;
  inner = b;
  here = h.0;
  under = h.1;
  alone = λ none. ap (λ (x : Forest). Plant n b x) (no_heads beside s h.2 none);
  not_alone = λ some so_far. some (sym (shown_heads beside s h.2) ∙ ap heads so_far.3);
  node_is = λ so_far. (so_far.0, so_far.1, so_far.2);
  below_is = λ so_far. (so_far.4, so_far.5, so_far.6, so_far.7);
}

pub both_true : (A B C : Type 0) (b : Bool) → MatchBool b A C → B → MatchBool b (A × B) C
both_true A B C true h k = (h, k)
both_true A B C false h k = h

pub root_never_top : (item : PieceNode) (below beside : Gapped) (new : Forest) (old : Bool) → AreShownBy (Grow item below beside) new → old ≡ false → (AreTopHeads (item_heads below) → one_if old + elements_among (item_heads below) ≤ 1 → ⊥) → IsSoFar new → ⊥
root_never_top item below beside new old shown clear never so_far =
    let r = root_shown item below beside new shown in
    let same = shown_heads below r.inner r.under in
    let is = r.below_is so_far in
    let few : element_count r.inner ≤ 1 = is.1 in
    let counted = elements_heads r.inner ∙ ap elements_among same in
    let none = ap one_if clear in
    never (subst (λ (l : List Head). AreTopHeads l) same ((top_heads r.inner).0 is.0)) (omega (arith, few, counted, none))

pub root_judged : (item : PieceNode) (below beside : Gapped) (new : Forest) (old now stand : Bool) → AreShownBy (Grow item below beside) new → ((node : Node) → IsShownBy item node → (node.kind ≡ Doc) × (node.name ≡ []) × (node.content ≡ [])) → item_heads beside ≡ [] → old ≡ false
    → AreTopHeads (item_heads below) × (one_if now ≡ one_if old + elements_among (item_heads below)) → ((f : Forest) → AreShownBy below f → (stand ≡ true) ↔ (IsForest f × (depth f ≤ 256)))
    → MatchBool stand (IsSoFar new × (one_if now ≡ top_elements new)) (IsSoFar new → ⊥)
root_judged item below beside new old now stand shown node none clear top stands = by stand stands where
  r : RootShown item below beside new
  r = root_shown item below beside new shown

  counted : element_count r.inner ≡ elements_among (item_heads below)
  counted = elements_heads r.inner ∙ ap elements_among (shown_heads below r.inner r.under)

  found : one_if now ≡ element_count r.inner
  found = let e = top.1 in let z = ap one_if clear in omega (arith, e, z, counted)

  one : (b : Bool) → one_if b ≤ 1
  one true = omega arith
  one false = omega arith

  by : (stand : Bool) → ((f : Forest) → AreShownBy below f → (stand ≡ true) ↔ (IsForest f × (depth f ≤ 256))) → MatchBool stand (IsSoFar new × (one_if now ≡ top_elements new)) (IsSoFar new → ⊥)
  by true stands =
      let f = (stands r.inner r.under).0 refl in
      let is = node r.node r.here in
      let few = one now in
      let alone = r.alone none in (
        subst (λ (x : Forest). IsSoFar x) (sym alone)
            (is.0, is.1, is.2, refl, (top_heads r.inner).1 (subst (λ (l : List Head). AreTopHeads l) (sym (shown_heads below r.inner r.under)) top.0), omega (arith, few, found), f.0, f.1),
        found ∙ sym (ap top_elements alone),
      )
  by false stands = λ so_far. (let is = r.below_is so_far in let yes = (stands r.inner r.under).1 (is.2, is.3) in cc yes)
