-- An interval more in a draft is one more in its drawing, and leaves what stands.
use Rattle.std.proofs.Common.{◌≡◌, ℕ, zero, suc, ◌+◌, ◌-◌, ◌<◌, ◌≤◌, nat_lt, if◌then◌else◌, Bool, true, false, List, [], ◌∷◌, refl, sym, ap, subst, ◌∙◌, arith}
use Rattle.std.proofs.lemmas.Bool.Decides.{nat_tests}
use Rattle.nx_tree.specs.declared.node.Node.{Node}
use Rattle.nx_tree.specs.Forest.{Forest, Plant}
use Rattle.nx_cuts.specs.Cut.{CutForest, CutTree, Bare, Grown, Kept, joined, forest, width}
use Rattle.nx_cuts.specs.Rows.{first, behind, changed_row}
use Rattle.nx_cuts.proofs.Draw.{wrapped, drawn, AtRow, IsFreeAt, IsFreeRun, BeginsFree}
use Rattle.nx_cuts.proofs.DeepLemmas.{member_row, beside_row}
use Rattle.nx_layouts.specs.Layout.{Layout, without_places, laid_forest}
use Rattle.nx_layouts.specs.Replace.{joined_layout}
use Rattle.nx_layouts.proofs.ReplaceLemmas.{forest-joined_layout}
use Rattle.nx_drafts.specs.Draft.{Draft, Ends, Grows, Stands, Comes, drawn_forest, layout_before}
use Rattle.nx_layouts.proofs.DrawnLemmas.{drawn_wide}
use Rattle.nx_drafts.proofs.DraftEdit.{front, back, gathered, altered, gathered_at}
use Rattle.nx_drafts.proofs.OpenLemmas.{OpenRow, OpenAt, open_front, open_back}

abbrev Plan : Type 0
Plan = Draft (Unit {0})

abbrev cut_on : Node → CutForest → CutTree
cut_on n c = record { node = n; below = c }

width-joined : (a b : Layout) → width (joined_layout a b) ≡ width a + width b
width-joined Bare b = omega arith
width-joined (Grown n d s) b = omega (arith, width-joined s b)
width-joined (Kept r m s) b = omega (arith, width-joined s b)

-- what stands has the same trees
pub width-layout_before : (c : Plan) → width (layout_before c) ≡ width (drawn_forest c)
width-layout_before Ends = refl
width-layout_before (Grows n b s) = omega (arith, width-layout_before s)
width-layout_before (Stands r m s) = omega (arith, width-layout_before s, drawn_wide m)
width-layout_before (Comes u m s) = omega (arith, width-joined (layout_before m) (layout_before s), width-layout_before m, width-layout_before s)

pub forest-layout_before : {P : Type 0} (c : Draft P) → laid_forest (layout_before c) ≡ forest (drawn_forest c)
forest-layout_before Ends = refl
forest-layout_before (Grows n b s) = ap (λ (f : Forest). Plant n.node f (laid_forest (layout_before s))) (forest-layout_before b) ∙ ap (Plant n.node (forest (drawn_forest b))) (forest-layout_before s)
forest-layout_before (Stands r m s) = ap (joined (laid_forest m)) (forest-layout_before s)
forest-layout_before (Comes u m s) =
    forest-joined_layout (layout_before m) (layout_before s) ∙ ap (λ (f : Forest). joined f (laid_forest (layout_before s))) (forest-layout_before m) ∙ ap (joined (forest (drawn_forest m))) (forest-layout_before s)

drawn_forest-front : (n : ℕ) (c : Plan) → drawn_forest (front n c) ≡ first n (drawn_forest c)
drawn_forest-front zero c = refl
drawn_forest-front (suc n) Ends = refl
drawn_forest-front (suc n) (Grows x b s) = ap (Grown x.node (drawn_forest b)) (drawn_forest-front n s)
drawn_forest-front (suc n) (Stands r m s) = refl
drawn_forest-front (suc n) (Comes u m s) = refl

drawn_forest-back : (n : ℕ) (c : Plan) → drawn_forest (back n c) ≡ behind n (drawn_forest c)
drawn_forest-back zero c = refl
drawn_forest-back (suc n) Ends = refl
drawn_forest-back (suc n) (Grows x b s) = drawn_forest-back n s
drawn_forest-back (suc n) (Stands r m s) = refl
drawn_forest-back (suc n) (Comes u m s) = refl

layout_before-front : (n : ℕ) (c : Plan) → BeginsFree n (drawn_forest c) → joined_layout (layout_before (front n c)) (layout_before (back n c)) ≡ layout_before c
layout_before-front zero c f = refl
layout_before-front (suc n) Ends f = absurd f
layout_before-front (suc n) (Grows x b s) f = ap (Grown x (layout_before b)) (layout_before-front n s f)
layout_before-front (suc n) (Stands r m s) f = absurd f
layout_before-front (suc n) (Comes u m s) f = absurd f

drawn_forest-gathered : (from count : ℕ) (c : Plan) → drawn_forest (gathered from count c) ≡ wrapped from count (drawn_forest c)
drawn_forest-gathered zero count c = ap (λ (m : CutForest). Kept tt m (drawn_forest (back count c))) (drawn_forest-front count c) ∙ ap (Kept tt (first count (drawn_forest c))) (drawn_forest-back count c)
drawn_forest-gathered (suc from) count Ends = refl
drawn_forest-gathered (suc from) count (Grows n b s) = ap (Grown n.node (drawn_forest b)) (drawn_forest-gathered from count s)
drawn_forest-gathered (suc from) count (Stands r m s) = ap (Kept tt (without_places m)) (drawn_forest-gathered (suc from - width (without_places m)) count s)
drawn_forest-gathered (suc from) count (Comes u m s) = ap (Kept tt (drawn_forest m)) (drawn_forest-gathered (suc from - width (drawn_forest m)) count s)

layout_before-gathered : (from count : ℕ) (c : Plan) → IsFreeRun from count (drawn_forest c) → layout_before (gathered from count c) ≡ layout_before c
layout_before-gathered zero count c f = layout_before-front count c f
layout_before-gathered (suc from) count Ends f = absurd f
layout_before-gathered (suc from) count (Grows n b s) f = ap (Grown n (layout_before b)) (layout_before-gathered from count s f)
layout_before-gathered (suc from) count (Stands r m s) f = ap (Kept r m) (layout_before-gathered (suc from - width (without_places m)) count s f.1)
layout_before-gathered (suc from) count (Comes u m s) f = ap (joined_layout (layout_before m)) (layout_before-gathered (suc from - width (drawn_forest m)) count s f.1)

-- a change of what is below a node of a drawing is a change of the draft, which leaves what stands
abbrev Follows : (Plan → Plan) → (CutTree → CutTree) → (Layout → Type 0) → (CutForest → Type 0) → Type 0
Follows change other Q F = (n : Node) (b : Plan) → Q (layout_before b) → F (drawn_forest b) → (other (cut_on n (drawn_forest b)) ≡ cut_on n (drawn_forest (change b))) × (layout_before (change b) ≡ layout_before b)

kept_altered : (other : CutTree → CutTree) (change : Plan → Plan) (p : ℕ) (m s : Plan) (t : Bool)
    → (t ≡ true → (changed_row p other (drawn_forest m) ≡ drawn_forest (altered p change m)) × (layout_before (altered p change m) ≡ layout_before m))
    → (t ≡ false → (changed_row (p - width (drawn_forest m)) other (drawn_forest s) ≡ drawn_forest (altered (p - width (drawn_forest m)) change s)) × (layout_before (altered (p - width (drawn_forest m)) change s) ≡ layout_before s))
    → ((if t then Kept tt (changed_row p other (drawn_forest m)) (drawn_forest s) else Kept tt (drawn_forest m) (changed_row (p - width (drawn_forest m)) other (drawn_forest s)))
    ≡ drawn_forest (if t then Comes tt (altered p change m) s else Comes tt m (altered (p - width (drawn_forest m)) change s)))
    × (layout_before (if t then Comes tt (altered p change m) s else Comes tt m (altered (p - width (drawn_forest m)) change s)) ≡ joined_layout (layout_before m) (layout_before s))
kept_altered other change p m s true a b = let r = a refl in (ap (λ (c : CutForest). Kept tt c (drawn_forest s)) r.0, ap (λ (l : Layout). joined_layout l (layout_before s)) r.1)
kept_altered other change p m s false a b = let r = b refl in (ap (Kept tt (drawn_forest m)) r.0, ap (joined_layout (layout_before m)) r.1)

past : (t : Bool) (x y : CutForest) → t ≡ false → (if t then x else y) ≡ y
past true x y e = cc
past false x y e = refl

row_follows : (change : Plan → Plan) (other : CutTree → CutTree) (Q : Layout → Type 0) (F : CutForest → Type 0) → Follows change other Q F → (p : ℕ) (c : Plan) → OpenRow p Q (layout_before c) → AtRow p F (drawn_forest c)
    → (changed_row p other (drawn_forest c) ≡ drawn_forest (altered p change c)) × (layout_before (altered p change c) ≡ layout_before c)
row_follows change other Q F h p Ends o a = absurd a
row_follows change other Q F h zero (Grows n b s) o a = let r = h n.node b o a in (ap (λ (t : CutTree). Grown t.node t.below (drawn_forest s)) r.0, ap (λ (l : Layout). Grown n l (layout_before s)) r.1)
row_follows change other Q F h (suc p) (Grows n b s) o a = let r = row_follows change other Q F h p s o a in (ap (Grown n.node (drawn_forest b)) r.0, ap (Grown n (layout_before b)) r.1)
row_follows change other Q F h p (Stands r m s) o a =
    let le = o.0 in
    let w = drawn_wide m in
    let x : width (without_places m) ≤ p = omega (arith, le, w) in
    let e : nat_lt p (width (without_places m)) ≡ false = grind (arith, nat_tests) in
    let open_on : OpenRow (p - width (without_places m)) Q (layout_before s) = subst (λ (i : ℕ). OpenRow (p - i) Q (layout_before s)) (sym w) o.1 in
    let next = row_follows change other Q F h (p - width (without_places m)) s open_on (beside_row F p (without_places m) (drawn_forest s) (nat_lt p (width (without_places m))) e a) in (
      past (nat_lt p (width (without_places m))) (Kept tt (changed_row p other (without_places m)) (drawn_forest s)) (Kept tt (without_places m) (changed_row (p - width (without_places m)) other (drawn_forest s))) e ∙ ap (Kept tt (without_places m)) next.0,
      ap (Kept r m) next.1,
    )
row_follows change other Q F h p (Comes u m s) o a =
    let w = width-layout_before m in
    kept_altered other change p m s (nat_lt p (width (drawn_forest m)))
    (λ t. let lt : p < width (drawn_forest m) = grind (arith, nat_tests) in
    row_follows change other Q F h p m (open_front Q p (layout_before m) (layout_before s) (omega (arith, lt, w)) o) (member_row F p (drawn_forest m) (drawn_forest s) (nat_lt p (width (drawn_forest m))) t a))
    (λ t. let le : width (drawn_forest m) ≤ p = grind (arith, nat_tests) in
    row_follows change other Q F h (p - width (drawn_forest m)) s (subst (λ (i : ℕ). OpenRow (p - i) Q (layout_before s)) w (open_back Q p (layout_before m) (layout_before s) (omega (arith, le, w)) o)) (beside_row F p (drawn_forest m) (drawn_forest s) (nat_lt p (width (drawn_forest m))) t a))

pub gathered_follows : (path : List ℕ) (from count : ℕ) (n : Node) (b : Plan) → OpenAt path (layout_before b) → IsFreeAt path from count (drawn_forest b)
    → (drawn path from count (cut_on n (drawn_forest b)) ≡ cut_on n (drawn_forest (gathered_at path from count b))) × (layout_before (gathered_at path from count b) ≡ layout_before b)
gathered_follows [] from count n b o a = (ap (cut_on n) (sym (drawn_forest-gathered from count b)), layout_before-gathered from count b a)
gathered_follows (step ∷ path) from count n b o a =
    let r = row_follows (gathered_at path from count) (drawn path from count) (OpenAt path) (IsFreeAt path from count) (gathered_follows path from count) step b o a in (ap (cut_on n) r.0, r.1)
