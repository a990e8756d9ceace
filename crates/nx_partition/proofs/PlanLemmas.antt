-- A walk over the children that follows a choice writes the intervals of its drawing.
use Rattle.std.proofs.Common.{◌≡◌, ℕ, ◌+◌, ◌-◌, Bool, false, List, [], ◌∷◌, ◌++◌, length, map, drop, refl, sym, ap, subst, ◌∙◌, arith, append_assoc}
use Rattle.std.proofs.lemmas.List.{map-append}
use Rattle.nx_tree.specs.Forest.{OrderedTree, Forest}
use Rattle.nx_weights.specs.Weight.{weight}
use Rattle.nx_parts.specs.declared.bounds.Bound.{Bound}
use Rattle.nx_parts.specs.declared.interval.Interval.{Interval as Siblings}
use Rattle.nx_parts.specs.declared.interval.Interval.TheVariants.{Run}
use Rattle.nx_choices.specs.declared.child.Child.{Child}
use Rattle.nx_choices.specs.declared.child.Stand.{Stand}
use Rattle.nx_choices.specs.Choice.{Member, First, Second, Cell, Uncut, Interval, child_of, number, slots}
use Rattle.nx_choices.specs.Stand.{is_second, joins, stands, takes_second, IsChoice}
use Rattle.nx_cuts.specs.Cut.{CutTree, width, intervals}
use Rattle.nx_minima.specs.Drawing.{Reaches, AreReached, forms, row, past, drawing, forest_under}
use Rattle.nx_minima.specs.Seen.{as_child, seen}
use Rattle.nx_partition.specs.Planning.{number_in, weight_in, AddsDrawing}
use Rattle.nx_partition.proofs.Formed.{AreFormed, listed}
use Rattle.nx_minima.proofs.DrawingLemmas.{choice_drawn}
use Rattle.nx_minima.proofs.MinimaLemmas.{forms-covered}

wide : (k : ℕ) (members others : List Member) (trees : List CutTree) → AreReached k (members ++ others) trees → width (row members trees) ≡ length members
wide k [] others trees r = refl
wide k (member ∷ members) others [] r = absurd r
wide k (member ∷ members) others (tree ∷ trees) r = omega (arith, wide k members others trees r.1)

past_reached : (k : ℕ) (members others : List Member) (trees : List CutTree) → AreReached k (members ++ others) trees → AreReached k others (past members trees)
past_reached k [] others trees r = r
past_reached k (member ∷ members) others [] r = absurd r
past_reached k (member ∷ members) others (tree ∷ trees) r = past_reached k members others trees r.1

-- the members of an interval behind the first, and the cells behind it
listed-row : (k : ℕ) (path : List ℕ) (position : ℕ) (members : List Member) (list : List Stand) (others : List Member) (trees : List CutTree) → AreReached k (members ++ others) trees
    → listed path position (joins members ++ list) trees ≡ intervals path position (row members trees) ++ listed path (position + width (row members trees)) list (past members trees)
listed-row k path position [] list others trees r = ap (λ i. listed path i list trees) (let e : position ≡ position + 0 = omega arith in e)
listed-row k path position (member ∷ members) list others [] r = absurd r
listed-row k path position (member ∷ members) list others (tree ∷ trees) r =
    let here = intervals (path ++ position ∷ []) 0 tree.below in
    let rest = intervals path (position + 1) (row members trees) in
    let n = width (row members trees) in
    ap (λ l. here ++ l) (listed-row k path (position + 1) members list others trees r.1)
    ∙ sym (append_assoc here rest (listed path (position + 1 + n) list (past members trees)))
    ∙ ap (λ i. (here ++ rest) ++ listed path i list (past members trees)) (let e : position + 1 + n ≡ position + (1 + n) = omega arith in e)

-- the intervals of a drawing, child by child
pub listed-drawing : (k : ℕ) (path : List ℕ) (position : ℕ) (cells : List Cell) (trees : List CutTree) → AreReached k (forms cells) trees
    → listed path position (stands cells) trees ≡ intervals path position (drawing cells trees)
listed-drawing k path position [] trees r = refl
listed-drawing k path position (Uncut child ∷ cells) [] r = absurd r
listed-drawing k path position (Uncut child ∷ cells) (tree ∷ trees) r =
    ap (λ l. intervals (path ++ position ∷ []) 0 tree.below ++ l) (listed-drawing k path (position + 1) cells trees r.1)
listed-drawing k path position (Interval member members ∷ cells) [] r = absurd r
listed-drawing k path position (Interval member members ∷ cells) (tree ∷ trees) r =
    let here = intervals (path ++ position ∷ []) 0 tree.below in
    let rest = intervals path (position + 1) (row members trees) in
    let n = width (row members trees) in
    let w : n ≡ length members = wide k members (forms cells) trees r.1 in
    let last : position + (1 + length members) - 1 ≡ position + (1 + n) - 1 = omega (arith, w) in
    ap (λ i. Run path position i ∷ here ++ listed path (position + 1) (joins members ++ stands cells) trees) last
    ∙ ap (λ l. Run path position (position + (1 + n) - 1) ∷ l)
    (ap (λ l. here ++ l) (listed-row k path (position + 1) members (stands cells) (forms cells) trees r.1
    ∙ ap (λ i. rest ++ listed path i (stands cells) (past members trees)) (let e : position + 1 + n ≡ position + (1 + n) = omega arith in e)
    ∙ ap (λ l. rest ++ l) (listed-drawing k path (position + (1 + n)) cells (past members trees) (past_reached k members (forms cells) trees r.1)))
    ∙ sym (append_assoc here rest (intervals path (position + (1 + n)) (drawing cells (past members trees)))))

seconds-joins : (members : List Member) → map takes_second (joins members) ≡ map is_second members
seconds-joins [] = refl
seconds-joins (member ∷ members) = ap (λ l. is_second member ∷ l) (seconds-joins members)

pub seconds : (cells : List Cell) → map takes_second (stands cells) ≡ map is_second (forms cells)
seconds [] = refl
seconds (Uncut child ∷ cells) = ap (λ l. false ∷ l) (seconds cells)
seconds (Interval member members ∷ cells) =
    ap (λ l. is_second member ∷ l)
    (map-append takes_second (joins members) (stands cells) ∙ ap (λ l. l ++ map takes_second (stands cells)) (seconds-joins members)
    ∙ ap (λ l. map is_second members ++ l) (seconds cells) ∙ sym (map-append is_second members (forms cells)))

abbrev first_child : Child → List Child → Child
first_child none [] = none
first_child none (c ∷ cs) = c

abbrev first_flag : List Bool → Bool
first_flag [] = false
first_flag (b ∷ bs) = b

one_reached : (k : ℕ) (second : Bool) (bound : Bound) (member : Member) (tree : CutTree) → as_child bound ≡ child_of member → second ≡ is_second member
    → Reaches k (number_in second bound) (weight_in second bound) tree → Reaches k (number member) (slots member) tree
one_reached k second bound (First c) tree same flag r =
    subst (λ (x : Child). Reaches k x.least x.lean tree) same (subst (λ b. Reaches k (number_in b bound) (weight_in b bound) tree) flag r)
one_reached k second bound (Second c) tree same flag r =
    subst (λ (x : Child). Reaches k (x.least + 1) x.nearly tree) same (subst (λ b. Reaches k (number_in b bound) (weight_in b bound) tree) flag r)

all_reached : (k : ℕ) (list : List Stand) (bounds : List Bound) (members : List Member) (trees : List CutTree) → map child_of members ≡ seen bounds → map takes_second list ≡ map is_second members
    → AreFormed k list bounds trees → AreReached k members trees
all_reached k [] [] [] [] e f r = tt
all_reached k [] [] [] (tree ∷ trees) e f r = absurd r
all_reached k [] [] (member ∷ members) trees e f r = absurd (cc)
all_reached k [] (bound ∷ bounds) members trees e f r = absurd r
all_reached k (stand ∷ list) [] members trees e f r = absurd r
all_reached k (stand ∷ list) (bound ∷ bounds) members [] e f r = absurd r
all_reached k (stand ∷ list) (bound ∷ bounds) [] (tree ∷ trees) e f r = absurd (cc)
all_reached k (stand ∷ list) (bound ∷ bounds) (member ∷ members) (tree ∷ trees) e f r = (
  one_reached k (takes_second stand) bound member tree (sym (ap (first_child (child_of member)) e)) (ap first_flag f) r.0,
  all_reached k list bounds members trees (ap (drop 1) e) (ap (drop 1) f) r.1,
)

-- a walk that has followed a choice has drawn the tree
pub planned : {k : ℕ} {tree : OrderedTree} {second : Bool} {bound : Bound} {path : List ℕ} {list : List Stand} {old new : List Siblings} (own : List Bound) (trees : List CutTree)
    → IsChoice k (weight tree.node) (number_in second bound) (weight_in second bound) (seen own) list → AreFormed k list own trees → forest_under trees ≡ tree.below → new ≡ old ++ listed path 0 list trees
    → AddsDrawing k tree second bound path old new
planned {k} {tree} {second} {bound} {path} {list} {old} own trees c formed same added =
    let r = all_reached k list own (forms c.cells) trees (forms-covered c.cells ∙ c.admitted.covers) (ap (map takes_second) c.are ∙ seconds c.cells) formed in
    let d = choice_drawn k tree.node (seen own) c.cells trees c.admitted r in
    let h = d.1 in
    record {
      drawn = record { node = tree.node; below = drawing c.cells trees };
      tree_is = d.0 ∙ ap (λ (f : Forest). let t : OrderedTree = record { node = tree.node; below = f } in t) same;
      reaches = record { parts = h.parts; few = omega (arith, h.few, c.few); little = omega (arith, h.little, c.little) };
      added = added ∙ ap (λ l. old ++ listed path 0 l trees) c.are ∙ ap (λ l. old ++ l) (listed-drawing k path 0 c.cells trees r);
    }
