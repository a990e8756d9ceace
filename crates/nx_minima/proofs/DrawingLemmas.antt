-- A choice over the children of a node, with a drawing of each child's tree, is drawn.
use Rattle.std.proofs.Common.{◌≡◌, ℕ, ◌+◌, ◌-◌, ◌≤◌, List, [], ◌∷◌, ◌++◌, length, map, max, refl, ap, ◌∙◌, arith, length-append}
use Rattle.std.proofs.Math.Nat.{le-max_right}
use Rattle.std.proofs.lemmas.List.{length-map}
use Rattle.nx_tree.specs.Forest.{Forest, Plant, OrderedTree}
use Rattle.nx_choices.specs.Choice.{Member, Cell, Uncut, Interval, child_of, covered, choice_intervals, numbers, numbers_of, interval_weight, left, AreLight}
use Rattle.nx_cuts.specs.Cut.{CutTree, joined, forest, width, cuts, part_weight, AreFree, AreParts}
use Rattle.nx_minima.specs.Drawing.{forms, row, past, drawing, forest_under, AreReached}
use Rattle.nx_minima.specs.ChoiceLaw.{ChoiceIsDrawn}

-- the members of an interval, each over its own drawing, and the trees behind them
record IsRow (k : ℕ) (members others : List Member) (trees : List CutTree) : Type 0 where
  parts : AreParts k (row members trees)
  free : AreFree (row members trees)
  wide : width (row members trees) ≡ length members
  few : cuts (row members trees) + length members ≤ numbers_of members
  little : part_weight (row members trees) ≤ interval_weight members
  same : joined (forest (row members trees)) (forest_under (past members trees)) ≡ forest_under trees
  behind : AreReached k others (past members trees)

row_reached : (k : ℕ) (members others : List Member) (trees : List CutTree) → AreReached k (members ++ others) trees → IsRow k members others trees
row_reached k [] others trees r =
    record { parts = tt; free = tt; wide = refl; few = omega arith; little = omega arith; same = refl; behind = r }
row_reached k (member ∷ members) others [] r = absurd r
row_reached k (member ∷ members) others (tree ∷ trees) r =
    let h = r.0 in
    let t = row_reached k members others trees r.1 in
    record {
      parts = (h.parts, t.parts);
      free = t.free;
      wide = omega (arith, t.wide);
      few = omega (arith, h.few, t.few);
      little = omega (arith, h.little, t.little);
      same = ap (Plant tree.node (forest tree.below)) t.same;
      behind = t.behind;
    }

-- the trees with the intervals of a choice drawn in
pub record IsDrawn (k : ℕ) (cells : List Cell) (trees : List CutTree) : Type 0 where
  pub parts : AreParts k (drawing cells trees)
  pub few : cuts (drawing cells trees) + length (covered cells) ≤ choice_intervals cells + numbers cells
  pub little : part_weight (drawing cells trees) ≤ left cells
  pub same : forest (drawing cells trees) ≡ forest_under trees

pub cells_drawn : (k : ℕ) (cells : List Cell) (trees : List CutTree) → AreLight k cells → AreReached k (forms cells) trees → IsDrawn k cells trees
cells_drawn k [] [] light r = record { parts = tt; few = omega arith; little = omega arith; same = refl }
cells_drawn k [] (tree ∷ trees) light r = absurd r
cells_drawn k (Uncut child ∷ cells) [] light r = absurd r
cells_drawn k (Uncut child ∷ cells) (tree ∷ trees) light r =
    let h = r.0 in
    let t = cells_drawn k cells trees light.1 r.1 in
    record {
      parts = (h.parts, t.parts);
      few = omega (arith, h.few, t.few);
      little = omega (arith, h.little, t.little);
      same = ap (Plant tree.node (forest tree.below)) t.same;
    }
cells_drawn k (Interval member members ∷ cells) trees light r =
    let m = row_reached k (member ∷ members) (forms cells) trees r in
    let t = cells_drawn k cells (past (member ∷ members) trees) light.1 m.behind in
    let all : length (covered (Interval member members ∷ cells)) ≡ length (member ∷ members) + length (covered cells) =
    length-append (map child_of (member ∷ members)) (covered cells) ∙ ap (λ n. n + length (covered cells)) (length-map (member ∷ members) child_of) in
    record {
      parts = (omega (arith, m.wide), m.free, omega (arith, m.little, light.0), m.parts, t.parts);
      few = omega (arith, m.few, t.few, all);
      little = omega (arith, t.little);
      same = ap (joined (forest (row (member ∷ members) trees))) t.same ∙ m.same;
    }

counted : (inner ones sum len : ℕ) → inner + len ≤ ones + sum → 1 + inner ≤ max 1 ((1 + ones + sum) - len)
counted inner ones sum len few = omega (arith, le-max_right 1 ((1 + ones + sum) - len))

-- an admitted choice is drawn
pub choice_drawn : ChoiceIsDrawn
choice_drawn k node children cells trees admitted r =
    let d = cells_drawn k cells trees admitted.light r in (
      ap (λ (f : Forest). let t : OrderedTree = record { node = node; below = f } in t) d.same,
      record {
        parts = d.parts;
        few = counted (cuts (drawing cells trees)) (choice_intervals cells) (numbers cells) (length (covered cells)) d.few;
        little = omega (arith, d.little);
      },
    )
