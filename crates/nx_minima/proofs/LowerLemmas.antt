-- A drawing is a choice over the minima of the children, which has no more intervals and leaves no more.
use Rattle.std.proofs.Common.{◌≡◌, ℕ, ◌+◌, ◌≤◌, List, [], ◌∷◌, ◌++◌, length, map, refl, sym, ap, subst, ◌∙◌, arith, length-append}
use Rattle.std.proofs.lemmas.List.{map-append}
use Rattle.nx_tree.specs.declared.node.Node.{Node}
use Rattle.nx_tree.specs.Forest.{Forest, Empty, Plant}
use Rattle.nx_weights.specs.Weight.{weight}
use Rattle.nx_parts.specs.declared.bounds.Bound.{Bound}
use Rattle.nx_choices.specs.declared.child.Child.{Child}
use Rattle.nx_choices.specs.Choice.{Member, First, Cell, Uncut, Interval, child_of, covered, choice_intervals, numbers, numbers_of, interval_weight, left, AreLight, IsAdmitted, count}
use Rattle.nx_minima.proofs.Numbers.{AreFirst, AreFirstMembers, IsTrueClaim, AreTrueClaims, lowered_by_claims, count-lowered}
use Rattle.nx_cuts.specs.Cut.{CutForest, Bare, Grown, Kept, CutTree, joined, forest, cuts, part_weight, AreFree, AreParts, tree_of, parts_of}
use Rattle.nx_parts.specs.Minima.{IsMinima, AreMinimaOf}
use Rattle.nx_minima.specs.Seen.{as_child, seen}
use Rattle.nx_cuts.proofs.NumberLemmas.{length-parts, root_weight-drawn, same_drawn}
use Rattle.nx_cuts.proofs.PartitionLemmas.{drawn_feasible}

-- a child as it is drawn
abbrev pub piece : Node → CutForest → Child
piece node below = record { least = 1 + cuts below; lean = weight node + part_weight below; nearly = weight node + part_weight below }

abbrev pub pieces : CutForest → List Child
pieces Bare = []
pieces (Grown node below beside) = piece node below ∷ pieces beside
pieces (Kept mark members beside) = pieces members ++ pieces beside

abbrev members_of : CutForest → List Member
members_of Bare = []
members_of (Grown node below beside) = First (piece node below) ∷ members_of beside
members_of (Kept mark members beside) = []

-- the drawing as a choice over the children as they are drawn
abbrev cells_of : CutForest → List Cell
cells_of Bare = []
cells_of (Grown node below beside) = Uncut (piece node below) ∷ cells_of beside
cells_of (Kept mark Bare beside) = cells_of beside
cells_of (Kept mark (Grown node below members) beside) = Interval (First (piece node below)) (members_of members) ∷ cells_of beside
cells_of (Kept mark (Kept other members rest) beside) = cells_of beside

record AreMembers (c : CutForest) : Type 0 where
  firsts : AreFirstMembers (members_of c)
  covers : map child_of (members_of c) ≡ pieces c
  weighs : interval_weight (members_of c) ≡ part_weight c
  number : numbers_of (members_of c) ≡ cuts c + length (pieces c)

members_are : (c : CutForest) → AreFree c → AreMembers c
members_are Bare f = record { firsts = tt; covers = refl; weighs = refl; number = omega arith }
members_are (Grown n b s) f =
    let m = members_are s f in
    record { firsts = m.firsts; covers = ap (λ l. piece n b ∷ l) m.covers; weighs = omega (arith, m.weighs); number = omega (arith, m.number) }
members_are (Kept u m s) f = absurd f

record IsLevel (k : ℕ) (c : CutForest) : Type 0 where
  firsts : AreFirst (cells_of c)
  covers : covered (cells_of c) ≡ pieces c
  light : AreLight k (cells_of c)
  leaves : left (cells_of c) ≡ part_weight c
  number : choice_intervals (cells_of c) + numbers (cells_of c) ≡ cuts c + length (pieces c)

level : (k : ℕ) (c : CutForest) → AreParts k c → IsLevel k c
level k Bare h = record { firsts = tt; covers = refl; light = tt; leaves = refl; number = omega arith }
level k (Grown n b s) h =
    let r = level k s h.1 in
    record { firsts = (tt, r.firsts); covers = ap (λ l. piece n b ∷ l) r.covers; light = (tt, r.light); leaves = omega (arith, r.leaves); number = omega (arith, r.number) }
level k (Kept u Bare s) h = let wide = h.0 in absurd (omega arith)
level k (Kept u (Grown n b m) s) h =
    let a = members_are m h.1 in
    let r = level k s h.4 in
    let slight = h.2 in
    let both = length-append (pieces m) (pieces s) in
    record {
      firsts = (a.firsts, r.firsts);
      covers = ap (λ l. piece n b ∷ l) (ap (λ l. l ++ covered (cells_of s)) a.covers ∙ ap (λ l. pieces m ++ l) r.covers);
      light = (omega (arith, a.weighs, slight), r.light);
      leaves = omega (arith, r.leaves);
      number = omega (arith, a.number, r.number, both);
    }
level k (Kept u (Kept v m r) s) h = absurd h.1

-- the minima are true of a child as it is drawn
true_claim : (k : ℕ) (node : Node) (below : CutForest) (bound : Bound) → AreParts k below → weight node + part_weight below ≤ k → IsMinima k (record { node = node; below = forest below }) bound
    → IsTrueClaim k (as_child bound) (piece node below)
true_claim k node below bound h heavy m =
    let t : CutTree = record { node = node; below = below } in
    let f = drawn_feasible k t heavy h in
    let n = length-parts t in
    let w = root_weight-drawn k t h in
    let least = m.least.least (parts_of t) f in
    let s = same_drawn k (tree_of t) m.lean.one m.lean.holds.0 in
    record {
      least = omega (arith, least, n);
      lean = λ few. omega (arith, m.lean.least (parts_of t) (f, omega (arith, least, n, few)), w);
      nearly = λ few. omega (arith, m.nearly.least (parts_of t) (f, omega (arith, n, few)), w);
      light = omega (arith, m.lean.reached, s.light);
    }

-- the bounds of two forests beside each other
record IsSplit (k : ℕ) (f g : Forest) (bounds : List Bound) : Type 0 where
  first : List Bound
  last : List Bound
  both : bounds ≡ first ++ last
  of_first : AreMinimaOf k f first
  of_last : AreMinimaOf k g last

split : (k : ℕ) (f g : Forest) (bounds : List Bound) → AreMinimaOf k (joined f g) bounds → IsSplit k f g bounds
split k Empty g bounds m = record { first = []; last = bounds; both = refl; of_first = tt; of_last = m }
split k (Plant n b s) g [] m = absurd m
split k (Plant n b s) g (bound ∷ bounds) m =
    let r = split k s g bounds m.1 in
    record { first = bound ∷ r.first; last = r.last; both = ap (λ l. bound ∷ l) r.both; of_first = (m.0, r.of_first); of_last = r.of_last }

pub true_both : (k : ℕ) (xs ys more others : List Child) → AreTrueClaims k xs ys → AreTrueClaims k more others → AreTrueClaims k (xs ++ more) (ys ++ others)
true_both k [] [] more others a b = b
true_both k [] (y ∷ ys) more others a b = absurd a
true_both k (x ∷ xs) [] more others a b = absurd a
true_both k (x ∷ xs) (y ∷ ys) more others a b = (a.0, true_both k xs ys more others a.1 b)

true_claims : (k : ℕ) (c : CutForest) (bounds : List Bound) → AreParts k c → part_weight c ≤ k → AreMinimaOf k (forest c) bounds → AreTrueClaims k (seen bounds) (pieces c)
true_claims k Bare [] h w m = tt
true_claims k Bare (bound ∷ bounds) h w m = absurd m
true_claims k (Grown n b s) [] h w m = absurd m
true_claims k (Grown n b s) (bound ∷ bounds) h w m = (true_claim k n b bound h.0 (omega (arith, w)) m.0, true_claims k s bounds h.1 (omega (arith, w)) m.1)
true_claims k (Kept u c s) bounds h w m =
    let r = split k (forest c) (forest s) bounds m in
    let both = true_both k (seen r.first) (pieces c) (seen r.last) (pieces s) (true_claims k c r.first h.3 h.2 r.of_first) (true_claims k s r.last h.4 w r.of_last) in
    subst (λ l. AreTrueClaims k l (pieces c ++ pieces s)) (sym (ap seen r.both ∙ map-append as_child r.first r.last)) both

-- A choice over what is claimed of the children that has no more intervals than the drawing and leaves no more.
pub record IsLower (k own most most_left : ℕ) (claims : List Child) : Type 0 where
  pub cells : List Cell
  pub admitted : IsAdmitted k own claims cells
  pub few : count cells ≤ most
  pub little : left cells ≤ most_left

pub lower_claims : (k own : ℕ) (c : CutForest) (claims : List Child) → AreParts k c → own + part_weight c ≤ k → AreTrueClaims k claims (pieces c) → IsLower k own (1 + cuts c) (part_weight c) claims
lower_claims k own c claims h heavy true =
    let here = level k c h in
    let t : AreTrueClaims k claims (covered (cells_of c)) = subst (AreTrueClaims k claims) (sym here.covers) true in
    let l = lowered_by_claims k (cells_of c) claims here.firsts here.light t in
    record {
      cells = l.lowered;
      admitted = record { covers = l.covers; root = omega (arith, l.leaves, here.leaves, heavy); light = l.light };
      few = count-lowered k (1 + cuts c) (cells_of c) claims t (omega arith) (omega (arith, here.number, ap length here.covers)) l;
      little = omega (arith, l.leaves, here.leaves);
    }

-- over the minima of the children
pub lower : (k own : ℕ) (c : CutForest) (bounds : List Bound) → AreParts k c → own + part_weight c ≤ k → AreMinimaOf k (forest c) bounds → IsLower k own (1 + cuts c) (part_weight c) (seen bounds)
lower k own c bounds h heavy m = lower_claims k own c (seen bounds) h heavy (true_claims k c bounds h (omega arith) m)
