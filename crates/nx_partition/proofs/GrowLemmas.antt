-- The minima of a tree's nodes as they are found: those of the trees below the root one after the other, and the root's own last.
use Rattle.std.proofs.Common.{◌≡◌, ℕ, zero, suc, ◌+◌, List, [], ◌∷◌, ◌++◌, length, drop, refl, sym, ap, subst, ◌∙◌, arith, append_assoc, length-append, slice_set}
use Rattle.std.proofs.lemmas.List.{append-nil}
use Rattle.std.proofs.Math.Seq.{set-append_seam}
use Rattle.nx_tree.specs.Forest.{OrderedTree, Forest, Empty, Plant, nodes}
use Rattle.nx_parts.specs.declared.bounds.Bound.{Bound}
use Rattle.nx_parts.specs.Minima.{IsMinima, AreMinimaIn, AreMinima}
use Rattle.nx_partition.specs.Bounding.{Extends}
use Rattle.nx_partition.proofs.BoundsLemmas.{longer}

drop_past : {X : Type 0} (n : ℕ) (xs ys : List X) → length xs ≡ n → drop n (xs ++ ys) ≡ ys
drop_past zero [] ys h = refl
drop_past zero (x ∷ xs) ys h = absurd (omega arith)
drop_past (suc n) [] ys h = absurd (omega arith)
drop_past (suc n) (x ∷ xs) ys h = drop_past n xs ys (omega arith)

-- a tree's minima before those of the trees beside it
before : (k : ℕ) (t : OrderedTree) (beside : Forest) (bounds others : List Bound) → AreMinima k t bounds → AreMinimaIn k beside others → AreMinimaIn k (Plant t.node t.below beside) (bounds ++ others)
before k t beside [] others m r = let n = m.one_each in absurd (omega arith)
before k t beside (bound ∷ bounds) others m r =
    let n = m.one_each in
    (m.each.0, longer k t.below bounds others m.each.1, subst (AreMinimaIn k beside) (sym (drop_past (nodes t.below) bounds others (omega arith))) r)

-- The list has grown by the minima of the nodes of a forest's first trees; `rest` are the others.
pub record IsGrown (k : ℕ) (forest rest : Forest) (old now : List Bound) : Type 0 where
  pub bounds : List Bound
  pub added : now ≡ old ++ bounds
  pub all : (others : List Bound) → AreMinimaIn k rest others → AreMinimaIn k forest (bounds ++ others)
  pub count : length bounds + nodes rest ≡ nodes forest

pub grown_start : (k : ℕ) (forest : Forest) {rest : Forest} (old now : List Bound) → rest ≡ forest → now ≡ old → IsGrown k forest rest old now
grown_start k forest old now f e = record { bounds = []; added = e ∙ sym (append-nil old); all = λ others m. subst (λ g. AreMinimaIn k g others) f m; count = omega (arith, ap nodes f) }

pub grown_more : {k : ℕ} {forest rest : Forest} {old now next : List Bound} (t : OrderedTree) → IsGrown k forest (Plant t.node t.below rest) old now → Extends k t now next → IsGrown k forest rest old next
grown_more {k} {forest} {rest} {old} t g e =
    record {
      bounds = g.bounds ++ e.bounds;
      added = e.added ∙ ap (λ l. l ++ e.bounds) g.added ∙ append_assoc old g.bounds e.bounds;
      all = λ others r. subst (AreMinimaIn k forest) (sym (append_assoc g.bounds e.bounds others)) (g.all (e.bounds ++ others) (before k t rest e.bounds others e.minima r));
      count = let n = e.minima.one_each in omega (arith, g.count, length-append g.bounds e.bounds);
    }

-- at the end there are those of all trees
pub grown_end : {k : ℕ} {forest : Forest} {old now : List Bound} (g : IsGrown k forest Empty old now) → AreMinimaIn k forest g.bounds × (length g.bounds ≡ nodes forest)
grown_end {k} {forest} g = (subst (AreMinimaIn k forest) (append-nil g.bounds) (g.all [] tt), omega (arith, g.count))

-- what stands behind the place that is kept for the root's own
pub behind_place : {k : ℕ} {forest rest : Forest} {now : List Bound} (old : List Bound) (none : Bound) (place : ℕ) (g : IsGrown k forest rest (old ++ none ∷ []) now) → place ≡ length old → drop (place + 1) now ≡ g.bounds
behind_place old none place g e =
    ap (drop (place + 1)) g.added ∙ drop_past (place + 1) (old ++ none ∷ []) g.bounds (omega (arith, e, length-append old (none ∷ [])))

-- the root's own put into their place
pub grown_all : {k : ℕ} {tree : OrderedTree} {now : List Bound} (old : List Bound) (none : Bound) (place : ℕ) (bound : Bound) → IsGrown k tree.below Empty (old ++ none ∷ []) now → place ≡ length old → IsMinima k tree bound
    → Extends k tree old (slice_set now place bound)
grown_all {now = now} old none place bound g e m =
    let x = grown_end g in
    record {
      bounds = bound ∷ g.bounds;
      added = ap (λ p. slice_set now p bound) e ∙ ap (λ l. slice_set l (length old) bound) (g.added ∙ append_assoc old (none ∷ []) g.bounds) ∙ set-append_seam old none g.bounds bound;
      minima = record { one_each = (let n = x.1 in omega arith); each = (m, x.0, tt) };
    }
