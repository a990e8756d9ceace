-- Steps match a path exactly where there is a node at it and they fit the labels along it.
use Rattle.std.proofs.Common.{◌≡◌, ℕ, zero, suc, Bool, true, false, ◌⊎◌, inl, inr, List, [], ◌∷◌, ◌++◌, length, Option, None, Some, refl, sym, ap, ◌∙◌, append_assoc, length-append, arith}
use Rattle.std.specs.Prelude.{◌&&◌, ◌||◌, option_and_then}
use Rattle.std.specs.Option.{option_map_or}
use Rattle.std.specs.Str.{bytes_eq}
use Rattle.std.proofs.lemmas.List.{append-nil}
use Rattle.std.proofs.lemmas.Slice.Eq.{bytes_eq-Decides}
use Rattle.nx_tree.specs.Forest.{OrderedTree}
use Rattle.nx_tree.specs.Edit.{child, at}
use Rattle.nx_matrix.specs.Label.{label}
use Rattle.nx_reach.specs.declared.step.Step.{Step}
use Rattle.nx_reach.specs.declared.step.Step.TheVariants.{Child, Below}
use Rattle.nx_reach.specs.Reach.{MatchesBack}
use Rattle.nx_reach.specs.Fit.{fits, some_tail, labels_on}

pub bytes_are : (a b : List ℕ) → bytes_eq a b ≡ true → a ≡ b
bytes_are a b e = (bytes_eq-Decides a b).0 e

pub bytes_same : (a b : List ℕ) → a ≡ b → bytes_eq a b ≡ true
bytes_same a b e = (bytes_eq-Decides a b).1 e

pub and_true : (a b : Bool) → a ≡ true → b ≡ true → (a && b) ≡ true
and_true a b p q = rw p q

pub both_true : (a b : Bool) → (a && b) ≡ true → (a ≡ true) × (b ≡ true)
both_true true b e = (refl, e)
both_true false b e = absurd (cc)

pub or_right : (a b : Bool) → b ≡ true → (a || b) ≡ true
or_right true b e = refl
or_right false b e = e

pub or_cases : (a b : Bool) → (a || b) ≡ true → (a ≡ true) ⊎ (b ≡ true)
or_cases true b e = inl refl
or_cases false b e = inr e

-- a path that is longer leads through the node at its beginning
pub at_within : (tree : OrderedTree) (above rest : List ℕ) (u : OrderedTree) → at tree (above ++ rest) ≡ Some u →
    (s : OrderedTree) × (at tree above ≡ Some s) × (at s rest ≡ Some u)
at_within tree [] rest u e = (tree, refl, e)
at_within tree (position ∷ above) rest u e = go (λ t. at_within t above rest u) (child tree.below position) e
  where
    go : ((t : OrderedTree) → at t (above ++ rest) ≡ Some u → (s : OrderedTree) × (at t above ≡ Some s) × (at s rest ≡ Some u)) →
        (o : Option OrderedTree) → option_and_then (λ t. at t (above ++ rest)) o ≡ Some u →
        (s : OrderedTree) × (option_and_then (λ t. at t above) o ≡ Some s) × (at s rest ≡ Some u)
    go next None h = absurd (cc)
    go next (Some t) h = next t h

-- ... and the labels along it too
pub labels_within : (labels : List (List ℕ)) (tree : OrderedTree) (above rest : List ℕ) (s : OrderedTree) → at tree above ≡ Some s →
    labels_on labels tree (above ++ rest) ≡ labels_on (labels_on labels tree above) s rest
labels_within labels tree [] rest s e = ap (λ (t : OrderedTree). labels_on labels t rest) (let h : tree ≡ s = cc in h)
labels_within labels tree (position ∷ above) rest s e = go (λ t. labels_within (label t.node ∷ labels) t above rest s) (child tree.below position) e
  where
    go : ((t : OrderedTree) → at t above ≡ Some s →
        labels_on (label t.node ∷ labels) t (above ++ rest) ≡ labels_on (labels_on (label t.node ∷ labels) t above) s rest) → (o : Option OrderedTree) → option_and_then (λ t. at t above) o ≡ Some s →
        option_map_or (λ t. labels_on (label t.node ∷ labels) t (above ++ rest)) o labels
        ≡ labels_on (option_map_or (λ t. labels_on (label t.node ∷ labels) t above) o labels) s rest
    go next None h = absurd (cc)
    go next (Some t) h = next t h

-- the labels below a node, down a path that isn't empty: the last node's is the first, and the node's are a tail of those behind
pub labels_down : (test : List (List ℕ) → Bool) (labels : List (List ℕ)) (s : OrderedTree) (position : ℕ) (more : List ℕ) (u : OrderedTree) →
    at s (position ∷ more) ≡ Some u → some_tail test labels ≡ true →
    (above : List (List ℕ)) × (labels_on labels s (position ∷ more) ≡ label u.node ∷ above) × (some_tail test above ≡ true)
labels_down test labels s position [] u e passes = go (child s.below position) e
  where
    go : (o : Option OrderedTree) → option_and_then (λ t. at t []) o ≡ Some u →
        (above : List (List ℕ)) × (option_map_or (λ t. labels_on (label t.node ∷ labels) t []) o labels ≡ label u.node ∷ above) × (some_tail test above ≡ true)
    go None h = absurd (cc)
    go (Some t) h = let same : t ≡ u = cc in (labels, ap (λ (x : OrderedTree). label x.node ∷ labels) same, passes)
labels_down test labels s position (below ∷ more) u e passes =
    go (λ t h. labels_down test (label t.node ∷ labels) t below more u h (or_right (test (label t.node ∷ labels)) (some_tail test labels) passes)) (child s.below position) e
  where
    go : ((t : OrderedTree) → at t (below ∷ more) ≡ Some u →
        (above : List (List ℕ)) × (labels_on (label t.node ∷ labels) t (below ∷ more) ≡ label u.node ∷ above) × (some_tail test above ≡ true)) →
        (o : Option OrderedTree) → option_and_then (λ t. at t (below ∷ more)) o ≡ Some u →
        (above : List (List ℕ)) × (option_map_or (λ t. labels_on (label t.node ∷ labels) t (below ∷ more)) o labels ≡ label u.node ∷ above) × (some_tail test above ≡ true)
    go next None h = absurd (cc)
    go next (Some t) h = next t h

-- a path down one position more
pub labels_next : (labels : List (List ℕ)) (tree : OrderedTree) (parent : List ℕ) (position : ℕ) (u : OrderedTree) → at tree (parent ++ position ∷ []) ≡ Some u →
    labels_on labels tree (parent ++ position ∷ []) ≡ label u.node ∷ labels_on labels tree parent
labels_next labels tree parent position u e =
    let w : (s : OrderedTree) × (at tree parent ≡ Some s) × (at s (position ∷ []) ≡ Some u) = at_within tree parent (position ∷ []) u e in
    labels_within labels tree parent (position ∷ []) w.0 w.1 ∙ go (child w.0.below position) w.2
  where
    go : (o : Option OrderedTree) → option_and_then (λ t. at t []) o ≡ Some u →
        option_map_or (λ t. labels_on (label t.node ∷ labels_on labels tree parent) t []) o (labels_on labels tree parent) ≡ label u.node ∷ labels_on labels tree parent
    go None h = absurd (cc)
    go (Some t) h = let same : t ≡ u = cc in ap (λ (x : OrderedTree). label x.node ∷ labels_on labels tree parent) same

-- a list is empty, or others with one more behind
pub from_last : (xs : List ℕ) → (xs ≡ []) ⊎ ((before : List ℕ) × (x : ℕ) × (xs ≡ before ++ x ∷ []))
from_last [] = inl refl
from_last (x ∷ xs) = elim (from_last xs) [
  | inl e ↦ inr ([], x, ap (λ (ys : List ℕ). x ∷ ys) e)
  | inr w ↦ inr (x ∷ w.0, w.1, ap (λ (ys : List ℕ). x ∷ ys) w.2)
]

-- a test that holds of a list holds of a tail of it
pub tail_here : (test : List (List ℕ) → Bool) (labels : List (List ℕ)) → test labels ≡ true → some_tail test labels ≡ true
tail_here test [] h = h
tail_here test (x ∷ labels) h = rw h

-- steps that match a path fit the labels along it
pub match_fits : (tree : OrderedTree) (steps : List Step) (path : List ℕ) (u : OrderedTree) → at tree path ≡ Some u → MatchesBack tree path steps →
    fits steps (labels_on [] tree path) ≡ true
match_fits tree [] path u e m = ap (λ (p : List ℕ). fits [] (labels_on [] tree p)) m
match_fits tree (Child name ∷ before) path u e (has, (parent, position, is, m)) =
    let here : at tree (parent ++ position ∷ []) ≡ Some u = ap (at tree) (sym is) ∙ e in
    let w : (s : OrderedTree) × (at tree parent ≡ Some s) × (at s (position ∷ []) ≡ Some u) = at_within tree parent (position ∷ []) u here in
    let same : has.0 ≡ u = let h : Some has.0 ≡ Some u = sym has.1 ∙ e in cc in
    let named : bytes_eq name (label u.node) ≡ true = bytes_same name (label u.node) (sym has.2 ∙ ap (λ (t : OrderedTree). label t.node) same) in
    ap (λ (p : List ℕ). fits (Child name ∷ before) (labels_on [] tree p)) is
    ∙ ap (λ (ls : List (List ℕ)). fits (Child name ∷ before) ls) (labels_next [] tree parent position u here)
    ∙ and_true (bytes_eq name (label u.node)) (fits before (labels_on [] tree parent)) named (match_fits tree before parent w.0 w.1 m)
match_fits tree (Below name ∷ before) path u e (has, (above, [], is, some, m)) = absurd (some refl)
match_fits tree (Below name ∷ before) path u e (has, (above, position ∷ more, is, some, m)) =
    let here : at tree (above ++ position ∷ more) ≡ Some u = ap (at tree) (sym is) ∙ e in
    let w : (s : OrderedTree) × (at tree above ≡ Some s) × (at s (position ∷ more) ≡ Some u) = at_within tree above (position ∷ more) u here in
    let same : has.0 ≡ u = let h : Some has.0 ≡ Some u = sym has.1 ∙ e in cc in
    let named : bytes_eq name (label u.node) ≡ true = bytes_same name (label u.node) (sym has.2 ∙ ap (λ (t : OrderedTree). label t.node) same) in
    let f : fits before (labels_on [] tree above) ≡ true = match_fits tree before above w.0 w.1 m in
    let d : (ls : List (List ℕ)) × (labels_on (labels_on [] tree above) w.0 (position ∷ more) ≡ label u.node ∷ ls) × (some_tail (λ xs. fits before xs) ls ≡ true) =
    labels_down (λ xs. fits before xs) (labels_on [] tree above) w.0 position more u w.2 (tail_here (λ xs. fits before xs) (labels_on [] tree above) f) in
    ap (λ (p : List ℕ). fits (Below name ∷ before) (labels_on [] tree p)) is
    ∙ ap (λ (ls : List (List ℕ)). fits (Below name ∷ before) ls) (labels_within [] tree above (position ∷ more) w.0 w.1 ∙ d.1)
    ∙ and_true (bytes_eq name (label u.node)) (some_tail (λ xs. fits before xs) d.0) named d.2

-- where a tail of the labels along a path passes, they are those along a beginning of it
pub tail_is : (test : List (List ℕ) → Bool) (tree : OrderedTree) (n : ℕ) (path : List ℕ) → length path ≡ n → (s : OrderedTree) → at tree path ≡ Some s →
    some_tail test (labels_on [] tree path) ≡ true → (above : List ℕ) × (more : List ℕ) × (path ≡ above ++ more) × (test (labels_on [] tree above) ≡ true)
tail_is test tree zero [] size s e passes = ([], [], refl, passes)
tail_is test tree zero (x ∷ path) size s e passes = absurd (omega arith)
tail_is test tree (suc n) path size s e passes = elim (from_last path) [
  | inl empty ↦ absurd (let h : length path ≡ 0 = ap length empty in omega arith)
  | inr w ↦ more (λ p size t. tail_is test tree n p size t) w.0 w.1 w.2
]
  where
    more : ((p : List ℕ) → length p ≡ n → (t : OrderedTree) → at tree p ≡ Some t → some_tail test (labels_on [] tree p) ≡ true →
        (above : List ℕ) × (more : List ℕ) × (p ≡ above ++ more) × (test (labels_on [] tree above) ≡ true)) → (parent : List ℕ) (position : ℕ) → path ≡ parent ++ position ∷ [] → (above : List ℕ) × (more : List ℕ) × (path ≡ above ++ more) × (test (labels_on [] tree above) ≡ true)
    more shorter parent position is =
        let here : at tree (parent ++ position ∷ []) ≡ Some s = ap (at tree) (sym is) ∙ e in
        let v : (t : OrderedTree) × (at tree parent ≡ Some t) × (at t (position ∷ []) ≡ Some s) = at_within tree parent (position ∷ []) s here in
        let along : labels_on [] tree path ≡ label s.node ∷ labels_on [] tree parent = ap (labels_on [] tree) is ∙ labels_next [] tree parent position s here in
        let size' : length parent ≡ n = omega (arith, length-append parent (position ∷ []), ap length is) in
        elim (or_cases (test (label s.node ∷ labels_on [] tree parent)) (some_tail test (labels_on [] tree parent)) (ap (some_tail test) (sym along) ∙ passes)) [
          | inl now ↦ (path, [], sym (append-nil path), ap test along ∙ now)
          | inr before ↦
              let w : (above : List ℕ) × (more : List ℕ) × (parent ≡ above ++ more) × (test (labels_on [] tree above) ≡ true) = shorter parent size' v.0 v.1 before in
              (w.0, w.1 ++ position ∷ [], is ∙ ap (λ (p : List ℕ). p ++ position ∷ []) w.2 ∙ append_assoc w.0 w.1 (position ∷ []), w.3)
        ]

-- steps that fit the labels along a path match it
pub fits_match : (tree : OrderedTree) (steps : List Step) (path : List ℕ) (u : OrderedTree) → at tree path ≡ Some u → fits steps (labels_on [] tree path) ≡ true →
    MatchesBack tree path steps
fits_match tree [] path u e f = elim (from_last path) [
  | inl empty ↦ empty
  | inr w ↦
      let here : at tree (w.0 ++ w.1 ∷ []) ≡ Some u = ap (at tree) (sym w.2) ∙ e in
      let h : fits [] (label u.node ∷ labels_on [] tree w.0) ≡ true = ap (fits []) (sym (ap (labels_on [] tree) w.2 ∙ labels_next [] tree w.0 w.1 u here)) ∙ f in
      absurd (cc)
]
fits_match tree (Child name ∷ before) path u e f = elim (from_last path) [
  | inl empty ↦ absurd (let h : fits (Child name ∷ before) [] ≡ true = ap (λ (p : List ℕ). fits (Child name ∷ before) (labels_on [] tree p)) (sym empty) ∙ f in cc)
  | inr w ↦
      let here : at tree (w.0 ++ w.1 ∷ []) ≡ Some u = ap (at tree) (sym w.2) ∙ e in
      let v : (t : OrderedTree) × (at tree w.0 ≡ Some t) × (at t (w.1 ∷ []) ≡ Some u) = at_within tree w.0 (w.1 ∷ []) u here in
      let h : (bytes_eq name (label u.node) ≡ true) × (fits before (labels_on [] tree w.0) ≡ true) =
      both_true (bytes_eq name (label u.node)) (fits before (labels_on [] tree w.0))
      (ap (fits (Child name ∷ before)) (sym (ap (labels_on [] tree) w.2 ∙ labels_next [] tree w.0 w.1 u here)) ∙ f) in
      ((u, e, sym (bytes_are name (label u.node) h.0)), (w.0, w.1, w.2, fits_match tree before w.0 v.0 v.1 h.1))
]
fits_match tree (Below name ∷ before) path u e f = elim (from_last path) [
  | inl empty ↦ absurd (let h : fits (Below name ∷ before) [] ≡ true = ap (λ (p : List ℕ). fits (Below name ∷ before) (labels_on [] tree p)) (sym empty) ∙ f in cc)
  | inr w ↦
      let here : at tree (w.0 ++ w.1 ∷ []) ≡ Some u = ap (at tree) (sym w.2) ∙ e in
      let v : (t : OrderedTree) × (at tree w.0 ≡ Some t) × (at t (w.1 ∷ []) ≡ Some u) = at_within tree w.0 (w.1 ∷ []) u here in
      let h : (bytes_eq name (label u.node) ≡ true) × (some_tail (λ xs. fits before xs) (labels_on [] tree w.0) ≡ true) =
      both_true (bytes_eq name (label u.node)) (some_tail (λ xs. fits before xs) (labels_on [] tree w.0))
      (ap (fits (Below name ∷ before)) (sym (ap (labels_on [] tree) w.2 ∙ labels_next [] tree w.0 w.1 u here)) ∙ f) in
      let t : (above : List ℕ) × (more : List ℕ) × (w.0 ≡ above ++ more) × (fits before (labels_on [] tree above) ≡ true) =
      tail_is (λ xs. fits before xs) tree (length w.0) w.0 refl v.0 v.1 h.1 in
      let split : path ≡ t.0 ++ (t.1 ++ w.1 ∷ []) = w.2 ∙ ap (λ (p : List ℕ). p ++ w.1 ∷ []) t.2 ∙ append_assoc t.0 t.1 (w.1 ∷ []) in
      let x : (s : OrderedTree) × (at tree t.0 ≡ Some s) × (at s (t.1 ++ w.1 ∷ []) ≡ Some u) = at_within tree t.0 (t.1 ++ w.1 ∷ []) u (ap (at tree) (sym split) ∙ e) in (
        (u, e, sym (bytes_are name (label u.node) h.0)),
        (
          t.0,
          t.1 ++ w.1 ∷ [],
          split,
          (λ no. let n : length (t.1 ++ w.1 ∷ []) ≡ 0 = ap length no in omega (arith, length-append t.1 (w.1 ∷ []))),
          fits_match tree before t.0 x.0 x.1 t.3,
        ),
      )
]
