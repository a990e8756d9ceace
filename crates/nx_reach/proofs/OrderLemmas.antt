-- Paths in document order: a walk finds them so, and there is one list of given paths in this order.
use Rattle.std.proofs.Common.{◌≡◌, ℕ, zero, suc, ◌+◌, ◌<◌, Bool, true, false, inl, inr, List, [], ◌∷◌, ◌++◌, length, get_or, refl, sym, ap, ◌∙◌, subst, arith}
use Rattle.std.specs.List.{AllPairs}
use Rattle.std.specs.Prelude.{if◌then◌else◌, Contains}
use Rattle.std.proofs.lemmas.List.Elements.{Contains-append_cases}
use Rattle.std.proofs.lemmas.List.Kept.{AllPairs-cons}
use Rattle.nx_lists.proofs.ListLemmas.{contains_here, contains_there, contains_parts}
use Rattle.nx_tree.specs.Forest.{Forest, Empty, Plant}
use Rattle.nx_matrix.specs.Label.{label}
use Rattle.nx_reach.specs.declared.step.Step.{Step}
use Rattle.nx_parts.specs.Order.{ComesBefore}
use Rattle.nx_reach.specs.Fit.{fits, turned, found_in}
use Rattle.nx_reach.proofs.MemberLemmas.{IsReached, no_member, only_one, through, sound}

-- each path comes before all those behind it
abbrev pub AreInDocumentOrder : List (List ℕ) → Type 0
AreInDocumentOrder [] = Unit {0}
AreInDocumentOrder (path ∷ paths) = ((later : List ℕ) → Contains paths later → ComesBefore path later) × AreInDocumentOrder paths

-- ... is the same as each of two before the later one
any_default : {X : Type 0} (xs : List X) (k : ℕ) (d e : X) → k < length xs → get_or xs k d ≡ get_or xs k e
any_default [] k d e h = absurd (omega arith)
any_default (x ∷ xs) zero d e h = refl
any_default (x ∷ xs) (suc k) d e h = any_default xs k d e (omega arith)

pub order_pairs : (xs : List (List ℕ)) → AreInDocumentOrder xs → AllPairs ComesBefore xs
order_pairs [] order = λ i j d before within. absurd (omega arith)
order_pairs (x ∷ xs) order = AllPairs-cons ComesBefore x xs (λ k d h. order.0 (get_or xs k d) (k, h, any_default xs k (get_or xs k d) d h)) (order_pairs xs order.1)

pub pairs_order : (xs : List (List ℕ)) → AllPairs ComesBefore xs → AreInDocumentOrder xs
pairs_order [] pairs = tt
pairs_order (x ∷ xs) pairs = (
  λ later c. subst (ComesBefore x) c.2 (let n : suc c.0 < length (x ∷ xs) = (let h : c.0 < length xs = c.1 in omega arith) in pairs 0 (suc c.0) later (omega arith) n),
  pairs_order xs (λ i j d before within. pairs (suc i) (suc j) d (omega arith) (omega arith)),
)

pub before_behind : (path a b : List ℕ) → ComesBefore a b → ComesBefore (path ++ a) (path ++ b)
before_behind [] a b h = h
before_behind (k ∷ path) a b h = inr (refl, before_behind path a b h)

pub never_both : (a b : List ℕ) → ComesBefore a b → ComesBefore b a → ⊥
never_both [] [] h g = h
never_both [] (k ∷ b) h g = g
never_both (j ∷ a) [] h g = h
never_both (j ∷ a) (k ∷ b) h g = elim h [
  | inl less ↦ elim g [ inl more ↦ (omega arith) | inr same ↦ (let e : k ≡ j = same.0 in omega arith) ]
  | inr same ↦ elim g [ inl more ↦ (let e : j ≡ k = same.0 in omega arith) | inr also ↦ never_both a b same.1 also.1 ]
]

pub order_append : (xs ys : List (List ℕ)) → AreInDocumentOrder xs → AreInDocumentOrder ys → ((x y : List ℕ) → Contains xs x → Contains ys y → ComesBefore x y) → AreInDocumentOrder (xs ++ ys)
order_append [] ys first second cross = second
order_append (x ∷ xs) ys first second cross = (
  λ later h. elim (Contains-append_cases xs ys later h) [
    | inl a ↦ first.0 later a
    | inr b ↦ cross x later (contains_here x xs x refl) b
  ],
  order_append xs ys first.1 second (λ a b in_xs in_ys. cross a b (contains_there x xs a in_xs) in_ys),
)

pub one_ordered : (b : Bool) (p : List ℕ) → AreInDocumentOrder (if b then p ∷ [] else [])
one_ordered true p = (λ later h. absurd (no_member later h), tt)
one_ordered false p = tt

pub found_ordered : (steps : List Step) (labels : List (List ℕ)) (path : List ℕ) (k : ℕ) (forest : Forest) → AreInDocumentOrder (found_in steps labels path k forest)
found_ordered steps labels path k Empty = tt
found_ordered steps labels path k (Plant node below beside) =
    let b : Bool = fits (turned [] steps) (label node ∷ labels) in
    let under : List (List ℕ) = found_in steps (label node ∷ labels) (path ++ k ∷ []) 0 below in
    let after : List (List ℕ) = found_in steps labels path (suc k) beside in
    order_append (if b then (path ++ k ∷ []) ∷ [] else []) (under ++ after) (one_ordered b (path ++ k ∷ []))
    (order_append under after (found_ordered steps (label node ∷ labels) (path ++ k ∷ []) 0 below) (found_ordered steps labels path (suc k) beside) between)
    (λ x y in_x in_y. elim (Contains-append_cases under after y in_y) [
      | inl u ↦ first x y (only_one b (path ++ k ∷ []) x in_x).1 (sound steps (label node ∷ labels) (path ++ k ∷ []) 0 below y u)
      | inr a ↦ last x y (only_one b (path ++ k ∷ []) x in_x).1 (sound steps labels path (suc k) beside y a)
    ])
  where
    first : (x y : List ℕ) → x ≡ path ++ k ∷ [] → IsReached steps (label node ∷ labels) (path ++ k ∷ []) 0 below y → ComesBefore x y
    first x y is r = subst (λ (p : List ℕ). ComesBefore p y) (sym is) (subst (λ (p : List ℕ). ComesBefore (path ++ k ∷ []) p) (sym (through path k ((0 + r.0) ∷ r.1) y r.3))
        (before_behind path (k ∷ []) (k ∷ (0 + r.0) ∷ r.1) (inr (refl, tt))))

    last : (x y : List ℕ) → x ≡ path ++ k ∷ [] → IsReached steps labels path (suc k) beside y → ComesBefore x y
    last x y is r = subst (λ (p : List ℕ). ComesBefore p y) (sym is) (subst (λ (p : List ℕ). ComesBefore (path ++ k ∷ []) p) (sym r.3)
        (before_behind path (k ∷ []) ((suc k + r.0) ∷ r.1) (inl (omega arith))))

    between : (x y : List ℕ) → Contains (found_in steps (label node ∷ labels) (path ++ k ∷ []) 0 below) x → Contains (found_in steps labels path (suc k) beside) y → ComesBefore x y
    between x y in_x in_y =
        let r : IsReached steps (label node ∷ labels) (path ++ k ∷ []) 0 below x = sound steps (label node ∷ labels) (path ++ k ∷ []) 0 below x in_x in
        let s : IsReached steps labels path (suc k) beside y = sound steps labels path (suc k) beside y in_y in
        subst (λ (p : List ℕ). ComesBefore p y) (sym (through path k ((0 + r.0) ∷ r.1) x r.3))
        (subst (λ (p : List ℕ). ComesBefore (path ++ k ∷ (0 + r.0) ∷ r.1) p) (sym s.3)
        (before_behind path (k ∷ (0 + r.0) ∷ r.1) ((suc k + s.0) ∷ s.1) (inl (omega arith))))

-- two lists in document order that contain the same are one
pub one_order : (xs ys : List (List ℕ)) → AreInDocumentOrder xs → AreInDocumentOrder ys → ((p : List ℕ) → Contains xs p → Contains ys p) → ((p : List ℕ) → Contains ys p → Contains xs p) → xs ≡ ys
one_order [] [] first second there back = refl
one_order [] (y ∷ ys) first second there back = absurd (no_member y (back y (contains_here y ys y refl)))
one_order (x ∷ xs) [] first second there back = absurd (no_member x (there x (contains_here x xs x refl)))
one_order (x ∷ xs) (y ∷ ys) first second there back =
    let same : x ≡ y = elim (contains_parts y ys x (there x (contains_here x xs x refl))) [
      | inl e ↦ sym e
      | inr in_ys ↦ elim (contains_parts x xs y (back y (contains_here y ys y refl))) [
        | inl e ↦ e
        | inr in_xs ↦ absurd (never_both y x (second.0 x in_ys) (first.0 y in_xs))
      ]
    ] in
    let rest : xs ≡ ys = one_order xs ys first.1 second.1
    (λ p h. elim (contains_parts y ys p (there p (contains_there x xs p h))) [
      | inl e ↦ absurd (let g : ComesBefore x x = subst (λ (q : List ℕ). ComesBefore x q) (sym e ∙ sym same) (first.0 p h) in never_both x x g g)
      | inr in_ys ↦ in_ys
    ])
    (λ p h. elim (contains_parts x xs p (back p (contains_there y ys p h))) [
      | inl e ↦ absurd (let g : ComesBefore y y = subst (λ (q : List ℕ). ComesBefore y q) (sym e ∙ same) (second.0 p h) in never_both y y g g)
      | inr in_xs ↦ in_xs
    ]) in
    ap (λ (z : List ℕ). z ∷ xs) same ∙ ap (λ (zs : List (List ℕ)). y ∷ zs) rest
