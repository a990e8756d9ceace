-- The lists of the contents of a record and of those below it, by how often a page is their first.
use Rattle.std.proofs.Common.{◌≡◌, ℕ, ◌+◌, ◌≤◌, List, [], ◌∷◌, ◌++◌, Option, None, Some, refl, sym, ap, ◌∙◌, subst, arith, inl, inr}
use Rattle.std.specs.Prelude.{Contains}
use Rattle.std.specs.Option.{option_to_list}
use Rattle.std.proofs.lemmas.List.Elements.{Contains-append_cases}
use Rattle.nx_tree.specs.declared.node.Node.{Node}
use Rattle.nx_holdings.specs.Holdings.{times}
use Rattle.nx_holdings.proofs.DenseLemmas.{among_here}
use Rattle.nx_holdings.proofs.SharedLemmas.{equal_or, some_or}
use Rattle.nx_holdings.proofs.TimesLemmas.{times-append, times_one, times_other, first_or}
use Rattle.nx_piece.specs.declared.piece.Far.{Far}
use Rattle.nx_piece.specs.Contents.{fars_in}
use Rattle.nx_piece.specs.Gapped.{Gapped}
use Rattle.nx_cuts.specs.Cut.{Bare, Grown, Kept}
use Rattle.nx_layouts.specs.Layout.{LaidNode, Layout, shown_with, in_record, piece_body, nodes_in, lists_of, contents_of, AreOnce}
use Rattle.nx_layouts.proofs.NodeLemmas.{lists-append}
use Rattle.nx_layouts.proofs.FillLemmas.{fars-gap_more}
use Rattle.nx_layouts.proofs.PlaceLemmas.{no_place, one_place, first_among, later_among}
use Rattle.nx_rules.specs.Listed.{AreUsedOnce}

abbrev pub firsts_of : List Far → List ℕ
firsts_of [] = []
firsts_of (far ∷ fars) = far.first ∷ firsts_of fars

pub firsts-append : (xs ys : List Far) → firsts_of (xs ++ ys) ≡ firsts_of xs ++ firsts_of ys
firsts-append [] ys = refl
firsts-append (x ∷ xs) ys = ap (λ l. x.first ∷ l) (firsts-append xs ys)

own_first : (node : Node) (list : Option ℕ) → option_to_list list ≡ firsts_of (option_to_list (shown_with node list).far)
own_first node None = refl
own_first node (Some first) = refl

-- how often a page is the first of a content's list of one record
abbrev pub firsts_in : ℕ → Gapped → ℕ
firsts_in x g = times x (firsts_of (fars_in g))

pub firsts_grown : (x : ℕ) (n : LaidNode) (b s : Layout) → firsts_in x (piece_body (Grown n b s)) ≡ times x (option_to_list n.list) + (firsts_in x (piece_body b) + firsts_in x (piece_body s))
firsts_grown x n b s =
    let own : List Far = option_to_list (in_record n).far in
    let fb = fars_in (piece_body b) in
    let fs = fars_in (piece_body s) in
    let a : times x (firsts_of (own ++ (fb ++ fs))) ≡ times x (firsts_of own) + times x (firsts_of (fb ++ fs)) = ap (times x) (firsts-append own (fb ++ fs)) ∙ times-append x (firsts_of own) (firsts_of (fb ++ fs)) in
    let c : times x (firsts_of (fb ++ fs)) ≡ times x (firsts_of fb) + times x (firsts_of fs) = ap (times x) (firsts-append fb fs) ∙ times-append x (firsts_of fb) (firsts_of fs) in
    let d : times x (option_to_list n.list) ≡ times x (firsts_of own) = ap (times x) (own_first n.node n.list) in
    omega (arith, a, c, d)

pub nodes_times : (x : ℕ) (a b : List LaidNode) → times x (lists_of (a ++ b)) ≡ times x (lists_of a) + times x (lists_of b)
nodes_times x a b = ap (times x) (lists-append a b) ∙ times-append x (lists_of a) (lists_of b)

-- Pages that are once among others, and such that don't come twice.

pub times_of : (x : ℕ) (xs : List ℕ) → Contains xs x → 1 ≤ times x xs
times_of x [] among = absurd (no_place x among)
times_of x (y ∷ xs) among =
    elim (Contains-append_cases (y ∷ []) xs x among) [
      | inl here ↦ among_here x y xs (one_place y x here)
      | inr there ↦ (let rest = times_of x xs there in let e = times-append x (y ∷ []) xs in omega (arith, e, rest))
    ]

pub once_of : (xs : List ℕ) → AreUsedOnce xs → AreOnce xs
once_of [] h = tt
once_of (x ∷ xs) h = (
  λ among. (let e = times_one x xs in let one = times_of x xs among in let once = h x in omega (arith, e, one, once)),
  once_of xs (λ p. (let e = times-append p (x ∷ []) xs in let once = h p in omega (arith, e, once))),
)

pub used_once : (xs : List ℕ) → AreOnce xs → AreUsedOnce xs
used_once [] h p = omega arith
used_once (x ∷ xs) h p =
    let rest = used_once xs h.1 p in
    let e = times-append p (x ∷ []) xs in
    elim (equal_or p x) [
      | inl same ↦
          let one : times p (x ∷ []) ≡ 1 = subst (λ (q : ℕ). times q (x ∷ []) ≡ 1) (sym same) (times_one x []) in
          let none : times p xs ≡ 0 = elim (some_or (times p xs)) [
            | inl some ↦ absurd (h.0 (subst (λ (q : ℕ). Contains xs q) same (contains_of p xs some)))
            | inr zero_times ↦ zero_times
          ] in
          omega (arith, e, one, none)
      | inr apart ↦ (let none : times p (x ∷ []) ≡ 0 = times_other p x [] apart in omega (arith, e, none, rest))
    ]
  where
    contains_of : (p : ℕ) (xs : List ℕ) → 1 ≤ times p xs → Contains xs p
    contains_of p [] some = absurd (omega (arith, some))
    contains_of p (y ∷ xs) some =
        elim (first_or p y xs some) [
          | inl same ↦ subst (λ (q : ℕ). Contains (y ∷ xs) q) (sym same) (first_among y xs)
          | inr there ↦ later_among y xs p (contains_of p xs there)
        ]

-- The first pages of the contents of records below.
abbrev pub deeper : Layout → List ℕ
deeper Bare = []
deeper (Grown node below beside) = deeper below ++ deeper beside
deeper (Kept place members beside) = firsts_of (fars_in (piece_body members)) ++ deeper members ++ deeper beside

-- all contents are those of the record itself, and those of records below
pub deep_times : (x : ℕ) (row : Layout) → times x (contents_of row) ≡ firsts_in x (piece_body row) + times x (deeper row)
deep_times x Bare = omega arith
deep_times x (Grown n b s) =
    let below = deep_times x b in
    let beside = deep_times x s in
    let f = firsts_grown x n b s in
    let a : times x (contents_of (Grown n b s)) ≡ times x (option_to_list n.list) + times x (lists_of (nodes_in b ++ nodes_in s)) = times-append x (option_to_list n.list) (lists_of (nodes_in b ++ nodes_in s)) in
    let c = nodes_times x (nodes_in b) (nodes_in s) in
    let d = times-append x (deeper b) (deeper s) in
    omega (arith, below, beside, f, a, c, d)
deep_times x (Kept place m s) =
    let below = deep_times x m in
    let beside = deep_times x s in
    let c = nodes_times x (nodes_in m) (nodes_in s) in
    let own = firsts_of (fars_in (piece_body m)) in
    let d = times-append x (own ++ deeper m) (deeper s) in
    let e = times-append x own (deeper m) in
    let g : firsts_in x (piece_body (Kept place m s)) ≡ firsts_in x (piece_body s) = ap (λ (l : List Far). times x (firsts_of l)) (fars-gap_more (piece_body s)) in
    omega (arith, below, beside, c, d, e, g)
