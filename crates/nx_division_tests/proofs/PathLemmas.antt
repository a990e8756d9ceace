-- Tests of paths, of members and of owners.
use Rattle.std.proofs.Common.{◌≡◌, ℕ, ◌+◌, ◌-◌, ◌<◌, ◌≤◌, eqb, leb, ltb, Bool, true, false, ◌&&◌, ◌||◌, if◌then◌else◌, List, [], ◌∷◌, ◌++◌, length, get_or, take, drop, add-one, drop-cons, Option, None, Some, refl, sym, ap, subst, ◌∙◌, arith, length-append, ◌⊎◌, inl, inr}
use Rattle.std.specs.Bool.{Decides, IsTrue}
use Rattle.std.specs.Cmp.Lexicographic.{pointwise, slice_cmp}
use Rattle.std.specs.Option.{option_or}
use Rattle.std.specs.Ordering.{is_lt, nat_cmp, ordering_then}
use Rattle.std.specs.Prelude.{nat_eq}
use Rattle.std.specs.Str.{bytes_eq}
use Rattle.std.specs.declared.cmp.Ordering.{Ordering}
use Rattle.std.specs.declared.cmp.Ordering.TheVariants.{Less, Equal, Greater}
use Rattle.std.proofs.lemmas.Bool.{cases_lt, and_parts, false≢true}
use Rattle.std.proofs.lemmas.Bool.Decides.{Decides-and, Decides-at, Decides-eqb, Decides-like, Decides-ltb, Decides-or, nat_tests, same_from_decides}
use Rattle.std.proofs.lemmas.List.{take_more}
use Rattle.std.proofs.lemmas.Slice.Eq.{bytes_eq-Decides}
use Rattle.nx_tree.specs.Document.{is_empty}
use Rattle.nx_parts.specs.declared.interval.Interval.{Interval}
use Rattle.nx_parts.specs.declared.interval.Interval.TheVariants.{Root, Run}
use Rattle.nx_parts.specs.Order.{ComesBefore, first_member}
use Rattle.nx_parts.specs.Partitioning.{ShareMember, holder, is_child_path, owner}
use Rattle.nx_parts.proofs.OwnerLemmas.{owner-longer, owner-root}
use Rattle.nx_cuts.proofs.FeasibleLemmas.{child_reaches, reaches_child}
use Rattle.nx_division.proofs.SpotLemmas.{take-front}
use Rattle.nx_sketch.specs.Sketch.{Placed}
use Rattle.nx_sketch.specs.Plan.{clusters_down, is_cluster_at, is_prefix}
use Rattle.nx_sketch.specs.Separator.{is_before}
use Rattle.nx_division_tests.specs.Tests.{alone_member, beside_test, same_place, share_test, starts_before}
use Rattle.nx_division_tests.proofs.TestLemmas.{Decides-leb}

pub prefix_test : (p xs : List ℕ) → pointwise nat_eq p (take (length p) xs) ≡ is_prefix p xs
prefix_test [] [] = refl
prefix_test [] (x ∷ xs) = refl
prefix_test (s ∷ p) [] = refl
prefix_test (s ∷ p) (x ∷ xs) = ap (λ b. (nat_eq s x) && b) (prefix_test p xs)

pub prefix_fits : (p xs : List ℕ) → is_prefix p xs ≡ true → length p ≤ length xs
prefix_fits [] xs h = omega arith
prefix_fits (s ∷ p) [] h = absurd (false≢true h)
prefix_fits (s ∷ p) (x ∷ xs) h = let r = prefix_fits p xs (and_parts (eqb s x) (is_prefix p xs) h).1 in omega arith

pub prefix_take : (p xs : List ℕ) → is_prefix p xs ≡ true → take (length p) xs ≡ p
prefix_take [] xs h = refl
prefix_take (s ∷ p) [] h = absurd (false≢true h)
prefix_take (s ∷ p) (x ∷ xs) h =
    let both = and_parts (eqb s x) (is_prefix p xs) h in
    let same : s ≡ x = (Decides-eqb s x).0 both.0 in
    (λ i. sym same i ∷ prefix_take p xs both.1 i)

-- one step more on the way down by cluster edges
pub down_step : (nodes : List Placed) (path : List ℕ) (from : ℕ) → from < length path → clusters_down nodes (take from path) (drop from path) ≡ (is_cluster_at nodes (take (from + 1) path) && clusters_down nodes (take (from + 1) path) (drop (from + 1) path))
down_step nodes path from within =
    let step = get_or path from 0 in
    let rest : drop from path ≡ step ∷ drop (from + 1) path = rw add-one (drop-cons path from 0 within) in
    let front : take from path ++ step ∷ [] ≡ take (from + 1) path = sym (take_more path from 0 within) in
    ap (clusters_down nodes (take from path)) rest ∙ (λ i. is_cluster_at nodes (front i) && clusters_down nodes (front i) (drop (from + 1) path))

-- lists with one more at their ends
nil_snoc : (ys : List ℕ) (y : ℕ) → [] ≡ ys ++ y ∷ [] → ⊥
nil_snoc [] y e = cc
nil_snoc (b ∷ ys) y e = cc

snoc_nil : (ys : List ℕ) (y : ℕ) → ys ++ y ∷ [] ≡ [] → ⊥
snoc_nil ys y e = nil_snoc ys y (sym e)

pub same_ends : (xs ys : List ℕ) (x y : ℕ) → xs ++ x ∷ [] ≡ ys ++ y ∷ [] → (xs ≡ ys) × (x ≡ y)
same_ends [] [] x y e = (refl, cc)
same_ends [] (b ∷ ys) x y e = let f : [] ≡ ys ++ y ∷ [] = cc in absurd (nil_snoc ys y f)
same_ends (a ∷ xs) [] x y e = let f : xs ++ x ∷ [] ≡ [] = cc in absurd (snoc_nil xs x f)
same_ends (a ∷ xs) (b ∷ ys) x y e =
    let f : xs ++ x ∷ [] ≡ ys ++ y ∷ [] = cc in
    let g : a ≡ b = cc in
    let h = same_ends xs ys x y f in (λ i. g i ∷ h.0 i, h.1)

pub end_of : (xs : List ℕ) → (IsTrue (is_empty xs) → ⊥) → (front : List ℕ) × (last : ℕ) × (xs ≡ front ++ last ∷ [])
end_of [] n = absurd (n refl)
end_of (x ∷ []) n = ([], x, refl)
end_of (x ∷ y ∷ xs) n = let r = end_of (y ∷ xs) (λ e. false≢true e) in (x ∷ r.0, r.1, ap (λ l. x ∷ l) r.2)

pub not_empty : (xs : List ℕ) (x : ℕ) → IsTrue (is_empty (xs ++ x ∷ [])) → ⊥
not_empty [] x e = false≢true e
not_empty (a ∷ xs) x e = false≢true e

pub front_of : (xs : List ℕ) (x : ℕ) → take (length (xs ++ x ∷ []) - 1) (xs ++ x ∷ []) ≡ xs
front_of xs x = take-front xs (x ∷ []) (length (xs ++ x ∷ []) - 1) (omega (arith, length-append xs (x ∷ [])))

child_decides : (front parent : List ℕ) (last position : ℕ) → Decides (bytes_eq front parent && eqb last position) (front ++ last ∷ [] ≡ parent ++ position ∷ [])
child_decides front parent last position =
    Decides-like (bytes_eq front parent && eqb last position) (λ h. λ i. h.0 i ++ h.1 i ∷ []) (same_ends front parent last position)
    (Decides-and (bytes_eq front parent) (eqb last position) (bytes_eq-Decides front parent) (Decides-eqb last position))

pub child_test : (path front parent : List ℕ) (last position : ℕ) → path ≡ front ++ last ∷ [] → bytes_eq front parent && eqb last position ≡ bytes_eq path (parent ++ position ∷ [])
child_test path front parent last position e =
    same_from_decides (bytes_eq front parent && eqb last position) (bytes_eq path (parent ++ position ∷ []))
    (Decides-like (bytes_eq front parent && eqb last position) (λ h. e ∙ h) (λ h. sym e ∙ h) (child_decides front parent last position))
    (bytes_eq-Decides path (parent ++ position ∷ []))

pub child_then : {path : List ℕ} (front parent : List ℕ) (last position : ℕ) → path ≡ front ++ last ∷ [] → true ≡ bytes_eq front parent → eqb last position ≡ bytes_eq path (parent ++ position ∷ [])
child_then {path} front parent last position e t = ap (λ b. b && eqb last position) t ∙ child_test path front parent last position e

pub child_else : {path : List ℕ} {r : Bool} (front parent : List ℕ) (last position : ℕ) → path ≡ front ++ last ∷ [] → r ≡ false → r ≡ bytes_eq front parent → r ≡ bytes_eq path (parent ++ position ∷ [])
child_else {path} front parent last position e f g = f ∙ ap (λ b. b && eqb last position) (sym f ∙ g) ∙ child_test path front parent last position e

-- the order of two paths
step_test : (a b : Bool) (o : Ordering) → is_lt (ordering_then (if a then Less else (if b then Equal else Greater)) o) ≡ (a || (b && is_lt o))
step_test true b o = refl
step_test false true o = refl
step_test false false o = refl

pub before_step : (x y : ℕ) (xs ys : List ℕ) → is_before (x ∷ xs) (y ∷ ys) ≡ (ltb x y || (eqb x y && is_before xs ys))
before_step x y xs ys = step_test (ltb x y) (eqb x y) (slice_cmp nat_cmp xs ys)

pub before_decides : (p q : List ℕ) → Decides (is_before p q) (ComesBefore p q)
before_decides [] [] = (λ h. absurd (false≢true h), λ h. absurd h)
before_decides [] (y ∷ ys) = (λ _. tt, λ _. refl)
before_decides (x ∷ xs) [] = (λ h. absurd (false≢true h), λ h. absurd h)
before_decides (x ∷ xs) (y ∷ ys) =
    Decides-at (is_before (x ∷ xs) (y ∷ ys)) (ltb x y || (eqb x y && is_before xs ys)) (before_step x y xs ys)
    (Decides-or (ltb x y) (eqb x y && is_before xs ys) (Decides-ltb x y) (Decides-and (eqb x y) (is_before xs ys) (Decides-eqb x y) (before_decides xs ys)))

or_nothing : (a b : Bool) → (a || (b && false)) ≡ a
or_nothing true b = refl
or_nothing false true = refl
or_nothing false false = refl

or_all : (a b : Bool) → (a || (b && true)) ≡ (a || b)
or_all true b = refl
or_all false true = refl
or_all false false = refl

before_end : (g : ℕ) (ys : List ℕ) → is_before [] (ys ++ g ∷ []) ≡ true
before_end g [] = refl
before_end g (y ∷ ys) = refl

after_end : (f : ℕ) (xs : List ℕ) → is_before (xs ++ f ∷ []) [] ≡ false
after_end f [] = refl
after_end f (x ∷ xs) = refl

le_test : (f s : ℕ) → (ltb f s || eqb f s) ≡ leb f s
le_test f s = grind (arith, nat_tests)

-- two children below the helper; one of it and a deeper one; two deeper ones
pub both_short : (f g : ℕ) → ltb f g ≡ is_before (f ∷ []) (g ∷ [])
both_short f g = sym (before_step f g [] [] ∙ or_nothing (ltb f g) (eqb f g))

pub first_short : (f g s : ℕ) (ys : List ℕ) → leb f s ≡ is_before (f ∷ []) (s ∷ ys ++ g ∷ [])
first_short f g s ys = sym (before_step f s [] (ys ++ g ∷ []) ∙ ap (λ b. ltb f s || (eqb f s && b)) (before_end g ys) ∙ or_all (ltb f s) (eqb f s) ∙ le_test f s)

pub second_short : (f g s : ℕ) (xs : List ℕ) → ltb s g ≡ is_before (s ∷ xs ++ f ∷ []) (g ∷ [])
second_short f g s xs = sym (before_step s g (xs ++ f ∷ []) [] ∙ ap (λ b. ltb s g || (eqb s g && b)) (after_end f xs) ∙ or_nothing (ltb s g) (eqb s g))

-- the path of a child below the helper comes behind that of a deeper one
pub before_short : {parent : List ℕ} (other : List ℕ) (f g s : ℕ) (xs : List ℕ) → parent ≡ s ∷ xs → length other ≡ 0 → ltb s g ≡ is_before (parent ++ f ∷ []) (other ++ g ∷ [])
before_short {parent} [] f g s xs e none = second_short f g s xs ∙ ap (λ p. is_before (p ++ f ∷ []) (g ∷ [])) (sym e)
before_short {parent} (y ∷ other) f g s xs e none = absurd (omega arith)

pub root_first : {one other : Interval} (p : List ℕ) (f l : ℕ) → one ≡ Run p f l → other ≡ Root → false ≡ starts_before one other
root_first p f l e g = sym (after_end f p) ∙ (λ i. starts_before (sym e i) (sym g i))

pub starts_decides : (one other : Interval) → Decides (starts_before one other) (ComesBefore (first_member one) (first_member other))
starts_decides one other = before_decides (first_member one) (first_member other)

-- members
pub no_member : (parent : List ℕ) (f l : ℕ) → is_child_path parent f l [] ≡ false
no_member [] f l = refl
no_member (s ∷ parent) f l = refl

pub member_none : (parent path : List ℕ) (f l : ℕ) → length path ≡ 0 → false ≡ is_child_path parent f l path
member_none parent [] f l e = sym (no_member parent f l)
member_none parent (x ∷ path) f l e = absurd (omega arith)

member_decides : (parent front : List ℕ) (f l x : ℕ) → Decides (bytes_eq front parent && (leb f x && leb x l)) (IsTrue (is_child_path parent f l (front ++ x ∷ [])))
member_decides parent front f l x =
    Decides-like (bytes_eq front parent && (leb f x && leb x l))
    (λ h. subst (λ p. IsTrue (is_child_path parent f l (p ++ x ∷ []))) (sym h.0) (reaches_child parent f l x h.1.0 h.1.1))
    (λ t. let r = child_reaches parent f l (front ++ x ∷ []) t in
    let e = same_ends front parent x r.0 r.1 in
    let low : f ≤ x = (let a = r.2 in let b = e.1 in omega arith) in
    let high : x ≤ l = (let a = r.3 in let b = e.1 in omega arith) in
    (e.0, (low, high)))
    (Decides-and (bytes_eq front parent) (leb f x && leb x l) (bytes_eq-Decides front parent) (Decides-and (leb f x) (leb x l) (Decides-leb f x) (Decides-leb x l)))

pub member_test : (parent front path : List ℕ) (f l x : ℕ) → path ≡ front ++ x ∷ [] → bytes_eq front parent && (leb f x && leb x l) ≡ is_child_path parent f l path
member_test parent front path f l x e =
    same_from_decides (bytes_eq front parent && (leb f x && leb x l)) (is_child_path parent f l (front ++ x ∷ [])) (member_decides parent front f l x) (λ h. h, λ h. h)
    ∙ ap (is_child_path parent f l) (sym e)

pub member_then : {path : List ℕ} {r : Bool} (parent front : List ℕ) (f l x : ℕ) → path ≡ front ++ x ∷ [] → true ≡ bytes_eq front parent → r ≡ (leb f x && leb x l) → r ≡ is_child_path parent f l path
member_then {path} parent front f l x e t h = h ∙ ap (λ b. b && (leb f x && leb x l)) t ∙ member_test parent front path f l x e

pub member_else : {path : List ℕ} {r : Bool} (parent front : List ℕ) (f l x : ℕ) → path ≡ front ++ x ∷ [] → r ≡ false → r ≡ bytes_eq front parent → r ≡ is_child_path parent f l path
member_else {path} parent front f l x e h g = h ∙ ap (λ b. b && (leb f x && leb x l)) (sym h ∙ g) ∙ member_test parent front path f l x e

not_both : (parent path : List ℕ) (f l : ℕ) → IsTrue (is_empty path) → IsTrue (is_child_path parent f l path) → ⊥
not_both parent [] f l e t = false≢true (sym (no_member parent f l) ∙ t)
not_both parent (x ∷ path) f l e t = false≢true e

pub share_decides : (one other : Interval) → Decides (share_test one other) (ShareMember one other)
share_decides Root Root = (λ _. ([], refl, refl), λ _. refl)
share_decides Root (Run q g m) = (λ h. absurd (false≢true h), λ s. absurd (not_both q s.0 g m s.1 s.2))
share_decides (Run p f l) Root = (λ h. absurd (false≢true h), λ s. absurd (not_both p s.0 f l s.2 s.1))
share_decides (Run p f l) (Run q g m) =
    Decides-like (share_test (Run p f l) (Run q g m)) (shared p q f l g m)
    (λ s. let a = child_reaches p f l s.0 s.1 in
    let b = child_reaches q g m s.0 s.2 in
    let e = same_ends p q a.0 b.0 (sym a.1 ∙ b.1) in
    let x : f ≤ m = (let u = a.2 in let v = b.3 in let w = e.1 in omega arith) in
    let y : g ≤ l = (let u = b.2 in let v = a.3 in let w = e.1 in omega arith) in
    let z : f ≤ l = (let u = a.2 in let v = a.3 in omega arith) in
    let t : g ≤ m = (let u = b.2 in let v = b.3 in omega arith) in
    (e.0, (((x, y), z), t)))
    (Decides-and (bytes_eq p q) (leb f m && leb g l && leb f l && leb g m) (bytes_eq-Decides p q)
    (Decides-and (leb f m && leb g l && leb f l) (leb g m) (Decides-and (leb f m && leb g l) (leb f l) (Decides-and (leb f m) (leb g l) (Decides-leb f m) (Decides-leb g l)) (Decides-leb f l)) (Decides-leb g m)))
  where
    shared : (p q : List ℕ) (f l g m : ℕ) → (p ≡ q) × ((((f ≤ m) × (g ≤ l)) × (f ≤ l)) × (g ≤ m)) → ShareMember (Run p f l) (Run q g m)
    shared p q f l g m h =
        let at : (x : ℕ) → f ≤ x → x ≤ l → g ≤ x → x ≤ m → ShareMember (Run p f l) (Run q g m) =
        (λ x a b c d. (p ++ x ∷ [], reaches_child p f l x a b, subst (λ r. IsTrue (is_child_path q g m (r ++ x ∷ []))) (sym h.0) (reaches_child q g m x c d))) in
        let fm = h.1.0.0.0 in let gl = h.1.0.0.1 in let fl = h.1.0.1 in let gm = h.1.1 in
        elim (cases_lt f g) [ inl less ↦ at g (omega arith) gl (omega arith) gm | inr more ↦ at f (omega arith) fl more fm ]

-- the interval of the one member
pub lone_decides : (parent : List ℕ) (position : ℕ) (interval : Interval) → Decides (alone_member (parent ++ position ∷ []) interval) (interval ≡ Run parent position position)
lone_decides parent position Root = (λ h. absurd (false≢true h), λ e. cc)
lone_decides parent position (Run p f l) =
    Decides-like (alone_member (parent ++ position ∷ []) (Run p f l))
    (λ h. let r = child_reaches p f l (parent ++ position ∷ []) h.0 in
    let e = same_ends parent p position r.0 r.1 in
    let a : f ≡ position = (let u = r.2 in let v = r.3 in let w = h.1 in let z = e.1 in omega arith) in
    let b : l ≡ position = (let w = h.1 in omega arith) in
    λ i. Run (sym e.0 i) (a i) (b i))
    (λ e. let a : p ≡ parent = cc in let b : f ≡ position = cc in let c : l ≡ position = cc in
    (subst (λ q. IsTrue (is_child_path q f l (parent ++ position ∷ []))) (sym a) (reaches_child parent f l position (omega arith) (omega arith)), b ∙ sym c))
    (Decides-and (is_child_path p f l (parent ++ position ∷ [])) (eqb f l) (λ h. h, λ h. h) (Decides-eqb f l))

-- owners
pub owner_here : (parts : List Interval) (path : List ℕ) (place : ℕ) → holder parts path ≡ Some place → owner parts path ≡ Some place
owner_here parts path place h = elim (cases_empty path) [ inl e ↦ ap (owner parts) e ∙ owner-root parts ∙ ap (holder parts) (sym e) ∙ h | inr r ↦ ap (owner parts) r.2 ∙ owner-longer parts r.0 r.1 ∙ ap (λ o. option_or o (owner parts r.0)) (ap (holder parts) (sym r.2) ∙ h) ]
  where
    cases_empty : (xs : List ℕ) → (xs ≡ []) ⊎ ((front : List ℕ) × (last : ℕ) × (xs ≡ front ++ last ∷ []))
    cases_empty [] = inl refl
    cases_empty (x ∷ xs) = inr (end_of (x ∷ xs) (λ e. false≢true e))

pub owner_above : (parts : List Interval) (path front : List ℕ) (last : ℕ) → path ≡ front ++ last ∷ [] → holder parts path ≡ None → owner parts path ≡ owner parts front
owner_above parts path front last e h = ap (owner parts) e ∙ owner-longer parts front last ∙ ap (λ o. option_or o (owner parts front)) (ap (holder parts) (sym e) ∙ h)

pub same_place-Decides : (a b : Option ℕ) → Decides (same_place a b) (a ≡ b)
same_place-Decides None None = (λ _. refl, λ _. refl)
same_place-Decides None (Some y) = (λ h. absurd (false≢true h), λ e. cc)
same_place-Decides (Some x) None = (λ h. absurd (false≢true h), λ e. cc)
same_place-Decides (Some x) (Some y) = Decides-like (eqb x y) (λ e. ap Some e) (λ e. cc) (Decides-eqb x y)

-- the second interval begins right behind the first one
abbrev pub AreBeside : Interval → Interval → Type 0
AreBeside one other = (parent : List ℕ) × (first : ℕ) × (last : ℕ) × (end : ℕ) × (one ≡ Run parent first last) × (other ≡ Run parent (last + 1) end)

pub beside_decides : (one other : Interval) → Decides (beside_test one other) (AreBeside one other)
beside_decides Root Root = (λ h. absurd (false≢true h), λ s. let e = s.4 in cc)
beside_decides Root (Run q g m) = (λ h. absurd (false≢true h), λ s. let e = s.4 in cc)
beside_decides (Run p f l) Root = (λ h. absurd (false≢true h), λ s. let e = s.5 in cc)
beside_decides (Run p f l) (Run q g m) =
    Decides-like (beside_test (Run p f l) (Run q g m))
    (λ h. (p, f, l, m, refl, λ i. Run (sym h.0 i) (sym h.1 i) m))
    (λ s. let x = s.4 in let y = s.5 in
    let a : p ≡ s.0 = cc in let b : l ≡ s.2 = cc in let c : q ≡ s.0 = cc in let d : g ≡ s.2 + 1 = cc in
    (a ∙ sym c, ap (λ n. n + 1) b ∙ sym d))
    (Decides-and (bytes_eq p q) (eqb (l + 1) g) (bytes_eq-Decides p q) (Decides-eqb (l + 1) g))
