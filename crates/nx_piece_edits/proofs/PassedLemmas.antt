-- Proxies that a position passes, and what is put among trees and gaps behind others.
use Rattle.std.proofs.Common.{◌≡◌, ℕ, zero, suc, ◌+◌, ◌-◌, ◌<◌, ◌≤◌, nat_le, nat_lt, Bool, true, false, if◌then◌else◌, List, [], ◌∷◌, ◌++◌, Option, None, Some, length, take, drop, refl, sym, ap, ap₂, ◌∙◌, subst, arith, inl, inr}
use Rattle.std.specs.List.{slice_get}
use Rattle.std.proofs.lemmas.Bool.{cases_lt}
use Rattle.std.proofs.lemmas.Bool.Decides.{nat_tests}
use Rattle.std.proofs.lemmas.List.{drop-drop, length-append, length-drop, length-take-le}
use Rattle.std.proofs.lemmas.List.Sums.{sum_by-cons}
use Rattle.nx_piece.specs.declared.piece.Item.{Item}
use Rattle.nx_piece.specs.declared.piece.Item.TheVariants.{Tree, Run}
use Rattle.nx_piece.specs.declared.piece.Proxy.{Proxy}
use Rattle.nx_piece.specs.Gapped.{Gapped, End, Grow, Gap, proxies_in, with_gap}
use Rattle.nx_piece.specs.Items.{gapped_of, with_items}
use Rattle.nx_piece.specs.Valid.{AreApart, HaveRoots}
use Rattle.nx_piece.specs.Locate.{PieceChild, Own, Kept, roots_of, roots_from, kept_from, children_of}
use Rattle.nx_piece.specs.Found.{children_in}
use Rattle.nx_piece.proofs.LocateLemmas.{get_in_front, get_behind, roots_length, root_there, kept_length, ranged_drop, ranged_take}
use Rattle.nx_piece_edits.specs.Shortening.{items_before}
use Rattle.nx_piece_edits.specs.Planting.{passed, put_in_gap, put_at, passed_at}
use Rattle.nx_piece_edits.proofs.LeftLemmas.{less_is, not_less}

le_is : {T : Type 0} (a b : ℕ) (x y : T) → a ≤ b → (if nat_le a b then x else y) ≡ x
le_is a b x y most = let e : nat_le a b ≡ true = grind (arith, nat_tests) in subst (λ (t : Bool). (if t then x else y) ≡ x) (sym e) refl

not_le : {T : Type 0} (a b : ℕ) (x y : T) → b < a → (if nat_le a b then x else y) ≡ y
not_le a b x y more = let e : nat_le a b ≡ false = grind (arith, nat_tests) in subst (λ (t : Bool). (if t then x else y) ≡ y) (sym e) refl

-- Proxies that a position passes:

roots_more : (p : Proxy) (ps : List Proxy) → roots_of (p ∷ ps) ≡ p.roots + roots_of ps
roots_more p ps = let h = sum_by-cons (λ (q : Proxy). q.roots) p ps in omega (arith, h)

-- one that is passed, and one that is not
pub pass_one : (n : ℕ) (p : Proxy) (ps : List Proxy) → p.roots ≤ n → passed n (p ∷ ps) ≡ 1 + passed (n - p.roots) ps
pass_one n p ps most = le_is p.roots n (1 + passed (n - p.roots) ps) 0 most

pub pass_none : (n : ℕ) (p : Proxy) (ps : List Proxy) → n < p.roots → passed n (p ∷ ps) ≡ 0
pass_none n p ps more = not_le p.roots n (1 + passed (n - p.roots) ps) 0 more

-- a position behind all their roots passes them all, and no other does
pub passes_all : (n : ℕ) (ps : List Proxy) → roots_of ps ≤ n → passed n ps ≡ length ps
passes_all n [] most = refl
passes_all n (p ∷ ps) most =
    let sum = roots_more p ps in
    let one = pass_one n p ps (omega (arith, sum, most)) in
    let h = passes_all (n - p.roots) ps (omega (arith, sum, most)) in
    omega (arith, one, h)

pub all_are_passed : (n : ℕ) (ps : List Proxy) → length ps ≤ passed n ps → roots_of ps ≤ n
all_are_passed n [] most = omega arith
all_are_passed n (p ∷ ps) most =
    elim (cases_lt n p.roots) [
      | inl before ↦ let none = pass_none n p ps before in absurd (omega (arith, none, most))
      | inr behind ↦
          let one = pass_one n p ps behind in
          let h = all_are_passed (n - p.roots) ps (omega (arith, one, most)) in
          let sum = roots_more p ps in
          omega (arith, sum, h, behind)
    ]

-- the child at a position that does not pass all of them is a root of the first that it does not pass
pub kept_at : (index n : ℕ) (ps : List Proxy) → passed n ps < length ps → (m : ℕ) × (slice_get (kept_from index ps) n ≡ Some (Kept (index + passed n ps) m))
kept_at index n [] less = absurd (omega (arith, less))
kept_at index n (p ∷ ps) less =
    elim (cases_lt n p.roots) [
      | inl before ↦
          let none = pass_none n p ps before in
          let place : index ≡ index + passed n (p ∷ ps) = omega (arith, none) in
          (0 + n, get_in_front (roots_from index 0 p.roots) (kept_from (index + 1) ps) n (Kept index (0 + n)) (root_there index 0 p.roots n before) ∙ ap (λ (i : ℕ). Some (Kept i (0 + n))) place)
      | inr behind ↦
          let one = pass_one n p ps behind in
          let h = kept_at (index + 1) (n - p.roots) ps (omega (arith, one, less)) in
          let long = roots_length index 0 p.roots in
          let place : n ≡ length (roots_from index 0 p.roots) + (n - p.roots) = omega (arith, long, behind) in
          let next : index + 1 + passed (n - p.roots) ps ≡ index + passed n (p ∷ ps) = omega (arith, one) in (
            h.0,
            ap (slice_get (roots_from index 0 p.roots ++ kept_from (index + 1) ps)) place
                ∙ get_behind (roots_from index 0 p.roots) (kept_from (index + 1) ps) (n - p.roots)
                ∙ h.1
                ∙ ap (λ (i : ℕ). Some (Kept i h.0)) next,
          )
    ]

-- a position that falls between the roots of two proxies passes one of them
pub passes_one : (index n : ℕ) (ps : List Proxy) → 1 ≤ n → 1 ≤ length ps → ((k m : ℕ) → slice_get (kept_from index ps) n ≡ Some (Kept k m) → m ≡ 0) → 1 ≤ passed n ps
passes_one index n [] some there between = absurd (omega (arith, there))
passes_one index n (p ∷ ps) some there between =
    elim (cases_lt n p.roots) [
      | inl before ↦
          let none = between index (0 + n) (get_in_front (roots_from index 0 p.roots) (kept_from (index + 1) ps) n (Kept index (0 + n)) (root_there index 0 p.roots n before)) in
          absurd (omega (arith, none, some))
      | inr behind ↦ let one = pass_one n p ps behind in omega (arith, one)
    ]

-- each proxy has a root
roots_some : (ps : List Proxy) → HaveRoots ps → length ps ≤ roots_of ps
roots_some [] h = omega arith
roots_some (p ∷ ps) h = let sum = roots_more p ps in let r = roots_some ps h.2 in let one : 1 ≤ p.roots = h.0 in omega (arith, sum, r, one)

pub kept_first : (index : ℕ) (ps : List Proxy) → HaveRoots ps → 1 ≤ length ps → slice_get (kept_from index ps) 0 ≡ Some (Kept index 0)
kept_first index [] h some = absurd (omega (arith, some))
kept_first index (p ∷ ps) h some =
    let one : 1 ≤ p.roots = h.0 in
    get_in_front (roots_from index 0 p.roots) (kept_from (index + 1) ps) 0 (Kept index 0) (root_there index 0 p.roots 0 (omega (arith, one)))

-- What is put in a gap or behind it:

put_some : (put : Gapped → Gapped) (n c : ℕ) (s : Gapped) (ps : List Proxy) → 1 ≤ n
    → put_at put n (Gap c s) ps ≡ (if nat_lt (passed n (take c ps)) c then put_in_gap put (passed n (take c ps)) c s else with_gap c (put_at put (n - roots_of (take c ps)) s (drop c ps)))
put_some put zero c s ps some = absurd (omega (arith, some))
put_some put (suc n) c s ps some = refl

pub put_inside : (put : Gapped → Gapped) (n c : ℕ) (s : Gapped) (ps : List Proxy) → 1 ≤ n → passed n (take c ps) < c → put_at put n (Gap c s) ps ≡ put_in_gap put (passed n (take c ps)) c s
put_inside put n c s ps some less =
    put_some put n c s ps some ∙ less_is (passed n (take c ps)) c (put_in_gap put (passed n (take c ps)) c s) (with_gap c (put_at put (n - roots_of (take c ps)) s (drop c ps))) less

pub put_beyond : (put : Gapped → Gapped) (n c : ℕ) (s : Gapped) (ps : List Proxy) → 1 ≤ n → c ≤ passed n (take c ps) → put_at put n (Gap c s) ps ≡ with_gap c (put_at put (n - roots_of (take c ps)) s (drop c ps))
put_beyond put n c s ps some most =
    put_some put n c s ps some ∙ not_less (passed n (take c ps)) c (put_in_gap put (passed n (take c ps)) c s) (with_gap c (put_at put (n - roots_of (take c ps)) s (drop c ps))) most

before_some : (n c : ℕ) (s : Gapped) (ps : List Proxy) → 1 ≤ n
    → passed_at n (Gap c s) ps ≡ (if nat_lt (passed n (take c ps)) c then passed n (take c ps) else c + passed_at (n - roots_of (take c ps)) s (drop c ps))
before_some zero c s ps some = absurd (omega (arith, some))
before_some (suc n) c s ps some = refl

pub before_inside : (n c : ℕ) (s : Gapped) (ps : List Proxy) → 1 ≤ n → passed n (take c ps) < c → passed_at n (Gap c s) ps ≡ passed n (take c ps)
before_inside n c s ps some less =
    before_some n c s ps some ∙ less_is (passed n (take c ps)) c (passed n (take c ps)) (c + passed_at (n - roots_of (take c ps)) s (drop c ps)) less

pub before_beyond : (n c : ℕ) (s : Gapped) (ps : List Proxy) → 1 ≤ n → c ≤ passed n (take c ps) → passed_at n (Gap c s) ps ≡ c + passed_at (n - roots_of (take c ps)) s (drop c ps)
before_beyond n c s ps some most =
    before_some n c s ps some ∙ not_less (passed n (take c ps)) c (passed n (take c ps)) (c + passed_at (n - roots_of (take c ps)) s (drop c ps)) most

-- no more stand before it than there are
pub before_few : (n : ℕ) (f : Gapped) (ps : List Proxy) → passed_at n f ps ≤ proxies_in f
before_few zero f ps = omega arith
before_few (suc n) End ps = omega arith
before_few (suc n) (Grow node b s) ps = let h = before_few n s (drop (proxies_in b) ps) in omega (arith, h)
before_few (suc n) (Gap c s) ps =
    elim (cases_lt (passed (suc n) (take c ps)) c) [
      | inl inside ↦ let e = before_inside (suc n) c s ps (omega arith) inside in omega (arith, e, inside)
      | inr beyond ↦
          let e = before_beyond (suc n) c s ps (omega arith) beyond in
          let h = before_few (suc n - roots_of (take c ps)) s (drop c ps) in
          omega (arith, e, h)
    ]

-- What is put behind items:

pub put_behind : (put : Gapped → Gapped) (items : List Item) (f : Gapped) (ps : List Proxy) (n : ℕ) → AreApart (items_before items f) → HaveRoots ps → proxies_in (gapped_of items) ≤ length ps
    → put_at put (children_in items ps + n) (items_before items f) ps ≡ with_items items (put_at put n f (drop (proxies_in (gapped_of items)) ps))
put_behind put [] f ps n apart ranged fits = ap (λ (k : ℕ). put_at put k f ps) (let q : 0 + n ≡ n = omega arith in q)
put_behind put (Tree t ∷ items) f ps n apart ranged fits =
    let own : ℕ = proxies_in t.below in
    let place : 1 + children_in items (drop own ps) + n ≡ suc (children_in items (drop own ps) + n) = omega arith in
    let long = length-drop own ps in
    ap (λ (k : ℕ). put_at put k (Grow t.node t.below (items_before items f)) ps) place
    ∙ ap (Grow t.node t.below)
    (put_behind put items f (drop own ps) n apart.1 (ranged_drop own ps ranged) (omega (arith, fits, long))
    ∙ ap (λ (qs : List Proxy). with_items items (put_at put n f qs)) (drop-drop (proxies_in (gapped_of items)) own ps))
put_behind put (Run c ∷ items) f ps n apart ranged fits =
    let some : 1 ≤ c = apart.0 in
    let rest : Gapped = items_before items f in
    let all : ℕ = roots_of (take c ps) + children_in items (drop c ps) + n in
    let taken = length-take-le c ps (omega (arith, fits)) in
    let rooted = roots_some (take c ps) (ranged_take c ps ranged) in
    let passes = passes_all all (take c ps) (omega arith) in
    let place : all - roots_of (take c ps) ≡ children_in items (drop c ps) + n = omega arith in
    let long = length-drop c ps in
    put_beyond put all c rest ps (omega (arith, some, taken, rooted)) (omega (arith, passes, taken))
    ∙ ap (λ (k : ℕ). with_gap c (put_at put k rest (drop c ps))) place
    ∙ ap (with_gap c)
    (put_behind put items f (drop c ps) n apart.2 (ranged_drop c ps ranged) (omega (arith, fits, long))
    ∙ ap (λ (qs : List Proxy). with_items items (put_at put n f qs)) (drop-drop (proxies_in (gapped_of items)) c ps))

-- the items stand for as many children as there are
pub children_count : (ps : List Proxy) (first : ℕ) (items : List Item) → length (children_of ps first (gapped_of items)) ≡ children_in items (drop first ps)
children_count ps first [] = refl
children_count ps first (Tree t ∷ items) =
    let h = children_count ps (first + proxies_in t.below) items in
    let d = ap (λ (qs : List Proxy). children_in items qs) (drop-drop (proxies_in t.below) first ps) in
    omega (arith, h, d)
children_count ps first (Run c ∷ items) =
    let h = children_count ps (first + c) items in
    let d = ap (λ (qs : List Proxy). children_in items qs) (drop-drop c first ps) in
    let a = length-append (kept_from first (take c (drop first ps))) (children_of ps (first + c) (gapped_of items)) in
    let k = kept_length first (take c (drop first ps)) in
    omega (arith, h, d, a, k)

-- How many proxies stand before a child:

-- the index of its first proxy, or that behind all
abbrev pub index_at : (all : ℕ) → Option PieceChild → ℕ
index_at all None = all
index_at all (Some (Own tree first)) = first
index_at all (Some (Kept index member)) = index

pub before_is : (ps : List Proxy) (first : ℕ) (f : Gapped) (n : ℕ) → AreApart f → HaveRoots ps → first + proxies_in f ≤ length ps → n ≤ length (children_of ps first f)
    → index_at (first + proxies_in f) (slice_get (children_of ps first f) n) ≡ first + passed_at n f (drop first ps)
before_is ps first End zero apart ranged fits within = omega arith
before_is ps first End (suc n) apart ranged fits within = absurd (omega (arith, within))
before_is ps first (Grow node b s) zero apart ranged fits within = omega arith
before_is ps first (Grow node b s) (suc n) apart ranged fits within =
    let own : ℕ = proxies_in b in
    let h = before_is ps (first + own) s n apart.1 ranged (omega (arith, fits)) (omega (arith, within)) in
    let all : first + (own + proxies_in s) ≡ first + own + proxies_in s = omega arith in
    let a = ap (λ (k : ℕ). index_at k (slice_get (children_of ps (first + own) s) n)) all in
    let d = ap (λ (qs : List Proxy). passed_at n s qs) (drop-drop own first ps) in
    omega (arith, h, a, d)
before_is ps first (Gap c s) zero apart ranged fits within =
    let some : 1 ≤ c = apart.0 in
    let long = length-drop first ps in
    let taken = length-take-le c (drop first ps) (omega (arith, fits, long)) in
    let e = get_in_front (kept_from first (take c (drop first ps))) (children_of ps (first + c) s) 0 (Kept first 0)
    (kept_first first (take c (drop first ps)) (ranged_take c (drop first ps) (ranged_drop first ps ranged)) (omega (arith, some, taken))) in
    let a = ap (index_at (first + (c + proxies_in s))) e in
    omega (arith, a)
before_is ps first (Gap c s) (suc n) apart ranged fits within =
    let own : List Proxy = take c (drop first ps) in
    let long = length-drop first ps in
    let taken = length-take-le c (drop first ps) (omega (arith, fits, long)) in
    elim (cases_lt (passed (suc n) own) c) [
      | inl inside ↦
          let k = kept_at first (suc n) own (omega (arith, inside, taken)) in
          let e = get_in_front (kept_from first own) (children_of ps (first + c) s) (suc n) (Kept (first + passed (suc n) own) k.0) k.1 in
          let a = ap (index_at (first + (c + proxies_in s))) e in
          let b = before_inside (suc n) c s (drop first ps) (omega arith) inside in
          omega (arith, a, b)
      | inr beyond ↦
          let roots = all_are_passed (suc n) own (omega (arith, beyond, taken)) in
          let count = kept_length first own in
          let left : ℕ = suc n - roots_of own in
          let place : suc n ≡ length (kept_from first own) + left = omega (arith, roots, count) in
          let sum = length-append (kept_from first own) (children_of ps (first + c) s) in
          let h = before_is ps (first + c) s left apart.2 ranged (omega (arith, fits)) (omega (arith, within, sum, place)) in
          let all : first + (c + proxies_in s) ≡ first + c + proxies_in s = omega arith in
          let e = ap (slice_get (kept_from first own ++ children_of ps (first + c) s)) place ∙ get_behind (kept_from first own) (children_of ps (first + c) s) left in
          let a = ap₂ (λ (k : ℕ) (o : Option PieceChild). index_at k o) all e in
          let d = ap (λ (qs : List Proxy). passed_at left s qs) (drop-drop c first ps) in
          let b = before_beyond (suc n) c s (drop first ps) (omega arith) beyond in
          omega (arith, h, a, d, b)
    ]
