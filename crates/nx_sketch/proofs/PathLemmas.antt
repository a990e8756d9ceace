-- Which of two paths comes first, and which goes on from which.
use Rattle.std.proofs.Common.{◌≡◌, ◌≢◌, ℕ, ◌<◌, eqb, true, false, ◌&&◌, List, [], ◌∷◌, ◌++◌, refl, ap, ◌∙◌, arith}
use Rattle.std.specs.Cmp.{nat_cmp_total}
use Rattle.std.specs.Cmp.Lexicographic.{slice_cmp}
use Rattle.std.specs.Ordering.{is_lt, nat_cmp, ordering_then}
use Rattle.std.specs.declared.cmp.Ordering.TheVariants.{Less, Equal, Greater}
use Rattle.std.proofs.lemmas.Bool.Decides.{nat_tests}
use Rattle.std.proofs.lemmas.Cmp.{tied_itself}
use Rattle.nx_sketch.specs.Plan.{is_prefix}
use Rattle.nx_sketch.specs.Separator.{is_before}

cmp_less : (a b : ℕ) → a < b → nat_cmp a b ≡ Less
cmp_less a b lt = grind (arith, nat_tests)

cmp_greater : (a b : ℕ) → b < a → nat_cmp a b ≡ Greater
cmp_greater a b lt = grind (arith, nat_tests)

cmp_prefix : (path x y : List ℕ) → slice_cmp nat_cmp (path ++ x) (path ++ y) ≡ slice_cmp nat_cmp x y
cmp_prefix [] x y = refl
cmp_prefix (step ∷ path) x y = ap (λ o. ordering_then o (slice_cmp nat_cmp (path ++ x) (path ++ y))) (tied_itself nat_cmp_total step) ∙ cmp_prefix path x y

same_eqb : (p : ℕ) → eqb p p ≡ true
same_eqb p = grind (arith, nat_tests)

other_eqb : (i p : ℕ) → i ≢ p → eqb i p ≡ false
other_eqb i p n = grind (arith, nat_tests)

prefix_same : (path x y : List ℕ) → is_prefix (path ++ x) (path ++ y) ≡ is_prefix x y
prefix_same [] x y = refl
prefix_same (step ∷ path) x y = ap (λ t. t && is_prefix (path ++ x) (path ++ y)) (same_eqb step) ∙ prefix_same path x y

pub before_less : (path : List ℕ) (a b : ℕ) (r s : List ℕ) → a < b → is_before (path ++ a ∷ r) (path ++ b ∷ s) ≡ true
before_less path a b r s lt = ap is_lt (cmp_prefix path (a ∷ r) (b ∷ s)) ∙ ap (λ o. is_lt (ordering_then o (slice_cmp nat_cmp r s))) (cmp_less a b lt)

pub not_before_less : (path : List ℕ) (a b : ℕ) (r s : List ℕ) → b < a → is_before (path ++ a ∷ r) (path ++ b ∷ s) ≡ false
not_before_less path a b r s lt = ap is_lt (cmp_prefix path (a ∷ r) (b ∷ s)) ∙ ap (λ o. is_lt (ordering_then o (slice_cmp nat_cmp r s))) (cmp_greater a b lt)

pub before_below : (path : List ℕ) (a next : ℕ) (r : List ℕ) → is_before (path ++ a ∷ []) (path ++ a ∷ next ∷ r) ≡ true
before_below path a next r = ap is_lt (cmp_prefix path (a ∷ []) (a ∷ next ∷ r)) ∙ ap (λ o. is_lt (ordering_then o Less)) (tied_itself nat_cmp_total a)

pub not_before_below : (path : List ℕ) (a next : ℕ) (r : List ℕ) → is_before (path ++ a ∷ next ∷ r) (path ++ a ∷ []) ≡ false
not_before_below path a next r = ap is_lt (cmp_prefix path (a ∷ next ∷ r) (a ∷ [])) ∙ ap (λ o. is_lt (ordering_then o Greater)) (tied_itself nat_cmp_total a)

pub not_before_itself : (path : List ℕ) (a : ℕ) → is_before (path ++ a ∷ []) (path ++ a ∷ []) ≡ false
not_before_itself path a = ap is_lt (cmp_prefix path (a ∷ []) (a ∷ [])) ∙ ap (λ o. is_lt (ordering_then o Equal)) (tied_itself nat_cmp_total a)

pub prefix_other : (path : List ℕ) (a b : ℕ) (r s : List ℕ) → a ≢ b → is_prefix (path ++ a ∷ r) (path ++ b ∷ s) ≡ false
prefix_other path a b r s n = prefix_same path (a ∷ r) (b ∷ s) ∙ ap (λ t. t && is_prefix r s) (other_eqb a b n)

pub prefix_below : (path : List ℕ) (a : ℕ) (r : List ℕ) → is_prefix (path ++ a ∷ []) (path ++ a ∷ r) ≡ true
prefix_below path a r = prefix_same path (a ∷ []) (a ∷ r) ∙ ap (λ t. t && true) (same_eqb a)

pub not_prefix_below : (path : List ℕ) (a next : ℕ) (r : List ℕ) → is_prefix (path ++ a ∷ next ∷ r) (path ++ a ∷ []) ≡ false
not_prefix_below path a next r = prefix_same path (a ∷ next ∷ r) (a ∷ []) ∙ ap (λ t. t && false) (same_eqb a)
