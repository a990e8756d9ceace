-- A scan over bytes for one that passes a test.
use Rattle.std.proofs.Common.{◌≡◌, ℕ, ◌+◌, Bool, false, List, take, drop, sym, ap, ◌∙◌}
use Rattle.std.specs.List.{list_any}
use Rattle.std.proofs.Math.Seq.{take-add}
use Rattle.std.proofs.lemmas.Bool.{or_from}
use Rattle.std.proofs.lemmas.List.Folds.{list_any-append}

-- none of the first n bytes passes, and none of the next ones
pub none-more : (test : ℕ → Bool) (bs : List ℕ) (n m k : ℕ) → list_any test (take n bs) ≡ false → m ≡ k → list_any test (take m (drop n bs)) ≡ false →
    list_any test (take (n + k) bs) ≡ false
none-more test bs n m k p e q =
    ap (list_any test) (take-add n k bs)
    ∙ list_any-append test (take n bs) (take k (drop n bs))
    ∙ or_from _ _ p (ap (λ i. list_any test (take i (drop n bs))) (sym e) ∙ q)
