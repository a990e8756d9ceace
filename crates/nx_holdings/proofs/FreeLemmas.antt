-- Free pages, by their bytes.
use Rattle.std.proofs.Common.{◌≡◌, ℕ, ◌<◌, ◌^◌, List, [], ◌∷◌, ◌++◌, take, refl, sym, ap, ◌∙◌, arith}
use Rattle.std.proofs.Math.ListN.{replicate}
use Rattle.std.proofs.lemmas.List.{drop-replicate}
use Rattle.nx_numbers.specs.Numbers.{number_at, number_bytes, with_number}
use Rattle.nx_numbers.proofs.Numbers.{number_at-number_bytes}
use Rattle.nx_holdings.specs.Free.{IsFreePage}
use Rattle.nx_holdings.specs.Holdings.{free_bytes}

pub free_made : (next : ℕ) → with_number 4 (replicate 8192 0) 4 next ≡ free_bytes next
unfolding free_bytes
free_made next = ap (λ (r : List ℕ). take 4 (replicate 8192 0) ++ (number_bytes 4 next ++ r)) (drop-replicate 8 8192 0)

-- a free page says its next page
pub free_says : (bytes : List ℕ) (next : ℕ) → IsFreePage bytes next → number_at 4 bytes 4 ≡ next
unfolding free_bytes
free_says bytes next is =
    let low : next < 2 ^ 32 = is.low in
    ap (λ (r : List ℕ). number_at 4 r 4) is.are ∙ number_at-number_bytes 4 next 4 (0 ∷ 0 ∷ 0 ∷ 0 ∷ []) (replicate 8184 0) refl (omega arith)

-- the same page has one next page
pub free_one : (one other : ℕ) → one < 2 ^ 32 → other < 2 ^ 32 → free_bytes one ≡ free_bytes other → one ≡ other
free_one one other low low_too same =
    sym (free_says (free_bytes one) one (record { are = refl; low = low })) ∙ free_says (free_bytes one) other (record { are = same; low = low_too })
