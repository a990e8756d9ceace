-- The lines of intervals, one after the other.
use Rattle.std.proofs.Common.{◌≡◌, ℕ, ◌+◌, ◌<◌, min, List, [], ◌∷◌, ◌++◌, length, take, get_or, sym, ap, ◌∙◌, append_assoc, arith}
use Rattle.std.specs.List.{flat_map, zip}
use Rattle.std.proofs.lemmas.List.{flat_map_more, take_more, take_all}
use Rattle.std.proofs.lemmas.Slice.Zip.{length-zip, get_or-zip}
use Rattle.nx_parts.specs.declared.interval.Interval.{Interval}
use Rattle.nx_script.specs.Reply.{interval_line}

module _ (parts : List Interval) (weights : List ℕ) where
  -- the lines of so many intervals stand behind what there was
  abbrev pub HasParts : List ℕ → List ℕ → ℕ → Type 0
  HasParts old block n = block ≡ old ++ flat_map interval_line (take n (zip parts weights))

  -- of one more, which stands there with its weight
  pub parts_more : (old block more : List ℕ) (n : ℕ) (interval : Interval) (weight : ℕ) → (n < length parts) × (interval ≡ get_or parts n interval) →
      (n < length weights) × (weight ≡ get_or weights n weight) → HasParts old block n → more ≡ block ++ interval_line (interval, weight) → HasParts old more (n + 1)
  parts_more old block more n interval weight (inside, is) (within, weighs) has pushed =
      let pairs = zip parts weights in
      let paired : n < length pairs = (let e = length-zip parts weights in omega (arith, e, inside, within)) in
      let one : get_or pairs n (interval, weight) ≡ (interval, weight) =
      get_or-zip parts weights n (interval, weight) inside within ∙ sym (ap (λ i. (i, weight)) is ∙ ap (λ w. (get_or parts n interval, w)) weighs) in
      pushed
      ∙ ap (λ b. b ++ interval_line (interval, weight)) has
      ∙ flat_map_more interval_line old (take n pairs) (interval, weight)
      ∙ sym (ap (λ ps. old ++ flat_map interval_line ps) (take_more pairs n (interval, weight) paired ∙ ap (λ p. take n pairs ++ p ∷ []) one))

  -- of all of them, and what is put behind them
  pub parts_ended : (old block back : List ℕ) (n : ℕ) → n ≡ min (length parts) (length weights) → HasParts old block n →
      block ++ back ≡ old ++ (flat_map interval_line (zip parts weights) ++ back)
  parts_ended old block back n all has =
      let pairs = zip parts weights in
      let whole : take n pairs ≡ pairs = take_all n pairs (let e = length-zip parts weights in omega (arith, e, all)) in
      ap (λ b. b ++ back) (has ∙ ap (λ ps. old ++ flat_map interval_line ps) whole) ∙ append_assoc old (flat_map interval_line pairs) back
