-- Bytes in place of others, and back.
use Rattle.std.proofs.Common.{◌≡◌, ◌⊎◌, inl, inr, ℕ, ◌+◌, ◌-◌, ◌<◌, ◌≤◌, List, ◌++◌, length, take, drop, get_or, min, max, refl, ap, ◌∙◌, arith, length-append, replicate}
use Rattle.std.proofs.lemmas.Bool.{cases_lt}
use Rattle.std.proofs.lemmas.List.{length-take, length-drop, length-replicate, get_or-take, get_or-drop, get_or_append_left, get_or-append_right, ext_get_or}
use Rattle.nx_host.specs.Disk.{Written}
use Rattle.nx_host.proofs.TornLemmas.{written_at, written_by}
use Rattle.nx_memory.specs.History.{spliced, covers}

module _ (at : ℕ) (bytes list : List ℕ) (fits : at + length bytes ≤ length list) where
  front_long : length (take at list) ≡ at
  front_long = length-take at list ∙ (let h : min at (length list) ≡ at = omega (arith, fits) in h)

  pub spliced_long : length (spliced at bytes list) ≡ length list
  spliced_long =
      let outer : length (spliced at bytes list) ≡ length (take at list) + length (bytes ++ drop (at + length bytes) list) = length-append (take at list) (bytes ++ drop (at + length bytes) list) in
      let inner : length (bytes ++ drop (at + length bytes) list) ≡ length bytes + length (drop (at + length bytes) list) = length-append bytes (drop (at + length bytes) list) in
      let rest : length (drop (at + length bytes) list) ≡ length list - (at + length bytes) = length-drop (at + length bytes) list in
      omega (arith, outer, inner, rest, front_long, fits)

  behind : (i : ℕ) → at ≤ i → get_or (spliced at bytes list) i 0 ≡ get_or (bytes ++ drop (at + length bytes) list) (i - at) 0
  behind i above = get_or-append_right (take at list) (bytes ++ drop (at + length bytes) list) at i 0 front_long above

  pub spliced_here : (i : ℕ) → at ≤ i → i < at + length bytes → get_or (spliced at bytes list) i 0 ≡ get_or bytes (i - at) 0
  spliced_here i above below = behind i above ∙ get_or_append_left bytes (drop (at + length bytes) list) 0 (i - at) (omega (arith, above, below))

  pub spliced_off : (i : ℕ) → (i < at) ⊎ (at + length bytes ≤ i) → get_or (spliced at bytes list) i 0 ≡ get_or list i 0
  spliced_off i (inl below) =
      get_or_append_left (take at list) (bytes ++ drop (at + length bytes) list) 0 i (omega (arith, front_long, below)) ∙ get_or-take at list i 0 below
  spliced_off i (inr above) =
      behind i (omega (arith, above))
      ∙ get_or-append_right bytes (drop (at + length bytes) list) (length bytes) (i - at) 0 refl (omega (arith, above))
      ∙ get_or-drop (at + length bytes) list (i - at - length bytes) 0
      ∙ ap (λ (j : ℕ). get_or list j 0) (let h : at + length bytes + (i - at - length bytes) ≡ i = omega (arith, above) in h)

-- bytes that are put into an area which was made long enough are written
pub written_over : (at k : ℕ) (bytes old : List ℕ) → length old + k ≡ max (length old) (at + length bytes) → Written at bytes old (spliced at bytes (old ++ replicate k 0))
written_over at k bytes old size =
    let grown = old ++ replicate k 0 in
    let long : length grown ≡ length old + k = length-append old (replicate k 0) ∙ ap (λ (n : ℕ). length old + n) (length-replicate k 0) in
    let fits : at + length bytes ≤ length grown = omega (arith, long, size) in
    written_by at bytes old (spliced at bytes grown) (spliced_long at bytes grown fits ∙ long ∙ size)
    (λ i within outside. spliced_off at bytes grown fits i outside ∙ get_or_append_left old (replicate k 0) 0 i within)
    (λ i within. spliced_here at bytes grown fits (at + i) (omega arith) (omega (arith, within)) ∙ ap (λ (j : ℕ). get_or bytes j 0) (let h : at + i - at ≡ i = omega arith in h))

-- The bytes that a write covered, put back.
module _ (at : ℕ) (bytes old new : List ℕ) (written : Written at bytes old new) where
  count : ℕ
  count = covers at (length bytes) (length old)

  had : List ℕ
  had = take count (drop at old)

  had_long : length had ≡ count
  unfolding count had
  had_long = let dropped : length (drop at old) ≡ length old - at = length-drop at old in let cut : length had ≡ min count (length (drop at old)) = length-take count (drop at old) in omega (arith, dropped, cut)

  fits : at + length had ≤ length new
  unfolding count
  fits = let long : length new ≡ max (length old) (at + length bytes) = written.long in omega (arith, had_long, long)

  back : (i : ℕ) → i < length old → get_or (spliced at had new) i 0 ≡ get_or old i 0
  unfolding count had
  back i within = elim (cases_lt i at) [
    | inl below ↦ spliced_off at had new fits i (inl below) ∙ written_at written i (inl (below, within))
    | inr above ↦ elim (cases_lt (i - at) count) [
      | inl here ↦
          spliced_here at had new fits i above (omega (arith, had_long, here, above))
          ∙ get_or-take count (drop at old) (i - at) 0 here
          ∙ get_or-drop at old (i - at) 0
          ∙ ap (λ (j : ℕ). get_or old j 0) (let h : at + (i - at) ≡ i = omega (arith, above) in h)
      | inr there ↦
          spliced_off at had new fits i (inr (omega (arith, had_long, there, above)))
          ∙ written_at written i (inr (omega (arith, there, above, within)))
    ]
  ]

  pub put_back : take (length old) (spliced at (take (covers at (length bytes) (length old)) (drop at old)) new) ≡ old
  unfolding count had
  put_back =
      let whole : length (spliced at had new) ≡ length new = spliced_long at had new fits in
      let long : length new ≡ max (length old) (at + length bytes) = written.long in
      let cut : length (take (length old) (spliced at had new)) ≡ min (length old) (length (spliced at had new)) = length-take (length old) (spliced at had new) in
      ext_get_or 0 (take (length old) (spliced at had new)) old (omega (arith, whole, long, cut))
      (λ i within. get_or-take (length old) (spliced at had new) i 0 (omega (arith, within, cut)) ∙ back i (omega (arith, within, cut)))
