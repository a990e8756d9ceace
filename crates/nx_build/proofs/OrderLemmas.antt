-- The same intervals in another order hold the same nodes.
use Rattle.std.proofs.Common.{◌≡◌, ℕ, ◌<◌, true, List, Option, None, Some, length, get_or, inl, inr, sym, ap, ◌∙◌, arith, IsPermutation}
use Rattle.std.specs.Prelude.{◌⊎◌}
use Rattle.std.proofs.lemmas.List.Quantifiers.{position-Some}
use Rattle.std.proofs.lemmas.List.Elements.{Contains-get_or}
use Rattle.std.proofs.lemmas.List.Sorted.{Contains-permutation, IsPermutation-sym}
use Rattle.std.proofs.lemmas.Option.{slice_get-get_or, get_or_from_slice_get}
use Rattle.nx_parts.specs.declared.interval.Interval.{Interval}
use Rattle.nx_parts.specs.declared.interval.Interval.TheVariants.{Root}
use Rattle.nx_parts.specs.Partitioning.{has_member, ShareMember, holder}
use Rattle.nx_parts.proofs.HolderLemmas.{position-None}
use Rattle.nx_cuts.proofs.FeasibleLemmas.{no_truth}
use Rattle.nx_cuts.proofs.WeightLemmas.{AreDistinct, Matches}

less_or : (a b : ℕ) → (a < b) ⊎ ((b < a) ⊎ (a ≡ b))
less_or a b = grind arith

-- intervals that share a member stand at one place
pub one_index : (xs : List Interval) → AreDistinct xs → (i j : ℕ) → i < length xs → j < length xs → ShareMember (get_or xs i Root) (get_or xs j Root) → i ≡ j
one_index xs d i j low high shared =
    elim (less_or i j) [
      | inl less ↦ absurd (d.apart i j Root less high shared)
      | inr more ↦ elim more [ inl less ↦ absurd (d.apart j i Root less low (shared.0, shared.2, shared.1)) | inr same ↦ same ]
    ]

-- where the other list has an interval
place_in : (qs ps : List Interval) → IsPermutation qs ps → (a : ℕ) → a < length qs → (b : ℕ) × (b < length ps) × (get_or qs a Root ≡ get_or ps b Root)
place_in qs ps same a low =
    let x = get_or qs a Root in
    let c = Contains-permutation qs ps x same (Contains-get_or qs a Root low) in
    (c.0, c.1, sym (get_or_from_slice_get ps c.0 (get_or ps c.0 x) Root (slice_get-get_or ps c.0 x c.1) ∙ c.2))

-- an interval of the list that has the path as a member holds it
none_held : (xs : List Interval) (q : List ℕ) (i : ℕ) → i < length xs → has_member (get_or xs i Root) q ≡ true → holder xs q ≡ None → ⊥
none_held xs q i low has none = no_truth (sym (position-None (λ x. has_member x q) xs i (get_or xs i Root) none (slice_get-get_or xs i Root low)) ∙ has)

module _ (qs ps : List Interval) (d : AreDistinct ps) (same : IsPermutation qs ps) (q : List ℕ) where
  pub held_alike : (o r : Option ℕ) → holder qs q ≡ o → holder ps q ≡ r → Matches qs ps o r
  held_alike None None e f = tt
  held_alike None (Some b) e f =
      let there = position-Some (λ x. has_member x q) ps b Root f in
      let here = place_in ps qs (IsPermutation-sym qs ps same) b there.0 in
      none_held qs q here.0 here.1 (ap (λ x. has_member x q) (sym here.2) ∙ there.1) e
  held_alike (Some a) None e f =
      let here = position-Some (λ x. has_member x q) qs a Root e in
      let there = place_in qs ps same a here.0 in
      none_held ps q there.0 there.1 (ap (λ x. has_member x q) (sym there.2) ∙ here.1) f
  held_alike (Some a) (Some b) e f =
      let here = position-Some (λ x. has_member x q) qs a Root e in
      let there = position-Some (λ x. has_member x q) ps b Root f in
      let place = place_in qs ps same a here.0 in
      let one : place.0 ≡ b = one_index ps d place.0 b place.1 there.0 (q, ap (λ x. has_member x q) (sym place.2) ∙ here.1, there.1) in
      (here.0, there.0, place.2 ∙ ap (λ i. get_or ps i Root) one)
