-- The one part of a layout that weighs more than k, by its index.
use Rattle.std.proofs.Common.{◌≡◌, ℕ, zero, suc, ◌-◌, ◌<◌, ◌≤◌, nat_lt, if◌then◌else◌, true, false, length, Some, inl, inr, subst, arith}
use Rattle.nx_cuts.specs.Cut.{Bare, Grown, Kept}
use Rattle.nx_layouts.specs.Layout.{Layout, without_places, laid_weight, AreLaidParts, proxies_of}
use Rattle.nx_layouts.specs.Replace.{replaced_at, kept_at}
use Rattle.nx_drawn.specs.Growth.{MayBeHeavy, IsHeavyOnce}
use Rattle.nx_drafts.specs.Once.{HeavyIsThere}

-- an interval of a row in which no part is too heavy
light_kept : (k index : ℕ) (row members : Layout) → AreLaidParts k row → kept_at index row ≡ Some members → (laid_weight members ≤ k) × AreLaidParts k members
light_kept k index Bare members h e = cc
light_kept k index (Grown n b s) members h e =
    (elim (nat_lt index (length (proxies_of b))) as (λ t. (if t then kept_at index b else kept_at (index - length (proxies_of b)) s) ≡ Some members → (laid_weight members ≤ k) × AreLaidParts k members) [
      | true ↦ λ f. light_kept k index b members h.0 f
      | false ↦ λ f. light_kept k (index - length (proxies_of b)) s members h.1 f
    ]) e
light_kept k zero (Kept r m s) members h e = let same : m ≡ members = cc in subst (λ (l : Layout). (laid_weight l ≤ k) × AreLaidParts k l) same (h.2, h.3)
light_kept k (suc index) (Kept r m s) members h e = light_kept k index s members h.4 e

module _ (k limit wide : ℕ) where
  -- what is told of an interval, where this is the row without it
  abbrev Told : (hole members : Layout) → Type 0
  Told hole members = (k < laid_weight members → AreLaidParts k hole × MayBeHeavy k limit wide (without_places members)) × (laid_weight members ≤ k → (AreLaidParts k members → ⊥) → AreLaidParts k hole × IsHeavyOnce k limit wide (without_places members))

  -- where an interval is light with all below it, it isn't the one
  not_light : (hole members : Layout) → (laid_weight members ≤ k) × AreLaidParts k members → Told hole members
  not_light hole members light = (λ heavy. let le = light.0 in absurd (omega (arith, heavy, le)), λ own not. absurd (not light.1))

  -- what stands beside it is light
  told_beside : (hole more members : Layout) → (AreLaidParts k hole → AreLaidParts k more) → Told hole members → Told more members
  told_beside hole more members beside told = (λ heavy. let r = told.0 heavy in (beside r.0, r.1), λ own not. let r = told.1 own not in (beside r.0, r.1))

  there : (index : ℕ) (row members : Layout) → IsHeavyOnce k limit wide (without_places row) → kept_at index row ≡ Some members → Told (replaced_at index Bare row) members
  there index Bare members h e = cc
  there index (Grown n b s) members h e =
      (elim (nat_lt index (length (proxies_of b))) as (λ t. (if t then kept_at index b else kept_at (index - length (proxies_of b)) s) ≡ Some members
      → Told (if t then Grown n (replaced_at index Bare b) s else Grown n b (replaced_at (index - length (proxies_of b)) Bare s)) members) [
        | true ↦ λ f. elim h [
          | inl x ↦ told_beside (replaced_at index Bare b) (Grown n (replaced_at index Bare b) s) members (λ p. (p, x.1)) (there index b members x.0 f)
          | inr x ↦ not_light (Grown n (replaced_at index Bare b) s) members (light_kept k index b members x.0 f)
        ]
        | false ↦ λ f. elim h [
          | inl x ↦ not_light (Grown n b (replaced_at (index - length (proxies_of b)) Bare s)) members (light_kept k (index - length (proxies_of b)) s members x.1 f)
          | inr x ↦ told_beside (replaced_at (index - length (proxies_of b)) Bare s) (Grown n b (replaced_at (index - length (proxies_of b)) Bare s)) members (λ p. (x.0, p)) (there (index - length (proxies_of b)) s members x.1 f)
        ]
      ]) e
  there zero (Kept r m s) members h e =
      let same : m ≡ members = cc in
      subst (Told s) same
      (elim h [
        | inl x ↦ (λ heavy. (x.1, x.0), λ own not. absurd (not (x.0).parts))
        | inr x ↦ elim x.3 [
          | inl y ↦ (λ heavy. let le = x.2 in absurd (omega (arith, heavy, le)), λ own not. (y.1, y.0))
          | inr y ↦ not_light s m (x.2, y.0)
        ]
      ])
  there (suc index) (Kept r m s) members h e =
      elim h [
        | inl x ↦ not_light (Kept r m (replaced_at index Bare s)) members (light_kept k index s members x.1 e)
        | inr x ↦ elim x.3 [
          | inl y ↦ not_light (Kept r m (replaced_at index Bare s)) members (light_kept k index s members y.1 e)
          | inr y ↦ told_beside (replaced_at index Bare s) (Kept r m (replaced_at index Bare s)) members (λ p. (x.0, x.1, x.2, y.0, p)) (there index s members y.1 e)
        ]
      ]

pub heavy_is_there : HeavyIsThere
heavy_is_there k limit wide index row members h e = let r = there k limit wide index row members h e in record { here = r.0; below = r.1 }
