-- Which pages a disk lost whose pages area has none.
use Rattle.std.proofs.Common.{◌≡◌, ◌⊎◌, ℕ, ◌+◌, ◌*◌, ◌<◌, ◌≤◌, List, length, take, drop, refl, sym, ap, subst, ◌∙◌, arith, inl, inr}
use Rattle.std.specs.Prelude.{Option, Some, None, IsSome, IfSome, IfNone, ◌↔◌}
use Rattle.std.specs.Option.{option_or}
use Rattle.std.specs.BTreeMap.{get}
use Rattle.std.specs.Ordering.{nat_cmp}
use Rattle.nx_host.specs.Disk.{Image}
use Rattle.nx_replay.specs.Log.{groups, logged, pages_of, replay}
use Rattle.nx_replay.proofs.ReplayLemmas.{option_or-left, page-cases}
use Rattle.nx_wal.specs.Places.{Places, page_at_place, LeadsTo}
use Rattle.nx_wal.specs.Lost.{IsFirstLost, LosesNone, Loses, IsPlaced, IsFirstUnplaced}
use Rattle.nx_wal.proofs.ReadingLemmas.{no_place}

pub below_or_last : (p n : ℕ) → p < n + 1 → (p < n) ⊎ (p ≡ n)
below_or_last p n low = grind arith

module _ (was : Image) (places : Places) (leads : LeadsTo (groups was.log) places was.log) where
  -- a page that has a place is there
  placed_there : (p : ℕ) → IsPlaced places p → IsSome (replay was p)
  placed_there p placed =
      let stands : logged (groups was.log) p ≡ Some (take 8192 (drop placed.at was.log)) = leads p ∙ ap (λ (o : Option (Option ℕ)). page_at_place o was.log) placed.there in
      option_or-left (logged (groups was.log) p) (pages_of was.pages p) (subst (λ (o : Option (List ℕ)). IsSome o) (sym stands) refl)

  -- one that has none isn't, where the area has no page
  unplaced_lacks : length was.pages < 8192 → (p : ℕ) → (IsPlaced places p → ⊥) → replay was p ≡ None
  unplaced_lacks area p lacks =
      let none : logged (groups was.log) p ≡ None = leads p ∙ no_place (get nat_cmp places p) was.log (λ at is. lacks (record { at = at; there = is })) in
      ap (λ (o : Option (List ℕ)). option_or o (pages_of was.pages p)) none
      ∙ elim (page-cases was.pages p) [ inl there ↦ absurd (let fits : 8192 * p + 8192 ≤ length was.pages = there.1 in omega (arith, fits, area)) | inr lost ↦ lost ]

  first_lost : length was.pages < 8192 → (page below : ℕ) → IsFirstUnplaced places page below → IsFirstLost page below was
  first_lost area page below first = record {
    area = area;
    low = first.low;
    lacks = unplaced_lacks area page first.lacks;
    each = λ p low. placed_there p (first.each p low);
  }

  none_lost : (below : ℕ) → ((p : ℕ) → p < below → IsPlaced places p) → LosesNone below was
  none_lost below each = λ area p low. placed_there p (each p low)

  pub lost_or_none : length was.pages < 8192 → (below : ℕ) (first : Option ℕ) → IfSome first (λ page. IsFirstUnplaced places page below) → IfNone first ((p : ℕ) → p < below → IsPlaced places p)
      → Loses first below was
  lost_or_none area below (Some page) some none = first_lost area page below some
  lost_or_none area below None some none = none_lost below none

-- where the area has a page, none is lost
pub none_asked : (was : Image) (count below : ℕ) → ((p : ℕ) → (p < count) ↔ ((p < 16777216) × (8192 * p + 8192 ≤ length was.pages))) → 0 < count → LosesNone below was
none_asked was count below counted some = λ area p low. absurd (let fits : 8192 * 0 + 8192 ≤ length was.pages = ((counted 0).0 some).1 in omega (arith, fits, area))
