-- Whether a disk has a page, and which is the greatest.
use Rattle.std.proofs.Common.{◌≡◌, ℕ, ◌+◌, ◌-◌, ◌*◌, ◌^◌, ◌<◌, ◌≤◌, List, [], ◌∷◌, length, take, drop, refl, sym, ap, subst, ◌∙◌, arith, Bool, true, false, inl, inr}
use Rattle.std.proofs.lemmas.Bool.{cases_Bool, eqb-false}
use Rattle.std.specs.Prelude.{Option, Some, None, IsSome, ◌==◌, if◌then◌else◌, ◌↔◌, min, max}
use Rattle.std.specs.Option.{option_or}
use Rattle.std.specs.BTreeMap.{get}
use Rattle.std.specs.Ordering.{nat_cmp}
use Rattle.nx_host.specs.Disk.{Image}
use Rattle.nx_replay.specs.Log.{Entry, Group, entries_in, entry_pages, rise, group_of, groups, logged, pages_of, replay, group_page_count, end_of, IsLogEnd}
use Rattle.nx_replay.proofs.GroupLemmas.{says_group, groups-first, groups-none, length-entries_in}
use Rattle.nx_replay.proofs.StepLemmas.{less_or_not}
use Rattle.nx_replay.proofs.ReplayLemmas.{logged_none, logged_first, option_or-left, option_or-right, page-there, page-cases}
use Rattle.nx_replay.proofs.KnownLemmas.{logged-known}
use Rattle.nx_replay.proofs.SettledLemmas.{is_some}
use Rattle.nx_wal.specs.Reading.{usable, IsHead, IsHeadOf}
use Rattle.nx_wal.specs.Places.{Places, page_at_place, LeadsTo}
use Rattle.nx_wal.specs.Wal.{IsPageCount}
use Rattle.nx_wal.specs.declared.reading.Head.{Head}
use Rattle.nx_wal.proofs.ReadingLemmas.{group_there, no_rise, no_place}

pub first_page : (es : List Entry) → 0 < length es → (p : ℕ) × IsSome (entry_pages es p)
first_page [] some = absurd (omega (arith, some))
first_page (e ∷ es) some = (
  e.page,
  elim (cases_Bool (e.page == e.page)) [
    | inl holds ↦ subst IsSome (sym (ap (λ (b : Bool). if b then Some e.bytes else entry_pages es e.page) holds)) refl
    | inr fails ↦ absurd (eqb-false e.page e.page fails refl)
  ],
)

-- a group at the log's beginning has a page
pub group_page : (count : ℕ) (was : Image) → IsHeadOf count (drop 0 (usable was.log)) → 13 + 8196 * count < 2 ^ 63 → 0 < count → rise 0 (entries_in count (drop 13 was.log)) ≡ true
    → (p : ℕ) × IsSome (replay was p)
group_page count was head low some rises =
    let there = group_there 0 count was.log head low some (sym rises) in
    let first : groups was.log ≡ group_of (usable was.log) ∷ _ = groups-first (usable was.log) (says_group (usable was.log) there) in
    let counted : group_page_count (usable was.log) ≡ count = head.counted in
    let long : length (group_of (usable was.log)).entries ≡ count = length-entries_in (group_page_count (usable was.log)) (drop 13 (usable was.log)) ∙ counted in
    let page = first_page (group_of (usable was.log)).entries (omega (arith, some, long)) in
    let held : IsSome (logged (groups was.log) page.0) =
    subst IsSome (sym (ap (λ (gs : List Group). logged gs page.0) first ∙ logged_first (group_of (usable was.log)) _ page.0)) (option_or-right (logged _ page.0) (entry_pages (group_of (usable was.log)).entries page.0) page.1) in
    (page.0, option_or-left (logged (groups was.log) page.0) (pages_of was.pages page.0) held)

-- a page of the area
pub area_page : (was : Image) (p : ℕ) → p < 16777216 → 8192 * p + 8192 ≤ length was.pages → IsSome (replay was p)
area_page was p low fits = option_or-right (logged (groups was.log) p) (pages_of was.pages p) (is_some (pages_of was.pages p) (page-there was.pages p low fits))

-- no group stands at the log's beginning
pub none_there : (head : Head) (was : Image) → IsHead 0 head was.log → (0 < head.count → 13 + 8196 * head.count < 2 ^ 63) → (0 < head.count → rise 0 (entries_in head.count (drop 13 was.log)) ≡ false)
    → groups was.log ≡ []
none_there head was is low falls =
    elim (less_or_not 0 head.count) [
      | inl some ↦ groups-none (usable was.log) (no_rise 0 head.count was.log (is.some some) (low some) (sym (falls some)))
      | inr none ↦ groups-none (usable was.log) (is.none (omega (arith, none)))
    ]

pub no_page : (was : Image) → groups was.log ≡ [] → length was.pages < 8192 → (p : ℕ) → replay was p ≡ None
no_page was none short p =
    ap (λ (gs : List Group). option_or (logged gs p) (pages_of was.pages p)) none ∙ ap (λ (o : Option (List ℕ)). option_or o (pages_of was.pages p)) (logged_none p)
    ∙ elim (page-cases was.pages p) [ inl there ↦ absurd (let fits = there.1 in omega (arith, fits, short)) | inr lost ↦ lost ]

-- The greatest page.
module _ (was : Image) (places : Places) (area log : ℕ) (leads : LeadsTo (groups was.log) places was.log)
    (counted : (p : ℕ) → (p < area) ↔ ((p < 16777216) × (8192 * p + 8192 ≤ length was.pages)))
    (above : (p at : ℕ) → get nat_cmp places p ≡ Some (Some at) → min (p + 1) 4294967295 ≤ log)
    (last : 0 < log → (p : ℕ) × (at : ℕ) × (get nat_cmp places p ≡ Some (Some at)) × (log ≡ min (p + 1) 4294967295)) where
  held : (p at : ℕ) → get nat_cmp places p ≡ Some (Some at) → (p < 16777216) × IsSome (logged (groups was.log) p)
  held p at is =
      let found : logged (groups was.log) p ≡ Some (take 8192 (drop at was.log)) = leads p ∙ ap (λ (o : Option (Option ℕ)). page_at_place o was.log) is in
      let known = logged-known was.log p (take 8192 (drop at was.log)) found in
      (known.low, is_some (logged (groups was.log) p) found)

  greatest : 0 < max area log → IsSome (replay was (max area log - 1))
  greatest some =
      elim (less_or_not area log) [
        | inl more ↦
            let top = last (omega (arith, more)) in
            let p = held top.0 top.1 top.2 in
            let low : top.0 < 16777216 = p.0 in
            let is : log ≡ min (top.0 + 1) 4294967295 = top.3 in
            let same : top.0 ≡ max area log - 1 = omega (arith, more, low, is) in
            subst (λ (k : ℕ). IsSome (replay was k)) same (option_or-left (logged (groups was.log) top.0) (pages_of was.pages top.0) p.1)
        | inr less ↦
            let there = (counted (area - 1)).0 (omega (arith, some, less)) in
            let same : area - 1 ≡ max area log - 1 = omega (arith, less) in
            subst (λ (k : ℕ). IsSome (replay was k)) same (area_page was (area - 1) there.0 there.1)
      ]

  nothing : (p : ℕ) → max area log ≤ p → replay was p ≡ None
  nothing p from =
      let lacks : logged (groups was.log) p ≡ None =
      leads p ∙ no_place (get nat_cmp places p) was.log (λ at is. let high = above p at is in let low : p < 16777216 = (held p at is).0 in omega (arith, from, high, low)) in
      ap (λ (o : Option (List ℕ)). option_or o (pages_of was.pages p)) lacks
      ∙ elim (page-cases was.pages p) [ inl there ↦ absurd (let below : p < area = (counted p).1 there in omega (arith, from, below)) | inr lost ↦ lost ]

  pub count_is : IsPageCount (max area log) (replay was)
  count_is = record { last = greatest; none_from = nothing }

-- no whole page is in the area
pub no_area : (long count : ℕ) → count ≤ 0 → ((0 < 16777216) × (8192 * 0 + 8192 ≤ long) → 0 < count) → long < 8192
no_area long count none counted =
    elim (less_or_not long 8192) [
      | inl short ↦ short
      | inr fits ↦ absurd (let some : 0 < count = counted (omega arith, omega (arith, fits)) in omega (arith, none, some))
    ]

-- a log with no group ends at its beginning
pub prefix_end : (head : Head) (was : Image) → groups was.log ≡ [] → IsHead 0 head was.log → IsLogEnd 0 head.shut was.log
prefix_end head was none is = record { here = sym (ap end_of none); closed = is.closed; opened = is.opened }
