-- What pages can be: their numbers are low, and they are whole.
use Rattle.std.proofs.Common.{◌≡◌, ◌⊎◌, ℕ, zero, suc, ◌+◌, ◌*◌, ◌^◌, ◌<◌, ◌≤◌, List, [], ◌∷◌, ◌++◌, false, length, take, drop, refl, sym, ap, ◌∙◌, arith, Bool, true, inl, inr}
use Rattle.std.proofs.Common.{length-drop, length-take}
use Rattle.std.proofs.lemmas.Bool.{and_parts, leb-true, ltb-true, eqb-true, cases_Bool}
use Rattle.std.specs.Prelude.{Option, Some, None, ◌==◌, if◌then◌else◌}
use Rattle.std.specs.List.{AllByRecursion}
use Rattle.std.specs.Option.{option_or}
use Rattle.nx_host.specs.Disk.{Image}
use Rattle.nx_replay.specs.Log.{Entry, Group, IsEntry, entries_in, entry_pages, rise, group_page_count, group_size, group_of, is_group, groups_behind, groups, logged, pages_of, replay}
use Rattle.nx_replay.proofs.GroupLemmas.{group_says, groups-first, groups-none}
use Rattle.nx_replay.proofs.ReplayLemmas.{logged_none, logged_first, page-cases, page-there}

-- This page may be in a group.
abbrev pub IsPage : ℕ → List ℕ → Type 0
IsPage p bytes = IsEntry (record { page = p; bytes = bytes })

-- a group's pages
entries-known : (n least : ℕ) (bytes : List ℕ) → 8196 * n ≤ length bytes → rise least (entries_in n bytes) ≡ true → AllByRecursion IsEntry (entries_in n bytes)
entries-known zero least bytes fits rises = tt
entries-known (suc n) least bytes fits rises =
    let a = and_parts _ _ rises in
    let b = and_parts _ _ a.0 in (
      record { long = omega (arith, fits, length-take 8192 (drop 4 bytes), length-drop 4 bytes); low = ltb-true _ _ b.1 },
      entries-known n _ (drop 8196 bytes) (omega (arith, fits, length-drop 8196 bytes)) a.1,
    )

pub known_entry : (es : List Entry) (p : ℕ) (bytes : List ℕ) → AllByRecursion IsEntry es → entry_pages es p ≡ Some bytes → IsPage p bytes
known_entry [] p bytes are found = absurd (let lost : None ≡ Some bytes = found in cc)
known_entry (e ∷ es) p bytes are found =
    let found_by = λ (b : Bool). (if b then Some e.bytes else entry_pages es p) in
    elim (cases_Bool (p == e.page)) [
      | inl holds ↦
          let here : Some e.bytes ≡ Some bytes = sym (ap found_by holds) ∙ found in
          let same : e.bytes ≡ bytes = cc in
          let number : p ≡ e.page = eqb-true p e.page holds in
          record { long = ap (λ (x : List ℕ). length x) (sym same) ∙ (are.0).long; low = let low : e.page < 16777216 = (are.0).low in omega (arith, number, low) }
      | inr fails ↦ known_entry es p bytes are.1 (sym (ap found_by fails) ∙ found)
    ]

either : {T : Type 0} (a b : Option T) (x : T) → option_or a b ≡ Some x → (a ≡ Some x) ⊎ (b ≡ Some x)
either (Some y) b x is = inl is
either None b x is = inr is

nowhere : (l : List ℕ) (p : ℕ) (bytes : List ℕ) → is_group l ≡ false → logged (groups_behind 0 l) p ≡ Some bytes → IsPage p bytes
nowhere l p bytes none found = absurd (
    let lost : None ≡ Some bytes = sym (ap (λ (gs : List Group). logged gs p) (groups-none l none) ∙ logged_none p) ∙ found in cc
    )

known_behind : (fuel : ℕ) (l : List ℕ) → length l ≤ fuel → (p : ℕ) (bytes : List ℕ) → logged (groups_behind 0 l) p ≡ Some bytes → IsPage p bytes
known_behind zero l fits p bytes found =
    elim (cases_Bool (is_group l)) [
      | inr fails ↦ nowhere l p bytes fails found
      | inl holds ↦ absurd (let w = (group_says l holds).whole in omega (arith, w, fits))
    ]
known_behind (suc fuel) l fits p bytes found =
    elim (cases_Bool (is_group l)) [
      | inr fails ↦ nowhere l p bytes fails found
      | inl holds ↦
          let is = group_says l holds in
          let rest = drop (group_size (group_page_count l)) l in
          let split : logged (groups_behind 0 l) p ≡ option_or (logged (groups_behind 0 rest) p) (entry_pages (group_of l).entries p) =
          ap (λ (gs : List Group). logged gs p) (groups-first l holds) ∙ logged_first (group_of l) (groups_behind 0 rest) p in
          elim (either (logged (groups_behind 0 rest) p) (entry_pages (group_of l).entries p) bytes (sym split ∙ found)) [
            | inl later ↦ known_behind fuel rest (let w = is.whole in omega (arith, w, fits, length-drop (group_size (group_page_count l)) l)) p bytes later
            | inr here ↦
                known_entry (group_of l).entries p bytes
                (entries-known (group_page_count l) 0 (drop 13 l) (let w = is.whole in omega (arith, w, length-drop 13 l)) is.rises) here
          ]
    ]

-- a page of a log
pub logged-known : (log : List ℕ) (p : ℕ) (bytes : List ℕ) → logged (groups log) p ≡ Some bytes → IsPage p bytes
logged-known log p bytes found = known_behind (length (take (2 ^ 63) log)) (take (2 ^ 63) log) (omega arith) p bytes found

-- a page of an image
pub replay-known : (image : Image) (p : ℕ) (bytes : List ℕ) → replay image p ≡ Some bytes → IsPage p bytes
replay-known image p bytes found =
    elim (either (logged (groups image.log) p) (pages_of image.pages p) bytes found) [
      | inl log ↦ logged-known image.log p bytes log
      | inr area ↦
          elim (page-cases image.pages p) [
            | inr lost ↦ absurd (let no : None ≡ Some bytes = sym lost ∙ area in cc)
            | inl there ↦
                let is : Some (take 8192 (drop (8192 * p) image.pages)) ≡ Some bytes = sym (page-there image.pages p there.0 there.1) ∙ area in
                let same : take 8192 (drop (8192 * p) image.pages) ≡ bytes = cc in
                record {
                  long = ap (λ (x : List ℕ). length x) (sym same) ∙ (let fits = there.1 in omega (arith, fits, length-take 8192 (drop (8192 * p) image.pages), length-drop (8192 * p) image.pages));
                  low = there.0;
                }
          ]
    ]

-- numbers that rise are few
pub rise_few : (es : List Entry) (least : ℕ) → least ≤ 16777216 → rise least es ≡ true → least + length es ≤ 16777216
rise_few [] least low rises = omega (arith, low)
rise_few (e ∷ es) least low rises =
    let a = and_parts _ _ rises in
    let b = and_parts _ _ a.0 in
    let from : least ≤ e.page = leb-true _ _ b.0 in
    let to : e.page < 16777216 = ltb-true _ _ b.1 in
    let rest = rise_few es (e.page + 1) (omega (arith, to)) a.1 in
    omega (arith, from, rest)

-- a number that comes behind others isn't among them
pub rise_apart : (es fs : List Entry) (e : Entry) (least : ℕ) → rise least (es ++ e ∷ fs) ≡ true → (least ≤ e.page) × (entry_pages es e.page ≡ None)
rise_apart [] fs e least rises =
    let a = and_parts _ _ rises in
    let b = and_parts _ _ a.0 in
    (leb-true _ _ b.0, refl)
rise_apart (x ∷ es) fs e least rises =
    let a = and_parts _ _ rises in
    let b = and_parts _ _ a.0 in
    let from : least ≤ x.page = leb-true _ _ b.0 in
    let rest = rise_apart es fs e (x.page + 1) a.1 in
    let above : x.page + 1 ≤ e.page = rest.0 in
    let found_by = λ (b : Bool). (if b then Some x.bytes else entry_pages es e.page) in
    elim (cases_Bool (e.page == x.page)) [
      | inl holds ↦ absurd (let same = eqb-true e.page x.page holds in omega (arith, same, above))
      | inr fails ↦ (omega (arith, from, above), ap found_by fails ∙ rest.1)
    ]
