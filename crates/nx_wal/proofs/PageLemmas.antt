-- Reading a page.
use Rattle.std.proofs.Common.{◌≡◌, ℕ, ◌+◌, ◌*◌, ◌<◌, ◌≤◌, List, [], ◌∷◌, Bool, true, false, length, take, drop, refl, sym, ap, ◌∙◌, arith, inl, inr, cond}
use Rattle.std.proofs.Common.{length-drop, length-take}
use Rattle.std.proofs.lemmas.List.{take_all}
use Rattle.std.proofs.lemmas.Bool.{cases_Bool}
use Rattle.std.proofs.lemmas.Bool.Decides.{nat_tests}
use Rattle.std.specs.Prelude.{Option, Some, None, ◌==◌, if◌then◌else◌}
use Rattle.std.specs.Map.{lookup}
use Rattle.std.specs.BTreeMap.{get, is_at}
use Rattle.std.specs.Ordering.{nat_cmp}
use Rattle.nx_host.specs.Disk.{Image}
use Rattle.std.proofs.Common.{Bor}
use Rattle.std.specs.Option.{option_or, option_map, option_copied}
use Rattle.nx_replay.specs.Log.{entry_pages, groups, logged, pages_of, replay}
use Rattle.nx_replay.proofs.ReplayLemmas.{page-there, page-cases}
use Rattle.nx_slots.specs.declared.page.PageBytes.{PageBytes}
use Rattle.nx_wal.specs.Reading.{FillsPrefix, page_found}
use Rattle.nx_wal.specs.Places.{Kept, Places, page_at_place, LeadsTo}
use Rattle.nx_wal.specs.Writing.{entries_of}
use Rattle.nx_wal.proofs.ReadingLemmas.{at_number, no_place, some_same}

pub whole_given : (n at : ℕ) (into bytes : List ℕ) → FillsPrefix n 8192 into (drop at bytes) → length into ≡ 8192 → 8192 ≤ n → (at + 8192 ≤ length bytes) × (into ≡ take 8192 (drop at bytes))
whole_given n at into bytes gives long whole =
    let count : n ≡ length (take 8192 (drop at bytes)) = gives.count in (
      omega (arith, count, whole, length-take 8192 (drop at bytes), length-drop at bytes),
      sym (take_all n into (omega (arith, long, whole))) ∙ gives.same,
    )

pub none_given : (n at : ℕ) (into bytes : List ℕ) → FillsPrefix n 8192 into (drop at bytes) → n < 8192 → at + 8192 ≤ length bytes → ⊥
none_given n at into bytes gives short fits =
    let count : n ≡ length (take 8192 (drop at bytes)) = gives.count in
    omega (arith, count, short, fits, length-take 8192 (drop at bytes), length-drop at bytes)

-- What was read at a place: a page where one is there whole, and none elsewhere.
abbrev pub ReadsPage : Bool → List ℕ → List ℕ → ℕ → Type 0
ReadsPage found bytes area at = (found ≡ true → (at + 8192 ≤ length area) × (bytes ≡ take 8192 (drop at area))) × (found ≡ false → at + 8192 ≤ length area → ⊥)

page_as : (found : Bool) (bytes area : List ℕ) (at : ℕ) (o : Option (List ℕ)) → (at + 8192 ≤ length area → o ≡ Some (take 8192 (drop at area))) → ((at + 8192 ≤ length area → ⊥) → o ≡ None)
    → ReadsPage found bytes area at → o ≡ page_found found bytes
page_as true bytes area at o there lost reads = let w = reads.0 refl in there w.0 ∙ ap (λ (x : List ℕ). Some x) (sym w.1)
page_as false bytes area at o there lost reads = lost (reads.1 refl)

-- a page that has a place, and one that has none
pub page_held : (was : Image) (places : Places) (page at : ℕ) → LeadsTo (groups was.log) places was.log → get nat_cmp places page ≡ Some (Some at)
    → logged (groups was.log) page ≡ Some (take 8192 (drop at was.log))
page_held was places page at leads place = leads page ∙ ap (λ (o : Option (Option ℕ)). page_at_place o was.log) place

pub page_lacking : (was : Image) (places : Places) (page : ℕ) → LeadsTo (groups was.log) places was.log → ((at : ℕ) → get nat_cmp places page ≡ Some (Some at) → ⊥) → logged (groups was.log) page ≡ None
page_lacking was places page leads none = leads page ∙ no_place (get nat_cmp places page) was.log none

pub page_in_log : (was : Image) (page at : ℕ) (found : Bool) (bytes : List ℕ) → logged (groups was.log) page ≡ Some (take 8192 (drop at was.log)) → at + 8192 ≤ length was.log
    → ReadsPage found bytes was.log at → replay was page ≡ page_found found bytes
page_in_log was page at found bytes held fits reads =
    page_as found bytes was.log at (replay was page) (λ h. ap (λ (o : Option (List ℕ)). option_or o (pages_of was.pages page)) held) (λ out. absurd (out fits)) reads

pub page_in_area : (was : Image) (page : ℕ) (found : Bool) (bytes : List ℕ) → logged (groups was.log) page ≡ None → page < 16777216
    → ReadsPage found bytes was.pages (8192 * page) → replay was page ≡ page_found found bytes
page_in_area was page found bytes lacks low reads =
    let base : replay was page ≡ pages_of was.pages page = ap (λ (o : Option (List ℕ)). option_or o (pages_of was.pages page)) lacks in
    page_as found bytes was.pages (8192 * page) (replay was page) (λ fits. base ∙ page-there was.pages page low fits)
    (λ out. base ∙ elim (page-cases was.pages page) [ inl there ↦ absurd (out there.1) | inr lost ↦ lost ]) reads

same_either : (x y : ℕ) → (x == y) ≡ (y == x)
same_either x y = grind (arith, nat_tests)

-- the pages that wait, by their numbers
pub pending_found : (es : List (ℕ × Kept)) (p : ℕ) (kept : Kept) → lookup (is_at (nat_cmp p)) es ≡ Some kept → entry_pages (entries_of es) p ≡ Some kept.value.bytes
pending_found [] p kept found = absurd (let lost : None ≡ Some kept = found in cc)
pending_found (e ∷ es) p kept found =
    let found_by = λ (b : Bool). (if b then Some e.1.value.bytes else entry_pages (entries_of es) p) in
    elim (cases_Bool (p == e.0)) [
      | inl holds ↦
          let here : is_at (nat_cmp p) e.0 ≡ true = at_number p e.0 ∙ same_either e.0 p ∙ holds in
          let same : e.1 ≡ kept = some_same (sym (ap (λ (b : Bool). cond b (Some e.1) (lookup (is_at (nat_cmp p)) es)) here) ∙ found) in
          ap found_by holds ∙ ap (λ (x : Kept). Some x.value.bytes) same
      | inr fails ↦
          let there : is_at (nat_cmp p) e.0 ≡ false = at_number p e.0 ∙ same_either e.0 p ∙ fails in
          ap found_by fails ∙ pending_found es p kept (sym (ap (λ (b : Bool). cond b (Some e.1) (lookup (is_at (nat_cmp p)) es)) there) ∙ found)
    ]

pub pending_none : (es : List (ℕ × Kept)) (p : ℕ) → lookup (is_at (nat_cmp p)) es ≡ None → entry_pages (entries_of es) p ≡ None
pending_none [] p found = refl
pending_none (e ∷ es) p found =
    let found_by = λ (b : Bool). (if b then Some e.1.value.bytes else entry_pages (entries_of es) p) in
    elim (cases_Bool (p == e.0)) [
      | inl holds ↦
          let here : is_at (nat_cmp p) e.0 ≡ true = at_number p e.0 ∙ same_either e.0 p ∙ holds in
          absurd (let lost : Some e.1 ≡ None = sym (ap (λ (b : Bool). cond b (Some e.1) (lookup (is_at (nat_cmp p)) es)) here) ∙ found in cc)
      | inr fails ↦
          let there : is_at (nat_cmp p) e.0 ≡ false = at_number p e.0 ∙ same_either e.0 p ∙ fails in
          ap found_by fails ∙ pending_none es p (sym (ap (λ (b : Bool). cond b (Some e.1) (lookup (is_at (nat_cmp p)) es)) there) ∙ found)
    ]

-- the page that waits under a number
pub pending_page : (es : List (ℕ × Kept)) (p : ℕ) → entry_pages (entries_of es) p ≡ option_map (λ (kept : Kept). kept.value.bytes) (lookup (is_at (nat_cmp p)) es)
pending_page es p =
    elim (lookup (is_at (nat_cmp p)) es) as (λ o. lookup (is_at (nat_cmp p)) es ≡ o → entry_pages (entries_of es) p ≡ option_map (λ (kept : Kept). kept.value.bytes) o) [
      | None ↦ λ none. pending_none es p none
      | Some kept ↦ λ found. pending_found es p kept found
    ] refl

bytes_copied : (o : Option (Bor PageBytes)) → option_map (λ (b : Bor PageBytes). b.now.bytes) o ≡ option_map (λ (b : PageBytes). b.bytes) (option_copied o)
bytes_copied None = refl
bytes_copied (Some b) = refl

bytes_kept : (o : Option Kept) → option_map (λ (b : PageBytes). b.bytes) (option_map (λ (kept : Kept). kept.value) o) ≡ option_map (λ (kept : Kept). kept.value.bytes) o
bytes_kept None = refl
bytes_kept (Some kept) = refl

-- what was lent of the pages that wait
module _ (es : List (ℕ × Kept)) (p : ℕ) where
  pub lent_page : (o : Option (Bor PageBytes)) → option_copied o ≡ option_map (λ (kept : Kept). kept.value) (lookup (is_at (nat_cmp p)) es)
      → option_map (λ (b : Bor PageBytes). b.now.bytes) o ≡ entry_pages (entries_of es) p
  lent_page o is = bytes_copied o ∙ ap (λ (x : Option PageBytes). option_map (λ (b : PageBytes). b.bytes) x) is ∙ bytes_kept (lookup (is_at (nat_cmp p)) es) ∙ sym (pending_page es p)

  pub page_waits : {o : Option (Bor PageBytes)} (bytes : Bor PageBytes) → option_copied o ≡ option_map (λ (kept : Kept). kept.value) (lookup (is_at (nat_cmp p)) es) → o ≡ Some bytes
      → entry_pages (entries_of es) p ≡ Some bytes.now.bytes
  page_waits {o = o} bytes is some = sym (lent_page o is) ∙ ap (λ (x : Option (Bor PageBytes)). option_map (λ (b : Bor PageBytes). b.now.bytes) x) some

  pub none_waits : None ≡ option_map (λ (kept : Kept). kept.value) (lookup (is_at (nat_cmp p)) es) → entry_pages (entries_of es) p ≡ None
  none_waits is = sym (lent_page None is)
