-- Pages that wait, the group that they make, and where they stand once it is written.
use Rattle.std.proofs.Common.{◌≡◌, ℕ, suc, ◌+◌, ◌*◌, ◌^◌, ◌<◌, ◌≤◌, List, [], ◌∷◌, ◌++◌, length, take, drop, refl, sym, ap, subst, ◌∙◌, arith, Bool, true, inl, inr, cond, append_assoc}
use Rattle.std.proofs.Common.{take-append-drop}
use Rattle.std.proofs.lemmas.Bool.{and_from, le-leb, lt-ltb, cases_Bool, eqb-true}
use Rattle.std.proofs.lemmas.List.{drop-drop, drop_at, take_at, map-append, length-map}
use Rattle.std.proofs.lemmas.List.Elements.{All-head, All-tail}
use Rattle.std.proofs.lemmas.Map.Keys.{below_from_sorted, sorted_tail}
use Rattle.std.specs.Prelude.{Option, Some, None, IsSome, All, ◌==◌, if◌then◌else◌}
use Rattle.std.specs.List.{AllByRecursion}
use Rattle.std.specs.List.Sorted.{IsStrictlySortedBy}
use Rattle.std.specs.Option.{option_or}
use Rattle.std.specs.Map.{keys_of, values_of}
use Rattle.std.specs.BTreeMap.{get, is_at}
use Rattle.std.specs.Ordering.{nat_cmp}
use Rattle.byteorder.specs.Endian.{big_bytes}
use Rattle.byteorder.specs.Numbers.{length-bytes_high_first}
use Rattle.nx_host.specs.Disk.{Image}
use Rattle.nx_replay.specs.Log.{Entry, IsEntry, IsWhole, entry_bytes, entry_pages, rise}
use Rattle.nx_replay.proofs.GroupLemmas.{prefix-drop, prefix-less}
use Rattle.nx_replay.proofs.KnownLemmas.{rise_few, rise_apart}
use Rattle.nx_wal.specs.Places.{Kept, Places, page_at_place, Notes, IsWholePage}
use Rattle.nx_wal.specs.Writing.{StandsBehind, entries_of, group_with, body_of, head_of}
use Rattle.nx_wal.proofs.ReadingLemmas.{at_number}
use Rattle.nx_wal.proofs.ListLemmas.{all_prefix, all_middle, all_keys, all_values}
use Rattle.nx_wal.proofs.WritingLemmas.{entry_bytes-append, pages_long, body_parts, head_long}

abbrev entry_with : ℕ × Kept → Entry
entry_with e = record { page = e.0; bytes = e.1.value.bytes }

-- numbers that ascend rise
pub rises_from : (es : List (ℕ × Kept)) (least : ℕ) → IsStrictlySortedBy nat_cmp (keys_of es) → All (λ k. k < 16777216) (keys_of es) → All (λ k. least ≤ k) (keys_of es)
    → rise least (entries_of es) ≡ true
rises_from [] least sorted low from = refl
rises_from (e ∷ es) least sorted low from =
    let rest = rises_from es (e.0 + 1) (sorted_tail nat_cmp e.0 (keys_of es) sorted) (All-tail (λ k. k < 16777216) e.0 (keys_of es) low)
    (λ k d within. let below = below_from_sorted (e.0 ∷ keys_of es) 0 (suc k) d sorted (omega arith) (omega (arith, within)) in omega (arith, below)) in
    and_from _ _ (and_from _ _ (le-leb _ _ (All-head (λ k. least ≤ k) e.0 (keys_of es) from)) (lt-ltb _ _ (All-head (λ k. k < 16777216) e.0 (keys_of es) low))) rest

entries_are : (es : List (ℕ × Kept)) → AllByRecursion (λ (e : ℕ × Kept). e.0 < 16777216) es → AllByRecursion (λ (e : ℕ × Kept). length e.1.value.bytes ≡ 8192) es
    → AllByRecursion IsEntry (entries_of es)
entries_are [] low whole = tt
entries_are (e ∷ es) low whole = (record { long = whole.0; low = low.0 }, entries_are es low.1 whole.1)

module _ (es : List (ℕ × Kept)) (sorted : IsStrictlySortedBy nat_cmp (keys_of es)) (low : All (λ k. k < 16777216) (keys_of es)) where
  pub waiting_rise : rise 0 (entries_of es) ≡ true
  waiting_rise = rises_from es 0 sorted low (λ k d within. omega arith)

  pub waiting_few : length es ≤ 16777216
  waiting_few = let count : length (entries_of es) ≡ length es = simp length-map in let few = rise_few (entries_of es) 0 (omega arith) waiting_rise in omega (arith, few, count)

  pub waiting_group : (number : ℕ) → number < 2 ^ 64 → (entries_of es ≡ [] → ⊥) → All IsWholePage (values_of es) → IsWhole (group_with number es)
  waiting_group number fits some whole = record {
    number = fits;
    some = at_least_one (entries_of es) some;
    few = let count : length (entries_of es) ≡ length es = simp length-map in let few = waiting_few in omega (arith, few, count);
    rises = waiting_rise;
    entries = entries_are es (all_keys (λ k. k < 16777216) es low) (all_values IsWholePage es whole);
  }
    where
      at_least_one : (xs : List Entry) → (xs ≡ [] → ⊥) → 1 ≤ length xs
      at_least_one [] some = absurd (some refl)
      at_least_one (x ∷ xs) some = omega arith

pub entry_pages-append : (es fs : List Entry) (p : ℕ) → entry_pages (es ++ fs) p ≡ option_or (entry_pages es p) (entry_pages fs p)
entry_pages-append [] fs p = refl
entry_pages-append (e ∷ es) fs p =
    elim (cases_Bool (p == e.page)) [
      | inl holds ↦ rw holds refl
      | inr fails ↦ rw fails (entry_pages-append es fs p)
    ]

-- One page more is noted.
module _ (at : ℕ) (gone es : List (ℕ × Kept)) (item : ℕ × Kept) (log rest : List ℕ)
    (whole : AllByRecursion (λ (e : ℕ × Kept). length e.1.value.bytes ≡ 8192) (gone ++ item ∷ es))
    (bytes : drop at log ≡ entry_bytes (entries_of (gone ++ item ∷ es)) ++ rest) where
  parted : entries_of (gone ++ item ∷ es) ≡ entries_of gone ++ entry_with item ∷ entries_of es
  parted = map-append (λ (e : ℕ × Kept). record { page = e.0; bytes = e.1.value.bytes }) gone (item ∷ es)

  stands : take 8192 (drop (at + 8196 * length gone + 4) log) ≡ item.1.value.bytes
  stands =
      let prefix = entry_bytes (entries_of gone) in
      let more = entry_bytes (entries_of es) in
      let number = big_bytes 4 item.0 in
      let page = item.1.value.bytes in
      let split : drop at log ≡ prefix ++ (number ++ (page ++ (more ++ rest))) =
      bytes ∙ ap (λ (x : List ℕ). x ++ rest) (ap entry_bytes parted ∙ entry_bytes-append (entries_of gone) (entry_with item ∷ entries_of es))
      ∙ append_assoc prefix (number ++ (page ++ more)) rest
      ∙ ap (λ (x : List ℕ). prefix ++ x) (append_assoc number (page ++ more) rest ∙ ap (λ (x : List ℕ). number ++ x) (append_assoc page more rest)) in
      let long : length prefix ≡ 8196 * length gone = pages_long gone (all_prefix _ gone (item ∷ es) whole) in
      let here : length page ≡ 8192 = all_middle (λ (e : ℕ × Kept). length e.1.value.bytes ≡ 8192) gone es item whole in
      let behind : drop (at + 8196 * length gone) log ≡ number ++ (page ++ (more ++ rest)) =
      sym (drop-drop (8196 * length gone) at log) ∙ ap (λ (x : List ℕ). drop (8196 * length gone) x) split ∙ drop_at prefix (number ++ (page ++ (more ++ rest))) (8196 * length gone) long in
      ap (λ (x : List ℕ). take 8192 x) (sym (drop-drop 4 (at + 8196 * length gone) log) ∙ ap (λ (x : List ℕ). drop 4 x) behind ∙ drop_at number (page ++ (more ++ rest)) 4 (length-bytes_high_first 4 item.0))
      ∙ take_at page (more ++ rest) 8192 here

  module _ (old mid new : Places) (rises : rise 0 (entries_of (gone ++ item ∷ es)) ≡ true)
      (updates : (q : ℕ) → get nat_cmp new q ≡ cond (is_at (nat_cmp item.0) q) (Some (Some (at + 8196 * length gone + 4))) (get nat_cmp mid q))
      (so_far : Notes (entries_of gone) log old mid) where
    pub notes_more : Notes (entries_of (gone ++ item ∷ [])) log old new
    notes_more p =
        let place = at + 8196 * length gone + 4 in
        let last : entries_of (gone ++ item ∷ []) ≡ entries_of gone ++ entry_with item ∷ [] = map-append (λ (e : ℕ × Kept). record { page = e.0; bytes = e.1.value.bytes }) gone (item ∷ []) in
        let all : entry_pages (entries_of (gone ++ item ∷ [])) p ≡ option_or (entry_pages (entries_of gone) p) (entry_pages (entry_with item ∷ []) p) =
        ap (λ (es : List Entry). entry_pages es p) last ∙ entry_pages-append (entries_of gone) (entry_with item ∷ []) p in
        let chosen = λ (b : Bool). (if b then Some item.1.value.bytes else None) in
        let base = page_at_place (get nat_cmp old p) log in
        elim (cases_Bool (p == item.0)) [
          | inl holds ↦
              let none : entry_pages (entries_of gone) p ≡ None =
              subst (λ (k : ℕ). entry_pages (entries_of gone) k ≡ None) (sym (eqb-true p item.0 holds))
              (rise_apart (entries_of gone) (entries_of es) (entry_with item) 0 (sym (ap (λ (es : List Entry). rise 0 es) parted) ∙ rises)).1 in
              let found : entry_pages (entries_of (gone ++ item ∷ [])) p ≡ Some item.1.value.bytes =
              all ∙ ap (λ (o : Option (List ℕ)). option_or o (entry_pages (entry_with item ∷ []) p)) none ∙ ap chosen holds in
              ap (λ (o : Option (Option ℕ)). page_at_place o log) (updates p ∙ ap (λ (b : Bool). cond b (Some (Some place)) (get nat_cmp mid p)) (at_number item.0 p ∙ holds))
              ∙ ap (λ (x : List ℕ). Some x) stands ∙ sym (ap (λ (o : Option (List ℕ)). option_or o base) found)
          | inr fails ↦
              let found : entry_pages (entries_of (gone ++ item ∷ [])) p ≡ option_or (entry_pages (entries_of gone) p) None =
              all ∙ ap (λ (b : Bool). option_or (entry_pages (entries_of gone) p) (chosen b)) fails in
              ap (λ (o : Option (Option ℕ)). page_at_place o log) (updates p ∙ ap (λ (b : Bool). cond b (Some (Some place)) (get nat_cmp mid p)) (at_number item.0 p ∙ fails)) ∙ so_far p
              ∙ sym (ap (λ (o : Option (List ℕ)). option_or o base) (found ∙ or_none (entry_pages (entries_of gone) p)))
        ]
      where
        or_none : (o : Option (List ℕ)) → option_or o None ≡ o
        or_none (Some x) = refl
        or_none None = refl

-- an entry that is there stays
pub keeps_more : (number : ℕ) (place : Option ℕ) (mid new : Places) → ((q : ℕ) → get nat_cmp new q ≡ cond (is_at (nat_cmp number) q) (Some place) (get nat_cmp mid q))
    → (q : ℕ) → IsSome (get nat_cmp mid q) → IsSome (get nat_cmp new q)
keeps_more number place mid new updates q some =
    elim (cases_Bool (is_at (nat_cmp number) q)) [
      | inl holds ↦ subst IsSome (sym (updates q ∙ ap (λ (b : Bool). cond b (Some place) (get nat_cmp mid q)) holds)) refl
      | inr fails ↦ subst IsSome (sym (updates q ∙ ap (λ (b : Bool). cond b (Some place) (get nat_cmp mid q)) fails)) some
    ]

-- the pages of the group stand behind its head
pub entries_stand : (end number : ℕ) (es : List (ℕ × Kept)) (was now : Image) → StandsBehind end (body_of number es) was now
    → (rest : List ℕ) × (drop (end + 13) now.log ≡ entry_bytes (entries_of es) ++ rest)
entries_stand end number es was now behind =
    let body = body_of number es in
    let head = head_of number (length es) in
    let pages = entry_bytes (entries_of es) in
    let tail = drop (length body) (drop (end + 1) now.log) in
    let split : drop (end + 1) now.log ≡ head ++ (pages ++ (0 ∷ [] ++ tail)) =
    sym (take-append-drop (length body) (drop (end + 1) now.log)) ∙ ap (λ (x : List ℕ). x ++ tail) (behind.behind ∙ sym (body_parts number es))
    ∙ append_assoc (head ++ pages) (0 ∷ []) tail ∙ append_assoc head pages (0 ∷ [] ++ tail) in (
      0 ∷ [] ++ tail,
      ap (λ (k : ℕ). drop k now.log) (let h : end + 13 ≡ end + 1 + 12 = omega arith in h) ∙ sym (drop-drop 12 (end + 1) now.log) ∙ ap (λ (x : List ℕ). drop 12 x) split
          ∙ drop_at head (pages ++ (0 ∷ [] ++ tail)) 12 (head_long number (length es)),
    )

-- a page below the log's old end stands as it did
pub place_same : (o : Option (Option ℕ)) (end : ℕ) (was now : List ℕ) → ((at : ℕ) → o ≡ Some (Some at) → at + 8192 ≤ end) → take end now ≡ take end was → page_at_place o was ≡ page_at_place o now
place_same (Some (Some at)) end was now within prefix = ap (λ (x : List ℕ). Some x) (sym (prefix-drop at 8192 now was (prefix-less (at + 8192) end now was (within at refl) prefix)))
place_same (Some None) end was now within prefix = refl
place_same None end was now within prefix = refl
