-- What reading a log by its heads and page numbers finds.
use Rattle.std.proofs.Common.{◌≡◌, ◌⊎◌, ℕ, zero, suc, ◌+◌, ◌-◌, ◌*◌, ◌^◌, ◌<◌, ◌≤◌, List, [], ◌∷◌, ◌++◌, length, take, drop, refl, sym, ap, subst, ◌∙◌, arith, Bool, true, false, inl, inr, get_or, cond, append_assoc}
use Rattle.std.proofs.Common.{get_or-drop, length-drop, length-take}
use Rattle.std.proofs.lemmas.List.{take-take, drop-drop, append-nil, take-append-drop}
use Rattle.std.proofs.lemmas.Bool.{false≢true, and_parts, leb-true, le-leb, ltb-true, lt-ltb, cases_Bool}
use Rattle.std.proofs.lemmas.Bool.Decides.{nat_tests}
use Rattle.std.specs.Prelude.{slice_get, slice_index, ◌==◌, ◌&&◌, nat_le, nat_lt, min, if◌then◌else◌, ◌↔◌, Option, Some, None, Result, Ok, Err, IfOk, IfSome}
use Rattle.std.specs.BTreeMap.{get, is_at}
use Rattle.std.specs.Ordering.{nat_cmp}
use Rattle.byteorder.specs.Endian.{big_number, big_bytes}
use Rattle.byteorder.specs.Numbers.{big_from-take}
use Rattle.std.proofs.lemmas.Nat.{be_bytes_4}
use Rattle.nx_host.specs.Disk.{Image, AreBytes}
use Rattle.std.specs.Option.{option_or}
use Rattle.nx_replay.specs.Log.{Pages, replay, pages_of, Entry, Group, entries_in, entry_bytes, entry_pages, rise, logged, groups, groups_behind, end_of, group_page_count, group_size, group_of, is_group, HasMark, mark}
use Rattle.nx_replay.proofs.GroupLemmas.{IsGroup, group_says, says_group, groups-first, groups-none, entries-prefix, number-prefix, prefix-drop, prefix-less, number-one, count-prefix, length-entries_in}
use Rattle.nx_replay.proofs.StepLemmas.{drop_taken, end_more}
use Rattle.nx_replay.proofs.ReplayLemmas.{logged-more, page-there}
use Rattle.nx_wal.specs.declared.reading.Head.{Head}
use Rattle.nx_wal.specs.Reading.{page_numbers, FillsPrefix, usable, IsHeadOf, IsHead, IsLogReadTo, IsRead, StandsAt, page_at}
use Rattle.nx_wal.specs.Places.{Places, page_at_place, LeadsTo, Notes, AreWithin, starts_from}

-- Numbers.

-- the first page, and those behind it
pub rise_first : (n least place number : ℕ) (log : List ℕ) → number ≡ big_number 4 (drop place log)
    → rise least (entries_in (suc n) (drop place log)) ≡ (nat_le least number && nat_lt number 16777216 && rise (number + 1) (entries_in n (drop (place + 8196) log)))
rise_first n least place number log is = rw (sym is, drop-drop 8196 place log) refl

module _ (at count i : ℕ) (log : List ℕ) (more : i < count) where
  pub rise_here : (least number : ℕ) → number ≡ big_number 4 (drop (at + 8196 * i) log)
      → rise least (entries_in (count - i) (drop (at + 8196 * i) log))
      ≡ (nat_le least number && nat_lt number 16777216 && rise (number + 1) (entries_in (count - (i + 1)) (drop (at + 8196 * (i + 1)) log)))
  rise_here least number is =
      ap (λ (n : ℕ). rise least (entries_in n (drop (at + 8196 * i) log))) (let h : count - i ≡ suc (count - (i + 1)) = omega (arith, more) in h)
      ∙ rise_first (count - (i + 1)) least (at + 8196 * i) number log is
      ∙ ap (λ (k : ℕ). nat_le least number && nat_lt number 16777216 && rise (number + 1) (entries_in (count - (i + 1)) (drop k log)))
      (let h : at + 8196 * i + 8196 ≡ at + 8196 * (i + 1) = omega arith in h)

  -- a number that may be, and the numbers behind it
  pub rise_more : (least number : ℕ) → number ≡ big_number 4 (drop (at + 8196 * i) log) → least ≤ number → number < 16777216
      → rise least (entries_in (count - i) (drop (at + 8196 * i) log)) ≡ rise (number + 1) (entries_in (count - (i + 1)) (drop (at + 8196 * (i + 1)) log))
  rise_more least number is from low = rise_here least number is ∙ rw (le-leb least number from, lt-ltb number 16777216 low) refl

  -- a number that may not be
  pub rise_ends : (least number : ℕ) → number ≡ big_number 4 (drop (at + 8196 * i) log) → (number < least) ⊎ (16777216 ≤ number)
      → false ≡ rise least (entries_in (count - i) (drop (at + 8196 * i) log))
  rise_ends least number is bad =
      elim (cases_Bool (rise least (entries_in (count - i) (drop (at + 8196 * i) log)))) [
        | inr fails ↦ sym fails
        | inl holds ↦ absurd (
            let a = and_parts _ _ (sym (rise_here least number is) ∙ holds) in
            let b = and_parts _ _ a.0 in
            let from : least ≤ number = leb-true _ _ b.0 in
            let low : number < 16777216 = ltb-true _ _ b.1 in
            elim bad [ inl below ↦ omega (arith, from, below) | inr above ↦ omega (arith, low, above) ]
            )
      ]

-- the number of one page
pub number_in : (n i : ℕ) (bytes : List ℕ) → i < n → get_or (page_numbers (entries_in n bytes)) i 0 ≡ big_number 4 (drop (8196 * i) bytes)
number_in zero i bytes below = absurd (omega (arith, below))
number_in (suc n) zero bytes below = refl
number_in (suc n) (suc i) bytes below =
    number_in n i (drop 8196 bytes) (omega (arith, below)) ∙ ap (λ (x : List ℕ). big_number 4 x) (drop-drop (8196 * i) 8196 bytes)
    ∙ ap (λ (k : ℕ). big_number 4 (drop k bytes)) (let h : 8196 + 8196 * i ≡ 8196 * suc i = omega arith in h)

-- the numbers behind one that was read
pub numbers_first : (n place number : ℕ) (log : List ℕ) → number ≡ big_number 4 (drop place log)
    → page_numbers (entries_in (suc n) (drop place log)) ≡ number ∷ page_numbers (entries_in n (drop (place + 8196) log))
numbers_first n place number log is = rw (sym is, drop-drop 8196 place log) refl

pub numbers_more : (at count i number : ℕ) (log gone : List ℕ) → i < count → number ≡ big_number 4 (drop (at + 8196 * i) log)
    → gone ++ page_numbers (entries_in (count - i) (drop (at + 8196 * i) log)) ≡ (gone ++ number ∷ []) ++ page_numbers (entries_in (count - (i + 1)) (drop (at + 8196 * (i + 1)) log))
numbers_more at count i number log gone more is =
    ap (λ (n : ℕ). gone ++ page_numbers (entries_in n (drop (at + 8196 * i) log))) (let h : count - i ≡ suc (count - (i + 1)) = omega (arith, more) in h)
    ∙ ap (λ (x : List ℕ). gone ++ x) (numbers_first (count - (i + 1)) (at + 8196 * i) number log is)
    ∙ ap (λ (k : ℕ). gone ++ number ∷ page_numbers (entries_in (count - (i + 1)) (drop k log))) (let h : at + 8196 * i + 8196 ≡ at + 8196 * (i + 1) = omega arith in h)
    ∙ sym (append_assoc gone (number ∷ []) (page_numbers (entries_in (count - (i + 1)) (drop (at + 8196 * (i + 1)) log))))

-- Places.

pub at_number : (k q : ℕ) → is_at (nat_cmp k) q ≡ (q == k)
at_number k q = grind (arith, nat_tests)

-- one page more in front of those that were noted
pub note_more : (n place number : ℕ) (log : List ℕ) (old mid new : Places) → number ≡ big_number 4 (drop place log)
    → ((q : ℕ) → get nat_cmp new q ≡ cond (is_at (nat_cmp number) q) (Some (Some (place + 4))) (get nat_cmp mid q))
    → Notes (entries_in n (drop (place + 8196) log)) log old mid → Notes (entries_in (suc n) (drop place log)) log old new
note_more n place number log old mid new is updates so_far p =
    let found = λ (b : Bool). (if b then Some (take 8192 (drop (place + 4) log)) else entry_pages (entries_in n (drop (place + 8196) log)) p) in
    let first : entry_pages (entries_in (suc n) (drop place log)) p ≡ (if p == number then Some (take 8192 (drop (place + 4) log)) else entry_pages (entries_in n (drop (place + 8196) log)) p) =
    rw (sym is, drop-drop 8196 place log, drop-drop 4 place log) refl in
    let here : get nat_cmp new p ≡ cond (p == number) (Some (Some (place + 4))) (get nat_cmp mid p) = updates p ∙ ap (λ (b : Bool). cond b (Some (Some (place + 4))) (get nat_cmp mid p)) (at_number number p) in
    elim (cases_Bool (p == number)) [
      | inl holds ↦
          ap (λ (o : Option (Option ℕ)). page_at_place o log) (here ∙ ap (λ (b : Bool). cond b (Some (Some (place + 4))) (get nat_cmp mid p)) holds)
          ∙ sym (ap (λ (o : Option (List ℕ)). option_or o (page_at_place (get nat_cmp old p) log)) (first ∙ ap found holds))
      | inr fails ↦
          ap (λ (o : Option (Option ℕ)). page_at_place o log) (here ∙ ap (λ (b : Bool). cond b (Some (Some (place + 4))) (get nat_cmp mid p)) fails) ∙ so_far p
          ∙ sym (ap (λ (o : Option (List ℕ)). option_or o (page_at_place (get nat_cmp old p) log)) (first ∙ ap found fails))
    ]

pub note_before : (at count left number : ℕ) (log : List ℕ) (old mid new : Places) → 0 < left → left ≤ count → number ≡ big_number 4 (drop (at + 8196 * (left - 1)) log)
    → ((q : ℕ) → get nat_cmp new q ≡ cond (is_at (nat_cmp number) q) (Some (Some (at + 8196 * (left - 1) + 4))) (get nat_cmp mid q))
    → Notes (entries_in (count - left) (drop (at + 8196 * left) log)) log old mid → Notes (entries_in (count - (left - 1)) (drop (at + 8196 * (left - 1)) log)) log old new
note_before at count left number log old mid new more few is updates so_far =
    subst (λ (n : ℕ). Notes (entries_in n (drop (at + 8196 * (left - 1)) log)) log old new) (let h : suc (count - left) ≡ count - (left - 1) = omega (arith, more, few) in h) (
    note_more (count - left) (at + 8196 * (left - 1)) number log old mid new is updates (
    subst (λ (k : ℕ). Notes (entries_in (count - left) (drop k log)) log old mid) (let h : at + 8196 * left ≡ at + 8196 * (left - 1) + 8196 = omega (arith, more) in h) so_far
    )
    )

pub some_same : {T : Type 0} {x y : T} → Some x ≡ Some y → x ≡ y
some_same same = cc

-- one place more
pub within_more : (limit number place : ℕ) (mid new : Places) → place + 8192 ≤ limit
    → ((q : ℕ) → get nat_cmp new q ≡ cond (is_at (nat_cmp number) q) (Some (Some place)) (get nat_cmp mid q)) → AreWithin limit mid → AreWithin limit new
within_more limit number place mid new fits updates so_far p at is =
    elim (cases_Bool (is_at (nat_cmp number) p)) [
      | inl holds ↦ let same : place ≡ at = some_same (some_same (sym (updates p ∙ ap (λ (b : Bool). cond b (Some (Some place)) (get nat_cmp mid p)) holds) ∙ is)) in omega (arith, fits, same)
      | inr fails ↦ so_far p at (sym (updates p ∙ ap (λ (b : Bool). cond b (Some (Some place)) (get nat_cmp mid p)) fails) ∙ is)
    ]

-- Heads.

unfold_count : (bytes : List ℕ) → group_page_count bytes ≡ big_number 4 (drop 9 bytes)
unfolding group_page_count
unfold_count bytes = refl

module _ (at given limit : ℕ) (prefix log : List ℕ) (gives : FillsPrefix given 13 prefix (drop at log)) (limit_is : limit ≡ min (2 ^ 63) (length log)) where
  given_is : given ≡ min 13 (length log - at)
  given_is = let n = gives.count in omega (arith, n, length-take 13 (drop at log), length-drop at log)

  usable_rest : drop at (usable log) ≡ take (2 ^ 63 - at) (drop at log)
  usable_rest = drop_taken at (2 ^ 63) log

  usable_long : length (drop at (usable log)) ≡ limit - at
  usable_long = omega (arith, limit_is, length-drop at (usable log), length-take (2 ^ 63) log)

  -- the first byte is the one at the offset
  byte_given : 0 < given → (slice_index prefix 0 ≡ slice_index log at) × (at < length log)
  byte_given some =
      let n = given_is in
      let one : take 1 prefix ≡ take 1 (drop at log) =
      sym (take-take 1 given prefix (omega (arith, some))) ∙ ap (λ (x : List ℕ). take 1 x) gives.same ∙ take-take 1 13 (drop at log) (omega arith) in (
        number-one prefix (drop at log) one ∙ get_or-drop at log 0 0 ∙ ap (λ (k : ℕ). get_or log k 0) (let h : at + 0 ≡ at = omega arith in h),
        omega (arith, some, n),
      )

  byte_there : at < length log → 0 < given
  byte_there there = let n = given_is in omega (arith, there, n)

  -- the head is the one below the limit
  head_given : 13 ≤ given → 13 ≤ limit - at → take 13 prefix ≡ take 13 (drop at (usable log))
  head_given whole room =
      let n = given_is in
      let thirteen : given ≡ 13 = omega (arith, whole, n) in
      ap (λ (k : ℕ). take k prefix) (sym thirteen) ∙ gives.same ∙ sym (take-take 13 (2 ^ 63 - at) (drop at log) (omega (arith, room, limit_is)))
      ∙ ap (λ (x : List ℕ). take 13 x) (sym usable_rest)

  head_ones : 13 ≤ given → 13 ≤ limit - at → (slice_index prefix 0 ≡ slice_index (drop at (usable log)) 0) × (big_number 4 (drop 9 prefix) ≡ group_page_count (drop at (usable log)))
  head_ones whole room =
      let same = head_given whole room in
      let first : take 1 prefix ≡ take 1 (drop at (usable log)) =
      sym (take-take 1 13 prefix (omega arith)) ∙ ap (λ (x : List ℕ). take 1 x) same ∙ take-take 1 13 (drop at (usable log)) (omega arith) in
      (number-one prefix (drop at (usable log)) first, sym (unfold_count prefix) ∙ count-prefix prefix (drop at (usable log)) same)

  module _ (count : ℕ) (shut : Bool)
      (is_shut : shut ≡ true → (0 < given) × ((slice_index prefix 0 == 1) ≡ false)) (is_open : shut ≡ false → 0 < given → slice_index prefix 0 ≡ 1)
      (whole : 0 < count → (13 ≤ given) × (13 + 8196 * count < limit - at))
      (counted : 0 < count → (slice_index prefix 0 ≡ 1) × (count ≡ big_number 4 (drop 9 prefix)) × (count ≤ 16777216))
      (none : count ≡ 0 → 13 ≤ given → slice_index prefix 0 ≡ 1 → 1 ≤ big_number 4 (drop 9 prefix) → big_number 4 (drop 9 prefix) ≤ 16777216 → 13 + 8196 * big_number 4 (drop 9 prefix) < limit - at → ⊥) where
    no_group : count ≡ 0 → is_group (drop at (usable log)) ≡ true → ⊥
    no_group zero_count some =
        let is = group_says (drop at (usable log)) some in
        let n = given_is in
        let long : group_size (group_page_count (drop at (usable log))) < limit - at = let w = is.whole in omega (arith, w, usable_long) in
        let full : 13 ≤ given = omega (arith, n, long, limit_is) in
        let ones = head_ones full (omega (arith, long)) in
        let same : big_number 4 (drop 9 prefix) ≡ group_page_count (drop at (usable log)) = ones.1 in
        none zero_count full (ones.0 ∙ is.gate) (let s = is.some in omega (arith, s, same)) (let f = is.few in omega (arith, f, same)) (omega (arith, long, same))

    head_is : IsHead at (record { shut = shut; count = count }) log
    head_is = record {
      closed = λ h. let s = is_shut h in let b = byte_given s.0 in (b.1, ap (λ (x : ℕ). x == 1) (sym b.0) ∙ s.1);
      opened = λ h there. let given_some = byte_there there in sym ((byte_given given_some).0) ∙ is_open h given_some;
      none = λ h. elim (cases_Bool (is_group (drop at (usable log)))) [ inl some ↦ absurd (no_group h some) | inr nothing ↦ nothing ];
      some = λ h.
          let w = whole h in
          let c = counted h in
          let room : 13 + 8196 * count < limit - at = w.1 in
          let ones = head_ones w.0 (omega (arith, room)) in
          record { gate = sym ones.0 ∙ c.0; counted = sym ones.1 ∙ sym c.1; few = c.2; whole = omega (arith, room, usable_long) };
    }

-- What was read says of a gate, and of a count where the room behind it is as given.
abbrev pub SaysShut : Bool → ℕ → List ℕ → Type 0
SaysShut shut given prefix = (shut ≡ true → (0 < given) × ((slice_index prefix 0 == 1) ≡ false)) × (shut ≡ false → 0 < given → slice_index prefix 0 ≡ 1)

abbrev pub SaysCount : ℕ → ℕ → List ℕ → ℕ → Type 0
SaysCount count given prefix room = (0 < count → (13 ≤ given) × (13 + 8196 * count < room)) × (0 < count → (slice_index prefix 0 ≡ 1) × (count ≡ big_number 4 (drop 9 prefix)) × (count ≤ 16777216))
    × (count ≡ 0 → 13 ≤ given → slice_index prefix 0 ≡ 1 → 1 ≤ big_number 4 (drop 9 prefix) → big_number 4 (drop 9 prefix) ≤ 16777216 → 13 + 8196 * big_number 4 (drop 9 prefix) < room → ⊥)

pub head_said : {at count : ℕ} {shut : Bool} {log : List ℕ} (given limit : ℕ) (prefix : List ℕ) → FillsPrefix given 13 prefix (drop at log) → limit ≡ min (2 ^ 63) (length log) → SaysShut shut given prefix
    → SaysCount count given prefix (limit - at) → IsHead at (record { shut = shut; count = count }) log
head_said {at = at} {count = count} {shut = shut} {log = log} given limit prefix gives limit_is gate counts = head_is at given limit prefix log gives limit_is count shut gate.0 gate.1 counts.0 counts.1 counts.2

-- Groups.

entries_usable : (at count : ℕ) (log : List ℕ) → at + 13 + 8196 * count < 2 ^ 63 → entries_in count (drop 13 (drop at (usable log))) ≡ entries_in count (drop (at + 13) log)
entries_usable at count log low =
    ap (λ (x : List ℕ). entries_in count x) (drop-drop 13 at (usable log))
    ∙ entries-prefix count (8196 * count) (drop (at + 13) (usable log)) (drop (at + 13) log) (omega arith)
    (ap (λ (x : List ℕ). take (8196 * count) x) (drop_taken (at + 13) (2 ^ 63) log) ∙ take-take (8196 * count) (2 ^ 63 - (at + 13)) (drop (at + 13) log) (omega (arith, low)))

nothing_at : (places : Places) → places.entries ≡ [] → (p : ℕ) → get nat_cmp places p ≡ None
nothing_at places none p = rw none refl

pub none_within : (limit : ℕ) (places : Places) → places.entries ≡ [] → AreWithin limit places
none_within limit places none p at is = absurd (let lost : Some (Some at) ≡ None = sym is ∙ nothing_at places none p in cc)

pub leads_none : (places : Places) (log : List ℕ) → places.entries ≡ [] → LeadsTo [] places log
unfolding logged
leads_none places log none p = sym (ap (λ (o : Option (Option ℕ)). page_at_place o log) (nothing_at places none p))

-- where a group more begins
pub starts_more : (base : ℕ) (gs : List Group) (g : Group) → starts_from base (gs ++ g ∷ []) ≡ starts_from base gs ++ (base + end_of gs) ∷ []
starts_more base [] g = ap (λ (n : ℕ). n ∷ []) (let h : base ≡ base + 0 = omega arith in h)
starts_more base (x ∷ gs) g =
    let size = group_size (length x.entries) in
    ap (λ (ns : List ℕ). base ∷ ns) (starts_more (base + size) gs g ∙ ap (λ (n : ℕ). starts_from (base + size) gs ++ n ∷ []) (let h : base + size + end_of gs ≡ base + (size + end_of gs) = omega arith in h))

pub starts_count : (base : ℕ) (gs : List Group) → length (starts_from base gs) ≡ length gs
starts_count base [] = refl
starts_count base (g ∷ gs) = ap suc (starts_count (base + group_size (length g.entries)) gs)

-- a group by its index, and where it begins
pub record IsIndexed (bytes : List ℕ) (base index : ℕ) : Type 0 where
  pub at : ℕ
  pub begins : get_or (starts_from base (groups_behind 0 bytes)) index 0 ≡ base + at
  pub is : is_group (drop at bytes) ≡ true
  pub group : slice_get (groups_behind 0 bytes) index ≡ Some (group_of (drop at bytes))

none_indexed : (bytes : List ℕ) (base index : ℕ) → is_group bytes ≡ false → index < length (groups_behind 0 bytes) → IsIndexed bytes base index
none_indexed bytes base index none below = absurd (
    let lost : length (groups_behind 0 bytes) ≡ 0 = ap (λ (gs : List Group). length gs) (groups-none bytes none) in omega (arith, below, lost)
    )

pub indexed : (fuel : ℕ) (bytes : List ℕ) → length bytes ≤ fuel → (base index : ℕ) → index < length (groups_behind 0 bytes) → IsIndexed bytes base index
indexed zero bytes fits base index below =
    elim (cases_Bool (is_group bytes)) [
      | inr none ↦ none_indexed bytes base index none below
      | inl some ↦ absurd (let w = (group_says bytes some).whole in omega (arith, w, fits))
    ]
indexed (suc fuel) bytes fits base zero below =
    elim (cases_Bool (is_group bytes)) [
      | inr none ↦ none_indexed bytes base 0 none below
      | inl some ↦
          let first = groups-first bytes some in
          record {
            at = 0;
            begins = ap (λ (gs : List Group). get_or (starts_from base gs) 0 0) first ∙ (let h : base ≡ base + 0 = omega arith in h);
            is = some;
            group = ap (λ (gs : List Group). slice_get gs 0) first;
          }
    ]
indexed (suc fuel) bytes fits base (suc index) below =
    elim (cases_Bool (is_group bytes)) [
      | inr none ↦ none_indexed bytes base (suc index) none below
      | inl some ↦
          let size = group_size (group_page_count bytes) in
          let first = groups-first bytes some in
          let rest = drop size bytes in
          let count : length (groups_behind 0 bytes) ≡ suc (length (groups_behind 0 rest)) = ap (λ (gs : List Group). length gs) first in
          let more = indexed fuel rest (let w = (group_says bytes some).whole in omega (arith, w, fits, length-drop size bytes)) (base + size) index (omega (arith, below, count)) in
          let long : length (group_of bytes).entries ≡ group_page_count bytes = length-entries_in (group_page_count bytes) (drop 13 bytes) in
          let here : drop more.at rest ≡ drop (size + more.at) bytes = drop-drop more.at size bytes in
          record {
            at = size + more.at;
            begins = ap (λ (gs : List Group). get_or (starts_from base gs) (suc index) 0) first
                ∙ ap (λ (n : ℕ). get_or (starts_from (base + group_size n) (groups_behind 0 rest)) index 0) long
                ∙ more.begins ∙ (let h : base + size + more.at ≡ base + (size + more.at) = omega arith in h);
            is = ap (λ (x : List ℕ). is_group x) (sym here) ∙ more.is;
            group = ap (λ (gs : List Group). slice_get gs (suc index)) first ∙ more.group ∙ ap (λ (x : List ℕ). Some (group_of x)) here;
          }
    ]

-- the page behind so many of a group
pub entries_more : (k : ℕ) (bytes : List ℕ) → entries_in (suc k) bytes ≡ entries_in k bytes ++ page_at (drop (8196 * k) bytes) ∷ []
entries_more zero bytes = refl
entries_more (suc k) bytes =
    ap (λ (es : List Entry). page_at bytes ∷ es) (
    entries_more k (drop 8196 bytes)
    ∙ ap (λ (x : List ℕ). entries_in k (drop 8196 bytes) ++ page_at x ∷ []) (drop-drop (8196 * k) 8196 bytes ∙ ap (λ (n : ℕ). drop n bytes) (let h : 8196 + 8196 * k ≡ 8196 * suc k = omega arith in h))
    )

-- bytes that were given whole
pub given_all : (n room : ℕ) (prefix bytes : List ℕ) → FillsPrefix n room prefix bytes → room ≤ length bytes → take room prefix ≡ take room bytes
given_all n room prefix bytes gives fits =
    let full : n ≡ room = let c = gives.count in omega (arith, c, fits, length-take room bytes) in
    ap (λ (k : ℕ). take k prefix) (sym full) ∙ gives.same

pub unit_page : (unit bytes : List ℕ) → take 8196 unit ≡ take 8196 bytes → (big_number 4 unit ≡ big_number 4 bytes) × (take 8192 (drop 4 unit) ≡ take 8192 (drop 4 bytes))
unit_page unit bytes same = (number-prefix 4 8196 unit bytes (omega arith) same, prefix-drop 4 8192 unit bytes same)

pub head_numbers : (head bytes : List ℕ) → take 13 head ≡ take 13 bytes → (big_number 8 (drop 1 head) ≡ big_number 8 (drop 1 bytes)) × (big_number 4 (drop 9 head) ≡ big_number 4 (drop 9 bytes))
head_numbers head bytes same = (
  number-prefix 8 8 (drop 1 head) (drop 1 bytes) (omega arith) (prefix-drop 1 8 head bytes (prefix-less 9 13 head bytes (omega arith) same)),
  number-prefix 4 4 (drop 9 head) (drop 9 bytes) (omega arith) (prefix-drop 9 4 head bytes same),
)

-- What a group at an offset says, and that all its bytes are there.
pub record ReadsAt (at : ℕ) (log : List ℕ) : Type 0 where
  pub number : big_number 8 (drop 1 (drop at log)) ≡ (group_of (drop at (usable log))).number
  pub count : big_number 4 (drop 9 (drop at log)) ≡ group_page_count (drop at (usable log))
  pub long : length (group_of (drop at (usable log))).entries ≡ group_page_count (drop at (usable log))
  pub some : 1 ≤ group_page_count (drop at (usable log))
  pub fits : at + group_size (group_page_count (drop at (usable log))) < length log
  pub low : at + group_size (group_page_count (drop at (usable log))) < 2 ^ 63
  pub entries : entries_in (group_page_count (drop at (usable log))) (drop (at + 13) log) ≡ (group_of (drop at (usable log))).entries

pub reads_at : (at : ℕ) (log : List ℕ) → StandsAt at log → ReadsAt at log
reads_at at log stands =
    let bytes = drop at (usable log) in
    let is = group_says bytes stands.group in
    let count = group_page_count bytes in
    let whole : group_size count < length bytes = is.whole in
    let same : take 13 (drop at log) ≡ take 13 bytes =
    sym (ap (λ (x : List ℕ). take 13 x) (drop_taken at (2 ^ 63) log) ∙ take-take 13 (2 ^ 63 - at) (drop at log) (omega (arith, whole, length-drop at (usable log), length-take (2 ^ 63) log))) in
    let said = head_numbers (drop at log) bytes same in
    let low : at + 13 + 8196 * count < 2 ^ 63 = omega (arith, whole, length-drop at (usable log), length-take (2 ^ 63) log) in
    record {
      number = said.0;
      count = said.1 ∙ sym (unfold_count bytes);
      long = length-entries_in count (drop 13 bytes);
      some = is.some;
      fits = omega (arith, whole, length-drop at (usable log), length-take (2 ^ 63) log);
      low = omega (arith, low);
      entries = sym (entries_usable at count log low);
    }

pub nothing_read : (places : Places) (starts : List ℕ) (log : List ℕ) → places.entries ≡ [] → starts ≡ [] → IsLogReadTo places starts 0 log
nothing_read places starts log none none_begun = record {
  begun = none_begun;
  prefix = [];
  split = refl;
  here = refl;
  leads = leads_none places log none;
}

module _ (at count : ℕ) (log : List ℕ) (head : IsHeadOf count (drop at (usable log))) (low : at + 13 + 8196 * count < 2 ^ 63) where
  pub group_there : 0 < count → true ≡ rise 0 (entries_in count (drop (at + 13) log)) → IsGroup (drop at (usable log))
  group_there some rises = record {
    gate = head.gate;
    some = rw head.counted some;
    few = rw head.counted head.few;
    whole = rw head.counted head.whole;
    rises = rw head.counted (ap (λ (es : List Entry). rise 0 es) (entries_usable at count log low) ∙ sym rises);
  }

  -- where the numbers don't rise, there is no group
  pub no_rise : false ≡ rise 0 (entries_in count (drop (at + 13) log)) → is_group (drop at (usable log)) ≡ false
  no_rise falls =
      elim (cases_Bool (is_group (drop at (usable log)))) [
        | inr nothing ↦ nothing
        | inl some ↦ absurd (
            let rises : rise 0 (entries_in (group_page_count (drop at (usable log))) (drop 13 (drop at (usable log)))) ≡ true = (group_says (drop at (usable log)) some).rises in
            false≢true (falls ∙ ap (λ (es : List Entry). rise 0 es) (sym (entries_usable at count log low)) ∙ sym (ap (λ (n : ℕ). rise 0 (entries_in n (drop 13 (drop at (usable log))))) head.counted) ∙ rises)
            )
      ]

  -- one group more was read
  pub read_more : {old new : Places} {before after : List ℕ} → IsGroup (drop at (usable log)) → IsLogReadTo old before at log
      → Notes (entries_in count (drop (at + 13) log)) log old new → after ≡ before ++ at ∷ [] → IsLogReadTo new after (at + (13 + 8196 * count)) log
  read_more {before = before} there so_far notes more_begun =
      let rest = drop at (usable log) in
      let g = group_of rest in
      let entries : g.entries ≡ entries_in count (drop (at + 13) log) =
      ap (λ (n : ℕ). entries_in n (drop 13 rest)) head.counted ∙ entries_usable at count log low in
      let first : groups_behind 0 rest ≡ g ∷ groups_behind 0 (drop (group_size count) rest) =
      groups-first rest (says_group rest there) ∙ ap (λ (n : ℕ). g ∷ groups_behind 0 (drop (group_size n) rest)) head.counted in
      let long : length g.entries ≡ count = ap (λ (es : List Entry). length es) entries ∙ length-entries_in count (drop (at + 13) log) in
      record {
        prefix = so_far.prefix ++ g ∷ [];
        split = so_far.split ∙ ap (λ (gs : List Group). so_far.prefix ++ gs) (first ∙ ap (λ (x : List ℕ). g ∷ groups_behind 0 x) (drop-drop (group_size count) at (usable log)))
            ∙ sym (append_assoc so_far.prefix (g ∷ []) (groups_behind 0 (drop (at + group_size count) (usable log))));
        here = ap (λ (k : ℕ). k + (13 + 8196 * count)) so_far.here ∙ ap (λ (n : ℕ). end_of so_far.prefix + group_size n) (sym long) ∙ sym (end_more so_far.prefix g);
        begun = more_begun ∙ ap (λ (ns : List ℕ). ns ++ at ∷ []) so_far.begun ∙ ap (λ (n : ℕ). starts_from 0 so_far.prefix ++ n ∷ []) (let h = so_far.here in let e : at ≡ 0 + end_of so_far.prefix = omega (arith, h) in e)
            ∙ sym (starts_more 0 so_far.prefix g);
        leads = λ p.
            ap (λ (f : ℕ → Option (List ℕ)). f p) (logged-more so_far.prefix g) ∙ ap (λ (es : List Entry). option_or (entry_pages es p) (logged so_far.prefix p)) entries
            ∙ ap (λ (o : Option (List ℕ)). option_or (entry_pages (entries_in count (drop (at + 13) log)) p) o) (so_far.leads p) ∙ sym (notes p);
      }

-- at the first place with no group
pub read_whole : (places : Places) (starts : List ℕ) (at : ℕ) (head : Head) (log : List ℕ) → IsLogReadTo places starts at log → is_group (drop at (usable log)) ≡ false → IsHead at head log → AreWithin at places
    → IsRead places starts (record { at = at; shut = head.shut }) log
read_whole places starts at head log so_far none is within =
    let all : groups log ≡ so_far.prefix = so_far.split ∙ ap (λ (gs : List Group). so_far.prefix ++ gs) (groups-none (drop at (usable log)) none) ∙ append-nil so_far.prefix in
    record {
      at = record { here = so_far.here ∙ ap end_of (sym all); closed = is.closed; opened = is.opened };
      leads = λ p. ap (λ (gs : List Group). logged gs p) all ∙ so_far.leads p;
      within = within;
      begun = so_far.begun ∙ ap (λ (gs : List Group). starts_from 0 gs) (sym all);
    }

-- The mark.

pub if_ok : {T E : Type 0} {P Q : T → Type 0} (r : Result T E) → IfOk r P → ((x : T) → P x → Q x) → IfOk r Q
if_ok (Ok x) h f = f x h
if_ok (Err e) h f = tt

pub if_some : {T : Type 0} (P : T → Type 0) (o : Option T) (x : T) → IfSome o P → o ≡ Some x → P x
if_some {T = T} P o x h is = subst (λ (o : Option T). IfSome o P) is h

-- page 0 begins as its first bytes do
mark_of : (pages : Pages) (bytes : List ℕ) → pages 0 ≡ Some (take 8192 bytes) → (take 8 bytes ≡ mark) ↔ HasMark pages
mark_of pages bytes is = (
  λ h. (take 8192 bytes, is, take-take 8 8192 bytes (omega arith) ∙ h),
  λ has. sym (take-take 8 8192 bytes (omega arith)) ∙ ap (λ (x : List ℕ). take 8 x) (some_same (sym is ∙ has.1)) ∙ has.2,
)

iff_then : {A B C : Type 0} → A ↔ B → B ↔ C → A ↔ C
iff_then first second = (λ a. second.0 (first.0 a), λ c. first.1 (second.1 c))

pub mark_in_log : (was : Image) (places : Places) (at : ℕ) (is : Bool) → LeadsTo (groups was.log) places was.log → get nat_cmp places 0 ≡ Some (Some at)
    → (is ≡ true) ↔ (take 8 (drop at was.log) ≡ mark) → (is ≡ true) ↔ HasMark (replay was)
mark_in_log was places at is leads place said =
    let held : logged (groups was.log) 0 ≡ Some (take 8192 (drop at was.log)) = leads 0 ∙ ap (λ (o : Option (Option ℕ)). page_at_place o was.log) place in
    iff_then said (mark_of (replay was) (drop at was.log) (ap (λ (o : Option (List ℕ)). option_or o (pages_of was.pages 0)) held))

pub no_place : (o : Option (Option ℕ)) (log : List ℕ) → ((at : ℕ) → o ≡ Some (Some at) → ⊥) → page_at_place o log ≡ None
no_place (Some (Some at)) log none = absurd (none at refl)
no_place (Some None) log none = refl
no_place None log none = refl

pub mark_in_area : (was : Image) (places : Places) (is : Bool) → LeadsTo (groups was.log) places was.log → ((at : ℕ) → get nat_cmp places 0 ≡ Some (Some at) → ⊥)
    → 8192 ≤ length was.pages → (is ≡ true) ↔ (take 8 was.pages ≡ mark) → (is ≡ true) ↔ HasMark (replay was)
mark_in_area was places is leads none long said =
    let lacks : logged (groups was.log) 0 ≡ None = leads 0 ∙ no_place (get nat_cmp places 0) was.log none in
    iff_then said (mark_of (replay was) was.pages (ap (λ (o : Option (List ℕ)). option_or o (pages_of was.pages 0)) lacks ∙ page-there was.pages 0 (omega arith) (omega (arith, long))))

pub if_ok_both : {T E : Type 0} {P Q R : T → Type 0} (r : Result T E) → IfOk r P → IfOk r Q → ((x : T) → P x → Q x → R x) → IfOk r R
if_ok_both (Ok x) p q f = f x p q
if_ok_both (Err e) p q f = tt

-- Pages as they stand.

first_bytes : (n : ℕ) (bytes : List ℕ) → AreBytes bytes → AreBytes (take n bytes)
first_bytes zero bytes are i = omega arith
first_bytes (suc n) [] are i = omega arith
first_bytes (suc n) (b ∷ bytes) are zero = are 0
first_bytes (suc n) (b ∷ bytes) are (suc i) = first_bytes n bytes (λ j. are (suc j)) i

number_again : (bytes : List ℕ) → 4 ≤ length bytes → AreBytes bytes → big_bytes 4 (big_number 4 bytes) ≡ take 4 bytes
number_again bytes long are =
    let front = take 4 bytes in
    let same : big_number 4 bytes ≡ big_number 4 front = sym (big_from-take 0 4 4 bytes (omega arith)) in
    be_bytes_4 front (big_number 4 bytes) (omega (arith, long, length-take 4 bytes)) (first_bytes 4 bytes are) (same ∙ omega arith)

-- pages that were read are written as they stood
pub entries_again : (count : ℕ) (bytes : List ℕ) → length bytes ≡ 8196 * count → AreBytes bytes → entry_bytes (entries_in count bytes) ≡ bytes
entries_again zero [] long are = refl
entries_again zero (b ∷ bytes) long are = absurd (omega (arith, long))
entries_again (suc n) bytes long are =
    let rest : drop 8192 (drop 4 bytes) ≡ drop 8196 bytes = drop-drop 8192 4 bytes in
    let more = entries_again n (drop 8196 bytes) (omega (arith, long, length-drop 8196 bytes)) (λ i. rw get_or-drop (are (8196 + i))) in
    ap (λ (x : List ℕ). x ++ (take 8192 (drop 4 bytes) ++ entry_bytes (entries_in n (drop 8196 bytes)))) (number_again bytes (omega (arith, long)) are)
    ∙ ap (λ (x : List ℕ). take 4 bytes ++ (take 8192 (drop 4 bytes) ++ x)) (more ∙ sym rest)
    ∙ ap (λ (x : List ℕ). take 4 bytes ++ x) (take-append-drop 8192 (drop 4 bytes)) ∙ take-append-drop 4 bytes

-- pages in the midst of a group
pub entries_part : (first count total : ℕ) (bytes : List ℕ) → first + count ≤ total → entries_in count (drop (8196 * first) bytes) ≡ take count (drop first (entries_in total bytes))
entries_part zero zero total bytes fits = refl
entries_part zero (suc count) zero bytes fits = absurd (omega (arith, fits))
entries_part zero (suc count) (suc total) bytes fits = ap (λ (es : List Entry). page_at bytes ∷ es) (entries_part zero count total (drop 8196 bytes) (omega (arith, fits)))
entries_part (suc first) count zero bytes fits = absurd (omega (arith, fits))
entries_part (suc first) count (suc total) bytes fits =
    let place : 8196 * suc first ≡ 8196 + 8196 * first = omega arith in
    ap (λ (n : ℕ). entries_in count (drop n bytes)) place ∙ ap (λ (x : List ℕ). entries_in count x) (sym (drop-drop (8196 * first) 8196 bytes))
    ∙ entries_part first count total (drop 8196 bytes) (omega (arith, fits))

-- bytes that were read of a group's pages
pub part_read : {at begin given : ℕ} {into : List ℕ} (first count : ℕ) (log : List ℕ) → StandsAt at log → begin ≡ at + (13 + 8196 * first)
    → FillsPrefix given (8196 * count) into (drop begin log) → length into ≡ 8196 * count → AreBytes into
    → first + count ≤ length (group_of (drop at (usable log))).entries → into ≡ entry_bytes (take count (drop first (group_of (drop at (usable log))).entries))
part_read {at} {begin} {given} {into} first count log stands here gives long are fits =
    let r = reads_at at log stands in
    let total = group_page_count (drop at (usable log)) in
    let below : first + count ≤ total = let l = r.long in omega (arith, fits, l) in
    let room : 8196 * count ≤ length (drop begin log) = let f = r.fits in omega (arith, f, here, below, length-drop begin log) in
    let same : take (8196 * count) into ≡ take (8196 * count) (drop begin log) = given_all given (8196 * count) into (drop begin log) gives room in
    let place : drop begin log ≡ drop (8196 * first) (drop (at + 13) log) =
    ap (λ (n : ℕ). drop n log) (let h : begin ≡ at + 13 + 8196 * first = omega (arith, here) in h) ∙ sym (drop-drop (8196 * first) (at + 13) log) in
    sym (entries_again count into long are)
    ∙ ap (λ (es : List Entry). entry_bytes es) (
    entries-prefix count (8196 * count) into (drop begin log) (omega arith) same
    ∙ ap (λ (x : List ℕ). entries_in count x) place ∙ entries_part first count total (drop (at + 13) log) below
    ∙ ap (λ (es : List Entry). take count (drop first es)) r.entries
    )
