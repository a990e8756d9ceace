-- The groups of a log.
use Rattle.std.proofs.Common.{◌≡◌, ◌⊎◌, ℕ, zero, suc, ◌+◌, ◌-◌, ◌*◌, ◌<◌, ◌≤◌, List, [], ◌∷◌, ◌++◌, length, take, drop, refl, sym, ap, subst, ◌∙◌, arith, true, false, inl, inr, get_or}
use Rattle.std.proofs.Common.{get_or-take, length-drop}
use Rattle.std.proofs.lemmas.List.{drop-take, take-take, drop-drop}
use Rattle.std.specs.Prelude.{slice_index, ◌==◌}
use Rattle.std.proofs.lemmas.Bool.{false≢true, and_parts, and_from, leb-true, le-leb, ltb-true, lt-ltb, eqb-true}
use Rattle.std.specs.List.{AllByRecursion}
use Rattle.std.proofs.Common.{append_assoc, length-append, ◌^◌}
use Rattle.std.proofs.Math.Nat.{mod-eq_of_lt}
use Rattle.std.proofs.lemmas.List.{drop_at, take_at}
use Rattle.byteorder.specs.Endian.{big_number, big_bytes}
use Rattle.byteorder.specs.Numbers.{big_from-take, big_from-bytes, length-bytes_high_first}
use Rattle.nx_replay.specs.Log.{Entry, Group, entries_in, rise, group_page_count, group_size, group_of, is_group, groups_behind, end_of, entry_bytes, group_bytes, IsEntry, IsWhole}

-- to skip bytes is to drop them
pub behind-drop : (n : ℕ) (bytes : List ℕ) → groups_behind n bytes ≡ groups_behind 0 (drop n bytes)
unfolding groups_behind
behind-drop zero [] = refl
behind-drop (suc n) [] = refl
behind-drop (suc n) (b ∷ bs) = behind-drop n bs
behind-drop zero (b ∷ bs) = refl

thirteen : (x : ℕ) → 13 + x ≡ suc (12 + x)
thirteen x = omega arith

-- the first group, and those behind it
pub groups-first : (bytes : List ℕ) → is_group bytes ≡ true → groups_behind 0 bytes ≡ group_of bytes ∷ groups_behind 0 (drop (group_size (group_page_count bytes)) bytes)
unfolding groups_behind
groups-first [] is = absurd (false≢true is)
groups-first (b ∷ bs) is = rw (is, thirteen (8196 * group_page_count (b ∷ bs)), behind-drop (12 + 8196 * group_page_count (b ∷ bs)) bs) refl

pub groups-none : (bytes : List ℕ) → is_group bytes ≡ false → groups_behind 0 bytes ≡ []
unfolding groups_behind
groups-none [] is = refl
groups-none (b ∷ bs) is = rw is refl

pub length-entries_in : (n : ℕ) (bytes : List ℕ) → length (entries_in n bytes) ≡ n
length-entries_in zero bytes = refl
length-entries_in (suc n) bytes = ap suc (length-entries_in n (drop 8196 bytes))

-- a number reads only its bytes
pub number-prefix : (n m : ℕ) (c l : List ℕ) → n ≤ m → take m c ≡ take m l → big_number n c ≡ big_number n l
number-prefix n m c l fits same =
    sym (big_from-take 0 n m c (omega (arith, fits))) ∙ ap (λ (x : List ℕ). big_number n x) same ∙ big_from-take 0 n m l (omega (arith, fits))

-- what begins alike, begins alike further on
pub prefix-drop : (n m : ℕ) (c l : List ℕ) → take (n + m) c ≡ take (n + m) l → take m (drop n c) ≡ take m (drop n l)
prefix-drop n m c l same = sym (drop-take n m c) ∙ ap (λ (x : List ℕ). drop n x) same ∙ drop-take n m l

pub prefix-less : (n m : ℕ) (c l : List ℕ) → n ≤ m → take m c ≡ take m l → take n c ≡ take n l
prefix-less n m c l less same = sym (take-take n m c less) ∙ ap (λ (x : List ℕ). take n x) same ∙ take-take n m l less

pub entries-prefix : (n m : ℕ) (c l : List ℕ) → 8196 * n ≤ m → take m c ≡ take m l → entries_in n c ≡ entries_in n l
entries-prefix zero m c l fits same = refl
entries-prefix (suc n) m c l fits same =
    let more : 8196 + (m - 8196) ≡ m = omega (arith, fits) in
    let page = number-prefix 4 m c l (omega (arith, fits)) same in
    let bytes = prefix-drop 4 8192 c l (prefix-less 8196 m c l (omega (arith, fits)) same) in
    let rest = entries-prefix n (m - 8196) (drop 8196 c) (drop 8196 l) (omega (arith, fits)) (prefix-drop 8196 (m - 8196) c l (rw more same)) in
    rw (page, bytes, rest) refl

pub number-one : (c l : List ℕ) → take 1 c ≡ take 1 l → slice_index c 0 ≡ slice_index l 0
number-one c l same = sym (get_or-take 1 c 0 0 (omega arith)) ∙ ap (λ (x : List ℕ). get_or x 0 0) same ∙ get_or-take 1 l 0 0 (omega arith)

-- an open group stands at the beginning
pub record IsGroup (bytes : List ℕ) : Type 0 where
  pub gate : slice_index bytes 0 ≡ 1
  pub some : 1 ≤ group_page_count bytes
  pub few : group_page_count bytes ≤ 16777216
  pub whole : group_size (group_page_count bytes) < length bytes
  pub rises : rise 0 (entries_in (group_page_count bytes) (drop 13 bytes)) ≡ true

pub group_says : (bytes : List ℕ) → is_group bytes ≡ true → IsGroup bytes
group_says bytes is =
    let a = and_parts _ _ is in
    let b = and_parts _ _ a.1 in
    let c = and_parts _ _ b.1 in
    let d = and_parts _ _ c.1 in
    record { gate = eqb-true _ _ a.0; some = leb-true _ _ b.0; few = leb-true _ _ c.0; whole = ltb-true _ _ d.0; rises = d.1 }

pub says_group : (bytes : List ℕ) → IsGroup bytes → is_group bytes ≡ true
says_group bytes is =
    let one : (slice_index bytes 0 == 1) ≡ true = rw is.gate refl in
    and_from _ _ one (and_from _ _ (le-leb _ _ is.some) (and_from _ _ (le-leb _ _ is.few) (and_from _ _ (lt-ltb _ _ is.whole) is.rises)))

pub count-prefix : (c l : List ℕ) → take 13 c ≡ take 13 l → group_page_count c ≡ group_page_count l
unfolding group_page_count
count-prefix c l same = number-prefix 4 4 (drop 9 c) (drop 9 l) (omega arith) (prefix-drop 9 4 c l same)

-- whether a group stands at the beginning, and which, its bytes tell
pub group-prefix : (c l : List ℕ) → IsGroup l → take (group_size (group_page_count l)) c ≡ take (group_size (group_page_count l)) l → group_size (group_page_count l) < length c
    → IsGroup c × (group_of c ≡ group_of l) × (group_page_count c ≡ group_page_count l)
group-prefix c l is same long =
    let gate : slice_index c 0 ≡ slice_index l 0 = number-one c l (prefix-less 1 _ c l (omega arith) same) in
    let number = number-prefix 8 8 (drop 1 c) (drop 1 l) (omega arith) (prefix-drop 1 8 c l (prefix-less 9 _ c l (omega arith) same)) in
    let count : group_page_count c ≡ group_page_count l = count-prefix c l (prefix-less 13 _ c l (omega arith) same) in
    let entries = entries-prefix (group_page_count l) (8196 * group_page_count l) (drop 13 c) (drop 13 l) (omega arith) (prefix-drop 13 (8196 * group_page_count l) c l same) in (
      record {
        gate = gate ∙ is.gate;
        some = rw count is.some;
        few = rw count is.few;
        whole = rw count long;
        rises = rw (count, entries) is.rises;
      },
      rw (number, count, entries) refl,
      count,
    )

nothing_short : {A : Type 0} (xs : List A) → length xs ≤ 0 → xs ≡ []
nothing_short [] h = refl
nothing_short (x ∷ xs) h = absurd (omega (arith, h))

-- These bytes begin with the groups of l.
abbrev Continues : List ℕ → List ℕ → Type 0
Continues c l = groups_behind 0 c ≡ groups_behind 0 l ++ groups_behind 0 (drop (end_of (groups_behind 0 l)) c)

-- They have what stands up to the end of l's groups, and the gate behind the last one.
pub record HasPrefix (c l : List ℕ) : Type 0 where
  pub same : take (end_of (groups_behind 0 l)) c ≡ take (end_of (groups_behind 0 l)) l
  pub long : 0 < end_of (groups_behind 0 l) → end_of (groups_behind 0 l) < length c

end-first : (l : List ℕ) → is_group l ≡ true → end_of (groups_behind 0 l) ≡ group_size (group_page_count l) + end_of (groups_behind 0 (drop (group_size (group_page_count l)) l))
end-first l is = rw (groups-first l is, length-entries_in (group_page_count l) (drop 13 l)) refl

-- what stands up to the end decides which groups come first
pub groups-prefix : (fuel : ℕ) (c l : List ℕ) → length l ≤ fuel → HasPrefix c l → Continues c l
groups-prefix zero c l fits prefix = rw (groups-none l (rw (nothing_short l fits) refl)) refl
groups-prefix (suc fuel) c l fits prefix =
    elim (is_group l) as (λ b. is_group l ≡ b → Continues c l) [
      | false ↦ λ none. rw (groups-none l none) refl
      | true ↦ λ some.
          let size = group_size (group_page_count l) in
          let is = group_says l some in
          let behind = groups_behind 0 (drop size l) in
          let ends : end_of (groups_behind 0 l) ≡ size + end_of behind = end-first l some in
          let same : take (size + end_of behind) c ≡ take (size + end_of behind) l = rw ends at prefix.same in
          let long : size + end_of behind < length c = let less = prefix.long (omega (arith, ends)) in omega (arith, less, ends) in
          let first = group-prefix c l is (prefix-less size _ c l (omega arith) same) (omega (arith, long)) in
          let rest : Continues (drop size c) (drop size l) =
          groups-prefix fuel (drop size c) (drop size l) (omega (arith, fits, length-drop size l, is.whole)) (record {
            same = prefix-drop size (end_of behind) c l same;
            long = λ h. omega (arith, long, length-drop size c);
          }) in
          let here = groups-first c (says_group c first.0) in
          let whole : groups_behind 0 c ≡ group_of l ∷ (behind ++ groups_behind 0 (drop (size + end_of behind) c)) =
          here ∙ rw (first.1, first.2, rest, drop-drop (end_of behind) size c) refl in
          whole ∙ rw (ends, groups-first l some) refl
    ] refl

nothing-ended : groups_behind 0 (drop (end_of (groups_behind 0 [])) []) ≡ []
unfolding groups_behind
nothing-ended = refl

-- behind the end stands no group
pub groups-ended : (fuel : ℕ) (l : List ℕ) → length l ≤ fuel → groups_behind 0 (drop (end_of (groups_behind 0 l)) l) ≡ []
groups-ended zero l fits = subst (λ (x : List ℕ). groups_behind 0 (drop (end_of (groups_behind 0 x)) x) ≡ []) (sym (nothing_short l fits)) nothing-ended
groups-ended (suc fuel) l fits =
    elim (is_group l) as (λ b. is_group l ≡ b → groups_behind 0 (drop (end_of (groups_behind 0 l)) l) ≡ []) [
      | false ↦ λ none. rw (groups-none l none) (groups-none l none)
      | true ↦ λ some.
          let size = group_size (group_page_count l) in
          let rest = groups-ended fuel (drop size l) (omega (arith, fits, length-drop size l, (group_says l some).whole)) in
          rw (end-first l some, sym (drop-drop (end_of (groups_behind 0 (drop size l))) size l)) rest
    ] refl

pub zero_or_more : (n : ℕ) → (n ≡ 0) ⊎ (0 < n)
zero_or_more zero = inl refl
zero_or_more (suc n) = inr (omega arith)

-- the groups end within the log, the last one's next gate counted
pub end-within : (fuel : ℕ) (l : List ℕ) → length l ≤ fuel → 0 < end_of (groups_behind 0 l) → end_of (groups_behind 0 l) < length l
end-within zero l fits h = absurd (let none = nothing_short l fits in let zero_end : end_of (groups_behind 0 l) ≡ 0 = rw (none, groups-none [] refl) refl in omega (arith, h, zero_end))
end-within (suc fuel) l fits h =
    elim (is_group l) as (λ b. is_group l ≡ b → end_of (groups_behind 0 l) < length l) [
      | false ↦ λ none. let nothing : end_of (groups_behind 0 l) ≡ 0 = rw (groups-none l none) refl in absurd (omega (arith, h, nothing))
      | true ↦ λ some.
          let size = group_size (group_page_count l) in
          let is = group_says l some in
          let behind = groups_behind 0 (drop size l) in
          let ends : end_of (groups_behind 0 l) ≡ size + end_of behind = end-first l some in
          let less : end_of behind < length (drop size l) =
          elim (zero_or_more (end_of behind)) [
            | inl none ↦ omega (arith, none, is.whole, length-drop size l)
            | inr more ↦ end-within fuel (drop size l) (omega (arith, fits, length-drop size l, is.whole)) more
          ] in
          omega (arith, ends, less, length-drop size l, is.whole)
    ] refl

-- Writing a group.

-- a list that begins with so many bytes of a number says it
pub number-written : (n x : ℕ) (rest : List ℕ) → x < 256 ^ n → big_number n (big_bytes n x ++ rest) ≡ x
number-written n x rest fits = big_from-bytes n x rest ∙ mod-eq_of_lt fits

pub length-entry_bytes : (es : List Entry) → AllByRecursion IsEntry es → length (entry_bytes es) ≡ 8196 * length es
length-entry_bytes [] are = refl
length-entry_bytes (e ∷ es) are =
    let rest = length-entry_bytes es are.1 in
    omega (arith, rest, (are.0).long, length-append (big_bytes 4 e.page) (e.bytes ++ entry_bytes es), length-append e.bytes (entry_bytes es), length-bytes_high_first 4 e.page)

entry-first : (n : ℕ) (prefix bytes tail : List ℕ) → length prefix ≡ 4 → length bytes ≡ 8192
    → entries_in (suc n) (prefix ++ (bytes ++ tail)) ≡ record { page = big_number 4 (prefix ++ (bytes ++ tail)); bytes = bytes } ∷ entries_in n tail
entry-first n prefix bytes tail four long =
    let behind : drop 4 (prefix ++ (bytes ++ tail)) ≡ bytes ++ tail = drop_at prefix (bytes ++ tail) 4 four in
    let here : take 8192 (bytes ++ tail) ≡ bytes = take_at bytes tail 8192 long in
    let next : drop 8196 (prefix ++ (bytes ++ tail)) ≡ tail =
    sym (drop-drop 8192 4 (prefix ++ (bytes ++ tail))) ∙ ap (λ (x : List ℕ). drop 8192 x) behind ∙ drop_at bytes tail 8192 long in
    rw (behind, here, next) refl

entry-cons : (p q : ℕ) (bytes : List ℕ) (xs ys : List Entry) → p ≡ q → xs ≡ ys → record { page = p; bytes = bytes } ∷ xs ≡ record { page = q; bytes = bytes } ∷ ys
entry-cons p q bytes xs ys same rest = rw (same, rest) refl

-- what is written of pages is read back
pub entries-written : (es : List Entry) (rest : List ℕ) → AllByRecursion IsEntry es → entries_in (length es) (entry_bytes es ++ rest) ≡ es
entries-written [] rest are = refl
entries-written (e ∷ es) rest are =
    let tail = entry_bytes es ++ rest in
    let prefix = big_bytes 4 e.page in
    let split : (prefix ++ (e.bytes ++ entry_bytes es)) ++ rest ≡ prefix ++ (e.bytes ++ tail) =
    append_assoc prefix (e.bytes ++ entry_bytes es) rest ∙ ap (λ (x : List ℕ). prefix ++ x) (append_assoc e.bytes (entry_bytes es) rest) in
    let low : e.page < 16777216 = (are.0).low in
    let page : big_number 4 (prefix ++ (e.bytes ++ tail)) ≡ e.page = number-written 4 e.page (e.bytes ++ tail) (omega (arith, low)) in
    ap (λ (x : List ℕ). entries_in (suc (length es)) x) split
    ∙ entry-first (length es) prefix e.bytes tail (length-bytes_high_first 4 e.page) (are.0).long
    ∙ entry-cons _ e.page e.bytes _ es page (entries-written es rest are.1)

-- what stands at the beginning of a gate and a group
pub record Begins (g : Group) (bytes rest : List ℕ) : Type 0 where
  pub number : big_number 8 (drop 1 bytes) ≡ g.number
  pub count : group_page_count bytes ≡ length g.entries
  pub entries : drop 13 bytes ≡ entry_bytes g.entries ++ rest

parts-begin : {rest : List ℕ} (g : Group) (gate : ℕ) (a b : List ℕ) → length a ≡ 8 → length b ≡ 4
    → big_number 8 (a ++ (b ++ (entry_bytes g.entries ++ rest))) ≡ g.number → big_number 4 (b ++ (entry_bytes g.entries ++ rest)) ≡ length g.entries
    → Begins g (gate ∷ (a ++ (b ++ (entry_bytes g.entries ++ rest)))) rest
unfolding group_page_count
parts-begin {rest = rest} g gate a b eight four number count =
    let tail = entry_bytes g.entries ++ rest in
    let behind : drop 8 (a ++ (b ++ tail)) ≡ b ++ tail = drop_at a (b ++ tail) 8 eight in
    record {
      number = number;
      count = ap (λ (x : List ℕ). big_number 4 x) behind ∙ count;
      entries = sym (drop-drop 4 8 (a ++ (b ++ tail))) ∙ ap (λ (x : List ℕ). drop 4 x) behind ∙ drop_at b tail 4 four;
    }

pub group-begins : (g : Group) (gate : ℕ) (rest : List ℕ) → IsWhole g → Begins g (gate ∷ (group_bytes g ++ rest)) rest
unfolding group_bytes
group-begins g gate rest whole =
    let a = big_bytes 8 g.number in
    let b = big_bytes 4 (length g.entries) in
    let es = entry_bytes g.entries in
    let split : group_bytes g ++ rest ≡ a ++ (b ++ (es ++ rest)) = append_assoc a (b ++ es) rest ∙ ap (λ (x : List ℕ). a ++ x) (append_assoc b es rest) in
    let number : g.number < 2 ^ 64 = whole.number in
    let few : length g.entries ≤ 16777216 = whole.few in
    subst (λ (x : List ℕ). Begins g (gate ∷ x) rest) (sym split) (
    parts-begin g gate a b (length-bytes_high_first 8 g.number) (length-bytes_high_first 4 (length g.entries))
    (number-written 8 g.number (b ++ (es ++ rest)) (omega (arith, number)))
    (number-written 4 (length g.entries) (es ++ rest) (omega (arith, few)))
    )

pub length-group_bytes : (g : Group) → IsWhole g → length (group_bytes g) ≡ 12 + 8196 * length g.entries
unfolding group_bytes
length-group_bytes g whole =
    let a = big_bytes 8 g.number in
    let b = big_bytes 4 (length g.entries) in
    let es = entry_bytes g.entries in
    omega (arith, length-append a (b ++ es), length-append b es, length-bytes_high_first 8 g.number, length-bytes_high_first 4 (length g.entries), length-entry_bytes g.entries whole.entries)

group-same : (a b : Group) → a.number ≡ b.number → a.entries ≡ b.entries → a ≡ b
group-same a b number entries = λ i. record { number = number i; entries = entries i }

-- an open gate, a group and a gate are that group, and what stands at that gate
pub groups-written : (g : Group) (gate : ℕ) (rest : List ℕ) → IsWhole g
    → groups_behind 0 (1 ∷ (group_bytes g ++ gate ∷ rest)) ≡ g ∷ groups_behind 0 (gate ∷ rest)
groups-written g gate rest whole =
    let bytes = 1 ∷ (group_bytes g ++ gate ∷ rest) in
    let begins = group-begins g 1 (gate ∷ rest) whole in
    let long = length-group_bytes g whole in
    let entries : entries_in (group_page_count bytes) (drop 13 bytes) ≡ g.entries = rw (begins.count, begins.entries) (entries-written g.entries (gate ∷ rest) whole.entries) in
    let is : IsGroup bytes = record {
      gate = refl;
      some = rw begins.count whole.some;
      few = rw begins.count whole.few;
      whole = let size : group_size (group_page_count bytes) ≡ 13 + 8196 * length g.entries = rw begins.count refl in
          omega (arith, size, long, length-append (group_bytes g) (gate ∷ rest));
      rises = rw entries whole.rises;
    } in
    let same : group_of bytes ≡ g = group-same (group_of bytes) g begins.number entries in
    let size : length (1 ∷ group_bytes g) ≡ group_size (group_page_count bytes) = let c : group_page_count bytes ≡ length g.entries = begins.count in omega (arith, c, long) in
    let behind : drop (group_size (group_page_count bytes)) bytes ≡ gate ∷ rest = drop_at (1 ∷ group_bytes g) (gate ∷ rest) (group_size (group_page_count bytes)) size in
    groups-first bytes (says_group bytes is) ∙ rw (same, behind) refl
