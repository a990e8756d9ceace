-- What a reader holds of a stream that comes in pieces.
use Rattle.std.proofs.Common.{◌≡◌, ◌⊎◌, ℕ, zero, suc, ◌+◌, ◌-◌, ◌*◌, ◌<◌, ◌≤◌, true, List, [], ◌∷◌, ◌++◌, length, take, drop, refl, sym, ap, subst, ◌∙◌, arith, inl, inr}
use Rattle.std.proofs.Common.{length-append, length-drop, append_assoc}
use Rattle.std.proofs.lemmas.List.{drop-drop, take_at, take_all, drop_all, take-append-le, drop-append-le, append-nil, length-take-le, take-append-drop, take_rest}
use Rattle.std.proofs.lemmas.Bool.{and_parts, and_from, leb-true, le-leb, ltb-true, lt-ltb}
use Rattle.std.specs.Prelude.{min}
use Rattle.byteorder.specs.Endian.{big_number}
use Rattle.byteorder.specs.Numbers.{big_from-append}
use Rattle.nx_replay.specs.Log.{Entry, Group, entries_in, rise}
use Rattle.nx_replay.proofs.GroupLemmas.{entries-prefix, zero_or_more}
use Rattle.nx_ship.specs.Stream.{count_in, size_with, group_in, BeginsWithHeader, IsGood, Begins}
use Rattle.nx_ship.specs.declared.reader.Reader.{Reader}
use Rattle.nx_ship.specs.Reading.{Grows, unit_of, page_of, least_behind, AreUnderWay, HoldsPart, HoldsHead, HoldsPages, HasFed, IsSpoilt, TakesHead, TakesPage, MayFollow, page_in}

-- More bytes behind bytes.

pub number-append : (n : ℕ) (xs ys : List ℕ) → n ≤ length xs → big_number n (xs ++ ys) ≡ big_number n xs
number-append n xs ys fits = big_from-append n xs ys fits

pub count-append : (xs ys : List ℕ) → 12 ≤ length xs → count_in (xs ++ ys) ≡ count_in xs
count-append xs ys fits =
    ap (λ (x : List ℕ). big_number 4 x) (drop-append-le 8 xs ys (omega (arith, fits))) ∙ number-append 4 (drop 8 xs) ys (omega (arith, fits, length-drop 8 xs))

pub entries-append : (n : ℕ) (xs ys : List ℕ) → 8196 * n ≤ length xs → entries_in n (xs ++ ys) ≡ entries_in n xs
entries-append n xs ys fits = entries-prefix n (length xs) (xs ++ ys) xs fits (take_at xs ys (length xs) refl ∙ sym (take_all (length xs) xs (omega arith)))

pub page-append : (xs ys : List ℕ) → 8196 ≤ length xs → page_in (xs ++ ys) ≡ page_in xs
page-append xs ys fits =
    let number : big_number 4 (xs ++ ys) ≡ big_number 4 xs = number-append 4 xs ys (omega (arith, fits)) in
    let bytes : take 8192 (drop 4 (xs ++ ys)) ≡ take 8192 (drop 4 xs) =
    ap (λ (x : List ℕ). take 8192 x) (drop-append-le 4 xs ys (omega (arith, fits))) ∙ take-append-le 8192 (drop 4 xs) ys (omega (arith, fits, length-drop 4 xs)) in
    λ i. record { page = number i; bytes = bytes i }

-- the page behind so many
pub entries_split : (k m : ℕ) (bytes : List ℕ) → entries_in (k + suc m) bytes ≡ entries_in k bytes ++ page_in (drop (8196 * k) bytes) ∷ entries_in m (drop (8196 * suc k) bytes)
entries_split zero m bytes =
    ap (λ (n : ℕ). entries_in n bytes) (let h : 0 + suc m ≡ suc m = omega arith in h)
entries_split (suc k) m bytes =
    let count : suc k + suc m ≡ suc (k + suc m) = omega arith in
    let tail = drop 8196 bytes in
    let a : 8196 + 8196 * k ≡ 8196 * suc k = omega arith in
    let b : 8196 + 8196 * suc k ≡ 8196 * suc (suc k) = omega arith in
    let page : drop (8196 * k) tail ≡ drop (8196 * suc k) bytes = drop-drop (8196 * k) 8196 bytes ∙ ap (λ (n : ℕ). drop n bytes) a in
    let behind : drop (8196 * suc k) tail ≡ drop (8196 * suc (suc k)) bytes = drop-drop (8196 * suc k) 8196 bytes ∙ ap (λ (n : ℕ). drop n bytes) b in
    ap (λ (n : ℕ). entries_in n bytes) count
    ∙ ap (λ (es : List Entry). page_in bytes ∷ es) (
    entries_split k m tail ∙ ap (λ (x : List ℕ). entries_in k tail ++ page_in x ∷ entries_in m (drop (8196 * suc k) tail)) page
    ∙ ap (λ (x : List ℕ). entries_in k tail ++ page_in (drop (8196 * suc k) bytes) ∷ entries_in m x) behind
    )

-- Rising numbers.

pub rise_more : (es : List Entry) (e : Entry) (least : ℕ) → rise least es ≡ true → least_behind least es ≤ e.page → e.page < 16777216 → rise least (es ++ e ∷ []) ≡ true
rise_more [] e least rises from low = and_from _ _ (and_from _ _ (le-leb _ _ from) (lt-ltb _ _ low)) refl
rise_more (x ∷ es) e least rises from low =
    let a = and_parts _ _ rises in
    and_from _ _ a.0 (rise_more es e (x.page + 1) a.1 from low)

pub rise_last : (es fs : List Entry) (e : Entry) (least : ℕ) → rise least (es ++ e ∷ fs) ≡ true → (least_behind least es ≤ e.page) × (e.page < 16777216)
rise_last [] fs e least rises =
    let a = and_parts _ _ rises in
    let b = and_parts _ _ a.0 in
    (leb-true _ _ b.0, ltb-true _ _ b.1)
rise_last (x ∷ es) fs e least rises = rise_last es fs e (x.page + 1) (and_parts _ _ rises).1

pub least_more : (es : List Entry) (e : Entry) (least : ℕ) → least_behind least (es ++ e ∷ []) ≡ e.page + 1
least_more [] e least = refl
least_more (x ∷ es) e least = least_more es e (x.page + 1)

pub header_more : (number : ℕ) (es fs : List Entry) → 0 < length es → BeginsWithHeader number es → BeginsWithHeader number (es ++ fs)
header_more number [] fs some has = absurd has
header_more number (e ∷ es) fs some has = has

-- Groups.

pub record SameGood (xs ys : List ℕ) : Type 0 where
  pub good : IsGood (xs ++ ys)
  pub count : count_in (xs ++ ys) ≡ count_in xs
  pub group : group_in (xs ++ ys) ≡ group_in xs

pub good-append : (xs ys : List ℕ) → IsGood xs → SameGood xs ys
good-append xs ys good =
    let whole : size_with (count_in xs) ≤ length xs = good.whole in
    let count : count_in (xs ++ ys) ≡ count_in xs = count-append xs ys (omega (arith, whole)) in
    let number : big_number 8 (xs ++ ys) ≡ big_number 8 xs = number-append 8 xs ys (omega (arith, whole)) in
    let entries : entries_in (count_in (xs ++ ys)) (drop 12 (xs ++ ys)) ≡ entries_in (count_in xs) (drop 12 xs) =
    ap (λ (n : ℕ). entries_in n (drop 12 (xs ++ ys))) count ∙ ap (λ (x : List ℕ). entries_in (count_in xs) x) (drop-append-le 12 xs ys (omega (arith, whole)))
    ∙ entries-append (count_in xs) (drop 12 xs) ys (omega (arith, whole, length-drop 12 xs)) in
    record {
      good = record {
        some = let s = good.some in omega (arith, s, count);
        few = let f = good.few in omega (arith, f, count);
        whole = omega (arith, whole, count, length-append xs ys);
        rises = ap (λ (es : List Entry). rise 0 es) entries ∙ good.rises;
        header = subst (λ (n : ℕ). BeginsWithHeader n (entries_in (count_in (xs ++ ys)) (drop 12 (xs ++ ys)))) (sym number)
            (subst (λ (es : List Entry). BeginsWithHeader (big_number 8 xs) es) (sym entries) good.header);
      };
      count = count;
      group = λ i. record { number = number i; entries = entries i };
    }

pub begins-append : (gs : List Group) (bytes rest more : List ℕ) → Begins gs bytes rest → Begins gs (bytes ++ more) (rest ++ more)
begins-append [] bytes rest more a = ap (λ (x : List ℕ). x ++ more) a
begins-append (g ∷ gs) bytes rest more a =
    let same = good-append bytes more a.0 in
    let size = size_with (count_in bytes) in
    let behind : drop (size_with (count_in (bytes ++ more))) (bytes ++ more) ≡ drop size bytes ++ more =
    ap (λ (n : ℕ). drop (size_with n) (bytes ++ more)) same.count ∙ drop-append-le size bytes more (a.0).whole in
    (same.good, a.1 ∙ sym same.group, subst (λ (x : List ℕ). Begins gs x (rest ++ more)) (sym behind) (begins-append gs (drop size bytes) rest more a.2))

pub begins-more : (gs : List Group) (bytes rest : List ℕ) → Begins gs bytes rest → IsGood rest → Begins (gs ++ group_in rest ∷ []) bytes (drop (size_with (count_in rest)) rest)
begins-more [] bytes rest a good =
    subst (λ (x : List ℕ). Begins (group_in rest ∷ []) x (drop (size_with (count_in rest)) rest)) a (good, refl, refl)
begins-more (g ∷ gs) bytes rest a good = (a.0, a.1, begins-more gs (drop (size_with (count_in bytes)) bytes) rest a.2 good)

-- the last group stands behind the others
pub record BeginsBefore (gs : List Group) (g : Group) (bytes : List ℕ) : Type 0 where
  pub rest : List ℕ
  pub begins : Begins gs bytes rest
  pub good : IsGood rest
  pub is : g ≡ group_in rest

pub begins-before : (gs : List Group) (g : Group) (bytes rest : List ℕ) → Begins (gs ++ g ∷ []) bytes rest → BeginsBefore gs g bytes
begins-before [] g bytes rest a = record { rest = bytes; begins = refl; good = a.0; is = a.1 }
begins-before (h ∷ gs) g bytes rest a =
    let more = begins-before gs g (drop (size_with (count_in bytes)) bytes) rest a.2 in
    record { rest = more.rest; begins = (a.0, a.1, more.begins); good = more.good; is = more.is }

-- The unit: what was taken of a head, or of a page with its number.

pub length-unit : (r : Reader) → length (unit_of r) ≡ length r.front.items + r.filled
length-unit r =
    let whole = r.whole in
    let within = r.within in
    length-append r.front.items (take r.filled r.page.bytes)
    ∙ ap (λ (n : ℕ). length r.front.items + n) (length-take-le r.filled r.page.bytes (omega (arith, whole, within)))

-- the page in it
pub page_whole : (front page : List ℕ) (filled : ℕ) → length front ≡ 4 → filled ≡ 8192 → length page ≡ 8192
    → page_in (front ++ take filled page) ≡ record { page = big_number 4 front; bytes = page }
page_whole front page filled first full long =
    let taken : take filled page ≡ page = take_all filled page (omega (arith, full, long)) in
    let behind : drop 4 (front ++ take filled page) ≡ page =
    drop-append-le 4 front (take filled page) (omega (arith, first)) ∙ ap (λ (x : List ℕ). x ++ take filled page) (drop_all 4 front (omega (arith, first))) ∙ taken in
    let number : big_number 4 (front ++ take filled page) ≡ big_number 4 front = number-append 4 front (take filled page) (omega (arith, first)) in
    let bytes : take 8192 (drop 4 (front ++ take filled page)) ≡ page = ap (λ (x : List ℕ). take 8192 x) behind ∙ take_all 8192 page (omega (arith, long)) in
    λ i. record { page = number i; bytes = bytes i }

-- bytes that go to what stands before a page, and those that go to the page
pub unit_grows : (front held bytes : List ℕ) (k : ℕ) → (held ≡ []) ⊎ (k ≡ 0) → (front ++ take k bytes) ++ (held ++ drop k bytes) ≡ (front ++ held) ++ bytes
unit_grows front held bytes k (inl none) =
    ap (λ (h : List ℕ). (front ++ take k bytes) ++ (h ++ drop k bytes)) none
    ∙ append_assoc front (take k bytes) (drop k bytes)
    ∙ ap (λ (b : List ℕ). front ++ b) (take-append-drop k bytes)
    ∙ ap (λ (f : List ℕ). f ++ bytes) (sym (append-nil front))
    ∙ ap (λ (h : List ℕ). (front ++ h) ++ bytes) (sym none)
unit_grows front held bytes k (inr none) =
    ap (λ (n : ℕ). (front ++ take n bytes) ++ (held ++ drop n bytes)) none
    ∙ ap (λ (f : List ℕ). f ++ (held ++ bytes)) (append-nil front)
    ∙ sym (append_assoc front held bytes)

-- the bytes behind so many
pub rest_long : (k : ℕ) (bytes : List ℕ) → length (take (length bytes - k) (drop k bytes)) ≡ length bytes - k
rest_long k bytes = ap (λ (x : List ℕ). length x) (take_rest bytes k) ∙ length-drop k bytes

pub grown_unit : (old : Reader) (front page bytes : List ℕ) (k : ℕ) → front ≡ old.front.items ++ take k bytes
    → take (old.filled + length (take (length bytes - k) (drop k bytes))) page ≡ take old.filled old.page.bytes ++ take (length bytes - k) (drop k bytes)
    → (take old.filled old.page.bytes ≡ []) ⊎ (k ≡ 0) → front ++ take (old.filled + (length bytes - k)) page ≡ unit_of old ++ bytes
grown_unit old front page bytes k first behind one =
    ap (λ (f : List ℕ). f ++ take (old.filled + (length bytes - k)) page) first
    ∙ ap (λ (n : ℕ). (old.front.items ++ take k bytes) ++ take (old.filled + n) page) (sym (rest_long k bytes))
    ∙ ap (λ (x : List ℕ). (old.front.items ++ take k bytes) ++ x) (behind ∙ ap (λ (x : List ℕ). take old.filled old.page.bytes ++ x) (take_rest bytes k))
    ∙ unit_grows old.front.items (take old.filled old.page.bytes) bytes k one

-- of so many bytes this many go before the page
module _ (r : Reader) (n k : ℕ) (number : 0 < r.count → k ≡ min (4 - length r.front.items) n) where
  pub page_fits : (r.count ≡ 0 → k ≡ n) → (0 < r.count → n ≤ 8196 - length (unit_of r)) → r.filled + (n - k) ≤ 8192
  page_fits head fits =
      let within = r.within in
      elim (zero_or_more r.count) [
        | inl none ↦ let all = head none in omega (arith, within, all)
        | inr some ↦
            let room = fits some in
            let first = number some in
            let long = length-unit r in
            let short = r.number_short some in
            elim (zero_or_more r.filled) [
              | inl empty ↦ omega (arith, room, first, long, short, empty)
              | inr begun ↦ let full = r.number_first begun in omega (arith, room, first, long, full)
            ]
      ]

  pub before_page : (take r.filled r.page.bytes ≡ []) ⊎ (k ≡ 0)
  before_page =
      elim (zero_or_more r.filled) [
        | inl empty ↦ inl (ap (λ (m : ℕ). take m r.page.bytes) empty)
        | inr begun ↦
            inr (elim (zero_or_more r.count) [
              | inl none ↦ absurd (let empty = r.head none in omega (arith, empty, begun))
              | inr some ↦ let first = number some in let full = r.number_first begun in omega (arith, first, full)
            ])
      ]

-- a page that is whole
pub page_in_unit : (r : Reader) → 0 < r.count → 8196 ≤ length (unit_of r) → page_in (unit_of r) ≡ page_of (big_number 4 r.front.items) r
page_in_unit r some whole =
    let long = length-unit r in
    let within = r.within in
    let short = r.number_short some in
    page_whole r.front.items r.page.bytes r.filled (omega (arith, long, within, short, whole)) (omega (arith, long, within, short, whole)) r.whole

-- The unit grows.

pub grown_head : {x held : List ℕ} {es : List Entry} {old new : Reader} → Grows x old new → HoldsHead old held es → HoldsHead new (held ++ x) es
grown_head {x = x} grows is = record { same = ap (λ (b : List ℕ). b ++ x) is.same ∙ sym grows.unit; none = is.none }

pub grown_pages : {x held : List ℕ} {es : List Entry} {old new : Reader} → Grows x old new → HoldsPages old held es → HoldsPages new (held ++ x) es
grown_pages {x = x} {held = held} {es = es} {old = old} {new = new} grows is =
    let k = old.taken in
    let long : length held ≡ size_with k + length (unit_of old) = is.long in
    let same : new.taken ≡ k = grows.taken in
    let unit : length (unit_of new) ≡ length (unit_of old) + length x = ap (λ (b : List ℕ). length b) grows.unit ∙ length-append (unit_of old) x in
    record {
      number = number-append 8 held x (omega (arith, long)) ∙ is.number ∙ sym grows.number;
      count = count-append held x (omega (arith, long)) ∙ is.count ∙ sym grows.count;
      few = let f = is.few in let c = grows.count in omega (arith, f, c);
      many = is.many ∙ sym same;
      long = omega (arith, long, same, unit, length-append held x);
      pages = ap (λ (n : ℕ). entries_in n (drop 12 (held ++ x))) same ∙ ap (λ (b : List ℕ). entries_in k b) (drop-append-le 12 held x (omega (arith, long)))
          ∙ entries-append k (drop 12 held) x (omega (arith, long, length-drop 12 held)) ∙ is.pages;
      unit = ap (λ (n : ℕ). drop (size_with n) (held ++ x)) same ∙ drop-append-le (size_with k) held x (omega (arith, long)) ∙ ap (λ (b : List ℕ). b ++ x) is.unit ∙ sym grows.unit;
      rises = is.rises;
      least = grows.least ∙ is.least;
      header = λ some. subst (λ (n : ℕ). BeginsWithHeader n es) (sym grows.number) (is.header some);
    }

-- A head was taken.

pub head_taken : {held : List ℕ} {es : List Entry} {mid new : Reader} → HoldsHead mid held es → length (unit_of mid) ≡ 12 → TakesHead mid new → HoldsPages new held es
head_taken {held = held} {es = es} {mid = mid} {new = new} is full takes =
    let none : es ≡ [] = is.none in
    let long : length held ≡ 12 = ap (λ (b : List ℕ). length b) is.same ∙ full in
    let no_unit : length (unit_of new) ≡ 0 = ap (λ (b : List ℕ). length b) takes.unit in
    let no_pages : new.taken ≡ 0 = takes.taken in
    let empty : length es ≡ 0 = ap (λ (x : List Entry). length x) none in
    record {
      number = ap (λ (b : List ℕ). big_number 8 b) is.same ∙ sym takes.number;
      count = ap (λ (b : List ℕ). count_in b) is.same ∙ sym takes.count;
      few = takes.few;
      many = omega (arith, empty, no_pages);
      long = omega (arith, long, no_unit, no_pages);
      pages = ap (λ (n : ℕ). entries_in n (drop 12 held)) no_pages ∙ sym none;
      unit = drop_all (size_with new.taken) held (omega (arith, long, no_pages)) ∙ sym takes.unit;
      rises = ap (λ (x : List Entry). rise 0 x) none;
      least = takes.least ∙ ap (λ (x : List Entry). least_behind 0 x) (sym none);
      header = λ some. absurd (omega (arith, some, empty));
    }

pub head_refused : (more : List ℕ) {held : List ℕ} {es : List Entry} {mid : Reader} → HoldsHead mid held es → length (unit_of mid) ≡ 12
    → (1 ≤ count_in (unit_of mid) → count_in (unit_of mid) ≤ 16777216 → ⊥) → IsGood (held ++ more) → ⊥
head_refused more {held = held} {mid = mid} is full refused good =
    let long : length held ≡ 12 = ap (λ (b : List ℕ). length b) is.same ∙ full in
    let count : count_in (held ++ more) ≡ count_in (unit_of mid) = count-append held more (omega (arith, long)) ∙ ap (λ (b : List ℕ). count_in b) is.same in
    let some = good.some in
    let few = good.few in
    refused (omega (arith, count, some)) (omega (arith, count, few))

-- A page was taken.

no_pages_yet : (es : List Entry) → (es ≡ []) ⊎ (0 < length es)
no_pages_yet [] = inl refl
no_pages_yet (e ∷ es) = inr (omega arith)

module _ {held : List ℕ} {es : List Entry} {mid : Reader} (is : HoldsPages mid held es) (full : length (unit_of mid) ≡ 8196) where
  page_stands : (more : List ℕ) → page_in (drop (8196 * mid.taken) (drop 12 (held ++ more))) ≡ page_in (unit_of mid)
  page_stands more =
      let k = mid.taken in
      let long : length held ≡ size_with k + length (unit_of mid) = is.long in
      ap (λ (x : List ℕ). page_in x) (drop-drop (8196 * k) 12 (held ++ more) ∙ drop-append-le (size_with k) held more (omega (arith, long)) ∙ ap (λ (x : List ℕ). x ++ more) is.unit)
      ∙ page-append (unit_of mid) more (omega (arith, full))

  pages_stand : (more : List ℕ) → entries_in mid.taken (drop 12 (held ++ more)) ≡ es
  pages_stand more =
      let k = mid.taken in
      let long : length held ≡ size_with k + length (unit_of mid) = is.long in
      ap (λ (b : List ℕ). entries_in k b) (drop-append-le 12 held more (omega (arith, long)))
      ∙ entries-append k (drop 12 held) more (omega (arith, long, length-drop 12 held)) ∙ is.pages

  -- the group's pages, so far and the next
  split_at : (more : List ℕ) (m : ℕ) → (rest : List Entry) × (entries_in (mid.taken + suc m) (drop 12 (held ++ more)) ≡ es ++ page_in (unit_of mid) ∷ rest)
  split_at more m =
      let k = mid.taken in
      let bytes = drop 12 (held ++ more) in
      let rest = entries_in m (drop (8196 * suc k) bytes) in (
        rest,
        entries_split k m bytes ∙ ap (λ (x : List Entry). x ++ page_in (drop (8196 * k) bytes) ∷ rest) (pages_stand more)
            ∙ ap (λ (e : Entry). es ++ e ∷ rest) (page_stands more),
      )

  pub page_refused : (more : List ℕ) → mid.taken < mid.count → (MayFollow mid (page_in (unit_of mid)) → ⊥) → IsGood (held ++ more) → ⊥
  page_refused more left refused good =
      let k = mid.taken in
      let long : length held ≡ size_with k + length (unit_of mid) = is.long in
      let count : count_in (held ++ more) ≡ mid.count = count-append held more (omega (arith, long)) ∙ is.count in
      let m = mid.count - suc k in
      let here : count_in (held ++ more) ≡ k + suc m = omega (arith, count, left) in
      let split = split_at more m in
      let all : entries_in (count_in (held ++ more)) (drop 12 (held ++ more)) ≡ es ++ page_in (unit_of mid) ∷ split.0 =
      ap (λ (n : ℕ). entries_in n (drop 12 (held ++ more))) here ∙ split.1 in
      let rises : rise 0 (es ++ page_in (unit_of mid) ∷ split.0) ≡ true = sym (ap (λ (x : List Entry). rise 0 x) all) ∙ good.rises in
      let last = rise_last es split.0 (page_in (unit_of mid)) 0 rises in
      let number : big_number 8 (held ++ more) ≡ mid.number = number-append 8 held more (omega (arith, long)) ∙ is.number in
      let header : BeginsWithHeader mid.number (es ++ page_in (unit_of mid) ∷ split.0) =
      subst (λ (n : ℕ). BeginsWithHeader n (es ++ page_in (unit_of mid) ∷ split.0)) number (subst (λ (x : List Entry). BeginsWithHeader (big_number 8 (held ++ more)) x) all good.header) in
      refused (record {
        least = let l = is.least in let from = last.0 in omega (arith, l, from);
        low = last.1;
        header = λ none.
            elim (no_pages_yet es) [
              | inl empty ↦ subst (λ (x : List Entry). BeginsWithHeader mid.number (x ++ page_in (unit_of mid) ∷ split.0)) empty header
              | inr some ↦ absurd (let m = is.many in omega (arith, m, some, none))
            ];
      })

  pub page_taken : {page : Entry} {new : Reader} → TakesPage page mid new → HoldsPages new held (es ++ page ∷ [])
  page_taken {page = page} {new = new} takes =
      let k = mid.taken in
      let e = page in
      let long : length held ≡ size_with k + length (unit_of mid) = is.long in
      let count : new.taken ≡ k + 1 = takes.taken in
      let no_unit : length (unit_of new) ≡ 0 = ap (λ (b : List ℕ). length b) takes.unit in
      let more : entries_in new.taken (drop 12 held) ≡ es ++ page_in (unit_of mid) ∷ [] =
      ap (λ (n : ℕ). entries_in n (drop 12 held)) (let h : new.taken ≡ k + suc 0 = omega (arith, count) in h)
      ∙ ap (λ (b : List ℕ). entries_in (k + suc 0) (drop 12 b)) (sym (append-nil held))
      ∙ entries_split k 0 (drop 12 (held ++ []))
      ∙ ap (λ (x : List Entry). x ++ page_in (drop (8196 * k) (drop 12 (held ++ []))) ∷ []) (pages_stand [])
      ∙ ap (λ (x : Entry). es ++ x ∷ []) (page_stands []) in
      let m : length es ≡ k = is.many in
      record {
        number = is.number ∙ sym takes.number;
        count = is.count ∙ sym takes.count;
        few = let f = is.few in let c = takes.count in omega (arith, f, c);
        many = omega (arith, m, count, length-append es (e ∷ []));
        long = omega (arith, long, full, count, no_unit);
        pages = more ∙ ap (λ (x : Entry). es ++ x ∷ []) (sym takes.is);
        unit = drop_all (size_with new.taken) held (omega (arith, long, full, count)) ∙ sym takes.unit;
        rises = rise_more es e 0 is.rises (let l = is.least in let from = (takes.next).least in omega (arith, l, from)) (takes.next).low;
        least = takes.least ∙ sym (least_more es e 0);
        header = λ some.
            subst (λ (n : ℕ). BeginsWithHeader n (es ++ e ∷ [])) (sym takes.number) (
            elim (no_pages_yet es) [
              | inl none ↦
                  let nothing : k ≡ 0 = sym m ∙ ap (λ (x : List Entry). length x) none in
                  subst (λ (x : List Entry). BeginsWithHeader mid.number (x ++ e ∷ [])) (sym none) ((takes.next).header nothing)
              | inr before ↦ header_more mid.number es (e ∷ []) before (is.header before)
            ]
            );
      }

-- the pages so far are those of a group under way
pub under_way : {held : List ℕ} {es : List Entry} {r : Reader} → HoldsPages r held es → 0 < length es → AreUnderWay r.number es
under_way is some = record { rises = is.rises; header = is.header some }

-- All pages were taken.

pub record IsAll (r : Reader) (held : List ℕ) (es : List Entry) : Type 0 where
  pub good : IsGood held
  pub group : group_in held ≡ record { number = r.number; entries = es }
  pub behind : drop (size_with (count_in held)) held ≡ []

pub all_taken : {r : Reader} {held : List ℕ} {es : List Entry} → HoldsPages r held es → r.taken ≡ r.count → 0 < r.count → unit_of r ≡ [] → IsAll r held es
all_taken {r = r} {held = held} {es = es} is all some none =
    let count : count_in held ≡ r.taken = is.count ∙ sym all in
    let long = is.long in
    let many = is.many in
    let entries_are : entries_in (count_in held) (drop 12 held) ≡ es = ap (λ (n : ℕ). entries_in n (drop 12 held)) count ∙ is.pages in
    let number : big_number 8 held ≡ r.number = is.number in
    record {
      good = record {
        some = omega (arith, count, all, some);
        few = let f = is.few in omega (arith, count, all, f);
        whole = omega (arith, count, long);
        rises = ap (λ (x : List Entry). rise 0 x) entries_are ∙ is.rises;
        header = subst (λ (n : ℕ). BeginsWithHeader n (entries_in (count_in held) (drop 12 held))) (sym number)
            (subst (λ (x : List Entry). BeginsWithHeader r.number x) (sym entries_are) (is.header (omega (arith, all, some, many))));
      };
      group = λ i. record { number = number i; entries = entries_are i };
      behind = ap (λ (n : ℕ). drop (size_with n) held) count ∙ is.unit ∙ none;
    }

-- some bytes were taken
pub head_long : {held : List ℕ} {es : List Entry} {mid : Reader} → HoldsHead mid held es → length (unit_of mid) ≡ 12 → 0 < length held
head_long is full = let long = ap (λ (b : List ℕ). length b) is.same in omega (arith, long, full)

pub pages_long : {held : List ℕ} {es : List Entry} {mid : Reader} → HoldsPages mid held es → 0 < length held
pages_long is = let long = is.long in omega (arith, long)

-- What came of a piece.

pub read_on : {old new : Reader} {bytes x : List ℕ} {gs : List Group} {es fs : List Entry} → HasFed old bytes gs es
    → ((held : List ℕ) → HoldsPart old held es → HoldsPart new (held ++ x) fs) → HasFed new (bytes ++ x) gs fs
read_on {bytes = bytes} {x = x} {gs = gs} was holds = record { held = was.held ++ x; begins = begins-append gs bytes was.held x was.begins; holds = holds was.held was.holds }

pub read_spoilt : {old : Reader} {bytes x : List ℕ} {gs : List Group} {es : List Entry} → HasFed old bytes gs es → ((held : List ℕ) → HoldsPart old held es → 0 < length (held ++ x))
    → ((held more : List ℕ) → HoldsPart old held es → IsGood ((held ++ x) ++ more) → ⊥) → IsSpoilt (bytes ++ x) gs
read_spoilt {bytes = bytes} {x = x} {gs = gs} was some not_good =
    (was.held ++ x, some was.held was.holds, begins-append gs bytes was.held x was.begins, λ more. not_good was.held more was.holds)

pub read_group : {old mid new : Reader} {bytes x : List ℕ} {gs : List Group} {es fs : List Entry} → HasFed old bytes gs es
    → ((held : List ℕ) → HoldsPart old held es → IsAll mid (held ++ x) fs) → HoldsPart new [] [] → HasFed new (bytes ++ x) (gs ++ record { number = mid.number; entries = fs } ∷ []) []
read_group {mid = mid} {bytes = bytes} {x = x} {gs = gs} {fs = fs} was all holds =
    let held = was.held ++ x in
    let is = all was.held was.holds in
    let begins = begins-more gs (bytes ++ x) held (begins-append gs bytes was.held x was.begins) is.good in
    record {
      held = [];
      begins = subst (λ (rest : List ℕ). Begins (gs ++ record { number = mid.number; entries = fs } ∷ []) (bytes ++ x) rest) is.behind
          (subst (λ (g : Group). Begins (gs ++ g ∷ []) (bytes ++ x) (drop (size_with (count_in held)) held)) is.group begins);
      holds = holds;
    }

-- How many bytes of a piece are taken.
pub record IsTaken (r : Reader) (piece : List ℕ) (wanted taken : ℕ) : Type 0 where
  pub is : taken ≡ min wanted (length piece)
  pub head : r.count ≡ 0 → length (unit_of r) < 12 → wanted + length (unit_of r) ≡ 12
  pub page : 0 < r.count → length (unit_of r) < 8196 → wanted + length (unit_of r) ≡ 8196

pub taken_by : {r : Reader} {piece : List ℕ} {wanted taken : ℕ} → taken ≡ min wanted (length piece) → (r.count ≡ 0 → wanted ≡ 12 - length (unit_of r)) → (0 < r.count → wanted ≡ 8196 - length (unit_of r))
    → IsTaken r piece wanted taken
taken_by is head page = record {
  is = is;
  head = λ none short. let w = head none in omega (arith, w, short);
  page = λ some short. let w = page some in omega (arith, w, short);
}

module _ {old mid : Reader} {piece : List ℕ} {wanted taken : ℕ} (is : IsTaken old piece wanted taken) (grows : Grows (take taken piece) old mid) where
  pub taken_fits : taken ≤ length piece
  taken_fits = let t = is.is in omega (arith, t)

  pub taken_some : {held : List ℕ} {es : List Entry} → HoldsPart old held es → 0 < length piece → 0 < taken
  taken_some holds some =
      let t = is.is in
      elim (zero_or_more old.count) [
        | inl none ↦ let short = holds.short_head none in let w = is.head none short in omega (arith, t, short, w, some)
        | inr counted ↦ let short = holds.short_page counted in let w = is.page counted short in omega (arith, t, short, w, some)
      ]

  unit_long : length (unit_of mid) ≡ length (unit_of old) + taken
  unit_long =
      ap (λ (b : List ℕ). length b) grows.unit ∙ length-append (unit_of old) (take taken piece)
      ∙ ap (λ (n : ℕ). length (unit_of old) + n) (length-take-le taken piece taken_fits)

  pub fed_more : taken < wanted → (held : List ℕ) (es : List Entry) → HoldsPart old held es → HoldsPart mid (held ++ take taken piece) es
  fed_more less held es holds =
      let count : mid.count ≡ old.count = grows.count in
      let pages : mid.taken ≡ old.taken = grows.taken in
      let long = unit_long in
      record {
        head = λ none. grown_head grows (holds.head (sym count ∙ none));
        short_head = λ none. let short = holds.short_head (sym count ∙ none) in let w = is.head (sym count ∙ none) short in omega (arith, long, short, w, less);
        pages = λ some. grown_pages grows (holds.pages (omega (arith, some, count)));
        some_left = λ some. let left = holds.some_left (omega (arith, some, count)) in omega (arith, left, pages, count);
        short_page = λ some. let counted : 0 < old.count = omega (arith, some, count) in let short = holds.short_page counted in let w = is.page counted short in omega (arith, long, short, w, less);
      }

  pub full_head : wanted ≤ taken → old.count ≡ 0 → (held : List ℕ) (es : List Entry) → HoldsPart old held es → HoldsHead mid (held ++ take taken piece) es × (length (unit_of mid) ≡ 12)
  full_head full none held es holds =
      let short = holds.short_head none in
      let w = is.head none short in
      let t = is.is in
      let long = unit_long in
      (grown_head grows (holds.head none), omega (arith, long, w, t, full))

  pub full_page : wanted ≤ taken → 0 < old.count → (held : List ℕ) (es : List Entry) → HoldsPart old held es
      → HoldsPages mid (held ++ take taken piece) es × (length (unit_of mid) ≡ 8196) × (mid.taken < mid.count)
  full_page full some held es holds =
      let short = holds.short_page some in
      let w = is.page some short in
      let t = is.is in
      let long = unit_long in
      let left = holds.some_left some in
      let count : mid.count ≡ old.count = grows.count in
      let pages : mid.taken ≡ old.taken = grows.taken in
      (grown_pages grows (holds.pages some), omega (arith, long, w, t, full), omega (arith, left, count, pages))

-- A head was taken, and no page yet.
pub begun : {held : List ℕ} {es : List Entry} {mid new : Reader} → HoldsHead mid held es → length (unit_of mid) ≡ 12 → TakesHead mid new → HoldsPart new held es
begun is full takes =
    let some = takes.some in
    let no_unit = ap (λ (b : List ℕ). length b) takes.unit in
    let no_pages = takes.taken in
    record {
      head = λ none. absurd (omega (arith, some, none));
      short_head = λ none. absurd (omega (arith, some, none));
      pages = λ counted. head_taken is full takes;
      some_left = λ counted. omega (arith, counted, no_pages);
      short_page = λ counted. omega (arith, no_unit);
    }

-- A page was taken, and more are missing.
pub gone_on : {held : List ℕ} {es : List Entry} {r : Reader} → HoldsPages r held es → r.taken < r.count → unit_of r ≡ [] → HoldsPart r held es
gone_on is left none =
    let no_unit = ap (λ (b : List ℕ). length b) none in
    record {
      head = λ none_yet. absurd (omega (arith, none_yet, left));
      short_head = λ none_yet. absurd (omega (arith, none_yet, left));
      pages = λ counted. is;
      some_left = λ counted. left;
      short_page = λ counted. omega (arith, no_unit);
    }

-- Between groups.
pub between : (r : Reader) → r.count ≡ 0 → unit_of r ≡ [] → HoldsPart r [] []
between r no_count none =
    let no_unit = ap (λ (b : List ℕ). length b) none in
    record {
      head = λ is. record { same = sym none; none = refl };
      short_head = λ is. omega (arith, no_unit);
      pages = λ some. absurd (omega (arith, no_count, some));
      some_left = λ some. absurd (omega (arith, no_count, some));
      short_page = λ some. omega (arith, no_unit);
    }
