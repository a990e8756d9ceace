-- The units of a page.
use Rattle.std.proofs.Common.{◌≡◌, ℕ, ◌+◌, ◌*◌, ◌≤◌, List, [], ◌∷◌, ◌++◌, length, take, drop, codes, refl, sym, ap, ◌∙◌, arith, length-append, append_assoc}
use Rattle.std.specs.List.{flat_map, range_with_len}
use Rattle.std.proofs.lemmas.List.{take_all, take_at, length-take-le, flat_map_more, map-id}
use Rattle.std.proofs.lemmas.List.FromFn.{map-range_with_len_more}
use Rattle.nx_numbers.specs.Numbers.{number_bytes, with_number}
use Rattle.nx_numbers.proofs.Numbers.{length-number_bytes, length-with_number}
use Rattle.nx_wal_driver.specs.Stamp.{unit_bytes, units}
use Rattle.nx_wal_driver.specs.declared.stamps.Stamp.{Stamp}

-- what stands up to the end of a number that was written
through : (size at number : ℕ) (bytes : List ℕ) → at + size ≤ length bytes → take (at + size) (with_number size bytes at number) ≡ take at bytes ++ number_bytes size number
through size at number bytes room =
    let before = length-take-le at bytes (omega arith) in
    let back = length-number_bytes size number in
    let long : length (take at bytes ++ number_bytes size number) ≡ at + size = length-append (take at bytes) (number_bytes size number) ∙ omega arith in
    ap (λ (r : List ℕ). take (at + size) r) (sym (append_assoc (take at bytes) (number_bytes size number) (drop (at + size) bytes)))
    ∙ take_at (take at bytes ++ number_bytes size number) (drop (at + size) bytes) (at + size) long

-- the mark with the four numbers written behind it is a unit
pub unit_made : (blank : List ℕ) (s : Stamp) (i : ℕ) → length blank ≡ 32 → take 8 blank ≡ codes "NATIXST1"
    → with_number 4 (with_number 4 (with_number 8 (with_number 8 blank 8 s.seed) 16 s.group) 24 s.page) 28 i ≡ unit_bytes s i
unfolding unit_bytes
unit_made blank s i long mark =
    let one = with_number 8 blank 8 s.seed in
    let long_one : length one ≡ 32 = length-with_number 8 blank 8 s.seed (omega arith) ∙ long in
    let two = with_number 8 one 16 s.group in
    let long_two : length two ≡ 32 = length-with_number 8 one 16 s.group (omega arith) ∙ long_one in
    let three = with_number 4 two 24 s.page in
    let long_three : length three ≡ 32 = length-with_number 4 two 24 s.page (omega arith) ∙ long_two in
    let four = with_number 4 three 28 i in
    let long_four : length four ≡ 32 = length-with_number 4 three 28 i (omega arith) ∙ long_three in
    sym (take_all 32 four (omega arith))
    ∙ through 4 28 i three (omega arith)
    ∙ ap (λ (r : List ℕ). r ++ number_bytes 4 i) (
    through 4 24 s.page two (omega arith)
    ∙ ap (λ (r : List ℕ). r ++ number_bytes 4 s.page) (
    through 8 16 s.group one (omega arith)
    ∙ ap (λ (r : List ℕ). r ++ number_bytes 8 s.group) (
    through 8 8 s.seed blank (omega arith) ∙ ap (λ (r : List ℕ). r ++ number_bytes 8 s.seed) mark)))

pub length-unit_bytes : (s : Stamp) (i : ℕ) → length (unit_bytes s i) ≡ 32
unfolding unit_bytes
length-unit_bytes s i =
    let mark = codes "NATIXST1" in
    let one = length-append mark (number_bytes 8 s.seed) in
    let two = length-append (mark ++ number_bytes 8 s.seed) (number_bytes 8 s.group) in
    let three = length-append ((mark ++ number_bytes 8 s.seed) ++ number_bytes 8 s.group) (number_bytes 4 s.page) in
    let a = length-number_bytes 8 s.seed in
    let b = length-number_bytes 8 s.group in
    let c = length-number_bytes 4 s.page in
    let d = length-number_bytes 4 i in
    length-append (((mark ++ number_bytes 8 s.seed) ++ number_bytes 8 s.group) ++ number_bytes 4 s.page) (number_bytes 4 i) ∙ omega arith

-- one unit more
pub units_more : (s : Stamp) (n : ℕ) → units s n ++ unit_bytes s n ≡ units s (n + 1)
unfolding units
units_more s n =
    let more : range_with_len 0 n ++ n ∷ [] ≡ range_with_len 0 (n + 1) =
    ap (λ (r : List ℕ). r ++ n ∷ []) (sym (map-id (range_with_len 0 n))) ∙ sym (map-range_with_len_more (λ (x : ℕ). x) 0 n n (omega arith)) ∙ map-id (range_with_len 0 (n + 1)) in
    flat_map_more (unit_bytes s) [] (range_with_len 0 n) n ∙ ap (λ (r : List ℕ). flat_map (unit_bytes s) r) more

pub units_none : (s : Stamp) → units s 0 ≡ []
unfolding units
units_none s = refl

-- what stands up to the end of a unit that was written
pub unit_written : (s : Stamp) (i : ℕ) (old new : List ℕ) → 32 * i + 32 ≤ length old → new ≡ take (32 * i) old ++ (unit_bytes s i ++ drop (32 * i + 32) old) → take (32 * i) old ≡ units s i
    → take (32 * (i + 1)) new ≡ units s (i + 1)
unit_written s i old new room is so_far =
    let before = length-take-le (32 * i) old (omega arith) in
    let back = length-unit_bytes s i in
    let long : length (take (32 * i) old ++ unit_bytes s i) ≡ 32 * (i + 1) = length-append (take (32 * i) old) (unit_bytes s i) ∙ omega arith in
    ap (λ (r : List ℕ). take (32 * (i + 1)) r) (is ∙ sym (append_assoc (take (32 * i) old) (unit_bytes s i) (drop (32 * i + 32) old)))
    ∙ take_at (take (32 * i) old ++ unit_bytes s i) (drop (32 * i + 32) old) (32 * (i + 1)) long
    ∙ ap (λ (r : List ℕ). r ++ unit_bytes s i) so_far
    ∙ units_more s i
