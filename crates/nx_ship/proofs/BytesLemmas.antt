-- A stream is the bytes of its groups.
use Rattle.std.proofs.Common.{◌≡◌, ℕ, zero, suc, ◌+◌, ◌*◌, ◌/◌, ◌%◌, ◌^◌, ◌<◌, ◌≤◌, true, List, [], ◌∷◌, ◌++◌, length, take, drop, refl, sym, ap, subst, ◌∙◌, arith}
use Rattle.std.proofs.Common.{append_assoc, length-drop, length-take, get_or-drop}
use Rattle.std.proofs.lemmas.List.{drop-drop, take-append-drop}
use Rattle.std.proofs.lemmas.Bool.{and_parts, ltb-true}
use Rattle.std.proofs.Math.Nat.{div-one, mod-eq_of_lt, mul-add-mod_self_right, mul-add-div_right, mul_assoc, one-le-pow, pow-succ'}
use Rattle.std.proofs.lemmas.Nat.{div-mul-add}
use Rattle.std.specs.Int.{byte_at, bytes_high_first}
use Rattle.std.specs.List.{AllByRecursion}
use Rattle.byteorder.specs.Endian.{big_from, big_number}
use Rattle.byteorder.specs.Numbers.{big_from-cons, big_from-lt}
use Rattle.nx_host.specs.Disk.{AreBytes}
use Rattle.nx_replay.specs.Log.{Group, entries_in, entry_bytes, group_bytes, rise, IsEntry}
use Rattle.nx_replay.proofs.GroupLemmas.{length-entries_in}
use Rattle.nx_ship.specs.Stream.{count_in, size_with, group_in, IsGood, Begins, stream_of, MaySend, IsSent}

byte-by_pow : (k x : ℕ) → byte_at k x ≡ x / 256 ^ k % 256
byte-by_pow zero x = ap (λ (y : ℕ). y % 256) (sym (div-one x))
byte-by_pow (suc k) x = refl

pow_some : (n : ℕ) → 0 < 256 ^ n
pow_some n = let h = one-le-pow n 256 (omega arith) in omega (arith, h)

-- what lies above so many bytes isn't in them
bytes_below : (k z r : ℕ) → bytes_high_first k (z * 256 ^ k + r) ≡ bytes_high_first k r
bytes_below zero z r = refl
bytes_below (suc k) z r =
    let p = 256 ^ k in
    let moved : z * 256 ^ suc k + r ≡ (z * 256) * p + r = ap (λ (n : ℕ). z * n + r) (pow-succ' 256 k) ∙ ap (λ (n : ℕ). n + r) (sym (mul_assoc z 256 p)) in
    let byte : byte_at k ((z * 256) * p + r) ≡ byte_at k r =
    byte-by_pow k ((z * 256) * p + r) ∙ ap (λ (n : ℕ). n % 256) (mul-add-div_right (pow_some k) (z * 256) r)
    ∙ mul-add-mod_self_right z 256 (r / p) ∙ sym (byte-by_pow k r) in
    ap (λ (n : ℕ). bytes_high_first (suc k) n) moved ∙ rw (byte, bytes_below k (z * 256) r) refl

less_bytes : (b : ℕ) (bs : List ℕ) → AreBytes (b ∷ bs) → AreBytes bs
less_bytes b bs are i = are (suc i)

-- a number is written as it was read
bytes_back : (n : ℕ) (bs : List ℕ) → n ≤ length bs → AreBytes bs → bytes_high_first n (big_number n bs) ≡ take n bs
bytes_back zero bs fits are = refl
bytes_back (suc n) [] fits are = absurd (omega (arith, fits))
bytes_back (suc n) (b ∷ bs) fits are =
    let p = 256 ^ n in
    let r = big_from 0 n bs in
    let number : big_number (suc n) (b ∷ bs) ≡ b * p + r = ap (λ (x : ℕ). b * p + x) (big_from-cons 0 n b bs) in
    let low : r < p = big_from-lt 0 n bs (less_bytes b bs are) in
    let small : b < 256 = are 0 in
    let byte : byte_at n (b * p + r) ≡ b =
    byte-by_pow n (b * p + r) ∙ ap (λ (x : ℕ). x % 256) (div-mul-add b p r low) ∙ mod-eq_of_lt small in
    ap (λ (x : ℕ). bytes_high_first (suc n) x) number ∙ rw (byte, bytes_below n b r, bytes_back n bs (omega (arith, fits)) (less_bytes b bs are)) refl

take_none : (n : ℕ) → take {A = ℕ} n [] ≡ []
take_none zero = refl
take_none (suc n) = refl

pub take_more : (n m : ℕ) (xs : List ℕ) → take n xs ++ take m (drop n xs) ≡ take (n + m) xs
take_more zero m xs = ap (λ (k : ℕ). take k xs) (let h : m ≡ 0 + m = omega arith in h)
take_more (suc n) m [] = take_none m ∙ sym (take_none (suc n + m))
take_more (suc n) m (x ∷ xs) = ap (λ (ys : List ℕ). x ∷ ys) (take_more n m xs) ∙ ap (λ (k : ℕ). take k (x ∷ xs)) (let h : suc (n + m) ≡ suc n + m = omega arith in h)

bytes_drop : (n : ℕ) (bs : List ℕ) → AreBytes bs → AreBytes (drop n bs)
bytes_drop n bs are i = subst (λ (x : ℕ). x < 256) (sym (get_or-drop n bs i 0)) (are (n + i))

entries_back : (n : ℕ) (bs : List ℕ) → 8196 * n ≤ length bs → AreBytes bs → entry_bytes (entries_in n bs) ≡ take (8196 * n) bs
entries_back zero bs fits are = refl
entries_back (suc n) bs fits are =
    let tail = drop 8196 bs in
    let number = bytes_back 4 bs (omega (arith, fits)) are in
    let rest = entries_back n tail (omega (arith, fits, length-drop 8196 bs)) (bytes_drop 8196 bs are) in
    let page : take 8192 (drop 4 bs) ++ take (8196 * n) tail ≡ take (8192 + 8196 * n) (drop 4 bs) =
    ap (λ (x : List ℕ). take 8192 (drop 4 bs) ++ take (8196 * n) x) (sym (drop-drop 8192 4 bs)) ∙ take_more 8192 (8196 * n) (drop 4 bs) in
    ap (λ (x : List ℕ). x ++ (take 8192 (drop 4 bs) ++ entry_bytes (entries_in n tail))) number
    ∙ ap (λ (x : List ℕ). take 4 bs ++ (take 8192 (drop 4 bs) ++ x)) rest
    ∙ ap (λ (x : List ℕ). take 4 bs ++ x) page ∙ take_more 4 (8192 + 8196 * n) bs ∙ ap (λ (k : ℕ). take k bs) (let h : 4 + (8192 + 8196 * n) ≡ 8196 * suc n = omega arith in h)

entries_whole : (n least : ℕ) (bytes : List ℕ) → 8196 * n ≤ length bytes → rise least (entries_in n bytes) ≡ true → AllByRecursion IsEntry (entries_in n bytes)
entries_whole zero least bytes fits rises = tt
entries_whole (suc n) least bytes fits rises =
    let a = and_parts _ _ rises in
    let b = and_parts _ _ a.0 in (
      record { long = omega (arith, fits, length-take 8192 (drop 4 bytes), length-drop 4 bytes); low = ltb-true _ _ b.1 },
      entries_whole n _ (drop 8196 bytes) (omega (arith, fits, length-drop 8196 bytes)) a.1,
    )

may_send : (bytes : List ℕ) → AreBytes bytes → IsGood bytes → MaySend (group_in bytes)
may_send bytes are good =
    let n = count_in bytes in
    let long : length (entries_in n (drop 12 bytes)) ≡ n = length-entries_in n (drop 12 bytes) in
    let w = good.whole in
    record {
      whole = record {
        number = big_from-lt 0 8 bytes are;
        some = let s = good.some in omega (arith, long, s);
        few = let f = good.few in omega (arith, long, f);
        rises = good.rises;
        entries = entries_whole n 0 (drop 12 bytes) (omega (arith, w, length-drop 12 bytes)) good.rises;
      };
      header = good.header;
    }

good_back : (bytes : List ℕ) → AreBytes bytes → IsGood bytes → group_bytes (group_in bytes) ≡ take (size_with (count_in bytes)) bytes
unfolding group_bytes
good_back bytes are good =
    let n = count_in bytes in
    let w = good.whole in
    let long : length (entries_in n (drop 12 bytes)) ≡ n = length-entries_in n (drop 12 bytes) in
    let number = bytes_back 8 bytes (omega (arith, w)) are in
    let count = bytes_back 4 (drop 8 bytes) (omega (arith, w, length-drop 8 bytes)) (bytes_drop 8 bytes are) in
    let entries = entries_back n (drop 12 bytes) (omega (arith, w, length-drop 12 bytes)) (bytes_drop 12 bytes are) in
    let behind : take 4 (drop 8 bytes) ++ take (8196 * n) (drop 12 bytes) ≡ take (4 + 8196 * n) (drop 8 bytes) =
    ap (λ (x : List ℕ). take 4 (drop 8 bytes) ++ take (8196 * n) x) (sym (drop-drop 4 8 bytes)) ∙ take_more 4 (8196 * n) (drop 8 bytes) in
    ap (λ (k : ℕ). bytes_high_first 8 (big_number 8 bytes) ++ (bytes_high_first 4 k ++ entry_bytes (entries_in n (drop 12 bytes)))) long
    ∙ ap (λ (x : List ℕ). x ++ (bytes_high_first 4 n ++ entry_bytes (entries_in n (drop 12 bytes)))) number
    ∙ ap (λ (x : List ℕ). take 8 bytes ++ (x ++ entry_bytes (entries_in n (drop 12 bytes)))) count
    ∙ ap (λ (x : List ℕ). take 8 bytes ++ (take 4 (drop 8 bytes) ++ x)) entries
    ∙ ap (λ (x : List ℕ). take 8 bytes ++ x) behind ∙ take_more 8 (4 + 8196 * n) bytes
    ∙ ap (λ (k : ℕ). take k bytes) (let h : 8 + (4 + 8196 * n) ≡ 12 + 8196 * n = omega arith in h)

sent_from : (gs : List Group) (bytes rest : List ℕ) → AreBytes bytes → Begins gs bytes rest → (bytes ≡ stream_of gs ++ rest) × AllByRecursion MaySend gs
sent_from [] bytes rest are a = (sym a, tt)
sent_from (g ∷ gs) bytes rest are a =
    let size = size_with (count_in bytes) in
    let more = sent_from gs (drop size bytes) rest (bytes_drop size bytes are) a.2 in
    let first : take size bytes ≡ group_bytes g = sym (good_back bytes are a.0) ∙ ap (λ (x : Group). group_bytes x) (sym a.1) in (
      sym (take-append-drop size bytes) ∙ ap (λ (x : List ℕ). x ++ drop size bytes) first ∙ ap (λ (x : List ℕ). group_bytes g ++ x) more.0
          ∙ sym (append_assoc (group_bytes g) (stream_of gs) rest),
      (subst (λ (x : Group). MaySend x) (sym a.1) (may_send bytes are a.0), more.1),
    )

pub is_sent : IsSent
is_sent bytes gs rest are is = sent_from gs bytes rest are is.begins
