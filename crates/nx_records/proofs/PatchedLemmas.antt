-- Bytes in the place of as many of a list's, from an offset on.
use Rattle.std.proofs.Common.{◌≡◌, ℕ, ◌+◌, ◌≤◌, List, [], ◌++◌, length, take, drop, length-append, sym, ap, ap₂, subst, ◌∙◌, arith}
use Rattle.std.proofs.Math.Seq.{drop-append_seam, take-append_seam, drop-append-add, take-append-add}
use Rattle.std.proofs.lemmas.List.{append_assoc, drop-append-le, take-append-le, drop-drop, length-take-le, length-drop, take-append-drop}
use Rattle.nx_records.specs.Within.{patched}

pub patched_none : (at : ℕ) (bytes : List ℕ) → patched at [] bytes ≡ bytes
patched_none at bytes = let same : at + 0 ≡ at = omega arith in ap (λ (n : ℕ). take at bytes ++ drop n bytes) same ∙ take-append-drop at bytes

-- behind a list that stays
pub patched_behind : (a c b : List ℕ) (n : ℕ) → patched (length a + n) b (a ++ c) ≡ a ++ patched n b c
patched_behind a c b n =
    let along : length a + n + length b ≡ length a + (n + length b) = omega arith in
    ap₂ (λ (t d : List ℕ). t ++ (b ++ d)) (take-append-add a c n) (ap (λ (m : ℕ). drop m (a ++ c)) along ∙ drop-append-add a c (n + length b)) ∙ append_assoc a (take n c) (b ++ drop (n + length b) c)

-- in front of one
pub patched_front : (a c b : List ℕ) (n : ℕ) → n + length b ≤ length a → patched n b (a ++ c) ≡ patched n b a ++ c
patched_front a c b n within =
    ap₂ (λ (t d : List ℕ). t ++ (b ++ d)) (take-append-le n a c (omega (arith, within))) (drop-append-le (n + length b) a c within)
    ∙ ap (λ (r : List ℕ). take n a ++ r) (sym (append_assoc b (drop (n + length b) a) c)) ∙ sym (append_assoc (take n a) (b ++ drop (n + length b) a) c)

pub patched_length : (a b : List ℕ) (n : ℕ) → n + length b ≤ length a → length (patched n b a) ≡ length a
patched_length a b n within =
    let whole = length-append (take n a) (b ++ drop (n + length b) a) in
    let behind = length-append b (drop (n + length b) a) in
    let front = length-take-le n a (omega (arith, within)) in
    let left = length-drop (n + length b) a in
    omega (arith, whole, behind, front, left, within)

-- one part behind the other
pub patched_then : (a b c : List ℕ) (n : ℕ) → n + length b ≤ length a → patched (n + length b) c (patched n b a) ≡ patched n (b ++ c) a
patched_then a b c n within =
    let front : length (take n a ++ b) ≡ n + length b = (let both = length-append (take n a) b in let first = length-take-le n a (omega (arith, within)) in omega (arith, both, first)) in
    let here : n + length b ≡ length (take n a ++ b) + 0 = omega (arith, front) in
    let long : n + length b + length c ≡ n + length (b ++ c) = (let both = length-append b c in omega (arith, both)) in
    ap (λ (r : List ℕ). patched (n + length b) c r) (sym (append_assoc (take n a) b (drop (n + length b) a)))
    ∙ ap (λ (m : ℕ). patched m c ((take n a ++ b) ++ drop (n + length b) a)) here
    ∙ patched_behind (take n a ++ b) (drop (n + length b) a) c 0
    ∙ append_assoc (take n a) b (c ++ drop (0 + length c) (drop (n + length b) a))
    ∙ ap (λ (r : List ℕ). take n a ++ (b ++ (c ++ r))) (drop-drop (0 + length c) (n + length b) a ∙ ap (λ (m : ℕ). drop m a) (let zero : n + length b + (0 + length c) ≡ n + length b + length c = omega arith in zero ∙ long))
    ∙ ap (λ (r : List ℕ). take n a ++ r) (sym (append_assoc b c (drop (n + length (b ++ c)) a)))

-- the bytes between two lists
pub patched_between : (a b other c : List ℕ) → length other ≡ length b → patched (length a) other (a ++ (b ++ c)) ≡ a ++ (other ++ c)
patched_between a b other c same =
    ap₂ (λ (t d : List ℕ). t ++ (other ++ d)) (take-append_seam a (b ++ c))
    (drop-append-add a (b ++ c) (length other) ∙ ap (λ (n : ℕ). drop n (b ++ c)) same ∙ drop-append_seam b c)
