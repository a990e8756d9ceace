-- The list of a sketch's nodes: the first one, those below it and those beside it.
use Rattle.std.proofs.Common.{◌≡◌, ℕ, zero, suc, ◌+◌, ◌-◌, ◌^◌, ◌<◌, ◌≤◌, List, [], ◌∷◌, ◌++◌, length, take, drop, set, refl, sym, ap, ◌∙◌, arith, append-nil, length-append}
use Rattle.std.proofs.lemmas.List.{length-take-le, length-drop, length-set, drop_all}
use borrow.Rule.Slice.PartMut.{put_mid}
use Rattle.nx_matrix.specs.declared.rule.Entry.{Entry}
use Rattle.nx_division.specs.declared.cut.Cut.{Cut}
use Rattle.nx_sketch.specs.declared.spot.Spot.{Spot}
use Rattle.nx_sketch.specs.Sketch.{Sketch, Empty, Plant, spot_count, spots_of, sketch_weight}
use Rattle.nx_sketch.specs.Sketch.{IsFlat}
use Rattle.nx_division.specs.Parts.{IsPlanted, IsParted}
use Rattle.nx_division.specs.Drawn.{Grown, drawn, bare}

pub length-spots : (s : Sketch) → length (spots_of s) ≡ spot_count s
length-spots Empty = refl
length-spots (Plant p w e b s) = omega (arith, length-append (spots_of b) (spots_of s), length-spots b, length-spots s)

pub take-front : {A : Type 0} (xs ys : List A) (n : ℕ) → length xs ≡ n → take n (xs ++ ys) ≡ xs
take-front [] ys zero e = refl
take-front [] ys (suc n) e = absurd (omega arith)
take-front (x ∷ xs) ys zero e = absurd (omega arith)
take-front (x ∷ xs) ys (suc n) e = ap (λ l. x ∷ l) (take-front xs ys n (omega arith))

pub drop-front : {A : Type 0} (xs ys : List A) (n : ℕ) → length xs ≡ n → drop n (xs ++ ys) ≡ ys
drop-front [] ys zero e = refl
drop-front [] ys (suc n) e = absurd (omega arith)
drop-front (x ∷ xs) ys zero e = absurd (omega arith)
drop-front (x ∷ xs) ys (suc n) e = drop-front xs ys n (omega arith)

pub planted : (spots : List Spot) (spot : Spot) (rest below beside : List Spot) (n : ℕ) (p w : ℕ) (e : Entry) (b s : Sketch) → spots ≡ spot ∷ rest → n ≡ spot.below → below ≡ take n rest → beside ≡ drop n rest → spots ≡ spots_of (Plant p w e b s) → IsPlanted spot below beside p w e b s
planted spots spot rest below beside n p w e b s is count front back flat =
    let both : spot ∷ rest ≡ spots_of (Plant p w e b s) = sym is ∙ flat in
    let first : spot ≡ record { position = p; weight = w; within = w + sketch_weight b; entry = e; below = spot_count b } = cc in
    let others : rest ≡ spots_of b ++ spots_of s = cc in
    let n_is : n ≡ spot_count b = count ∙ ap (λ (x : Spot). x.below) first in
    let len : length (spots_of b) ≡ n = length-spots b ∙ sym n_is in
    record {
      position = ap (λ (x : Spot). x.position) first;
      weight = ap (λ (x : Spot). x.weight) first;
      within = ap (λ (x : Spot). x.within) first;
      entry = ap (λ (x : Spot). x.entry) first;
      nodes_below = ap (λ (x : Spot). x.below) first;
      below_is = front ∙ ap (take n) others ∙ take-front (spots_of b) (spots_of s) n len;
      beside_is = back ∙ ap (drop n) others ∙ drop-front (spots_of b) (spots_of s) n len;
    }

-- the parts of a list that is a sketch's
pub parted : (spots : List Spot) (spot : Spot) (rest below beside : List Spot) (n : ℕ) → spots ≡ spot ∷ rest → n ≡ spot.below → below ≡ take n rest → beside ≡ drop n rest → (s : Sketch) → spots ≡ spots_of s → IsParted spot below beside s
parted spots spot rest below beside n is count front back Empty flat = let e : spot ∷ rest ≡ [] = sym is ∙ flat in cc
parted spots spot rest below beside n is count front back (Plant p w e b s) flat = planted spots spot rest below beside n p w e b s is count front back flat

-- as many nodes as stand below the first one are there
pub enough : (spots : List Spot) (spot : Spot) (rest : List Spot) → spots ≡ spot ∷ rest → (s : Sketch) → spots ≡ spots_of s → spot.below ≤ length rest
enough spots spot rest is Empty flat = let e : spot ∷ rest ≡ [] = sym is ∙ flat in cc
enough spots spot rest is (Plant p w e b s) flat =
    let both : spot ∷ rest ≡ spots_of (Plant p w e b s) = sym is ∙ flat in
    let first : spot ≡ record { position = p; weight = w; within = w + sketch_weight b; entry = e; below = spot_count b } = cc in
    let others : rest ≡ spots_of b ++ spots_of s = cc in
    let n : spot.below ≡ spot_count b = ap (λ (x : Spot). x.below) first in
    omega (arith, ap length others, length-append (spots_of b) (spots_of s), length-spots b, n)

pub below_flat : (spot : Spot) (below beside : List Spot) (s : Sketch) → IsParted spot below beside s → sketch_weight s < 2 ^ 24 → IsFlat below
below_flat spot below beside Empty h small = absurd h
below_flat spot below beside (Plant p w e b s) h small = record { sketch = b; is = h.below_is; small = omega arith }

pub beside_flat : (spot : Spot) (below beside : List Spot) (s : Sketch) → IsParted spot below beside s → sketch_weight s < 2 ^ 24 → IsFlat beside
beside_flat spot below beside Empty h small = absurd h
beside_flat spot below beside (Plant p w e b s) h small = record { sketch = s; is = h.beside_is; small = omega arith }

-- the cuts of a node, of those below it and of those beside it
pub drawn-parts : (p w : ℕ) (e : Entry) (b s : Sketch) (cut : Cut) (xs ys : List Cut) → length xs ≡ spot_count b → drawn (Plant p w e b s) (cut ∷ xs ++ ys) ≡ Grown p w e cut (drawn b xs) (drawn s ys)
drawn-parts p w e b s cut xs ys n = λ i. Grown p w e cut (drawn b (take-front xs ys (spot_count b) n i)) (drawn s (drop-front xs ys (spot_count b) n i))

pub bare-drawn : (s : Sketch) (cuts : List Cut) → bare (drawn s cuts) ≡ s
bare-drawn Empty cuts = refl
bare-drawn (Plant p w e b s) [] = λ i. Plant p w e (bare-drawn b [] i) (bare-drawn s [] i)
bare-drawn (Plant p w e b s) (cut ∷ cuts) = λ i. Plant p w e (bare-drawn b (take (spot_count b) cuts) i) (bare-drawn s (drop (spot_count b) cuts) i)

-- of a list with a first item, some that are overwritten and a rest
pub mid_len : {A : Type 0} (cuts : List A) (n m : ℕ) → length cuts ≡ 1 + n + m → length (take (1 + n - 1) (drop 1 cuts)) ≡ n
mid_len [] n m e = absurd (omega arith)
mid_len (c ∷ cuts) n m e = omega (arith, length-take-le (1 + n - 1) cuts (omega arith))

pub rest_len : {A : Type 0} (row : List A) (n m : ℕ) → length row ≡ 1 + n + m → length (take (length row - (1 + n)) (drop (1 + n) row)) ≡ m
rest_len row n m e = omega (arith, length-drop (1 + n) row, length-take-le (length row - (1 + n)) (drop (1 + n) row) (omega (arith, length-drop (1 + n) row)))

put_len : {A : Type 0} (cuts xs : List A) (n m : ℕ) → length cuts ≡ 1 + n + m → length xs ≡ n → length (put_mid 1 (1 + n - 1) cuts xs) ≡ 1 + n + m
put_len [] xs n m e f = absurd (omega arith)
put_len (c ∷ cuts) xs n m e f =
    omega (arith, length-append xs (drop (1 + n - 1) cuts), length-drop (1 + n - 1) cuts)

-- the list with its first item and some behind it written
abbrev pub begun : {A : Type 0} → List A → List A → A → ℕ → List A
begun cuts xs cut n = set (put_mid 1 (1 + n - 1) cuts xs) 0 cut

pub begun_len : {A : Type 0} (cuts xs : List A) (cut : A) (n m : ℕ) → length cuts ≡ 1 + n + m → length xs ≡ n → length (begun cuts xs cut n) ≡ 1 + n + m
begun_len cuts xs cut n m e f = length-set (put_mid 1 (1 + n - 1) cuts xs) 0 cut ∙ put_len cuts xs n m e f

-- and the rest as well
pub whole : {A : Type 0} (cuts xs ys : List A) (cut : A) (n m : ℕ) → length cuts ≡ 1 + n + m → length xs ≡ n → put_mid (1 + n) (length (begun cuts xs cut n) - (1 + n)) (begun cuts xs cut n) ys ≡ cut ∷ xs ++ ys
whole [] xs ys cut n m e f = absurd (omega arith)
whole (c ∷ cuts) xs ys cut n m e f =
    let rest = drop (1 + n - 1) cuts in
    let row : List _ = cut ∷ (xs ++ rest) in
    let len = begun_len (c ∷ cuts) xs cut n m e f in
    let front : take (1 + n) row ≡ cut ∷ xs = ap (λ i. take i row) (let q : 1 + n ≡ suc n = omega arith in q) ∙ ap (λ l. cut ∷ l) (take-front xs rest n f) in
    let none : drop (length row - (1 + n)) (drop (1 + n) row) ≡ [] = drop_all (length row - (1 + n)) (drop (1 + n) row) (omega (arith, length-drop (1 + n) row)) in
    (λ i. front i ++ (ys ++ none i)) ∙ ap (λ l. (cut ∷ xs) ++ l) (append-nil ys)
