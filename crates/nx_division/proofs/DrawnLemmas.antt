-- What is drawn of a list, by the parts of it.
use Rattle.std.proofs.Common.{◌≡◌, ℕ, zero, suc, ◌+◌, ◌-◌, ◌^◌, ◌<◌, ◌≤◌, max, List, [], ◌∷◌, ◌++◌, length, take, drop, get_or, refl, sym, ap, subst, ◌∙◌, arith, append_assoc, append-nil, length-append}
use Rattle.std.proofs.lemmas.List.{take-append-drop, length-take-le, length-drop}
use Rattle.nx_matrix.specs.declared.rule.Entry.{Entry}
use Rattle.nx_parts.specs.declared.interval.Interval.{Interval}
use Rattle.nx_sketch.specs.declared.spot.Spot.{Spot}
use Rattle.nx_sketch.specs.Sketch.{Sketch, Empty, Plant, spot_count, spots_of, sketch_weight, IsFlat}
use Rattle.nx_division.specs.declared.cut.Cut.{Cut}
use Rattle.nx_division.specs.declared.cut.Cut.TheVariants.{Stays, Begins, GoesOn}
use Rattle.nx_division.specs.Parts.{IsParted}
use Rattle.nx_division.specs.Drawn.{Grown, drawn, staying_weight, goes, end_position, drawn_intervals, AreWeights, run_of}
use Rattle.nx_division.proofs.SpotLemmas.{drawn-parts, length-spots, take-front}
use Rattle.nx_division.proofs.CoreLemmas.{no_spots}

-- a list of cuts, taken apart: the first, those of the nodes below, and those of the nodes beside
pub record AreCut (cuts : List Cut) (cut : Cut) (xs ys : List Cut) (below : List Spot) : Type 0 where
  pub cuts_are : cuts ≡ cut ∷ xs ++ ys
  pub many : length xs ≡ length below

take_all : {A : Type 0} (xs : List A) (n : ℕ) → length xs ≤ n → take n xs ≡ xs
take_all [] zero le = refl
take_all [] (suc n) le = refl
take_all (x ∷ xs) zero le = absurd (omega arith)
take_all (x ∷ xs) (suc n) le = ap (λ l. x ∷ l) (take_all xs n (omega arith))

-- the cuts of the nodes below the first one, and of those beside it
abbrev pub cuts_below : List Cut → List Spot → List Cut
cuts_below cuts below = take (1 + length below - 1) (drop 1 cuts)

abbrev pub cuts_beside : List Cut → List Spot → List Cut
cuts_beside cuts below = take (length cuts - (1 + length below)) (drop (1 + length below) cuts)

apart_at : (c : Cut) (cuts : List Cut) (n : ℕ) → n ≤ length cuts → c ∷ cuts ≡ c ∷ take (1 + n - 1) cuts ++ take (length (c ∷ cuts) - (1 + n)) (drop (1 + n) (c ∷ cuts))
apart_at c cuts n le =
    let one : 1 + n - 1 ≡ n = omega arith in
    let two : drop (1 + n) (c ∷ cuts) ≡ drop n cuts = ap (λ m. drop m (c ∷ cuts)) (let e : 1 + n ≡ suc n = omega arith in e) in
    let three : take (length (c ∷ cuts) - (1 + n)) (drop (1 + n) (c ∷ cuts)) ≡ drop n cuts = ap (take (length (c ∷ cuts) - (1 + n))) two ∙ take_all (drop n cuts) (length (c ∷ cuts) - (1 + n)) (omega (arith, length-drop n cuts)) in
    ap (λ l. c ∷ l) (sym (take-append-drop n cuts) ∙ (λ i. take (sym one i) cuts ++ sym three i))

pub cut_apart : (cuts : List Cut) (d : Cut) (below : List Spot) → 1 + length below ≤ length cuts → AreCut cuts (get_or cuts 0 d) (cuts_below cuts below) (cuts_beside cuts below) below
cut_apart [] d below le = absurd (omega arith)
cut_apart (c ∷ cuts) d below le = record {
  cuts_are = apart_at c cuts (length below) (omega arith);
  many = omega (arith, length-take-le (1 + length below - 1) cuts (omega arith));
}

-- what is drawn of the whole, from the parts
pub drawn_of : (cuts : List Cut) (cut : Cut) (xs ys : List Cut) (below : List Spot) (p w : ℕ) (e : Entry) (b s : Sketch) → AreCut cuts cut xs ys below → below ≡ spots_of b → drawn (Plant p w e b s) cuts ≡ Grown p w e cut (drawn b xs) (drawn s ys)
drawn_of cuts cut xs ys below p w e b s h is = ap (drawn (Plant p w e b s)) h.cuts_are ∙ drawn-parts p w e b s cut xs ys (h.many ∙ ap length is ∙ length-spots b)

pub staying_weight-sketch_weight : (s : Sketch) (cuts : List Cut) → staying_weight (drawn s cuts) ≤ sketch_weight s
staying_weight-sketch_weight Empty cuts = omega arith
staying_weight-sketch_weight (Plant p w e b s) [] = omega (arith, staying_weight-sketch_weight b [], staying_weight-sketch_weight s [])
staying_weight-sketch_weight (Plant p w e b s) (Stays ∷ cuts) = omega (arith, staying_weight-sketch_weight b (take (spot_count b) cuts), staying_weight-sketch_weight s (drop (spot_count b) cuts))
staying_weight-sketch_weight (Plant p w e b s) (Begins ∷ cuts) = omega (arith, staying_weight-sketch_weight s (drop (spot_count b) cuts))
staying_weight-sketch_weight (Plant p w e b s) (GoesOn ∷ cuts) = omega (arith, staying_weight-sketch_weight s (drop (spot_count b) cuts))

pub goes-sketch_weight : (s : Sketch) (cuts : List Cut) → goes (drawn s cuts) ≤ sketch_weight s
goes-sketch_weight Empty cuts = omega arith
goes-sketch_weight (Plant p w e b s) [] = omega arith
goes-sketch_weight (Plant p w e b s) (Stays ∷ cuts) = omega arith
goes-sketch_weight (Plant p w e b s) (Begins ∷ cuts) = omega arith
goes-sketch_weight (Plant p w e b s) (GoesOn ∷ cuts) = omega (arith, staying_weight-sketch_weight b (take (spot_count b) cuts), goes-sketch_weight s (drop (spot_count b) cuts))

-- what a call found of a list
abbrev pub Weighs : List Spot → List Cut → ℕ → ℕ → ℕ → Type 0
Weighs spots cuts staying going heavy = (s : Sketch) → spots ≡ spots_of s → AreWeights (drawn s cuts) staying going heavy

pub weigh_none : (spots : List Spot) (cuts : List Cut) → spots ≡ [] → Weighs spots cuts 0 0 0
weigh_none spots cuts none Empty is = record { stays = refl; goes_on = refl; most = refl }
weigh_none spots cuts none (Plant p w e b s) is = absurd (no_spots spots p w e b s none is)

module _ (spot : Spot) (below beside : List Spot) (cuts : List Cut) (cut : Cut) (xs ys : List Cut) (l g h m n o : ℕ) (apart : AreCut cuts cut xs ys below) (inner : Weighs below xs l g h) (others : Weighs beside ys m n o) where
  pub weigh_stays : cut ≡ Stays → (s : Sketch) → IsParted spot below beside s → AreWeights (drawn s cuts) (spot.weight + l + m) 0 (max h o)
  weigh_stays is Empty p = absurd p
  weigh_stays is (Plant q w e b s) p =
      let d = drawn_of cuts cut xs ys below q w e b s apart p.below_is in
      let i = inner b p.below_is in
      let j = others s p.beside_is in
      subst (λ x. AreWeights x (spot.weight + l + m) 0 (max h o)) (sym (d ∙ ap (λ c. Grown q w e c (drawn b xs) (drawn s ys)) is))
      (record { stays = omega (arith, i.stays, j.stays, p.weight); goes_on = refl; most = (λ k. max (i.most k) (j.most k)) })

  pub weigh_begins : cut ≡ Begins → (s : Sketch) → IsParted spot below beside s → AreWeights (drawn s cuts) m 0 (max (spot.weight + l + n) (max h o))
  weigh_begins is Empty p = absurd p
  weigh_begins is (Plant q w e b s) p =
      let d = drawn_of cuts cut xs ys below q w e b s apart p.below_is in
      let i = inner b p.below_is in
      let j = others s p.beside_is in
      subst (λ x. AreWeights x m 0 (max (spot.weight + l + n) (max h o))) (sym (d ∙ ap (λ c. Grown q w e c (drawn b xs) (drawn s ys)) is))
      (record { stays = j.stays; goes_on = refl; most = (λ k. max (p.weight k + i.stays k + j.goes_on k) (max (i.most k) (j.most k))) })

  pub weigh_goes : cut ≡ GoesOn → (s : Sketch) → IsParted spot below beside s → AreWeights (drawn s cuts) m (spot.weight + l + n) (max h o)
  weigh_goes is Empty p = absurd p
  weigh_goes is (Plant q w e b s) p =
      let d = drawn_of cuts cut xs ys below q w e b s apart p.below_is in
      let i = inner b p.below_is in
      let j = others s p.beside_is in
      subst (λ x. AreWeights x m (spot.weight + l + n) (max h o)) (sym (d ∙ ap (λ c. Grown q w e c (drawn b xs) (drawn s ys)) is))
      (record { stays = j.stays; goes_on = (λ k. p.weight k + i.stays k + j.goes_on k); most = (λ k. max (i.most k) (j.most k)) })

  -- no sum of these is too great
  pub weigh_small : (s : Sketch) → IsParted spot below beside s → sketch_weight s < 2 ^ 24 → (spot.weight + l + m < 2 ^ 24) × (spot.weight + l + n < 2 ^ 24)
  weigh_small Empty p small = absurd p
  weigh_small (Plant q w e b s) p small =
      let i = inner b p.below_is in
      let j = others s p.beside_is in (
        omega (arith, i.stays, j.stays, p.weight, staying_weight-sketch_weight b xs, staying_weight-sketch_weight s ys),
        omega (arith, i.stays, j.goes_on, p.weight, staying_weight-sketch_weight b xs, goes-sketch_weight s ys),
      )

-- a list with its cuts, of which the first node is taken apart
pub record IsTakenApart (spots : List Spot) (cuts : List Cut) (spot : Spot) (below beside : List Spot) : Type 0 where
  pub flat : IsFlat spots
  pub cases : (s : Sketch) → spots ≡ spots_of s → IsParted spot below beside s
  pub shorter : length spots ≡ 1 + length below + length beside
  pub len : length cuts ≡ length spots

-- no sum of what the parts weigh is too great
pub sums_fit : {l g h m n o : ℕ} {spots : List Spot} {cuts : List Cut} {spot : Spot} {below beside : List Spot} → IsTakenApart spots cuts spot below beside → Weighs below (cuts_below cuts below) l g h → Weighs beside (cuts_beside cuts below) m n o
    → (spot.weight + l + m < 2 ^ 24) × (spot.weight + l + n < 2 ^ 24)
sums_fit {l} {g} {h} {m} {n} {o} {spots} {cuts} {spot} {below} {beside} is inner others =
    let flat = is.flat in
    let shorter = is.shorter in
    let len = is.len in
    let apart = cut_apart cuts Stays below (omega arith) in
    weigh_small spot below beside cuts (get_or cuts 0 Stays) (cuts_below cuts below) (cuts_beside cuts below) l g h m n o apart inner others flat.sketch (is.cases flat.sketch flat.is) flat.small

-- where an interval ends that is gone on with
abbrev pub EndsAt : List Spot → List Cut → ℕ → ℕ → Type 0
EndsAt spots cuts last r = (s : Sketch) → spots ≡ spots_of s → r ≡ end_position last (drawn s cuts)

pub end_none : (spots : List Spot) (cuts : List Cut) (last : ℕ) → spots ≡ [] → EndsAt spots cuts last last
end_none spots cuts last none Empty is = refl
end_none spots cuts last none (Plant p w e b s) is = absurd (no_spots spots p w e b s none is)

module _ (spot : Spot) (below beside : List Spot) (cuts : List Cut) (cut : Cut) (xs ys : List Cut) (apart : AreCut cuts cut xs ys below) where
  pub end_goes : (last r : ℕ) → cut ≡ GoesOn → EndsAt beside ys spot.position r → (s : Sketch) → IsParted spot below beside s → r ≡ end_position last (drawn s cuts)
  end_goes last r is ends Empty p = absurd p
  end_goes last r is ends (Plant q w e b s) p =
      let d = drawn_of cuts cut xs ys below q w e b s apart p.below_is in
      ends s p.beside_is ∙ ap (λ n. end_position n (drawn s ys)) p.position ∙ ap (end_position last) (sym (d ∙ ap (λ c. Grown q w e c (drawn b xs) (drawn s ys)) is))

  pub end_stops : (last : ℕ) → (cut ≡ GoesOn → ⊥) → (s : Sketch) → IsParted spot below beside s → last ≡ end_position last (drawn s cuts)
  end_stops last n Empty p = absurd p
  end_stops last n (Plant q w e b s) p = by cut n (drawn_of cuts cut xs ys below q w e b s apart p.below_is)
    where
      by : (c : Cut) → (c ≡ GoesOn → ⊥) → drawn (Plant q w e b s) cuts ≡ Grown q w e c (drawn b xs) (drawn s ys) → last ≡ end_position last (drawn (Plant q w e b s) cuts)
      by Stays n d = ap (end_position last) (sym d)
      by Begins n d = ap (end_position last) (sym d)
      by GoesOn n d = absurd (n refl)

  -- the intervals of a list, from those of its parts
  pub write_parts : (path : List ℕ) (old : List Interval) (f1 f2 f3 : List Interval)
      → ((s : Sketch) → beside ≡ spots_of s → f1 ≡ old ++ run_of path spot.position cut (drawn s ys)) → ((b : Sketch) → below ≡ spots_of b → f2 ≡ f1 ++ drawn_intervals (path ++ spot.position ∷ []) (drawn b xs)) → ((s : Sketch) → beside ≡ spots_of s → f3 ≡ f2 ++ drawn_intervals path (drawn s ys))
      → (s : Sketch) → IsParted spot below beside s → f3 ≡ old ++ drawn_intervals path (drawn s cuts)
  write_parts path old f1 f2 f3 h1 h2 h3 Empty p = absurd p
  write_parts path old f1 f2 f3 h1 h2 h3 (Plant q w e b s) p =
      let d = drawn_of cuts cut xs ys below q w e b s apart p.below_is in
      let bs = drawn_intervals (path ++ q ∷ []) (drawn b xs) in
      let ss = drawn_intervals path (drawn s ys) in
      let run = run_of path q cut (drawn s ys) in
      let one : f1 ≡ old ++ run = h1 s p.beside_is ∙ ap (λ n. old ++ run_of path n cut (drawn s ys)) p.position in
      let two : f2 ≡ (old ++ run) ++ bs = h2 b p.below_is ∙ (λ i. one i ++ drawn_intervals (path ++ p.position i ∷ []) (drawn b xs)) in
      let three : f3 ≡ ((old ++ run) ++ bs) ++ ss = h3 s p.beside_is ∙ ap (λ l. l ++ ss) two in
      three ∙ append_assoc (old ++ run) bs ss ∙ append_assoc old run (bs ++ ss) ∙ ap (λ l. old ++ l) (by cut) ∙ ap (λ x. old ++ drawn_intervals path x) (sym d)
    where
      by : (c : Cut) → run_of path q c (drawn s ys) ++ (drawn_intervals (path ++ q ∷ []) (drawn b xs) ++ drawn_intervals path (drawn s ys)) ≡ drawn_intervals path (Grown q w e c (drawn b xs) (drawn s ys))
      by Stays = refl
      by Begins = refl
      by GoesOn = refl

pub write_none : (spots : List Spot) (cuts : List Cut) (path : List ℕ) (old : List Interval) → spots ≡ [] → (s : Sketch) → spots ≡ spots_of s → old ≡ old ++ drawn_intervals path (drawn s cuts)
write_none spots cuts path old none Empty is = sym (append-nil old)
write_none spots cuts path old none (Plant p w e b s) is = absurd (no_spots spots p w e b s none is)

-- a step that was added to a path and taken away again
pub pop_path : (path items popped : List ℕ) (p n : ℕ) → items ≡ path ++ p ∷ [] → popped ≡ take (n - 1) items → n ≡ length items → popped ≡ path
pop_path path items popped p n is rest len =
    rest ∙ ap (take (n - 1)) is ∙ take-front path (p ∷ []) (n - 1) (let e = ap length is in omega (arith, length-append path (p ∷ [])))
