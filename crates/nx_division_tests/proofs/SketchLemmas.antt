-- Lists of nodes, put together to sketches.
use Rattle.std.proofs.Common.{◌≡◌, ℕ, ◌+◌, ◌≤◌, List, [], ◌∷◌, ◌++◌, length, take, drop, refl, sym, ap, ◌∙◌, arith, append-nil, append_assoc, lit<, true, Option, None, Some}
use Rattle.std.proofs.lemmas.List.{length-take-le, take-append-drop}
use Rattle.nx_sketch.specs.declared.spot.Spot.{Spot}
use Rattle.nx_sketch.specs.Sketch.{IsFlat, Sketch, Empty, Plant, Placed, spot_count, placed_in, spots_of, sketch_weight}
use Rattle.std.specs.Option.{IfSome, is_some}
use Rattle.std.proofs.lemmas.Bool.{false≢true}
use Rattle.nx_division.specs.Divided.{IsSplittable}
use Rattle.nx_division.specs.Parts.{IsParted}
use Rattle.nx_division.proofs.SpotLemmas.{length-spots}
use Rattle.nx_division_tests.specs.Grown.{IsAllowed, IsGrown, IsSum}

pub none_grown : {k low : ℕ} (spots : List Spot) → length spots ≡ 0 → IsGrown k low spots 0
none_grown [] e = record { sketch = Empty; is = refl; weighs = refl; small = lit< tt; light = tt; rising = tt }
none_grown (x ∷ spots) e = absurd (omega arith)

-- a node with those below it, of which there are so many, and those beside it
pub grown : {k low : ℕ} {spots : List Spot} (spot : Spot) (rest : List Spot) (inner others : ℕ) → spots ≡ spot ∷ rest → spot.below ≤ length rest → IsAllowed k low spot × IsSum spot inner others → IsGrown k 0 (take spot.below rest) inner × IsGrown k (spot.position + 1) (drop spot.below rest) others → IsGrown k low spots (spot.weight + inner + others)
grown {k} {low} {spots} spot rest inner others from few fits h =
    let b = h.0 in
    let s = h.1 in
    let count : spot.below ≡ spot_count b.sketch = sym (length-take-le spot.below rest few) ∙ ap length b.is ∙ length-spots b.sketch in
    let within : spot.within ≡ spot.weight + sketch_weight b.sketch = sym fits.1.weighs ∙ ap (λ n. spot.weight + n) b.weighs in
    let both : rest ≡ spots_of b.sketch ++ spots_of s.sketch = sym (take-append-drop spot.below rest) ∙ (λ i. b.is i ++ s.is i) in
    record {
      sketch = Plant spot.position spot.weight spot.entry b.sketch s.sketch;
      is = from ∙ (λ i. record { position = spot.position; weight = spot.weight; within = within i; entry = spot.entry; below = count i } ∷ both i);
      weighs = (λ i. spot.weight + b.weighs i + s.weighs i);
      small = fits.1.small;
      light = (fits.0.least, fits.0.most, b.light, s.light);
      rising = (fits.0.position, b.rising, s.rising);
    }

pub no_nodes : (spots : List Spot) (path : List ℕ) (found : List Placed) → spots ≡ [] → (s : Sketch) → spots ≡ spots_of s → found ≡ found ++ placed_in path s
no_nodes spots path found none Empty is = sym (append-nil found)
no_nodes spots path found none (Plant p w e b s) is = let f : [] ≡ spots_of (Plant p w e b s) = sym none ∙ is in absurd (cc)

-- the nodes of a list's parts, which are added one after another
pub more_nodes : (spot : Spot) {below beside : List Spot} (path : List ℕ) (old inner last : List Placed)
    → ((b : Sketch) → below ≡ spots_of b → inner ≡ (old ++ record { path = path ++ spot.position ∷ []; weight = spot.weight; entry = spot.entry } ∷ []) ++ placed_in (path ++ spot.position ∷ []) b)
    → ((s : Sketch) → beside ≡ spots_of s → last ≡ inner ++ placed_in path s) → (s : Sketch) → IsParted spot below beside s → last ≡ old ++ placed_in path s
more_nodes spot path old inner last x y Empty h = absurd h
more_nodes spot path old inner last x y (Plant p w e b s) h =
    let node : Placed = record { path = path ++ spot.position ∷ []; weight = spot.weight; entry = spot.entry } in
    let bs = placed_in (path ++ spot.position ∷ []) b in
    let ss = placed_in path s in
    y s h.beside_is ∙ ap (λ l. l ++ ss) (x b h.below_is) ∙ append_assoc (old ++ node ∷ []) bs ss ∙ append_assoc old (node ∷ []) (bs ++ ss)
    ∙ (λ i. old ++ (record { path = path ++ h.position i ∷ []; weight = h.weight i; entry = h.entry i } ∷ (placed_in (path ++ h.position i ∷ []) b ++ ss)))

pub splittable : {k : ℕ} (o : Option ℕ) (spots : List Spot) → IfSome o (IsGrown k 0 spots) → is_some o ≡ true → IsSplittable k spots
splittable None spots h e = absurd (false≢true e)
splittable (Some weight) spots h e = record { sketch = h.sketch; is = h.is; small = (let w = h.weighs in let x = h.small in omega arith); light = h.light }

pub flat : {k : ℕ} {spots : List Spot} → IsSplittable k spots → IsFlat spots
flat h = record { sketch = h.sketch; is = h.is; small = h.small }
