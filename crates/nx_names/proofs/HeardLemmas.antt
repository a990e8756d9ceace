-- What was gathered of a whole layout.
use Rattle.std.proofs.Common.{◌≡◌, ◌<◌, ◌≤◌, ℕ, ◌+◌, ◌-◌, ◌==◌, Bool, true, false, List, [], ◌∷◌, ◌++◌, length, take, refl, sym, ap, ◌∙◌, subst, append_assoc, length-append, arith}
use Rattle.std.specs.Prelude.{◌&&◌, ◌||◌}
use Rattle.std.specs.Str.{bytes_eq}
use Rattle.std.proofs.lemmas.List.{append-nil}
use Rattle.std.proofs.lemmas.List.Folds.{list_any-append}
use Rattle.std.proofs.lemmas.Bool.Decides.{nat_tests}
use Rattle.nx_matrix.specs.Label.{label}
use Rattle.nx_cuts.specs.Cut.{Bare, Grown, Kept}
use Rattle.nx_layouts.specs.Layout.{RecordPlace, Layout, laid_forest, places_of, ArePlacedOnce}
use Rattle.nx_reach.specs.Reach.{has_label}
use Rattle.nx_names.specs.Labels.{HoldsLabels}
use Rattle.nx_names.specs.Look.{Look, RecordBegins, NodeBegins, NodeEnds, RecordEnds, looks_of, looks_into}
use Rattle.nx_names.specs.Serials.{is_in, has_noted, noted_from}
use Rattle.nx_names.specs.Gathered.{Gathered, gathered_after, gathered_behind, nothing_gathered}
use Rattle.nx_names.proofs.LookLemmas.{all_wanted, has_label-joined}
use Rattle.nx_names.proofs.NotedLemmas.{not_true, or_false, noted_once}

pub gathered-append : (g : Gathered) (xs ys : List Look) → gathered_behind g (xs ++ ys) ≡ gathered_behind (gathered_behind g xs) ys
gathered-append g [] ys = refl
gathered-append g (x ∷ xs) ys = gathered-append (gathered_after g x) xs ys

-- Whether the interval with this number has the label at or below its members, where those of the layout are numbered from n on.
abbrev pub heard_in : ℕ → Layout → List ℕ → ℕ → Bool
heard_in n Bare name serial = false
heard_in n (Grown node below beside) name serial = heard_in n below name serial || heard_in (n + length (places_of below)) beside name serial
heard_in n (Kept place members beside) name serial =
    (is_in (n ∷ []) serial && has_label name (laid_forest members)) || (heard_in (n + 1) members name serial || heard_in (n + 1 + length (places_of members)) beside name serial)

-- What was gathered before a layout and after it.
record Gets (layout : Layout) (g q : Gathered) : Type 0 where
  pub around : q.around ≡ g.around
  pub places : q.places ≡ g.places ++ places_of layout
  pub heard : (name : List ℕ) (serial : ℕ) → q.heard name serial ≡ ((g.heard name serial || (is_in g.around serial && has_label name (laid_forest layout))) || heard_in (length g.places) layout name serial)

bare_heard : (h o : Bool) → h ≡ ((h || (o && false)) || false)
bare_heard true o = refl
bare_heard false true = refl
bare_heard false false = refl

grown_heard : (h e o b c x y : Bool) → ((((h || (e && o)) || (o && b)) || x) || (o && c)) || y ≡ ((h || (o && (e || (b || c)))) || (x || y))
grown_heard true e o b c x y = refl
grown_heard false true true b c x y = refl
grown_heard false true false b c true y = refl
grown_heard false true false b c false y = refl
grown_heard false false true true c x y = refl
grown_heard false false true false true true y = refl
grown_heard false false true false true false y = refl
grown_heard false false true false false true y = refl
grown_heard false false true false false false y = refl
grown_heard false false false b c true y = refl
grown_heard false false false b c false y = refl

kept_heard : (h o i m b x y : Bool) → (((h || ((o || i) && m)) || x) || (o && b)) || y ≡ ((h || (o && (m || b))) || ((i && m) || (x || y)))
kept_heard true o i m b x y = refl
kept_heard false true i true b x y = refl
kept_heard false true true false true true y = refl
kept_heard false true true false true false y = refl
kept_heard false true true false false true y = refl
kept_heard false true true false false false y = refl
kept_heard false true false false true true y = refl
kept_heard false true false false true false y = refl
kept_heard false true false false false true y = refl
kept_heard false true false false false false y = refl
kept_heard false false true true b x y = refl
kept_heard false false true false b true y = refl
kept_heard false false true false b false y = refl
kept_heard false false false true b true y = refl
kept_heard false false false true b false y = refl
kept_heard false false false false b true y = refl
kept_heard false false false false b false y = refl

take_front : (xs : List ℕ) (x : ℕ) → take (length (xs ++ x ∷ []) - 1) (xs ++ x ∷ []) ≡ xs
take_front xs x = ap (λ (n : ℕ). take n (xs ++ x ∷ [])) (let e : length (xs ++ x ∷ []) - 1 ≡ length xs = omega (arith, length-append xs (x ∷ [])) in e) ∙ front xs
  where
    front : (xs : List ℕ) → take (length xs) (xs ++ x ∷ []) ≡ xs
    front [] = refl
    front (y ∷ ys) = ap (λ zs. y ∷ zs) (front ys)

gets : (layout : Layout) (g : Gathered) → Gets layout g (gathered_behind g (looks_of all_wanted layout))
gets Bare g = record { around = refl; places = sym (append-nil g.places); heard = λ name serial. bare_heard (g.heard name serial) (is_in g.around serial) }
gets (Grown node below beside) g =
    let l = label node.node in
    let first = gathered_after g (NodeBegins node.node.kind node.node.name) in
    let mid = gathered_behind first (looks_of all_wanted below) in
    let one = gets below first in
    let two = gets beside mid in
    let same = gathered-append first (looks_of all_wanted below) (NodeEnds node.node.kind ∷ looks_of all_wanted beside) in
    subst (λ (q : Gathered). Gets (Grown node below beside) g q) (sym same) (record {
      around = two.around ∙ one.around;
      places = two.places ∙ ap (λ ps. ps ++ places_of beside) one.places ∙ append_assoc g.places (places_of below) (places_of beside);
      heard = λ name serial.
          let n : length mid.places ≡ length g.places + length (places_of below) = ap length one.places ∙ length-append g.places (places_of below) in
          two.heard name serial
          ∙ ap (λ (b : Bool). (b || (is_in mid.around serial && has_label name (laid_forest beside))) || heard_in (length mid.places) beside name serial) (one.heard name serial)
          ∙ ap (λ (around : List ℕ). ((((g.heard name serial || (bytes_eq name l && is_in g.around serial)) || (is_in g.around serial && has_label name (laid_forest below))) || heard_in (length g.places) below name serial)
          || (is_in around serial && has_label name (laid_forest beside))) || heard_in (length mid.places) beside name serial) one.around
          ∙ ap (λ (m : ℕ). ((((g.heard name serial || (bytes_eq name l && is_in g.around serial)) || (is_in g.around serial && has_label name (laid_forest below))) || heard_in (length g.places) below name serial)
          || (is_in g.around serial && has_label name (laid_forest beside))) || heard_in m beside name serial) n
          ∙ grown_heard (g.heard name serial) (bytes_eq name l) (is_in g.around serial) (has_label name (laid_forest below)) (has_label name (laid_forest beside)) (heard_in (length g.places) below name serial)
          (heard_in (length g.places + length (places_of below)) beside name serial);
    })
gets (Kept place members beside) g =
    let n = length g.places in
    let first = gathered_after g (RecordBegins place) in
    let mid = gathered_behind first (looks_of all_wanted members) in
    let out = gathered_after mid RecordEnds in
    let one = gets members first in
    let two = gets beside out in
    let same = gathered-append first (looks_of all_wanted members ++ RecordEnds ∷ []) (looks_of all_wanted beside) ∙ ap (λ (q : Gathered). gathered_behind q (looks_of all_wanted beside)) (gathered-append first (looks_of all_wanted members) (RecordEnds ∷ [])) in
    let around : out.around ≡ g.around = ap (λ (around : List ℕ). take (length around - 1) around) one.around ∙ take_front g.around n in
    let many : length first.places ≡ n + 1 = length-append g.places (place ∷ []) in
    let more : length mid.places ≡ n + 1 + length (places_of members) = ap length one.places ∙ length-append first.places (places_of members) ∙ ap (λ (m : ℕ). m + length (places_of members)) many in
    subst (λ (q : Gathered). Gets (Kept place members beside) g q) (sym same) (record {
      around = two.around ∙ around;
      places = two.places ∙ ap (λ ps. ps ++ places_of beside) (one.places ∙ append_assoc g.places (place ∷ []) (places_of members)) ∙ append_assoc g.places (place ∷ places_of members) (places_of beside);
      heard = λ name serial.
          let m = has_label name (laid_forest members) in
          let b = has_label name (laid_forest beside) in
          let h = g.heard name serial in
          let o = is_in g.around serial in
          let i = is_in (n ∷ []) serial in
          let x = heard_in (n + 1) members name serial in
          two.heard name serial
          ∙ ap (λ (c : Bool). (c || (is_in out.around serial && b)) || heard_in (length out.places) beside name serial) (one.heard name serial)
          ∙ ap (λ (around : List ℕ). (((h || (is_in first.around serial && m)) || heard_in (length first.places) members name serial) || (is_in around serial && b)) || heard_in (length out.places) beside name serial) around
          ∙ ap (λ (c : Bool). (((h || (c && m)) || heard_in (length first.places) members name serial) || (o && b)) || heard_in (length out.places) beside name serial) (list_any-append (λ y. y == serial) g.around (n ∷ []))
          ∙ ap (λ (k : ℕ). (((h || ((o || i) && m)) || heard_in k members name serial) || (o && b)) || heard_in (length out.places) beside name serial) many
          ∙ ap (λ (k : ℕ). (((h || ((o || i) && m)) || x) || (o && b)) || heard_in k beside name serial) more
          ∙ kept_heard h o i m b x (heard_in (n + 1 + length (places_of members)) beside name serial)
          ∙ ap (λ (c : Bool). (h || (o && c)) || ((i && m) || (x || heard_in (n + 1 + length (places_of members)) beside name serial))) (sym (has_label-joined name (laid_forest members) (laid_forest beside)));
    })

not_one : (n serial : ℕ) → (n ≡ serial → ⊥) → is_in (n ∷ []) serial ≡ false
not_one n serial other = or_false (n == serial) ∙ not_true (n == serial) (λ same. other (grind (arith, nat_tests)))

-- a number before those of the layout, and one behind them
heard_before : (n : ℕ) (layout : Layout) (name : List ℕ) (serial : ℕ) → serial < n → heard_in n layout name serial ≡ false
heard_before n Bare name serial low = refl
heard_before n (Grown node below beside) name serial low =
    ap (λ (b : Bool). b || heard_in (n + length (places_of below)) beside name serial) (heard_before n below name serial low) ∙ heard_before (n + length (places_of below)) beside name serial (omega arith)
heard_before n (Kept place members beside) name serial low =
    ap (λ (b : Bool). (b && has_label name (laid_forest members)) || (heard_in (n + 1) members name serial || heard_in (n + 1 + length (places_of members)) beside name serial)) (not_one n serial (λ same. omega arith))
    ∙ ap (λ (b : Bool). b || heard_in (n + 1 + length (places_of members)) beside name serial) (heard_before (n + 1) members name serial (omega arith))
    ∙ heard_before (n + 1 + length (places_of members)) beside name serial (omega arith)

heard_behind : (n : ℕ) (layout : Layout) (name : List ℕ) (serial : ℕ) → n + length (places_of layout) ≤ serial → heard_in n layout name serial ≡ false
heard_behind n Bare name serial high = refl
heard_behind n (Grown node below beside) name serial high =
    let many = length-append (places_of below) (places_of beside) in
    ap (λ (b : Bool). b || heard_in (n + length (places_of below)) beside name serial) (heard_behind n below name serial (omega arith)) ∙ heard_behind (n + length (places_of below)) beside name serial (omega arith)
heard_behind n (Kept place members beside) name serial high =
    let many = length-append (places_of members) (places_of beside) in
    ap (λ (b : Bool). (b && has_label name (laid_forest members)) || (heard_in (n + 1) members name serial || heard_in (n + 1 + length (places_of members)) beside name serial)) (not_one n serial (λ same. omega arith))
    ∙ ap (λ (b : Bool). b || heard_in (n + 1 + length (places_of members)) beside name serial) (heard_behind (n + 1) members name serial (omega arith))
    ∙ heard_behind (n + 1 + length (places_of members)) beside name serial (omega arith)

-- What is held by such numbers is the map of the labels.
module _ (holds : RecordPlace → List ℕ → Bool) (heard : List ℕ → ℕ → Bool) (all : List RecordPlace) (once : ArePlacedOnce all) (by : (place : RecordPlace) (name : List ℕ) → holds place name ≡ has_noted (noted_from 0 all) place (heard name)) where
  holds_part : (layout : Layout) (front back : List RecordPlace) → all ≡ front ++ (places_of layout ++ back)
      → ((name : List ℕ) (serial : ℕ) → length front ≤ serial → serial < length front + length (places_of layout) → heard name serial ≡ heard_in (length front) layout name serial) → HoldsLabels holds layout
  holds_part Bare front back is agree = tt
  holds_part (Grown node below beside) front back is agree =
      let many = length-append (places_of below) (places_of beside) in
      let n = length-append front (places_of below) in (
        holds_part below front (places_of beside ++ back) (is ∙ ap (λ ps. front ++ ps) (append_assoc (places_of below) (places_of beside) back)) (λ name serial low high.
            agree name serial low (omega arith)
            ∙ ap (λ (b : Bool). heard_in (length front) below name serial || b) (heard_before (length front + length (places_of below)) beside name serial (omega arith)) ∙ or_false (heard_in (length front) below name serial)),
        holds_part beside (front ++ places_of below) back
            (is ∙ ap (λ ps. front ++ ps) (append_assoc (places_of below) (places_of beside) back) ∙ sym (append_assoc front (places_of below) (places_of beside ++ back))) (λ name serial low high.
            agree name serial (omega arith) (omega arith)
            ∙ ap (λ (b : Bool). b || heard_in (length front + length (places_of below)) beside name serial) (heard_behind (length front) below name serial (omega arith))
            ∙ ap (λ (m : ℕ). heard_in m beside name serial) (sym n)),
      )
  holds_part (Kept place members beside) front back is agree =
      let many = length-append (places_of members) (places_of beside) in
      let n = length front in
      let one = length-append front (place ∷ []) in
      let two = length-append (front ++ place ∷ []) (places_of members) in
      let rest = places_of members ++ (places_of beside ++ back) in
      let shape : all ≡ front ++ place ∷ rest = is ∙ ap (λ ps. front ++ place ∷ ps) (append_assoc (places_of members) (places_of beside) back) in
      let there : (name : List ℕ) → has_noted (noted_from 0 all) place (heard name) ≡ heard name n = λ name.
      ap (λ (ps : List RecordPlace). has_noted (noted_from 0 ps) place (heard name)) shape ∙ noted_once front rest place (heard name) (subst ArePlacedOnce shape once) in (
        (λ name.
            let m = has_label name (laid_forest members) in
            by place name ∙ there name ∙ agree name n (omega arith) (omega arith)
            ∙ ap (λ (b : Bool). (is_in (n ∷ []) n && m) || (b || heard_in (n + 1 + length (places_of members)) beside name n)) (heard_before (n + 1) members name n (omega arith))
            ∙ ap (λ (b : Bool). (is_in (n ∷ []) n && m) || b) (heard_before (n + 1 + length (places_of members)) beside name n (omega arith))
            ∙ ap (λ (b : Bool). ((b || false) && m) || false) (itself n) ∙ or_false m),
        holds_part members (front ++ place ∷ []) (places_of beside ++ back) (shape ∙ sym (append_assoc front (place ∷ []) rest)) (λ name serial low high.
            agree name serial (omega arith) (omega arith)
            ∙ ap (λ (b : Bool). (b && has_label name (laid_forest members)) || (heard_in (n + 1) members name serial || heard_in (n + 1 + length (places_of members)) beside name serial)) (not_one n serial (λ same. omega arith))
            ∙ ap (λ (b : Bool). heard_in (n + 1) members name serial || b) (heard_before (n + 1 + length (places_of members)) beside name serial (omega arith)) ∙ or_false (heard_in (n + 1) members name serial)
            ∙ ap (λ (m : ℕ). heard_in m members name serial) (sym one)),
        holds_part beside ((front ++ place ∷ []) ++ places_of members) back
            (shape ∙ sym (append_assoc front (place ∷ []) rest) ∙ sym (append_assoc (front ++ place ∷ []) (places_of members) (places_of beside ++ back))) (λ name serial low high.
            agree name serial (omega arith) (omega arith)
            ∙ ap (λ (b : Bool). (b && has_label name (laid_forest members)) || (heard_in (n + 1) members name serial || heard_in (n + 1 + length (places_of members)) beside name serial)) (not_one n serial (λ same. omega arith))
            ∙ ap (λ (b : Bool). b || heard_in (n + 1 + length (places_of members)) beside name serial) (heard_behind (n + 1) members name serial (omega arith))
            ∙ ap (λ (m : ℕ). heard_in m beside name serial) (sym (two ∙ ap (λ (m : ℕ). m + length (places_of members)) one))),
      )
    where
      itself : (n : ℕ) → (n == n) ≡ true
      itself n = grind (arith, nat_tests)

-- A map by what was gathered of an interval, whose records all came, holds the labels.
pub gathered_holds : (root : RecordPlace) (members : Layout) (holds : RecordPlace → List ℕ → Bool) → let g = gathered_behind nothing_gathered (looks_into all_wanted root members) in
    ArePlacedOnce (places_of (Kept root members Bare)) → ((place : RecordPlace) (name : List ℕ) → holds place name ≡ has_noted (noted_from 0 g.places) place (g.heard name)) → HoldsLabels holds (Kept root members Bare)
gathered_holds root members holds once by =
    let layout = Kept root members Bare in
    let g = gathered_behind nothing_gathered (looks_into all_wanted root members) in
    let got : Gets layout nothing_gathered g = subst (λ (looks : List Look). Gets layout nothing_gathered (gathered_behind nothing_gathered looks)) (append-nil (looks_into all_wanted root members)) (gets layout nothing_gathered) in
    holds_part holds g.heard g.places (subst ArePlacedOnce (sym got.places) once) by layout [] [] (got.places ∙ sym (append-nil (places_of layout)))
    (λ name serial low high. got.heard name serial)

-- the places are those of the interval
pub gathered_places : (root : RecordPlace) (members : Layout) → (gathered_behind nothing_gathered (looks_into all_wanted root members)).places ≡ places_of (Kept root members Bare)
gathered_places root members =
    let layout = Kept root members Bare in
    (subst (λ (looks : List Look). Gets layout nothing_gathered (gathered_behind nothing_gathered looks)) (append-nil (looks_into all_wanted root members)) (gets layout nothing_gathered)).places
