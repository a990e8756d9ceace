-- The names of a set, and one name more.
use Rattle.std.proofs.Common.{◌≡◌, ℕ, Bool, true, false, ◌||◌, List, [], ◌∷◌, map, refl, sym, ap, ◌∙◌}
use Rattle.std.specs.Global.{Vec}
use Rattle.std.specs.List.{list_any}
use Rattle.std.specs.Ordering.{is_eq, match_ordering, nat_cmp}
use Rattle.std.specs.declared.cmp.Ordering.{Ordering}
use Rattle.std.specs.declared.cmp.Ordering.TheVariants.{Less, Equal, Greater}
use Rattle.std.specs.Cmp.Lexicographic.{slice_cmp}
use Rattle.std.specs.BTreeMap.{is_at}
use Rattle.std.specs.BTreeSet.{insert_key}
use Rattle.std.specs.Str.{bytes_eq}
use Rattle.std.proofs.lemmas.Map.Text.{is_eq-slice_cmp}
use Rattle.std.proofs.lemmas.Slice.Eq.{bytes_eq-Decides}
use Rattle.nx_pyx.specs.Fault.{is_among}

abbrev pub order : Vec ℕ → Vec ℕ → Ordering
order a b = slice_cmp nat_cmp a.items b.items

abbrev pub texts : List (Vec ℕ) → List (List ℕ)
texts keys = map (λ (name : Vec ℕ). name.items) keys

-- a look-up by order finds a name that is among them
pub found_is_among : (name : Vec ℕ) (keys : List (Vec ℕ)) → list_any (is_at (order name)) keys ≡ is_among name.items (texts keys)
found_is_among name [] = refl
found_is_among name (k ∷ keys) = rw (is_eq-slice_cmp name.items k.items, found_is_among name keys)

swap : (a b c : Bool) → (b || (a || c)) ≡ (a || (b || c))
swap true true c = refl
swap true false c = refl
swap false true c = refl
swap false false c = refl

twice : (a c : Bool) → (a || c) ≡ (a || (a || c))
twice true c = refl
twice false c = refl

-- with one name more, those and it are among them
pub is_among-insert : (q : List ℕ) (name : Vec ℕ) (keys : List (Vec ℕ)) → is_among q (texts (insert_key order keys name)) ≡ is_among q (name.items ∷ texts keys)
is_among-insert q name [] = refl
is_among-insert q name (k ∷ keys) = step (order name k) refl (is_among-insert q name keys)
  where
    step : (o : Ordering) → order name k ≡ o → is_among q (texts (insert_key order keys name)) ≡ is_among q (name.items ∷ texts keys) →
        is_among q (texts (match_ordering o (name ∷ k ∷ keys) (k ∷ keys) (k ∷ insert_key order keys name))) ≡ is_among q (name.items ∷ k.items ∷ texts keys)
    step Less e h = refl
    step Equal e h =
        let same : name.items ≡ k.items = (bytes_eq-Decides name.items k.items).0 (sym (is_eq-slice_cmp name.items k.items) ∙ ap is_eq e) in
        twice (bytes_eq q k.items) (is_among q (texts keys)) ∙ ap (λ (n : List ℕ). bytes_eq q n || is_among q (k.items ∷ texts keys)) (sym same)
    step Greater e h =
        ap (λ (b : Bool). bytes_eq q k.items || b) h ∙ swap (bytes_eq q name.items) (bytes_eq q k.items) (is_among q (texts keys))
