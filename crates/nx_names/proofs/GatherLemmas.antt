-- One thing more that is shown to a gatherer.
use Rattle.std.proofs.Common.{◌≡◌, ◌<◌, ◌≤◌, ℕ, ◌+◌, ◌-◌, Bool, true, false, List, [], ◌∷◌, ◌++◌, length, take, drop, get_or, refl, sym, ap, ◌∙◌, subst, length-append, arith, inl, inr}
use Rattle.std.specs.Prelude.{◌&&◌, ◌||◌, if◌then◌else◌}
use Rattle.std.specs.Str.{bytes_eq}
use Rattle.std.specs.List.Sorted.{IsNonDecreasing}
use Rattle.std.proofs.lemmas.Bool.{cases_lt}
use Rattle.std.proofs.lemmas.List.{get_or_append_left, get_or-append_right, take-append-drop}
use Rattle.std.proofs.lemmas.List.Sorted.{IsNonDecreasingBy-take}
use Rattle.nx_tree.specs.declared.node.Kind.{Kind}
use Rattle.nx_matrix.specs.Label.{label_by}
use Rattle.nx_layouts.specs.Layout.{RecordPlace}
use Rattle.nx_names.specs.declared.noted.Noted.{Noted}
use Rattle.nx_names.specs.declared.gatherer.Gatherer.{Gatherer}
use Rattle.nx_names.specs.Look.{Look, RecordBegins, NodeBegins, RecordEnds}
use Rattle.nx_names.specs.Serials.{is_in, serials_at, noted_from}
use Rattle.nx_names.specs.declared.serials.Serials.{Serials}
use Rattle.nx_names.specs.Opening.{AddsOpen, HasThoseBefore}
use Rattle.nx_names.specs.Numbering.{AreRight, IsNumbering}
use Rattle.nx_names.specs.Gathered.{Gathered, gathered_after, gathered_behind, HasGathered, GathersLabels}
use Rattle.nx_names.proofs.NotedLemmas.{noted-append, noted-length}
use Rattle.nx_names.proofs.HeardLemmas.{gathered-append}
use Rattle.nx_names.proofs.SerialLemmas.{in_either, in_first, in_one, rises_on}

one_rises : (x : ℕ) → IsNonDecreasing (x ∷ [])
one_rises x i j d le low = let a : i ≡ 0 = omega arith in let b : j ≡ 0 = omega arith in subst (λ (m : ℕ). get_or (x ∷ []) m d ≤ get_or (x ∷ []) j d) (sym a) (subst (λ (m : ℕ). x ≤ get_or (x ∷ []) m d) (sym b) (omega arith))

module _ (old new : Gatherer) (g : Gathered) (is : HasGathered old g) where
  -- a record's interval begins
  pub begins_record : (place : RecordPlace) (serial : ℕ) → place.slot < 65536 → serial ≡ length old.noted.items → new.around.items ≡ old.around.items ++ serial ∷ []
      → new.noted.items ≡ old.noted.items ++ record { page = place.page; serial = serial; slot = place.slot } ∷ [] → new.serials ≡ old.serials → new.hints ≡ old.hints → HasGathered new (gathered_after g (RecordBegins place))
  begins_record place serial low numbered opens noted same hints =
      let n : serial ≡ length g.places = numbered ∙ ap length is.noted ∙ noted-length 0 g.places in
      let many = length-append g.places (place ∷ []) in
      record {
        around = opens ∙ ap (λ (xs : List ℕ). xs ++ serial ∷ []) is.around ∙ ap (λ (m : ℕ). g.around ++ m ∷ []) n;
        noted = noted ∙ ap (λ (rs : List Noted). rs ++ record { page = place.page; serial = serial; slot = place.slot } ∷ []) is.noted
            ∙ ap (λ (m : ℕ). noted_from 0 g.places ++ record { page = place.page; serial = m; slot = place.slot } ∷ []) (n ∙ (let e : length g.places ≡ 0 + length g.places = omega arith in e))
            ∙ sym (noted-append 0 g.places (place ∷ []));
        heard = λ name asked. ap (λ s. is_in (serials_at s name) asked) same ∙ is.heard name asked;
        small = λ k d high. elim (cases_lt k (length g.places)) [
          | inl inside ↦ let e = ap (λ (p : RecordPlace). p.slot) (get_or_append_left g.places (place ∷ []) d k inside) in let low = is.small k d inside in omega arith
          | inr outside ↦
              let e = ap (λ (p : RecordPlace). p.slot) (get_or-append_right g.places (place ∷ []) (length g.places) k d refl outside) in
              let first : (get_or (place ∷ []) (k - length g.places) d).slot ≡ place.slot = ap (λ (m : ℕ). (get_or (place ∷ []) m d).slot) (let z : k - length g.places ≡ 0 = omega arith in z) in
              omega arith
        ];
        rises = rises_on g.around (length g.places ∷ []) is.rises (one_rises (length g.places)) (λ x y among last. let low = is.came x among in let one = in_one (length g.places) y last in omega arith);
        came = λ asked among. elim (in_either g.around (length g.places ∷ []) asked among) [
          | inl before ↦ let low = is.came asked before in omega arith
          | inr last ↦ let one = in_one (length g.places) asked last in omega arith
        ];
        ascend = λ name. subst (λ s. IsNonDecreasing (serials_at s name)) (sym same) (is.ascend name);
        known = λ name asked among. let low = is.known name asked (sym (ap (λ s. is_in (serials_at s name) asked) same) ∙ among) in omega arith;
        before = λ name. subst (λ s. HasThoseBefore (serials_at s name) (g.around ++ length g.places ∷ [])) (sym same) (λ asked later among has le.
            elim (in_either g.around (length g.places ∷ []) asked among) [
              | inl before ↦ is.before name asked later before has le
              | inr last ↦ let one = in_one (length g.places) asked last in let low = is.known name later has in absurd (omega arith)
            ]);
        numbering = subst IsNumbering (sym same) is.numbering;
        right = subst (AreRight new.serials.numbers) (sym hints) (subst (λ (s : Serials). AreRight s.numbers old.hints) (sym same) is.right);
      }

  -- the interval ends that began last
  pub ends_record : new.around.items ≡ take (length old.around.items - 1) old.around.items → new.noted ≡ old.noted → new.serials ≡ old.serials → new.hints ≡ old.hints → HasGathered new (gathered_after g RecordEnds)
  ends_record closes noted same hints =
      let n : ℕ = length g.around - 1 in
      let inside : (asked : ℕ) → is_in (take n g.around) asked ≡ true → is_in g.around asked ≡ true = λ asked among.
      subst (λ (xs : List ℕ). is_in xs asked ≡ true) (take-append-drop n g.around) (in_first (take n g.around) (drop n g.around) asked among) in
      record {
        around = closes ∙ ap (λ (xs : List ℕ). take (length xs - 1) xs) is.around;
        noted = ap (λ v. v.items) noted ∙ is.noted;
        heard = λ name asked. ap (λ s. is_in (serials_at s name) asked) same ∙ is.heard name asked;
        small = is.small;
        rises = IsNonDecreasingBy-take (λ x. x) n g.around is.rises;
        came = λ asked among. is.came asked (inside asked among);
        ascend = λ name. subst (λ s. IsNonDecreasing (serials_at s name)) (sym same) (is.ascend name);
        known = λ name asked among. is.known name asked (sym (ap (λ s. is_in (serials_at s name) asked) same) ∙ among);
        before = λ name. subst (λ s. HasThoseBefore (serials_at s name) (take n g.around)) (sym same) (λ asked later among has le. is.before name asked later (inside asked among) has le);
        numbering = subst IsNumbering (sym same) is.numbering;
        right = subst (AreRight new.serials.numbers) (sym hints) (subst (λ (s : Serials). AreRight s.numbers old.hints) (sym same) is.right);
      }

  -- a node begins, whose label's numbers were added to
  pub begins_node : (kind : Kind) (name added : List ℕ) → new.around ≡ old.around → new.noted ≡ old.noted → ((asked : List ℕ) → serials_at new.serials asked ≡ (if bytes_eq asked (label_by kind name) then added else serials_at old.serials asked))
      → ((asked : List ℕ) → bytes_eq asked (label_by kind name) ≡ true → AddsOpen (serials_at old.serials asked) old.around.items added) → IsNumbering new.serials → AreRight new.serials.numbers new.hints → HasGathered new (gathered_after g (NodeBegins kind name))
  begins_node kind name added opens noted after adds numbering right = record {
    around = ap (λ v. v.items) opens ∙ is.around;
    noted = ap (λ v. v.items) noted ∙ is.noted;
    heard = λ asked serial. ap (λ (xs : List ℕ). is_in xs serial) (after asked) ∙ heard_case asked serial (bytes_eq asked (label_by kind name)) refl;
    small = is.small;
    rises = is.rises;
    came = is.came;
    ascend = λ asked. subst IsNonDecreasing (sym (after asked)) (ascend_case asked (bytes_eq asked (label_by kind name)) refl);
    known = λ asked serial among. known_case asked serial (bytes_eq asked (label_by kind name)) refl (sym (ap (λ (xs : List ℕ). is_in xs serial) (after asked)) ∙ among);
    before = λ asked. subst (λ (xs : List ℕ). HasThoseBefore xs g.around) (sym (after asked)) (before_case asked (bytes_eq asked (label_by kind name)) refl);
    numbering = numbering;
    right = right;
  }
    where
      both : (asked : List ℕ) → bytes_eq asked (label_by kind name) ≡ true → IsNonDecreasing added × ((serial : ℕ) → is_in added serial ≡ (is_in (serials_at old.serials asked) serial || is_in g.around serial))
      both asked same = subst (λ (around : List ℕ). AddsOpen (serials_at old.serials asked) around added) is.around (adds asked same) is.rises (is.ascend asked) (is.before asked)

      heard_case : (asked : List ℕ) (serial : ℕ) (b : Bool) → bytes_eq asked (label_by kind name) ≡ b
          → is_in (if b then added else serials_at old.serials asked) serial ≡ (g.heard asked serial || (bytes_eq asked (label_by kind name) && is_in g.around serial))
      heard_case asked serial true same =
          (both asked same).1 serial ∙ ap (λ (c : Bool). c || is_in g.around serial) (is.heard asked serial) ∙ ap (λ (c : Bool). g.heard asked serial || (c && is_in g.around serial)) (sym same)
      heard_case asked serial false other = is.heard asked serial ∙ sym (or_no (g.heard asked serial)) ∙ ap (λ (c : Bool). g.heard asked serial || (c && is_in g.around serial)) (sym other)
        where
          or_no : (b : Bool) → (b || false) ≡ b
          or_no true = refl
          or_no false = refl

      ascend_case : (asked : List ℕ) (b : Bool) → bytes_eq asked (label_by kind name) ≡ b → IsNonDecreasing (if b then added else serials_at old.serials asked)
      ascend_case asked true same = (both asked same).0
      ascend_case asked false other = is.ascend asked

      known_case : (asked : List ℕ) (serial : ℕ) (b : Bool) → bytes_eq asked (label_by kind name) ≡ b → is_in (if b then added else serials_at old.serials asked) serial ≡ true → serial < length g.places
      known_case asked serial true same among = either (is_in (serials_at old.serials asked) serial) refl
        where
          either : (b : Bool) → is_in (serials_at old.serials asked) serial ≡ b → serial < length g.places
          either true known = is.known asked serial known
          either false other = is.came serial (sym (ap (λ (c : Bool). c || is_in g.around serial) other) ∙ sym ((both asked same).1 serial) ∙ among)
      known_case asked serial false other among = is.known asked serial among

      before_case : (asked : List ℕ) (b : Bool) → bytes_eq asked (label_by kind name) ≡ b → HasThoseBefore (if b then added else serials_at old.serials asked) g.around
      before_case asked true same = λ serial later among has le. (both asked same).1 serial ∙ ap (λ (c : Bool). is_in (serials_at old.serials asked) serial || c) among ∙ or_yes (is_in (serials_at old.serials asked) serial)
        where
          or_yes : (b : Bool) → (b || true) ≡ true
          or_yes true = refl
          or_yes false = refl
      before_case asked false other = is.before asked

-- More was shown behind what was shown.
pub gathers_on : (old mid new : Gatherer) (looks more : List Look) → GathersLabels old looks mid → GathersLabels mid more new → GathersLabels old (looks ++ more) new
gathers_on old mid new looks more first second g is = subst (HasGathered new) (sym (gathered-append g looks more)) (second (gathered_behind g looks) (first g is))
