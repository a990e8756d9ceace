-- The trees below a node, one after the other.
use Rattle.std.proofs.Common.{◌≡◌, ◌↔◌, ℕ, ◌+◌, ◌≤◌, Bool, true, false, not, ◌||◌, ◌&&◌, List, [], ◌∷◌, ◌++◌, refl, sym, ap, ◌∙◌, subst, arith, append_assoc, append-nil}
use Rattle.std.specs.Prelude.{if◌then◌else◌}
use Rattle.std.specs.Bool.{MatchBool}
use Rattle.std.specs.Str.{bytes_eq}
use Rattle.std.proofs.lemmas.Bool.{false≢true}
use Rattle.nx_tree.specs.declared.node.Kind.{Kind}
use Rattle.nx_tree.specs.declared.node.Kind.TheVariants.{Doc, Element, Attribute, Text, Instruction}
use Rattle.nx_tree.specs.Document.{is_attribute, AreDistinct}
use Rattle.nx_pyx.specs.Fault.{is_among}
use Rattle.nx_piece.specs.Viewing.{seen_items}
use Rattle.nx_check.specs.declared.siblings.Siblings.{Siblings}
use Rattle.nx_check.specs.Heads.{Head, item_heads, names_among, has_attribute, has_other, HaveAttributesFirst, AreTopHeads, one_if, elements_among, MayBeRow}
use Rattle.nx_check.specs.Siblings.{far_names, AreAround, AreAroundGap, StandAround}
use Rattle.nx_check.proofs.RowLemmas.{among, not_among, neither, among-middle, distinct_more, distinct_less, names-append, other-append, first-parts, first-join, elements-append, top-parts, top-join}

or_false : (b : Bool) → (b || false) ≡ b
or_false true = refl
or_false false = refl

-- the names of all are the same where one comes to another place
names_moved : (before behind : List Head) (head : Head) → names_among (before ++ head ∷ []) ++ names_among behind ≡ names_among before ++ names_among (head ∷ behind)
names_moved before behind head =
    ap (λ (l : List (List ℕ)). l ++ names_among behind) (names-append before (head ∷ [])) ∙ append_assoc (names_among before) (names_among (head ∷ [])) (names_among behind)
    ∙ ap (λ (l : List (List ℕ)). names_among before ++ l) (sym (names-append (head ∷ []) behind))

pub passed_other : (s t : Siblings) (before behind : List Head) (head : Head) → is_attribute head.kind ≡ false → AreAround s before (head ∷ behind) → t.begun ≡ true → ((q : List ℕ) → (is_among q (names_among (item_heads (seen_items t.items))) || is_among q (far_names t)) ≡ (is_among q (names_among (item_heads (seen_items s.items))) || is_among q (far_names s)))
    → AreAround t (before ++ head ∷ []) behind
passed_other s t before behind head is h begun same = record {
  begun = begun ∙ sym (other-append before (head ∷ []) ∙ ap (λ (b : Bool). has_other before || (not b || false)) is ∙ or_true (has_other before));
  names = λ q. ap (is_among q) (names_moved before behind head) ∙ h.names q ∙ sym (same q);
} where
  or_true : (b : Bool) → (b || true) ≡ true
  or_true true = refl
  or_true false = refl

pub passed_attribute : (s : Siblings) (before behind : List Head) (head : Head) → is_attribute head.kind ≡ true → AreAround s before (head ∷ behind) → AreAround s (before ++ head ∷ []) behind
passed_attribute s before behind head is h = record {
  begun = h.begun ∙ sym (other-append before (head ∷ []) ∙ ap (λ (b : Bool). has_other before || (not b || false)) is ∙ or_false (has_other before));
  names = λ q. ap (is_among q) (names_moved before behind head) ∙ h.names q;
}

pub begun_names : (s t : Siblings) (q : List ℕ) → t ≡ record s { begun = true } → (is_among q (names_among (item_heads (seen_items t.items))) || is_among q (far_names t)) ≡ (is_among q (names_among (item_heads (seen_items s.items))) || is_among q (far_names s))
begun_names s t q e = ap (λ (x : Siblings). is_among q (names_among (item_heads (seen_items x.items))) || is_among q (far_names x)) e

-- Trees of another record join those before the gap:

-- so many of them have joined
pub record HaveJoined (s : Siblings) (before behind : List Head) : Type 0 where
  pub around : AreAroundGap s before behind
  pub first : HaveAttributesFirst before
  pub last : HaveAttributesFirst behind
  pub distinct : AreDistinct (names_among before ++ names_among behind)

pub none_joined : (s : Siblings) (before behind : List Head) → AreAroundGap s before behind → MayBeRow Element (before ++ behind) → HaveJoined s before behind
none_joined s before behind h row =
    let parts = first-parts before behind row.0 in
    record { around = h; first = parts.left; last = parts.right; distinct = subst (λ (l : List (List ℕ)). AreDistinct l) (names-append before behind) row.1 }

-- one that is no attribute
pub other_joins : (s t : Siblings) (before behind : List Head) (head : Head) → is_attribute head.kind ≡ false → HaveJoined s before behind → has_attribute behind ≡ t.behind → t.begun ≡ true
    → ((q : List ℕ) → (is_among q (names_among (item_heads (seen_items t.items))) || is_among q (far_names t)) ≡ (is_among q (names_among (item_heads (seen_items s.items))) || is_among q (far_names s)))
    → HaveJoined t (before ++ head ∷ []) behind
other_joins s t before behind head is h attribute begun same =
    let none : names_among (head ∷ []) ≡ [] = ap (λ (b : Bool). if b then head.name ∷ [] else []) is in
    let kept : names_among (before ++ head ∷ []) ≡ names_among before = names-append before (head ∷ []) ∙ ap (λ (l : List (List ℕ)). names_among before ++ l) none ∙ append-nil (names_among before) in
    record {
      around = record {
        around = record {
          begun = begun ∙ sym (other-append before (head ∷ []) ∙ ap (λ (b : Bool). has_other before || (not b || false)) is ∙ or_true (has_other before));
          names = λ q. ap (λ (l : List (List ℕ)). is_among q (l ++ names_among behind)) kept ∙ h.around.around.names q ∙ sym (same q);
        };
        attribute = sym attribute;
      };
      first = first-join before (head ∷ []) h.first (subst (λ (b : Bool). MatchBool b (HaveAttributesFirst []) (has_attribute [] ≡ false)) (sym is) refl) (λ some. ap (λ (b : Bool). b || false) is);
      last = h.last;
      distinct = subst (λ (l : List (List ℕ)). AreDistinct (l ++ names_among behind)) (sym kept) h.distinct;
    }
  where
    or_true : (b : Bool) → (b || true) ≡ true
    or_true true = refl
    or_true false = refl

-- an attribute of a new name
pub attribute_joins : (s t : Siblings) (before behind : List Head) (head : Head) → is_attribute head.kind ≡ true → HaveJoined s before behind → has_attribute behind ≡ t.behind → t.begun ≡ false → s.begun ≡ false
    → (is_among head.name (names_among (item_heads (seen_items s.items))) || is_among head.name (far_names s)) ≡ false
    → ((q : List ℕ) → (is_among q (names_among (item_heads (seen_items t.items))) || is_among q (far_names t)) ≡ (bytes_eq q head.name || (is_among q (names_among (item_heads (seen_items s.items))) || is_among q (far_names s))))
    → HaveJoined t (before ++ head ∷ []) behind
attribute_joins s t before behind head is h attribute begun was new more =
    let one : names_among (head ∷ []) ≡ head.name ∷ [] = ap (λ (b : Bool). if b then head.name ∷ [] else []) is in
    let all : names_among (before ++ head ∷ []) ++ names_among behind ≡ names_among before ++ head.name ∷ names_among behind =
    ap (λ (l : List (List ℕ)). l ++ names_among behind) (names-append before (head ∷ []) ∙ ap (λ (l : List (List ℕ)). names_among before ++ l) one) ∙ append_assoc (names_among before) (head.name ∷ []) (names_among behind) in
    let none : has_other before ≡ false = sym h.around.around.begun ∙ was in
    record {
      around = record {
        around = record {
          begun = begun ∙ sym (other-append before (head ∷ []) ∙ ap (λ (b : Bool). has_other before || (not b || false)) is ∙ or_false (has_other before) ∙ none);
          names = λ q. ap (is_among q) all ∙ among-middle q head.name (names_among before) (names_among behind) ∙ ap (λ (b : Bool). bytes_eq q head.name || b) (h.around.around.names q) ∙ sym (more q);
        };
        attribute = sym attribute;
      };
      first = first-join before (head ∷ []) h.first (subst (λ (b : Bool). MatchBool b (HaveAttributesFirst []) (has_attribute [] ≡ false)) (sym is) tt) (λ some. absurd (false≢true (sym none ∙ some)));
      last = h.last;
      distinct = subst (λ (l : List (List ℕ)). AreDistinct l) (sym all)
          (distinct_more head.name (names_among before) (names_among behind) h.distinct (not_among head.name (names_among before ++ names_among behind) (h.around.around.names head.name ∙ new)));
    }

-- an attribute behind something else, or of a name that is there
pub never_behind : (s : Siblings) (before behind more : List Head) (head : Head) → is_attribute head.kind ≡ true → HaveJoined s before behind → s.begun ≡ true → MayBeRow Element (before ++ ((head ∷ more) ++ behind)) → ⊥
never_behind s before behind more head is h begun row =
    let parts = first-parts before ((head ∷ more) ++ behind) row.0 in
    let none : has_attribute ((head ∷ more) ++ behind) ≡ false = parts.apart (sym h.around.around.begun ∙ begun) in
    false≢true (sym (neither (is_attribute head.kind) (has_attribute (more ++ behind)) none).0 ∙ is)

pub never_twice : (s : Siblings) (before behind more : List Head) (head : Head) → is_attribute head.kind ≡ true → HaveJoined s before behind
    → (is_among head.name (names_among (item_heads (seen_items s.items))) || is_among head.name (far_names s)) ≡ true → MayBeRow Element (before ++ ((head ∷ more) ++ behind)) → ⊥
never_twice s before behind more head is h again row =
    let rest = names_among (more ++ behind) in
    let one : names_among (head ∷ (more ++ behind)) ≡ head.name ∷ rest = ap (λ (b : Bool). if b then head.name ∷ rest else rest) is in
    let all : names_among (before ++ ((head ∷ more) ++ behind)) ≡ names_among before ++ head.name ∷ rest = names-append before (head ∷ (more ++ behind)) ∙ ap (λ (l : List (List ℕ)). names_among before ++ l) one in
    let less = distinct_less head.name (names_among before) rest (subst (λ (l : List (List ℕ)). AreDistinct l) all row.1) in
    let there : is_among head.name (names_among before ++ rest) ≡ true =
    among_later head.name (names_among before) (names_among more) (names_among behind) rest (names-append more behind) (h.around.around.names head.name ∙ again) in
    less.1 ((among head.name (names_among before ++ rest)).0 there)
  where
    or_later : (a b : Bool) → b ≡ true → (a || b) ≡ true
    or_later true b e = refl
    or_later false b e = e

    behind_later : (q : List ℕ) (xs ys : List (List ℕ)) → is_among q ys ≡ true → is_among q (xs ++ ys) ≡ true
    behind_later q [] ys e = e
    behind_later q (x ∷ xs) ys e = or_later (bytes_eq q x) (is_among q (xs ++ ys)) (behind_later q xs ys e)

    by_first : (a b d : Bool) → (b ≡ true → d ≡ true) → (a || b) ≡ true → (a || d) ≡ true
    by_first true b d go e = refl
    by_first false b d go e = go e

    among_later : (q : List ℕ) (xs more ys rest : List (List ℕ)) → rest ≡ more ++ ys → is_among q (xs ++ ys) ≡ true → is_among q (xs ++ rest) ≡ true
    among_later q [] more ys rest e h = ap (is_among q) e ∙ behind_later q more ys h
    among_later q (x ∷ xs) more ys rest e h = by_first (bytes_eq q x) (is_among q (xs ++ ys)) (is_among q (xs ++ rest)) (among_later q xs more ys rest e) h

-- all have joined
pub all_joined : (s : Siblings) (before behind : List Head) → HaveJoined s before behind → (has_other before ≡ true → has_attribute behind ≡ false) → MayBeRow Element (before ++ behind)
all_joined s before behind h apart = (first-join before behind h.first h.last apart, subst (λ (l : List (List ℕ)). AreDistinct l) (sym (names-append before behind)) h.distinct)

pub not_joined : (s : Siblings) (before behind : List Head) → HaveJoined s before behind → has_other before ≡ true → has_attribute behind ≡ true → MayBeRow Element (before ++ behind) → ⊥
not_joined s before behind h some attribute row = let parts = first-parts before behind row.0 in false≢true (sym (parts.apart some) ∙ attribute)

pub ends_joined : (s : Siblings) (before done behind hs : List Head) (fit : Bool) → hs ≡ done → HaveJoined s (before ++ done) behind → fit ≡ not (s.begun && s.behind)
    → MatchBool fit (MayBeRow Element ((before ++ hs) ++ behind) × AreAroundGap s (before ++ hs) behind) (MayBeRow Element ((before ++ hs) ++ behind) → ⊥)
ends_joined s before done behind hs fit e h is = subst (λ (l : List Head). MatchBool fit (MayBeRow Element ((before ++ l) ++ behind) × AreAroundGap s (before ++ l) behind) (MayBeRow Element ((before ++ l) ++ behind) → ⊥)) (sym e)
    (subst (λ (b : Bool). MatchBool b (MayBeRow Element ((before ++ done) ++ behind) × AreAroundGap s (before ++ done) behind) (MayBeRow Element ((before ++ done) ++ behind) → ⊥)) (sym is) (by s.begun s.behind h.around.around.begun h.around.attribute)) where
      by : (begun attribute : Bool) → begun ≡ has_other (before ++ done) → attribute ≡ has_attribute behind
          → MatchBool (not (begun && attribute)) (MayBeRow Element ((before ++ done) ++ behind) × AreAroundGap s (before ++ done) behind) (MayBeRow Element ((before ++ done) ++ behind) → ⊥)
      by true true b a = not_joined s (before ++ done) behind h (sym b) (sym a)
      by true false b a = (all_joined s (before ++ done) behind h (λ some. sym a), h.around)
      by false attribute b a = (all_joined s (before ++ done) behind h (λ some. absurd (false≢true (b ∙ some))), h.around)

-- with the first of those that are left
pub whole_with : (before done behind hs rest : List Head) (head : Head) → hs ≡ done ++ head ∷ rest → (before ++ hs) ++ behind ≡ (before ++ done) ++ ((head ∷ rest) ++ behind)
whole_with before done behind hs rest head e =
    ap (λ (l : List Head). (before ++ l) ++ behind) e ∙ ap (λ (l : List Head). l ++ behind) (sym (append_assoc before done (head ∷ rest))) ∙ append_assoc (before ++ done) (head ∷ rest) behind

pub done_with : (done hs rest : List Head) (head : Head) → hs ≡ done ++ head ∷ rest → hs ≡ (done ++ head ∷ []) ++ rest
done_with done hs rest head e = e ∙ sym (append_assoc done (head ∷ []) rest)

pub not_true : (b : Bool) → not b ≡ true → b ≡ false
not_true true e = absurd (cc)
not_true false e = refl

pub not_false : (b : Bool) → not b ≡ false → b ≡ true
not_false true e = refl
not_false false e = absurd (cc)

pub or_swap : (a b c : Bool) → (a || (b || c)) ≡ (b || (a || c))
or_swap true true c = refl
or_swap true false c = refl
or_swap false b c = refl

-- Trees join others below a node that is no element:

pub doc_joins : (s t : Siblings) (element now : Bool) (before behind hs : List Head) (fit : Bool) → s.kind ≡ Doc → t.kind ≡ s.kind → StandAround s element before behind → MayBeRow s.kind (before ++ behind)
    → (fit ≡ true → AreTopHeads hs × (one_if now ≡ one_if element + elements_among hs)) → (fit ≡ false → AreTopHeads hs → one_if element + elements_among hs ≤ 1 → ⊥)
    → MatchBool fit (MayBeRow s.kind ((before ++ hs) ++ behind) × StandAround t now (before ++ hs) behind) (MayBeRow s.kind ((before ++ hs) ++ behind) → ⊥)
doc_joins s t element now before behind hs fit is same h row when unless =
    subst (λ (k : Kind). MatchBool fit (MayBeRow k ((before ++ hs) ++ behind) × StandAround t now (before ++ hs) behind) (MayBeRow k ((before ++ hs) ++ behind) → ⊥)) (sym is) (by fit when unless) where
      all : elements_among ((before ++ hs) ++ behind) ≡ elements_among hs + elements_among (before ++ behind)
      all =
          let a = elements-append (before ++ hs) behind in
          let b = elements-append before hs in
          let c = elements-append before behind in
          omega (arith, a, b, c)

      was : MayBeRow Doc (before ++ behind)
      was = subst (λ (k : Kind). MayBeRow k (before ++ behind)) is row

      counted : one_if element ≡ elements_among (before ++ behind)
      counted = h.top is

      one : (b : Bool) → one_if b ≤ 1
      one true = omega arith
      one false = omega arith

      doc_element : s.kind ≡ Doc → t.kind ≡ Element → ⊥
      doc_element d e = (let x = sym d ∙ sym same ∙ e in cc x)

      by : (fit : Bool) → (fit ≡ true → AreTopHeads hs × (one_if now ≡ one_if element + elements_among hs)) → (fit ≡ false → AreTopHeads hs → one_if element + elements_among hs ≤ 1 → ⊥)
          → MatchBool fit (MayBeRow Doc ((before ++ hs) ++ behind) × StandAround t now (before ++ hs) behind) (MayBeRow Doc ((before ++ hs) ++ behind) → ⊥)
      by true when unless =
          let r = when refl in
          let parts = top-parts before behind was.0 in
          let few = one now in
          let now_all : one_if now ≡ elements_among ((before ++ hs) ++ behind) = (let x = r.1 in omega (arith, x, counted, all)) in (
            (top-join (before ++ hs) behind (top-join before hs parts.0 r.0) parts.1, omega (arith, few, now_all)),
            record { attributes = λ e. absurd (doc_element is e); top = λ _. now_all },
          )
      by false when unless = λ g.
          let parts = top-parts before hs (top-parts (before ++ hs) behind g.0).0 in
          let few : elements_among ((before ++ hs) ++ behind) ≤ 1 = g.1 in
          unless refl parts.1 (omega (arith, few, counted, all))

-- none may stand below any other
other_row : (k : Kind) (hs : List Head) → (k ≡ Doc → ⊥) → (k ≡ Element → ⊥) → MayBeRow k hs ↔ (hs ≡ [])
other_row Doc hs d e = absurd (d refl)
other_row Element hs d e = absurd (e refl)
other_row Attribute hs d e = (λ h. h, λ h. h)
other_row Text hs d e = (λ h. h, λ h. h)
other_row Instruction hs d e = (λ h. h, λ h. h)

empty_left : (xs ys : List Head) → xs ++ ys ≡ [] → xs ≡ []
empty_left [] ys e = refl
empty_left (x ∷ xs) ys e = absurd (cc)

empty_right : (xs ys : List Head) → xs ++ ys ≡ [] → ys ≡ []
empty_right [] ys e = e
empty_right (x ∷ xs) ys e = absurd (cc)

pub none_joins : (s : Siblings) (element : Bool) (before behind hs : List Head) (fit : Bool) → (s.kind ≡ Doc → ⊥) → (s.kind ≡ Element → ⊥) → MayBeRow s.kind (before ++ behind) → ((fit ≡ true) ↔ (hs ≡ []))
    → MatchBool fit (MayBeRow s.kind ((before ++ hs) ++ behind) × StandAround s element (before ++ hs) behind) (MayBeRow s.kind ((before ++ hs) ++ behind) → ⊥)
none_joins s element before behind hs fit d e row is = by fit is where
  by : (fit : Bool) → ((fit ≡ true) ↔ (hs ≡ [])) → MatchBool fit (MayBeRow s.kind ((before ++ hs) ++ behind) × StandAround s element (before ++ hs) behind) (MayBeRow s.kind ((before ++ hs) ++ behind) → ⊥)
  by true is =
      let none : hs ≡ [] = is.0 refl in
      let same : (before ++ hs) ++ behind ≡ before ++ behind = ap (λ (l : List Head). (before ++ l) ++ behind) none ∙ ap (λ (l : List Head). l ++ behind) (append-nil before) in (
        subst (λ (l : List Head). MayBeRow s.kind l) (sym same) row,
        record { attributes = λ x. absurd (e x); top = λ x. absurd (d x) },
      )
  by false is = λ g.
      let nothing = (other_row s.kind ((before ++ hs) ++ behind) d e).0 g in
      false≢true (is.1 (empty_right before hs (empty_left (before ++ hs) behind nothing)))

pub element_joins : (s t : Siblings) (element : Bool) (before behind hs : List Head) (fit : Bool) → s.kind ≡ Element → t.kind ≡ s.kind → StandAround s element before behind → MayBeRow s.kind (before ++ behind)
    → ((before behind : List Head) → AreAroundGap s before behind → MayBeRow Element (before ++ behind) → MatchBool fit (MayBeRow Element ((before ++ hs) ++ behind) × AreAroundGap t (before ++ hs) behind) (MayBeRow Element ((before ++ hs) ++ behind) → ⊥))
    → MatchBool fit (MayBeRow s.kind ((before ++ hs) ++ behind) × StandAround t element (before ++ hs) behind) (MayBeRow s.kind ((before ++ hs) ++ behind) → ⊥)
element_joins s t element before behind hs fit is same h row joins =
    subst (λ (k : Kind). MatchBool fit (MayBeRow k ((before ++ hs) ++ behind) × StandAround t element (before ++ hs) behind) (MayBeRow k ((before ++ hs) ++ behind) → ⊥)) (sym is)
    (by fit (joins before behind (h.attributes is) (subst (λ (k : Kind). MayBeRow k (before ++ behind)) is row))) where
      element_doc : t.kind ≡ Doc → ⊥
      element_doc d = (let x = sym d ∙ same ∙ is in cc x)

      by : (fit : Bool) → MatchBool fit (MayBeRow Element ((before ++ hs) ++ behind) × AreAroundGap t (before ++ hs) behind) (MayBeRow Element ((before ++ hs) ++ behind) → ⊥)
          → MatchBool fit (MayBeRow Element ((before ++ hs) ++ behind) × StandAround t element (before ++ hs) behind) (MayBeRow Element ((before ++ hs) ++ behind) → ⊥)
      by true g = (g.0, record { attributes = λ _. g.1; top = λ d. absurd (element_doc d) })
      by false g = g
