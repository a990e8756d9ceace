-- Runs of proxies of which one changes or goes, or in whose place several come.
use Rattle.std.proofs.Common.{◌≡◌, ℕ, zero, suc, ◌+◌, ◌-◌, ◌<◌, ◌≤◌, nat_lt, if◌then◌else◌, true, false, length, refl, sym, ap, ◌∙◌, subst, arith, length-append, inl, inr}
use Rattle.std.proofs.lemmas.Bool.{cases_lt}
use Rattle.nx_piece.specs.PieceNode.{PieceNode}
use Rattle.nx_piece.specs.Gapped.{Gapped, End, Grow, Gap, proxies_in, with_gap}
use Rattle.nx_piece.specs.Valid.{AreApart, BeginsNoGap}
use Rattle.nx_piece_edits.specs.Cutting.{smaller_gap, without_proxy, gap_before, joined_items, with_items_at}
use Rattle.nx_piece_edits.proofs.TakeLemmas.{gap_apart}
use Rattle.nx_piece_edits.proofs.LeftLemmas.{less_is, not_less}
use Rattle.nx_piece_edits.proofs.JoinedLemmas.{gap_twice, gap_joined}
use Rattle.nx_cuts.specs.Cut.{Bare, Grown, Kept}
use Rattle.nx_layouts.specs.Layout.{RecordPlace, Layout, in_record, gap_more, piece_body, proxies_of}
use Rattle.nx_layouts.specs.Replace.{joined_layout, replaced_at}
use Rattle.nx_layouts.specs.Cutting.{RunsAfter}
use Rattle.nx_layouts.proofs.LayoutLemmas.{proxies_counted}
use Rattle.nx_layouts.proofs.ValidLemmas.{body_apart}

first_more : (x : Gapped) → BeginsNoGap x → gap_more x ≡ Gap 1 x
first_more End h = refl
first_more (Grow n b s) h = refl
first_more (Gap c s) h = absurd h

one_behind : (count : ℕ) (beside : Gapped) → 1 ≤ count → smaller_gap (count + 1) beside ≡ Gap count beside
one_behind count beside some =
    less_is 1 (count + 1) (Gap (count + 1 - 1) beside) beside (omega (arith, some)) ∙ ap (λ (c : ℕ). Gap c beside) (let e : count + 1 - 1 ≡ count = omega arith in e)

-- the first proxy goes
less_first : (x : Gapped) → AreApart x → without_proxy 0 (gap_more x) ≡ x
less_first End h = refl
less_first (Grow n b s) h = refl
less_first (Gap c s) h = less_is 0 (c + 1) (smaller_gap (c + 1) s) (Gap (c + 1) (without_proxy (0 - (c + 1)) s)) (omega arith) ∙ one_behind c s h.0

-- one behind the first goes
less_later : (index : ℕ) (x : Gapped) → AreApart x → index < proxies_in x → gap_more (without_proxy index x) ≡ without_proxy (suc index) (gap_more x)
less_later index End h less = absurd (omega (arith, less))
less_later index (Grow n b s) h less =
    let back : suc index - 1 ≡ index = omega arith in
    more_grown index n b s ∙ ap (λ (i : ℕ). Gap 1 (without_proxy i (Grow n b s))) (sym back)
    ∙ sym (not_less (suc index) 1 (smaller_gap 1 (Grow n b s)) (Gap 1 (without_proxy (suc index - 1) (Grow n b s))) (omega arith))
  where
    more_grown : (index : ℕ) (n : PieceNode) (b s : Gapped) → gap_more (without_proxy index (Grow n b s)) ≡ Gap 1 (without_proxy index (Grow n b s))
    more_grown index n b s =
        elim (nat_lt index (proxies_in b)) as (λ t. gap_more (if t then Grow n (without_proxy index b) s else Grow n b (without_proxy (index - proxies_in b) s)) ≡ Gap 1 (if t then Grow n (without_proxy index b) s else Grow n b (without_proxy (index - proxies_in b) s))) [
          | true ↦ refl
          | false ↦ refl
        ]
less_later index (Gap c s) h less = elim (cases_lt index c) [
  | inl here ↦
      ap gap_more (less_is index c (smaller_gap c s) (Gap c (without_proxy (index - c) s)) here)
      ∙ more_smaller_gap c s h.0 h.1
      ∙ sym (less_is (suc index) (c + 1) (smaller_gap (c + 1) s) (Gap (c + 1) (without_proxy (suc index - (c + 1)) s)) (omega (arith, here)) ∙ one_behind c s h.0)
  | inr behind ↦
      let back : index - c ≡ suc index - (c + 1) = omega arith in
      ap gap_more (not_less index c (smaller_gap c s) (Gap c (without_proxy (index - c) s)) behind)
      ∙ ap (λ (i : ℕ). Gap (c + 1) (without_proxy i s)) back
      ∙ sym (not_less (suc index) (c + 1) (smaller_gap (c + 1) s) (Gap (c + 1) (without_proxy (suc index - (c + 1)) s)) (omega (arith, behind)))
]
  where
    more_smaller_gap : (c : ℕ) (s : Gapped) → 1 ≤ c → BeginsNoGap s → gap_more (smaller_gap c s) ≡ Gap c s
    more_smaller_gap c s some begins = elim (cases_lt 1 c) [
      | inl more ↦ ap gap_more (less_is 1 c (Gap (c - 1) s) s more) ∙ ap (λ (d : ℕ). Gap d s) (let e : c - 1 + 1 ≡ c = omega (arith, more) in e)
      | inr one ↦ ap gap_more (not_less 1 c (Gap (c - 1) s) s one) ∙ first_more s begins ∙ ap (λ (d : ℕ). Gap d s) (let e : 1 ≡ c = omega (arith, one, some) in e)
    ]

one_stays : (index : ℕ) (place : RecordPlace) (members row : Layout) → piece_body (replaced_at index (Kept place members Bare) row) ≡ piece_body row
one_stays index place members Bare = refl
one_stays index place members (Grown n b s) =
    elim (nat_lt index (length (proxies_of b))) as (λ t. piece_body (if t then Grown n (replaced_at index (Kept place members Bare) b) s else Grown n b (replaced_at (index - length (proxies_of b)) (Kept place members Bare) s)) ≡ Grow (in_record n) (piece_body b) (piece_body s)) [
      | true ↦ ap (λ (x : Gapped). Grow (in_record n) x (piece_body s)) (one_stays index place members b)
      | false ↦ ap (λ (x : Gapped). Grow (in_record n) (piece_body b) x) (one_stays (index - length (proxies_of b)) place members s)
    ]
one_stays zero place members (Kept p m s) = refl
one_stays (suc index) place members (Kept p m s) = ap gap_more (one_stays index place members s)

none_stays : (index : ℕ) (row : Layout) → index < length (proxies_of row) → piece_body (replaced_at index Bare row) ≡ without_proxy index (piece_body row)
none_stays index Bare less = refl
none_stays index (Grown n b s) less =
    let l = length-append (proxies_of b) (proxies_of s) in
    subst (λ (k : ℕ). piece_body (replaced_at index Bare (Grown n b s)) ≡ (if nat_lt index k then Grow (in_record n) (without_proxy index (piece_body b)) (piece_body s) else Grow (in_record n) (piece_body b) (without_proxy (index - k) (piece_body s)))) (proxies_counted b)
    (elim (cases_lt index (length (proxies_of b))) [
      | inl here ↦
          ap piece_body (less_is index (length (proxies_of b)) (Grown n (replaced_at index Bare b) s) (Grown n b (replaced_at (index - length (proxies_of b)) Bare s)) here)
          ∙ ap (λ (x : Gapped). Grow (in_record n) x (piece_body s)) (none_stays index b here)
          ∙ sym (less_is index (length (proxies_of b)) (Grow (in_record n) (without_proxy index (piece_body b)) (piece_body s)) (Grow (in_record n) (piece_body b) (without_proxy (index - length (proxies_of b)) (piece_body s))) here)
      | inr behind ↦
          ap piece_body (not_less index (length (proxies_of b)) (Grown n (replaced_at index Bare b) s) (Grown n b (replaced_at (index - length (proxies_of b)) Bare s)) behind)
          ∙ ap (λ (x : Gapped). Grow (in_record n) (piece_body b) x) (none_stays (index - length (proxies_of b)) s (omega (arith, l, less, behind)))
          ∙ sym (not_less index (length (proxies_of b)) (Grow (in_record n) (without_proxy index (piece_body b)) (piece_body s)) (Grow (in_record n) (piece_body b) (without_proxy (index - length (proxies_of b)) (piece_body s))) behind)
    ])
none_stays zero (Kept p m s) less = sym (less_first (piece_body s) (body_apart s))
none_stays (suc index) (Kept p m s) less =
    let there : index < length (proxies_of s) = omega (arith, less) in
    ap gap_more (none_stays index s there) ∙ less_later index (piece_body s) (body_apart s) (subst (λ (k : ℕ). index < k) (proxies_counted s) there)

-- A row in the place of an interval:

one_more : (x : Gapped) → gap_more x ≡ with_gap 1 x
one_more End = refl
one_more (Grow n b s) = refl
one_more (Gap c s) = ap (λ (d : ℕ). Gap d s) (let e : c + 1 ≡ 1 + c = omega arith in e)

-- what a record has of rows beside each other
body_joined : (a b : Layout) → piece_body (joined_layout a b) ≡ joined_items (piece_body a) (piece_body b)
body_joined Bare b = refl
body_joined (Grown n d s) b = ap (Grow (in_record n) (piece_body d)) (body_joined s b)
body_joined (Kept p m s) b =
    ap gap_more (body_joined s b) ∙ one_more (joined_items (piece_body s) (piece_body b)) ∙ sym (gap_joined 1 (piece_body s) (piece_body b)) ∙ ap (λ (x : Gapped). joined_items x (piece_body b)) (sym (one_more (piece_body s)))

more_before : (count : ℕ) (x : Gapped) → gap_more (gap_before count x) ≡ gap_before (suc count) x
more_before zero x = one_more x
more_before (suc count) x =
    one_more (with_gap (suc count) x) ∙ gap_twice 1 (suc count) x ∙ ap (λ (n : ℕ). with_gap n x) (let e : 1 + suc count ≡ suc (suc count) = omega arith in e)

-- they come in the place of the first proxy
items_first : (items x : Gapped) → AreApart x → with_items_at 0 items (gap_more x) ≡ joined_items items x
items_first items End h = refl
items_first items (Grow n b s) h = refl
items_first items (Gap c s) h =
    let left : c + 1 - 1 - 0 ≡ c = omega arith in
    less_is 0 (c + 1) (joined_items items (gap_before (c + 1 - 1 - 0) s)) (Gap (c + 1) (with_items_at (0 - (c + 1)) items s)) (omega arith)
    ∙ ap (λ (n : ℕ). joined_items items (gap_before n s)) left
    ∙ ap (joined_items items) (some c h.0)
  where
    some : (c : ℕ) → 1 ≤ c → gap_before c s ≡ Gap c s
    some zero few = absurd (omega (arith, few))
    some (suc c) few = gap_apart (suc c) s h.1

-- they come in the place of one behind it
items_later : (index : ℕ) (items x : Gapped) → index < proxies_in x → gap_more (with_items_at index items x) ≡ with_items_at (suc index) items (gap_more x)
items_later index items End less = absurd (omega (arith, less))
items_later index items (Grow n b s) less =
    let back : suc index - 1 ≡ index = omega arith in
    more_grown index ∙ ap (λ (i : ℕ). Gap 1 (with_items_at i items (Grow n b s))) (sym back)
    ∙ sym (not_less (suc index) 1 (gap_before (suc index) (joined_items items (gap_before (1 - 1 - suc index) (Grow n b s)))) (Gap 1 (with_items_at (suc index - 1) items (Grow n b s))) (omega arith))
  where
    more_grown : (index : ℕ) → gap_more (with_items_at index items (Grow n b s)) ≡ Gap 1 (with_items_at index items (Grow n b s))
    more_grown index =
        elim (nat_lt index (proxies_in b)) as (λ t. gap_more (if t then Grow n (with_items_at index items b) s else Grow n b (with_items_at (index - proxies_in b) items s)) ≡ Gap 1 (if t then Grow n (with_items_at index items b) s else Grow n b (with_items_at (index - proxies_in b) items s))) [
          | true ↦ refl
          | false ↦ refl
        ]
items_later index items (Gap c s) less = elim (cases_lt index c) [
  | inl here ↦
      let same : c - 1 - index ≡ c + 1 - 1 - suc index = omega (arith, here) in
      ap gap_more (less_is index c (gap_before index (joined_items items (gap_before (c - 1 - index) s))) (Gap c (with_items_at (index - c) items s)) here)
      ∙ more_before index (joined_items items (gap_before (c - 1 - index) s))
      ∙ ap (λ (n : ℕ). gap_before (suc index) (joined_items items (gap_before n s))) same
      ∙ sym (less_is (suc index) (c + 1) (gap_before (suc index) (joined_items items (gap_before (c + 1 - 1 - suc index) s))) (Gap (c + 1) (with_items_at (suc index - (c + 1)) items s)) (omega (arith, here)))
  | inr behind ↦
      let back : index - c ≡ suc index - (c + 1) = omega arith in
      ap gap_more (not_less index c (gap_before index (joined_items items (gap_before (c - 1 - index) s))) (Gap c (with_items_at (index - c) items s)) behind)
      ∙ ap (λ (i : ℕ). Gap (c + 1) (with_items_at i items s)) back
      ∙ sym (not_less (suc index) (c + 1) (gap_before (suc index) (joined_items items (gap_before (c + 1 - 1 - suc index) s))) (Gap (c + 1) (with_items_at (suc index - (c + 1)) items s)) (omega (arith, behind)))
]

many_come : (index : ℕ) (new row : Layout) → index < length (proxies_of row) → piece_body (replaced_at index new row) ≡ with_items_at index (piece_body new) (piece_body row)
many_come index new Bare less = refl
many_come index new (Grown n b s) less =
    let l = length-append (proxies_of b) (proxies_of s) in
    subst (λ (k : ℕ). piece_body (replaced_at index new (Grown n b s)) ≡ (if nat_lt index k then Grow (in_record n) (with_items_at index (piece_body new) (piece_body b)) (piece_body s) else Grow (in_record n) (piece_body b) (with_items_at (index - k) (piece_body new) (piece_body s)))) (proxies_counted b)
    (elim (cases_lt index (length (proxies_of b))) [
      | inl here ↦
          ap piece_body (less_is index (length (proxies_of b)) (Grown n (replaced_at index new b) s) (Grown n b (replaced_at (index - length (proxies_of b)) new s)) here)
          ∙ ap (λ (x : Gapped). Grow (in_record n) x (piece_body s)) (many_come index new b here)
          ∙ sym (less_is index (length (proxies_of b)) (Grow (in_record n) (with_items_at index (piece_body new) (piece_body b)) (piece_body s)) (Grow (in_record n) (piece_body b) (with_items_at (index - length (proxies_of b)) (piece_body new) (piece_body s))) here)
      | inr behind ↦
          ap piece_body (not_less index (length (proxies_of b)) (Grown n (replaced_at index new b) s) (Grown n b (replaced_at (index - length (proxies_of b)) new s)) behind)
          ∙ ap (λ (x : Gapped). Grow (in_record n) (piece_body b) x) (many_come (index - length (proxies_of b)) new s (omega (arith, l, less, behind)))
          ∙ sym (not_less index (length (proxies_of b)) (Grow (in_record n) (with_items_at index (piece_body new) (piece_body b)) (piece_body s)) (Grow (in_record n) (piece_body b) (with_items_at (index - length (proxies_of b)) (piece_body new) (piece_body s))) behind)
    ])
many_come zero new (Kept p m s) less = body_joined new s ∙ sym (items_first (piece_body new) (piece_body s) (body_apart s))
many_come (suc index) new (Kept p m s) less =
    let there : index < length (proxies_of s) = omega (arith, less) in
    ap gap_more (many_come index new s there) ∙ items_later index (piece_body new) (piece_body s) (subst (λ (k : ℕ). index < k) (proxies_counted s) there)

pub runs_after : RunsAfter
runs_after index row less = record {
  one = λ place members. one_stays index place members row;
  none = none_stays index row less;
  many = λ new. many_come index new row less;
}
