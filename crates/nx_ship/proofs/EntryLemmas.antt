-- The pages of a group under way.
use Rattle.std.proofs.Common.{◌≡◌, ◌⊎◌, ℕ, ◌+◌, ◌<◌, ◌≤◌, true, false, List, [], ◌∷◌, ◌++◌, length, Option, None, Some, refl, sym, ap, subst, ◌∙◌, arith, inl, inr, eq-eqb}
use Rattle.std.specs.Prelude.{Bool, not, IsSome, MatchOption, ◌==◌, if◌then◌else◌, ◌↔◌}
use Rattle.std.specs.Option.{option_or}
use Rattle.std.proofs.lemmas.Bool.{false≢true, cases_Bool, eqb-true, and_parts, leb-true}
use Rattle.nx_replay.specs.Log.{Pages, Entry, over, entry_pages, rise}
use Rattle.nx_replay.proofs.ReplayLemmas.{nothing-over}
use Rattle.nx_replay.proofs.KnownLemmas.{rise_apart}
use Rattle.nx_replay.proofs.StepLemmas.{less_or_not}
use Rattle.nx_replay.proofs.SettledLemmas.{is_some}
use Rattle.nx_holdings.proofs.OneLemmas.{one_header}
use Rattle.nx_holdings.specs.declared.header.Header.{Header}
use Rattle.nx_holdings.specs.Header.{IsHeader, IsNoHeader}
use Rattle.nx_ship.specs.Stream.{BeginsWithHeader}
use Rattle.nx_ship.specs.Reading.{least_behind, AreUnderWay}
use Rattle.nx_ship.specs.Next.{IsHeadedBy, IsAtNumber, IsBase}

not_same : (p q : ℕ) → (p == q) ≡ false → p ≡ q → ⊥
not_same p q fails same = false≢true (sym fails ∙ eq-eqb p q same)

pub differ : (p q : ℕ) → (p ≡ q → ⊥) → (p == q) ≡ false
differ p q apart = elim (cases_Bool (p == q)) [ inl holds ↦ absurd (apart (eqb-true p q holds)) | inr fails ↦ fails ]

pub no_some : {T : Type 0} (x : T) (o : Option T) → o ≡ Some x → o ≡ None → ⊥
no_some x o is none = let a : o ≡ Some x = is in let b : o ≡ None = none in cc

-- the first of these pages has the number, or it is among the others
entry_here : (e : Entry) (es : List Entry) (p : ℕ) → p ≡ e.page → entry_pages (e ∷ es) p ≡ Some e.bytes
entry_here e es p same = ap (λ (b : Bool). (if b then Some e.bytes else entry_pages es p)) (eq-eqb p e.page same)

entry_behind : (e : Entry) (es : List Entry) (p : ℕ) → (p ≡ e.page → ⊥) → entry_pages (e ∷ es) p ≡ entry_pages es p
entry_behind e es p apart = ap (λ (b : Bool). (if b then Some e.bytes else entry_pages es p)) (differ p e.page apart)

same_or_not : (p q : ℕ) → (p ≡ q) ⊎ (p ≡ q → ⊥)
same_or_not p q = elim (cases_Bool (p == q)) [ inl holds ↦ inl (eqb-true p q holds) | inr fails ↦ inr (not_same p q fails) ]

abbrev is_some_of : Option (List ℕ) → Bool
is_some_of None = false
is_some_of (Some x) = true

-- pages have one header
pub one_head : {pages : Pages} {h k : Header} → IsHeadedBy pages h → IsHeadedBy pages k → h ≡ k
one_head {pages = pages} {h = h} {k = k} one other =
    let a : pages 0 ≡ Some one.bytes = one.there in
    let b : pages 0 ≡ Some other.bytes = other.there in
    let same : one.bytes ≡ other.bytes = cc in
    one_header h k (one.is).range (other.is).range (sym (one.is).are ∙ same ∙ (other.is).are)

-- One page more:

more_at : (es : List Entry) (e : Entry) (p : ℕ) → entry_pages es e.page ≡ None → entry_pages (es ++ e ∷ []) p ≡ option_or (entry_pages (e ∷ []) p) (entry_pages es p)
more_at [] e p none = sym (ap (λ (f : Pages). f p) (nothing-over (entry_pages (e ∷ []))))
more_at (x ∷ es) e p none =
    let apart : e.page ≡ x.page → ⊥ = λ same. no_some x.bytes (entry_pages (x ∷ es) e.page) (entry_here x es e.page same) none in
    let rest : entry_pages es e.page ≡ None = sym (entry_behind x es e.page apart) ∙ none in
    elim (same_or_not p x.page) [
      | inl same ↦
          let other : entry_pages (e ∷ []) p ≡ None = entry_behind e [] p (λ is. apart (sym is ∙ same)) in
          entry_here x (es ++ e ∷ []) p same ∙ sym (ap (λ (o : Option (List ℕ)). option_or o (entry_pages (x ∷ es) p)) other ∙ entry_here x es p same)
      | inr not ↦ entry_behind x (es ++ e ∷ []) p not ∙ more_at es e p rest ∙ ap (λ (o : Option (List ℕ)). option_or (entry_pages (e ∷ []) p) o) (sym (entry_behind x es p not))
    ]

pub entries_more : (es : List Entry) (e : Entry) → rise 0 (es ++ e ∷ []) ≡ true → entry_pages (es ++ e ∷ []) ≡ over (entry_pages (e ∷ [])) (entry_pages es)
entries_more es e rises = λ i p. more_at es e p (rise_apart es [] e 0 rises).1 i

-- The first page:

pub header_there : (number : ℕ) (es : List Entry) → BeginsWithHeader number es → (h : Header) × IsHeadedBy (entry_pages es) h × (h.number ≡ number)
header_there number [] has = absurd has
header_there number (e ∷ es) (first, (h, is, says)) = (h, record { bytes = e.bytes; there = entry_here e es 0 (sym first); is = is }, says)

pub laid_head : (pages : Pages) {top : Pages} {h : Header} → IsHeadedBy top h → IsHeadedBy (over top pages) h
laid_head pages headed = record { bytes = headed.bytes; there = ap (λ (o : Option (List ℕ)). option_or o (pages 0)) headed.there; is = headed.is }

pub number_laid : (pages : Pages) (number : ℕ) (es : List Entry) → BeginsWithHeader number es → IsAtNumber (over (entry_pages es) pages) number
number_laid pages number es has = let (h, headed, says) = header_there number es has in (h, laid_head pages headed, says)

pub first_waits : (number : ℕ) (es : List Entry) (waiting : Pages) → BeginsWithHeader number es → waiting ≡ entry_pages es → waiting 0 ≡ None → ⊥
first_waits number es waiting has is none =
    let (h, headed, says) = header_there number es has in
    no_some headed.bytes (waiting 0) (ap (λ (f : Pages). f 0) is ∙ headed.there) none

pub header_before : (number : ℕ) (es fs : List Entry) → 0 < length es → BeginsWithHeader number (es ++ fs) → BeginsWithHeader number es
header_before number [] fs some has = absurd (omega (arith, some))
header_before number (e ∷ es) fs some has = has

-- All pages of a store:

-- what is there
below_none : (es : List Entry) (least p : ℕ) → rise least es ≡ true → p < least → entry_pages es p ≡ None
below_none [] least p rises below = refl
below_none (e ∷ es) least p rises below =
    let a = and_parts _ _ rises in
    let from : least ≤ e.page = leb-true _ _ (and_parts _ _ a.0).0 in
    entry_behind e es p (λ same. omega (arith, same, below, from)) ∙ below_none es (e.page + 1) p a.1 (omega (arith, below, from))

long_behind : (es : List Entry) (least : ℕ) → rise least es ≡ true → least + length es ≤ least_behind least es
long_behind [] least rises = omega arith
long_behind (e ∷ es) least rises =
    let a = and_parts _ _ rises in
    let from : least ≤ e.page = leb-true _ _ (and_parts _ _ a.0).0 in
    let rest = long_behind es (e.page + 1) a.1 in
    omega (arith, from, rest)

behind_none : (es : List Entry) (least p : ℕ) → rise least es ≡ true → least_behind least es ≤ p → entry_pages es p ≡ None
behind_none [] least p rises behind = refl
behind_none (e ∷ es) least p rises behind =
    let a = and_parts _ _ rises in
    let long = long_behind es (e.page + 1) a.1 in
    entry_behind e es p (λ same. omega (arith, same, behind, long)) ∙ behind_none es (e.page + 1) p a.1 behind

all_there : (es : List Entry) (least p : ℕ) → rise least es ≡ true → least_behind least es ≡ least + length es → least ≤ p → p < least + length es → IsSome (entry_pages es p)
all_there [] least p rises whole from below = absurd (omega (arith, from, below))
all_there (e ∷ es) least p rises whole from below =
    let a = and_parts _ _ rises in
    let first : least ≤ e.page = leb-true _ _ (and_parts _ _ a.0).0 in
    let long = long_behind es (e.page + 1) a.1 in
    let here : e.page ≡ least = omega (arith, first, long, whole) in
    elim (same_or_not p e.page) [
      | inl same ↦ is_some (entry_pages (e ∷ es) p) (entry_here e es p same)
      | inr apart ↦
          subst (λ (o : Option (List ℕ)). IsSome o) (sym (entry_behind e es p apart))
          (all_there es (e.page + 1) p a.1 (omega (arith, here, whole)) (omega (arith, here, from, apart)) (omega (arith, here, below)))
    ]

-- pages that rise are in one order
some_bytes : (x y : List ℕ) (o : Option (List ℕ)) → o ≡ Some x → o ≡ Some y → x ≡ y
some_bytes x y o one other = let a : o ≡ Some x = one in let b : o ≡ Some y = other in cc

first_not_below : (e f : Entry) (es fs : List Entry) → rise (f.page + 1) fs ≡ true → entry_pages (e ∷ es) ≡ entry_pages (f ∷ fs) → e.page < f.page → ⊥
first_not_below e f es fs rises same less =
    no_some e.bytes (entry_pages (e ∷ es) e.page) (entry_here e es e.page refl)
    (ap (λ (p : Pages). p e.page) same ∙ entry_behind f fs e.page (λ is. omega (arith, is, less)) ∙ below_none fs (f.page + 1) e.page rises (omega (arith, less)))

behind_at : (e : Entry) (es : List Entry) (p : ℕ) → (p ≡ e.page → ⊥) → entry_pages es p ≡ entry_pages (e ∷ es) p
behind_at e es p apart = sym (entry_behind e es p apart)

rest_same : (e f : Entry) (es fs : List Entry) → rise (e.page + 1) es ≡ true → rise (f.page + 1) fs ≡ true → e.page ≡ f.page → entry_pages (e ∷ es) ≡ entry_pages (f ∷ fs) → (p : ℕ) → entry_pages es p ≡ entry_pages fs p
rest_same e f es fs low low_too first same p = elim (same_or_not p e.page) [
  | inl here ↦ below_none es (e.page + 1) p low (omega (arith, here)) ∙ sym (below_none fs (f.page + 1) p low_too (omega (arith, here, first)))
  | inr apart ↦ behind_at e es p apart ∙ ap (λ (f : Pages). f p) same ∙ entry_behind f fs p (λ is. apart (is ∙ sym first))
]

pub same_entries : (es fs : List Entry) (least : ℕ) → rise least es ≡ true → rise least fs ≡ true → entry_pages es ≡ entry_pages fs → es ≡ fs
same_entries [] [] least rises rises_too same = refl
same_entries [] (f ∷ fs) least rises rises_too same = absurd (no_some f.bytes (entry_pages (f ∷ fs) f.page) (entry_here f fs f.page refl) (sym (ap (λ (p : Pages). p f.page) same)))
same_entries (e ∷ es) [] least rises rises_too same = absurd (no_some e.bytes (entry_pages (e ∷ es) e.page) (entry_here e es e.page refl) (ap (λ (p : Pages). p e.page) same))
same_entries (e ∷ es) (f ∷ fs) least rises rises_too same =
    let low = (and_parts _ _ rises).1 in
    let low_too = (and_parts _ _ rises_too).1 in
    let first : e.page ≡ f.page = elim (same_or_not e.page f.page) [
      | inl is ↦ is
      | inr apart ↦ elim (less_or_not e.page f.page) [
        | inl less ↦ absurd (first_not_below e f es fs low_too same less)
        | inr most ↦ absurd (first_not_below f e fs es low (sym same) (omega (arith, most, apart)))
      ]
    ] in
    let bytes : e.bytes ≡ f.bytes =
    some_bytes e.bytes f.bytes (entry_pages (e ∷ es) e.page) (entry_here e es e.page refl) (ap (λ (p : Pages). p e.page) same ∙ entry_here f fs e.page first) in
    let rest : es ≡ fs = same_entries es fs (e.page + 1) low (subst (λ (n : ℕ). rise (n + 1) fs ≡ true) (sym first) low_too) (λ i p. rest_same e f es fs low low_too first same p i) in
    ap (λ (l : List Entry). e ∷ l) rest ∙ ap (λ (n : ℕ). record { page = n; bytes = e.bytes } ∷ fs) first ∙ ap (λ (l : List ℕ). record { page = f.page; bytes = l } ∷ fs) bytes

none_some : (o : Option (List ℕ)) → o ≡ None → IsSome o → ⊥
none_some o none some = false≢true (sym (ap (λ (x : Option (List ℕ)). is_some_of x) none) ∙ some)

pub exactly : (es : List Entry) (least m : ℕ) → rise least es ≡ true → least ≤ m → ((p : ℕ) → least ≤ p → IsSome (entry_pages es p) ↔ (p < m)) → (least + length es ≡ m) × (least_behind least es ≡ m)
exactly [] least m rises below all =
    let no_more : m ≤ least = elim (less_or_not least m) [ inl less ↦ absurd (none_some None refl ((all least (omega arith)).1 less)) | inr most ↦ most ] in
    (omega (arith, below, no_more), omega (arith, below, no_more))
exactly (e ∷ es) least m rises below all =
    let a = and_parts _ _ rises in
    let first : least ≤ e.page = leb-true _ _ (and_parts _ _ a.0).0 in
    let low : e.page < m = (all e.page first).0 (is_some (entry_pages (e ∷ es) e.page) (entry_here e es e.page refl)) in
    let no_gap : e.page ≤ least = elim (less_or_not least e.page) [
      | inl less ↦
          absurd (none_some (entry_pages (e ∷ es) least) (entry_behind e es least (λ same. omega (arith, same, less)) ∙ below_none es (e.page + 1) least a.1 (omega (arith, less)))
          ((all least (omega arith)).1 (omega (arith, less, low))))
      | inr most ↦ most
    ] in
    let rest = exactly es (e.page + 1) m a.1 (omega (arith, low)) (λ p from.
    let apart = entry_behind e es p (λ same. omega (arith, same, from)) in
    subst (λ (o : Option (List ℕ)). IsSome o ↔ (p < m)) apart (all p (omega (arith, from, first)))) in
    (let x = rest.0 in omega (arith, x, first, no_gap), rest.1)

pub base_is : (number last count : ℕ) (es : List Entry) (h : Header) → AreUnderWay number es → least_behind 0 es ≡ last + 1 → length es ≡ count → IsHeadedBy (entry_pages es) h
    → last + 1 ≡ h.pages → count ≡ h.pages → IsBase (record { number = number; entries = es })
base_is number last count es h under ends many headed one two = (
  h,
  headed,
  λ p. (
    λ some. elim (less_or_not p h.pages) [ inl low ↦ low | inr high ↦ absurd (none_some (entry_pages es p) (behind_none es 0 p under.rises (omega (arith, ends, one, high))) some) ],
    λ low. all_there es 0 p under.rises (omega (arith, ends, one, many, two)) (omega arith) (omega (arith, low, many, two)),
  ),
)

pub base_only : (number last count : ℕ) (es : List Entry) (h : Header) → AreUnderWay number es → least_behind 0 es ≡ last + 1 → length es ≡ count → IsHeadedBy (entry_pages es) h
    → IsBase (record { number = number; entries = es }) → (last + 1 ≡ h.pages) × (count ≡ h.pages)
base_only number last count es h under ends many headed (other, headed', all) =
    let same : h ≡ other = one_head headed headed' in
    let pages : h.pages ≡ other.pages = ap (λ (x : Header). x.pages) same in
    let are = exactly es 0 other.pages under.rises (omega arith) (λ p from. all p) in
    let x = are.0 in
    let y = are.1 in
    (omega (arith, y, ends, pages), omega (arith, x, many, pages))

pub none_headed : (pages : Pages) (h : Header) → pages 0 ≡ None → IsHeadedBy pages h → ⊥
none_headed pages h none headed = no_some headed.bytes (pages 0) headed.there none

pub header_found : (pages : Pages) (bytes : List ℕ) (found : Option Header) → pages 0 ≡ Some bytes → MatchOption found (IsNoHeader bytes) (λ h. IsHeader bytes h)
    → MatchOption found ((h : Header) → IsHeadedBy pages h → ⊥) (λ h. IsHeadedBy pages h)
header_found pages bytes None there no_header = λ h headed.
    let a : pages 0 ≡ Some bytes = there in
    let b : pages 0 ≡ Some headed.bytes = headed.there in
    let same : headed.bytes ≡ bytes = cc in
    no_header h (subst (λ (l : List ℕ). IsHeader l h) same headed.is)
header_found pages bytes (Some h) there is = record { bytes = bytes; there = there; is = is }

pub not_true : (b : Bool) → not b ≡ true → b ≡ false
not_true true is = absurd (false≢true is)
not_true false is = refl

pub not_false : (b : Bool) → not b ≡ false → b ≡ true
not_false true is = refl
not_false false is = absurd (false≢true (sym is))

pub no_bytes : (bytes : List ℕ) → length bytes ≡ 0 → bytes ≡ []
no_bytes [] none = refl
no_bytes (b ∷ bytes) none = absurd (omega (arith, none))
