-- How often a page is among others, and what stays where pages stay.
use Rattle.std.proofs.Common.{◌≡◌, ◌⊎◌, ℕ, ◌+◌, ◌≤◌, List, [], ◌∷◌, ◌++◌, refl, sym, ap, ◌∙◌, arith, Bool, true, false, inl, inr}
use Rattle.std.proofs.lemmas.Bool.{cases_Bool, eqb-true, eq-eqb, false≢true}
use Rattle.std.specs.Prelude.{◌==◌, ◌≢◌, if◌then◌else◌, Some}
use Rattle.std.specs.List.{AllByRecursion}
use Rattle.nx_replay.specs.Log.{Pages}
use Rattle.nx_chain.specs.Chain.{chain_bytes}
use Rattle.nx_holdings.specs.Holdings.{with_page, times, free_bytes, IsFreeList, Link, AreLinked, Chain, links_of, next_of, pages_of_links, pages_of_chains}

pub same_page : (p : ℕ) → (p == p) ≡ true
same_page p = eq-eqb p p refl

pub other_page : (p q : ℕ) → (p ≡ q → ⊥) → (p == q) ≡ false
other_page p q apart = elim (cases_Bool (p == q)) [ inl holds ↦ absurd (apart (eqb-true p q holds)) | inr fails ↦ fails ]

-- one of them is the page, or the rest has it
pub times_one : (p : ℕ) (qs : List ℕ) → times p (p ∷ qs) ≡ 1 + times p qs
times_one p qs = ap (λ (b : Bool). (if b then 1 else 0) + times p qs) (same_page p)

pub times_other : (p q : ℕ) (qs : List ℕ) → (p ≡ q → ⊥) → times p (q ∷ qs) ≡ times p qs
times_other p q qs apart = ap (λ (b : Bool). (if b then 1 else 0) + times p qs) (other_page p q apart) ∙ omega arith

pub times-cons : (p q : ℕ) (qs : List ℕ) → times p (q ∷ qs) ≡ times p (q ∷ []) + times p qs
times-cons p q qs = omega arith

pub times-append : (p : ℕ) (xs ys : List ℕ) → times p (xs ++ ys) ≡ times p xs + times p ys
times-append p [] ys = omega arith
times-append p (x ∷ xs) ys = let rest = times-append p xs ys in omega arith

pub times_apart : (p q : ℕ) (qs : List ℕ) → 1 ≤ times p qs → times q qs ≡ 0 → p ≡ q → ⊥
times_apart p q qs some none same = let e = ap (λ (r : ℕ). times r qs) same in absurd (omega arith)

pub with_page-here : (pages : Pages) (page : ℕ) (bytes : List ℕ) → with_page pages page bytes page ≡ Some bytes
with_page-here pages page bytes = ap (λ (b : Bool). if b then Some bytes else pages page) (same_page page)

pub with_page-other : (pages : Pages) (page : ℕ) (bytes : List ℕ) (p : ℕ) → (p ≡ page → ⊥) → with_page pages page bytes p ≡ pages p
with_page-other pages page bytes p apart = ap (λ (b : Bool). if b then Some bytes else pages p) (other_page p page apart)

-- each page among these stays
abbrev pub StaySame : Pages → Pages → List ℕ → Type 0
StaySame old new ps = (p : ℕ) → 1 ≤ times p ps → new p ≡ old p

stay_first : (old new : Pages) (q : ℕ) (qs : List ℕ) → StaySame old new (q ∷ qs) → new q ≡ old q
stay_first old new q qs same = same q (let e = times_one q qs in omega arith)

stay_rest : (old new : Pages) (q : ℕ) (qs : List ℕ) → StaySame old new (q ∷ qs) → StaySame old new qs
stay_rest old new q qs same p some = same p (let e = times-cons p q qs in omega arith)

first_stay : (old new : Pages) (xs ys : List ℕ) → StaySame old new (xs ++ ys) → StaySame old new xs
first_stay old new xs ys same p some = same p (let e = times-append p xs ys in omega arith)

stay_back : (old new : Pages) (xs ys : List ℕ) → StaySame old new (xs ++ ys) → StaySame old new ys
stay_back old new xs ys same p some = same p (let e = times-append p xs ys in omega arith)

pub free_same : (old new : Pages) (first : ℕ) (ps : List ℕ) → StaySame old new ps → IsFreeList old first ps → IsFreeList new first ps
free_same old new first [] same is = is
free_same old new first (p ∷ ps) same is = (is.0, (is.1.0, stay_first old new p ps same ∙ is.1.1, free_same old new is.1.0 ps (stay_rest old new p ps same) is.1.2))

pub links_same : (old new : Pages) (ls : List Link) → StaySame old new (pages_of_links ls) → AreLinked old ls → AreLinked new ls
links_same old new [] same are = tt
links_same old new (l ∷ ls) same are =
    let here = are.0 in (
      record { there = stay_first old new l.page (pages_of_links ls) same ∙ here.there; some = here.some; few = here.few },
      are.1,
      links_same old new ls (stay_rest old new l.page (pages_of_links ls) same) are.2,
    )

pub chains_same : (old new : Pages) (cs : List Chain) → StaySame old new (pages_of_chains cs) → AllByRecursion (λ c. AreLinked old (links_of c)) cs
    → AllByRecursion (λ c. AreLinked new (links_of c)) cs
chains_same old new [] same are = tt
chains_same old new (c ∷ cs) same are = (
  links_same old new (links_of c) (first_stay old new (pages_of_links (links_of c)) (pages_of_chains cs) same) are.0,
  chains_same old new cs (stay_back old new (pages_of_links (links_of c)) (pages_of_chains cs) same) are.1,
)

-- what a page among these is
pub first_or : (p q : ℕ) (qs : List ℕ) → 1 ≤ times p (q ∷ qs) → (p ≡ q) ⊎ (1 ≤ times p qs)
first_or p q qs some = elim (cases_Bool (p == q)) [
  | inl holds ↦ inl (eqb-true p q holds)
  | inr fails ↦ inr (let e = times_other p q qs (λ same. false≢true (sym fails ∙ eq-eqb p q same)) in omega arith)
]

pub free_there : (pages : Pages) (first : ℕ) (ps : List ℕ) (p : ℕ) → IsFreeList pages first ps → 1 ≤ times p ps → (next : ℕ) × (pages p ≡ Some (free_bytes next))
free_there pages first [] p is some = absurd (omega arith)
free_there pages first (q ∷ qs) p is some = elim (first_or p q qs some) [
  | inl same ↦ (is.1.0, ap pages same ∙ is.1.1)
  | inr rest ↦ free_there pages is.1.0 qs p is.1.2 rest
]

pub link_there : (pages : Pages) (ls : List Link) (p : ℕ) → AreLinked pages ls → 1 ≤ times p (pages_of_links ls)
    → (next : ℕ) × ((content : List ℕ) × (pages p ≡ Some (chain_bytes next content)))
link_there pages [] p are some = absurd (omega arith)
link_there pages (l ∷ ls) p are some = elim (first_or p l.page (pages_of_links ls) some) [
  | inl same ↦ (next_of ls, (l.content, ap pages same ∙ (are.0).there))
  | inr rest ↦ link_there pages ls p are.2 rest
]

pub chain_there : (pages : Pages) (cs : List Chain) (p : ℕ) → AllByRecursion (λ c. AreLinked pages (links_of c)) cs → 1 ≤ times p (pages_of_chains cs)
    → (next : ℕ) × ((content : List ℕ) × (pages p ≡ Some (chain_bytes next content)))
chain_there pages [] p are some = absurd (omega arith)
chain_there pages (c ∷ cs) p are some =
    let both = times-append p (pages_of_links (links_of c)) (pages_of_chains cs) in
    elim (some_or (times p (pages_of_links (links_of c)))) [
      | inl here ↦ link_there pages (links_of c) p are.0 here
      | inr none ↦ chain_there pages cs p are.1 (omega arith)
    ]
  where
    some_or : (n : ℕ) → (1 ≤ n) ⊎ (n ≡ 0)
    some_or n = elim (cases_Bool (n == 0)) [
      | inl holds ↦ inr (eqb-true n 0 holds)
      | inr fails ↦ inl (let apart : n ≢ 0 = (λ same. false≢true (sym fails ∙ eq-eqb n 0 same)) in omega arith)
    ]
