-- The free list and the chains of sound pages are determined by the pages.
use Rattle.std.proofs.Common.{◌≡◌, ◌⊎◌, ℕ, ◌+◌, ◌<◌, ◌≤◌, ◌^◌, true, false, List, [], ◌∷◌, ◌++◌, length, length-append, take, drop, Option, Some, None, refl, sym, ap, ◌∙◌, arith, inl, inr}
use Rattle.std.specs.Prelude.{◌==◌, if◌then◌else◌}
use Rattle.std.proofs.lemmas.Bool.{eqb-true}
use Rattle.nx_numbers.specs.Numbers.{number_at}
use Rattle.nx_replay.specs.Log.{Pages}
use Rattle.nx_chain.specs.Chain.{chain_bytes, IsChainPage}
use Rattle.nx_chain.proofs.Chain.{says_length, says_next, says_content}
use Rattle.nx_holdings.specs.Holdings.{times, free_bytes, IsFreeList, Link, IsLink, next_of, AreLinked, Chain, links_of, content_of, pages_of_links, pages_of_chains, list_at, pages_at}
use Rattle.nx_holdings.proofs.FreeLemmas.{free_one}
use Rattle.nx_holdings.proofs.TimesLemmas.{times-append, first_or}
use Rattle.nx_holdings.proofs.SharedLemmas.{some_or}
use Rattle.nx_holdings.proofs.DenseLemmas.{among_here, in_one, AreChains}

-- a page that another may name
pub record IsNumber (p : ℕ) : Type 0 where
  pub some : 1 ≤ p
  pub low : p < 2 ^ 32

abbrev pub AreNumbers : List ℕ → Type 0
AreNumbers ps = (p : ℕ) → 1 ≤ times p ps → IsNumber p

later_numbers : (q : ℕ) (qs : List ℕ) → AreNumbers (q ∷ qs) → AreNumbers qs
later_numbers q qs all p among = all p (omega (arith, among))

left_numbers : (xs ys : List ℕ) → AreNumbers (xs ++ ys) → AreNumbers xs
left_numbers xs ys all p among = all p (let both = times-append p xs ys in omega (arith, among, both))

right_numbers : (xs ys : List ℕ) → AreNumbers (xs ++ ys) → AreNumbers ys
right_numbers xs ys all p among = all p (let both = times-append p xs ys in omega (arith, among, both))

pub same_bytes : (a b : List ℕ) (o : Option (List ℕ)) → o ≡ Some a → o ≡ Some b → a ≡ b
same_bytes a b o one other = cc

-- the free list

first_free : (pages : Pages) (first : ℕ) (ps : List ℕ) → IsFreeList pages first ps → AreNumbers ps → first < 2 ^ 32
first_free pages first [] are all = let none : first ≡ 0 = are in omega arith
first_free pages first (p ∷ ps) are all =
    let same : first ≡ p = are.0 in
    let low : p < 2 ^ 32 = (all p (among_here p p ps refl)).low in
    omega arith

pub one_free : (pages : Pages) (first : ℕ) (ps qs : List ℕ) → IsFreeList pages first ps → IsFreeList pages first qs → AreNumbers ps → AreNumbers qs → ps ≡ qs
one_free pages first [] [] one other all all_too = refl
one_free pages first [] (q ∷ qs) one other all all_too =
    let none : first ≡ 0 = one in
    let same : first ≡ q = other.0 in
    let some : 1 ≤ q = (all_too q (among_here q q qs refl)).some in
    absurd (omega arith)
one_free pages first (p ∷ ps) [] one other all all_too =
    let none : first ≡ 0 = other in
    let same : first ≡ p = one.0 in
    let some : 1 ≤ p = (all p (among_here p p ps refl)).some in
    absurd (omega arith)
one_free pages first (p ∷ ps) (q ∷ qs) one other all all_too =
    let rest = later_numbers p ps all in
    let rest_too = later_numbers q qs all_too in
    let bytes : free_bytes one.1.0 ≡ free_bytes other.1.0 =
    same_bytes (free_bytes one.1.0) (free_bytes other.1.0) (pages p) one.1.1 (ap pages (sym one.0 ∙ other.0) ∙ other.1.1) in
    let next : other.1.0 ≡ one.1.0 =
    free_one other.1.0 one.1.0 (first_free pages other.1.0 qs other.1.2 rest_too) (first_free pages one.1.0 ps one.1.2 rest) (sym bytes) in
    let goes_on : IsFreeList pages one.1.0 qs = rw next at other.1.2 in
    let others : ps ≡ qs = one_free pages one.1.0 ps qs one.1.2 goes_on rest rest_too in
    let here : p ≡ q = sym one.0 ∙ other.0 in
    cc

-- chain pages

-- The page is a chain page with this content, and names this page next.
pub record Names (pages : Pages) (page next : ℕ) (content : List ℕ) : Type 0 where
  pub there : pages page ≡ Some (chain_bytes next content)
  pub low : next < 2 ^ 32
  pub some : 1 ≤ length content
  pub few : length content ≤ 8184

is_page : {pages : Pages} {page next : ℕ} {content : List ℕ} → Names pages page next content → IsChainPage (chain_bytes next content) next content
is_page names = record { are = refl; low = names.low; some = names.some; few = names.few }

same_chain_page : {pages : Pages} {page n m : ℕ} {x y : List ℕ} → Names pages page n x → Names pages page m y → chain_bytes n x ≡ chain_bytes m y
same_chain_page {pages} {page} {n} {m} {x} {y} a b = same_bytes (chain_bytes n x) (chain_bytes m y) (pages page) a.there b.there

-- a page names one page next
pub one_next : {pages : Pages} {page n m : ℕ} {x y : List ℕ} → Names pages page n x → Names pages page m y → n ≡ m
one_next {pages} {page} {n} {m} {x} {y} a b =
    sym (says_next (chain_bytes n x) n x (is_page a)) ∙ ap (λ (r : List ℕ). number_at 4 r 4) (same_chain_page a b) ∙ says_next (chain_bytes m y) m y (is_page b)

one_length : {pages : Pages} {page n m : ℕ} {x y : List ℕ} → Names pages page n x → Names pages page m y → length x ≡ length y
one_length {pages} {page} {n} {m} {x} {y} a b =
    sym (says_length (chain_bytes n x) n x (is_page a)) ∙ ap (λ (r : List ℕ). number_at 2 r 2) (same_chain_page a b) ∙ says_length (chain_bytes m y) m y (is_page b)

-- and has one content
pub one_content : {pages : Pages} {page n m : ℕ} {x y : List ℕ} → Names pages page n x → Names pages page m y → x ≡ y
one_content {pages} {page} {n} {m} {x} {y} a b =
    sym (says_content (chain_bytes n x) n x (is_page a)) ∙ ap (λ (r : List ℕ). take (length x) (drop 8 r)) (same_chain_page a b)
    ∙ ap (λ (k : ℕ). take k (drop 8 (chain_bytes m y))) (one_length a b) ∙ says_content (chain_bytes m y) m y (is_page b)

next_low : (ls : List Link) → AreNumbers (pages_of_links ls) → next_of ls < 2 ^ 32
next_low [] all = omega arith
next_low (l ∷ ls) all = (all l.page (among_here l.page l.page (pages_of_links ls) refl)).low

-- a page of a chain names that behind it
pub names_next : (pages : Pages) (l : Link) (ls : List Link) → IsLink pages l (next_of ls) → AreNumbers (pages_of_links ls) → Names pages l.page (next_of ls) l.content
names_next pages l ls is all = record { there = is.there; low = next_low ls all; some = is.some; few = is.few }

first_some : (l : Link) (ls : List Link) → AreNumbers (pages_of_links (l ∷ ls)) → 1 ≤ l.page
first_some l ls all = (all l.page (among_here l.page l.page (pages_of_links ls) refl)).some

joined : (a b x y : List ℕ) → a ≡ b → x ≡ y → a ++ x ≡ b ++ y
joined a b x y one other = cc

-- chains that begin at one page have one content
pub one_chain : (pages : Pages) (ls ms : List Link) → AreLinked pages ls → AreLinked pages ms → AreNumbers (pages_of_links ls) → AreNumbers (pages_of_links ms) → next_of ls ≡ next_of ms
    → content_of ls ≡ content_of ms
one_chain pages [] [] one other all all_too first = refl
one_chain pages [] (m ∷ ms) one other all all_too first = let some = first_some m ms all_too in absurd (omega arith)
one_chain pages (l ∷ ls) [] one other all all_too first = let some = first_some l ls all in absurd (omega arith)
one_chain pages (l ∷ ls) (m ∷ ms) one other all all_too first =
    let rest = later_numbers l.page (pages_of_links ls) all in
    let rest_too = later_numbers m.page (pages_of_links ms) all_too in
    let a = names_next pages l ls one.0 rest in
    let b : Names pages l.page (next_of ms) m.content = rw first (names_next pages m ms other.0 rest_too) in
    joined l.content m.content (content_of ls) (content_of ms) (one_content a b) (one_chain pages ls ms one.2 other.2 rest rest_too (one_next a b))

-- ... and stand on the same pages
pub one_chain_of_pages : (pages : Pages) (ls ms : List Link) → AreLinked pages ls → AreLinked pages ms → AreNumbers (pages_of_links ls) → AreNumbers (pages_of_links ms) → next_of ls ≡ next_of ms
    → pages_of_links ls ≡ pages_of_links ms
one_chain_of_pages pages [] [] one other all all_too first = refl
one_chain_of_pages pages [] (m ∷ ms) one other all all_too first = let some = first_some m ms all_too in absurd (omega arith)
one_chain_of_pages pages (l ∷ ls) [] one other all all_too first = let some = first_some l ls all in absurd (omega arith)
one_chain_of_pages pages (l ∷ ls) (m ∷ ms) one other all all_too first =
    let rest = later_numbers l.page (pages_of_links ls) all in
    let rest_too = later_numbers m.page (pages_of_links ms) all_too in
    let a = names_next pages l ls one.0 rest in
    let b : Names pages l.page (next_of ms) m.content = rw first (names_next pages m ms other.0 rest_too) in
    let others : pages_of_links ls ≡ pages_of_links ms = one_chain_of_pages pages ls ms one.2 other.2 rest rest_too (one_next a b) in
    let here : l.page ≡ m.page = first in
    cc

-- which pages are first

abbrev pub firsts_of : List Chain → List ℕ
firsts_of [] = []
firsts_of (c ∷ cs) = (c.first).page ∷ firsts_of cs

abbrev pub rests_of : List Chain → List ℕ
rests_of [] = []
rests_of (c ∷ cs) = pages_of_links c.rest ++ rests_of cs

-- the pages of chains are the first ones and those behind them
pub firsts_and_rests : (p : ℕ) (cs : List Chain) → times p (pages_of_chains cs) ≡ times p (firsts_of cs) + times p (rests_of cs)
firsts_and_rests p [] = refl
firsts_and_rests p (c ∷ cs) =
    let others = firsts_and_rests p cs in
    let whole = times-append p (pages_of_links c.rest) (pages_of_chains cs) in
    let rest = times-append p (pages_of_links c.rest) (rests_of cs) in
    omega (arith, others, whole, rest)

-- a page behind the first of a chain is named by another
named_by : (pages : Pages) (l : Link) (ls : List Link) (p : ℕ) → AreLinked pages (l ∷ ls) → AreNumbers (pages_of_links (l ∷ ls)) → 1 ≤ times p (pages_of_links ls)
    → (by : ℕ) × (content : List ℕ) × Names pages by p content
named_by pages l [] p are all among = absurd (omega (arith, among))
named_by pages l (m ∷ ms) p are all among =
    let rest = later_numbers l.page (pages_of_links (m ∷ ms)) all in
    elim (first_or p m.page (pages_of_links ms) among) [
      | inl same ↦ (l.page, l.content, let names = names_next pages l (m ∷ ms) are.0 rest in rw same names)
      | inr later ↦ named_by pages m ms p are.2 rest later
    ]

-- a page of a chain is first, or another names it
pub first_or_named : (pages : Pages) (cs : List Chain) (p : ℕ) → AreChains pages cs → AreNumbers (pages_of_chains cs) → 1 ≤ times p (pages_of_chains cs)
    → (1 ≤ times p (firsts_of cs)) ⊎ ((by : ℕ) × (content : List ℕ) × Names pages by p content)
first_or_named pages [] p are all among = absurd (omega (arith, among))
first_or_named pages (c ∷ cs) p are all among = elim (in_one p (pages_of_links (links_of c)) (pages_of_chains cs) among) [
  | inl here ↦ elim (first_or p (c.first).page (pages_of_links c.rest) here) [
    | inl same ↦ inl (among_here p (c.first).page (firsts_of cs) same)
    | inr later ↦ inr (named_by pages c.first c.rest p are.0 (left_numbers (pages_of_links (links_of c)) (pages_of_chains cs) all) later)
  ]
  | inr later ↦ elim (first_or_named pages cs p are.1 (right_numbers (pages_of_links (links_of c)) (pages_of_chains cs) all) later) [
    | inl first ↦ inl (omega (arith, first))
    | inr named ↦ inr named
  ]
]

-- a page that a chain page names is behind the first of its chain
next_among : (ls : List Link) (p : ℕ) → next_of ls ≡ p → 1 ≤ p → 1 ≤ times p (pages_of_links ls)
next_among [] p same some = absurd (omega arith)
next_among (l ∷ ls) p same some = among_here p l.page (pages_of_links ls) (sym same)

names_behind : {pages : Pages} {by p : ℕ} {content : List ℕ} (l : Link) (ls : List Link) → AreLinked pages (l ∷ ls) → AreNumbers (pages_of_links (l ∷ ls)) → Names pages by p content
    → 1 ≤ p → 1 ≤ times by (pages_of_links (l ∷ ls)) → 1 ≤ times p (pages_of_links ls)
names_behind {pages} {by} {p} {content} l [] are all names some among = elim (first_or by l.page [] among) [
  | inl same ↦ next_among [] p (one_next (names_next pages l [] are.0 (later_numbers l.page [] all)) (let moved : Names pages l.page p content = rw (sym same) names in moved)) some
  | inr later ↦ absurd (omega (arith, later))
]
names_behind {pages} {by} {p} {content} l (m ∷ ms) are all names some among =
    let rest = later_numbers l.page (pages_of_links (m ∷ ms)) all in
    elim (first_or by l.page (pages_of_links (m ∷ ms)) among) [
      | inl same ↦ next_among (m ∷ ms) p (one_next (names_next pages l (m ∷ ms) are.0 rest) (let moved : Names pages l.page p content = rw (sym same) names in moved)) some
      | inr later ↦ let behind = names_behind m ms are.2 rest names some later in omega (arith, behind)
    ]

-- the same among chains
pub named_is_rest : {pages : Pages} {by p : ℕ} {content : List ℕ} (cs : List Chain) → AreChains pages cs → AreNumbers (pages_of_chains cs) → Names pages by p content
    → 1 ≤ p → 1 ≤ times by (pages_of_chains cs) → 1 ≤ times p (rests_of cs)
named_is_rest [] are all names some among = absurd (omega (arith, among))
named_is_rest {pages} {by} {p} (c ∷ cs) are all names some among =
    let links = pages_of_links (links_of c) in
    let both = times-append p (pages_of_links c.rest) (rests_of cs) in
    elim (in_one by links (pages_of_chains cs) among) [
      | inl here ↦ let one = names_behind c.first c.rest are.0 (left_numbers links (pages_of_chains cs) all) names some here in omega (arith, both, one)
      | inr later ↦ let one = named_is_rest cs are.1 (right_numbers links (pages_of_chains cs) all) names some later in omega (arith, both, one)
    ]

-- what the byte lists at first pages are

-- A chain that begins at this page holds this.
pub record Begins (pages : Pages) (page : ℕ) (bytes : List ℕ) : Type 0 where
  pub links : List Link
  pub first : next_of links ≡ page
  pub linked : AreLinked pages links
  pub numbers : AreNumbers (pages_of_links links)
  pub bytes_are : bytes ≡ content_of links

pub one_begins : {pages : Pages} {page : ℕ} {x y : List ℕ} → Begins pages page x → Begins pages page y → x ≡ y
one_begins {pages} a b = a.bytes_are ∙ one_chain pages a.links b.links a.linked b.linked a.numbers b.numbers (a.first ∙ sym b.first) ∙ sym b.bytes_are

pub one_begins_on : {pages : Pages} {page : ℕ} {x y : List ℕ} (a : Begins pages page x) (b : Begins pages page y) → pages_of_links a.links ≡ pages_of_links b.links
one_begins_on {pages} a b = one_chain_of_pages pages a.links b.links a.linked b.linked a.numbers b.numbers (a.first ∙ sym b.first)

-- what begins at a page of a chain is no longer than the chain
begins_at : (pages : Pages) (ls : List Link) (p : ℕ) → AreLinked pages ls → AreNumbers (pages_of_links ls) → 1 ≤ times p (pages_of_links ls)
    → (bytes : List ℕ) × Begins pages p bytes × (length bytes ≤ length (content_of ls))
begins_at pages [] p are all among = absurd (omega (arith, among))
begins_at pages (l ∷ ls) p are all among = elim (first_or p l.page (pages_of_links ls) among) [
  | inl same ↦ (content_of (l ∷ ls), record { links = l ∷ ls; first = sym same; linked = are; numbers = all; bytes_are = refl }, omega arith)
  | inr later ↦
      let one = begins_at pages ls p are.2 (later_numbers l.page (pages_of_links ls) all) later in
      let few = one.2 in
      let long = length-append l.content (content_of ls) in
      (one.0, one.1, omega (arith, few, long))
]

-- no page of a chain comes again in it
pub links_once : (pages : Pages) (ls : List Link) → AreLinked pages ls → AreNumbers (pages_of_links ls) → (p : ℕ) → times p (pages_of_links ls) ≤ 1
links_once pages [] are all p = omega arith
links_once pages (l ∷ ls) are all p =
    let rest = later_numbers l.page (pages_of_links ls) all in
    elim (p == l.page) as (λ b. (p == l.page) ≡ b → (if b then 1 else 0) + times p (pages_of_links ls) ≤ 1) [
      | true ↦ λ is. elim (some_or (times p (pages_of_links ls))) [
        | inr none ↦ omega (arith, none)
        | inl some ↦ absurd (
            let behind = begins_at pages ls p are.2 rest some in
            let whole : Begins pages p (content_of (l ∷ ls)) = record { links = l ∷ ls; first = sym (eqb-true p l.page is); linked = are; numbers = all; bytes_are = refl } in
            let same = ap length (one_begins whole behind.1) in
            let long = length-append l.content (content_of ls) in
            let here = (are.0).some in
            let few = behind.2 in
            omega (arith, same, long, here, few))
      ]
      | false ↦ λ is. let once = links_once pages ls are.2 rest p in omega (arith, once)
    ] refl

pub list_later : (c : Chain) (cs : List Chain) (p : ℕ) → (p == (c.first).page) ≡ false → list_at (c ∷ cs) p ≡ list_at cs p
list_later c cs p is = rw is refl

pub pages_later : (c : Chain) (cs : List Chain) (p : ℕ) → (p == (c.first).page) ≡ false → pages_at (c ∷ cs) p ≡ pages_at cs p
pages_later c cs p is = rw is refl

pub list_of_first : (pages : Pages) (cs : List Chain) (p : ℕ) → AreChains pages cs → AreNumbers (pages_of_chains cs) → 1 ≤ times p (firsts_of cs)
    → (bytes : List ℕ) × (list_at cs p ≡ Some bytes) × ((begins : Begins pages p bytes) × (pages_at cs p ≡ pages_of_links begins.links))
list_of_first pages [] p are all among = absurd (omega (arith, among))
list_of_first pages (c ∷ cs) p are all among =
    let links = pages_of_links (links_of c) in
    let later = right_numbers links (pages_of_chains cs) all in
    elim (p == (c.first).page) as (λ b. (p == (c.first).page) ≡ b → (bytes : List ℕ) × (list_at (c ∷ cs) p ≡ Some bytes) × ((begins : Begins pages p bytes) × (pages_at (c ∷ cs) p ≡ pages_of_links begins.links))) [
      | true ↦ λ is. (
        content_of (links_of c),
        rw is refl,
        (
          record {
            links = links_of c;
            first = sym (eqb-true p (c.first).page is);
            linked = are.0;
            numbers = left_numbers links (pages_of_chains cs) all;
            bytes_are = refl;
          },
          rw is refl,
        ),
      )
      | false ↦ λ is.
          let others = list_of_first pages cs p are.1 later (let there : 1 ≤ 0 + times p (firsts_of cs) = rw is at among in omega (arith, there)) in
          (others.0, list_later c cs p is ∙ others.1, (others.2.0, pages_later c cs p is ∙ others.2.1))
    ] refl

pub no_list : (cs : List Chain) (p : ℕ) → times p (firsts_of cs) ≡ 0 → list_at cs p ≡ None
no_list [] p none = refl
no_list (c ∷ cs) p none =
    elim (p == (c.first).page) as (λ b. (p == (c.first).page) ≡ b → list_at (c ∷ cs) p ≡ None) [
      | true ↦ λ is. absurd (let some = among_here p (c.first).page (firsts_of cs) (eqb-true p (c.first).page is) in omega (arith, some, none))
      | false ↦ λ is. list_later c cs p is ∙ no_list cs p (let there : 0 + times p (firsts_of cs) ≡ 0 = rw is at none in omega (arith, there))
    ] refl

pub no_pages : (cs : List Chain) (p : ℕ) → times p (firsts_of cs) ≡ 0 → pages_at cs p ≡ []
no_pages [] p none = refl
no_pages (c ∷ cs) p none =
    elim (p == (c.first).page) as (λ b. (p == (c.first).page) ≡ b → pages_at (c ∷ cs) p ≡ []) [
      | true ↦ λ is. absurd (let some = among_here p (c.first).page (firsts_of cs) (eqb-true p (c.first).page is) in omega (arith, some, none))
      | false ↦ λ is. pages_later c cs p is ∙ no_pages cs p (let there : 0 + times p (firsts_of cs) ≡ 0 = rw is at none in omega (arith, there))
    ] refl
