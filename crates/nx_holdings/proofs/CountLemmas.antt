-- How many pages are free at least: each page is counted once.
use Rattle.std.proofs.Common.{◌≡◌, ◌≢◌, ℕ, zero, suc, ◌+◌, ◌-◌, ◌*◌, ◌<◌, ◌≤◌, true, false, List, [], ◌∷◌, ◌++◌, length, map, Bool, Option, Some, None, refl, sym, ap, ◌∙◌, arith, inl, inr, length-append}
use Rattle.std.specs.Prelude.{◌==◌, if◌then◌else◌, IsSome, slice_index}
use Rattle.std.specs.Option.{is_some}
use Rattle.std.proofs.lemmas.Bool.{eq-eqb}
use Rattle.std.proofs.lemmas.List.{length-map}
use Rattle.nx_replay.specs.Log.{Pages}
use Rattle.nx_slots.specs.Slots.{IsSlotted, slots_of, slot_of, count_of}
use Rattle.nx_slots.proofs.ReadLemmas.{length-slots_of, get_or-slots_of}
use Rattle.nx_slots.proofs.FitLemmas.{size_in-slot_of}
use Rattle.nx_slots.specs.Edits.{size_in}
use Rattle.nx_holdings.specs.declared.header.Header.{Header}
use Rattle.nx_holdings.specs.declared.header.Settings.{Settings}
use Rattle.nx_holdings.specs.Holdings.{times, named, Link, AreLinked, Chain, links_of, content_of, pages_of_links, pages_of_chains, list_at, record_in, Held, HoldsBy, Holds, chain_count}
use Rattle.nx_holdings.specs.Laws.{IsAmong, pages_of_list, pages_of_lists}
use Rattle.nx_holdings.proofs.TimesLemmas.{times-append, first_or, other_page}
use Rattle.nx_holdings.proofs.SharedLemmas.{some_or}
use Rattle.nx_holdings.proofs.DenseLemmas.{among_here, AreChains}
use Rattle.nx_holdings.proofs.ChainLemmas.{firsts_of, firsts_and_rests, list_of_first, no_list, list_later}
use Rattle.nx_holdings.proofs.OneLemmas.{counted, chain_numbers}

-- 1 for the same page, 0 for another
abbrev pub once_if : ℕ → ℕ → ℕ
once_if p q = if p == q then 1 else 0

-- These pages, without one of them.
pub record Without (q : ℕ) (ks : List ℕ) : Type 0 where
  pub rest : List ℕ
  pub counts : (p : ℕ) → times p ks ≡ once_if p q + times p rest
  pub long : length ks ≡ 1 + length rest
  pub lists : (lists : ℕ → Option (List ℕ)) → pages_of_lists lists ks ≡ pages_of_list (lists q) + pages_of_lists lists rest

without : (q : ℕ) (ks : List ℕ) → 1 ≤ times q ks → Without q ks
without q [] among = absurd (omega (arith, among))
without q (k ∷ ks) among = elim (first_or q k ks among) [
  | inl same ↦ record {
    rest = ks;
    counts = λ p. ap (λ (x : ℕ). (if p == x then 1 else 0) + times p ks) (sym same);
    long = omega arith;
    lists = λ lists. ap (λ (x : ℕ). pages_of_list (lists x) + pages_of_lists lists ks) (sym same);
  }
  | inr later ↦
      let w = without q ks later in
      record {
        rest = k ∷ w.rest;
        counts = λ p. let c = w.counts p in omega (arith, c);
        long = let l = w.long in omega (arith, l);
        lists = λ lists. let l = w.lists lists in omega (arith, l);
      }
]

if_other : {A : Type 0} (p q : ℕ) (x y : A) → p ≢ q → (if p == q then x else y) ≡ y
if_other p q x y other = ap (λ (b : Bool). if b then x else y) (other_page p q other)

-- Among fewer pages than there are numbers below n, one of those numbers isn't.
pub enough : (n : ℕ) (ks : List ℕ) → ((p : ℕ) → p < n → 1 ≤ times p ks) → n ≤ length ks
enough zero ks all = omega arith
enough (suc n) ks all =
    let w = without n ks (all n (omega arith)) in
    let rest = enough n w.rest (λ p low. let some = all p (omega arith) in let c = w.counts p in let none : once_if p n ≡ 0 = if_other p n 1 0 (omega arith) in omega (arith, some, c, none)) in
    let long = w.long in
    omega (arith, rest, long)

-- Pages below n, each of them once at most, are n at most.
pub few_below : (n : ℕ) (ks : List ℕ) → ((p : ℕ) → times p ks ≤ 1) → ((p : ℕ) → 1 ≤ times p ks → p < n) → length ks ≤ n
few_below zero [] once below = omega arith
few_below zero (k ∷ ks) once below = absurd (let low = below k (among_here k k ks refl) in omega (arith, low))
few_below (suc n) ks once below = elim (some_or (times n ks)) [
  | inr none ↦
      let rest = few_below n ks once (λ p among.
      let low = below p among in
      let other : p ≢ n = (λ same. let e = ap (λ (q : ℕ). times q ks) same in omega (arith, among, none, e)) in
      omega (arith, low, other)) in
      omega (arith, rest)
  | inl some ↦
      let w = without n ks some in
      let rest = few_below n w.rest (λ p. let most = once p in let c = w.counts p in omega (arith, most, c)) (λ p among.
      let most = once p in
      let c = w.counts p in
      let low = below p (omega (arith, among, c)) in
      let other : p ≢ n = (λ same. let here : once_if p n ≡ 1 = let eq : (p == n) ≡ true = eq-eqb p n same in rw eq refl in omega (arith, most, c, here, among)) in
      omega (arith, low, other)) in
      let long = w.long in
      omega (arith, rest, long)
]

-- lists at some of the first pages take no more than those at all of them
lists_within : (lists : ℕ → Option (List ℕ)) (xs ks : List ℕ) → ((p : ℕ) → times p xs ≤ times p ks) → pages_of_lists lists xs ≤ pages_of_lists lists ks
lists_within lists [] ks within = omega arith
lists_within lists (x ∷ xs) ks within =
    let w = without x ks (let here = among_here x x xs refl in let most = within x in omega (arith, here, most)) in
    let rest = lists_within lists xs w.rest (λ p. let most = within p in let c = w.counts p in omega (arith, most, c)) in
    let whole = w.lists lists in
    omega (arith, rest, whole)

lists_same : (one other : ℕ → Option (List ℕ)) (xs : List ℕ) → ((p : ℕ) → 1 ≤ times p xs → one p ≡ other p) → pages_of_lists one xs ≡ pages_of_lists other xs
lists_same one other [] same = refl
lists_same one other (x ∷ xs) same =
    let here = ap pages_of_list (same x (among_here x x xs refl)) in
    let rest = lists_same one other xs (λ p among. same p (omega (arith, among))) in
    omega (arith, here, rest)

-- the pages of chains

links_few : (pages : Pages) (ls : List Link) → AreLinked pages ls → 8184 * length (pages_of_links ls) ≤ length (content_of ls) + 8183
links_few pages [] are = omega arith
links_few pages (l ∷ []) are = let some = are.0.some in let whole = length-append l.content [] in omega (arith, some, whole)
links_few pages (l ∷ m ∷ ls) are =
    let rest = links_few pages (m ∷ ls) are.2 in
    let full = are.1 (omega arith) in
    let whole = length-append l.content (content_of (m ∷ ls)) in
    omega (arith, rest, full, whole)

-- a chain has no more bytes than its pages may
pub links_long : (pages : Pages) (ls : List Link) → AreLinked pages ls → length (content_of ls) ≤ 8184 * length (pages_of_links ls)
links_long pages [] are = omega arith
links_long pages (l ∷ ls) are =
    let rest = links_long pages ls are.2 in
    let few = (are.0).few in
    let whole = length-append l.content (content_of ls) in
    omega (arith, rest, few, whole)

-- a chain takes no more pages than its list needs
chain_few : (pages : Pages) (ls : List Link) → AreLinked pages ls → length (pages_of_links ls) ≤ chain_count (length (content_of ls))
chain_few pages ls are = let few = links_few pages ls are in omega (arith, few)

list_here : (c : Chain) (cs : List Chain) → list_at (c ∷ cs) (c.first).page ≡ Some (content_of (links_of c))
list_here c cs = let is : ((c.first).page == (c.first).page) ≡ true = eq-eqb (c.first).page (c.first).page refl in rw is refl

-- a first page of the others isn't that of the first
later_list : (c : Chain) (cs : List Chain) (p : ℕ) → 1 ≤ times p (firsts_of cs) → times p (pages_of_chains (c ∷ cs)) ≤ 1 → list_at (c ∷ cs) p ≡ list_at cs p
later_list c cs p among once =
    let halves = firsts_and_rests p (c ∷ cs) in
    elim (p == (c.first).page) as (λ b. (p == (c.first).page) ≡ b → list_at (c ∷ cs) p ≡ list_at cs p) [
      | true ↦ λ is. absurd (let twice : 2 ≤ times p (firsts_of (c ∷ cs)) = rw is (omega (arith, among)) in omega (arith, halves, once, twice))
      | false ↦ λ is. list_later c cs p is
    ] refl

chains_few : (pages : Pages) (cs : List Chain) → AreChains pages cs → ((p : ℕ) → times p (pages_of_chains cs) ≤ 1) → length (pages_of_chains cs) ≤ pages_of_lists (list_at cs) (firsts_of cs)
chains_few pages [] are once = omega arith
chains_few pages (c ∷ cs) are once =
    let first = (c.first).page in
    let rest = chains_few pages cs are.1 (λ p. let most = once p in let both = times-append p (pages_of_links (links_of c)) (pages_of_chains cs) in omega (arith, most, both)) in
    let others = lists_same (list_at (c ∷ cs)) (list_at cs) (firsts_of cs) (λ p among. later_list c cs p among (once p)) in
    let here = ap pages_of_list (list_here c cs) in
    let few = chain_few pages (links_of c) are.0 in
    let whole = length-append (pages_of_links (links_of c)) (pages_of_chains cs) in
    omega (arith, rest, others, here, few, whole)

-- the pages with records

empty : {T : Type 0} (xs : List T) → length xs ≡ 0 → xs ≡ []
empty [] none = refl
empty (x ∷ xs) none = absurd (omega arith)

some_slots : (bytes : List ℕ) → slots_of bytes ≢ [] → 1 ≤ count_of bytes
some_slots bytes some = elim (some_or (count_of bytes)) [
  | inr none ↦ absurd (some (empty (slots_of bytes) (length-slots_of bytes ∙ none)))
  | inl many ↦ many
]

some_in : (slot : Option (List ℕ)) → 1 ≤ size_in slot → IsSome slot
some_in None some = absurd (omega arith)
some_in (Some bytes) some = refl

-- a slotted page with slots has a record in the last of them
used_has_record : (bytes : List ℕ) → IsSlotted bytes → slots_of bytes ≢ [] → IsSome (record_in (Some bytes) (count_of bytes - 1))
used_has_record bytes is some =
    let last = count_of bytes - 1 in
    let many : 1 ≤ count_of bytes = some_slots bytes some in
    let low : last < count_of bytes = omega arith in
    let kind : (slice_index bytes 0 == 1) ≡ true = eq-eqb (slice_index bytes 0) 1 is.headed.kind in
    let size = size_in-slot_of bytes last is low in
    let full = is.last many in
    let there : record_in (Some bytes) last ≡ slot_of bytes last = rw kind (get_or-slots_of bytes last low) in
    ap is_some there ∙ some_in (slot_of bytes last) (omega (arith, size, full))

among_places : (page slot : ℕ) (places : List (ℕ × ℕ)) → IsAmong (page, slot) places → 1 ≤ times page (map (λ place. place.0) places)
among_places page slot [] among = absurd among
among_places page slot (place ∷ places) (inl same) = among_here page place.0 (map (λ p. p.0) places) (ap (λ (p : ℕ × ℕ). p.0) same)
among_places page slot (place ∷ places) (inr among) = let later = among_places page slot places among in omega (arith, later)

among_firsts : (first : ℕ) (firsts : List ℕ) → IsAmong first firsts → 1 ≤ times first firsts
among_firsts first [] among = absurd among
among_firsts first (f ∷ fs) (inl same) = among_here first f fs same
among_firsts first (f ∷ fs) (inr among) = let later = among_firsts first fs among in omega (arith, later)

module _ {pages : Pages} {head : Header} {held : Held} (by : HoldsBy pages head held) where
  -- each page below the header's number is named, or has a record
  each_counted : (places : List (ℕ × ℕ)) → ((page slot : ℕ) → IsSome (held.records page slot) → IsAmong (page, slot) places) → (p : ℕ) → p < head.pages
      → 1 ≤ times p (named by.behind.shares [] ++ map (λ place. place.0) places)
  each_counted places records p low =
      let pages_of_places = map (λ (place : ℕ × ℕ). place.0) places in
      let both = times-append p (named by.behind.shares []) pages_of_places in
      elim (some_or (times p (named by.behind.shares []))) [
        | inr none ↦
            let used = by.behind.shared.slotted p low none in
            let last = count_of used.bytes - 1 in
            let there : IsSome (held.records p last) =
            ap is_some (by.behind.records p last ∙ ap (λ (o : Option (List ℕ)). record_in o last) used.there) ∙ used_has_record used.bytes used.slotted used.some in
            let among = among_places p last places (records p last there) in
            omega (arith, both, among)
        | inl some ↦ omega (arith, both, some)
      ]

  pages_few : (places : List (ℕ × ℕ)) → ((page slot : ℕ) → IsSome (held.records page slot) → IsAmong (page, slot) places)
      → head.pages ≤ 1 + length (by.behind.shares).free + length (pages_of_chains (by.behind.shares).chains) + length places
  pages_few places records =
      let s = by.behind.shares in
      let most = enough head.pages (named s [] ++ map (λ (place : ℕ × ℕ). place.0) places) (each_counted places records) in
      let all = length-append (named s []) (map (λ (place : ℕ × ℕ). place.0) places) in
      let count = length-map places (λ (place : ℕ × ℕ). place.0) in
      let free = length-append s.free (pages_of_chains s.chains ++ []) in
      let chains = length-append (pages_of_chains s.chains) [] in
      omega (arith, most, all, count, free, chains)

  chained_once : (p : ℕ) → times p (pages_of_chains (by.behind.shares).chains) ≤ 1
  chained_once p = let count = counted by p in let once = by.behind.shared.once p in omega (arith, count, once)

  firsts_once : (p : ℕ) → times p (firsts_of (by.behind.shares).chains) ≤ 1
  firsts_once p = let once = chained_once p in let halves = firsts_and_rests p (by.behind.shares).chains in omega (arith, once, halves)

  catalog_first : 1 ≤ times head.catalog (firsts_of (by.behind.shares).chains)
  catalog_first = elim (some_or (times head.catalog (firsts_of (by.behind.shares).chains))) [
    | inr none ↦ let no = no_list (by.behind.shares).chains head.catalog none in let some = by.behind.catalog in absurd (let clash : ◌≡◌ {A = Option (List ℕ)} None (Some held.catalog.bytes) = sym no ∙ some in cc)
    | inl some ↦ some
  ]

  -- the first pages of the chains, but for the catalog's
  others : Without head.catalog (firsts_of (by.behind.shares).chains)
  others = without head.catalog (firsts_of (by.behind.shares).chains) catalog_first

  not_catalog : (p : ℕ) → 1 ≤ times p others.rest → p ≢ head.catalog
  not_catalog p among same =
      let once = firsts_once p in
      let count = others.counts p in
      let is : once_if p head.catalog ≡ 1 = let eq : (p == head.catalog) ≡ true = eq-eqb p head.catalog same in rw eq refl in
      absurd (omega (arith, once, count, is, among))

  its_list : (p : ℕ) → 1 ≤ times p others.rest → held.lists p ≡ list_at (by.behind.shares).chains p
  its_list p among = by.behind.lists p ∙ if_other p head.catalog None (list_at (by.behind.shares).chains p) (not_catalog p among)

  others_within : (firsts : List ℕ) → ((first : ℕ) → IsSome (held.lists first) → IsAmong first firsts) → (p : ℕ) → times p others.rest ≤ times p firsts
  others_within firsts lists p = elim (some_or (times p others.rest)) [
    | inr none ↦ omega (arith, none)
    | inl some ↦
        let count = others.counts p in
        let once = firsts_once p in
        let list = list_of_first pages (by.behind.shares).chains p by.behind.shared.chains (chain_numbers by) (omega (arith, some, count)) in
        let among = among_firsts p firsts (lists p (ap is_some (its_list p some ∙ list.1))) in
        omega (arith, count, once, among)
  ]

  chains_within : (firsts : List ℕ) → ((first : ℕ) → IsSome (held.lists first) → IsAmong first firsts)
      → length (pages_of_chains (by.behind.shares).chains) ≤ pages_of_lists held.lists firsts + chain_count (length held.catalog.bytes)
  chains_within firsts lists =
      let cs = (by.behind.shares).chains in
      let few = chains_few pages cs by.behind.shared.chains chained_once in
      let whole = others.lists (list_at cs) in
      let catalog = ap pages_of_list by.behind.catalog in
      let same = lists_same held.lists (list_at cs) others.rest its_list in
      let within = lists_within held.lists others.rest firsts (others_within firsts lists) in
      omega (arith, few, whole, catalog, same, within)

-- Of sound pages at least so many are free.
pub have_free : (pages : Pages) (held : Held) (places : List (ℕ × ℕ)) (firsts : List ℕ) → Holds pages held
    → ((page slot : ℕ) → IsSome (held.records page slot) → IsAmong (page, slot) places) → ((first : ℕ) → IsSome (held.lists first) → IsAmong first firsts)
    → held.settings.limit ≤ held.free + (1 + length places + pages_of_lists held.lists firsts + chain_count (length held.catalog.bytes))
have_free pages held places firsts holds records lists =
    let by = holds.1 in
    let few = pages_few by places records in
    let chains = chains_within by firsts lists in
    let free = by.behind.free in
    let range = by.range.pages.1 in
    let limit = ap (λ (s : Settings). s.limit) by.behind.settings in
    omega (arith, few, chains, free, range, limit)
