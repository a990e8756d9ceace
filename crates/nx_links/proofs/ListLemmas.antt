-- Reading byte lists page by page.
use Rattle.std.proofs.Common.{◌≡◌, ◌⊎◌, ℕ, ◌+◌, ◌*◌, ◌<◌, ◌≤◌, List, [], ◌∷◌, ◌++◌, length, refl, sym, ap, subst, ◌∙◌, arith, Bool, false, inl, inr, length-append}
use Rattle.std.specs.Prelude.{◌==◌, ◌≢◌, ◌^◌, if◌then◌else◌, Option, Some, None}
use Rattle.std.proofs.lemmas.List.{append_assoc, append-nil}
use Rattle.nx_replay.specs.Log.{Pages}
use Rattle.nx_links.specs.Lists.{IsLinkAt, IsListFrom, IsListStep, IsNamed, IsReadTo}
use Rattle.nx_chain.specs.Chain.{chain_bytes}
use Rattle.std.proofs.lemmas.Bool.{cases_Bool, eqb-true, eq-eqb, false≢true}
use Rattle.std.specs.List.{AllByRecursion}
use Rattle.nx_holdings.specs.declared.header.Header.{Header}
use Rattle.nx_holdings.specs.Holdings.{Link, AreLinked, Chain, links_of, list_at, next_of, content_of, pages_of_links, pages_of_chains, times, Held, HoldsBy}
use Rattle.nx_holdings.proofs.SharedLemmas.{named_parts}
use Rattle.nx_holdings.proofs.OneLemmas.{chain_numbers, chain_is_chained}
use Rattle.nx_holdings.proofs.TimesLemmas.{times_one, times-cons, times-append, first_or}
use Rattle.nx_holdings.proofs.CountLemmas.{few_below, links_long}
use Rattle.nx_holdings.proofs.ChainLemmas.{AreNumbers, Names, Begins, links_once, one_begins, one_next, one_content, first_or_named, list_of_first}

-- no list begins nowhere but the empty one
pub none_from : (limit : ℕ) (pages : Pages) → IsListFrom limit pages 0 []
none_from limit pages = record { links = []; linked = tt; low = λ p some. absurd (omega (arith, some)); first = refl; are = refl }

pub from_none : {limit : ℕ} {pages : Pages} {bytes : List ℕ} → IsListFrom limit pages 0 bytes → bytes ≡ []
from_none {limit = limit} {pages = pages} {bytes = bytes} from = go from.links refl
  where
    go : (ls : List Link) → from.links ≡ ls → bytes ≡ []
    go [] are = sym from.are ∙ ap content_of are
    go (l ∷ ls) are =
        let zero : l.page ≡ 0 = sym (ap next_of are) ∙ from.first in
        let one = times_one l.page (pages_of_links ls) in
        let among : times l.page (pages_of_links from.links) ≡ times l.page (l.page ∷ pages_of_links ls) = ap (λ (x : List Link). times l.page (pages_of_links x)) are in
        let some = (from.low l.page (omega (arith, one, among))).0 in
        absurd (omega (arith, zero, some))

-- what a list has that begins at a page
pub record HasFirst (limit : ℕ) (pages : Pages) (page : ℕ) (bytes : List ℕ) : Type 0 where
  pub next : ℕ
  pub content : List ℕ
  pub low : page < limit
  pub names : pages page ≡ Some (chain_bytes next content)
  pub next_low : (next ≡ 0) ⊎ (next < limit)
  pub some : 1 ≤ length content
  pub few : length content ≤ 8184
  pub full : next ≢ 0 → length content ≡ 8184
  pub rest : List ℕ
  pub are : bytes ≡ content ++ rest
  pub from : IsListFrom limit pages next rest

pub has_first : {limit : ℕ} {pages : Pages} {page : ℕ} {bytes : List ℕ} → page ≢ 0 → IsListFrom limit pages page bytes → HasFirst limit pages page bytes
has_first {limit = limit} {pages = pages} {page = page} {bytes = bytes} some from = go from.links refl from.linked
  where
    low : (ls : List Link) → from.links ≡ ls → (p : ℕ) → 1 ≤ times p (pages_of_links ls) → (1 ≤ p) × (p < limit)
    low ls are p among = from.low p (let e = ap (λ (x : List Link). times p (pages_of_links x)) are in omega (arith, e, among))

    next_is : (l : Link) (ls : List Link) → from.links ≡ l ∷ ls → (next_of ls ≡ 0) ⊎ (next_of ls < limit)
    next_is l [] are = inl refl
    next_is l (m ∷ ms) are = inr (low (l ∷ m ∷ ms) are m.page (let a = times-cons m.page l.page (m.page ∷ pages_of_links ms) in let one = times_one m.page (pages_of_links ms) in omega (arith, a, one))).1

    some_rest : (l : Link) (ls : List Link) → (1 ≤ length ls → length l.content ≡ 8184) → next_of ls ≢ 0 → length l.content ≡ 8184
    some_rest l [] full apart = absurd (apart refl)
    some_rest l (m ∷ ms) full apart = full (omega arith)

    go : (ls : List Link) → from.links ≡ ls → AreLinked pages ls → HasFirst limit pages page bytes
    go [] are linked = absurd (some (sym from.first ∙ ap next_of are))
    go (l ∷ ls) are linked =
        let here : l.page ≡ page = sym (ap next_of are) ∙ from.first in
        record {
          next = next_of ls;
          content = l.content;
          low = let under = (low (l ∷ ls) are l.page (let one = times_one l.page (pages_of_links ls) in omega (arith, one))).1 in omega (arith, here, under);
          names = ap pages (sym here) ∙ (linked.0).there;
          next_low = next_is l ls are;
          some = (linked.0).some;
          few = (linked.0).few;
          full = some_rest l ls linked.1;
          rest = content_of ls;
          are = sym from.are ∙ ap content_of are;
          from = record {
            links = ls;
            linked = linked.2;
            low = λ p among. low (l ∷ ls) are p (let a = times-cons p l.page (pages_of_links ls) in omega (arith, a, among));
            first = refl;
            are = refl;
          };
        }

-- a chain page says one next page and one content
module _ {limit : ℕ} {pages : Pages} {page next : ℕ} {content : List ℕ} (few : limit ≤ 2 ^ 32) (some : page ≢ 0) (low : page < limit) (link : IsLinkAt pages page next content) where
  same : {bytes : List ℕ} (first : HasFirst limit pages page bytes) → (first.next ≡ next) × (first.content ≡ content)
  same first =
      let there : pages page ≡ Some (chain_bytes next content) = link.there ∙ ap (λ (b : List ℕ). Some b) (link.is).are in
      let a : Names pages page first.next first.content =
      record { there = first.names; low = elim first.next_low [ inl zero ↦ omega (arith, zero) | inr under ↦ omega (arith, under, few) ]; some = first.some; few = first.few } in
      let b : Names pages page next content = record { there = there; low = (link.is).low; some = (link.is).some; few = (link.is).few } in
      (one_next a b, one_content a b)

  -- where a list goes on, the page is full
  pub not_full : next ≢ 0 → (length content ≡ 8184 → ⊥) → (bytes : List ℕ) → IsListFrom limit pages page bytes → ⊥
  not_full more short bytes from =
      let first = has_first some from in
      let is = same first in
      short (sym (ap length is.1) ∙ first.full (λ zero. more (sym is.0 ∙ zero)))

  pub list_step : (next ≢ 0 → length content ≡ 8184) → IsListStep limit pages page next content
  list_step full = record {
    on = λ rest from. record {
      links = record { page = page; content = content } ∷ from.links;
      linked = (
        record { there = link.there ∙ ap (λ (b : List ℕ). Some b) (link.is).are ∙ ap (λ (n : ℕ). Some (chain_bytes n content)) (sym from.first); some = (link.is).some; few = (link.is).few },
        λ more. full (λ zero. lacks from.links from.linked more from.low (from.first ∙ zero)),
        from.linked,
      );
      low = λ p among. elim (first_or p page (pages_of_links from.links) among) [
        | inl here ↦ (omega (arith, here, some), omega (arith, here, low))
        | inr later ↦ from.low p later
      ];
      first = refl;
      are = ap (λ (r : List ℕ). content ++ r) from.are;
    };
    back = λ bytes from.
        let first = has_first some from in
        let is = same first in
        (first.rest, first.are ∙ ap (λ (c : List ℕ). c ++ first.rest) is.1, subst (λ (n : ℕ). IsListFrom limit pages n first.rest) is.0 first.from);
  }
    where
      lacks : (ls : List Link) → AreLinked pages ls → 1 ≤ length ls → ((p : ℕ) → 1 ≤ times p (pages_of_links ls) → (1 ≤ p) × (p < limit)) → next_of ls ≡ 0 → ⊥
      lacks [] linked more under zero = absurd (omega (arith, more))
      lacks (l ∷ ls) linked more under zero = let one = times_one l.page (pages_of_links ls) in let number = (under l.page (omega (arith, one))).0 in absurd (omega (arith, zero, number))

-- a page at which a list begins is a chain page
pub no_link : {limit : ℕ} {pages : Pages} {page : ℕ} → limit ≤ 2 ^ 32 → page ≢ 0 → (page < limit → (next : ℕ) (content : List ℕ) → IsLinkAt pages page next content → ⊥)
    → (bytes : List ℕ) → IsListFrom limit pages page bytes → ⊥
no_link few some lacks bytes from =
    let first = has_first some from in
    lacks first.low first.next first.content (record {
      bytes = chain_bytes first.next first.content;
      there = first.names;
      is = record { are = refl; low = elim first.next_low [ inl zero ↦ omega (arith, zero) | inr under ↦ omega (arith, under, few) ]; some = first.some; few = first.few };
    })

-- nothing was read
pub read_none : (limit : ℕ) (pages : Pages) (first : ℕ) → IsReadTo limit pages first [] first
read_none limit pages first = record { on = λ rest from. from; back = λ bytes from. (bytes, refl, from) }

pub read_more : {limit : ℕ} {pages : Pages} {first page next : ℕ} {so_far content : List ℕ} → IsReadTo limit pages first so_far page → IsListStep limit pages page next content
    → IsReadTo limit pages first (so_far ++ content) next
read_more {limit = limit} {pages = pages} {first = first} {so_far = so_far} {content = content} read step = record {
  on = λ rest from. subst (λ (b : List ℕ). IsListFrom limit pages first b) (sym (append_assoc so_far content rest)) (read.on (content ++ rest) (step.on rest from));
  back = λ bytes from.
      let one = read.back bytes from in
      let two = step.back one.0 one.2 in
      (two.0, one.1 ∙ ap (λ (b : List ℕ). so_far ++ b) two.1 ∙ sym (append_assoc so_far content two.0), two.2);
}

-- read to its end
pub read_whole : {limit : ℕ} {pages : Pages} {first : ℕ} {so_far : List ℕ} → IsReadTo limit pages first so_far 0 → IsListFrom limit pages first so_far
read_whole {limit = limit} {pages = pages} {first = first} {so_far = so_far} read =
    subst (λ (b : List ℕ). IsListFrom limit pages first b) (append-nil so_far) (read.on [] (none_from limit pages))

-- a list of another length
pub read_short : {limit : ℕ} {pages : Pages} {first len : ℕ} {so_far : List ℕ} → IsReadTo limit pages first so_far 0 → (length so_far ≡ len → ⊥) → (bytes : List ℕ) → IsListFrom limit pages first bytes
    → length bytes ≡ len → ⊥
read_short {so_far = so_far} read other bytes from long =
    let left = read.back bytes from in
    other (sym (ap length (left.1 ∙ ap (λ (b : List ℕ). so_far ++ b) (from_none left.2) ∙ append-nil so_far)) ∙ long)

-- a list that goes on past its length
pub read_long : {limit : ℕ} {pages : Pages} {first page len : ℕ} {so_far : List ℕ} → page ≢ 0 → IsReadTo limit pages first so_far page → len ≤ length so_far → (bytes : List ℕ)
    → IsListFrom limit pages first bytes → length bytes ≡ len → ⊥
read_long {so_far = so_far} some read past bytes from long =
    let left = read.back bytes from in
    let first = has_first some left.2 in
    let whole : length bytes ≡ length so_far + length left.0 = ap length left.1 ∙ length-append so_far left.0 in
    let rest : length left.0 ≡ length first.content + length first.rest = ap length first.are ∙ length-append first.content first.rest in
    let more = first.some in
    absurd (omega (arith, whole, rest, more, past, long))

-- a list stands on pages below the limit, on each once, so it has no more bytes than they may
pub list_fits : {limit : ℕ} {pages : Pages} {page : ℕ} {bytes : List ℕ} → limit ≤ 2 ^ 32 → IsListFrom limit pages page bytes → length bytes ≤ 8184 * limit
list_fits {limit = limit} {pages = pages} few from =
    let ps = pages_of_links from.links in
    let numbers : AreNumbers ps = λ p among. let low = from.low p among in record { some = low.0; low = omega (arith, low, few) } in
    let count = few_below limit ps (links_once pages from.links from.linked numbers) (λ p among. (from.low p among).1) in
    let long = links_long pages from.links from.linked in
    let are = ap length from.are in
    omega (arith, count, long, are)

-- the list at a first page, by its chain
pub list_links : (pages : Pages) (cs : List Chain) (page : ℕ) (bytes : List ℕ) → AllByRecursion (λ c. AreLinked pages (links_of c)) cs → list_at cs page ≡ Some bytes
    → (ls : List Link) × AreLinked pages ls × (next_of ls ≡ page) × (content_of ls ≡ bytes) × ((p : ℕ) → times p (pages_of_links ls) ≤ times p (pages_of_chains cs))
list_links pages [] page bytes are there = absurd (none_some there)
  where
    none_some : {x : List ℕ} → ◌≡◌ {A = Option (List ℕ)} None (Some x) → ⊥
    none_some same = cc
list_links pages (c ∷ cs) page bytes are there = elim (cases_Bool (page == (c.first).page)) [
  | inl holds ↦ (
    links_of c,
    are.0,
    sym (eqb-true page (c.first).page holds),
    some_is (sym (ap (λ (b : Bool). if b then Some (content_of (links_of c)) else list_at cs page) holds) ∙ there),
    λ p. let both = times-append p (pages_of_links (links_of c)) (pages_of_chains cs) in omega (arith, both),
  )
  | inr fails ↦
      let rest = list_links pages cs page bytes are.1 (sym (ap (λ (b : Bool). if b then Some (content_of (links_of c)) else list_at cs page) fails) ∙ there) in
      (rest.0, rest.1, rest.2, rest.3, λ p. let both = times-append p (pages_of_links (links_of c)) (pages_of_chains cs) in let few = rest.4 p in omega (arith, both, few))
]
  where
    some_is : {x y : List ℕ} → ◌≡◌ {A = Option (List ℕ)} (Some x) (Some y) → x ≡ y
    some_is same = cc

module _ {pages : Pages} {head : Header} {held : Held} (by : HoldsBy pages head held) where
  abbrev cs : List Chain
  cs = (by.behind.shares).chains

  -- a list that is held is one of the pages
  pub held_from : (page : ℕ) (bytes : List ℕ) → list_at cs page ≡ Some bytes → IsListFrom head.pages pages page bytes
  held_from page bytes there =
      let list = list_links pages cs page bytes by.behind.shared.chains there in
      record {
        links = list.0;
        linked = list.1;
        low = λ p among.
            let few = list.4 p in
            let chained : 1 ≤ times p (pages_of_chains cs) = omega (arith, among, few) in
            ((chain_numbers by p chained).some, by.behind.shared.below p (let e = named_parts p by.behind.shares [] in omega (arith, e, chained)));
        first = list.2;
        are = list.3;
      }

  begins : {page : ℕ} {bytes : List ℕ} → IsListFrom head.pages pages page bytes → Begins pages page bytes
  begins from = record {
    links = from.links;
    first = from.first;
    linked = from.linked;
    numbers = λ p among.
        let low = from.low p among in
        let limit : head.settings.limit ≤ 16777216 = by.range.settings.limit.1 in
        let under : head.pages ≤ head.settings.limit = by.range.pages.1 in
        record { some = low.0; low = omega (arith, low, limit, under) };
    bytes_are = sym from.are;
  }

  -- one list begins at a page
  pub one_list_from : {page : ℕ} {one other : List ℕ} → IsListFrom head.pages pages page one → IsListFrom head.pages pages page other → one ≡ other
  one_list_from a b = one_begins (begins a) (begins b)

  pub catalog_from : IsListFrom head.pages pages head.catalog held.catalog.bytes
  catalog_from = held_from head.catalog held.catalog.bytes by.behind.catalog

  pub lists_from : (page : ℕ) (bytes : List ℕ) → held.lists page ≡ Some bytes → IsListFrom head.pages pages page bytes × (page ≡ head.catalog → ⊥)
  lists_from page bytes there = elim (cases_Bool (page == head.catalog)) [
    | inl holds ↦ absurd (none_some (sym (by.behind.lists page ∙ ap (λ (b : Bool). if b then None else list_at cs page) holds) ∙ there))
    | inr fails ↦ (
      held_from page bytes (sym (by.behind.lists page ∙ ap (λ (b : Bool). if b then None else list_at cs page) fails) ∙ there),
      λ same. false≢true (sym fails ∙ eq-eqb page head.catalog same),
    )
  ]
    where
      none_some : {x : List ℕ} → ◌≡◌ {A = Option (List ℕ)} None (Some x) → ⊥
      none_some same = cc

  -- a list of pages is held, or begins behind the first page of a chain
  pub from_held : (page : ℕ) (bytes : List ℕ) → page ≢ 0 → (page ≡ head.catalog → ⊥) → IsListFrom head.pages pages page bytes → (held.lists page ≡ Some bytes) ⊎ IsNamed pages page
  from_held page bytes some other from =
      let first = has_first some from in
      let chained = chain_is_chained by page first.next first.content first.names in
      elim (first_or_named pages cs page by.behind.shared.chains (chain_numbers by) chained) [
        | inl begin ↦
            let list = list_of_first pages cs page by.behind.shared.chains (chain_numbers by) begin in
            let fails : (page == head.catalog) ≡ false = elim (cases_Bool (page == head.catalog)) [ inl holds ↦ absurd (other (eqb-true page head.catalog holds)) | inr no_one ↦ no_one ] in
            inl (by.behind.lists page ∙ ap (λ (b : Bool). if b then None else list_at cs page) fails ∙ list.1 ∙ ap (λ (b : List ℕ). Some b) (one_begins list.2.0 (begins from)))
        | inr named_one ↦ inr (some, (named_one.0, (named_one.1, (named_one.2).there)))
      ]

-- a list that begins somewhere has a byte
pub list_some : (pages : Pages) (cs : List Chain) (page : ℕ) (bytes : List ℕ) → AllByRecursion (λ c. AreLinked pages (links_of c)) cs → list_at cs page ≡ Some bytes → 1 ≤ length bytes
list_some pages [] page bytes are there = absurd (none_some there)
  where
    none_some : {x : List ℕ} → ◌≡◌ {A = Option (List ℕ)} None (Some x) → ⊥
    none_some same = cc
list_some pages (c ∷ cs) page bytes are there = elim (cases_Bool (page == (c.first).page)) [
  | inl holds ↦
      let is : content_of (links_of c) ≡ bytes = some_is (sym (ap (λ (b : Bool). if b then Some (content_of (links_of c)) else list_at cs page) holds) ∙ there) in
      let long = length-append (c.first).content (content_of c.rest) in
      let some = ((are.0).0).some in
      let count = ap length is in
      omega (arith, long, some, count)
  | inr fails ↦ list_some pages cs page bytes are.1 (sym (ap (λ (b : Bool). if b then Some (content_of (links_of c)) else list_at cs page) fails) ∙ there)
]
  where
    some_is : {x y : List ℕ} → ◌≡◌ {A = Option (List ℕ)} (Some x) (Some y) → x ≡ y
    some_is same = cc

pub held_some : {pages : Pages} {head : Header} {held : Held} → HoldsBy pages head held → (page : ℕ) (bytes : List ℕ) → held.lists page ≡ Some bytes → 1 ≤ length bytes
held_some {pages = pages} {head = head} by page bytes there = elim (cases_Bool (page == head.catalog)) [
  | inl holds ↦ absurd (none_some (sym (by.behind.lists page ∙ ap (λ (b : Bool). if b then None else list_at (by.behind.shares).chains page) holds) ∙ there))
  | inr fails ↦ list_some pages (by.behind.shares).chains page bytes by.behind.shared.chains (sym (by.behind.lists page ∙ ap (λ (b : Bool). if b then None else list_at (by.behind.shares).chains page) fails) ∙ there)
]
  where
    none_some : {x : List ℕ} → ◌≡◌ {A = Option (List ℕ)} None (Some x) → ⊥
    none_some same = cc
