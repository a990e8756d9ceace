-- What pages hold beside a chain, where a page is put in front of it or its first page is given back.
use Rattle.std.proofs.Common.{◌≡◌, ℕ, ◌+◌, ◌-◌, ◌<◌, ◌≤◌, List, [], ◌∷◌, ◌++◌, length, refl, sym, ap, subst, ◌∙◌, arith, inl, inr, length-append}
use Rattle.std.specs.Prelude.{◌≢◌, ◌^◌, Option, Some, None}
use Rattle.nx_replay.specs.Log.{Pages}
use Rattle.nx_chain.specs.Chain.{chain_bytes}
use Rattle.nx_holdings.specs.declared.header.Header.{Header}
use Rattle.nx_holdings.specs.Holdings.{with_page, free_bytes, times, Link, IsLink, AreLinked, Chain, next_of, content_of, pages_of_links, pages_of_chains, Shares, named, IsShared, record_in, chain_count}
use Rattle.nx_holdings.proofs.TimesLemmas.{times_one, times-cons, times-append, with_page-here, with_page-other, links_same, link_there}
use Rattle.nx_holdings.proofs.SharedLemmas.{equal_or, named_parts, write_aside, named_else, grow, free_loose, take_first}
use Rattle.nx_holdings.proofs.HeldLemmas.{free_kind, chain_kind, other_record}
use Rattle.nx_holdings.proofs.DenseLemmas.{among_here, AreChains}
use Rattle.nx_holdings.proofs.ChainLemmas.{firsts_and_rests, no_list, no_pages}
use Rattle.nx_links.specs.Lists.{IsListFrom}
use Rattle.nx_links.specs.Beside.{chains_with, HeldBeside, HoldsBeside}

-- the pages of a chain and of others
pub with_times : (p : ℕ) (ls : List Link) (cs : List Chain) → times p (pages_of_chains (chains_with ls cs)) ≡ times p (pages_of_links ls) + times p (pages_of_chains cs)
with_times p [] cs = omega arith
with_times p (l ∷ ls) cs = times-append p (l.page ∷ pages_of_links ls) (pages_of_chains cs)

pub with_linked : (pages : Pages) (ls : List Link) (cs : List Chain) → AreLinked pages ls → AreChains pages cs → AreChains pages (chains_with ls cs)
with_linked pages [] cs linked chains = chains
with_linked pages (l ∷ ls) cs linked chains = (linked, chains)

pub linked_with : (pages : Pages) (ls : List Link) (cs : List Chain) → AreChains pages (chains_with ls cs) → AreLinked pages ls × AreChains pages cs
linked_with pages [] cs chains = (tt, chains)
linked_with pages (l ∷ ls) cs chains = (chains.0, chains.1)

-- a chain has as many pages as its bytes take
pub links_count : (pages : Pages) (ls : List Link) → AreLinked pages ls → length ls ≡ chain_count (length (content_of ls))
links_count pages [] linked = refl
links_count pages (l ∷ []) linked =
    let some = (linked.0).some in
    let few = (linked.0).few in
    let long = length-append l.content [] in
    omega (arith, some, few, long)
links_count pages (l ∷ m ∷ ms) linked =
    let full : length l.content ≡ 8184 = linked.1 (omega arith) in
    let rest = links_count pages (m ∷ ms) linked.2 in
    let long = length-append l.content (content_of (m ∷ ms)) in
    omega (arith, full, rest, long)

first_among : {page : ℕ} (ls : List Link) → next_of ls ≡ page → page ≢ 0 → 1 ≤ times page (pages_of_links ls)
first_among [] same some = absurd (some (sym same))
first_among {page = page} (l ∷ ls) same some = among_here page l.page (pages_of_links ls) (sym same)

-- A page was taken from those that were free, and is in no use. So many are left.
pub record IsLoosed (pages : Pages) (links : List Link) (others : List Chain) (h : Header) (page left : ℕ) : Type 0 where
  pub free : List ℕ
  pub shared : IsShared pages h (record { free = free; chains = chains_with links others }) (page ∷ [])
  pub none : (slot : ℕ) → record_in (pages page) slot ≡ None
  pub count : left ≡ length free + (h.settings.limit - h.pages)

module _ {pages : Pages} {h : Header} {links : List Link} {held : HeldBeside} (holds : HoldsBeside pages h links held) where
  abbrev shares : Shares
  shares = record { free = holds.free; chains = chains_with links holds.others }

  -- how often a page is named
  parts : (p : ℕ) → times p (named shares []) ≡ times p (0 ∷ []) + (times p holds.free + (times p (pages_of_links links) + times p (pages_of_chains holds.others)))
  parts p = shift (times p (0 ∷ [])) (times p holds.free) (named_parts p shares []) (with_times p links holds.others)
    where
      shift : (z f : ℕ) {a x y : ℕ} → a ≡ z + (f + (x + 0)) → x ≡ y → a ≡ z + (f + y)
      shift z f e w = omega arith

  linked : AreLinked pages links × AreChains pages holds.others
  linked = linked_with pages links holds.others (holds.shared).chains

  pub chain_low : (p : ℕ) → 1 ≤ times p (pages_of_links links) → (1 ≤ p) × (p < h.pages)
  chain_low p among =
      let e = parts p in
      let once = (holds.shared).once p in (
        elim (equal_or p 0) [
          | inl zero ↦ let one : times p (0 ∷ []) ≡ 1 = ap (λ (q : ℕ). times p (q ∷ [])) (sym zero) ∙ times_one p [] in absurd (omega (arith, e, once, one, among))
          | inr apart ↦ omega (arith, apart)
        ],
        (holds.shared).below p (omega (arith, e, among)),
      )

  pub chain_linked : AreLinked pages links
  chain_linked = linked.0

  -- no page of the chain comes twice
  pub chain_once : (p : ℕ) → times p (pages_of_links links) ≤ 1
  chain_once p = let e = parts p in let once = (holds.shared).once p in omega (arith, e, once)

  -- the chain is a list of its bytes
  pub chain_from : IsListFrom h.pages pages (next_of links) (content_of links)
  chain_from = record { links = links; linked = linked.0; low = chain_low; first = refl; are = refl }

  pub chain_count_of : length links ≡ chain_count (length (content_of links))
  chain_count_of = links_count pages links linked.0

  -- no other chain begins at one of its pages
  pub unlisted : (p : ℕ) → 1 ≤ times p (pages_of_links links) → held.lists p ≡ None
  unlisted p among =
      holds.lists p ∙ no_list holds.others p (let e = parts p in let once = (holds.shared).once p in let both = firsts_and_rests p holds.others in omega (arith, e, once, both, among))

  pub unplaced : (p : ℕ) → 1 ≤ times p (pages_of_links links) → held.places p ≡ []
  unplaced p among =
      holds.places p ∙ no_pages holds.others p (let e = parts p in let once = (holds.shared).once p in let both = firsts_and_rests p holds.others in omega (arith, e, once, both, among))

  -- the room page is none of its pages
  pub room_apart : {page : ℕ} → next_of links ≡ page → page ≢ 0 → h.room ≡ page → ⊥
  room_apart {page = page} same some room =
      let among = first_among links same some in
      let e = parts page in
      let none : times page (named shares []) ≡ 0 = ap (λ (q : ℕ). times q (named shares [])) (sym room) ∙ ((holds.shared).room (λ zero. some (sym room ∙ zero))).1 in
      omega (arith, e, none, among)

  -- the first page of the free list is taken, or the first that was never used
  pub loose_first : (next : ℕ) → h.free ≢ 0 → h.pages ≤ 2 ^ 32 → pages h.free ≡ Some (free_bytes next) → next < 2 ^ 32
      → (left : ℕ) × (held.free ≡ left + 1) × IsLoosed pages links holds.others (record h { free = next }) h.free left
  loose_first next some few there low =
      let taken = take_first next (record h { free = next }) holds.shared some few there low refl refl refl in
      let count : length holds.free ≡ 1 + length taken.rest = ap length taken.split ∙ omega arith in
      let e = holds.count in (
        length taken.rest + (h.settings.limit - h.pages),
        omega (arith, e, count),
        record {
          free = taken.rest;
          shared = taken.shared;
          none = λ slot. other_record pages h.free slot (record { bytes = free_bytes next; there = there; kind = free_kind next });
          count = refl;
        },
      )

  pub loose_unused : h.pages < h.settings.limit → (left : ℕ) × (held.free ≡ left + 1) × IsLoosed pages links holds.others (record h { pages = h.pages + 1 }) h.pages left
  loose_unused low =
      let gone : pages h.pages ≡ None = (holds.shared).none_past h.pages (omega arith) in
      let e = holds.count in (
        length holds.free + (h.settings.limit - (h.pages + 1)),
        omega (arith, e, low),
        record {
          free = holds.free;
          shared = grow holds.shared (record h { pages = h.pages + 1 }) refl refl refl;
          none = λ slot. ap (λ (o : Option (List ℕ)). record_in o slot) gone;
          count = refl;
        },
      )

  -- the page that was taken comes in front of the chain
  pub put_link : {h1 : Header} {page left : ℕ} → IsLoosed pages links holds.others h1 page left → (content : List ℕ) → 1 ≤ length content → length content ≤ 8184 → (1 ≤ length links → length content ≡ 8184)
      → HoldsBeside (with_page pages page (chain_bytes (next_of links) content)) h1 (record { page = page; content = content } ∷ links) (record held { free = left })
  put_link {h1 = h1} {page = page} {left = left} loosed content some few full = record {
    free = loosed.free;
    others = holds.others;
    header = (holds.header.0, with_page-other pages page bytes 0 zero_apart ∙ holds.header.1);
    shared = named_else written h1 (record { free = loosed.free; chains = chains_with (link ∷ links) holds.others }) [] refl refl written.free
        (with_linked (with_page pages page bytes) (link ∷ links) holds.others (record { there = with_page-here pages page bytes; some = some; few = few }, full, after.0) after.1) moved;
    records = λ p slot. elim (equal_or p page) [
      | inl same ↦
          holds.records p slot ∙ ap (λ (q : ℕ). record_in (pages q) slot) same ∙ loosed.none slot
          ∙ sym (other_record (with_page pages page bytes) page slot (record { bytes = bytes; there = with_page-here pages page bytes; kind = chain_kind (next_of links) content }))
          ∙ ap (λ (q : ℕ). record_in (with_page pages page bytes q) slot) (sym same)
      | inr apart ↦ holds.records p slot ∙ ap (λ (o : Option (List ℕ)). record_in o slot) (sym (with_page-other pages page bytes p apart))
    ];
    lists = holds.lists;
    places = holds.places;
    count = loosed.count;
  }
    where
      bytes : List ℕ
      bytes = chain_bytes (next_of links) content

      link : Link
      link = record { page = page; content = content }

      before : Shares
      before = record { free = loosed.free; chains = chains_with links holds.others }

      written : IsShared (with_page pages page bytes) h1 before (page ∷ [])
      written = write_aside loosed.shared page bytes (inl (let one = times_one page [] in omega (arith, one)))

      after : AreLinked (with_page pages page bytes) links × AreChains (with_page pages page bytes) holds.others
      after = linked_with (with_page pages page bytes) links holds.others written.chains

      zero_apart : 0 ≡ page → ⊥
      zero_apart zero =
          let e = named_parts page before (page ∷ []) in
          let once = (loosed.shared).once page in
          let one = times_one page [] in
          let first : times page (0 ∷ []) ≡ 1 = ap (λ (r : ℕ). times page (r ∷ [])) zero ∙ one in
          absurd (omega (arith, e, once, one, first))

      shift : (z f l o q : ℕ) {a b x y v : ℕ} → a ≡ z + (f + (x + 0)) → x ≡ v + o → v ≡ q + l → b ≡ z + (f + (y + q)) → y ≡ l + o → a ≡ b
      shift z f l o q one two three four five = omega arith

      moved : (p : ℕ) → times p (named (record { free = loosed.free; chains = chains_with (link ∷ links) holds.others }) []) ≡ times p (named before (page ∷ []))
      moved p =
          shift (times p (0 ∷ [])) (times p loosed.free) (times p (pages_of_links links)) (times p (pages_of_chains holds.others)) (times p (page ∷ []))
          (named_parts p (record { free = loosed.free; chains = chains_with (link ∷ links) holds.others }) []) (with_times p (link ∷ links) holds.others) (times-cons p page (pages_of_links links))
          (named_parts p before (page ∷ [])) (with_times p links holds.others)

-- the first page of a chain, or 0
pub first_low : {pages : Pages} {h : Header} {held : HeldBeside} (links : List Link) → HoldsBeside pages h links held → h.pages ≤ 2 ^ 32 → next_of links < 2 ^ 32
first_low [] holds few = omega arith
first_low (l ∷ ls) holds few = let low = (chain_low holds l.page (among_here l.page l.page (pages_of_links ls) refl)).1 in omega (arith, low, few)

-- a chain without a first page has none
pub no_first : {pages : Pages} {h : Header} {held : HeldBeside} (links : List Link) → HoldsBeside pages h links held → next_of links ≡ 0 → links ≡ []
no_first [] holds none = refl
no_first (l ∷ ls) holds none = let some = (chain_low holds l.page (among_here l.page l.page (pages_of_links ls) refl)).0 in absurd (omega (arith, none, some))

-- The first page of a chain was given back.
pub record IsGiven (pages : Pages) (h : Header) (links : List Link) (held : HeldBeside) (page : ℕ) : Type 0 where
  pub link : Link
  pub rest : List Link
  pub are : links ≡ link ∷ rest
  pub here : link.page ≡ page
  pub there : IsLink pages link (next_of rest)
  pub holds : HoldsBeside (with_page pages page (free_bytes h.free)) (record h { free = page }) rest (record held { free = held.free + 1 })

give_first : {pages : Pages} {h : Header} {held : HeldBeside} (l : Link) (ls : List Link) → HoldsBeside pages h (l ∷ ls) held → IsGiven pages h (l ∷ ls) held l.page
give_first {pages = pages} {h = h} {held = held} l ls holds = record {
  link = l;
  rest = ls;
  are = refl;
  here = refl;
  there = chains.0.0;
  holds = record {
    free = l.page ∷ holds.free;
    others = holds.others;
    header = (holds.header.0, with_page-other pages l.page bytes 0 zero_apart ∙ holds.header.1);
    shared = free_loose l.page (record h { free = l.page }) written (with_page-here pages l.page bytes) refl refl refl;
    records = λ p slot. elim (equal_or p l.page) [
      | inl same ↦
          holds.records p slot ∙ ap (λ (q : ℕ). record_in (pages q) slot) same
          ∙ other_record pages l.page slot (record { bytes = chain_bytes (next_of ls) l.content; there = (chains.0.0).there; kind = chain_kind (next_of ls) l.content })
          ∙ sym (other_record (with_page pages l.page bytes) l.page slot (record { bytes = bytes; there = with_page-here pages l.page bytes; kind = free_kind h.free }))
          ∙ ap (λ (q : ℕ). record_in (with_page pages l.page bytes q) slot) (sym same)
      | inr apart ↦ holds.records p slot ∙ ap (λ (o : Option (List ℕ)). record_in o slot) (sym (with_page-other pages l.page bytes p apart))
    ];
    lists = holds.lists;
    places = holds.places;
    count = let e = holds.count in omega (arith, e);
  };
}
  where
    bytes : List ℕ
    bytes = free_bytes h.free

    chains : AreLinked pages (l ∷ ls) × AreChains pages holds.others
    chains = linked_with pages (l ∷ ls) holds.others (holds.shared).chains

    after : Shares
    after = record { free = holds.free; chains = chains_with ls holds.others }

    shift : (z f l o q : ℕ) {a b x y v : ℕ} → a ≡ z + (f + (x + 0)) → x ≡ v + o → v ≡ q + l → b ≡ z + (f + (y + q)) → y ≡ l + o → b ≡ a
    shift z f l o q one two three four five = omega arith

    moved : (p : ℕ) → times p (named after (l.page ∷ [])) ≡ times p (named (record { free = holds.free; chains = chains_with (l ∷ ls) holds.others }) [])
    moved p =
        shift (times p (0 ∷ [])) (times p holds.free) (times p (pages_of_links ls)) (times p (pages_of_chains holds.others)) (times p (l.page ∷ []))
        (named_parts p (record { free = holds.free; chains = chains_with (l ∷ ls) holds.others }) []) (with_times p (l ∷ ls) holds.others) (times-cons p l.page (pages_of_links ls))
        (named_parts p after (l.page ∷ [])) (with_times p ls holds.others)

    loose : IsShared pages h after (l.page ∷ [])
    loose = named_else holds.shared h after (l.page ∷ []) refl refl (holds.shared).free (with_linked pages ls holds.others chains.0.2 chains.1) moved

    written : IsShared (with_page pages l.page bytes) h after (l.page ∷ [])
    written = write_aside loose l.page bytes (inl (let one = times_one l.page [] in omega (arith, one)))

    zero_apart : 0 ≡ l.page → ⊥
    zero_apart zero = let some = (chain_low holds l.page (among_here l.page l.page (pages_of_links ls) refl)).0 in omega (arith, zero, some)

pub give_link : {pages : Pages} {h : Header} {held : HeldBeside} {page : ℕ} (links : List Link) → HoldsBeside pages h links held → next_of links ≡ page → page ≢ 0 → IsGiven pages h links held page
give_link [] holds same some = absurd (some (sym same))
give_link {pages = pages} {h = h} {held = held} (l ∷ ls) holds same some = subst (λ (p : ℕ). IsGiven pages h (l ∷ ls) held p) same (give_first l ls holds)

-- chains in two parts
pub pages_join : (done rest : List Link) → pages_of_links (done ++ rest) ≡ pages_of_links done ++ pages_of_links rest
pages_join [] rest = refl
pages_join (d ∷ ds) rest = ap (λ (ps : List ℕ). d.page ∷ ps) (pages_join ds rest)

pub join_times : (p : ℕ) (done rest : List Link) → times p (pages_of_links (done ++ rest)) ≡ times p (pages_of_links done) + times p (pages_of_links rest)
join_times p done rest = ap (λ (ps : List ℕ). times p ps) (pages_join done rest) ∙ times-append p (pages_of_links done) (pages_of_links rest)

pub linked_behind : (pages : Pages) (done rest : List Link) → AreLinked pages (done ++ rest) → AreLinked pages rest
linked_behind pages [] rest linked = linked
linked_behind pages (d ∷ ds) rest linked = linked_behind pages ds rest linked.2

next_join : (done : List Link) (l m : Link) (rest : List Link) → l.page ≡ m.page → next_of (done ++ (l ∷ rest)) ≡ next_of (done ++ (m ∷ rest))
next_join [] l m rest same = same
next_join (d ∷ ds) l m rest same = refl

-- one page of a chain has other content
linked_set : (pages : Pages) (done : List Link) (l : Link) (rest : List Link) (content : List ℕ) → AreLinked pages (done ++ (l ∷ rest)) → ((p : ℕ) → times p (pages_of_links (done ++ (l ∷ rest))) ≤ 1)
    → 1 ≤ length content → length content ≤ 8184 → (1 ≤ length rest → length content ≡ 8184)
    → AreLinked (with_page pages l.page (chain_bytes (next_of rest) content)) (done ++ (record { page = l.page; content = content } ∷ rest))
linked_set pages [] l rest content linked once some few full = (
  record { there = with_page-here pages l.page (chain_bytes (next_of rest) content); some = some; few = few },
  full,
  links_same pages (with_page pages l.page (chain_bytes (next_of rest) content)) rest
      (λ p among. with_page-other pages l.page (chain_bytes (next_of rest) content) p (λ same.
      let here = times_one l.page (pages_of_links rest) in
      let twice = once l.page in
      let there = ap (λ (q : ℕ). times q (pages_of_links rest)) same in
      absurd (omega (arith, here, twice, there, among))))
      linked.2,
)
linked_set pages (d ∷ ds) l rest content linked once some few full = (
  record {
    there = with_page-other pages l.page (chain_bytes (next_of rest) content) d.page apart ∙ (linked.0).there
        ∙ ap (λ (n : ℕ). Some (chain_bytes n d.content)) (next_join ds l (record { page = l.page; content = content }) rest refl);
    some = (linked.0).some;
    few = (linked.0).few;
  },
  λ more. linked.1 (let a = length-append ds (l ∷ rest) in let b = length-append ds (record { page = l.page; content = content } ∷ rest) in omega (arith, a, b, more)),
  linked_set pages ds l rest content linked.2 (λ p. let c = times-cons p d.page (pages_of_links (ds ++ (l ∷ rest))) in let o = once p in omega (arith, c, o)) some few full,
)
  where
    apart : d.page ≡ l.page → ⊥
    apart same =
        let one = times_one d.page (pages_of_links (ds ++ (l ∷ rest))) in
        let both = join_times d.page ds (l ∷ rest) in
        let here : times d.page (l.page ∷ pages_of_links rest) ≡ 1 + times l.page (pages_of_links rest) =
        ap (λ (q : ℕ). times q (l.page ∷ pages_of_links rest)) same ∙ times_one l.page (pages_of_links rest) in
        let o = once d.page in
        absurd (omega (arith, one, both, here, o))

-- Other content on one page of a chain leaves all that is held beside it.
pub set_link : {pages : Pages} {h : Header} {held : HeldBeside} (done : List Link) (l : Link) (rest : List Link) (content : List ℕ) → HoldsBeside pages h (done ++ (l ∷ rest)) held → 1 ≤ length content → length content ≤ 8184
    → (1 ≤ length rest → length content ≡ 8184) → HoldsBeside (with_page pages l.page (chain_bytes (next_of rest) content)) h (done ++ (record { page = l.page; content = content } ∷ rest)) held
set_link {pages = pages} {h = h} {held = held} done l rest content holds some few full = record {
  free = holds.free;
  others = holds.others;
  header = (holds.header.0, with_page-other pages l.page bytes 0 zero_apart ∙ holds.header.1);
  shared = named_else written h (record { free = holds.free; chains = chains_with set holds.others }) [] refl refl written.free
      (with_linked (with_page pages l.page bytes) set holds.others (linked_set pages done l rest content chains.0 (chain_once holds) some few full) written.chains)
      (λ p. back (times p (0 ∷ [])) (times p holds.free) (times p (pages_of_links links)) (times p (pages_of_chains holds.others)) (named_parts p (record { free = holds.free; chains = chains_with set holds.others }) [])
      (with_times p set holds.others) (same p) (named_parts p alone (pages_of_links links)));
  records = λ p slot. elim (equal_or p l.page) [
    | inl same ↦
        let there = link_there pages links l.page chains.0 among in
        holds.records p slot ∙ ap (λ (q : ℕ). record_in (pages q) slot) same
        ∙ other_record pages l.page slot (record { bytes = chain_bytes there.0 there.1.0; there = there.1.1; kind = chain_kind there.0 there.1.0 })
        ∙ sym (other_record (with_page pages l.page bytes) l.page slot (record { bytes = bytes; there = with_page-here pages l.page bytes; kind = chain_kind (next_of rest) content }))
        ∙ ap (λ (q : ℕ). record_in (with_page pages l.page bytes q) slot) (sym same)
    | inr apart ↦ holds.records p slot ∙ ap (λ (o : Option (List ℕ)). record_in o slot) (sym (with_page-other pages l.page bytes p apart))
  ];
  lists = holds.lists;
  places = holds.places;
  count = holds.count;
}
  where
    bytes : List ℕ
    bytes = chain_bytes (next_of rest) content

    links : List Link
    links = done ++ (l ∷ rest)

    set : List Link
    set = done ++ (record { page = l.page; content = content } ∷ rest)

    chains : AreLinked pages links × AreChains pages holds.others
    chains = linked_with pages links holds.others (holds.shared).chains

    alone : Shares
    alone = record { free = holds.free; chains = holds.others }

    same : (p : ℕ) → times p (pages_of_links set) ≡ times p (pages_of_links links)
    same p = join_times p done (record { page = l.page; content = content } ∷ rest) ∙ sym (join_times p done (l ∷ rest))

    among : 1 ≤ times l.page (pages_of_links links)
    among = let both = join_times l.page done (l ∷ rest) in let one = times_one l.page (pages_of_links rest) in omega (arith, both, one)

    forth : (z f n o : ℕ) {a b x : ℕ} → a ≡ z + (f + (o + n)) → b ≡ z + (f + (x + 0)) → x ≡ n + o → a ≡ b
    forth z f n o one two three = omega arith

    back : (z f n o : ℕ) {a b x y : ℕ} → a ≡ z + (f + (x + 0)) → x ≡ y + o → y ≡ n → b ≡ z + (f + (o + n)) → a ≡ b
    back z f n o one two three four = omega arith

    loose : IsShared pages h alone (pages_of_links links)
    loose = named_else holds.shared h alone (pages_of_links links) refl refl (holds.shared).free chains.1 (λ p.
        forth (times p (0 ∷ [])) (times p holds.free) (times p (pages_of_links links)) (times p (pages_of_chains holds.others)) (named_parts p alone (pages_of_links links))
        (named_parts p (record { free = holds.free; chains = chains_with links holds.others }) []) (with_times p links holds.others))

    written : IsShared (with_page pages l.page bytes) h alone (pages_of_links links)
    written = write_aside loose l.page bytes (inl among)

    zero_apart : 0 ≡ l.page → ⊥
    zero_apart zero = let some = (chain_low holds l.page among).0 in omega (arith, zero, some)

-- a chain whose rest begins at no page has none
pub no_rest : {pages : Pages} {h : Header} {held : HeldBeside} (done rest : List Link) → HoldsBeside pages h (done ++ rest) held → next_of rest ≡ 0 → rest ≡ []
no_rest done [] holds none = refl
no_rest done (l ∷ ls) holds none =
    let both = join_times l.page done (l ∷ ls) in
    let one = times_one l.page (pages_of_links ls) in
    let some = (chain_low holds l.page (omega (arith, both, one))).0 in
    absurd (omega (arith, none, some))
