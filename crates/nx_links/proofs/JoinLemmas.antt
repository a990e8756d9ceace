-- How a chain is set aside from what pages hold, and joined to it.
use Rattle.std.proofs.Common.{◌≡◌, ℕ, ◌+◌, ◌≤◌, List, [], ◌∷◌, length, refl, sym, ap, subst, ◌∙◌, arith, Bool, true, false, inl, inr}
use Rattle.std.specs.Prelude.{◌==◌, ◌≢◌, if◌then◌else◌, Option, Some, None}
use Rattle.std.proofs.lemmas.Bool.{cases_Bool, eqb-true, eq-eqb}
use Rattle.nx_replay.specs.Log.{Pages}
use Rattle.nx_holdings.specs.declared.header.Header.{Header}
use Rattle.nx_holdings.specs.declared.header.Settings.{Settings}
use Rattle.nx_holdings.specs.Holdings.{times, Link, Chain, links_of, next_of, content_of, pages_of_links, pages_of_chains, list_at, pages_at, IsFreeList, Held, HoldsBehind}
use Rattle.nx_holdings.proofs.TimesLemmas.{times-append, other_page}
use Rattle.nx_holdings.proofs.SharedLemmas.{equal_or, named_parts, named_else}
use Rattle.nx_holdings.proofs.DenseLemmas.{among_here, AreChains}
use Rattle.nx_holdings.proofs.ChainLemmas.{list_later, pages_later}
use Rattle.nx_links.specs.Beside.{chains_with, HeldBeside, HoldsBeside, KeepsCatalog}
use Rattle.nx_links.proofs.BesideLemmas.{with_times, unlisted, unplaced}

none_some : {x : List ℕ} → ◌≡◌ {A = Option (List ℕ)} None (Some x) → ⊥
none_some same = cc

some_is : {x y : List ℕ} → ◌≡◌ {A = Option (List ℕ)} (Some x) (Some y) → x ≡ y
some_is same = cc

-- One of the chains, and the others.
pub record IsApart (pages : Pages) (cs : List Chain) (first : ℕ) (bytes : List ℕ) : Type 0 where
  pub link : Link
  pub rest : List Link
  pub others : List Chain
  pub here : link.page ≡ first
  pub are : content_of (link ∷ rest) ≡ bytes
  pub chains : AreChains pages (chains_with (link ∷ rest) others)
  pub same : (p : ℕ) → times p (pages_of_chains (chains_with (link ∷ rest) others)) ≡ times p (pages_of_chains cs)
  pub lists : (p : ℕ) → (p ≡ first → ⊥) → list_at others p ≡ list_at cs p
  pub places : (p : ℕ) → (p ≡ first → ⊥) → pages_at others p ≡ pages_at cs p
  pub on : pages_of_links (link ∷ rest) ≡ pages_at cs first

pub set_apart : (pages : Pages) (cs : List Chain) (first : ℕ) (bytes : List ℕ) → AreChains pages cs → list_at cs first ≡ Some bytes → IsApart pages cs first bytes
set_apart pages [] first bytes are there = absurd (none_some there)
set_apart pages (c ∷ cs) first bytes are there = elim (cases_Bool (first == (c.first).page)) [
  | inl holds ↦
      let here : first ≡ (c.first).page = eqb-true first (c.first).page holds in
      record {
        link = c.first;
        rest = c.rest;
        others = cs;
        here = sym here;
        are = some_is (sym (ap (λ (b : Bool). if b then Some (content_of (links_of c)) else list_at cs first) holds) ∙ there);
        chains = are;
        same = λ p. refl;
        lists = λ p apart. sym (list_later c cs p (other_page p (c.first).page (λ same. apart (same ∙ sym here))));
        places = λ p apart. sym (pages_later c cs p (other_page p (c.first).page (λ same. apart (same ∙ sym here))));
        on = sym (ap (λ (b : Bool). if b then pages_of_links (links_of c) else pages_at cs first) holds);
      }
  | inr fails ↦
      let one = set_apart pages cs first bytes are.1 (sym (list_later c cs first fails) ∙ there) in
      record {
        link = one.link;
        rest = one.rest;
        others = c ∷ one.others;
        here = one.here;
        are = one.are;
        chains = (one.chains.0, (are.0, one.chains.1));
        same = λ p.
            shift (times p (pages_of_links (links_of c))) (times p (pages_of_links (one.link ∷ one.rest))) (times p (pages_of_chains one.others)) (with_times p (one.link ∷ one.rest) (c ∷ one.others)) (times-append p (pages_of_links (links_of c)) (pages_of_chains one.others))
            (with_times p (one.link ∷ one.rest) one.others) (one.same p) (times-append p (pages_of_links (links_of c)) (pages_of_chains cs));
        lists = λ p apart. ap (λ (o : Option (List ℕ)). if p == (c.first).page then Some (content_of (links_of c)) else o) (one.lists p apart);
        places = λ p apart. ap (λ (ps : List ℕ). if p == (c.first).page then pages_of_links (links_of c) else ps) (one.places p apart);
        on = one.on ∙ sym (pages_later c cs first fails);
      }
]
  where
    shift : (n l o : ℕ) {a b d s t : ℕ} → a ≡ l + b → b ≡ n + o → d ≡ l + o → d ≡ s → t ≡ n + s → a ≡ t
    shift n l o one two three four five = omega arith

-- The list at a first page stands aside as a chain.
pub record IsEntered (pages : Pages) (h : Header) (first : ℕ) (bytes places : List ℕ) (beside : HeldBeside) : Type 0 where
  pub links : List Link
  pub here : next_of links ≡ first
  pub are : content_of links ≡ bytes
  pub on : pages_of_links links ≡ places
  pub holds : HoldsBeside pages h links beside

module _ {pages : Pages} {h : Header} {held : Held} (holds : HoldsBehind pages h held) where
  -- all lists, the catalog among them
  abbrev pub all_lists : ℕ → Option (List ℕ)
  all_lists p = list_at (holds.shares).chains p

  abbrev pub all_but : ℕ → ℕ → Option (List ℕ)
  all_but first p = if p == first then None else list_at (holds.shares).chains p

  -- the pages of all lists, and of the others
  abbrev pub all_places : ℕ → List ℕ
  all_places p = pages_at (holds.shares).chains p

  abbrev pub places_but : ℕ → ℕ → List ℕ
  places_but first p = if p == first then [] else pages_at (holds.shares).chains p

  -- no chain stands aside
  pub enter_none : HoldsBeside pages h [] (record { records = held.records; lists = all_lists; places = all_places; free = held.free })
  enter_none = record {
    free = (holds.shares).free;
    others = (holds.shares).chains;
    header = holds.header;
    shared = holds.shared;
    records = holds.records;
    lists = λ p. refl;
    places = λ p. refl;
    count = holds.free;
  }

  pub enter : (first : ℕ) (bytes : List ℕ) → all_lists first ≡ Some bytes → IsEntered pages h first bytes (all_places first) (record { records = held.records; lists = all_but first; places = places_but first; free = held.free })
  enter first bytes there = record {
    links = one.link ∷ one.rest;
    here = one.here;
    are = one.are;
    on = one.on;
    holds = record {
      free = (holds.shares).free;
      others = one.others;
      header = holds.header;
      shared = beside.shared;
      records = holds.records;
      lists = λ p. elim (equal_or p first) [
        | inl same ↦
            ap (λ (b : Bool). if b then None else list_at (holds.shares).chains p) (eq-eqb p first same)
            ∙ sym (sym (beside.lists p) ∙ unlisted beside p (among_here p (one.link).page (pages_of_links one.rest) (same ∙ sym one.here)))
        | inr apart ↦ ap (λ (b : Bool). if b then None else list_at (holds.shares).chains p) (other_page p first apart) ∙ sym (one.lists p apart)
      ];
      places = λ p. elim (equal_or p first) [
        | inl same ↦
            ap (λ (b : Bool). if b then [] else pages_at (holds.shares).chains p) (eq-eqb p first same)
            ∙ sym (sym (beside.places p) ∙ unplaced beside p (among_here p (one.link).page (pages_of_links one.rest) (same ∙ sym one.here)))
        | inr apart ↦ ap (λ (b : Bool). if b then [] else pages_at (holds.shares).chains p) (other_page p first apart) ∙ sym (one.places p apart)
      ];
      count = holds.free;
    };
  }
    where
      one : IsApart pages (holds.shares).chains first bytes
      one = set_apart pages (holds.shares).chains first bytes (holds.shared).chains there

      shift : (z f : ℕ) {a b x y : ℕ} → a ≡ z + (f + (x + 0)) → x ≡ y → b ≡ z + (f + (y + 0)) → a ≡ b
      shift z f e same other = omega arith

      -- with the lists of the others, whatever they are
      beside : HoldsBeside pages h (one.link ∷ one.rest) (record { records = held.records; lists = λ p. list_at one.others p; places = λ p. pages_at one.others p; free = held.free })
      beside = record {
        free = (holds.shares).free;
        others = one.others;
        header = holds.header;
        shared = named_else holds.shared h (record { free = (holds.shares).free; chains = chains_with (one.link ∷ one.rest) one.others }) [] refl refl (holds.shared).free one.chains
            (λ p. shift (times p (0 ∷ [])) (times p (holds.shares).free) (named_parts p (record { free = (holds.shares).free; chains = chains_with (one.link ∷ one.rest) one.others }) []) (one.same p) (named_parts p holds.shares []));
        records = holds.records;
        lists = λ p. refl;
        places = λ p. refl;
        count = holds.free;
      }

-- other fields of the header
pub beside_header : {pages : Pages} {h : Header} {links : List Link} {held : HeldBeside} (h1 : Header) → h1.pages ≡ h.pages → h1.room ≡ h.room → h1.free ≡ h.free → h1.settings ≡ h.settings → HoldsBeside pages h links held
    → HoldsBeside pages h1 links held
beside_header {pages = pages} {h = h} {links = links} h1 same_pages same_room same_free same_settings holds = record {
  free = holds.free;
  others = holds.others;
  header = holds.header;
  shared = named_else holds.shared h1 (record { free = holds.free; chains = chains_with links holds.others }) [] same_pages same_room
      (subst (λ (f : ℕ). IsFreeList pages f holds.free) (sym same_free) (holds.shared).free) (holds.shared).chains (λ p. refl);
  records = holds.records;
  lists = holds.lists;
  places = holds.places;
  count = let e = holds.count in let limit = ap (λ (s : Settings). s.limit) same_settings in omega (arith, e, limit, same_pages);
}

-- Beside the chain and with it the pages hold this.
join : {pages : Pages} {h : Header} {links : List Link} {beside : HeldBeside} (holds : HoldsBeside pages h links beside) (held : Held) → held.settings ≡ h.settings → held.records ≡ beside.records
    → held.free ≡ beside.free → ((p : ℕ) → held.lists p ≡ (if p == h.catalog then None else list_at (chains_with links holds.others) p))
    → list_at (chains_with links holds.others) h.catalog ≡ Some held.catalog.bytes → pages_at (chains_with links holds.others) h.catalog ≡ held.catalog.pages → length held.catalog.bytes ≡ h.catalog_length
    → HoldsBehind pages h held
join {pages = pages} {h = h} {links = links} {beside = beside} holds held settings records free lists catalog catalog_pages catalog_length = record {
  shares = record { free = holds.free; chains = chains_with links holds.others };
  header = holds.header;
  shared = holds.shared;
  settings = settings;
  records = λ page slot. ap (λ (r : ℕ → ℕ → Option (List ℕ)). r page slot) records ∙ holds.records page slot;
  lists = lists;
  catalog = catalog;
  catalog_pages = catalog_pages;
  catalog_length = catalog_length;
  free = free ∙ holds.count;
}

-- a chain with a byte has a first page, which no other chain begins at
module _ {pages : Pages} {h : Header} {links : List Link} {beside : HeldBeside} (holds : HoldsBeside pages h links beside) (some : 1 ≤ length (content_of links)) where
  lists_with_first : (p : ℕ) → list_at (chains_with links holds.others) p ≡ (if p == next_of links then Some (content_of links) else beside.lists p)
  lists_with_first p = go links refl
    where
      go : (ls : List Link) → links ≡ ls → list_at (chains_with links holds.others) p ≡ (if p == next_of links then Some (content_of links) else beside.lists p)
      go [] are = absurd (let none = ap (λ (r : List Link). length (content_of r)) are in omega (arith, some, none))
      go (l ∷ ls) are =
          ap (λ (r : List Link). list_at (chains_with r holds.others) p) are
          ∙ ap (λ (o : Option (List ℕ)). if p == l.page then Some (content_of (l ∷ ls)) else o) (sym (holds.lists p))
          ∙ sym (ap (λ (r : List Link). if p == next_of r then Some (content_of r) else beside.lists p) are)

  places_with_first : (p : ℕ) → pages_at (chains_with links holds.others) p ≡ (if p == next_of links then pages_of_links links else beside.places p)
  places_with_first p = go links refl
    where
      go : (ls : List Link) → links ≡ ls → pages_at (chains_with links holds.others) p ≡ (if p == next_of links then pages_of_links links else beside.places p)
      go [] are = absurd (let none = ap (λ (r : List Link). length (content_of r)) are in omega (arith, some, none))
      go (l ∷ ls) are =
          ap (λ (r : List Link). pages_at (chains_with r holds.others) p) are
          ∙ ap (λ (ps : List ℕ). if p == l.page then pages_of_links (l ∷ ls) else ps) (sym (holds.places p))
          ∙ sym (ap (λ (r : List Link). if p == next_of r then pages_of_links r else beside.places p) are)

  pub first_unlisted : beside.lists (next_of links) ≡ None
  first_unlisted = unlisted holds (next_of links) (go links refl)
    where
      go : (ls : List Link) → links ≡ ls → 1 ≤ times (next_of links) (pages_of_links links)
      go [] are = absurd (let none = ap (λ (r : List Link). length (content_of r)) are in omega (arith, some, none))
      go (l ∷ ls) are =
          let here = among_here l.page l.page (pages_of_links ls) refl in
          let same = ap (λ (r : List Link). times (next_of r) (pages_of_links r)) are in
          omega (arith, here, same)

module _ {pages0 pages1 : Pages} {h0 h1 : Header} {held : Held} (holds : HoldsBehind pages0 h0 held) where
  -- the list that stood aside has gone
  pub freed_holds : (first free : ℕ) → first ≢ h0.catalog → HoldsBeside pages1 h1 [] (record { records = held.records; lists = all_but holds first; places = places_but holds first; free = free }) → KeepsCatalog h0 h1
      → HoldsBehind pages1 h1 (record held { lists = λ p. if p == first then None else held.lists p; free = free })
  freed_holds first free other beside keeps =
      join beside (record held { lists = λ p. if p == first then None else held.lists p; free = free }) (holds.settings ∙ sym keeps.settings) refl refl
      (λ p.
      ap (λ (o : Option (List ℕ)). if p == first then None else o) (holds.lists p)
      ∙ both (p == first) (p == h0.catalog) (list_at (holds.shares).chains p)
      ∙ ap (λ (o : Option (List ℕ)). if p == h0.catalog then None else o) (beside.lists p)
      ∙ ap (λ (c : ℕ). if p == c then None else list_at beside.others p) (sym keeps.catalog))
      (ap (λ (c : ℕ). list_at beside.others c) keeps.catalog ∙ sym (beside.lists h0.catalog)
      ∙ ap (λ (b : Bool). if b then None else list_at (holds.shares).chains h0.catalog) (other_page h0.catalog first (λ same. other (sym same))) ∙ holds.catalog)
      (ap (λ (c : ℕ). pages_at beside.others c) keeps.catalog ∙ sym (beside.places h0.catalog)
      ∙ ap (λ (b : Bool). if b then [] else pages_at (holds.shares).chains h0.catalog) (other_page h0.catalog first (λ same. other (sym same))) ∙ holds.catalog_pages)
      (holds.catalog_length ∙ sym keeps.catalog_length)
    where
      both : (a b : Bool) (o : Option (List ℕ)) → (if a then None else (if b then None else o)) ≡ (if b then None else (if a then None else o))
      both true true o = refl
      both true false o = refl
      both false b o = refl

  -- the chain that came to stand aside is a list
  pub written_holds : {links : List Link} (free : ℕ) (bytes : List ℕ) → content_of links ≡ bytes → 1 ≤ length bytes → HoldsBeside pages1 h1 links (record { records = held.records; lists = all_lists holds; places = all_places holds; free = free })
      → KeepsCatalog h0 h1
      → HoldsBehind pages1 h1 (record held { lists = λ p. if p == next_of links then Some bytes else held.lists p; free = free }) × (held.lists (next_of links) ≡ None)
  written_holds {links = links} free bytes content some beside keeps = (
    join beside (record held { lists = λ p. if p == next_of links then Some bytes else held.lists p; free = free }) (holds.settings ∙ sym keeps.settings) refl refl
        (λ p.
        ap (λ (o : Option (List ℕ)). if p == next_of links then Some bytes else o) (holds.lists p)
        ∙ both (p == next_of links) (p == h0.catalog) (Some bytes) (list_at (holds.shares).chains p) (λ is catalog. other (sym (eqb-true p (next_of links) is) ∙ eqb-true p h0.catalog catalog))
        ∙ ap (λ (b : List ℕ). if p == h0.catalog then None else (if p == next_of links then Some b else list_at (holds.shares).chains p)) (sym content)
        ∙ ap (λ (o : Option (List ℕ)). if p == h0.catalog then None else o) (sym (lists_with_first beside there p))
        ∙ ap (λ (c : ℕ). if p == c then None else list_at (chains_with links beside.others) p) (sym keeps.catalog))
        (ap (λ (c : ℕ). list_at (chains_with links beside.others) c) keeps.catalog ∙ lists_with_first beside there h0.catalog
        ∙ ap (λ (b : Bool). if b then Some (content_of links) else list_at (holds.shares).chains h0.catalog) (other_page h0.catalog (next_of links) (λ same. other (sym same))) ∙ holds.catalog)
        (ap (λ (c : ℕ). pages_at (chains_with links beside.others) c) keeps.catalog ∙ places_with_first beside there h0.catalog
        ∙ ap (λ (b : Bool). if b then pages_of_links links else pages_at (holds.shares).chains h0.catalog) (other_page h0.catalog (next_of links) (λ same. other (sym same))) ∙ holds.catalog_pages)
        (holds.catalog_length ∙ sym keeps.catalog_length),
    holds.lists (next_of links) ∙ ap (λ (b : Bool). if b then None else list_at (holds.shares).chains (next_of links)) (other_page (next_of links) h0.catalog other) ∙ first_unlisted beside there,
  )
    where
      there : 1 ≤ length (content_of links)
      there = let same = ap length content in omega (arith, same, some)

      other : next_of links ≡ h0.catalog → ⊥
      other same = none_some (sym (first_unlisted beside there) ∙ ap (λ (p : ℕ). list_at (holds.shares).chains p) same ∙ holds.catalog)

      both : (a b : Bool) (x o : Option (List ℕ)) → (a ≡ true → b ≡ true → ⊥) → (if a then x else (if b then None else o)) ≡ (if b then None else (if a then x else o))
      both true true x o apart = absurd (apart refl refl)
      both true false x o apart = refl
      both false b x o apart = refl

  -- the chain that stands aside is a list again, with other bytes
  pub changed_holds : {links : List Link} (first free : ℕ) (bytes : List ℕ) → next_of links ≡ first → content_of links ≡ bytes → 1 ≤ length bytes → first ≢ h0.catalog
      → HoldsBeside pages1 h1 links (record { records = held.records; lists = all_but holds first; places = places_but holds first; free = free }) → KeepsCatalog h0 h1
      → HoldsBehind pages1 h1 (record held { lists = λ p. if p == first then Some bytes else held.lists p; free = free })
  changed_holds {links = links} first free bytes here content some other beside keeps =
      join beside (record held { lists = λ p. if p == first then Some bytes else held.lists p; free = free }) (holds.settings ∙ sym keeps.settings) refl refl
      (λ p.
      ap (λ (o : Option (List ℕ)). if p == first then Some bytes else o) (holds.lists p)
      ∙ both (p == first) (p == h0.catalog) (Some bytes) (list_at (holds.shares).chains p) (λ is catalog. other (sym (eqb-true p first is) ∙ eqb-true p h0.catalog catalog))
      ∙ ap (λ (o : Option (List ℕ)). if p == h0.catalog then None else o) (sym (chains_are p))
      ∙ ap (λ (c : ℕ). if p == c then None else list_at (chains_with links beside.others) p) (sym keeps.catalog))
      (ap (λ (c : ℕ). list_at (chains_with links beside.others) c) keeps.catalog ∙ chains_are h0.catalog
      ∙ ap (λ (b : Bool). if b then Some bytes else (if b then None else list_at (holds.shares).chains h0.catalog)) (other_page h0.catalog first (λ same. other (sym same))) ∙ holds.catalog)
      (ap (λ (c : ℕ). pages_at (chains_with links beside.others) c) keeps.catalog ∙ places_with_first beside there h0.catalog
      ∙ ap (λ (b : Bool). if b then pages_of_links links else places_but holds first h0.catalog) (other_page h0.catalog (next_of links) (λ same. other (sym (same ∙ here))))
      ∙ ap (λ (b : Bool). if b then [] else pages_at (holds.shares).chains h0.catalog) (other_page h0.catalog first (λ same. other (sym same))) ∙ holds.catalog_pages)
      (holds.catalog_length ∙ sym keeps.catalog_length)
    where
      there : 1 ≤ length (content_of links)
      there = let same = ap length content in omega (arith, same, some)

      chains_are : (p : ℕ) → list_at (chains_with links beside.others) p ≡ (if p == first then Some bytes else (if p == first then None else list_at (holds.shares).chains p))
      chains_are p =
          lists_with_first beside there p
          ∙ ap (λ (f : ℕ). if p == f then Some (content_of links) else (if p == first then None else list_at (holds.shares).chains p)) here
          ∙ ap (λ (b : List ℕ). if p == first then Some b else (if p == first then None else list_at (holds.shares).chains p)) content

      both : (a b : Bool) (x o : Option (List ℕ)) → (a ≡ true → b ≡ true → ⊥) → (if a then x else (if b then None else o)) ≡ (if b then None else (if a then x else (if a then None else o)))
      both true true x o apart = absurd (apart refl refl)
      both true false x o apart = refl
      both false true x o apart = refl
      both false false x o apart = refl

  -- the chain that came to stand aside is the catalog, in place of the old one, which stood aside before
  pub catalog_holds : {links : List Link} (free : ℕ) (bytes : List ℕ) → content_of links ≡ bytes → 1 ≤ length bytes
      → HoldsBeside pages1 h1 links (record { records = held.records; lists = all_but holds h0.catalog; places = places_but holds h0.catalog; free = free }) → KeepsCatalog h0 h1
      → HoldsBehind pages1 (record h1 { catalog = next_of links; catalog_length = length bytes }) (record held { catalog = record { bytes = bytes; pages = pages_of_links links }; free = free })
  catalog_holds {links = links} free bytes content some beside keeps =
      join named (record held { catalog = record { bytes = bytes; pages = pages_of_links links }; free = free }) (holds.settings ∙ sym keeps.settings) refl refl
      (λ p.
      both (p == next_of links) (Some (content_of links)) (held.lists p)
      (λ is. holds.lists p ∙ ap (λ (q : ℕ). if q == h0.catalog then None else list_at (holds.shares).chains q) (eqb-true p (next_of links) is) ∙ first_unlisted beside there)
      ∙ ap (λ (o : Option (List ℕ)). if p == next_of links then None else (if p == next_of links then Some (content_of links) else o)) (holds.lists p)
      ∙ ap (λ (o : Option (List ℕ)). if p == next_of links then None else o) (sym (lists_with_first named there p)))
      (lists_with_first named there (next_of links) ∙ ap (λ (b : Bool). if b then Some (content_of links) else all_but holds h0.catalog (next_of links)) (eq-eqb (next_of links) (next_of links) refl)
      ∙ ap (λ (b : List ℕ). Some b) content)
      (places_with_first named there (next_of links) ∙ ap (λ (b : Bool). if b then pages_of_links links else places_but holds h0.catalog (next_of links)) (eq-eqb (next_of links) (next_of links) refl))
      refl
    where
      there : 1 ≤ length (content_of links)
      there = let same = ap length content in omega (arith, same, some)

      named : HoldsBeside pages1 (record h1 { catalog = next_of links; catalog_length = length bytes }) links (record { records = held.records; lists = all_but holds h0.catalog; places = places_but holds h0.catalog; free = free })
      named = beside_header (record h1 { catalog = next_of links; catalog_length = length bytes }) refl refl refl refl beside

      both : (a : Bool) (x o : Option (List ℕ)) → (a ≡ true → o ≡ None) → o ≡ (if a then None else (if a then x else o))
      both true x o none = none refl
      both false x o none = refl
