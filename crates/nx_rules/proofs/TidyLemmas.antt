-- Pages that keep all rules have each list that a record names, and no others.
use Rattle.std.proofs.Common.{◌≡◌, ◌⊎◌, ℕ, ◌*◌, ◌≤◌, Bool, true, false, List, [], ◌∷◌, length, refl, sym, ap, ◌∙◌, subst, arith, inl, inr}
use Rattle.std.specs.Prelude.{◌==◌, if◌then◌else◌, Option, Some, None, IsSome, Contains}
use Rattle.std.proofs.lemmas.Bool.{false≢true, eq-eqb, eqb-true}
use Rattle.std.proofs.lemmas.List.Elements.{Contains-append_cases}
use Rattle.nx_replay.specs.Log.{Pages}
use Rattle.nx_holdings.specs.Holdings.{times, free_bytes, record_in, Link, content_of, next_of, pages_of_links, list_at, Held}
use Rattle.nx_holdings.specs.Header.{header_bytes}
use Rattle.nx_holdings.proofs.ChainLemmas.{same_bytes}
use Rattle.nx_holdings.proofs.DenseLemmas.{among_here}
use Rattle.nx_holdings.proofs.HeldLemmas.{IsOther, header_kind, free_kind, chain_kind, other_record}
use Rattle.nx_chain.specs.Chain.{chain_bytes}
use Rattle.nx_piece.specs.declared.piece.Far.{Far}
use Rattle.nx_piece.specs.declared.piece.Stored.{Stored}
use Rattle.nx_piece.specs.declared.piece.Stored.TheVariants.{Inline, Chained}
use Rattle.nx_piece.specs.Contents.{fars_in}
use Rattle.nx_piece.specs.Encoding.{encoding}
use Rattle.nx_piece.proofs.Laws.{one_stored}
use Rattle.nx_layouts.specs.Layout.{RecordPlace}
use Rattle.nx_layouts.proofs.PlaceLemmas.{same_place, one_place, first_among, later_among}
use Rattle.nx_hold.specs.Pieces.{roots_stored, IsStored, NamesList, NamesContent, IsNoProxies, IsTidy}
use Rattle.nx_hold.proofs.PieceLemmas.{one_at}
use Rattle.nx_rules.specs.Listed.{IsListOf}
use Rattle.nx_rules.specs.Walked.{Walked, links_behind, lists_named, StandOn, HoldsRecord}
use Rattle.nx_rules.specs.Tour.{all_reached, all_links, Tour, used_in, IsInUse, IsWholeTour}
use Rattle.nx_rules.proofs.SoundLemmas.{is_chain, Begins, tour_chains, visit_chains, list_with, list_past, held_of, chain_page, free_page, there_below}
use Rattle.nx_rules.proofs.LaidLemmas.{HasIn, has_in, reached_of, in_read, often, often_in, two_more, in_often, two_in}
use Rattle.nx_rules.proofs.ListsLemmas.{IsOneOf, one_often, named_list, list_named, in_list, list_in}

pub there_of : (o : Option (List ℕ)) (slot : ℕ) → IsSome (record_in o slot) → (bytes : List ℕ) × (o ≡ Some bytes)
there_of None slot h = absurd (cc h)
there_of (Some bytes) slot h = (bytes, refl)

pub no_record : (o : Option (List ℕ)) → IsSome o → o ≡ None → ⊥
no_record None h e = absurd (cc h)
no_record (Some x) h e = absurd (cc e)

pub is_some_of : {bytes : List ℕ} (o : Option (List ℕ)) → o ≡ Some bytes → IsSome o
is_some_of {bytes} o e = subst (λ (x : Option (List ℕ)). IsSome x) (sym e) refl

pub value_of : (o : Option (List ℕ)) → IsSome o → (bytes : List ℕ) × (o ≡ Some bytes)
value_of None h = absurd (cc h)
value_of (Some bytes) h = (bytes, refl)

-- a list that a walk reads begins at its first page
pub list_begins : (pages : Pages) (own : List ℕ) (first size : ℕ) (links : List Link) → IsListOf pages own first size links → 1 ≤ often first links
list_begins pages own first size links h =
    let c = is_chain pages own first size links h in
    let here : c.head.page ≡ first = sym (ap next_of c.are) ∙ c.first_is in
    subst (λ (l : List Link). 1 ≤ often first l) (sym c.are) (among_here first c.head.page (pages_of_links c.tail) (sym here))

-- a content is one of the lists that its record names
pub far_listed : (stored : Stored) (far : Far) → Contains (fars_in (roots_stored stored)) far → Contains (lists_named stored) far
far_listed (Inline piece) far among = among
far_listed (Chained body count chain) far among = later_among (record { first = chain; length = 8 * count }) (fars_in body.roots) far among

-- a record that names one list for its proxies and for a content has the first page twice
second_list : (pages : Pages) (f far : Far) (fars : List Far) (chains : List (List Link)) → StandOn pages (f ∷ fars) chains → Contains fars far → f.first ≡ far.first → 2 ≤ often_in far.first chains
second_list pages f far fars [] h among same = absurd h
second_list pages f far fars (c ∷ chains) h among same =
    let other = named_list pages fars chains far h.1 among in
    let one : 1 ≤ often far.first c = subst (λ (p : ℕ). 1 ≤ often p c) same (list_begins pages [] f.first f.length c h.0) in
    let two : 1 ≤ often far.first other.0 = list_begins pages [] far.first far.length other.0 other.2 in
    let more = one_often far.first other.0 chains other.1 in
    let e = two_more far.first c (links_behind chains) in
    omega (arith, e, one, two, more)

module _ {pages : Pages} {tour : Tour} (whole : IsWholeTour pages tour) where
  abbrev held : Held
  held = held_of whole

  -- each record was reached
  other_none : (place : RecordPlace) (bytes : List ℕ) → IsSome (record_in (pages place.page) place.slot) → IsOther pages place.page → ⊥
  other_none place bytes some other = no_record (record_in (pages place.page) place.slot) some (other_record pages place.page place.slot other)

  reached_by : (place : RecordPlace) → IsSome (record_in (pages place.page) place.slot) → IsInUse pages tour place.page → Contains (all_reached tour.visits) place
  reached_by place some (inl same) = absurd (other_none place [] some (record { bytes = header_bytes tour.head; there = ap pages same ∙ whole.kept.header.here; kind = header_kind tour.head }))
  reached_by place some (inr (inl free)) = let x = free_page whole place.page free in absurd (other_none place [] some (record { bytes = free_bytes x.0; there = x.1; kind = free_kind x.0 }))
  reached_by place some (inr (inr (inl chain))) =
      let y = chain_page whole place.page chain in absurd (other_none place [] some (record { bytes = chain_bytes y.0 y.1.0; there = y.1.1; kind = chain_kind y.0 y.1.0 }))
  reached_by place some (inr (inr (inr h))) = h.3 place.slot (subst (λ (o : Option (List ℕ)). IsSome (record_in o place.slot)) h.1.there some)

  pub record_reached : (place : RecordPlace) → IsSome (record_in (pages place.page) place.slot) → Contains (all_reached tour.visits) place
  record_reached place some =
      let there = there_of (pages place.page) place.slot some in
      reached_by place some (whole.used place.page (there_below whole place.page there.0 there.1))

  -- the list of a record is held
  links_apart : (page : ℕ) → 1 ≤ times page (pages_of_links (all_links tour.visits)) → times page (pages_of_links tour.catalog) ≡ 0
  links_apart page some =
      let both = two_more page tour.catalog (all_links tour.visits) in
      let once : times page (used_in tour) ≤ 1 = whole.kept.lists_once page in
      omega (arith, both, once, some)

  pub links_once : (page : ℕ) → times page (pages_of_links (all_links tour.visits)) ≤ 1
  links_once page =
      let both = two_more page tour.catalog (all_links tour.visits) in
      let once : times page (used_in tour) ≤ 1 = whole.kept.lists_once page in
      omega (arith, both, once)

  catalog_among : 1 ≤ times tour.head.catalog (pages_of_links tour.catalog)
  catalog_among =
      let c = is_chain pages [] tour.head.catalog tour.head.catalog_length tour.catalog whole.kept.list in
      let first : c.head.page ≡ tour.head.catalog = sym (ap next_of c.are) ∙ c.first_is in
      subst (λ (l : List Link). 1 ≤ times tour.head.catalog (pages_of_links l)) (sym c.are) (among_here tour.head.catalog c.head.page (pages_of_links c.tail) (sym first))

  pub held_list : (p : RecordPlace) (l : Link) (ls : List Link) (cs : List (List Link)) (m : Walked) → HasIn p cs m tour.visits → IsOneOf (l ∷ ls) cs → (held_of whole).lists l.page ≡ Some (content_of (l ∷ ls))
  unfolding held_of tour_chains
  held_list p l ls cs m h one_of =
      let one : 1 ≤ often l.page (l ∷ ls) = among_here l.page l.page (pages_of_links ls) refl in
      let mine = one_often l.page (l ∷ ls) cs one_of in
      let there = in_often l.page p cs m tour.visits h in
      let none : times l.page (pages_of_links tour.catalog) ≡ 0 = links_apart l.page (omega (arith, one, mine, there)) in
      let apart : (l.page == tour.head.catalog) ≡ false = by_case (l.page == tour.head.catalog) refl none in
      ap (λ b. if b then None else list_at (tour_chains tour) l.page) apart ∙ list_past tour.catalog (visit_chains tour.visits) l.page none ∙ in_list p l ls cs m tour.visits one_of (links_once l.page) h
    where
      by_case : (b : Bool) → (l.page == tour.head.catalog) ≡ b → times l.page (pages_of_links tour.catalog) ≡ 0 → b ≡ false
      by_case true e none = absurd (let same : l.page ≡ tour.head.catalog = eqb-true l.page tour.head.catalog e in let some : 1 ≤ times l.page (pages_of_links tour.catalog) = subst (λ (p : ℕ). 1 ≤ times p (pages_of_links tour.catalog)) (sym same) catalog_among in omega (arith, none, some))
      by_case false e none = refl

  -- a list that a record names is held, with its length
  pub named_held : (p : RecordPlace) (cs : List (List Link)) (m : Walked) (far : Far) (links : List Link) → HasIn p cs m tour.visits → IsOneOf links cs → IsListOf pages [] far.first far.length links
      → ((held_of whole).lists far.first ≡ Some (content_of links)) × (length (content_of links) ≡ far.length)
  named_held p cs m far links has one list =
      let c = is_chain pages [] far.first far.length links list in
      let here : c.head.page ≡ far.first = sym (ap next_of c.are) ∙ c.first_is in
      let there : (held_of whole).lists c.head.page ≡ Some (content_of (c.head ∷ c.tail)) = held_list p c.head c.tail cs m has (subst (λ (l : List Link). IsOneOf l cs) c.are one) in
      (subst (λ (f : ℕ). (held_of whole).lists f ≡ Some (content_of links)) here (there ∙ ap (λ (l : List Link). Some (content_of l)) (sym c.are)), c.sized)

  -- what the walk has of a record that is stored
  pub record StoredIn (place : RecordPlace) (stored : Stored) : Type 0 where
    pub chains : List (List Link)
    pub members : Walked
    pub has : HasIn place chains members tour.visits
    pub stand : StandOn pages (lists_named stored) chains

  pub stored_in : (place : RecordPlace) (stored : Stored) → IsStored (held_of whole) place stored → StoredIn place stored
  unfolding held_of
  stored_in place stored is =
      let bytes : record_in (pages place.page) place.slot ≡ Some (encoding stored) = is.bytes in
      let reached = has_in place tour.visits (record_reached place (is_some_of (record_in (pages place.page) place.slot) bytes)) in
      let read = in_read pages tour.head.settings.k place reached.0 reached.1 tour.visits whole.kept.each reached.2 in
      let found = read.there.found in
      let there : record_in (pages place.page) place.slot ≡ Some (encoding read.stored) = ap (λ (o : Option (List ℕ)). record_in o place.slot) found.slotted.there ∙ found.there in
      let same : read.stored ≡ stored =
      one_stored read.stored stored read.there.valid is.valid read.there.numbers is.numbers (same_bytes (encoding read.stored) (encoding stored) (record_in (pages place.page) place.slot) there bytes) in
      record { chains = reached.0; members = reached.1; has = reached.2; stand = subst (λ (s : Stored). StandOn pages (lists_named s) reached.0) same read.stand }

  -- a list that it names
  listed_held : (place : RecordPlace) (stored : Stored) (far : Far) → IsStored (held_of whole) place stored → Contains (lists_named stored) far
      → (bytes : List ℕ) × ((held_of whole).lists far.first ≡ Some bytes) × (length bytes ≡ far.length)
  listed_held place stored far is among =
      let n = stored_in place stored is in
      let list = named_list pages (lists_named stored) n.chains far n.stand among in
      let held = named_held place n.chains n.members far list.0 n.has list.1 list.2 in
      (content_of list.0, held.0, held.1)

  -- ... stands on pages of its own
  often_named : (place : RecordPlace) (stored : Stored) (far : Far) (n : StoredIn place stored) → Contains (lists_named stored) far → 1 ≤ often_in far.first n.chains
  often_named place stored far n among =
      let list = named_list pages (lists_named stored) n.chains far n.stand among in
      let one = list_begins pages [] far.first far.length list.0 list.2 in
      let all = one_often far.first list.0 n.chains list.1 in
      omega (arith, one, all)

  one_namer : (place other : RecordPlace) (stored also : Stored) (far more : Far) → IsStored (held_of whole) place stored → IsStored (held_of whole) other also → Contains (lists_named stored) far → Contains (lists_named also) more
      → far.first ≡ more.first → place ≡ other
  one_namer place other stored also far more is too among there same =
      elim (same_place place other) [
        | inl equal ↦ equal
        | inr apart ↦
            absurd (
            let n = stored_in place stored is in
            let m = stored_in other also too in
            let a = often_named place stored far n among in
            let b : 1 ≤ often_in far.first m.chains = subst (λ (f : ℕ). 1 ≤ often_in f m.chains) (sym same) (often_named other also more m there) in
            let two = two_in far.first place other n.chains m.chains n.members m.members tour.visits apart n.has m.has in
            let once = links_once far.first in
            omega (arith, two, a, b, once))
      ]

  abbrev proxy_list : ℕ → ℕ → Far
  proxy_list count chain = record { first = chain; length = 8 * count }

  no_other_use : (place : RecordPlace) (far : Far) → NamesContent (held_of whole) place far → IsNoProxies (held_of whole) far.first
  no_other_use place far names other count named =
      let mine = far_listed names.0 far names.2 in
      let also : Contains (lists_named (Chained named.0 count far.first)) (proxy_list count far.first) = first_among (proxy_list count far.first) (fars_in named.0.roots) in
      let place_is : place ≡ other = one_namer place other names.0 (Chained named.0 count far.first) far (proxy_list count far.first) names.1 named.1 mine also refl in
      let here : IsStored (held_of whole) other names.0 = subst (λ (p : RecordPlace). IsStored (held_of whole) p names.0) place_is names.1 in
      let same : names.0 ≡ Chained named.0 count far.first = one_at (held_of whole) other names.0 (Chained named.0 count far.first) here named.1 in
      let among : Contains (fars_in named.0.roots) far = subst (λ (s : Stored). Contains (fars_in (roots_stored s)) far) same names.2 in
      let n = stored_in other (Chained named.0 count far.first) named.1 in
      let two = second_list pages (proxy_list count far.first) far (fars_in named.0.roots) n.chains n.stand among refl in
      let all = in_often far.first other n.chains n.members tour.visits n.has in
      let once = links_once far.first in
      omega (arith, two, all, once)

  pub tidy_lists : IsTidy (held_of whole)
  tidy_lists = record {
    there = λ place count chain named. listed_held place (Chained named.0 count chain) (proxy_list count chain) named.1 (first_among (proxy_list count chain) (fars_in named.0.roots));
    once = λ place other count more chain named also.
        one_namer place other (Chained named.0 count chain) (Chained also.0 more chain) (proxy_list count chain) (proxy_list more chain) named.1 also.1
        (first_among (proxy_list count chain) (fars_in named.0.roots)) (first_among (proxy_list more chain) (fars_in also.0.roots)) refl;
    contents = λ place far names. listed_held place names.0 far names.1 (far_listed names.0 far names.2);
    apart = no_other_use;
  }

  -- a record of the walk is stored
  pub stored_at : {p : RecordPlace} {members : Walked} {cs : List (List Link)} (h : HoldsRecord pages p members cs) → IsStored (held_of whole) p h.stored
  unfolding held_of
  stored_at {p} h = record {
    bytes = ap (λ (o : Option (List ℕ)). record_in o p.slot) h.there.found.slotted.there ∙ h.there.found.there;
    valid = h.there.valid;
    numbers = h.there.numbers;
  }

  -- Each list that is held is one that a record names: for its proxies, or for a content.
  abbrev pub IsNamedBy : ℕ → Type 0
  IsNamedBy chain =
      ((place : RecordPlace) × (count : ℕ) × NamesList (held_of whole) place count chain)
      ⊎ ((place : RecordPlace) × (far : Far) × (far.first ≡ chain) × Contains (all_reached tour.visits) place × NamesContent (held_of whole) place far)

  by_stored : (p : RecordPlace) (chain : ℕ) (stored : Stored) (far : Far) → IsStored (held_of whole) p stored → Contains (all_reached tour.visits) p → Contains (lists_named stored) far → far.first ≡ chain → IsNamedBy chain
  by_stored p chain (Inline piece) far is reached among first = inr (p, far, first, reached, (Inline piece, is, among))
  by_stored p chain (Chained body count start) far is reached among first =
      elim (Contains-append_cases (proxy_list count start ∷ []) (fars_in body.roots) far among) [
        | inl here ↦
            let same : start ≡ chain = sym (ap (λ (f : Far). f.first) (one_place (proxy_list count start) far here)) ∙ first in
            inl (p, count, (body, subst (λ (x : ℕ). IsStored (held_of whole) p (Chained body count x)) same is))
        | inr there ↦ inr (p, far, first, reached, (Chained body count start, is, there))
      ]

  begins_catalog : (chain : ℕ) → Begins tour.catalog chain → chain ≡ tour.head.catalog
  begins_catalog chain begins =
      let c = is_chain pages [] tour.head.catalog tour.head.catalog_length tour.catalog whole.kept.list in
      sym begins.here ∙ sym (ap next_of begins.are) ∙ c.first_is

  begins_list : (far : Far) (links : List Link) (chain : ℕ) → IsListOf pages [] far.first far.length links → Begins links chain → far.first ≡ chain
  begins_list far links chain list begins =
      let c = is_chain pages [] far.first far.length links list in
      sym c.first_is ∙ ap next_of begins.are ∙ begins.here

  list_by : (chain : ℕ) (bytes : List ℕ) → (chain ≡ tour.head.catalog → ⊥) → list_at (tour_chains tour) chain ≡ Some bytes → IsNamedBy chain
  unfolding tour_chains
  list_by chain bytes apart e =
      elim (list_with tour.catalog (visit_chains tour.visits) chain bytes e) [
        | inl begins ↦ absurd (apart (begins_catalog chain begins))
        | inr there ↦
            let x = list_in tour.visits chain bytes there in
            let read = in_read pages tour.head.settings.k x.place x.chains x.members tour.visits whole.kept.each x.has in
            let named = list_named pages (lists_named read.stored) x.chains x.links read.stand x.one in
            by_stored x.place chain read.stored named.0 (stored_at read) (reached_of x.place x.chains x.members tour.visits x.has) named.1 (begins_list named.0 x.links chain named.2 x.begins)
      ]

  list_tested : (chain : ℕ) (b : Bool) → (chain == tour.head.catalog) ≡ b → IsSome (if b then None else list_at (tour_chains tour) chain) → IsNamedBy chain
  list_tested chain true e some = absurd (cc some)
  list_tested chain false e some =
      let v = value_of (list_at (tour_chains tour) chain) some in
      list_by chain v.0 (λ same. false≢true (sym e ∙ eq-eqb chain tour.head.catalog same)) v.1

  pub lists_by : (chain : ℕ) → IsSome ((held_of whole).lists chain) → IsNamedBy chain
  unfolding held_of
  lists_by chain some = list_tested chain (chain == tour.head.catalog) refl some
