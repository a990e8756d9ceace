-- Reading chains page by page.
use Rattle.std.proofs.Common.{◌≡◌, ◌⊎◌, ℕ, ◌+◌, ◌*◌, ◌-◌, ◌<◌, ◌≤◌, List, ◌++◌, length, refl, sym, ap, subst, ◌∙◌, arith, Bool, true, inl, inr, Option, Some, None}
use Rattle.std.specs.Prelude.{◌≢◌, ◌^◌, min, MatchOption}
use Rattle.nx_host.specs.Disk.{Image}
use Rattle.nx_host.specs.declared.disk.Disk.{Ghosts}
use Rattle.nx_host.specs.Still.{IsStill}
use Rattle.nx_host.proofs.DiskLemmas.{settled_still}
use Rattle.nx_replay.specs.Log.{Pages}
use Rattle.nx_chain.specs.Chain.{chain_bytes, IsChainPage}
use Rattle.nx_wal.specs.Reading.{page_found}
use Rattle.nx_wal.specs.Wal.{IsInStep, current}
use Rattle.nx_holdings.specs.declared.header.Header.{Header}
use Rattle.nx_holdings.specs.Header.{IsInRange}
use Rattle.nx_holdings.specs.Holdings.{Held, HoldsBy, chain_count}
use Rattle.nx_holdings.proofs.ChainLemmas.{Names, one_next, one_content}
use Rattle.nx_links.specs.Lists.{IsLinkAt, IsListFrom, IsNamed, IsReadTo}
use Rattle.nx_links.proofs.ListLemmas.{HasFirst, has_first, list_step, read_more, list_fits, from_none, from_held, held_some, lists_from, one_list_from}
use Rattle.nx_records.specs.declared.records.Records.{Records}
use Rattle.nx_records.specs.declared.error.StoreError.{StoreError}
use Rattle.nx_records.specs.declared.error.StoreError.TheVariants as error
use Rattle.nx_records.specs.Records.{StandsFor}
use Rattle.nx_records.specs.Changes.{LacksList, IsListRead}
use Rattle.nx_records.specs.Refusals.{EndNow, NotRead, NotChanged}
use Rattle.nx_records.specs.Pages.{SeesSo}
use Rattle.nx_records.proofs.LeaveLemmas.{leaves_same}
use Rattle.nx_records.specs.Chains.{HasLink, NoLink, NoListFrom, NotListed}

pub names_of : {pages : Pages} {page next : ℕ} {content : List ℕ} → IsLinkAt pages page next content → Names pages page next content
names_of link = record { there = link.there ∙ ap (λ (b : List ℕ). Some b) (link.is).are; low = (link.is).low; some = (link.is).some; few = (link.is).few }

-- a page that was read, and is a chain page
pub link_found : {pages : Pages} {page next : ℕ} {bytes content : List ℕ} (found : Bool) → found ≡ true → pages page ≡ page_found found bytes → IsChainPage bytes next content → IsLinkAt pages page next content
link_found {bytes = bytes} found holds there is = record { bytes = bytes; there = there ∙ ap (λ (b : Bool). page_found b bytes) holds; is = is }

-- a page says one next page and one content, so where they can't stand, it is no page of a list
pub no_link_short : {pages : Pages} {page next : ℕ} {content : List ℕ} (limit : ℕ) → IsLinkAt pages page next content → (next ≢ 0) × (length content ≢ 8184) → NoLink limit page pages
no_link_short limit link short low other_next other has =
    let next_is = one_next (names_of link) (names_of has.link) in
    let content_is = one_content (names_of link) (names_of has.link) in
    short.1 (ap length content_is ∙ has.full (λ zero. short.0 (next_is ∙ zero)))

-- no list begins at a page that is no chain page
pub no_list_from : {limit : ℕ} {pages : Pages} {page : ℕ} → limit ≤ 2 ^ 32 → page ≢ 0 → NoLink limit page pages → (bytes : List ℕ) → IsListFrom limit pages page bytes → ⊥
no_list_from {limit = limit} {pages = pages} {page = page} few some none bytes from =
    let link : HasFirst limit pages page bytes = has_first some from in
    none link.low link.next link.content (record {
      link = record {
        bytes = chain_bytes link.next link.content;
        there = link.names;
        is = record { are = refl; low = elim link.next_low [ inl zero ↦ omega (arith, zero) | inr under ↦ omega (arith, under, few) ]; some = link.some; few = link.few };
      };
      full = link.full;
    })

module _ {limit : ℕ} {pages : Pages} {first page : ℕ} {so_far : List ℕ} (few : limit ≤ 2 ^ 32) (some : page ≢ 0) (read : IsReadTo limit pages first so_far page) where
  -- a list was read by one page more
  pub read_link : {next : ℕ} {content : List ℕ} → page < limit → HasLink pages page next content → IsReadTo limit pages first (so_far ++ content) next
  read_link low has = read_more read (list_step few some low has.link has.full)

  -- no list goes on at a page that is no chain page
  pub read_no_link : (len : ℕ) → NoLink limit page pages → NoListFrom limit first len pages
  read_no_link len none bytes from long = let left = read.back bytes from in no_list_from few some none left.0 left.2

-- so many reads and no more
pub reads_within : (now before count len : ℕ) → 8184 * now ≤ 8184 * before + count → count < len → (next : ℕ) → next ≤ now + 1 → next ≤ before + chain_count len
reads_within now before count len full short next one = omega (arith, full, short, one)

pub few_pages : (h : Header) → IsInRange h → h.pages ≤ 2 ^ 32
few_pages h range = let limit = range.settings.limit.1 in let pages = range.pages.1 in omega (arith, limit, pages)

-- no list has more bytes than there may be on all pages
pub no_list_past : {pages : Pages} (h : Header) → IsInRange h → (first len : ℕ) → 8184 * h.pages < len → NoListFrom h.pages first len pages
no_list_past h range first len past bytes from long = let fits = list_fits (few_pages h range) from in omega (arith, fits, past, long)

-- what the pages are seen to be behind calls that asked the disk alone
pub sees_back : {D : Type 0} {d : Ghosts D} {r0 r1 : Records} {x0 x1 : D} (P : Records → Pages → Type 0) → r1 ≡ r0 → IsStill d x0 x1 → SeesSo d r1 x1 (P r1) → SeesSo d r0 x0 (P r0)
sees_back {d = d} {x0 = x0} P same still sees =
    subst (λ (r : Records). SeesSo d r x0 (P r)) same (λ was step. sees was (record { settled = settled_still still step.settled; follows = step.follows }))

-- refusals
module _ {D : Type 0} (d : Ghosts D) (r0 r1 : Records) (x0 x1 : D) (named : ℕ) where
  pub listed_damaged : (P : Pages → Type 0) (e : StoreError) → e ≡ error.Damaged named → EndNow r0 r1 → SeesSo d r0 x0 P → NotListed d P named e r0 r1 x0 x1
  listed_damaged P e same ends sees = subst (λ (x : StoreError). NotListed d P named x r0 r1 x0 x1) (sym same) (refl, ends, sees)

  pub listed_weaker : (P Q : Pages → Type 0) (e : StoreError) → ((was : Image) → IsInStep d r0.wal x0 was → P (current r0.wal was) → Q (current r0.wal was)) → NotListed d P named e r0 r1 x0 x1
      → NotListed d Q named e r0 r1 x0 x1
  listed_weaker P Q error.Disk weaker refused = refused
  listed_weaker P Q (error.Damaged page) weaker refused = (refused.0, refused.1, λ was step. weaker was step (refused.2 was step))
  listed_weaker P Q error.Memory weaker refused = refused
  listed_weaker P Q error.Ended weaker refused = absurd refused
  listed_weaker P Q error.Exists weaker refused = absurd refused
  listed_weaker P Q error.NotAStore weaker refused = absurd refused
  listed_weaker P Q error.Full weaker refused = absurd refused

  pub listed_read : (Lacks : Held → Type 0) (P : Pages → Type 0) (e : StoreError) → ((saved now : Held) (stands : StandsFor d r0 x0 saved now) → P (current r0.wal (stands.keeps).image) → Lacks now)
      → NotListed d P named e r0 r1 x0 x1 → NotRead d Lacks named e r0 r1 x0 x1
  listed_read Lacks P error.Disk lacks refused = refused
  listed_read Lacks P (error.Damaged page) lacks refused = record {
    page = refused.0;
    ends = refused.1;
    lacks = λ saved now stands. lacks saved now stands (refused.2 (stands.keeps).image (stands.keeps).step);
  }
  listed_read Lacks P error.Memory lacks refused = (refused.0, leaves_same refused.1)
  listed_read Lacks P error.Ended lacks refused = absurd refused
  listed_read Lacks P error.Exists lacks refused = absurd refused
  listed_read Lacks P error.NotAStore lacks refused = absurd refused
  listed_read Lacks P error.Full lacks refused = absurd refused

  pub read_damaged : (Lacks : Held → Type 0) (e : StoreError) → e ≡ error.Damaged named → EndNow r0 r1 → ((saved now : Held) → StandsFor d r0 x0 saved now → Lacks now)
      → NotRead d Lacks named e r0 r1 x0 x1
  read_damaged Lacks e same ends lacks = subst (λ (x : StoreError). NotRead d Lacks named x r0 r1 x0 x1) (sym same) (record { page = refl; ends = ends; lacks = lacks })

  pub change_damaged : (Lacks : Held → Type 0) (e : StoreError) → e ≡ error.Damaged named → EndNow r0 r1 → ((saved now : Held) → StandsFor d r0 x0 saved now → Lacks now)
      → NotChanged d Lacks named e r0 r1 x0 x1
  change_damaged Lacks e same ends lacks = subst (λ (x : StoreError). NotChanged d Lacks named x r0 r1 x0 x1) (sym same) (record { page = refl; ends = ends; lacks = lacks })

-- a refusal behind calls that asked the disk alone
pub later_listed : {D : Type 0} {d : Ghosts D} {r0 r1 : Records} {x0 x1 : D} (r2 : Records) (x2 : D) (P : Records → Pages → Type 0) (named : ℕ) (e : StoreError) → r1 ≡ r0 → IsStill d x0 x1
    → NotListed d (P r1) named e r1 r2 x1 x2 → NotListed d (P r0) named e r0 r2 x0 x2
later_listed {d = d} {r0 = r0} {r1 = r1} {x0 = x0} {x1 = x1} r2 x2 P named e same still refused =
    subst (λ (r : Records). NotListed d (P r) named e r r2 x0 x2) same (go e refused)
  where
    go : (e : StoreError) → NotListed d (P r1) named e r1 r2 x1 x2 → NotListed d (P r1) named e r1 r2 x0 x2
    go error.Disk refused =
        let rose : min (d.faults x1 + 1) (2 ^ 64 - 1) ≤ d.faults x2 = refused.0 in
        let later : d.faults x0 ≤ d.faults x1 = still.faults_later in
        (omega (arith, rose, later), refused.1)
    go (error.Damaged page) refused = (refused.0, refused.1, λ was step. refused.2 was (record { settled = settled_still still step.settled; follows = step.follows }))
    go error.Memory refused = refused
    go error.Ended refused = absurd refused
    go error.Exists refused = absurd refused
    go error.NotAStore refused = absurd refused
    go error.Full refused = absurd refused

-- no list of no byte is there, and the catalog is none of the lists
pub lacks_list : {pages : Pages} {head : Header} {held : Held} (by : HoldsBy pages head held) (first len : ℕ) → (len ≡ 0) ⊎ (first ≡ head.catalog) → LacksList held first len
lacks_list by first len (inl none) list there long = let some = held_some by first list there in omega (arith, some, long, none)
lacks_list by first len (inr catalog) list there long = (lists_from by first list there).1 catalog

-- what was read from a page on is the list there, or the page is one behind the first of a chain
pub list_read : {pages : Pages} {head : Header} {held : Held} (by : HoldsBy pages head held) (first : ℕ) (bytes : List ℕ) → first ≢ head.catalog → length bytes ≢ 0 → IsListFrom head.pages pages first bytes
    → IsListRead pages held first bytes
list_read {pages = pages} {head = head} {held = held} by first bytes other some from =
    elim (held.lists first) as (λ o. held.lists first ≡ o → MatchOption o (IsNamed pages first) (λ list. bytes ≡ list)) [
      | None ↦ λ none. elim (from_held by first bytes (λ zero. some (ap length (from_none (subst (λ (p : ℕ). IsListFrom head.pages pages p bytes) zero from)))) other from) [
        | inl there ↦ absurd (none_some (sym none ∙ there))
        | inr named ↦ named
      ]
      | Some list ↦ λ there. one_list_from by from (lists_from by first list there).0
    ] refl
  where
    none_some : {x : List ℕ} → ◌≡◌ {A = Option (List ℕ)} None (Some x) → ⊥
    none_some same = cc
