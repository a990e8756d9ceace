-- Writing chains and giving them back, page by page.
use Rattle.std.proofs.Common.{◌≡◌, ℕ, ◌+◌, ◌*◌, ◌-◌, ◌<◌, ◌≤◌, List, [], ◌++◌, length, drop, length-append, refl, sym, ap, subst, ◌∙◌, arith, Bool, true, false, inl, inr}
use Rattle.std.specs.Prelude.{◌==◌, ◌≢◌, ◌^◌, min, if◌then◌else◌, Option, Some, None}
use Rattle.nx_host.specs.Disk.{Image}
use Rattle.nx_host.specs.declared.disk.Disk.{Ghosts}
use Rattle.nx_host.specs.Still.{IsStill}
use Rattle.nx_replay.specs.Log.{Pages, replay}
use Rattle.nx_chain.specs.Chain.{chain_bytes}
use Rattle.nx_wal.specs.declared.wal.Wal.{Wal}
use Rattle.nx_wal.specs.Wal.{current}
use Rattle.nx_holdings.specs.declared.header.Header.{Header}
use Rattle.nx_holdings.specs.Header.{header_bytes, newest_format, IsInRange}
use Rattle.nx_holdings.specs.Holdings.{with_page, free_bytes, Link, next_of, content_of, chain_count, Held, HoldsBehind, HoldsBy}
use Rattle.nx_holdings.specs.Laws.{pages_of_list}
use Rattle.nx_holdings.proofs.TimesLemmas.{other_page}
use Rattle.nx_holdings.proofs.HeldLemmas.{holds_all, holds_numbered}
use Rattle.nx_holdings.proofs.ChainLemmas.{Names, one_next, one_content}
use Rattle.nx_links.specs.Beside.{HeldBeside, HoldsBeside, KeepsCatalog, KeepsBeside}
use Rattle.nx_links.proofs.ListLemmas.{has_first}
use Rattle.nx_links.proofs.BesideLemmas.{IsLoosed, loose_first, loose_unused, put_link, give_link, room_apart, chain_from, chain_count_of, first_low}
use Rattle.nx_links.proofs.JoinLemmas.{beside_header, all_lists, all_places, all_but, places_but, enter_none, enter, freed_holds, written_holds}
use Rattle.nx_records.specs.declared.records.Records.{Records}
use Rattle.nx_records.specs.declared.error.StoreError.{StoreError}
use Rattle.nx_records.specs.declared.error.StoreError.TheVariants as error
use Rattle.nx_records.specs.Records.{has_ended, AreKnown, has_free, next_number, KeepsLog, StandsFor}
use Rattle.nx_records.specs.Changes.{WritesList}
use Rattle.nx_records.specs.Refusals.{EndNow, NotChanged, NotStored}
use Rattle.nx_records.specs.Pages.{SeesSo, StepsTo, IsPageTaken, NotTaken, numbered, released}
use Rattle.nx_records.specs.Chains.{HasLink, NoLink, NotListed, MayLead, link_before, IsContentAt, IsWritten, IsChainLeft, ChainStepsTo, FreesTo, BesideSo, Nowhere, NotLed, NotGivenBack}
use Rattle.nx_records.proofs.StandLemmas.{Stores, step_kept, saved_kept, keeps_then}
use Rattle.nx_records.proofs.StepLemmas.{first_free, none_free}
use Rattle.nx_records.proofs.RefusalLemmas.{keeps_self, runs_on, ends_later, ended_now}
use Rattle.nx_records.proofs.ChainLemmas.{names_of, few_pages, no_list_from}

-- a page that is taken is in no use
pub page_loosed : {pages : Pages} {h h1 : Header} {links : List Link} {held : HeldBeside} {page : ℕ} (holds : HoldsBeside pages h links held) → h.pages ≤ 2 ^ 32 → IsPageTaken pages page h h1
    → (left : ℕ) × (held.free ≡ left + 1) × IsLoosed pages links holds.others h1 page left
page_loosed {pages = pages} {h = h} {links = links} {page = page} holds few (inl free) =
    let one = loose_first holds free.next free.some few (ap pages (sym free.here) ∙ free.free.there) free.free.low in (
      one.0,
      one.1,
      subst (λ (x : Header). IsLoosed pages links holds.others x page one.0) (sym free.head)
          (subst (λ (q : ℕ). IsLoosed pages links holds.others (record h { free = free.next }) q one.0) (sym free.here) one.2),
    )
page_loosed {pages = pages} {h = h} {links = links} {page = page} holds few (inr new) =
    let one = loose_unused holds new.low in (
      one.0,
      one.1,
      subst (λ (x : Header). IsLoosed pages links holds.others x page one.0) (sym new.head)
          (subst (λ (q : ℕ). IsLoosed pages links holds.others (record h { pages = h.pages + 1 }) q one.0) (sym new.here) one.2),
    )

taken_keeps : {pages : Pages} {h h1 : Header} {page : ℕ} → IsPageTaken pages page h h1 → KeepsCatalog h h1
taken_keeps (inl free) = record { settings = ap (λ (x : Header). x.settings) free.head; catalog = ap (λ (x : Header). x.catalog) free.head; catalog_length = ap (λ (x : Header). x.catalog_length) free.head }
taken_keeps (inr new) = record { settings = ap (λ (x : Header). x.settings) new.head; catalog = ap (λ (x : Header). x.catalog) new.head; catalog_length = ap (λ (x : Header). x.catalog_length) new.head }

pub catalog_then : {a b c : Header} → KeepsCatalog a b → KeepsCatalog b c → KeepsCatalog a c
catalog_then one two = record { settings = two.settings ∙ one.settings; catalog = two.catalog ∙ one.catalog; catalog_length = two.catalog_length ∙ one.catalog_length }

pub catalog_numbered : {a b : Header} (number : ℕ) → b ≡ numbered number a → KeepsCatalog a b
catalog_numbered number same = record { settings = ap (λ (x : Header). x.settings) same; catalog = ap (λ (x : Header). x.catalog) same; catalog_length = ap (λ (x : Header). x.catalog_length) same }

-- a page is taken, and comes in front of a chain
module _ {D : Type 0} (d : Ghosts D) (r0 r1 r2 : Records) (before : D) where
  pub put_steps : {page next : ℕ} (content bytes : List ℕ) → SeesSo d r0 before (λ pages. IsPageTaken pages page r0.head r1.head) × (r1.wal ≡ r0.wal) → Stores r1 r1.head r2 page bytes
      → bytes ≡ chain_bytes next content → 1 ≤ length content → length content ≤ 8184 → ChainStepsTo d r0 r2 before (MayLead next content) (λ links more. more ≡ link_before page content links)
  put_steps {page = page} {next = next} content bytes taken stored are some few was links held step holds starts =
      let takes = taken.0 was step in
      let loosed = page_loosed holds (few_pages r0.head r0.head_range) takes in
      let made = put_link holds loosed.2 content some few starts.1 in
      let pages : current r2.wal was ≡ with_page (current r0.wal was) page (chain_bytes (next_of links) content) =
      stored.2 was ∙ ap (λ (w : Wal). with_page (current w was) page bytes) taken.1 ∙ ap (λ (b : List ℕ). with_page (current r0.wal was) page b) are
      ∙ ap (λ (n : ℕ). with_page (current r0.wal was) page (chain_bytes n content)) (sym starts.0) in
      record {
        more = link_before page content links;
        next = record held { free = loosed.0 };
        holds = subst (λ (p : Pages). HoldsBeside p r2.head (link_before page content links) (record held { free = loosed.0 })) (sym pages)
            (subst (λ (x : Header). HoldsBeside (with_page (current r0.wal was) page (chain_bytes (next_of links) content)) x (link_before page content links) (record held { free = loosed.0 })) (sym stored.0)
            (beside_header (numbered (next_number r1) r1.head) refl refl refl refl made));
        catalog = catalog_then (taken_keeps takes) (catalog_numbered (next_number r1) stored.0);
        keeps = record { records = refl; lists = refl; places = refl; free = let fewer = loosed.1 in omega (arith, fewer) };
        comes = refl;
      }

  -- the first page of a chain is read, and given back
  pub give_steps : {page next : ℕ} (content : List ℕ) → page ≢ 0 → r1 ≡ r0 → SeesSo d r0 before (λ pages. HasLink pages page next content)
      → Stores r1 (released page r1.head) r2 page (free_bytes r1.head.free)
      → ChainStepsTo d r0 r2 before (λ links. next_of links ≡ page) (λ links more. (links ≡ link_before page content more) × (next_of more ≡ next))
  give_steps {page = page} {next = next} content some same sees stored was links held step holds starts =
      let few = few_pages r0.head r0.head_range in
      let given = give_link links holds starts some in
      let has = sees was step in
      let first : Names (current r0.wal was) page (next_of given.rest) given.link.content = record {
        there = ap (λ (q : ℕ). current r0.wal was q) (sym given.here) ∙ (given.there).there;
        low = first_low given.rest given.holds few;
        some = (given.there).some;
        few = (given.there).few;
      } in
      let content_is : given.link.content ≡ content = one_content first (names_of has.link) in
      let released_is : released page r1.head ≡ record r0.head { free = page } =
      ap (λ (r : Records). released page r.head) same
      ∙ ap (λ (b : Bool). record r0.head { free = page; room = if b then 0 else r0.head.room }) (other_page r0.head.room page (room_apart holds starts some)) in
      let pages : current r2.wal was ≡ with_page (current r0.wal was) page (free_bytes r0.head.free) =
      stored.2 was ∙ ap (λ (r : Records). with_page (current r.wal was) page (free_bytes r.head.free)) same in
      let header : r2.head ≡ numbered (next_number r1) (record r0.head { free = page }) = stored.0 ∙ ap (λ (x : Header). numbered (next_number r1) x) released_is in
      record {
        more = given.rest;
        next = record held { free = held.free + 1 };
        holds = subst (λ (p : Pages). HoldsBeside p r2.head given.rest (record held { free = held.free + 1 })) (sym pages)
            (subst (λ (x : Header). HoldsBeside (with_page (current r0.wal was) page (free_bytes r0.head.free)) x given.rest (record held { free = held.free + 1 })) (sym header)
            (beside_header (numbered (next_number r1) (record r0.head { free = page })) refl refl refl refl given.holds));
        catalog = catalog_then {b = record r0.head { free = page }} (record { settings = refl; catalog = refl; catalog_length = refl }) (catalog_numbered (next_number r1) header);
        keeps = record { records = refl; lists = refl; places = refl; free = let longer = ap (λ (ls : List Link). length ls) given.are in omega (arith, longer) };
        comes = (
          given.are ∙ ap (λ (p : ℕ). link_before p given.link.content given.rest) given.here ∙ ap (λ (c : List ℕ). link_before page c given.rest) content_is,
          one_next first (names_of has.link),
        );
      }

-- no step
pub steps_none : {D : Type 0} {d : Ghosts D} (r : Records) {before : D} (Starts : List Link → Type 0) (Comes : List Link → List Link → Type 0) → ((links : List Link) → Starts links → Comes links links)
    → ChainStepsTo d r r before Starts Comes
steps_none r Starts Comes comes was links held step holds starts = record {
  more = links;
  next = held;
  holds = holds;
  catalog = record { settings = refl; catalog = refl; catalog_length = refl };
  keeps = record { records = refl; lists = refl; places = refl; free = refl };
  comes = comes links starts;
}

-- what else is known of the chain that steps have made
pub steps_weaker : {D : Type 0} {d : Ghosts D} (r0 r1 : Records) {before : D} (Starts : List Link → Type 0) (Comes Goes : List Link → List Link → Type 0) → ChainStepsTo d r0 r1 before Starts Comes
    → ((pages : Pages) (next : HeldBeside) (links more : List Link) → HoldsBeside pages r1.head more next → Starts links → Comes links more → Goes links more) → ChainStepsTo d r0 r1 before Starts Goes
steps_weaker r0 r1 Starts Comes Goes steps weaker was links held step holds starts =
    let one = steps was links held step holds starts in
    record { more = one.more; next = one.next; holds = one.holds; catalog = one.catalog; keeps = one.keeps; comes = weaker (current r1.wal was) one.next links one.more one.holds starts one.comes }

-- steps behind steps
module _ {D : Type 0} (d : Ghosts D) (r0 r1 r2 : Records) (x0 x1 : D) (Starts : List Link → Type 0) (Comes : List Link → List Link → Type 0) (Begins : List Link → Type 0) where
  pub steps_on : (Goes Ends : List Link → List Link → Type 0) → KeepsLog r0 r1 → IsStill d x0 x1 → ChainStepsTo d r0 r1 x0 Starts Comes → ChainStepsTo d r1 r2 x1 Begins Goes
      → ((links mid : List Link) → Comes links mid → Begins mid) → ((links mid more : List Link) → Comes links mid → Goes mid more → Ends links more) → ChainStepsTo d r0 r2 x0 Starts Ends
  steps_on Goes Ends keeps still first second begins ends was links held step holds starts =
      let one = first was links held step holds starts in
      let two = second was one.more one.next (step_kept {r0 = r0} {r1 = r1} keeps still step) one.holds (begins links one.more one.comes) in
      record {
        more = two.more;
        next = two.next;
        holds = two.holds;
        catalog = catalog_then one.catalog two.catalog;
        keeps = record {
          records = (two.keeps).records ∙ (one.keeps).records;
          lists = (two.keeps).lists ∙ (one.keeps).lists;
          places = (two.keeps).places ∙ (one.keeps).places;
          free = (two.keeps).free ∙ (one.keeps).free;
        };
        comes = ends links one.more two.more one.comes two.comes;
      }

-- a refusal behind steps
module _ {D : Type 0} (d : Ghosts D) (r0 r1 r2 : Records) (x0 x1 x2 : D) (named : ℕ) (Starts : List Link → Type 0) (Comes : List Link → List Link → Type 0) (Begins : List Link → Type 0) where
  pub led_later : (Few Fewer : List Link → HeldBeside → Type 0) (e : StoreError) → has_ended r0 ≡ false → KeepsLog r0 r1 × IsStill d x0 x1 × ChainStepsTo d r0 r1 x0 Starts Comes
      → ((links mid : List Link) → Starts links → Comes links mid → Begins mid) × ((links mid : List Link) (held next : HeldBeside) → Starts links → Comes links mid → KeepsBeside links held mid next → Fewer mid next → Few links held)
      → NotLed d Begins Fewer named e r1 r2 x1 x2 → NotLed d Starts Few named e r0 r2 x0 x2
  led_later Few Fewer e runs steps weaker = go e
    where
      later : {P Q : List Link → HeldBeside → Type 0} → ((links mid : List Link) (held next : HeldBeside) → Starts links → Comes links mid → KeepsBeside links held mid next → Q mid next → P links held)
          → BesideSo d r1 x1 Begins Q → BesideSo d r0 x0 Starts P
      later comes so was links held step holds starts =
          let one = steps.2 was links held step holds starts in
          comes links one.more held one.next starts one.comes one.keeps
          (so was one.more one.next (step_kept {r0 = r0} {r1 = r1} steps.0 steps.1 step) one.holds (weaker.0 links one.more starts one.comes))

      go : (e : StoreError) → NotLed d Begins Fewer named e r1 r2 x1 x2 → NotLed d Starts Few named e r0 r2 x0 x2
      go error.Disk refused =
          let rose : min (d.faults x1 + 1) (2 ^ 64 - 1) ≤ d.faults x2 = refused.0 in
          let still : d.faults x0 ≤ d.faults x1 = (steps.1).faults_later in
          (omega (arith, rose, still), ends_later {r0 = r0} {r1 = r1} {r2 = r2} runs steps.0 refused.1)
      go (error.Damaged page) refused = (
        refused.0,
        ends_later {r0 = r0} {r1 = r1} {r2 = r2} runs steps.0 refused.1,
        later {P = Nowhere} {Q = Nowhere} (λ links mid held next starts comes keeps none. none) refused.2,
      )
      go error.Full refused = (keeps_then {r0 = r0} {r1 = r1} {r2 = r2} steps.0 refused.0, refused.1, later {P = Few} {Q = Fewer} weaker.1 refused.2)
      go error.Memory refused = keeps_then {r0 = r0} {r1 = r1} {r2 = r2} steps.0 refused
      go error.Ended refused = absurd refused
      go error.Exists refused = absurd refused
      go error.NotAStore refused = absurd refused

-- records that were ended behind steps
pub ended_behind : {r0 r1 r2 : Records} → has_ended r0 ≡ false → KeepsLog r0 r1 → (has_ended r2 ≡ true) × (r2.wal ≡ r1.wal) × (r2.saved ≡ r1.saved) × (r2.head ≡ r1.head) → EndNow r0 r2
ended_behind {r0 = r0} {r1 = r1} {r2 = r2} runs keeps ended = ends_later {r0 = r0} {r1 = r1} {r2 = r2} runs keeps (ended_now {r0 = r1} {r1 = r1} {r2 = r2} keeps.runs refl ended)

pub no_full : (page : ℕ) → error.Damaged page ≡ error.Full → ⊥
no_full page same = cc

pub memory_full : error.Memory ≡ error.Full → ⊥
memory_full same = cc

pub disk_full : error.Disk ≡ error.Full → ⊥
disk_full same = cc

module _ {D : Type 0} (d : Ghosts D) (r0 r1 : Records) (x0 x1 : D) (named : ℕ) (Starts : List Link → Type 0) where
  pub led_memory : (Few : List Link → HeldBeside → Type 0) (e : StoreError) → e ≡ error.Memory → KeepsLog r0 r1 → NotLed d Starts Few named e r0 r1 x0 x1
  led_memory Few e same keeps = subst (λ (x : StoreError). NotLed d Starts Few named x r0 r1 x0 x1) (sym same) keeps

  pub given_memory : (e : StoreError) → e ≡ error.Memory → KeepsLog r0 r1 → NotGivenBack d Starts named e r0 r1 x0 x1
  given_memory e same keeps = (led_memory Nowhere e same keeps, λ full. memory_full (sym same ∙ full))

  pub given_damaged : (e : StoreError) → e ≡ error.Damaged named → EndNow r0 r1 → BesideSo d r0 x0 Starts Nowhere → NotGivenBack d Starts named e r0 r1 x0 x1
  given_damaged e same ends none =
      (subst (λ (x : StoreError). NotLed d Starts Nowhere named x r0 r1 x0 x1) (sym same) (refl, ends, none), λ full. no_full named (sym same ∙ full))

  pub take_led : (e : StoreError) → has_ended r0 ≡ false → NotTaken d named e r0 r1 x0 x1 → NotLed d Starts (λ links held. held.free ≡ 0) named e r0 r1 x0 x1
  take_led error.Disk runs refused = refused
  take_led (error.Damaged page) runs refused = (
    refused.0,
    refused.1,
    λ was links held step holds starts.
        let none = refused.2 was step in
        let first = first_free holds.shared none.0 (few_pages r0.head r0.head_range) in
        none.1 first.0 first.1.0 first.1.1,
  )
  take_led error.Full runs refused = (
    keeps_self r0 r1 runs refused.0,
    ap (λ (r : Records). has_free r) refused.0 ∙ refused.1,
    λ was links held step holds starts. none_free holds.shared holds.count refused.1,
  )
  take_led error.Memory runs refused = absurd refused
  take_led error.Ended runs refused = absurd refused
  take_led error.Exists runs refused = absurd refused
  take_led error.NotAStore runs refused = absurd refused

  -- a refusal told of what is held
  pub led_stored : (needs : Held → ℕ) (Few : List Link → HeldBeside → Type 0) (Lacks : Held → Type 0) (e : StoreError) → has_ended r0 ≡ false → IsStill d x0 x1
      → ((was : Image) (held : Held) → HoldsBehind (current r0.wal was) r0.head held
      → (links : List Link) × (beside : HeldBeside) × HoldsBeside (current r0.wal was) r0.head links beside × Starts links × (Few links beside → held.free < needs held))
      → NotLed d Starts Few named e r0 r1 x0 x1 → NotStored d needs Lacks named e r0 r1 x0 x1
  led_stored needs Few Lacks error.Disk runs still few refused = refused
  led_stored needs Few Lacks (error.Damaged told) runs still few refused = record {
    page = refused.0;
    ends = refused.1;
    lacks = λ saved now stands.
        let one = few (stands.keeps).image now (stands.holds).behind in
        absurd (refused.2 (stands.keeps).image one.0 one.1 (stands.keeps).step one.2 one.3);
  }
  led_stored needs Few Lacks error.Full runs still few refused = record {
    runs = runs_on runs refused.0;
    none_free = refused.1;
    few = λ saved now stands.
        let one = few (stands.keeps).image now (stands.holds).behind in
        one.4 (refused.2 (stands.keeps).image one.0 one.1 (stands.keeps).step one.2 one.3);
    keeps = saved_kept refused.0 still;
  }
  led_stored needs Few Lacks error.Memory runs still few refused = (runs_on runs refused, saved_kept refused still)
  led_stored needs Few Lacks error.Ended runs still few refused = absurd refused
  led_stored needs Few Lacks error.Exists runs still few refused = absurd refused
  led_stored needs Few Lacks error.NotAStore runs still few refused = absurd refused

  pub given_changed : (Lacks : Held → Type 0) (e : StoreError) → has_ended r0 ≡ false → IsStill d x0 x1 → ((saved now : Held) → StandsFor d r0 x0 saved now → BesideSo d r0 x0 Starts Nowhere → Lacks now)
      → NotGivenBack d Starts named e r0 r1 x0 x1 → NotChanged d Lacks named e r0 r1 x0 x1
  given_changed Lacks error.Disk runs still lacks refused = refused.0
  given_changed Lacks (error.Damaged told) runs still lacks refused = record { page = refused.0.0; ends = refused.0.1; lacks = λ saved now stands. lacks saved now stands refused.0.2 }
  given_changed Lacks error.Memory runs still lacks refused = (runs_on runs refused.0, saved_kept refused.0 still)
  given_changed Lacks error.Full runs still lacks refused = absurd (refused.1 refl)
  given_changed Lacks error.Ended runs still lacks refused = absurd refused.0
  given_changed Lacks error.Exists runs still lacks refused = absurd refused.0
  given_changed Lacks error.NotAStore runs still lacks refused = absurd refused.0

module _ {D : Type 0} (d : Ghosts D) (r0 r1 : Records) (x0 x1 : D) (named : ℕ) where
  -- the first page of a chain wasn't read
  pub link_given : (page : ℕ) (e : StoreError) → page ≢ 0 → has_ended r0 ≡ false → NotListed d (NoLink r0.head.pages page) named e r0 r1 x0 x1
      → NotGivenBack d (λ links. next_of links ≡ page) named e r0 r1 x0 x1
  link_given page error.Disk some runs refused = (refused, disk_full)
  link_given page (error.Damaged told) some runs refused = (
    (
      refused.0,
      refused.1,
      λ was links held step holds starts.
          no_list_from (few_pages r0.head r0.head_range) (λ zero. some (sym starts ∙ zero)) (subst (λ (p : ℕ). NoLink r0.head.pages p (current r0.wal was)) (sym starts) (refused.2 was step))
          (content_of links) (chain_from holds),
    ),
    no_full told,
  )
  link_given page error.Memory some runs refused = (keeps_self r0 r1 runs refused.1, memory_full)
  link_given page error.Ended some runs refused = absurd refused
  link_given page error.Exists some runs refused = absurd refused
  link_given page error.NotAStore some runs refused = absurd refused
  link_given page error.Full some runs refused = absurd refused

-- a list that is held is one of all lists
pub all_there : {pages : Pages} {h : Header} {held : Held} (holds : HoldsBehind pages h held) (first : ℕ) (list : List ℕ) → first ≢ h.catalog → held.lists first ≡ Some list → all_lists holds first ≡ Some list
all_there {h = h} holds first list other there =
    sym (ap (λ (b : Bool). if b then None else all_lists holds first) (other_page first h.catalog other)) ∙ sym (holds.lists first) ∙ there

-- what is held beside a chain, by what it was
pub beside_is : (next : HeldBeside) {records : ℕ → ℕ → Option (List ℕ)} {lists : ℕ → Option (List ℕ)} {places : ℕ → List ℕ} → next.records ≡ records → next.lists ≡ lists → next.places ≡ places
    → next ≡ record { records = records; lists = lists; places = places; free = next.free }
beside_is next {records = records} {lists = lists} same_records same_lists same_places =
    ap (λ (r : ℕ → ℕ → Option (List ℕ)). record { records = r; lists = next.lists; places = next.places; free = next.free }) same_records
    ∙ ap (λ (l : ℕ → Option (List ℕ)). record { records = records; lists = l; places = next.places; free = next.free }) same_lists
    ∙ ap (λ (p : ℕ → List ℕ). record { records = records; lists = lists; places = p; free = next.free }) same_places

module _ {D : Type 0} (d : Ghosts D) (r0 r1 : Records) (before : D) where
  -- a chain that was written is a list
  pub written_steps : (first : ℕ) (bytes : List ℕ) → 1 ≤ length bytes → ChainStepsTo d r0 r1 before (λ links. links ≡ []) (λ links more. (next_of more ≡ first) × (content_of more ≡ bytes))
      → StepsTo d r0 r1 before (λ was now. WritesList first bytes was now)
  written_steps first bytes some steps was held step holds =
      let led = steps was [] (record { records = held.records; lists = all_lists holds; places = all_places holds; free = held.free }) step (enter_none holds) refl in
      let beside = subst (λ (b : HeldBeside). HoldsBeside (current r1.wal was) r1.head led.more b) (beside_is led.next (led.keeps).records (led.keeps).lists (led.keeps).places) led.holds in
      let written = written_holds holds (led.next).free bytes (led.comes).1 some beside led.catalog in
      let lists : ℕ → Option (List ℕ) = λ p. if p == first then Some bytes else held.lists p in
      let count = chain_count_of led.holds in
      let long = ap length (led.comes).1 in
      let fewer = (led.keeps).free in (
        record held { lists = lists; free = (led.next).free },
        subst (λ (f : ℕ). HoldsBehind (current r1.wal was) r1.head (record held { lists = λ p. if p == f then Some bytes else held.lists p; free = (led.next).free })) (led.comes).0 written.0,
        record {
          was_none = ap (λ (f : ℕ). held.lists f) (sym (led.comes).0) ∙ written.1;
          changes = record { lists = refl; records = refl; catalog = refl; settings = refl };
          free = omega (arith, count, ap (λ (n : ℕ). chain_count n) long, fewer);
        },
      )

  -- a list whose chain was given back has gone
  pub freed_steps : (first len : ℕ) → first ≢ r0.head.catalog
      → ChainStepsTo d r0 r1 before (λ links. next_of links ≡ first) (λ links more. (more ≡ []) × (length (content_of links) ≡ len)) → FreesTo d r0 r1 before first len
  freed_steps first len other steps was held list step holds there =
      let entered = enter holds first list (all_there holds first list other there) in
      let led = steps was entered.links (record { records = held.records; lists = all_but holds first; places = places_but holds first; free = held.free }) step entered.holds entered.here in
      let beside = subst (λ (b : HeldBeside). HoldsBeside (current r1.wal was) r1.head led.more b) (beside_is led.next (led.keeps).records (led.keeps).lists (led.keeps).places) led.holds in
      let alone = subst (λ (ls : List Link). HoldsBeside (current r1.wal was) r1.head ls (record { records = held.records; lists = all_but holds first; places = places_but holds first; free = (led.next).free })) (led.comes).0 beside in
      let count = chain_count_of entered.holds in
      let none = ap (λ (ls : List Link). length ls) (led.comes).0 in
      let more = (led.keeps).free in
      let long : chain_count (length (content_of entered.links)) ≡ pages_of_list (held.lists first) =
      ap (λ (b : List ℕ). chain_count (length b)) entered.are ∙ ap (λ (o : Option (List ℕ)). pages_of_list o) (sym there) in (
        sym (ap length entered.are) ∙ (led.comes).1,
        (
          record held { lists = λ p. if p == first then None else held.lists p; free = (led.next).free },
          freed_holds holds first (led.next).free other alone led.catalog,
          record { changes = record { lists = refl; records = refl; catalog = refl; settings = refl }; free = omega (arith, count, none, more, long) },
        ),
      )

-- With the header put, what is held behind it is what the records stand for.
pub header_stands : {D : Type 0} {d : Ghosts D} {r0 r2 : Records} {x0 x2 : D} {saved now next : Held} (r1 : Records) → KeepsLog r0 r2 → IsStill d x0 x2 → IsInRange r2.head → r2.head ≡ numbered (next_number r1) r1.head
    → ((was : Image) → current r2.wal was ≡ with_page (current r1.wal was) 0 (header_bytes r2.head)) → (stands : StandsFor d r0 x0 saved now) → HoldsBehind (current r1.wal (stands.keeps).image) r1.head next
    → AreKnown r2.catalog_pages next.catalog.pages → StandsFor d r2 x2 saved next
header_stands {r0 = r0} {r2 = r2} {saved = saved} {next = next} r1 keeps still range head pages stands behind known = record {
  known = known;
  keeps = record {
    runs = keeps.runs;
    image = (stands.keeps).image;
    step = step_kept {r0 = r0} {r1 = r2} keeps still (stands.keeps).step;
    holds = subst (λ (h : Header). HoldsBy (replay (stands.keeps).image) h saved) (sym keeps.saved) (stands.keeps).holds;
  };
  holds = subst (λ (p : Pages). HoldsBy p r2.head next) (sym (pages (stands.keeps).image))
      (holds_all range (subst (λ (h : Header). HoldsBehind (current r1.wal (stands.keeps).image) h next) (sym head) (holds_numbered newest_format (next_number r1) behind)));
}

-- the pages of a list that is written
pub written_begins : {next left : ℕ} {bytes content : List ℕ} {mid : List Link} → 1 ≤ left → IsContentAt bytes (left - 1) content → IsWritten next left bytes mid → MayLead next content mid
written_begins some is comes = (
  comes.first,
  λ more. is.full (let count = comes.count in omega (arith, more, count, some)),
)

pub written_ends : {next left : ℕ} {bytes content : List ℕ} {mid : List Link} (page : ℕ) (more : List Link) → 1 ≤ left → IsContentAt bytes (left - 1) content → IsWritten next left bytes mid
    → more ≡ link_before page content mid → IsWritten page (left - 1) bytes more
written_ends {left = left} {bytes = bytes} {content = content} page more some is comes goes =
    let here : left ≡ left - 1 + 1 = omega (arith, some) in
    let longer = ap (λ (ls : List Link). length ls) goes in
    let count = comes.count in
    record {
      first = ap next_of goes;
      are = ap content_of goes ∙ ap (λ (r : List ℕ). content ++ r) (comes.are ∙ ap (λ (n : ℕ). drop (n * 8184) bytes) here) ∙ is.are;
      count = omega (arith, longer, count, some);
    }

pub written_few : {next left : ℕ} {bytes : List ℕ} {links mid : List Link} {held after : HeldBeside} → 1 ≤ left → links ≡ [] → IsWritten next left bytes mid → KeepsBeside links held mid after → after.free ≡ 0
    → held.free < chain_count (length bytes)
written_few some starts comes keeps none =
    let empty = ap (λ (ls : List Link). length ls) starts in
    let count = comes.count in
    let free = keeps.free in
    omega (arith, empty, count, free, none, some)

-- the pages of a list that is given back
pub left_ends : {page left len : ℕ} {links mid : List Link} (next : ℕ) (content : List ℕ) (more : List Link) → length content ≤ left → IsChainLeft page left len links mid
    → (mid ≡ link_before page content more) × (next_of more ≡ next) → IsChainLeft next (left - length content) len links more
left_ends next content more low comes goes =
    let whole = ap (λ (ls : List Link). length (content_of ls)) goes.0 in
    let both = length-append content (content_of more) in
    let count = comes.count in
    record { first = goes.1; count = omega (arith, whole, both, count, low) }

-- where no byte is left, no page is
pub left_none : {pages : Pages} {h : Header} {held : HeldBeside} {page left len : ℕ} {links : List Link} (mid : List Link) → HoldsBeside pages h mid held → next_of mid ≢ 0 → IsChainLeft page left len links mid → left ≡ 0
    → length (content_of links) ≡ len → ⊥
left_none mid holds some comes none long =
    let first = has_first some (chain_from holds) in
    let whole = ap length first.are ∙ length-append first.content first.rest in
    let here = first.some in
    let count = comes.count in
    omega (arith, whole, here, count, none, long)

-- a page that has more bytes than are left isn't one of a list of that length
pub left_past : {page left len : ℕ} {links mid : List Link} (next : ℕ) (content : List ℕ) (more : List Link) → left < length content → IsChainLeft page left len links mid
    → (mid ≡ link_before page content more) × (next_of more ≡ next) → length (content_of links) ≡ len → ⊥
left_past next content more past comes goes long =
    let whole = ap (λ (ls : List Link). length (content_of ls)) goes.0 in
    let both = length-append content (content_of more) in
    let count = comes.count in
    omega (arith, whole, both, count, past, long)
