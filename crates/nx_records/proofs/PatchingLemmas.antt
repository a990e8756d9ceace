-- Bytes in the place of as many of the catalog's, page by page.
use Rattle.std.proofs.Common.{◌≡◌, ◌⊎◌, ℕ, zero, suc, ◌+◌, ◌*◌, ◌-◌, ◌<◌, ◌≤◌, List, [], ◌∷◌, ◌++◌, length, length-append, refl, sym, ap, ap₂, subst, ◌∙◌, arith, true, false, inl, inr}
use Rattle.std.proofs.lemmas.Bool.{eqb-true, false≢true}
use Rattle.std.proofs.lemmas.List.{append_assoc, append-nil}
use Rattle.std.proofs.lemmas.Option.{slice_get_past, slice_get_within, slice_get-get_or}
use Rattle.std.specs.Prelude.{◌≢◌, ◌==◌, ◌^◌, min, slice_get, get_or, Option, Some, None}
use Rattle.nx_host.specs.Disk.{Image}
use Rattle.nx_host.specs.declared.disk.Disk.{Ghosts}
use Rattle.nx_host.specs.Still.{IsStill}
use Rattle.nx_host.proofs.DiskLemmas.{settled_still}
use Rattle.nx_replay.specs.Log.{Pages, replay}
use Rattle.nx_chain.specs.Chain.{chain_bytes}
use Rattle.nx_wal.specs.declared.wal.Wal.{Wal}
use Rattle.nx_wal.specs.Wal.{IsInStep, current}
use Rattle.nx_holdings.specs.declared.header.Header.{Header}
use Rattle.nx_holdings.specs.Holdings.{with_page, times, Link, AreLinked, next_of, content_of, pages_of_links, chain_count, Held, HoldsBehind, HoldsBy}
use Rattle.nx_holdings.proofs.TimesLemmas.{times_one, with_page-here, with_page-other}
use Rattle.nx_holdings.proofs.SharedLemmas.{equal_or}
use Rattle.nx_holdings.proofs.ChainLemmas.{Names, one_content}
use Rattle.nx_links.specs.Lists.{IsListFrom}
use Rattle.nx_links.specs.Beside.{HeldBeside, HoldsBeside, KeepsCatalog}
use Rattle.nx_links.proofs.BesideLemmas.{chain_linked, chain_count_of, chain_low, chain_once, join_times, pages_join, linked_behind}
use Rattle.nx_links.proofs.JoinLemmas.{IsEntered, all_places, all_but, places_but, enter, catalog_holds}
use Rattle.nx_records.specs.declared.records.Records.{Records}
use Rattle.nx_records.specs.declared.error.StoreError.{StoreError}
use Rattle.nx_records.specs.declared.error.StoreError.TheVariants as error
use Rattle.nx_records.specs.Records.{has_ended, current_pages, waiting, KeepsLog, HasSaved, StandsFor, KeepsSaved, PutsChangedAlone}
use Rattle.nx_records.specs.Within.{patched}
use Rattle.nx_records.specs.Pages.{SeesSo, HoldsSo}
use Rattle.nx_records.specs.Refusals.{EndNow, RunsOn, NotChanged}
use Rattle.nx_records.specs.Chains.{HasLink, NoLink, NotListed, SetsLink}
use Rattle.nx_records.specs.Patching.{with_patch, PatchesTo, PatchesAlone, PutsAt, NotPatched}
use Rattle.nx_records.proofs.StandLemmas.{keeps_then, saved_kept, step_kept}
use Rattle.nx_records.proofs.RefusalLemmas.{keeps_self, runs_on, ended_now, ends_later}
use Rattle.nx_records.proofs.ChainLemmas.{names_of, few_pages, no_list_from}
use Rattle.nx_records.proofs.RewritingLemmas.{seen_same, put_seen, content_join, pages_length, first_same, rest_from, said, set_holds}
use Rattle.nx_records.proofs.PatchedLemmas.{patched_none, patched_behind, patched_front, patched_length, patched_then}

some_same : {x y : ℕ} → ◌≡◌ {A = Option ℕ} (Some x) (Some y) → x ≡ y
some_same same = cc

none_some : {x : ℕ} → ◌≡◌ {A = Option ℕ} None (Some x) → ⊥
none_some same = cc

-- ---- the page of a chain with an index

record IsAtIndex (links : List Link) (index page : ℕ) : Type 0 where
  done : List Link
  link : Link
  rest : List Link
  are : links ≡ done ++ (link ∷ rest)
  here : link.page ≡ page
  count : length done ≡ index

at_index : (links : List Link) (index page : ℕ) → slice_get (pages_of_links links) index ≡ Some page → IsAtIndex links index page
at_index [] index page there = absurd (none_some there)
at_index (l ∷ ls) zero page there = record { done = []; link = l; rest = ls; are = refl; here = some_same there; count = refl }
at_index (l ∷ ls) (suc index) page there =
    let one = at_index ls index page there in
    let count = one.count in
    record { done = l ∷ one.done; link = one.link; rest = one.rest; are = ap (λ (r : List Link). l ∷ r) one.are; here = one.here; count = omega (arith, count) }

-- all pages before another are full
full_before : (pages : Pages) (done : List Link) (l : Link) (rest : List Link) → AreLinked pages (done ++ (l ∷ rest)) → length (content_of done) ≡ 8184 * length done
full_before pages [] l rest linked = refl
full_before pages (d ∷ ds) l rest linked =
    let long = length-append ds (l ∷ rest) in
    let full : length d.content ≡ 8184 = linked.1 (omega (arith, long)) in
    let more = full_before pages ds l rest linked.2 in
    let both = length-append d.content (content_of ds) in
    omega (arith, full, more, both)

-- no page comes at two indices
twice : (ps : List ℕ) (i p : ℕ) → slice_get ps i ≡ Some p → slice_get ps (suc i) ≡ Some p → 2 ≤ times p ps
twice [] i p one two = absurd (none_some one)
twice (q ∷ []) zero p one two = absurd (none_some two)
twice (q ∷ r ∷ ps) zero p one two =
    let first : q ≡ p = some_same one in
    let second : r ≡ p = some_same two in
    let a : times p (q ∷ r ∷ ps) ≡ 1 + times p (r ∷ ps) = ap (λ (x : ℕ). times p (x ∷ r ∷ ps)) first ∙ times_one p (r ∷ ps) in
    let b : times p (r ∷ ps) ≡ 1 + times p ps = ap (λ (x : ℕ). times p (x ∷ ps)) second ∙ times_one p ps in
    omega (arith, a, b)
twice (q ∷ ps) (suc i) p one two = let more = twice ps i p one two in omega (arith, more)

-- other bytes on one page of a chain
module _ (pages : Pages) (done : List Link) (l : Link) (rest : List Link) (index from : ℕ) (bytes : List ℕ) (linked : AreLinked pages (done ++ (l ∷ rest))) (count : length done ≡ index) where
  abbrev changed : Link
  changed = record { page = l.page; content = patched from bytes l.content }

  changed_content : from + length bytes ≤ length l.content → content_of (done ++ (changed ∷ rest)) ≡ patched (index * 8184 + from) bytes (content_of (done ++ (l ∷ rest)))
  changed_content within =
      let full = full_before pages done l rest linked in
      let here : length (content_of done) + from ≡ index * 8184 + from = omega (arith, full, count) in
      content_join done (changed ∷ rest)
      ∙ ap (λ (b : List ℕ). content_of done ++ b) (sym (patched_front l.content (content_of rest) bytes from within))
      ∙ sym (patched_behind (content_of done) (l.content ++ content_of rest) bytes from)
      ∙ ap₂ (λ (n : ℕ) (b : List ℕ). patched n bytes b) here (sym (content_join done (l ∷ rest)))

  changed_pages : pages_of_links (done ++ (changed ∷ rest)) ≡ pages_of_links (done ++ (l ∷ rest))
  changed_pages = pages_join done (changed ∷ rest) ∙ sym (pages_join done (l ∷ rest))

-- The catalog's chain stands aside, and one of its pages is this.
record IsPageOf (pages : Pages) (h : Header) (held : Held) (index page : ℕ) (beside : HeldBeside) : Type 0 where
  done : List Link
  link : Link
  rest : List Link
  here : link.page ≡ page
  count : length done ≡ index
  begins : next_of (done ++ (link ∷ rest)) ≡ h.catalog
  are : content_of (done ++ (link ∷ rest)) ≡ held.catalog.bytes
  on : pages_of_links (done ++ (link ∷ rest)) ≡ held.catalog.pages
  holds : HoldsBeside pages h (done ++ (link ∷ rest)) beside

module _ {pages : Pages} {h : Header} {held : Held} (holds : HoldsBehind pages h held) where
  abbrev rest_held : HeldBeside
  rest_held = record { records = held.records; lists = all_but holds h.catalog; places = places_but holds h.catalog; free = held.free }

  entered : IsEntered pages h h.catalog held.catalog.bytes (all_places holds h.catalog) rest_held
  entered = enter holds h.catalog held.catalog.bytes holds.catalog

  page_of : (index page : ℕ) → slice_get held.catalog.pages index ≡ Some page → IsPageOf pages h held index page rest_held
  page_of index page there =
      let on : pages_of_links entered.links ≡ held.catalog.pages = entered.on ∙ holds.catalog_pages in
      let at = at_index entered.links index page (ap (λ (ps : List ℕ). slice_get ps index) on ∙ there) in
      record {
        done = at.done;
        link = at.link;
        rest = at.rest;
        here = at.here;
        count = at.count;
        begins = ap next_of (sym at.are) ∙ entered.here;
        are = ap content_of (sym at.are) ∙ entered.are;
        on = ap pages_of_links (sym at.are) ∙ on;
        holds = subst (λ (ls : List Link). HoldsBeside pages h ls rest_held) at.are entered.holds;
      }

  -- the catalog has a page for each 8,184 bytes
  page_there : (index : ℕ) → index * 8184 < h.catalog_length → slice_get held.catalog.pages index ≡ None → ⊥
  page_there index within none =
      let on : pages_of_links entered.links ≡ held.catalog.pages = entered.on ∙ holds.catalog_pages in
      let long = ap length on in
      let links = pages_length entered.links in
      let count = chain_count_of entered.holds in
      let bytes = ap (λ (b : List ℕ). chain_count (length b)) entered.are in
      let all = ap chain_count holds.catalog_length in
      none_some (sym none ∙ slice_get-get_or held.catalog.pages index 0 (omega (arith, long, links, count, bytes, all, within)))

  pub pages_differ : (index p : ℕ) → slice_get held.catalog.pages index ≡ Some p → slice_get held.catalog.pages (index + 1) ≡ Some p → ⊥
  pages_differ index p one two =
      let on : pages_of_links entered.links ≡ held.catalog.pages = entered.on ∙ holds.catalog_pages in
      let next : index + 1 ≡ suc index = omega arith in
      let both = twice held.catalog.pages index p one (ap (λ (n : ℕ). slice_get held.catalog.pages n) (sym next) ∙ two) in
      let same = ap (λ (ps : List ℕ). times p ps) on in
      let once = chain_once entered.holds p in
      omega (arith, both, same, once)

  -- a page has the bytes that the catalog has there
  page_long : {index page : ℕ} (at : IsPageOf pages h held index page rest_held) (from count : ℕ) → from + count ≤ 8184 → index * 8184 + (from + count) ≤ h.catalog_length → from + count ≤ length (at.link).content
  page_long {index = index} at from count few within = by_rest at.rest refl
    where
      linked : AreLinked pages (at.done ++ (at.link ∷ at.rest))
      linked = chain_linked at.holds

      by_rest : (rest : List Link) → at.rest ≡ rest → from + count ≤ length (at.link).content
      by_rest [] none =
          let full = full_before pages at.done at.link at.rest linked in
          let here = at.count in
          let whole = ap length (content_join at.done (at.link ∷ at.rest)) in
          let both = length-append (content_of at.done) ((at.link).content ++ content_of at.rest) in
          let last = length-append (at.link).content (content_of at.rest) in
          let empty = ap (λ (r : List Link). length (content_of r)) none in
          let bytes = ap length at.are in
          let all = holds.catalog_length in
          omega (arith, full, here, whole, both, last, empty, bytes, all, within)
      by_rest (m ∷ ms) more =
          let behind = linked_behind pages at.done (at.link ∷ at.rest) linked in
          let long = ap (λ (r : List Link). length r) more in
          let full : length (at.link).content ≡ 8184 = behind.1 (omega (arith, long)) in
          omega (arith, full, few)

-- ---- a page that was read

module _ (r : Records) (was : Image) {held : Held} (index : ℕ) {page : ℕ} (holds : HoldsBehind (current r.wal was) r.head held) (there : slice_get held.catalog.pages index ≡ Some page) where
  said_there : {next : ℕ} {had : List ℕ} (has : HasLink (current r.wal was) page next had) → ((page_of holds index page there).link).content ≡ had
  said_there has = let at = page_of holds index page there in (said at.done at.link at.rest (few_pages r.head r.head_range) at.holds at.here has).1

  -- it has as many bytes as are put there
  pub page_short : {next : ℕ} {had : List ℕ} → HasLink (current r.wal was) page next had → (from count : ℕ) → from + count ≤ 8184 → index * 8184 + (from + count) ≤ r.head.catalog_length → length had < from + count → ⊥
  page_short has from count few within short =
      let long = page_long holds (page_of holds index page there) from count few within in
      let same = ap length (said_there has) in
      omega (arith, long, same, short)

  -- it is a chain page
  pub page_linked : NoLink r.head.pages page (current r.wal was) → ⊥
  page_linked none =
      let at = page_of holds index page there in
      let both = join_times (at.link).page at.done (at.link ∷ at.rest) in
      let one = times_one (at.link).page (pages_of_links at.rest) in
      let low = (chain_low at.holds (at.link).page (omega (arith, both, one))).0 in
      let same = at.here in
      no_list_from (few_pages r.head r.head_range) (λ zero. omega (arith, low, same, zero)) none (content_of (at.link ∷ at.rest))
      (subst (λ (p : ℕ). IsListFrom r.head.pages (current r.wal was) p (content_of (at.link ∷ at.rest))) at.here (rest_from at.done (at.link ∷ at.rest) at.holds))

-- Bytes were put on a page of the catalog.
module _ (r1 r2 : Records) (was : Image) {held : Held} (index : ℕ) {page next : ℕ} {had content : List ℕ} (from : ℕ) (bytes : List ℕ) (holds : HoldsBehind (current r1.wal was) r1.head held)
    (there : slice_get held.catalog.pages index ≡ Some page) (has : HasLink (current r1.wal was) page next had) (sets : SetsLink page next had content r1 r2) (are : content ≡ patched from bytes had)
    (within : from + length bytes ≤ length had) where
  abbrev at : IsPageOf (current r1.wal was) r1.head held index page (rest_held holds)
  at = page_of holds index page there

  is : (at.link).content ≡ had
  is = said_there r1 was index holds there has

  set : HoldsBeside (current r2.wal was) r2.head (at.done ++ (record { page = (at.link).page; content = content } ∷ at.rest)) (rest_held holds) × KeepsCatalog r1.head r2.head
  set =
      let long : length content ≡ length had = ap length are ∙ patched_length had bytes from within in
      let some = ((has.link).is).some in
      let few = ((has.link).is).few in
      set_holds {r1 = r1} {r2 = r2} was at.done at.link at.rest at.holds at.here has sets (omega (arith, some, long)) (omega (arith, few, long)) (λ apart. long ∙ has.full apart)

  abbrev place : ℕ
  place = index * 8184 + from

  abbrev links : List Link
  links = at.done ++ (changed (current r1.wal was) at.done at.link at.rest index from bytes (chain_linked at.holds) at.count ∷ at.rest)

  fits : place + length bytes ≤ length held.catalog.bytes
  fits =
      let full = full_before (current r1.wal was) at.done at.link at.rest (chain_linked at.holds) in
      let here = at.count in
      let whole = ap length (content_join at.done (at.link ∷ at.rest)) in
      let both = length-append (content_of at.done) ((at.link).content ++ content_of at.rest) in
      let last = length-append (at.link).content (content_of at.rest) in
      let all = ap length at.are in
      let same = ap length is in
      omega (arith, full, here, whole, both, last, all, same, within)

  pub patched_holds : HoldsBehind (current r2.wal was) r2.head (with_patch held (index * 8184 + from) bytes)
  patched_holds =
      let linked = chain_linked at.holds in
      let same : content ≡ patched from bytes (at.link).content = are ∙ ap (λ (b : List ℕ). patched from bytes b) (sym is) in
      let beside : HoldsBeside (current r2.wal was) r2.head links (rest_held holds) =
      subst (λ (c : List ℕ). HoldsBeside (current r2.wal was) r2.head (at.done ++ (record { page = (at.link).page; content = c } ∷ at.rest)) (rest_held holds)) same set.0 in
      let long = ap length is in
      let content_is : content_of links ≡ patched place bytes held.catalog.bytes =
      changed_content (current r1.wal was) at.done at.link at.rest index from bytes linked at.count (omega (arith, within, long)) ∙ ap (λ (b : List ℕ). patched place bytes b) at.are in
      let pages : pages_of_links links ≡ pages_of_links (at.done ++ (at.link ∷ at.rest)) = changed_pages (current r1.wal was) at.done at.link at.rest index from bytes linked at.count in
      let begins : next_of links ≡ r2.head.catalog = first_same links (at.done ++ (at.link ∷ at.rest)) pages ∙ at.begins ∙ sym (set.1).catalog in
      let as_long : length (patched place bytes held.catalog.bytes) ≡ length held.catalog.bytes = patched_length held.catalog.bytes bytes place fits in
      let whole : length (patched place bytes held.catalog.bytes) ≡ r2.head.catalog_length = as_long ∙ holds.catalog_length ∙ sym (set.1).catalog_length in
      let some = ((has.link).is).some in
      let room = fits in
      let least = omega_least in
      let joined = catalog_holds holds held.free (patched place bytes held.catalog.bytes) content_is (omega (arith, as_long, least)) beside set.1 in
      subst (λ (ps : List ℕ). HoldsBehind (current r2.wal was) r2.head (record held { catalog = record { bytes = patched place bytes held.catalog.bytes; pages = ps } })) (pages ∙ at.on)
      (subst (λ (h : Header). HoldsBehind (current r2.wal was) h (record held { catalog = record { bytes = patched place bytes held.catalog.bytes; pages = pages_of_links links } }))
      (ap₂ (λ (c n : ℕ). record r2.head { catalog = c; catalog_length = n }) begins whole) joined)
    where
      -- the catalog has a byte
      omega_least : 1 ≤ length held.catalog.bytes
      omega_least =
          let some = ((has.link).is).some in
          let whole = ap length (content_join at.done (at.link ∷ at.rest)) in
          let both = length-append (content_of at.done) ((at.link).content ++ content_of at.rest) in
          let last = length-append (at.link).content (content_of at.rest) in
          let all = ap length at.are in
          let same = ap length is in
          omega (arith, some, whole, both, last, all, same)

-- the page was put where its bytes changed
pub put_at : {r1 r2 : Records} (was : Image) (index : ℕ) {page next : ℕ} {had content : List ℕ} (pages : List ℕ) → slice_get pages index ≡ Some page → HasLink (current r1.wal was) page next had → SetsLink page next had content r1 r2
    → 1 ≤ length content → length content ≤ 8184 → PutsAt pages index r1 r2 was
put_at was index pages there has (inl same) some few p = inl (ap (λ (r : Records). waiting r p) same.1)
put_at {r1 = r1} {r2 = r2} was index {page = page} {next = next} {content = content} pages there has (inr other) some few p = elim (equal_or p page) [
  | inl same ↦ inr (
    there ∙ ap (λ (q : ℕ). Some q) (sym same),
    λ seen.
        let now : current r2.wal was p ≡ Some (chain_bytes next content) =
        ap (λ (f : Pages). f p) (put_seen other.1 was) ∙ ap (λ (q : ℕ). with_page (current r1.wal was) page (chain_bytes next content) q) same ∙ with_page-here (current r1.wal was) page (chain_bytes next content) in
        let before : Names (current r1.wal was) page next content = record { there = ap (current r1.wal was) (sym same) ∙ sym seen ∙ now; low = ((has.link).is).low; some = some; few = few } in
        other.0 (one_content before (names_of has.link)),
  )
  | inr apart ↦ inl (other.1.waits p ∙ with_page-other (waiting r1) page (chain_bytes next content) p apart)
]

-- nothing was put
pub put_none : (r : Records) (was : Image) (pages : List ℕ) (index : ℕ) → PutsAt pages index r r was
put_none r was pages index p = inl refl

pub patch_none : {D : Type 0} (d : Ghosts D) (r : Records) (before : D) (pages : List ℕ) (at : ℕ) (bytes : List ℕ) → bytes ≡ [] → PatchesTo d r r before pages at bytes
patch_none d r before pages at bytes none was held step holds on =
    subst (λ (b : List ℕ). HoldsBehind (current r.wal was) r.head (record held { catalog = record { bytes = b; pages = held.catalog.pages } })) (sym (ap (λ (b : List ℕ). patched at b held.catalog.bytes) none ∙ patched_none at held.catalog.bytes)) holds

-- ---- one part behind the other

module _ {D : Type 0} (d : Ghosts D) (r0 r1 r2 : Records) (x0 x1 : D) (pages : List ℕ) (keeps : KeepsLog r0 r1) (still : IsStill d x0 x1) where
  pub patches_both : (at index from : ℕ) (front rest bytes : List ℕ) → index * 8184 + from ≡ at → front ++ rest ≡ bytes → (1 ≤ length rest → from + length front ≡ 8184) → at + length bytes ≤ r0.head.catalog_length
      → PatchesTo d r0 r1 x0 pages (index * 8184 + from) front → PatchesTo d r1 r2 x1 pages ((index + 1) * 8184 + 0) rest → PatchesTo d r0 r2 x0 pages at bytes
  patches_both at index from front rest bytes here whole full within first second was held step holds on =
      subst (λ (b : List ℕ). HoldsBehind (current r2.wal was) r2.head (record held { catalog = record { bytes = b; pages = held.catalog.pages } })) (joined rest refl)
      (second was (with_patch held (index * 8184 + from) front) (step_kept {r0 = r0} {r1 = r1} keeps still step) (first was held step holds on) on)
    where
      joined : (more : List ℕ) → rest ≡ more → patched ((index + 1) * 8184 + 0) rest (patched (index * 8184 + from) front held.catalog.bytes) ≡ patched at bytes held.catalog.bytes
      joined [] none =
          ap (λ (b : List ℕ). patched ((index + 1) * 8184 + 0) b (patched (index * 8184 + from) front held.catalog.bytes)) none ∙ patched_none ((index + 1) * 8184 + 0) (patched (index * 8184 + from) front held.catalog.bytes)
          ∙ ap₂ (λ (n : ℕ) (b : List ℕ). patched n b held.catalog.bytes) here (sym (append-nil front) ∙ ap (λ (b : List ℕ). front ++ b) (sym none) ∙ whole)
      joined (m ∷ ms) some =
          let long = ap length some in
          let ends = full (omega (arith, long)) in
          let place : (index + 1) * 8184 + 0 ≡ index * 8184 + from + length front = omega (arith, ends) in
          let all = ap length whole in
          let both = length-append front rest in
          let catalog = holds.catalog_length in
          ap (λ (n : ℕ). patched n rest (patched (index * 8184 + from) front held.catalog.bytes)) place
          ∙ patched_then held.catalog.bytes front rest (index * 8184 + from) (omega (arith, all, both, catalog, within, here))
          ∙ ap₂ (λ (n : ℕ) (b : List ℕ). patched n b held.catalog.bytes) here whole

  pub alone_both : (index : ℕ) → ((was : Image) → IsInStep d r0.wal x0 was → PutsAt pages index r0 r1 was) → ((was : Image) → IsInStep d r1.wal x1 was → PutsAt pages (index + 1) r1 r2 was) → PatchesAlone d r0 r2 x0 pages
  alone_both index first second was held step holds on p other seen =
      elim (second was (step_kept {r0 = r0} {r1 = r1} keeps still step) p) [
        | inl stays ↦ elim (first was step p) [
          | inl too ↦ stays ∙ too
          | inr put ↦ absurd (put.1 (sym (seen_same r1 r2 was p stays) ∙ seen))
        ]
        | inr put ↦ elim (first was step p) [
          | inl too ↦ absurd (put.1 (seen ∙ sym (seen_same r0 r1 was p too)))
          | inr before ↦ absurd (pages_differ holds index p (ap (λ (ps : List ℕ). slice_get ps index) on ∙ before.0) (ap (λ (ps : List ℕ). slice_get ps (index + 1)) on ∙ put.0))
        ]
      ]

  -- a refusal behind the first
  pub patch_later : (x2 : D) (at : ℕ) (front : List ℕ) (e : StoreError) → has_ended r0 ≡ false → PatchesTo d r0 r1 x0 pages at front → NotPatched d pages e r1 r2 x1 x2 → NotPatched d pages e r0 r2 x0 x2
  patch_later x2 at front error.Disk runs first refused =
      let rose : min (d.faults x1 + 1) (2 ^ 64 - 1) ≤ d.faults x2 = refused.0 in
      let later : d.faults x0 ≤ d.faults x1 = still.faults_later in
      (omega (arith, rose, later), ends_later {r0 = r0} {r1 = r1} {r2 = r2} runs keeps refused.1)
  patch_later x2 at front (error.Damaged page) runs first refused = (
    refused.0,
    ends_later {r0 = r0} {r1 = r1} {r2 = r2} runs keeps refused.1,
    λ was held step holds on. refused.2 was (with_patch held at front) (step_kept {r0 = r0} {r1 = r1} keeps still step) (first was held step holds on) on,
  )
  patch_later x2 at front error.Memory runs first refused = keeps_then {r0 = r0} {r1 = r1} {r2 = r2} keeps refused
  patch_later x2 at front error.Full runs first refused = absurd refused
  patch_later x2 at front error.Ended runs first refused = absurd refused
  patch_later x2 at front error.Exists runs first refused = absurd refused
  patch_later x2 at front error.NotAStore runs first refused = absurd refused

-- ---- why bytes weren't put

module _ {D : Type 0} (d : Ghosts D) (r0 r1 : Records) (x0 x1 : D) (pages : List ℕ) where
  pub patch_damaged : (e : StoreError) → e ≡ error.Damaged 0 → EndNow r0 r1 → HoldsSo d r0 x0 (λ held. held.catalog.pages ≡ pages → ⊥) → NotPatched d pages e r0 r1 x0 x1
  patch_damaged e same ends none = subst (λ (x : StoreError). NotPatched d pages x r0 r1 x0 x1) (sym same) (refl, ends, none)

  pub patch_memory : (e : StoreError) → e ≡ error.Memory → KeepsLog r0 r1 → NotPatched d pages e r0 r1 x0 x1
  patch_memory e same keeps = subst (λ (x : StoreError). NotPatched d pages x r0 r1 x0 x1) (sym same) keeps

  -- no page has the index
  pub patch_past : (index : ℕ) → index * 8184 < r0.head.catalog_length → slice_get pages index ≡ None → HoldsSo d r0 x0 (λ held. held.catalog.pages ≡ pages → ⊥)
  patch_past index within none was held step holds on = page_there holds index within (ap (λ (ps : List ℕ). slice_get ps index) on ∙ none)

  -- the page has fewer bytes
  pub patch_short : (index : ℕ) {page next : ℕ} {had : List ℕ} (from count : ℕ) → slice_get pages index ≡ Some page → SeesSo d r0 x0 (λ seen. HasLink seen page next had) → from + count ≤ 8184
      → index * 8184 + (from + count) ≤ r0.head.catalog_length → length had < from + count → HoldsSo d r0 x0 (λ held. held.catalog.pages ≡ pages → ⊥)
  patch_short index from count there sees few within short was held step holds on =
      page_short r0 was index holds (ap (λ (ps : List ℕ). slice_get ps index) on ∙ there) (sees was step) from count few within short

  -- the page wasn't read
  pub patch_unread : (index page : ℕ) (e : StoreError) → has_ended r0 ≡ false → slice_get pages index ≡ Some page → NotListed d (NoLink r0.head.pages page) 0 e r0 r1 x0 x1 → NotPatched d pages e r0 r1 x0 x1
  patch_unread index page error.Disk runs there refused = refused
  patch_unread index page (error.Damaged told) runs there refused =
      (refused.0, refused.1, λ was held step holds on. page_linked r0 was index holds (ap (λ (ps : List ℕ). slice_get ps index) on ∙ there) (refused.2 was step))
  patch_unread index page error.Memory runs there refused = keeps_self r0 r1 runs refused.1
  patch_unread index page error.Full runs there refused = absurd refused
  patch_unread index page error.Ended runs there refused = absurd refused
  patch_unread index page error.Exists runs there refused = absurd refused
  patch_unread index page error.NotAStore runs there refused = absurd refused

-- ---- what putting a page leaves

pub set_catalog_stays : {page : ℕ} (next : ℕ) {had content : List ℕ} {r1 r2 : Records} → SetsLink page next had content r1 r2 → (r2.head.catalog ≡ r1.head.catalog) × (r2.head.catalog_length ≡ r1.head.catalog_length)
set_catalog_stays next (inl same) = (ap (λ (r : Records). r.head.catalog) same.1, ap (λ (r : Records). r.head.catalog_length) same.1)
set_catalog_stays next (inr other) = (ap (λ (h : Header). h.catalog) (other.1).head, ap (λ (h : Header). h.catalog_length) (other.1).head)

pub some_bytes : (bytes : List ℕ) → (length bytes == 0) ≡ false → 1 ≤ length bytes
some_bytes [] none = absurd (false≢true (sym none))
some_bytes (b ∷ bs) some = omega arith

pub no_bytes : (bytes : List ℕ) → (length bytes == 0) ≡ true → bytes ≡ []
no_bytes [] none = refl
no_bytes (b ∷ bs) none = absurd (let e = eqb-true (length (b ∷ bs)) 0 none in omega arith)
