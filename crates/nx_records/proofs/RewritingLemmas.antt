-- Other bytes on the pages of a chain, page by page.
use Rattle.std.proofs.Common.{◌≡◌, ◌⊎◌, ℕ, ◌+◌, ◌*◌, ◌-◌, ◌<◌, ◌≤◌, List, [], ◌∷◌, ◌++◌, length, drop, length-append, refl, sym, ap, subst, ◌∙◌, arith, Bool, true, false, inl, inr}
use Rattle.std.proofs.lemmas.Bool.{eq-eqb, false≢true}
use Rattle.std.proofs.lemmas.List.{append_assoc, append-nil, drop_all}
use Rattle.std.specs.Prelude.{◌==◌, ◌≢◌, ◌^◌, ◌&&◌, if◌then◌else◌, nat_eq, Option, Some}
use Rattle.std.specs.Cmp.Lexicographic.{pointwise}
use Rattle.std.specs.Option.{option_or}
use Rattle.nx_host.specs.Disk.{Image}
use Rattle.nx_host.specs.declared.disk.Disk.{Ghosts}
use Rattle.nx_host.specs.Still.{IsStill}
use Rattle.nx_replay.specs.Log.{Pages, replay}
use Rattle.nx_chain.specs.Chain.{chain_bytes}
use Rattle.nx_wal.specs.declared.wal.Wal.{Wal}
use Rattle.nx_wal.specs.Wal.{IsInStep, current}
use Rattle.nx_holdings.specs.declared.header.Header.{Header}
use Rattle.nx_holdings.specs.Holdings.{with_page, times, Link, AreLinked, next_of, content_of, pages_of_links, chain_count, Held, HoldsBehind}
use Rattle.nx_holdings.specs.Laws.{pages_of_list}
use Rattle.nx_holdings.proofs.TimesLemmas.{times_one, times-append, with_page-here, with_page-other}
use Rattle.nx_holdings.proofs.SharedLemmas.{equal_or}
use Rattle.nx_holdings.proofs.ChainLemmas.{Names, one_next, one_content}
use Rattle.nx_links.specs.Beside.{HeldBeside, HoldsBeside, KeepsCatalog}
use Rattle.nx_links.specs.Lists.{IsListFrom}
use Rattle.nx_links.proofs.BesideLemmas.{chain_linked, chain_count_of, chain_low, chain_once, join_times, pages_join, linked_behind, set_link, no_rest}
use Rattle.nx_links.proofs.JoinLemmas.{beside_header, all_but, places_but, enter, changed_holds, catalog_holds}
use Rattle.nx_records.specs.declared.records.Records.{Records}
use Rattle.nx_records.specs.declared.error.StoreError.{StoreError}
use Rattle.nx_records.specs.declared.error.StoreError.TheVariants as error
use Rattle.nx_records.specs.Records.{has_ended, next_number, current_pages, waiting, KeepsLog, PutsChangedAlone}
use Rattle.nx_records.specs.Changes.{ChangesList, SetsCatalog}
use Rattle.nx_records.specs.Pages.{numbered, SeesSo, StepsTo, PutsPage}
use Rattle.nx_records.specs.Chains.{HasLink, NoLink, NotListed, BesideSo, Nowhere, NotLed, NotGivenBack, with_catalog, ChainLeads, LinksStepTo, ChainStepsTo, SetsLink, MayChange, IsChainOf, IsContentAt, IsPassed, IsOver, IsRewritten}
use Rattle.nx_records.proofs.StandLemmas.{keeps_under, step_kept}
use Rattle.nx_records.proofs.RefusalLemmas.{keeps_self}
use Rattle.nx_records.proofs.ChainLemmas.{names_of, few_pages, no_list_from}
use Rattle.nx_records.proofs.WritingLemmas.{catalog_then, catalog_numbered, all_there, beside_is, no_full, memory_full, disk_full}

-- pages that wait as before are seen as before
pub seen_same : (old new : Records) (was : Image) (p : ℕ) → waiting new p ≡ waiting old p → current_pages new was p ≡ current_pages old was p
seen_same old new was p same = ap (λ (o : Option (List ℕ)). option_or o (replay was p)) same

pub put_seen : {page : ℕ} {bytes : List ℕ} {old new : Records} → PutsPage page bytes old new → (was : Image) → current new.wal was ≡ with_page (current old.wal was) page bytes
put_seen {page = page} {bytes = bytes} {old = old} {new = new} put was = λ i p. each p i
  where
    at : (b : Bool) (o r : Option (List ℕ)) → option_or (if b then Some bytes else o) r ≡ (if b then Some bytes else option_or o r)
    at true o r = refl
    at false o r = refl

    each : (p : ℕ) → current new.wal was p ≡ with_page (current old.wal was) page bytes p
    each p = ap (λ (o : Option (List ℕ)). option_or o (replay was p)) (put.waits p) ∙ at (p == page) (waiting old p) (replay was p)

-- bytes that differ somewhere are others
all_same : (bytes : List ℕ) → pointwise nat_eq bytes bytes ≡ true
all_same [] = refl
all_same (b ∷ bs) = ap (λ (x : Bool). x && pointwise nat_eq bs bs) (eq-eqb b b refl) ∙ all_same bs

pub differ : (one other : List ℕ) → pointwise nat_eq one other ≡ false → one ≡ other → ⊥
differ one other fails same = false≢true (sym fails ∙ ap (λ (b : List ℕ). pointwise nat_eq one b) (sym same) ∙ all_same one)

-- the links that a chain has
pub pages_length : (ls : List Link) → length (pages_of_links ls) ≡ length ls
pages_length [] = refl
pages_length (l ∷ ls) = let rest = pages_length ls in omega (arith, rest)

pub content_join : (one other : List Link) → content_of (one ++ other) ≡ content_of one ++ content_of other
content_join [] other = refl
content_join (l ∷ ls) other = ap (λ (b : List ℕ). l.content ++ b) (content_join ls other) ∙ sym (append_assoc l.content (content_of ls) (content_of other))

pub first_same : (one other : List Link) → pages_of_links one ≡ pages_of_links other → next_of one ≡ next_of other
first_same [] [] same = refl
first_same [] (m ∷ ms) same = let long = ap length same in absurd (omega (arith, long))
first_same (l ∷ ls) [] same = let long = ap length same in absurd (omega (arith, long))
first_same (l ∷ ls) (m ∷ ms) same = heads same
  where
    heads : {x y : ℕ} {xs ys : List ℕ} → x ∷ xs ≡ y ∷ ys → x ≡ y
    heads e = cc

-- nothing has been passed
pub over_none : (r : Records) (was : Image) (bytes : List ℕ) (first len : ℕ) (links : List Link) → next_of links ≡ first → IsOver r r was bytes 0 first len len links links
over_none r was bytes first len links starts = record {
  passed = record { passed = []; done = []; rest = links; were = refl; now = refl; pages = refl; here = starts; count = refl; are = refl; counted = omega arith };
  waits = λ p. inl refl;
}

-- no step
pub links_none : {D : Type 0} {d : Ghosts D} (r : Records) {before : D} (Starts : List Link → Type 0) (Comes : Image → List Link → List Link → Type 0) → ((was : Image) (links : List Link) → Starts links → Comes was links links)
    → LinksStepTo d r r before Starts Comes
links_none r Starts Comes comes was links held step holds starts = record {
  more = links;
  next = held;
  holds = holds;
  catalog = record { settings = refl; catalog = refl; catalog_length = refl };
  keeps = record { records = refl; lists = refl; places = refl; free = refl };
  comes = comes was links starts;
}

-- what was passed is a chain that may have the content at the page
pub passed_may : {bytes content : List ℕ} {index page left first len : ℕ} (links mid : List Link) → chain_count (length bytes) ≡ chain_count len → IsContentAt bytes index content → IsChainOf first len links
    → IsPassed bytes index page left len links mid → MayChange page content mid
passed_may links mid pages content_is chain passed = record {
  done = passed.done;
  rest = passed.rest;
  are = passed.now;
  here = passed.here;
  full = λ two. content_is.full
      (let whole = ap (λ (ls : List Link). length ls) passed.were in
      let both = length-append passed.passed passed.rest in
      let here = passed.count in
      let count = chain.count in
      omega (arith, whole, both, here, count, pages, two));
}

-- a page has been passed, and has the content that stands there
module _ {pages : Pages} {h : Header} {held : HeldBeside} {page next : ℕ} {had : List ℕ} (done : List Link) (l : Link) (ls : List Link) (few : h.pages ≤ 2 ^ 32)
    (holds : HoldsBeside pages h (done ++ (l ∷ ls)) held) (here : l.page ≡ page) (has : HasLink pages page next had) where
  among : 1 ≤ times l.page (pages_of_links (done ++ (l ∷ ls)))
  among = let both = join_times l.page done (l ∷ ls) in let one = times_one l.page (pages_of_links ls) in omega (arith, both, one)

  pub said : (next_of ls ≡ next) × (l.content ≡ had)
  said =
      let link = (linked_behind pages done (l ∷ ls) (chain_linked holds)).0 in
      let first : Names pages page (next_of ls) l.content = record { there = ap pages (sym here) ∙ link.there; low = low ls (λ p some. chain_low holds p (let both = join_times p done (l ∷ ls) in let more : times p (l.page ∷ pages_of_links ls) ≡ times p (l.page ∷ []) + times p (pages_of_links ls) = times-append p (l.page ∷ []) (pages_of_links ls) in omega (arith, both, more, some))); some = link.some; few = link.few } in
      (one_next first (names_of has.link), one_content first (names_of has.link))
    where
      low : (rest : List Link) → ((p : ℕ) → 1 ≤ times p (pages_of_links rest) → (1 ≤ p) × (p < h.pages)) → next_of rest < 2 ^ 32
      low [] under = omega arith
      low (m ∷ ms) under = let number = (under m.page (let one = times_one m.page (pages_of_links ms) in omega (arith, one))).1 in omega (arith, number, few)

  -- another page follows where the page names one
  pub follows : 1 ≤ length ls → next ≢ 0
  follows more zero = lacks ls more refl (said.0 ∙ zero)
    where
      lacks : (rest : List Link) → 1 ≤ length rest → ls ≡ rest → next_of ls ≡ 0 → ⊥
      lacks [] more are none = absurd (omega (arith, more))
      lacks (m ∷ ms) more are none =
          let first = ap next_of are in
          let both = join_times m.page done (l ∷ ls) in
          let tail : times m.page (l.page ∷ pages_of_links ls) ≡ times m.page (l.page ∷ []) + times m.page (pages_of_links ls) = times-append m.page (l.page ∷ []) (pages_of_links ls) in
          let same = ap (λ (r : List Link). times m.page (pages_of_links r)) are in
          let one = times_one m.page (pages_of_links ms) in
          let number = (chain_low holds m.page (omega (arith, both, tail, same, one))).0 in
          absurd (omega (arith, number, first, none))

-- a page of a chain was put, or stays as it is
module _ {r1 r2 : Records} (was : Image) {held : HeldBeside} {page next : ℕ} {had content : List ℕ} (done : List Link) (l : Link) (ls : List Link)
    (holds : HoldsBeside (current r1.wal was) r1.head (done ++ (l ∷ ls)) held) (here : l.page ≡ page) (has : HasLink (current r1.wal was) page next had) where
  pub set_holds : SetsLink page next had content r1 r2 → 1 ≤ length content → length content ≤ 8184 → (next ≢ 0 → length content ≡ 8184)
      → HoldsBeside (current r2.wal was) r2.head (done ++ (record { page = l.page; content = content } ∷ ls)) held × KeepsCatalog r1.head r2.head
  set_holds (inl same) some few full =
      let is : l ≡ record { page = l.page; content = content } = ap (λ (c : List ℕ). record { page = l.page; content = c }) ((said done l ls (few_pages r1.head r1.head_range) holds here has).1 ∙ sym same.0) in (
        subst (λ (r : Records). HoldsBeside (current r.wal was) r.head (done ++ (record { page = l.page; content = content } ∷ ls)) held) (sym same.1)
            (subst (λ (m : Link). HoldsBeside (current r1.wal was) r1.head (done ++ (m ∷ ls)) held) is holds),
        subst (λ (r : Records). KeepsCatalog r1.head r.head) (sym same.1) (record { settings = refl; catalog = refl; catalog_length = refl }),
      )
  set_holds (inr other) some few full =
      let put = other.1 in
      let low = few_pages r1.head r1.head_range in
      let set = set_link done l ls content holds some few (λ more. full (follows done l ls low holds here has more)) in
      let pages : current r2.wal was ≡ with_page (current r1.wal was) l.page (chain_bytes (next_of ls) content) =
      put_seen put was ∙ ap (λ (p : ℕ). with_page (current r1.wal was) p (chain_bytes next content)) (sym here)
      ∙ ap (λ (n : ℕ). with_page (current r1.wal was) l.page (chain_bytes n content)) (sym (said done l ls low holds here has).0) in (
        subst (λ (p : Pages). HoldsBeside p r2.head (done ++ (record { page = l.page; content = content } ∷ ls)) held) (sym pages)
            (subst (λ (x : Header). HoldsBeside (with_page (current r1.wal was) l.page (chain_bytes (next_of ls) content)) x (done ++ (record { page = l.page; content = content } ∷ ls)) held) (sym put.head)
            (beside_header (numbered (next_number r1) r1.head) refl refl refl refl set)),
        catalog_numbered (next_number r1) put.head,
      )

-- one page more has been passed
passed_more : {bytes had content : List ℕ} {index page next left len : ℕ} {links mid : List Link} (passed : IsPassed bytes index page left len links mid) (l : Link) (ls : List Link) → passed.rest ≡ l ∷ ls
    → next_of ls ≡ next → l.content ≡ had → length had ≤ left → IsContentAt bytes index content
    → IsPassed bytes (index + 1) next (left - length had) len links (passed.done ++ (record { page = l.page; content = content } ∷ ls))
passed_more {bytes = bytes} {had = had} {content = content} {index = index} {left = left} {links = links} passed l ls are next_is had_is low content_is = record {
  passed = passed.passed ++ (l ∷ []);
  done = passed.done ++ (m ∷ []);
  rest = ls;
  were = passed.were ∙ ap (λ (r : List Link). passed.passed ++ r) are ∙ sym (append_assoc passed.passed (l ∷ []) ls);
  now = sym (append_assoc passed.done (m ∷ []) ls);
  pages = pages_join passed.done (m ∷ []) ∙ ap (λ (ps : List ℕ). ps ++ (l.page ∷ [])) passed.pages ∙ sym (pages_join passed.passed (l ∷ []));
  here = next_is;
  count = let both = length-append passed.passed (l ∷ []) in let count = passed.count in omega (arith, both, count);
  are = ap (λ (b : List ℕ). b ++ drop ((index + 1) * 8184) bytes) (content_join passed.done (m ∷ []) ∙ ap (λ (b : List ℕ). content_of passed.done ++ b) (append-nil content))
      ∙ append_assoc (content_of passed.done) content (drop ((index + 1) * 8184) bytes)
      ∙ ap (λ (b : List ℕ). content_of passed.done ++ b) content_is.are ∙ passed.are;
  counted =
      let whole = ap length (content_join passed.passed (l ∷ [])) in
      let both = length-append (content_of passed.passed) (content_of (l ∷ [])) in
      let one = ap length (append-nil l.content) in
      let same = ap length had_is in
      let count = passed.counted in
      omega (arith, whole, both, one, same, count, low);
}
  where
    m : Link
    m = record { page = l.page; content = content }

-- Each page that was put has other bytes than at the start.
waits_more : {r0 r1 r2 : Records} {was : Image} {held : HeldBeside} {bytes had content : List ℕ} {index page next left len : ℕ} {links mid : List Link} (over : IsOver r0 r1 was bytes index page left len links mid) (l : Link) (ls : List Link)
    → (over.passed).rest ≡ l ∷ ls → HoldsBeside (current r1.wal was) r1.head ((over.passed).done ++ (l ∷ ls)) held → HasLink (current r1.wal was) page next had → SetsLink page next had content r1 r2
    → 1 ≤ length content → length content ≤ 8184 → (p : ℕ)
    → (waiting r2 p ≡ waiting r0 p) ⊎ ((1 ≤ times p (pages_of_links ((over.passed).done ++ (record { page = l.page; content = content } ∷ [])))) × (current_pages r2 was p ≡ current_pages r0 was p → ⊥))
waits_more {r0} {r1} {r2} {was} {bytes = bytes} {had = had} {content = content} {page = page} {next = next} over l ls are holds has sets some few p = by_case sets
  where
    m : Link
    m = record { page = l.page; content = content }

    done : List Link
    done = (over.passed).done

    here : l.page ≡ page
    here = sym (ap next_of are) ∙ (over.passed).here

    more : 1 ≤ times p (pages_of_links done) → 1 ≤ times p (pages_of_links (done ++ (m ∷ [])))
    more among = let both = join_times p done (m ∷ []) in omega (arith, both, among)

    as_before : waiting r2 p ≡ waiting r1 p → (waiting r2 p ≡ waiting r0 p) ⊎ ((1 ≤ times p (pages_of_links (done ++ (m ∷ [])))) × (current_pages r2 was p ≡ current_pages r0 was p → ⊥))
    as_before same = elim (over.waits p) [
      | inl stays ↦ inl (same ∙ stays)
      | inr put ↦ inr (more put.0, λ seen. put.1 (sym (seen_same r1 r2 was p same) ∙ seen))
    ]

    by_case : SetsLink page next had content r1 r2 → (waiting r2 p ≡ waiting r0 p) ⊎ ((1 ≤ times p (pages_of_links (done ++ (m ∷ [])))) × (current_pages r2 was p ≡ current_pages r0 was p → ⊥))
    by_case (inl same) = as_before (ap (λ (r : Records). waiting r p) same.1)
    by_case (inr other) = elim (equal_or p page) [
      | inl same ↦ inr (
        let both = join_times p done (m ∷ []) in
            let one : times p (m.page ∷ []) ≡ 1 = ap (λ (q : ℕ). times p (q ∷ [])) (here ∙ sym same) ∙ times_one p [] in
            omega (arith, both, one),
        λ seen. elim (over.waits p) [
          | inl stays ↦
              let now : current r2.wal was p ≡ Some (chain_bytes next content) =
              ap (λ (f : Pages). f p) (put_seen other.1 was) ∙ ap (λ (q : ℕ). with_page (current r1.wal was) page (chain_bytes next content) q) same ∙ with_page-here (current r1.wal was) page (chain_bytes next content) in
              let before : current r0.wal was p ≡ current r1.wal was p = sym (seen_same r0 r1 was p stays) in
              let link = (has.link).is in
              let a : Names (current r1.wal was) page next content = record { there = ap (current r1.wal was) (sym same) ∙ sym before ∙ sym seen ∙ now; low = link.low; some = some; few = few } in
              other.0 (one_content a (names_of has.link))
          | inr put ↦
              let once = chain_once holds p in
              let both = join_times p done (l ∷ ls) in
              let one : times p (l.page ∷ pages_of_links ls) ≡ 1 + times p (pages_of_links ls) = ap (λ (q : ℕ). times p (q ∷ pages_of_links ls)) (here ∙ sym same) ∙ times_one p (pages_of_links ls) in
              let among = put.0 in
              omega (arith, once, both, one, among)
        ],
      )
      | inr apart ↦ as_before (other.1.waits p ∙ with_page-other (waiting r1) page (chain_bytes next content) p apart)
    ]

-- what is left of a chain is a list
pub rest_from : {pages : Pages} {h : Header} {held : HeldBeside} (done rest : List Link) → HoldsBeside pages h (done ++ rest) held → IsListFrom h.pages pages (next_of rest) (content_of rest)
rest_from {pages = pages} done rest holds = record {
  links = rest;
  linked = linked_behind pages done rest (chain_linked holds);
  low = λ p among. chain_low holds p (let both = join_times p done rest in omega (arith, both, among));
  first = refl;
  are = refl;
}

-- a page of a chain wasn't read, or the content may not stand there
module _ {D : Type 0} (d : Ghosts D) (r0 r1 : Records) (x0 x1 : D) (named page : ℕ) (content : List ℕ) (apart : page ≢ 0) where
  pub link_unread : (e : StoreError) → has_ended r0 ≡ false → NotListed d (NoLink r0.head.pages page) named e r0 r1 x0 x1 → NotGivenBack d (MayChange page content) named e r0 r1 x0 x1
  link_unread error.Disk runs refused = (refused, disk_full)
  link_unread (error.Damaged told) runs refused = (
    (
      refused.0,
      refused.1,
      λ was links held step holds may.
          no_list_from (few_pages r0.head r0.head_range) apart (refused.2 was step) (content_of may.rest)
          (subst (λ (p : ℕ). IsListFrom r0.head.pages (current r0.wal was) p (content_of may.rest)) may.here
          (rest_from may.done may.rest (subst (λ (ls : List Link). HoldsBeside (current r0.wal was) r0.head ls held) may.are holds))),
    ),
    no_full told,
  )
  link_unread error.Memory runs refused = (keeps_self r0 r1 runs refused.1, memory_full)
  link_unread error.Ended runs refused = absurd refused
  link_unread error.Exists runs refused = absurd refused
  link_unread error.NotAStore runs refused = absurd refused
  link_unread error.Full runs refused = absurd refused

  pub may_not : {next : ℕ} {had : List ℕ} → SeesSo d r0 x0 (λ pages. HasLink pages page next had) → (next ≢ 0) × (length content ≢ 8184) → BesideSo d r0 x0 (MayChange page content) Nowhere
  may_not {next} {had} sees short was links held step holds may = go may.rest refl
    where
      go : (rest : List Link) → may.rest ≡ rest → ⊥
      go [] are = apart (sym may.here ∙ ap next_of are)
      go (l ∷ []) are = short.0 (sym (said may.done l [] (few_pages r0.head r0.head_range) there (sym (ap next_of are) ∙ may.here) (sees was step)).0)
        where
          there : HoldsBeside (current r0.wal was) r0.head (may.done ++ (l ∷ [])) held
          there = subst (λ (ls : List Link). HoldsBeside (current r0.wal was) r0.head ls held) (may.are ∙ ap (λ (r : List Link). may.done ++ r) are) holds
      go (l ∷ m ∷ ms) are = short.1 (may.full (let long = ap (λ (r : List Link). length r) are in omega (arith, long)))

-- one page more was put, or left
module _ {D : Type 0} (d : Ghosts D) (r0 r1 r2 : Records) (x0 x1 : D) where
  pub over_steps : {bytes had content : List ℕ} {index page next left len first : ℕ} → KeepsLog r0 r1 → IsStill d x0 x1
      → LinksStepTo d r0 r1 x0 (λ links. next_of links ≡ first) (λ was links more. IsOver r0 r1 was bytes index page left len links more)
      → ((was : Image) → IsInStep d r1.wal x1 was → HasLink (current r1.wal was) page next had) → SetsLink page next had content r1 r2
      → page ≢ 0 → (next ≢ 0 → length content ≡ 8184) → length had ≤ left → IsContentAt bytes index content
      → LinksStepTo d r0 r2 x0 (λ links. next_of links ≡ first) (λ was links more. IsOver r0 r2 was bytes (index + 1) next (left - length had) len links more)
  unfolding passed_more
  over_steps {bytes = bytes} {had = had} {content = content} {index = index} {page = page} {next = next} {left = left} {len = len} keeps still steps sees sets apart full low content_is was links held step holds starts =
      let one = steps was links held step holds starts in
      let has = sees was (step_kept {r0 = r0} {r1 = r1} keeps still step) in
      go one has (((one.comes).passed).rest) refl
    where
      go : (one : ChainLeads (current r1.wal was) r0.head r1.head links held (IsOver r0 r1 was bytes index page left len links)) → HasLink (current r1.wal was) page next had → (rest : List Link) → ((one.comes).passed).rest ≡ rest
          → ChainLeads (current r2.wal was) r0.head r2.head links held (IsOver r0 r2 was bytes (index + 1) next (left - length had) len links)
      go one has [] are = absurd (apart (sym (((one.comes).passed).here) ∙ ap next_of are))
      go one has (l ∷ ls) are =
          let passed = (one.comes).passed in
          let here : l.page ≡ page = sym (ap next_of are) ∙ passed.here in
          let mid : HoldsBeside (current r1.wal was) r1.head (passed.done ++ (l ∷ ls)) one.next =
          subst (λ (ls : List Link). HoldsBeside (current r1.wal was) r1.head ls one.next) (passed.now ∙ ap (λ (r : List Link). passed.done ++ r) are) one.holds in
          let said_is = said passed.done l ls (few_pages r1.head r1.head_range) mid here has in
          let set = set_holds was passed.done l ls mid here has sets content_is.some content_is.few full in
          let longer = length-append passed.done (record { page = l.page; content = content } ∷ ls) in
          let before = length-append passed.done passed.rest in
          let rest = ap (λ (r : List Link). length r) are in
          let whole = ap (λ (r : List Link). length r) passed.now in
          let free = (one.keeps).free in
          record {
            more = passed.done ++ (record { page = l.page; content = content } ∷ ls);
            next = one.next;
            holds = set.0;
            catalog = catalog_then one.catalog set.1;
            keeps = record { records = (one.keeps).records; lists = (one.keeps).lists; places = (one.keeps).places; free = omega (arith, longer, before, rest, whole, free) };
            comes = record {
              passed = passed_more passed l ls are said_is.0 said_is.1 low content_is;
              waits = waits_more one.comes l ls are mid has sets content_is.some content_is.few;
            };
          }

-- all pages have been passed
pub over_all : {r0 r1 : Records} {was : Image} {held : HeldBeside} {bytes : List ℕ} {index page left first len : ℕ} (links more : List Link) → HoldsBeside (current r1.wal was) r1.head more held → length links ≡ chain_count (length (content_of links))
    → next_of links ≡ first → chain_count (length bytes) ≡ chain_count len → page ≡ 0 → left ≡ 0 → IsOver r0 r1 was bytes index page left len links more → IsRewritten r0 r1 was first len bytes links more
over_all {r0 = r0} {r1 = r1} {was = was} {held = held} {bytes = bytes} {index = index} {page = page} {left = left} {len = len} links more holds count starts pages none no_bytes over = record {
  begins = ap next_of now ∙ first_same passed.done links (passed.pages ∙ ap (λ (ls : List Link). pages_of_links ls) (sym were)) ∙ starts;
  are = ap content_of now ∙ sym (append-nil (content_of passed.done)) ∙ ap (λ (b : List ℕ). content_of passed.done ++ b) (sym (drop_all (index * 8184) bytes past)) ∙ passed.are;
  long = long;
  alone = λ same p other seen. elim (over.waits p) [ inl stays ↦ stays | inr put ↦ absurd (put.1 seen) ];
}
  where
    passed : IsPassed bytes index page left len links more
    passed = over.passed

    empty : passed.rest ≡ []
    empty = no_rest passed.done passed.rest (subst (λ (ls : List Link). HoldsBeside (current r1.wal was) r1.head ls held) passed.now holds) (passed.here ∙ none)

    now : more ≡ passed.done
    now = passed.now ∙ ap (λ (r : List Link). passed.done ++ r) empty ∙ append-nil passed.done

    were : links ≡ passed.passed
    were = passed.were ∙ ap (λ (r : List Link). passed.passed ++ r) empty ∙ append-nil passed.passed

    long : length (content_of links) ≡ len
    long = let whole = passed.counted in let same = ap (λ (ls : List Link). length (content_of ls)) were in omega (arith, whole, same, no_bytes)

    past : length bytes ≤ index * 8184
    past = let all = passed.count in let whole = ap (λ (ls : List Link). length ls) were in let counted = ap chain_count long in omega (arith, all, whole, count, counted, pages)

-- no byte is left where pages are, or fewer than the page has, or some where no page is: the chain hasn't so many bytes
module _ {bytes : List ℕ} {index page left first len : ℕ} (links mid : List Link) (passed : IsPassed bytes index page left len links mid) (chain : IsChainOf first len links) where
  whole : length (content_of links) ≡ length (content_of passed.passed) + length (content_of passed.rest)
  whole = ap (λ (ls : List Link). length (content_of ls)) passed.were ∙ ap length (content_join passed.passed passed.rest) ∙ length-append (content_of passed.passed) (content_of passed.rest)

  pub over_none_left : {pages : Pages} {h : Header} {held : HeldBeside} → HoldsBeside pages h mid held → page ≢ 0 → left ≡ 0 → ⊥
  over_none_left {pages = pages} holds apart none = go passed.rest refl (linked_behind pages passed.done passed.rest (subst (λ (ls : List Link). AreLinked pages ls) passed.now (chain_linked holds)))
    where
      go : (rest : List Link) → passed.rest ≡ rest → AreLinked pages passed.rest → ⊥
      go [] are linked = apart (sym passed.here ∙ ap next_of are)
      go (l ∷ ls) are linked =
          let here : AreLinked pages (l ∷ ls) = subst (λ (r : List Link). AreLinked pages r) are linked in
          let some = (here.0).some in
          let rest = ap (λ (r : List Link). length (content_of r)) are in
          let both = length-append l.content (content_of ls) in
          let all = whole in
          let long = chain.long in
          let count = passed.counted in
          absurd (omega (arith, some, rest, both, all, long, count, none))

  pub over_past : {pages : Pages} {h : Header} {held : HeldBeside} {next : ℕ} {had : List ℕ} → HoldsBeside pages h mid held → h.pages ≤ 2 ^ 32 → page ≢ 0 → HasLink pages page next had → left < length had → ⊥
  over_past {pages = pages} {h = h} {held = held} {next = next} {had = had} holds few apart has past = go passed.rest refl
    where
      go : (rest : List Link) → passed.rest ≡ rest → ⊥
      go [] are = apart (sym passed.here ∙ ap next_of are)
      go (l ∷ ls) are =
          let there = subst (λ (ls : List Link). HoldsBeside pages h ls held) (passed.now ∙ ap (λ (r : List Link). passed.done ++ r) are) holds in
          let said_is = said passed.done l ls few there (sym (ap next_of are) ∙ passed.here) has in
          let same = ap length said_is.1 in
          let rest = ap (λ (r : List Link). length (content_of r)) are in
          let both = length-append l.content (content_of ls) in
          let all = whole in
          let long = chain.long in
          let count = passed.counted in
          absurd (omega (arith, same, rest, both, all, long, count, past))

  pub over_short : {pages : Pages} {h : Header} {held : HeldBeside} → HoldsBeside pages h mid held → page ≡ 0 → left ≢ 0 → ⊥
  over_short {pages = pages} {h = h} {held = held} holds none some =
      let empty = no_rest passed.done passed.rest (subst (λ (ls : List Link). HoldsBeside pages h ls held) passed.now holds) (passed.here ∙ none) in
      let rest = ap (λ (r : List Link). length (content_of r)) empty in
      let all = whole in
      let long = chain.long in
      let count = passed.counted in
      some (omega (arith, rest, all, long, count))

-- the pages that were passed, whatever the image is
pub over_passed : {D : Type 0} (d : Ghosts D) (r0 r1 : Records) (before : D) (bytes : List ℕ) (index page left first len : ℕ)
    → LinksStepTo d r0 r1 before (λ links. next_of links ≡ first) (λ was links more. IsOver r0 r1 was bytes index page left len links more)
    → ChainStepsTo d r0 r1 before (IsChainOf first len) (λ links more. IsPassed bytes index page left len links more)
over_passed d r0 r1 before bytes index page left first len steps was links held step holds starts =
    let one = steps was links held step holds starts.begins in
    record { more = one.more; next = one.next; holds = one.holds; catalog = one.catalog; keeps = one.keeps; comes = (one.comes).passed }

-- a chain with other bytes is the list again
module _ {D : Type 0} (d : Ghosts D) (r0 r1 : Records) (before : D) where
  pub changed_steps : (first len : ℕ) (bytes : List ℕ) → 1 ≤ length bytes → first ≢ r0.head.catalog
      → LinksStepTo d r0 r1 before (λ links. next_of links ≡ first) (λ was links more. IsRewritten r0 r1 was first len bytes links more)
      → (was : Image) (held : Held) (list : List ℕ) → IsInStep d r0.wal before was → HoldsBehind (current r0.wal was) r0.head held → held.lists first ≡ Some list
      → (length list ≡ len) × (chain_count len ≡ chain_count (length bytes) → PutsChangedAlone r0 r1 was) × ((next : Held) × HoldsBehind (current r1.wal was) r1.head next × ChangesList first bytes held next)
  changed_steps first len bytes some other steps was held list step holds there =
      let entered = enter holds first list (all_there holds first list other there) in
      let led = steps was entered.links (record { records = held.records; lists = all_but holds first; places = places_but holds first; free = held.free }) step entered.holds entered.here in
      let beside = subst (λ (b : HeldBeside). HoldsBeside (current r1.wal was) r1.head led.more b) (beside_is led.next (led.keeps).records (led.keeps).lists (led.keeps).places) led.holds in
      let old = chain_count_of entered.holds in
      let old_long : chain_count (length (content_of entered.links)) ≡ pages_of_list (held.lists first) =
      ap (λ (b : List ℕ). chain_count (length b)) entered.are ∙ ap (λ (o : Option (List ℕ)). pages_of_list o) (sym there) in
      let new = chain_count_of led.holds in
      let new_long = ap (λ (b : List ℕ). chain_count (length b)) (led.comes).are in
      let free = (led.keeps).free in (
        sym (ap length entered.are) ∙ (led.comes).long,
        (led.comes).alone,
        (
          record held { lists = λ p. if p == first then Some bytes else held.lists p; free = (led.next).free },
          changed_holds holds first (led.next).free bytes (led.comes).begins (led.comes).are some other beside led.catalog,
          record { changes = record { lists = refl; records = refl; catalog = refl; settings = refl }; free = omega (arith, old, old_long, new, new_long, free) },
        ),
      )

-- ... and the header put
pub alone_then : (r0 r1 r2 : Records) (was : Image) → PutsChangedAlone r0 r1 was → ((p : ℕ) → p ≢ 0 → waiting r2 p ≡ waiting r1 p) → PutsChangedAlone r0 r2 was
alone_then r0 r1 r2 was alone beside p other seen = beside p other ∙ alone p other (sym (seen_same r1 r2 was p (beside p other)) ∙ seen)

-- the records follow the log that they followed as the header names another catalog
pub named_keeps : {r0 r1 : Records} (r2 : Records) (first len : ℕ) → KeepsLog r0 r1 → r2.head ≡ with_catalog first len r1.head → (r2.wal ≡ r1.wal) × (r2.saved ≡ r1.saved) × (has_ended r2 ≡ has_ended r1) → r2.catalog_pages ≡ [] → KeepsLog r0 r2
named_keeps {r0} {r1} r2 first len keeps head stays forgets =
    keeps_under {r0 = r0} {r1 = r1} {q0 = r0} {q1 = r2} keeps refl refl stays.0 stays.1 stays.2 (ap (λ (h : Header). h.settings) head ∙ keeps.settings_stay) (inr forgets)

-- the catalog's chain has other bytes
module _ {D : Type 0} (d : Ghosts D) (r0 r1 r2 : Records) (before : D) where
  pub catalog_steps : (first : ℕ) (bytes : List ℕ) → 1 ≤ length bytes
      → LinksStepTo d r0 r1 before (λ links. next_of links ≡ r0.head.catalog) (λ was links more. IsRewritten r0 r1 was first r0.head.catalog_length bytes links more)
      → (r2.wal ≡ r1.wal) × (r2.head ≡ with_catalog first (length bytes) r1.head) → StepsTo d r0 r2 before (λ was now. SetsCatalog bytes was now)
  catalog_steps first bytes some steps is was held step holds =
      let entered = enter holds r0.head.catalog held.catalog.bytes holds.catalog in
      let led = steps was entered.links (record { records = held.records; lists = all_but holds r0.head.catalog; places = places_but holds r0.head.catalog; free = held.free }) step entered.holds entered.here in
      let beside = subst (λ (b : HeldBeside). HoldsBeside (current r1.wal was) r1.head led.more b) (beside_is led.next (led.keeps).records (led.keeps).lists (led.keeps).places) led.holds in
      let holds1 = catalog_holds holds (led.next).free bytes (led.comes).are some beside led.catalog in
      let head : r2.head ≡ with_catalog (next_of led.more) (length bytes) r1.head = is.1 ∙ ap (λ (f : ℕ). with_catalog f (length bytes) r1.head) (sym (led.comes).begins) in
      let old = chain_count_of entered.holds in
      let old_long = ap (λ (b : List ℕ). chain_count (length b)) entered.are in
      let new = chain_count_of led.holds in
      let new_long = ap (λ (b : List ℕ). chain_count (length b)) (led.comes).are in
      let free = (led.keeps).free in (
        record held { catalog = record { bytes = bytes; pages = pages_of_links led.more }; free = (led.next).free },
        subst (λ (w : Wal). HoldsBehind (current w was) r2.head (record held { catalog = record { bytes = bytes; pages = pages_of_links led.more }; free = (led.next).free })) (sym is.0)
            (subst (λ (x : Header). HoldsBehind (current r1.wal was) x (record held { catalog = record { bytes = bytes; pages = pages_of_links led.more }; free = (led.next).free })) (sym head) holds1),
        record { catalog = refl; records = refl; lists = refl; settings = refl; free = omega (arith, old, old_long, new, new_long, free) },
      )

  -- ... and of pages that stay none waits
  pub catalog_alone : (first : ℕ) (bytes : List ℕ) → LinksStepTo d r0 r1 before (λ links. next_of links ≡ r0.head.catalog) (λ was links more. IsRewritten r0 r1 was first r0.head.catalog_length bytes links more)
      → (was : Image) (held : Held) → IsInStep d r0.wal before was → HoldsBehind (current r0.wal was) r0.head held → chain_count (length held.catalog.bytes) ≡ chain_count (length bytes) → PutsChangedAlone r0 r1 was
  catalog_alone first bytes steps was held step holds same =
      let entered = enter holds r0.head.catalog held.catalog.bytes holds.catalog in
      let led = steps was entered.links (record { records = held.records; lists = all_but holds r0.head.catalog; places = places_but holds r0.head.catalog; free = held.free }) step entered.holds entered.here in
      (led.comes).alone (ap chain_count (sym holds.catalog_length) ∙ same)

-- a chain that isn't given back isn't led to another, and one that was given back and written is another
module _ {D : Type 0} (d : Ghosts D) (r0 r1 : Records) (x0 x1 : D) (named : ℕ) (Begins Starts : List Link → Type 0) (Few : List Link → HeldBeside → Type 0) (begins : (links : List Link) → Starts links → Begins links) where
  pub given_led : (e : StoreError) → NotGivenBack d Begins named e r0 r1 x0 x1 → NotLed d Starts Few named e r0 r1 x0 x1
  given_led error.Disk refused = refused.0
  given_led (error.Damaged told) refused = (refused.0.0, refused.0.1, λ was links held step holds starts. refused.0.2 was links held step holds (begins links starts))
  given_led error.Full refused = absurd (refused.1 refl)
  given_led error.Memory refused = refused.0
  given_led error.Ended refused = absurd refused.0
  given_led error.Exists refused = absurd refused.0
  given_led error.NotAStore refused = absurd refused.0

pub written_anew : {D : Type 0} (d : Ghosts D) (r0 r1 : Records) (before : D) (first len start : ℕ) (bytes : List ℕ) → (chain_count len ≡ chain_count (length bytes) → ⊥)
    → ChainStepsTo d r0 r1 before (λ links. next_of links ≡ start) (λ links more. (length (content_of links) ≡ len) × (next_of more ≡ first) × (content_of more ≡ bytes))
    → LinksStepTo d r0 r1 before (λ links. next_of links ≡ start) (λ was links more. IsRewritten r0 r1 was first len bytes links more)
written_anew d r0 r1 before first len start bytes apart steps was links held step holds starts =
    let one = steps was links held step holds starts in
    record {
      more = one.more;
      next = one.next;
      holds = one.holds;
      catalog = one.catalog;
      keeps = one.keeps;
      comes = record { begins = (one.comes).1; are = (one.comes).2; long = (one.comes).0; alone = λ same. absurd (apart same) };
    }
