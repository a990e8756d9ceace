-- One record: what it breaks, and what it is read as.
use Rattle.std.proofs.Common.{◌≡◌, ℕ, ◌+◌, ◌*◌, ◌≤◌, List, [], ◌∷◌, ◌++◌, length, length-append, map, Some, None, refl, sym, ap, ◌∙◌, subst, arith, inl, inr, append_assoc, append-nil}
use Rattle.std.specs.Prelude.{◌<◌, Contains}
use Rattle.std.proofs.lemmas.Bool.{cases_lt}
use Rattle.nx_host.specs.Disk.{Image}
use Rattle.nx_host.specs.declared.disk.Disk.{Ghosts}
use Rattle.nx_slots.specs.Slots.{IsSlotted}
use Rattle.nx_replay.specs.Log.{Pages, replay}
use Rattle.nx_holdings.specs.Holdings.{record_in, Link, content_of, pages_of_links}
use Rattle.nx_holdings.proofs.TimesLemmas.{times-append}
use Rattle.nx_piece.specs.declared.piece.Body.{Body}
use Rattle.nx_piece.specs.declared.piece.Far.{Far}
use Rattle.nx_piece.specs.declared.piece.Piece.{Piece}
use Rattle.nx_piece.specs.declared.piece.Proxy.{Proxy}
use Rattle.nx_piece.specs.declared.piece.Stored.{Stored}
use Rattle.nx_piece.specs.declared.piece.Stored.TheVariants.{Inline, Chained}
use Rattle.nx_piece.specs.Contents.{fars_in}
use Rattle.nx_piece.specs.Decoded.{IsDecoded}
use Rattle.nx_piece.specs.Encoding.{proxies_bytes}
use Rattle.nx_piece.specs.Valid.{IsValidChained, HaveNumbers, AreFar}
use Rattle.std.specs.Option.{option_to_list}
use Rattle.nx_piece.specs.declared.viewing.ItemView.{ItemView}
use Rattle.nx_piece.specs.declared.viewing.ItemView.TheVariants.{Tree, Run}
use Rattle.nx_piece.specs.Flat.{seen_node}
use Rattle.nx_piece.specs.Viewing.{seen_items, begun_with}
use Rattle.nx_piece.specs.Gapped.{Gapped, End, item_count, slots_in}
use Rattle.nx_piece.proofs.Laws.{body_fits}
use Rattle.nx_layouts.specs.Layout.{RecordPlace}
use Rattle.nx_rules.specs.declared.verdict.PageRule.{PageRule}
use Rattle.nx_rules.specs.declared.verdict.PageRule.TheVariants as rule
use Rattle.nx_rules.specs.Listed.{AreUsedOnce, IsSlottedPage, IsListOf}
use Rattle.nx_rules.specs.Walked.{Walked, walked_body, walked_proxies, links_behind, naming_page, Named, named_place, IsRecordAt, lists_named, StandOn, HaveRootNumbers}
use Rattle.nx_rules.specs.Tour.{Visit, all_reached, Tour, used_in}
use Rattle.nx_rules.specs.Broken.{BreaksList, BreaksNamed, IsReadFirst}
use Rattle.nx_rules.proofs.FirstLemmas.{pages_append}
use Rattle.nx_check.specs.declared.left.Left.{Left}
use Rattle.nx_check.specs.declared.reading.Walk.{Walk}
use Rattle.nx_check.specs.declared.uses.Uses.{Uses}
use Rattle.nx_check.specs.Marks.{AreMarked}
use Rattle.nx_check.specs.On.{IsOn}
use Rattle.nx_check.specs.Come.{HasCome}
use Rattle.nx_check.specs.Lists.{fars_of_item, WalksLists, SaysLists}
use Rattle.nx_check.specs.AtRecord.{BreaksAt}
use Rattle.nx_check.proofs.BuildLemmas.{build, stand_long}
use Rattle.nx_check.proofs.ChainLemmas.{SaysList}

-- What its place breaks.

module _ (pages : Pages) (tour : Tour) (visit : Visit) (named : Named) (by page slot : ℕ) where
  page_is : named_place named ≡ record { page = page; slot = slot } → named.proxy.page ≡ page
  page_is here = ap (λ (p : RecordPlace). p.page) here

  slot_is : named_place named ≡ record { page = page; slot = slot } → named.proxy.slot ≡ slot
  slot_is here = ap (λ (p : RecordPlace). p.slot) here

  pub at_missing : naming_page named.by ≡ by → named_place named ≡ record { page = page; slot = slot } → pages page ≡ None → BreaksAt pages tour visit named rule.Missing by
  at_missing named_by here none = (sym named_by, inl (ap pages (page_is here) ∙ none))

  pub at_no_record : (bytes : List ℕ) → naming_page named.by ≡ by → named_place named ≡ record { page = page; slot = slot } → IsSlottedPage pages page bytes → record_in (Some bytes) slot ≡ None → BreaksAt pages tour visit named rule.Missing by
  at_no_record bytes named_by here is none =
      (sym named_by, inr (bytes, subst (λ (p : ℕ). IsSlottedPage pages p bytes) (sym (page_is here)) is, ap (λ (s : ℕ). record_in (Some bytes) s) (slot_is here) ∙ none))

  pub at_unslotted : (bytes : List ℕ) → named_place named ≡ record { page = page; slot = slot } → pages page ≡ Some bytes → (IsSlotted bytes → ⊥) → BreaksAt pages tour visit named rule.Slotted page
  at_unslotted bytes here there bad = (sym (page_is here), (bytes, ap pages (page_is here) ∙ there, bad))

  pub at_twice : (bytes : List ℕ) → named_place named ≡ record { page = page; slot = slot } → IsRecordAt pages (record { page = page; slot = slot }) bytes → Contains (all_reached tour.visits) (record { page = page; slot = slot })
      → BreaksAt pages tour visit named rule.Twice page
  at_twice bytes here found among =
      (sym (page_is here), (bytes, subst (λ (p : RecordPlace). IsRecordAt pages p bytes) (sym here) found, subst (λ (p : RecordPlace). Contains (all_reached tour.visits) p) (sym here) among))

  pub at_form : (bytes : List ℕ) → named_place named ≡ record { page = page; slot = slot } → IsRecordAt pages (named_place named) bytes → (Contains (all_reached tour.visits) (named_place named) → ⊥) → IsDecoded bytes None
      → BreaksAt pages tour visit named rule.Form page
  at_form bytes here found fresh none = (sym (page_is here), (bytes, record { found = found; fresh = fresh }, none))

  pub at_chain : (bytes : List ℕ) (stored : Stored) (lists : List Far) (blamed : ℕ) → named_place named ≡ record { page = page; slot = slot } → IsRecordAt pages (named_place named) bytes
      → (Contains (all_reached tour.visits) (named_place named) → ⊥) → IsDecoded bytes (Some stored) → lists ≡ lists_named stored → BreaksNamed pages (used_in tour) page lists blamed → BreaksAt pages tour visit named rule.Chain blamed
  at_chain bytes stored lists blamed here found fresh is same breaks =
      (bytes, stored, record { found = found; fresh = fresh }, is, subst (λ (p : ℕ). BreaksNamed pages (used_in tour) p (lists_named stored) blamed) (sym (page_is here)) (subst (λ (l : List Far). BreaksNamed pages (used_in tour) page l blamed) same breaks))

-- a record more was reached
pub come_record : {D : Type 0} (d : Ghosts D) (old loaded : Walk) (uses : Uses) (left : Left) (before after : D) (was : Image) (base : ℕ) (free used : List ℕ) (reached : List RecordPlace) (place : RecordPlace)
    → HasCome d old before was base free used reached → IsOn d loaded after was → d.reads after ≤ d.reads before + 1 → AreMarked uses left (replay was) free used (reached ++ place ∷ [])
    → HasCome d (record loaded { uses = uses; left = left }) after was base free used (reached ++ place ∷ [])
come_record d old loaded uses left before after was base free used reached place come on soon marked =
    let long : length (reached ++ place ∷ []) ≡ length reached + length (place ∷ []) = length-append reached (place ∷ []) in
    let so_far : d.reads before ≤ base + length free + length used + length reached = come.reads in
    record {
      on = record { step = on.step; none = on.none; page = on.page };
      marked = marked;
      once = come.once;
      reads = omega (arith, long, so_far, soon);
    }

-- Its lists.

-- pages of lists behind others
pub used_behind : (used : List ℕ) (links : List Link) (chains : List (List Link)) → used ++ pages_of_links (links_behind (links ∷ chains)) ≡ (used ++ pages_of_links links) ++ pages_of_links (links_behind chains)
used_behind used links chains = ap (λ (l : List ℕ). used ++ l) (pages_append links (links_behind chains)) ∙ sym (append_assoc used (pages_of_links links) (pages_of_links (links_behind chains)))

-- the first of the lists breaks
pub first_breaks : (pages : Pages) (used : List ℕ) (by : ℕ) (far : Far) (fars : List Far) (page : ℕ) → AreUsedOnce used → BreaksList pages used by far.first far.length page → BreaksNamed pages used by (far ∷ fars) page
first_breaks pages used by far fars page once breaks = record {
  before = [];
  far = far;
  after = fars;
  are = refl;
  chains = [];
  stand = tt;
  once = subst (λ (l : List ℕ). AreUsedOnce l) (sym (append-nil used)) once;
  breaks = subst (λ (l : List ℕ). BreaksList pages l by far.first far.length page) (sym (append-nil used)) breaks;
}

-- one of those behind it does
pub later_breaks : (pages : Pages) (used : List ℕ) (by : ℕ) (far : Far) (links : List Link) (fars : List Far) (page : ℕ) → IsListOf pages [] far.first far.length links → BreaksNamed pages (used ++ pages_of_links links) by fars page
    → BreaksNamed pages used by (far ∷ fars) page
later_breaks pages used by far links fars page is h = record {
  before = far ∷ h.before;
  far = h.far;
  after = h.after;
  are = ap (λ (l : List Far). far ∷ l) h.are;
  chains = links ∷ h.chains;
  stand = (is, h.stand);
  once = subst (λ (l : List ℕ). AreUsedOnce l) (sym (used_behind used links h.chains)) h.once;
  breaks = subst (λ (l : List ℕ). BreaksList pages l by h.far.first h.far.length page) (sym (used_behind used links h.chains)) h.breaks;
}

-- one of those of the nodes below does, or of those beside them
pub more_break : (pages : Pages) (used : List ℕ) (by : ℕ) (fars more : List Far) (page : ℕ) → BreaksNamed pages used by fars page → BreaksNamed pages used by (fars ++ more) page
more_break pages used by fars more page h = record {
  before = h.before;
  far = h.far;
  after = h.after ++ more;
  are = ap (λ (l : List Far). l ++ more) h.are ∙ append_assoc h.before (h.far ∷ h.after) more;
  chains = h.chains;
  stand = h.stand;
  once = h.once;
  breaks = h.breaks;
}

pub behind_break : (pages : Pages) (used : List ℕ) (by : ℕ) (fars more : List Far) (chains : List (List Link)) (page : ℕ) → StandOn pages fars chains → BreaksNamed pages (used ++ pages_of_links (links_behind chains)) by more page
    → BreaksNamed pages used by (fars ++ more) page
behind_break pages used by [] more [] page h breaks = subst (λ (l : List ℕ). BreaksNamed pages l by more page) (append-nil used) breaks
behind_break pages used by [] more (c ∷ chains) page h breaks = absurd h
behind_break pages used by (f ∷ fars) more [] page h breaks = absurd h
behind_break pages used by (f ∷ fars) more (c ∷ chains) page h breaks =
    later_breaks pages used by f c (fars ++ more) page h.0
    (behind_break pages (used ++ pages_of_links c) by fars more chains page h.1 (subst (λ (l : List ℕ). BreaksNamed pages l by more page) (used_behind used c chains) breaks))

-- lists stand behind others
pub stand_both : (pages : Pages) (fars more : List Far) (chains others : List (List Link)) → StandOn pages fars chains → StandOn pages more others → StandOn pages (fars ++ more) (chains ++ others)
stand_both pages [] more [] others h g = g
stand_both pages [] more (c ∷ chains) others h g = absurd h
stand_both pages (f ∷ fars) more [] others h g = absurd h
stand_both pages (f ∷ fars) more (c ∷ chains) others h g = (h.0, stand_both pages fars more chains others h.1 g)

links_both : (chains others : List (List Link)) → links_behind (chains ++ others) ≡ links_behind chains ++ links_behind others
links_both [] others = refl
links_both (c ∷ chains) others = ap (λ (l : List Link). c ++ l) (links_both chains others) ∙ sym (append_assoc c (links_behind chains) (links_behind others))

pub used_both : (used : List ℕ) (chains others : List (List Link))
    → used ++ pages_of_links (links_behind (chains ++ others)) ≡ (used ++ pages_of_links (links_behind chains)) ++ pages_of_links (links_behind others)
used_both used chains others =
    ap (λ (l : List Link). used ++ pages_of_links l) (links_both chains others) ∙ ap (λ (l : List ℕ). used ++ l) (pages_append (links_behind chains) (links_behind others))
    ∙ sym (append_assoc used (pages_of_links (links_behind chains)) (pages_of_links (links_behind others)))

-- What it is read as.

-- a list that is whole beside others is whole alone
pub list_alone : (pages : Pages) (used : List ℕ) (first size : ℕ) (links : List Link) → IsListOf pages used first size links → IsListOf pages [] first size links
list_alone pages used first size links h = record {
  front = h.front;
  last = h.last;
  are = h.are;
  to = record {
    linked = h.to.linked;
    more = h.to.more;
    once = λ p. (let few = h.to.once p in let both = times-append p used (pages_of_links h.front) in omega (arith, few, both));
  };
  end = h.end;
  left = h.left;
  fresh = (let none = h.fresh in let both = times-append h.last.page used (pages_of_links h.front) in omega (arith, none, both));
}

module _ (pages : Pages) (tour : Tour) (named : Named) (bytes : List ℕ) where
  pub reads_inline : (piece : Piece) (chains : List (List Link)) → IsRecordAt pages (named_place named) bytes → (Contains (all_reached tour.visits) (named_place named) → ⊥) → IsDecoded bytes (Some (Inline piece))
      → StandOn pages (fars_in piece.body.roots) chains → AreUsedOnce (used_in tour ++ pages_of_links (links_behind chains))
      → (new : Walked) × IsReadFirst pages tour named chains new × (walked_body new ≡ piece.body.roots) × (walked_proxies new ≡ piece.proxies)
  reads_inline piece chains found fresh is stand once =
      let valid = is.0.body in
      let made = build piece.body.roots piece.proxies (map content_of chains) valid.apart valid.far (sym valid.counted) (stand_long pages (fars_in piece.body.roots) chains stand) in (
        made.row,
        record {
          fresh = fresh;
          holds = record {
            stored = Inline piece;
            there = record { found = subst (λ (b : List ℕ). IsRecordAt pages (named_place named) b) is.2 found; valid = is.0; numbers = is.1 };
            roots = sym made.body;
            stand = stand;
            says = (sym made.proxies, sym made.contents);
          };
          read = made.read pages;
          wait = made.wait;
          unused = once;
        },
        made.body,
        made.proxies,
      )

  pub reads_chained : (body : Body) (count chain : ℕ) (proxies : List Proxy) (links : List Link) (chains : List (List Link)) → IsRecordAt pages (named_place named) bytes → (Contains (all_reached tour.visits) (named_place named) → ⊥)
      → IsDecoded bytes (Some (Chained body count chain)) → IsListOf pages [] chain (8 * count) links → content_of links ≡ proxies_bytes proxies → length proxies ≡ count → HaveNumbers proxies → HaveRootNumbers proxies
      → StandOn pages (fars_in body.roots) chains → AreUsedOnce (used_in tour ++ pages_of_links (links_behind (links ∷ chains)))
      → (new : Walked) × IsReadFirst pages tour named (links ∷ chains) new × (walked_body new ≡ body.roots) × (walked_proxies new ≡ proxies)
  reads_chained body count chain proxies links chains found fresh is list says many numbers rooted stand once =
      let valid = is.0.body in
      let made = build body.roots proxies (map content_of chains) valid.apart valid.far (many ∙ sym valid.counted) (stand_long pages (fars_in body.roots) chains stand) in (
        made.row,
        record {
          fresh = fresh;
          holds = record {
            stored = Chained body count chain;
            there = record { found = subst (λ (b : List ℕ). IsRecordAt pages (named_place named) b) is.2 found; valid = is.0; numbers = is.1 };
            roots = sym made.body;
            stand = (list, stand);
            says = ((λ i. (says ∙ ap proxies_bytes (sym made.proxies)) i ∷ sym made.contents i), subst (λ (l : List Proxy). HaveNumbers l) (sym made.proxies) numbers, subst (λ (l : List Proxy). HaveRootNumbers l) (sym made.proxies) rooted);
          };
          read = made.read pages;
          wait = made.wait;
          unused = once;
        },
        made.body,
        made.proxies,
      )

-- what a walk says that stops at a record's place
abbrev pub SaysAt : {D : Type 0} → Ghosts D → Walk → D → (by page slot : ℕ) → PageRule → ℕ → Type 0
SaysAt d walk disk by page slot broken blamed =
    (was : Image) (base : ℕ) (free used : List ℕ) (tour : Tour) (visit : Visit) (named : Named) → HasCome d walk disk was base free used (all_reached tour.visits) → naming_page named.by ≡ by → named_place named ≡ record { page = page; slot = slot }
    → BreaksAt (replay was) tour visit named broken blamed

-- ... and at what it is read as
abbrev pub SaysIn : {D : Type 0} → Ghosts D → Walk → D → (page slot : ℕ) → List ℕ → PageRule → ℕ → Type 0
SaysIn d walk disk page slot bytes broken blamed =
    (was : Image) (base : ℕ) (tour : Tour) (visit : Visit) (named : Named) → HasCome d walk disk was base tour.free (used_in tour) (all_reached tour.visits ++ named_place named ∷ []) → named_place named ≡ record { page = page; slot = slot }
    → IsRecordAt (replay was) (named_place named) bytes → (Contains (all_reached tour.visits) (named_place named) → ⊥) → BreaksAt (replay was) tour visit named broken blamed

-- a list of one that was found broken says so of its record
pub lists_at : {D : Type 0} (d : Ghosts D) (walk : Walk) (disk : D) (page slot : ℕ) (bytes : List ℕ) (stored : Stored) (lists : List Far) → IsDecoded bytes (Some stored) → lists ≡ lists_named stored → (broken : PageRule) (blamed : ℕ)
    → SaysLists d walk disk page lists broken blamed → SaysIn d walk disk page slot bytes broken blamed
lists_at d walk disk page slot bytes stored lists is same broken blamed h was base tour visit named come here found fresh =
    subst (λ (r : PageRule). BreaksAt (replay was) tour visit named r blamed) (sym h.0)
    (at_chain (replay was) tour visit named page page slot bytes stored lists blamed here found fresh is same (h.1 was base tour.free (used_in tour) (all_reached tour.visits ++ named_place named ∷ []) come))

-- proxies that stand in a list are some
pub chained_count : (roots : Gapped) (count : ℕ) → IsValidChained roots count → 1 ≤ count
chained_count roots count h =
    let few = body_fits roots count h.body in
    let long : 8176 < 16 + 8 * slots_in roots + 8 * count = h.long in
    elim (cases_lt 0 count) [ inl some ↦ omega (arith, some) | inr none ↦ absurd (omega (arith, few, long, none)) ]

-- what proxies that were read of a list say
pub proxies_say : (links : List Link) (bytes into : List ℕ) (proxies : List Proxy) → into ≡ [] ++ content_of links → bytes ≡ into → bytes ≡ proxies_bytes proxies → content_of links ≡ proxies_bytes proxies
proxies_say links bytes into proxies own same is = sym own ∙ sym same ∙ is

-- No list.

pub no_lists : {D : Type 0} (d : Ghosts D) (walk : Walk) (disk : D) → WalksLists d walk disk walk disk []
no_lists d walk disk was base free used reached come = ([], tt, subst (λ (l : List ℕ). HasCome d walk disk was base free l reached) (sym (append-nil used)) come)

-- One list.

pub one_list_walks : {D : Type 0} (d : Ghosts D) (old walk : Walk) (before disk : D) (far : Far)
    → ((was : Image) (base : ℕ) (free used : List ℕ) (reached : List RecordPlace) → HasCome d old before was base free used reached → (links : List Link) × IsListOf (replay was) used far.first far.length links × HasCome d walk disk was base free (used ++ pages_of_links links) reached)
    → WalksLists d old before walk disk (far ∷ [])
one_list_walks d old walk before disk far walked was base free used reached come =
    let h = walked was base free used reached come in
    (h.0 ∷ [], (list_alone (replay was) used far.first far.length h.0 h.1, tt), subst (λ (l : List Link). HasCome d walk disk was base free (used ++ pages_of_links l) reached) (sym (append-nil h.0)) h.2)

pub one_list_says : {D : Type 0} (d : Ghosts D) (walk : Walk) (disk : D) (by : ℕ) (far : Far) (broken : PageRule) (blamed : ℕ) → SaysList d walk disk by far.first far.length broken blamed → SaysLists d walk disk by (far ∷ []) broken blamed
one_list_says d walk disk by far broken blamed h = (h.0, λ was base free used reached come. first_breaks (replay was) used by far [] blamed come.once (h.1 was base free used reached come))

-- Lists behind others.

pub both_walk : {D : Type 0} (d : Ghosts D) (old walk last : Walk) (before disk after : D) (fars more : List Far) → WalksLists d old before walk disk fars → WalksLists d walk disk last after more → WalksLists d old before last after (fars ++ more)
both_walk d old walk last before disk after fars more first second was base free used reached come =
    let h = first was base free used reached come in
    let g = second was base free (used ++ pages_of_links (links_behind h.0)) reached h.2 in
    (h.0 ++ g.0, stand_both (replay was) fars more h.0 g.0 h.1 g.1, subst (λ (l : List ℕ). HasCome d last after was base free l reached) (sym (used_both used h.0 g.0)) g.2)

pub front_says : {D : Type 0} (d : Ghosts D) (walk : Walk) (disk : D) (by : ℕ) (fars more : List Far) (broken : PageRule) (blamed : ℕ) → SaysLists d walk disk by fars broken blamed → SaysLists d walk disk by (fars ++ more) broken blamed
front_says d walk disk by fars more broken blamed h = (h.0, λ was base free used reached come. more_break (replay was) used by fars more blamed (h.1 was base free used reached come))

pub back_says : {D : Type 0} (d : Ghosts D) (old walk : Walk) (before disk : D) (by : ℕ) (fars more : List Far) → WalksLists d old before walk disk fars → (broken : PageRule) (blamed : ℕ) → SaysLists d walk disk by more broken blamed → SaysLists d old before by (fars ++ more) broken blamed
back_says d old walk before disk by fars more walked broken blamed h = (
  h.0,
  λ was base free used reached come.
      let g = walked was base free used reached come in
      behind_break (replay was) used by fars more g.0 blamed g.1 (h.1 was base free (used ++ pages_of_links (links_behind g.0)) reached g.2),
)

-- Items.

pub item_fars : (item : ItemView) (rest : Gapped) → fars_in (begun_with item rest) ≡ fars_of_item item ++ fars_in rest
item_fars (Tree tree) rest = sym (append_assoc (option_to_list (seen_node tree.node).far) (fars_in (seen_items tree.children)) (fars_in rest))
item_fars (Run count) rest = refl

pub far_item : (item : ItemView) (rest : Gapped) → AreFar (begun_with item rest) → AreFar (begun_with item End) × AreFar rest
far_item (Tree tree) rest h = ((h.0, h.1, tt), h.2)
far_item (Run count) rest h = (tt, h)

pub item_less : (item : ItemView) (rest : Gapped) → 1 + item_count rest ≤ item_count (begun_with item rest)
item_less (Tree tree) rest = omega arith
item_less (Run count) rest = omega arith

pub item_part : (item : ItemView) (rest : Gapped) → item_count (begun_with item End) ≤ item_count (begun_with item rest)
item_part (Tree tree) rest = omega arith
item_part (Run count) rest = omega arith
