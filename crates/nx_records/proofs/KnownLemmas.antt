-- The pages of the catalog, found by a walk over its chain, and what is known of records then.
use Rattle.std.proofs.Common.{◌≡◌, ℕ, ◌+◌, ◌-◌, ◌≤◌, ◌<◌, List, [], ◌∷◌, ◌++◌, length, refl, sym, ap, subst, ◌∙◌, arith, false}
use Rattle.std.proofs.lemmas.List.{append_assoc, append-nil}
use Rattle.std.specs.Prelude.{◌≢◌, ◌^◌, min}
use Rattle.nx_host.specs.Disk.{Image}
use Rattle.nx_host.specs.declared.disk.Disk.{Ghosts}
use Rattle.nx_host.specs.Still.{IsStill}
use Rattle.nx_host.proofs.DiskLemmas.{settled_still}
use Rattle.nx_replay.specs.Log.{Pages, entry_pages, replay}
use Rattle.nx_wal.specs.declared.wal.Wal.{Wal}
use Rattle.nx_wal.specs.Wal.{IsInStep, current, pending, length_of}
use Rattle.nx_holdings.specs.declared.header.Header.{Header}
use Rattle.nx_holdings.specs.Holdings.{times, Link, AreLinked, next_of, pages_of_links, chain_count, Held, HoldsBehind, HoldsBy}
use Rattle.nx_holdings.proofs.TimesLemmas.{times_one, times-append}
use Rattle.nx_holdings.proofs.ChainLemmas.{Names, one_next}
use Rattle.nx_links.specs.Lists.{IsLinkAt}
use Rattle.nx_links.proofs.BesideLemmas.{chain_linked, chain_low}
use Rattle.nx_links.proofs.JoinLemmas.{enter}
use Rattle.nx_records.specs.declared.records.Records.{Records}
use Rattle.nx_records.specs.declared.error.StoreError.{StoreError}
use Rattle.nx_records.specs.declared.error.StoreError.TheVariants as error
use Rattle.nx_records.specs.Records.{has_ended, settings_of, KeepsLog, HasSaved, StandsFor, KeepsSaved, PutsChangedAlone, AreKnown}
use Rattle.nx_records.specs.Changes.{SetsCatalog}
use Rattle.nx_records.specs.Within.{patched, PatchesCatalog}
use Rattle.nx_records.specs.Pages.{SeesSo, HoldsSo}
use Rattle.nx_records.specs.Refusals.{EndNow, RunsOn, NotChanged}
use Rattle.nx_records.specs.Chains.{NotListed}
use Rattle.nx_records.specs.Patching.{with_patch, NotPatched}
use Rattle.nx_records.proofs.StandLemmas.{saved_kept}
use Rattle.nx_records.proofs.RefusalLemmas.{keeps_self, runs_on}
use Rattle.nx_records.proofs.ChainLemmas.{names_of, few_pages}
use Rattle.nx_records.proofs.PatchedLemmas.{patched_length}

-- ---- the walk

-- links below the limit that are linked, and begin at this page
pub record IsWalk (limit : ℕ) (pages : Pages) (page : ℕ) (links : List Link) : Type 0 where
  pub linked : AreLinked pages links
  pub low : (p : ℕ) → 1 ≤ times p (pages_of_links links) → (1 ≤ p) × (p < limit)
  pub here : next_of links ≡ page

-- of each such chain these pages come first, and the rest begins at this page
abbrev pub WalksTo : (limit : ℕ) (pages : Pages) (first : ℕ) (so_far : List ℕ) (page : ℕ) → Type 0
WalksTo limit pages first so_far page = (links : List Link) → IsWalk limit pages first links → (rest : List Link) × IsWalk limit pages page rest × (pages_of_links links ≡ so_far ++ pages_of_links rest)

pub walk_none : (limit : ℕ) (pages : Pages) (first : ℕ) → WalksTo limit pages first [] first
walk_none limit pages first links walk = (links, walk, refl)

-- one page more
pub walk_more : {limit : ℕ} {pages : Pages} {first page next : ℕ} (so_far : List ℕ) {content : List ℕ} → limit ≤ 2 ^ 32 → page ≢ 0 → IsLinkAt pages page next content → WalksTo limit pages first so_far page
    → WalksTo limit pages first (so_far ++ page ∷ []) next
walk_more {limit = limit} {pages = pages} {page = page} {next = next} so_far few apart link walks links walk = let one = walks links walk in go one.0 one.1 one.2
  where
    go : (rest : List Link) → IsWalk limit pages page rest → pages_of_links links ≡ so_far ++ pages_of_links rest → (more : List Link) × IsWalk limit pages next more × (pages_of_links links ≡ (so_far ++ page ∷ []) ++ pages_of_links more)
    go [] left are = absurd (apart (sym left.here))
    go (l ∷ ls) left are =
        let here : l.page ≡ page = left.here in
        let low : (p : ℕ) → 1 ≤ times p (pages_of_links ls) → (1 ≤ p) × (p < limit) =
        λ p among. left.low p (let both : times p (l.page ∷ pages_of_links ls) ≡ times p (l.page ∷ []) + times p (pages_of_links ls) = times-append p (l.page ∷ []) (pages_of_links ls) in omega (arith, both, among)) in
        let first = (left.linked).0 in
        let names : Names pages page (next_of ls) l.content = record { there = ap pages (sym here) ∙ first.there; low = under ls low; some = first.some; few = first.few } in (
          ls,
          record { linked = (left.linked).2; low = low; here = one_next names (names_of link) },
          are ∙ ap (λ (p : ℕ). so_far ++ p ∷ pages_of_links ls) here ∙ sym (append_assoc so_far (page ∷ []) (pages_of_links ls)),
        )
      where
        under : (rest : List Link) → ((p : ℕ) → 1 ≤ times p (pages_of_links rest) → (1 ≤ p) × (p < limit)) → next_of rest < 2 ^ 32
        under [] low = omega arith
        under (m ∷ ms) low = let number = (low m.page (let one = times_one m.page (pages_of_links ms) in omega (arith, one))).1 in omega (arith, number, few)

-- all pages of the catalog
pub walked_all : {pages : Pages} {h : Header} {held : Held} {so_far : List ℕ} {page : ℕ} → HoldsBehind pages h held → page ≡ 0 → WalksTo h.pages pages h.catalog so_far page → held.catalog.pages ≡ so_far
walked_all {pages = pages} {h = h} {held = held} {so_far = so_far} {page = page} holds none walks =
    let entered = enter holds h.catalog held.catalog.bytes holds.catalog in
    let one = walks entered.links (record { linked = chain_linked entered.holds; low = chain_low entered.holds; here = entered.here }) in
    sym holds.catalog_pages ∙ sym entered.on ∙ one.2 ∙ ap (λ (ps : List ℕ). so_far ++ ps) (ends one.0 one.1) ∙ append-nil so_far
  where
    ends : (rest : List Link) → IsWalk h.pages pages page rest → pages_of_links rest ≡ []
    ends [] walk = refl
    ends (l ∷ ls) walk =
        let some = (walk.low l.page (let one = times_one l.page (pages_of_links ls) in omega (arith, one))).0 in
        let here : l.page ≡ page = walk.here in
        absurd (omega (arith, some, here, none))

-- ---- records of which the pages of the catalog alone became known

abbrev pub FindsCatalog : Records → Records → Type 0
FindsCatalog old new = (new.wal ≡ old.wal) × (new.saved ≡ old.saved) × (new.head ≡ old.head) × (has_ended new ≡ has_ended old)

module _ {D : Type 0} (d : Ghosts D) (r0 r1 : Records) (x0 x1 : D) (found : FindsCatalog r0 r1) (still : IsStill d x0 x1) where
  pub found_step : {was : Image} → IsInStep d r0.wal x0 was → IsInStep d r1.wal x1 was
  found_step {was = was} step = subst (λ (w : Wal). IsInStep d w x1 was) (sym found.0) (record { settled = settled_still still step.settled; follows = step.follows })

  pub found_behind : (was : Image) {held : Held} → HoldsBehind (current r0.wal was) r0.head held → HoldsBehind (current r1.wal was) r1.head held
  found_behind was {held = held} holds =
      subst (λ (w : Wal). HoldsBehind (current w was) r1.head held) (sym found.0) (subst (λ (h : Header). HoldsBehind (current r0.wal was) h held) (sym found.2) holds)

  abbrev pub found_saved : {saved : Held} → HasSaved d r0 x0 saved → HasSaved d r1 x1 saved
  found_saved {saved = saved} has = record {
    runs = found.3 ∙ has.runs;
    image = has.image;
    step = found_step has.step;
    holds = subst (λ (h : Header). HoldsBy (replay has.image) h saved) (sym found.1) has.holds;
  }

  abbrev pub found_stands : {saved now : Held} (stands : StandsFor d r0 x0 saved now) → now.catalog.pages ≡ r1.catalog_pages → StandsFor d r1 x1 saved now
  found_stands {saved = saved} {now = now} stands on = record {
    keeps = found_saved stands.keeps;
    holds = subst (λ (w : Wal). HoldsBy (current w (stands.keeps).image) r1.head now) (sym found.0) (subst (λ (h : Header). HoldsBy (current r0.wal (stands.keeps).image) h now) (sym found.2) stands.holds);
    known = λ some. sym on;
  }

  module _ (r2 : Records) (x2 : D) where
    pub found_ends : EndNow r1 r2 → EndNow r0 r2
    found_ends ends = record {
      before = sym found.3 ∙ ends.before;
      after = ends.after;
      length_stays = ends.length_stays ∙ ap (λ (w : Wal). length_of w) found.0;
      settings_stay = ends.settings_stay ∙ ap (λ (h : Header). h.settings) found.2;
    }

    pub found_runs : KeepsLog r1 r2 → has_ended r0 ≡ false → RunsOn r0 r2
    found_runs keeps runs = record {
      before = runs;
      after = keeps.runs;
      length_stays = keeps.length_stays ∙ ap (λ (w : Wal). length_of w) found.0;
      settings_stay = keeps.settings_stay ∙ ap (λ (h : Header). h.settings) found.2;
    }

    pub found_keeps : KeepsLog r1 r2 → IsStill d x1 x2 → KeepsSaved d r0 r2 x0 x2
    found_keeps keeps later saved has = saved_kept {r0 = r1} {r1 = r2} keeps later saved (found_saved has)

    -- a refusal told of what records stood for before
    pub found_refused : {pages : List ℕ} → has_ended r0 ≡ false → IsStill d x1 x2 → ((saved now : Held) → StandsFor d r0 x0 saved now → now.catalog.pages ≡ pages) → (e : StoreError) → NotPatched d pages e r1 r2 x1 x2
        → NotChanged d (λ was. ⊥) 0 e r0 r2 x0 x2
    found_refused runs later on error.Disk refused =
        let rose : min (d.faults x1 + 1) (2 ^ 64 - 1) ≤ d.faults x2 = refused.0 in
        let before : d.faults x0 ≤ d.faults x1 = still.faults_later in
        (omega (arith, rose, before), found_ends refused.1)
    found_refused runs later on (error.Damaged page) refused = record {
      page = refused.0;
      ends = found_ends refused.1;
      lacks = λ saved now stands. refused.2 (stands.keeps).image now (found_step (stands.keeps).step) (found_behind (stands.keeps).image (stands.holds).behind) (on saved now stands);
    }
    found_refused runs later on error.Memory refused = (found_runs refused runs, found_keeps refused later)
    found_refused runs later on error.Full refused = absurd refused
    found_refused runs later on error.Ended refused = absurd refused
    found_refused runs later on error.Exists refused = absurd refused
    found_refused runs later on error.NotAStore refused = absurd refused

    pub found_memory : (e : StoreError) → e ≡ error.Memory → has_ended r0 ≡ false → IsStill d x1 x2 → KeepsLog r1 r2 → NotChanged d (λ was. ⊥) 0 e r0 r2 x0 x2
    found_memory e same runs later keeps = subst (λ (x : StoreError). NotChanged d (λ was. ⊥) 0 x r0 r2 x0 x2) (sym same) (found_runs keeps runs, found_keeps keeps later)

-- pages that were put since then
pub found_alone : (r0 r1 r2 : Records) (was : Image) → r1.wal ≡ r0.wal → PutsChangedAlone r1 r2 was → PutsChangedAlone r0 r2 was
found_alone r0 r1 r2 was same alone p other seen =
    alone p other (seen ∙ ap (λ (w : Wal). current w was p) (sym same)) ∙ ap (λ (w : Wal). entry_pages (pending w) p) same

-- the chain wasn't read
pub find_refused : {D : Type 0} (d : Ghosts D) (r0 r1 : Records) (x0 x1 : D) (P : Pages → Type 0) (e : StoreError) → IsStill d x0 x1 → ((saved now : Held) (stands : StandsFor d r0 x0 saved now) → P (current r0.wal (stands.keeps).image) → ⊥)
    → NotListed d P 0 e r0 r1 x0 x1 → NotChanged d (λ was. ⊥) 0 e r0 r1 x0 x1
find_refused d r0 r1 x0 x1 P error.Disk still lacks refused = refused
find_refused d r0 r1 x0 x1 P (error.Damaged page) still lacks refused = record {
  page = refused.0;
  ends = refused.1;
  lacks = λ saved now stands. lacks saved now stands (refused.2 (stands.keeps).image (stands.keeps).step);
}
find_refused d r0 r1 x0 x1 P error.Memory still lacks refused = let keeps = keeps_self r0 r1 refused.0 refused.1 in (runs_on refused.0 keeps, saved_kept {r0 = r0} {r1 = r1} keeps still)
find_refused d r0 r1 x0 x1 P error.Full still lacks refused = absurd refused
find_refused d r0 r1 x0 x1 P error.Ended still lacks refused = absurd refused
find_refused d r0 r1 x0 x1 P error.Exists still lacks refused = absurd refused
find_refused d r0 r1 x0 x1 P error.NotAStore still lacks refused = absurd refused

-- what is held then
pub patch_is : (was : Held) (at : ℕ) (bytes : List ℕ) → at + length bytes ≤ length was.catalog.bytes → PatchesCatalog at bytes was (with_patch was at bytes)
patch_is was at bytes within = record {
  sets = record {
    catalog = refl;
    records = refl;
    lists = refl;
    settings = refl;
    free = let long = ap chain_count (patched_length was.catalog.bytes bytes at within) in omega (arith, long);
  };
  pages = refl;
}
