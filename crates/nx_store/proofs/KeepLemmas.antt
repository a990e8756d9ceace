-- What the steps of a load leave of a store, and what they are refused for.
use Rattle.std.proofs.Common.{◌≡◌, ◌⊎◌, ℕ, ◌+◌, ◌-◌, ◌^◌, ◌≤◌, min, List, [], length, None, inl, inr, true, false, sym, ap, ap₂, ◌∙◌, subst, arith}
use Rattle.std.specs.Prelude.{All, Result, Ok, Err, IfErr}
use Rattle.std.specs.FinMap.{entries, get, insert, remove}
use Rattle.std.proofs.lemmas.Bool.{false≢true}
use Rattle.nx_host.specs.Disk.{Rose}
use Rattle.nx_host.specs.declared.disk.Disk.{Ghosts}
use Rattle.nx_host.specs.Still.{IsStill}
use Rattle.nx_tree.specs.Forest.{OrderedTree, nodes}
use Rattle.nx_parts.specs.declared.interval.Interval.{Interval}
use Rattle.nx_parts.specs.Order.{AreInOrder}
use Rattle.nx_wal.specs.Wal.{current}
use Rattle.nx_holdings.specs.declared.header.Settings.{Settings}
use Rattle.nx_holdings.specs.Holdings.{Held}
use Rattle.nx_records.specs.declared.records.Records.{Records}
use Rattle.nx_records.specs.declared.error.StoreError.{StoreError}
use Rattle.nx_records.specs.declared.error.StoreError.TheVariants as error
use Rattle.nx_records.specs.Records.{has_ended, settings_of, StandsFor, KeepsSaved, ComesTo}
use Rattle.nx_records.specs.Changes.{SetsCatalog, catalog_needs}
use Rattle.nx_records.specs.Refusals.{RunsOn, NotStored}
use Rattle.nx_matrix.specs.declared.rule.Rule.{Rule}
use Rattle.nx_matrix.specs.RuleLabels.{HasLabels}
use Rattle.nx_script.specs.declared.command.LoadBody.TheVariants.{Read}
use Rattle.nx_script.specs.declared.command.Command.TheVariants.{Load}
use Rattle.nx_hold.specs.declared.entry.DocEntry.{DocEntry}
use Rattle.nx_hold.specs.Changes.{ComesTidy}
use Rattle.nx_hold.proofs.RefusalLemmas.{runs_then, saved_then}
use Rattle.nx_catalog.specs.Catalog.{Contents, Entries, IsCatalog, catalog_bytes}
use Rattle.nx_state.specs.State.{State}
use Rattle.nx_build.specs.Storing.{StoresDocument, store_needs}
use Rattle.nx_store.specs.Store.{IsNow}
use Rattle.nx_store.specs.Staying.{IsLeftBy, RecordsStay, AllStay}
use Rattle.nx_store.specs.Changing.{IsStoreLeft}
use Rattle.nx_store.specs.Loading.{IsNew, IsKept, NotKept}
use Rattle.nx_store.specs.declared.store.Store.{Store}
use Rattle.nx_store.proofs.NameLemmas.{taken_back}
use Rattle.nx_store.proofs.StayingLemmas.{catalog_leaves}
use Rattle.nx_store.proofs.LoadLemmas.{IsBrought, brought, set_state, save_full, store_full, many_full}

pub no_end : (r : Records) → has_ended r ≡ false → has_ended r ≡ true → ⊥
no_end r runs ended = false≢true (sym runs ∙ ended)

pub if_err_both : {T E : Type 0} {P Q R : E → Type 0} (r : Result T E) → IfErr r P → IfErr r Q → ((e : E) → P e → Q e → R e) → IfErr r R
if_err_both (Ok x) one other both = tt
if_err_both (Err e) one other both = both e one other

-- the catalog without the entry that came is the one before
pub back_again : (was mid now : Contents) (name : List ℕ) (entry : DocEntry) → get was.documents name ≡ None → mid.documents ≡ insert was.documents name entry → mid.rules ≡ was.rules
    → now.documents ≡ remove mid.documents name → now.rules ≡ mid.rules → now ≡ was
back_again was mid now name entry none came rules went ruled =
    let documents : now.documents ≡ was.documents = went ∙ ap (λ (m : Entries). remove m name) came ∙ taken_back was.documents name entry none in
    let same : now.rules ≡ was.rules = ruled ∙ rules in
    ap₂ (λ (m : Entries) (r : List Rule). record { documents = m; rules = r }) documents same

pub later_rose : (n m k : ℕ) → n ≤ m → Rose m k → Rose n k
later_rose n m k later rose = let rose : min (m + 1) (2 ^ 64 - 1) ≤ k = rose in omega (arith, rose, later)

module _ {D : Type 0} (d : Ghosts D) where
  module _ (s0 : Store) (x0 : D) {saved : Held} (state : State) (at : IsNow d s0 x0 saved state) where
    -- the header has the settings that are held
    head_settings : (at.held).settings ≡ settings_of s0.records
    head_settings = (((at.stands).holds).behind).settings

    -- what was brought by the records
    pub brought_at : (r1 : Records) (x1 : D) (name : List ℕ) (tree : OrderedTree) (parts : List Interval) (page slot count : ℕ) → IsNew s0 name → AreInOrder parts → count ≡ 1 + nodes tree.below
        → ComesTidy d s0.records r1 x0 x1 (StoresDocument tree parts (record { page = page; slot = slot }))
        → (mid : Held) × StandsFor d r1 x1 saved mid × IsBrought at.held mid state s0.catalog at.state_is name tree parts (record { root = record { page = page; slot = slot }; nodes = count })
    brought_at r1 x1 name tree parts page slot count new in_order counted comes =
        let mid = comes saved at.held at.stands ((at.state_is).holds).tidy in (
          mid.0,
          mid.1,
          brought at.held mid.0 state s0.catalog at.state_is at.catalog name new tree parts page slot count mid.3 mid.2 counted in_order,
        )

    -- the catalog may be saved
    pub form_at : (c1 : Contents) → c1.rules ≡ (s0.catalog).rules → (All HasLabels c1.rules → IsCatalog (catalog_bytes c1) c1) → IsCatalog (catalog_bytes c1) c1
    form_at c1 rules form = form (subst (λ rs. All HasLabels rs) (sym rules) (at.catalog).labels)

    -- the document is kept
    pub kept_at : (r1 : Records) (s2 : Store) (x1 x2 : D) (c1 : Contents) (name : List ℕ) (tree : OrderedTree) (parts : List Interval) (entry : DocEntry) → c1.documents ≡ insert (s0.catalog).documents name entry → c1.rules ≡ (s0.catalog).rules
        → (All HasLabels c1.rules → IsCatalog (catalog_bytes c1) c1) → s2.catalog ≡ c1 → (mid : Held) → StandsFor d r1 x1 saved mid → IsBrought at.held mid state s0.catalog at.state_is name tree parts entry
        → ComesTo d r1 s2.records x1 x2 (λ was now. SetsCatalog (catalog_bytes c1) was now)
        → (kept : IsKept d saved s2 x2 state name tree parts) × RecordsStay (IsLeftBy (Load name (Read tree))) (at.state_is).stored at.held (kept.now).held × AllStay (at.state_is).stored ((kept.now).state_is).stored
    kept_at r1 s2 x1 x2 c1 name tree parts entry documents rules form same mid stands b sets =
        let now = sets saved mid stands in
        let formed = form_at c1 rules form in (
          record {
            document = b.document;
            tree_is = b.tree_is;
            parts_are = b.parts_are;
            now = record {
              held = now.0;
              stands = now.1;
              state_is = set_state at.held mid now.0 state s0.catalog c1 at.state_is name tree parts entry at.catalog b documents rules formed now.2;
              catalog = subst (λ (c : Contents). IsCatalog (now.0).catalog.bytes c) (sym same) (subst (λ (bytes : List ℕ). IsCatalog bytes c1) (sym (now.2).catalog) formed);
            };
          },
          catalog_leaves (IsLeftBy (Load name (Read tree))) (catalog_bytes c1) at.held mid now.0 (at.state_is).stored now.2 b.stay,
          b.all_stay,
        )

  -- why the records of a document weren't brought
  pub store_refused : (s0 s1 : Store) (x0 x1 : D) (tree : OrderedTree) (name : List ℕ) (e : StoreError) → has_ended s0.records ≡ false → IsNew s0 name → s1.catalog ≡ s0.catalog
      → NotStored d (λ was. store_needs tree) (λ was. ⊥) 0 e s0.records s1.records x0 x1 → NotKept d tree e s0 s1 x0 x1
  store_refused s0 s1 x0 x1 tree name error.Disk runs new same refused = (refused.0, ((refused.1).before, (refused.1).after))
  store_refused s0 s1 x0 x1 tree name error.Full runs new same refused = (
    record { runs = refused.runs; saved = refused.keeps; catalog = same },
    λ saved state at. store_full at.held state s0.catalog at.state_is at.catalog name new tree (current (s0.records).wal ((at.stands).keeps).image) ((s0.records).head, (at.stands).holds) (refused.few saved at.held at.stands),
  )
  store_refused s0 s1 x0 x1 tree name (error.Damaged page) runs new same refused = (((refused.ends).before, (refused.ends).after), λ saved state at. refused.lacks saved at.held at.stands)
  store_refused s0 s1 x0 x1 tree name error.Memory runs new same refused = record { runs = refused.0; saved = refused.1; catalog = same }
  store_refused s0 s1 x0 x1 tree name error.Ended runs new same refused = no_end s0.records runs refused.0
  store_refused s0 s1 x0 x1 tree name error.Exists runs new same refused = absurd refused
  store_refused s0 s1 x0 x1 tree name error.NotAStore runs new same refused = absurd refused

  -- there was no memory for an entry more, or there were as many as can be
  pub put_refused : (s0 s1 : Store) (x0 x1 : D) (tree : OrderedTree) (name : List ℕ) (e : StoreError) → IsNew s0 name → s1.catalog ≡ s0.catalog → RunsOn s0.records s1.records → KeepsSaved d s0.records s1.records x0 x1
      → ((e ≡ error.Memory) ⊎ ((e ≡ error.Full) × (4294967295 ≤ length (entries (s0.catalog).documents)))) → NotKept d tree e s0 s1 x0 x1
  put_refused s0 s1 x0 x1 tree name e new same runs keeps cause =
      let left : IsStoreLeft d s0 s1 x0 x1 = record { runs = runs; saved = keeps; catalog = same } in
      elim cause [
        | inl is ↦ subst (λ (x : StoreError). NotKept d tree x s0 s1 x0 x1) (sym is) left
        | inr is ↦ subst (λ (x : StoreError). NotKept d tree x s0 s1 x0 x1) (sym is.0) (
          left,
          λ saved state at. many_full at.held state s0.catalog at.state_is at.catalog name new tree
              (subst (λ (t : Settings). t.limit ≤ 16777216) (sym (head_settings s0 x0 state at)) ((((at.stands).holds).range).settings).limit.1) is.1,
        )
      ]

  -- why the catalog wasn't saved behind them
  pub save_refused : (s0 s2 : Store) (x0 x1 x2 : D) (r1 : Records) (c1 : Contents) (tree : OrderedTree) (parts : List Interval) (name : List ℕ) (entry : DocEntry) (e : StoreError) → IsStill d x0 x1 → RunsOn s0.records r1 → KeepsSaved d s0.records r1 x0 x1
      → ((saved : Held) (state : State) (at : IsNow d s0 x0 saved state) → (mid : Held) × StandsFor d r1 x1 saved mid × IsBrought at.held mid state s0.catalog at.state_is name tree parts entry)
      → c1.documents ≡ insert (s0.catalog).documents name entry → c1.rules ≡ (s0.catalog).rules → (All HasLabels c1.rules → IsCatalog (catalog_bytes c1) c1) → s2.catalog ≡ s0.catalog
      → NotStored d (λ was. catalog_needs (catalog_bytes c1) was) (λ was. ⊥) 0 e r1 s2.records x1 x2 → NotKept d tree e s0 s2 x0 x2
  save_refused s0 s2 x0 x1 x2 r1 c1 tree parts name entry error.Disk still runs keeps mid documents rules form same refused =
      (later_rose (d.faults x0) (d.faults x1) (d.faults x2) still.faults_later refused.0, (runs.before, (refused.1).after))
  save_refused s0 s2 x0 x1 x2 r1 c1 tree parts name entry error.Full still runs keeps mid documents rules form same refused = (
    record { runs = runs_then {r0 = s0.records} {r1 = r1} {r2 = s2.records} runs refused.runs; saved = saved_then {d = d} {r0 = s0.records} {r1 = r1} {r2 = s2.records} {x0 = x0} {x1 = x1} {x2 = x2} keeps refused.keeps; catalog = same },
    λ saved state at.
        let m = mid saved state at in
        save_full at.held m.0 m.0 state s0.catalog c1 at.state_is name tree parts entry at.catalog m.2 documents rules (form_at s0 x0 state at c1 rules form)
        (current r1.wal ((m.1).keeps).image) (r1.head, (m.1).holds) (refused.few saved m.0 m.1),
  )
  save_refused s0 s2 x0 x1 x2 r1 c1 tree parts name entry (error.Damaged page) still runs keeps mid documents rules form same refused =
      ((runs.before, (refused.ends).after), λ saved state at. let m = mid saved state at in refused.lacks saved m.0 m.1)
  save_refused s0 s2 x0 x1 x2 r1 c1 tree parts name entry error.Memory still runs keeps mid documents rules form same refused =
      record { runs = runs_then {r0 = s0.records} {r1 = r1} {r2 = s2.records} runs refused.0; saved = saved_then {d = d} {r0 = s0.records} {r1 = r1} {r2 = s2.records} {x0 = x0} {x1 = x1} {x2 = x2} keeps refused.1; catalog = same }
  save_refused s0 s2 x0 x1 x2 r1 c1 tree parts name entry error.Ended still runs keeps mid documents rules form same refused = no_end r1 runs.after refused.0
  save_refused s0 s2 x0 x1 x2 r1 c1 tree parts name entry error.Exists still runs keeps mid documents rules form same refused = absurd refused
  save_refused s0 s2 x0 x1 x2 r1 c1 tree parts name entry error.NotAStore still runs keeps mid documents rules form same refused = absurd refused
