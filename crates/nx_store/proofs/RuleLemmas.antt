-- A rule of a store made, before the commit.
use Rattle.std.proofs.Common.{◌≡◌, ℕ, ◌+◌, ◌-◌, ◌<◌, ◌≤◌, Bool, true, false, List, length, None, Some, inl, inr, refl, sym, ap, ◌∙◌, subst, arith}
use Rattle.std.specs.Prelude.{not, ◌&&◌, ◌==◌, if◌then◌else◌}
use Rattle.std.specs.FinMap.{entries}
use Rattle.std.proofs.lemmas.List.{length-map}
use Rattle.std.proofs.lemmas.Bool.{false≢true}
use Rattle.std.proofs.lemmas.Bool.Decides.{eqb_tells}
use Rattle.nx_host.specs.declared.disk.Disk.{Ghosts}
use Rattle.nx_tree.specs.Forest.{nodes}
use Rattle.nx_wal.specs.Wal.{current}
use Rattle.nx_holdings.specs.declared.header.Settings.{Settings}
use Rattle.nx_holdings.specs.Holdings.{Held, chain_count}
use Rattle.nx_records.specs.declared.error.StoreError.TheVariants as below
use Rattle.nx_records.specs.Records.{has_ended, ComesTo}
use Rattle.nx_records.specs.Changes.{SetsCatalog}
use Rattle.nx_matrix.specs.declared.rule.Entry.{Entry}
use Rattle.nx_matrix.specs.declared.rule.Entry.TheVariants.{Standalone, Cluster, Free}
use Rattle.nx_matrix.specs.declared.rule.Rule.{Rule}
use Rattle.nx_matrix.specs.declared.error.MatrixError.TheVariants as matrix
use Rattle.nx_matrix.specs.Rules.{AreRules, IsRuleRefused, has_rule, most_rules, is_free}
use Rattle.nx_matrix.specs.RuleLabels.{HasLabels}
use Rattle.nx_script.specs.declared.command.Command.TheVariants.{SetRule}
use Rattle.nx_script.specs.declared.reply.Reply.TheVariants as reply
use Rattle.nx_script.specs.declared.reply.ReplyError.TheVariants.{TooManyRules, Full}
use Rattle.nx_catalog.specs.Catalog.{Contents, Entries, IsCatalog, catalog_bytes}
use Rattle.nx_catalog.specs.Saving.{MakesRule, FindsNoPage, NotRuled}
use Rattle.nx_catalog.specs.declared.saving.RuleError.{RuleError}
use Rattle.nx_catalog.specs.declared.saving.RuleError.TheVariants as rules
use Rattle.nx_catalog.proofs.CatalogLemmas.{one_contents}
use Rattle.nx_catalog.proofs.LengthLemmas.{most_bytes}
use Rattle.nx_catalog.proofs.RuleLemmas.{one_rule_more, new_rule_more}
use Rattle.nx_catalog.proofs.SavingLemmas.{makes_labels}
use Rattle.nx_hold.specs.Contents.{tree_pages}
use Rattle.nx_state.specs.State.{State, all_nodes, all_pages}
use Rattle.nx_state.specs.Stands.{StoredDocument}
use Rattle.nx_state.proofs.ChangeLemmas.{catalog_comes}
use Rattle.nx_state.proofs.FreeLemmas.{documents_leave_free}
use Rattle.nx_steps.specs.Answers.{MayBeFull}
use Rattle.nx_steps.specs.Refusal.{rule_fault}
use Rattle.nx_steps.specs.Step.{nodes_after, pages_after, Step}
use Rattle.nx_steps.proofs.CountLemmas.{room_counted}
use Rattle.nx_store.specs.Store.{IsNow}
use Rattle.nx_store.specs.Staying.{IsLeftBy, RecordsStay, AllStay}
use Rattle.nx_store.specs.Changing.{PreparesNow, RuleNotPrepared}
use Rattle.nx_store.specs.declared.store.Store.{Store}
use Rattle.nx_store.proofs.KeepLemmas.{no_end}
use Rattle.nx_store.proofs.StayingLemmas.{catalog_alone}
use Rattle.nx_store.proofs.RoomLemmas.{nodes_stored, pages_stored, rule_room}
use Rattle.nx_store.proofs.StepsLemmas.{refused_step, done_step, full_step}

-- ---- whether a rule fits

bound_not_free : (entry : Entry) → (entry ≡ Free → ⊥) → is_free entry ≡ false
bound_not_free Standalone bound = refl
bound_not_free Cluster bound = refl
bound_not_free Free bound = absurd (bound refl)

free_or_not : (entry : Entry) → is_free entry ≡ false → entry ≡ Free → ⊥
free_or_not entry is free = false≢true (sym is ∙ ap is_free free)

faulty : (free has full : Bool) → free ≡ false → has ≡ false → full ≡ true → not free && not has && full ≡ true
faulty false false true f h u = refl
faulty true has full f h u = absurd (false≢true (sym f))
faulty false true full f h u = absurd (false≢true (sym h))
faulty false false false f h u = absurd (false≢true u)

faultless : (free has full : Bool) → (free ≡ false → has ≡ false → full ≡ true → ⊥) → not free && not has && full ≡ false
faultless true has full never = refl
faultless false true full never = refl
faultless false false true never = absurd (never refl refl refl)
faultless false false false never = refl

-- no more rules fit
pub rule_refused : (old : List Rule) (rule : Rule) → IsRuleRefused old rule.parent rule.child rule.entry matrix.TooManyRules → rule_fault old rule ≡ Some TooManyRules
rule_refused old rule refused =
    ap (λ (b : Bool). if b then Some TooManyRules else None)
    (faulty (is_free rule.entry) (has_rule old rule.parent rule.child) (length old == most_rules) (bound_not_free rule.entry (refused.0).0) (refused.0).1 (ap (λ n. n == most_rules) refused.1))

-- one more fits where it was made
pub rule_fits : (old new : List Rule) (rule : Rule) → AreRules old → MakesRule old rule new → rule_fault old rule ≡ None
rule_fits old new rule are makes =
    ap (λ (b : Bool). if b then Some TooManyRules else None)
    (faultless (is_free rule.entry) (has_rule old rule.parent rule.child) (length old == most_rules) (λ bound none full.
    let more = new_rule_more old new rule.parent rule.child rule.entry are makes.are makes.sets (free_or_not rule.entry bound) none in
    let most = (makes.are).few in
    let all : length old ≡ most_rules = is_number (length old) full in
    absurd (omega (arith, more, most, all))))
  where
    is_number : (n : ℕ) → (n == most_rules) ≡ true → n ≡ most_rules
    is_number n e = elim (eqb_tells n most_rules) [ inl s ↦ s.1 | inr a ↦ absurd (false≢true (sym a.0 ∙ e)) ]

-- ---- the state with the rule

module _ {D : Type 0} (d : Ghosts D) (s0 : Store) (x0 : D) {saved : Held} (state : State) (at : IsNow d s0 x0 saved state) where
  contents_at : (at.state_is).contents ≡ s0.catalog
  contents_at = one_contents (at.held).catalog.bytes (at.state_is).contents s0.catalog (at.state_is).catalog at.catalog

  -- the rules of the catalog are those of the state
  pub rules_at : (s0.catalog).rules ≡ state.rules
  rules_at = ap (λ (c : Contents). c.rules) (sym contents_at) ∙ (at.state_is).rules

  -- the catalog with a rule made is one
  with_rule : (new : List Rule) (rule : Rule) → HasLabels rule → MakesRule (s0.catalog).rules rule new → IsCatalog (catalog_bytes (record { documents = (s0.catalog).documents; rules = new })) (record { documents = (s0.catalog).documents; rules = new })
  with_rule new rule labels makes = record {
    few = (at.catalog).few;
    kept = (at.catalog).kept;
    rules = makes.are;
    labels = makes_labels (s0.catalog).rules new rule (at.catalog).labels labels makes;
    spelled = refl;
  }

  pub rule_prepared : (s2 : Store) (x2 : D) (rule : Rule) → (s2.catalog).documents ≡ (s0.catalog).documents → MakesRule (s0.catalog).rules rule (s2.catalog).rules → IsCatalog (catalog_bytes s2.catalog) s2.catalog
      → ComesTo d s0.records s2.records x0 x2 (λ was now. SetsCatalog (catalog_bytes s2.catalog) was now)
      → (made : PreparesNow d saved state (SetRule rule) reply.Done s2 x2) × RecordsStay (IsLeftBy (SetRule rule)) (at.state_is).stored at.held (made.now).held × AllStay (at.state_is).stored ((made.now).state_is).stored
  rule_prepared s2 x2 rule documents makes formed saves =
      let now = saves saved at.held at.stands in
      let made : MakesRule state.rules rule (s2.catalog).rules = subst (λ (rs : List Rule). MakesRule rs rule (s2.catalog).rules) rules_at makes in
      let old : AreRules state.rules = subst AreRules rules_at (at.catalog).rules in (
        record {
          next = record state { rules = (s2.catalog).rules };
          step = done_step state (SetRule rule) (record state { rules = (s2.catalog).rules }) (rule_fits state.rules (s2.catalog).rules rule old made)
              (refl, record { rules = (s2.catalog).rules; are_rules = made.are; sets = made.sets; next_is = refl });
          now = record {
            held = now.0;
            stands = now.1;
            state_is = record {
              settings = (now.2).settings ∙ (at.state_is).settings;
              stored = (at.state_is).stored;
              holds = catalog_comes (catalog_bytes s2.catalog) at.held now.0 (at.state_is).stored (at.state_is).holds now.2;
              contents = s2.catalog;
              catalog = subst (λ (bytes : List ℕ). IsCatalog bytes s2.catalog) (sym (now.2).catalog) formed;
              names = ap (λ (m : Entries). entries m) (documents ∙ ap (λ (c : Contents). c.documents) (sym contents_at)) ∙ (at.state_is).names;
              documents = (at.state_is).documents;
              rules = refl;
            };
            catalog = subst (λ (bytes : List ℕ). IsCatalog bytes s2.catalog) (sym (now.2).catalog) formed;
          };
        },
        catalog_alone (IsLeftBy (SetRule rule)) (catalog_bytes s2.catalog) at.held now.0 (at.state_is).stored now.2,
        λ s there. there,
      )

  pub rule_many : (rule : Rule) → IsRuleRefused (s0.catalog).rules rule.parent rule.child rule.entry matrix.TooManyRules → Step state (SetRule rule) (reply.Refused TooManyRules) state
  rule_many rule refused = refused_step state (SetRule rule) TooManyRules (rule_refused state.rules rule (subst (λ (rs : List Rule). IsRuleRefused rs rule.parent rule.child rule.entry matrix.TooManyRules) rules_at refused))

  pub rule_full : (s1 : Store) (x1 : D) (rule : Rule) → HasLabels rule → FindsNoPage d s0.catalog rule s0.records s1.records x0 x1 → Step state (SetRule rule) (reply.Refused Full) state
  rule_full s1 x1 rule labels finds =
      let made : MakesRule state.rules rule finds.rules = subst (λ (rs : List Rule). MakesRule rs rule finds.rules) rules_at finds.makes in
      let old : AreRules state.rules = subst AreRules rules_at (at.catalog).rules in
      let none = rule_fits state.rules finds.rules rule old made in
      let counted : nodes_after state (SetRule rule) ≡ all_nodes state = room_counted (λ t. 1 + nodes t.below) state (SetRule rule) none in
      let told : pages_after state (SetRule rule) ≡ all_pages state = room_counted tree_pages state (SetRule rule) none in
      full_step state (SetRule rule) none
      (record {
        needs = refl;
        full = room (nodes_after state (SetRule rule)) (pages_after state (SetRule rule)) counted told finds.rules labels finds.makes ((finds.full).few saved at.held at.stands);
        refused = (refl, refl);
      })
    where
      room : (behind pages_behind : ℕ) → behind ≡ all_nodes state → pages_behind ≡ all_pages state → (new : List Rule) → HasLabels rule → MakesRule (s0.catalog).rules rule new
          → (at.held).free < chain_count (length (catalog_bytes (record { documents = (s0.catalog).documents; rules = new }))) - chain_count (length (at.held).catalog.bytes) → MayBeFull state behind pages_behind
      room behind pages_behind same alike new labels makes few =
          let state_is = at.state_is in
          let free = documents_leave_free (current (s0.records).wal ((at.stands).keeps).image) at.held state_is.stored ((s0.records).head, (at.stands).holds) state_is.holds in
          let all = free.few_records in
          let chains = free.few_chains in
          let listed = free.few_contents in
          let whole : ((at.held).settings).limit ≤ (at.held).free + (1 + free.records + free.chains + free.contents + chain_count (length (at.held).catalog.bytes)) = free.free in
          let two = free.few_documents in
          let total = nodes_stored state state_is.stored state_is.documents in
          let long = pages_stored state state_is.stored state_is.documents in
          let limit : ((at.held).settings).limit ≡ (state.settings).limit = ap (λ (t : Settings). t.limit) state_is.settings in
          let bytes : List ℕ = catalog_bytes (record { documents = (s0.catalog).documents; rules = new }) in
          let short = most_bytes bytes (record { documents = (s0.catalog).documents; rules = new }) (with_rule new rule labels makes) in
          let number : length (entries (s0.catalog).documents) ≡ length state_is.stored =
          ap (λ (c : Contents). length (entries c.documents)) (sym contents_at) ∙ ap length state_is.names ∙ length-map state_is.stored (λ (s : StoredDocument). (s.name, s.entry)) in
          let more = one_rule_more (s0.catalog).rules new rule.parent rule.child rule.entry (at.catalog).rules makes.are makes.sets in
          let ruled : length (s0.catalog).rules ≡ length state.rules = ap length rules_at in
          rule_room (all_nodes state) behind (all_pages state) pages_behind free.records free.chains free.contents (length state_is.stored) (length bytes) (length (at.held).catalog.bytes) (length state.rules) (length new) (at.held).free
          (state.settings).limit (omega (arith, whole, limit)) (omega (arith, all, total)) chains (omega (arith, listed, long)) (omega (arith, two, total)) (omega (arith, short, number)) (omega (arith, more, ruled)) same alike few

-- why a rule wasn't made
pub rule_unprepared : {D : Type 0} (d : Ghosts D) (s0 s1 : Store) (x0 x1 : D) (rule : Rule) → has_ended s0.records ≡ false → HasLabels rule → s1.catalog ≡ s0.catalog → (e : RuleError)
    → NotRuled d s0.catalog rule e s0.records s1.records x0 x1 → RuleNotPrepared d (SetRule rule) e s0 s1 x0 x1
rule_unprepared d s0 s1 x0 x1 rule runs labels catalog rules.TooManyRules refused = (
  record { runs = refused.1; saved = refused.2; catalog = catalog },
  λ saved state at. rule_many d s0 x0 state at rule refused.0,
)
rule_unprepared d s0 s1 x0 x1 rule runs labels catalog (rules.Store below.Full) refused = (
  record { runs = (refused.full).runs; saved = (refused.full).keeps; catalog = catalog },
  λ saved state at. rule_full d s0 x0 state at s1 x1 rule labels refused,
)
rule_unprepared d s0 s1 x0 x1 rule runs labels catalog (rules.Store below.Disk) refused = (refused.0, ((refused.1).before, (refused.1).after))
rule_unprepared d s0 s1 x0 x1 rule runs labels catalog (rules.Store (below.Damaged page)) refused = (((refused.ends).before, (refused.ends).after), λ saved state at. refused.lacks saved at.held at.stands)
rule_unprepared d s0 s1 x0 x1 rule runs labels catalog (rules.Store below.Memory) refused = record { runs = refused.0; saved = refused.1; catalog = catalog }
rule_unprepared d s0 s1 x0 x1 rule runs labels catalog (rules.Store below.Ended) refused = absurd (no_end s0.records runs refused.0)
rule_unprepared d s0 s1 x0 x1 rule runs labels catalog (rules.Store below.Exists) refused = absurd refused
rule_unprepared d s0 s1 x0 x1 rule runs labels catalog (rules.Store below.NotAStore) refused = absurd refused
