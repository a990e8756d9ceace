-- What a saved change makes of the rules, and why none was made.
use Rattle.std.specs.Prelude.{◌≡◌, List}
use Rattle.nx_host.specs.declared.disk.Disk.{Ghosts}
use Rattle.nx_records.specs.Words.{Held}
use Rattle.nx_records.specs.Changes.{SetsCatalog, catalog_needs}
use Rattle.nx_records.specs.Records.{KeepsSaved}
use Rattle.nx_records.specs.Refusals.{NotChanged, IsFull, RunsOn}
use Rattle.nx_records.specs.declared.records.Records.{Records}
use Rattle.nx_records.specs.declared.error.StoreError.TheVariants as store
use Rattle.nx_matrix.specs.declared.rule.Rule.{Rule}
use Rattle.nx_matrix.specs.declared.error.MatrixError.TheVariants as matrix
use Rattle.nx_matrix.specs.Rules.{AreRules, SetsEntry, IsRuleRefused}
use Rattle.nx_catalog.specs.Catalog.{Contents, catalog_bytes}
use Rattle.nx_catalog.specs.declared.saving.RuleError.{RuleError}
use Rattle.nx_catalog.specs.declared.saving.RuleError.TheVariants.{TooManyRules, Store}

-- The catalog alone was replaced; where it was that of the old contents, by that of the new ones.
pub record SavesEntry (old new : Contents) (was now : Held) : Type 0 where
  pub sets : SetsCatalog now.catalog.bytes was now
  pub saves : was.catalog.bytes ≡ catalog_bytes old → now.catalog.bytes ≡ catalog_bytes new

-- These are rules of a matrix, which say of the rule's pair of labels what it says, and of each other pair what the old ones say.
pub record MakesRule (old : List Rule) (rule : Rule) (new : List Rule) : Type 0 where
  pub are : AreRules new
  pub sets : SetsEntry old new rule.parent rule.child rule.entry

-- No page is free now, and fewer were free than the catalog with the rule made needs.
pub record FindsNoPage {D : Type 0} (d : Ghosts D) (contents : Contents) (rule : Rule) (old new : Records) (before after : D) : Type 0 where
  pub rules : List Rule
  pub makes : MakesRule contents.rules rule rules
  pub full : IsFull d (λ was. catalog_needs (catalog_bytes (record { documents = contents.documents; rules = rules })) was) old new before after

-- Why a rule wasn't made: no more fit, or the catalog with it wasn't saved.
abbrev pub NotRuled : {D : Type 0} → Ghosts D → Contents → Rule → RuleError → Records → Records → D → D → Type 0
NotRuled d contents rule TooManyRules old new before after = IsRuleRefused contents.rules rule.parent rule.child rule.entry matrix.TooManyRules × RunsOn old new × KeepsSaved d old new before after
NotRuled d contents rule (Store store.Full) old new before after = FindsNoPage d contents rule old new before after
NotRuled d contents rule (Store error) old new before after = NotChanged d (λ was. ⊥) 0 error old new before after
