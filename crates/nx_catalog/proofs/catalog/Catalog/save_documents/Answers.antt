use Rattle.std.proofs.Common.{ℕ, List, sym, subst}
use Rattle.std.specs.Prelude.{All}
use Rattle.std.specs.Global.{Vec}
use Rattle.std.specs.BTreeMap.{BTreeMap}
use Rattle.nx_hold.specs.declared.entry.DocEntry.{DocEntry}
use Rattle.nx_matrix.specs.declared.rule.Rule.{Rule}
use Rattle.nx_records.specs.Changes.{catalog_needs}
use Rattle.nx_records.specs.Refusals.{NotStored}
use Rattle.nx_matrix.specs.RuleLabels.{HasLabels}
use Rattle.nx_catalog.specs.NameMap.{map_in}
use Rattle.nx_catalog.specs.Catalog.{catalog_bytes}
use Rattle.nx_catalog.proofs.InsideLemmas.{shown_rules}
use Rattle.nx_catalog.proofs.catalog.Catalog.save_documents.Goals as goal

pub returns-in-Ok-clause-form : goal.returns-in-Ok-clause-form
returns-in-Ok-clause-form g c runs labels = c.save.ensures.form runs (subst (λ (rs : List Rule). All HasLabels rs) (sym (shown_rules (record { view = c.self.view_is; are = c.self.invariant.0 }))) labels)

pub returns-in-Err-clause-refused : goal.returns-in-Err-clause-refused
returns-in-Err-clause-refused g c =
    let ruled = subst (λ (rs : List Rule). NotStored g.D.Disk (λ was. catalog_needs (catalog_bytes (record { documents = map_in c.replace-before.new.dest; rules = rs })) was) (λ was. ⊥) 0 c.in-Err.error c.args.records.now c.save.new.records c.args.disk.now c.save.new.disk)
    (shown_rules (record { view = c.self.view_is; are = c.self.invariant.0 })) c.in-Err.ensures.refused in
    subst (λ (m : BTreeMap (Vec ℕ) DocEntry). NotStored g.D.Disk (λ was. catalog_needs (catalog_bytes (record { documents = map_in m; rules = c.args.self.now.rules })) was) (λ was. ⊥) 0 c.in-Err.error c.args.records.now c.save.new.records c.args.disk.now c.save.new.disk)
    c.replace-before.ensures.after ruled
