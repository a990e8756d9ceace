use Rattle.std.proofs.Common.{List, subst}
use Rattle.nx_matrix.specs.declared.rule.Rule.{Rule}
use Rattle.nx_records.specs.Changes.{catalog_needs}
use Rattle.nx_records.specs.Refusals.{NotStored}
use Rattle.nx_catalog.specs.Catalog.{Entries, catalog_bytes}
use Rattle.nx_catalog.proofs.InsideLemmas.{shown_map}
use Rattle.nx_catalog.proofs.catalog.Catalog.save_rules.Goals as goal

pub returns-in-Err-clause-refused : goal.returns-in-Err-clause-refused
returns-in-Err-clause-refused g c =
    let shown = subst (λ (d : Entries). NotStored g.D.Disk (λ was. catalog_needs (catalog_bytes (record { documents = d; rules = c.replace-before.new.dest })) was) (λ was. ⊥) 0 c.in-Err.error c.args.records.now c.save.new.records c.args.disk.now c.save.new.disk)
    (shown_map (record { view = c.self.view_is; are = c.self.invariant.0 })) c.in-Err.ensures.refused in
    subst (λ (rs : List Rule). NotStored g.D.Disk (λ was. catalog_needs (catalog_bytes (record { documents = c.args.self.now.documents; rules = rs })) was) (λ was. ⊥) 0 c.in-Err.error c.args.records.now c.save.new.records c.args.disk.now c.save.new.disk)
    c.replace-before.ensures.after shown
