use Rattle.std.proofs.Common.{◌∙◌, List, ℕ, inl, refl, sym, ap, ap₂, subst}
use Rattle.std.specs.Prelude.{All}
use Rattle.std.specs.FinMap.{contains_key, insert}
use Rattle.nx_matrix.specs.declared.rule.Rule.{Rule}
use Rattle.nx_matrix.specs.Rules.{AreRules}
use Rattle.nx_pyx.specs.DocumentName.{by_bytes}
use Rattle.nx_matrix.specs.RuleLabels.{HasLabels}
use Rattle.nx_records.specs.Within.{PatchesCatalog}
use Rattle.nx_catalog.specs.Catalog.{Contents, Entries}
use Rattle.nx_catalog.specs.NameMap.{map_in}
use Rattle.nx_catalog.specs.Saving.{SavesEntry}
use Rattle.nx_catalog.proofs.InsideLemmas.{shown_map, shown_rules, catalog_form}
use Rattle.nx_catalog.proofs.PlaceLemmas.{place_there, place_moved, entry_saved}
use Rattle.nx_catalog.proofs.catalog.Catalog.save_at.Goals as goal

pub save_set-requires-clause-room : goal.save_set-requires-clause-room
save_set-requires-clause-room g c = inl (place_there c.args.self.now.documents c.args.name.now c.args.at c.requires.place.0)

pub invariant_of-self : goal.invariant_of-self
invariant_of-self g c = (
  c.put_at.ensures.are,
  λ name at there.
      let h = c.self.invariant.1 name at there in
      (place_moved (by_bytes c.self.inside.documents.entries) (by_bytes c.put_at.new.documents.entries) name at c.put_at.ensures.names h.0, h.1),
)

pub returns-clause-documents : goal.returns-clause-documents
returns-clause-documents g c =
    let m = shown_map (record { view = c.self.view_is; are = c.self.invariant.0 }) in
    c.put_at.ensures.put (ap (λ (d : Entries). contains_key d c.args.name.now) m ∙ place_there c.args.self.now.documents c.args.name.now c.args.at c.requires.place.0)
    ∙ ap (λ (d : Entries). insert d c.args.name.now c.args.entry) m

pub returns-clause-ok : goal.returns-clause-ok
returns-clause-ok g c saved now stands =
    let m = shown_map (record { view = c.self.view_is; are = c.self.invariant.0 }) in
    let put = c.put_at.ensures.put (ap (λ (d : Entries). contains_key d c.args.name.now) m ∙ place_there c.args.self.now.documents c.args.name.now c.args.at c.requires.place.0)
    ∙ ap (λ (d : Entries). insert d c.args.name.now c.args.entry) m in
    let same = ap₂ (λ (d : Entries) (rs : List Rule). record { documents = d; rules = rs }) put (shown_rules (record { view = c.self.view_is; are = c.self.invariant.0 })) in
    let came = c.in_ok-change_catalog.ensures.ok saved now stands in (
      came.0,
      came.1,
      subst (λ (k : Contents). SavesEntry c.args.self.now k now came.0) (sym same)
          (entry_saved c.args.self.now.documents c.args.self.now.rules c.args.name.now c.args.at c.requires.place.0 c.args.entry now came.0
          (subst (λ (b : List ℕ). PatchesCatalog c.args.at b now came.0) (c.as_slice.ensures ∙ c.in-Ok.ensures) came.2)),
    )

pub returns-clause-form : goal.returns-clause-form
returns-clause-form g c labels =
    let rules = shown_rules (record { view = c.self.view_is; are = c.self.invariant.0 }) in
    catalog_form {contents = record { documents = map_in c.put_at.new.documents; rules = c.self.inside.matrix }} {documents = c.put_at.new.documents} {rules = c.self.inside.matrix}
    (record { view = refl; are = c.put_at.ensures.are }) (subst AreRules (sym rules) c.requires.place.1) (subst (λ (rs : List Rule). All HasLabels rs) (sym rules) labels)
