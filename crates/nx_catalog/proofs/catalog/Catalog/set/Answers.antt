use Rattle.std.proofs.Common.{ℕ, List, ap, subst, sym, ◌∙◌}
use Rattle.std.specs.Prelude.{IsTrue}
use Rattle.std.specs.FinMap.{insert}
use Rattle.nx_pyx.specs.DocumentName.{is_document_name}
use Rattle.nx_catalog.proofs.NameMap.{map_in-insert}
use Rattle.nx_catalog.proofs.InsideLemmas.{put_documents, shown_map, room_left}
use Rattle.nx_catalog.proofs.PlaceLemmas.{no_places}
use Rattle.nx_catalog.proofs.catalog.Catalog.set.Goals as goal

pub invariant_of-self-2 : goal.invariant_of-self-2
invariant_of-self-2 c =
    let fit = c.numbers_fit.ensures in (
      put_documents c.insert.new.self c.in_ok-key.key c.args.entry c.self.invariant.0
          (record { named = subst (λ (n : List ℕ). IsTrue (is_document_name n)) (sym c.in_ok-key.ensures.items) c.requires.named; page = fit.0; slot = fit.1; nodes = fit.2 })
          c.in_ok-insert.ensures.entries c.in_ok-insert.ensures.ordered
          (room_left (record { view = c.self.view_is; are = c.self.invariant.0 }) c.args.name.now c.in_ok-key.key.items _ c.in_ok-insert.field-0 c.requires.room c.in_ok-key.ensures.items c.in_ok-insert.ensures.old c.in_ok-insert.ensures.len),
      λ name at there. absurd (no_places c.new.result c.new.ensures.empty name at there),
    )

pub returns-clause-documents : goal.returns-clause-documents
returns-clause-documents c =
    map_in-insert c.in_ok-key.key.items c.self.inside.documents c.insert.new.self c.args.entry c.self.invariant.0.ordered c.in_ok-insert.ensures.ordered c.in_ok-insert.ensures.updates
    ∙ ap (λ d. insert d c.in_ok-key.key.items c.args.entry) (shown_map (record { view = c.self.view_is; are = c.self.invariant.0 }))
    ∙ ap (λ (n : List ℕ). insert c.args.self.now.documents n c.args.entry) c.in_ok-key.ensures.items
