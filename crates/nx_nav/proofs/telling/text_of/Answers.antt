use Rattle.std.proofs.Common.{◌≡◌, ℕ, List, ◌++◌, ap, ◌∙◌, subst}
use Rattle.std.specs.Prelude.{IsSome}
use Rattle.std.proofs.lemmas.Result.{err_from_is_err_and}
use Rattle.nx_hold.specs.Changes.{place_of}
use Rattle.nx_nav.specs.Refusals.{HoldsNoneWith, IsRefused, node_count}
use Rattle.nx_nav.specs.Told.{told_text}
use Rattle.nx_nav.proofs.DocumentLemmas.{document_seen, asked_refused}
use Rattle.nx_nav.proofs.TextLemmas.{has_text}
use Rattle.nx_nav.proofs.telling.text_of.Goals as goal

pub returns-clause-ok : goal.returns-clause-ok
returns-clause-ok g c =
    let told = c.in_ok-tell_document.ensures.told in (
      c.in_ok-tell_document.ensures.stays.0,
      c.in_ok-tell_document.ensures.stays.1,
      λ document h.
          let all = told.all (document_seen (told.goes).0 h) document h in
          (all.0 ∙ c.text_walk-walk.ensures.left, (told.goes).1 ∙ ap (λ (x : List ℕ). x ++ told_text told.told) c.text_walk-walk.ensures.none ∙ ap told_text all.1 ∙ has_text h),
    )

pub returns-in_err-tell_document-clause-refused : goal.returns-in_err-tell_document-clause-refused
returns-in_err-tell_document-clause-refused g c =
    let p = err_from_is_err_and c.from_residual.result c.from_residual.ensures.1 in
    rw (p.1, p.2)
    (asked_refused g.D.Disk ⊥ (λ document. node_count document ≡ c.args.nodes → ⊥) c.args.records.now c.tell_document.new.records c.args.disk.now c.tell_document.new.disk (place_of c.args.root) c.in_err-tell_document.field-0.0 (c.in_err-tell_document.ensures.stops.goes).0
    (subst (λ (n : ℕ). IsRefused g.D.Disk ⊥ ⊥ (IsSome (g.D.Disk.contents c.tell_document.new.disk) → HoldsNoneWith g.D.Disk c.args.records.now c.args.disk.now (place_of c.args.root) n) c.in_err-tell_document.field-0.0 c.args.records.now c.tell_document.new.records c.args.disk.now c.tell_document.new.disk)
    c.text_walk-walk.ensures.left c.in_err-tell_document.ensures.refused))
