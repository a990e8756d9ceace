use Rattle.std.proofs.Common.{◌≡◌, [], length, sym, refl, ap, ◌∙◌}
use Rattle.std.proofs.lemmas.Result.{err_from_is_err_and}
use Rattle.nx_hold.specs.Changes.{place_of}
use Rattle.nx_nav.specs.Refusals.{node_count}
use Rattle.nx_nav.specs.Laid.{Course, course_behind}
use Rattle.nx_nav.proofs.DocumentLemmas.{document_seen, asked_refused}
use Rattle.nx_nav.proofs.LaidLemmas.{pairs_stay, has_parts, has_weights}
use Rattle.nx_nav.proofs.laid.layout.Goals as goal

abbrev start : Course
start = record { path = []; position = 0; parts = []; weights = [] }

pub returns-clause-pairs : goal.returns-clause-pairs
returns-clause-pairs g c =
    let told = c.in_ok-tell_document.ensures.told in
    let end = (told.goes).1 ∙ ap (λ (at : Course). course_behind at told.told) c.new.ensures in
    ap (λ (at : Course). length at.weights) end ∙ pairs_stay start told.told refl ∙ sym (ap (λ (at : Course). length at.parts) end)

pub returns-clause-ok : goal.returns-clause-ok
returns-clause-ok g c =
    let told = c.in_ok-tell_document.ensures.told in
    let end = (told.goes).1 ∙ ap (λ (at : Course). course_behind at told.told) c.new.ensures in (
      c.in_ok-tell_document.ensures.stays.0,
      c.in_ok-tell_document.ensures.stays.1,
      λ document h.
          let told_all = told.all (document_seen (told.goes).0 h) document h in
          let all = end ∙ ap (course_behind start) told_all.1 in
          (told_all.0, ap (λ (at : Course). at.parts) all ∙ has_parts h, ap (λ (at : Course). at.weights) all ∙ has_weights h),
    )

pub returns-in_err-tell_document-clause-refused : goal.returns-in_err-tell_document-clause-refused
returns-in_err-tell_document-clause-refused g c =
    let p = err_from_is_err_and c.from_residual.result c.from_residual.ensures.1 in
    rw (p.1, p.2)
    (asked_refused g.D.Disk ⊥ (λ document. node_count document ≡ c.args.nodes → ⊥) c.args.records.now c.tell_document.new.records c.args.disk.now c.tell_document.new.disk (place_of c.args.root) c.in_err-tell_document.field-0.0 (c.in_err-tell_document.ensures.stops.goes).0 c.in_err-tell_document.ensures.refused)
