use Rattle.std.proofs.Common.{◌≡◌, ℕ, List, [], ◌∷◌, ◌++◌, refl, sym, ap, ◌∙◌, subst, append-nil, rules}
use Rattle.std.specs.FinMap.{entries}
use Rattle.std.specs.Map.Iter.{deref_pair}
use Rattle.std.proofs.lemmas.Result.{err_from_is_err_and}
use Rattle.std.proofs.lemmas.Map.Iter.{rest_more, rest_all}
use Rattle.nx_host.specs.Disk.{Image}
use Rattle.nx_host.proofs.DiskLemmas.{none_still, still_then}
use Rattle.nx_pyx.specs.DocumentName.{by_bytes}
use Rattle.nx_catalog.specs.Catalog.{Contents}
use Rattle.nx_rules.specs.Tour.{Visit, Tour}
use Rattle.nx_check.specs.declared.error.Stop.{Stop}
use Rattle.nx_check.specs.On.{StopsWalk}
use Rattle.nx_check.specs.Between.{IsBetweenDocuments}
use Rattle.nx_check.proofs.ComeLemmas.{err_passed}
use Rattle.nx_check.proofs.BetweenLemmas.{stops_on, begins_with, no_more}
use Rattle.nx_check.proofs.checking.walk_documents.Goals as goal

pub loop-document-init : goal.loop-document-init
loop-document-init g c =
    let same : c.into_iter-document-iterator.result ≡ c.iter-document-items.result = search rules in
    record {
      still = none_still;
      same = refl;
      between = λ was base tour at heavy contents.
          (tour, [], tour.visits, refl, at, at.kept.named ∙ ap (λ (x : Contents). entries x.documents) contents ∙ sym (ap by_bytes same ∙ c.iter-document-items.ensures));
    }

pub loop-document-preserved : goal.loop-document-preserved
loop-document-preserved g c =
    let more = rest_more deref_pair c.loop-document.document-iterator c.next.new.self c.next.result c.in-Some.document c.in-Some.is c.next.ensures.steps in
    record {
      still = still_then c.loop-document.invariant.still c.walk_document.ensures.still;
      same = c.in_ok-walk_document.ensures.same ∙ c.loop-document.invariant.same;
      between = λ was base tour at heavy contents.
          let so_far = c.loop-document.invariant.between was base tour at heavy contents in
          let first = begins_with so_far.2 c.in-Some.document.0.now.items c.in-Some.document.1.now (by_bytes c.next.new.self) (so_far.5 ∙ ap by_bytes more) in
          let between = subst (λ (l : List Visit). IsBetweenDocuments g.D.Disk c.loop-document.walk c.loop-document.disk was base so_far.0 so_far.1 l) first.are so_far.4 in
          let heavy_too : c.args.k ≡ so_far.0.head.settings.k = heavy ∙ ap (λ (t : Tour). t.head.settings.k) (sym so_far.3) in
          let next = c.in_ok-walk_document.ensures.ok was base so_far.0 so_far.1 first.visit first.others between first.is heavy_too in
          (next.0, so_far.1 ++ next.1 ∷ [], first.others, next.2 ∙ ap (λ (t : Tour). record t { visits = next.0.visits }) so_far.3, next.4, first.left);
    }

pub returns-in_err-walk_document-clause-refused : goal.returns-in_err-walk_document-clause-refused
returns-in_err-walk_document-clause-refused g c =
    let more = rest_more deref_pair c.loop-document.document-iterator c.next.new.self c.next.result c.in-Some.document c.in-Some.is c.next.ensures.steps in
    let Was : Image → Type 0 = λ was. (base : ℕ) × (tour : Tour) × IsBetweenDocuments g.D.Disk c.args.walk.now c.args.disk.now was base tour [] tour.visits × (c.args.k ≡ tour.head.settings.k) × (tour.contents ≡ c.args.catalog.now) in
    err_passed c.from_residual.result (λ (e : Stop). StopsWalk g.D.Disk c.args.disk.now c.walk_document.new.disk Was e) c.in_err-walk_document.field-0.0
    (err_from_is_err_and c.from_residual.result c.from_residual.ensures.1)
    (stops_on g.D.Disk c.args.disk.now c.loop-document.disk c.walk_document.new.disk
    (λ was. (base : ℕ) × (tour : Tour) × (before : List Visit) × (visit : Visit) × (after : List Visit)
    × IsBetweenDocuments g.D.Disk c.loop-document.walk c.loop-document.disk was base tour before (visit ∷ after) × (visit.entry ≡ c.in-Some.document.1.now) × (c.args.k ≡ tour.head.settings.k)) Was
    c.in_err-walk_document.field-0.0 c.loop-document.invariant.still.faults_later
    (λ was h.
    let so_far = c.loop-document.invariant.between was h.0 h.1 h.2 h.3 h.4 in
    let first = begins_with so_far.2 c.in-Some.document.0.now.items c.in-Some.document.1.now (by_bytes c.next.new.self) (so_far.5 ∙ ap by_bytes more) in
    let between = subst (λ (l : List Visit). IsBetweenDocuments g.D.Disk c.loop-document.walk c.loop-document.disk was h.0 so_far.0 so_far.1 l) first.are so_far.4 in
    (h.0, so_far.0, so_far.1, first.visit, first.others, between, first.is, h.3 ∙ ap (λ (t : Tour). t.head.settings.k) (sym so_far.3)))
    c.in_err-walk_document.ensures.refused)

pub returns-clause-ok : goal.returns-clause-ok
returns-clause-ok g c = λ was base tour at heavy contents.
    let none = rest_all deref_pair c.loop-document.document-iterator c.next.new.self c.next.result c.in-None.is c.next.ensures.steps in
    let so_far = c.loop-document.invariant.between was base tour at heavy contents in
    let last = no_more so_far.2 (by_bytes c.loop-document.document-iterator) so_far.5 (ap by_bytes none) in
    let between = subst (λ (l : List Visit). IsBetweenDocuments g.D.Disk c.loop-document.walk c.loop-document.disk was base so_far.0 so_far.1 l) last so_far.4 in
    let all : so_far.1 ≡ so_far.0.visits = sym (append-nil so_far.1) ∙ sym between.are in
    (so_far.0, so_far.3, subst (λ (l : List Visit). IsBetweenDocuments g.D.Disk c.loop-document.walk c.loop-document.disk was base so_far.0 l []) all between)
