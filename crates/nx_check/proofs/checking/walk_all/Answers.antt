use Rattle.std.proofs.Common.{◌≡◌, ◌≤◌, ◌+◌, ℕ, [], sym, ap, ◌∙◌, arith}
use Rattle.std.proofs.lemmas.Result.{err_from_is_err_and, IfErr-weaker, on_ok_weaker}
use Rattle.nx_host.specs.Disk.{Image}
use Rattle.nx_replay.specs.Log.{replay, HasMark}
use Rattle.nx_wal.specs.Wal.{IsInStep}
use Rattle.nx_holdings.specs.declared.header.Header.{Header}
use Rattle.nx_rules.specs.Tour.{Tour}
use Rattle.nx_check.specs.declared.error.Stop.{Stop}
use Rattle.nx_check.specs.On.{StopsWalk}
use Rattle.nx_check.specs.Between.{HasBegunWalk, IsBetweenDocuments}
use Rattle.nx_check.proofs.ComeLemmas.{err_passed}
use Rattle.nx_check.proofs.BetweenLemmas.{stops_on}
use Rattle.nx_check.proofs.checking.walk_all.Goals as goal

pub returns-in_err-begun-clause-refused : goal.returns-in_err-begun-clause-refused
returns-in_err-begun-clause-refused g c =
    err_passed c.from_residual.result (λ (e : Stop). StopsWalk g.D.Disk c.args.disk.now c.begin_check.new.disk (λ was. IsInStep g.D.Disk c.args.wal c.args.disk.now was × HasMark (replay was)) e) c.in_err-begun.field-0.0
    (err_from_is_err_and c.from_residual.result c.from_residual.ensures.1) c.in_err-begun.ensures.refused

pub returns-in_err-catalog-clause-refused : goal.returns-in_err-catalog-clause-refused
returns-in_err-catalog-clause-refused g c =
    let Was : Image → Type 0 = λ was. IsInStep g.D.Disk c.args.wal c.args.disk.now was × HasMark (replay was) in
    err_passed c.from_residual-in_err-catalog.result (λ (e : Stop). StopsWalk g.D.Disk c.args.disk.now c.walk_catalog.new.disk Was e) c.in_err-catalog.field-0.0
    (err_from_is_err_and c.from_residual-in_err-catalog.result c.from_residual-in_err-catalog.ensures.1)
    (stops_on g.D.Disk c.args.disk.now c.begin_check.new.disk c.walk_catalog.new.disk (λ was. (base : ℕ) × HasBegunWalk g.D.Disk c.in_ok-begun.begun.0 c.begin_check.new.disk was base c.in_ok-begun.begun.1) Was c.in_err-catalog.field-0.0
    c.begin_check.ensures.still.faults_later (λ was h. (g.D.Disk.reads c.args.disk.now + 2, c.in_ok-begun.ensures.ok was h.0)) c.in_err-catalog.ensures.refused)

pub returns-in_err-walk_documents-clause-refused : goal.returns-in_err-walk_documents-clause-refused
returns-in_err-walk_documents-clause-refused g c =
    let Was : Image → Type 0 = λ was. IsInStep g.D.Disk c.args.wal c.args.disk.now was × HasMark (replay was) in
    let first : g.D.Disk.faults c.args.disk.now ≤ g.D.Disk.faults c.begin_check.new.disk = c.begin_check.ensures.still.faults_later in
    let second : g.D.Disk.faults c.begin_check.new.disk ≤ g.D.Disk.faults c.walk_catalog.new.disk = c.walk_catalog.ensures.still.faults_later in
    err_passed c.from_residual-in_err-walk_documents.result (λ (e : Stop). StopsWalk g.D.Disk c.args.disk.now c.walk_documents.new.disk Was e) c.in_err-walk_documents.field-0.0
    (err_from_is_err_and c.from_residual-in_err-walk_documents.result c.from_residual-in_err-walk_documents.ensures.1)
    (stops_on g.D.Disk c.args.disk.now c.walk_catalog.new.disk c.walk_documents.new.disk
    (λ was. (base : ℕ) × (tour : Tour) × IsBetweenDocuments g.D.Disk c.walk_catalog.new.walk c.walk_catalog.new.disk was base tour [] tour.visits × (c.from.result ≡ tour.head.settings.k) × (tour.contents ≡ c.in_ok-catalog.catalog)) Was
    c.in_err-walk_documents.field-0.0 (omega (arith, first, second))
    (λ was h.
    let at = c.in_ok-catalog.ensures.ok was (g.D.Disk.reads c.args.disk.now + 2) (c.in_ok-begun.ensures.ok was h.0) in
    (g.D.Disk.reads c.args.disk.now + 2, at.0, at.3, c.from.ensures ∙ ap (λ (h : Header). h.settings.k) (sym at.1), at.2))
    c.in_err-walk_documents.ensures.refused)

pub returns-clause-ok : goal.returns-clause-ok
returns-clause-ok g c = on_ok_weaker c.walk_rest.result
    (λ done. λ was step.
    let at = c.in_ok-catalog.ensures.ok was (g.D.Disk.reads c.args.disk.now + 2) (c.in_ok-begun.ensures.ok was step) in
    let new = c.in_ok-walk_documents.ensures.ok was (g.D.Disk.reads c.args.disk.now + 2) at.0 at.3 (c.from.ensures ∙ ap (λ (h : Header). h.settings.k) (sym at.1)) at.2 in
    (new.0, done was (g.D.Disk.reads c.args.disk.now + 2) new.0 new.2 (ap (λ (h : Header). h.pages) (sym at.1) ∙ ap (λ (t : Tour). t.head.pages) (sym new.1))))
    c.walk_rest.ensures.ok

pub returns-clause-refused : goal.returns-clause-refused
returns-clause-refused g c =
    let Was : Image → Type 0 = λ was. IsInStep g.D.Disk c.args.wal c.args.disk.now was × HasMark (replay was) in
    let first : g.D.Disk.faults c.args.disk.now ≤ g.D.Disk.faults c.begin_check.new.disk = c.begin_check.ensures.still.faults_later in
    let second : g.D.Disk.faults c.begin_check.new.disk ≤ g.D.Disk.faults c.walk_catalog.new.disk = c.walk_catalog.ensures.still.faults_later in
    let third : g.D.Disk.faults c.walk_catalog.new.disk ≤ g.D.Disk.faults c.walk_documents.new.disk = c.walk_documents.ensures.still.faults_later in
    IfErr-weaker c.walk_rest.result _ _
    (λ e stopped. stops_on g.D.Disk c.args.disk.now c.walk_documents.new.disk c.walk_rest.new.disk
    (λ was. (base : ℕ) × (tour : Tour) × IsBetweenDocuments g.D.Disk c.walk_documents.new.walk c.walk_documents.new.disk was base tour tour.visits [] × (c.in_ok-begun.begun.1.pages ≡ tour.head.pages)) Was e (omega (arith, first, second, third))
    (λ was h.
    let at = c.in_ok-catalog.ensures.ok was (g.D.Disk.reads c.args.disk.now + 2) (c.in_ok-begun.ensures.ok was h.0) in
    let new = c.in_ok-walk_documents.ensures.ok was (g.D.Disk.reads c.args.disk.now + 2) at.0 at.3 (c.from.ensures ∙ ap (λ (h : Header). h.settings.k) (sym at.1)) at.2 in
    (g.D.Disk.reads c.args.disk.now + 2, new.0, new.2, ap (λ (h : Header). h.pages) (sym at.1) ∙ ap (λ (t : Tour). t.head.pages) (sym new.1)))
    stopped)
    c.walk_rest.ensures.refused
